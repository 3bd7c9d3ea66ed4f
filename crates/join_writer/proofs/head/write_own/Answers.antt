-- `join_writer::head::write_own` meets its contract: the first numbers of the array are written. Assumes nothing.
use Prim.Native.Nat.{ℕ, ◌*◌, ◌-◌}
use native.Mathlib.Omega.{arith}
use mathlib.Core.Path.{◌≡◌, ◌∙◌, ap}
use mathlib.Core.List.{List}
use lib.ListN.{take, drop}
use Rattle.layers.specs.Layers.{head_numbers}
use Rattle.layers.proofs.HeadNumbers.{take-head_numbers}
use Rattle.join_writer.proofs.head.write_own.Goals as goal

pub write_numbers-requires : goal.write_numbers-requires
write_numbers-requires c =
    record {
      all = rw ((let lent-here : take (2 * c.args.r - 0) (drop 0 c.layer_numbers-head.result) ≡ head_numbers (take c.args.r c.args.heads) = let e : 2 * c.args.r - 0 ≡ 2 * c.args.r = omega arith in
          ap (λ (head : List ℕ). take (2 * c.args.r - 0) (drop 0 head)) c.layer_numbers-head.ensures ∙ rw (e, take-head_numbers c.args.r c.args.heads) in lent-here)) c.requires.all;
      numbers_in_bounds = rw ((let lent-here : take (2 * c.args.r - 0) (drop 0 c.layer_numbers-head.result) ≡ head_numbers (take c.args.r c.args.heads) = let e : 2 * c.args.r - 0 ≡ 2 * c.args.r = omega arith in
          ap (λ (head : List ℕ). take (2 * c.args.r - 0) (drop 0 head)) c.layer_numbers-head.ensures ∙ rw (e, take-head_numbers c.args.r c.args.heads) in lent-here)) c.requires.heads_in_bounds;
    }

pub returns : goal.returns
returns c =
    rw ((let lent-here : take (2 * c.args.r - 0) (drop 0 c.layer_numbers-head.result) ≡ head_numbers (take c.args.r c.args.heads) = let e : 2 * c.args.r - 0 ≡ 2 * c.args.r = omega arith in
    ap (λ (head : List ℕ). take (2 * c.args.r - 0) (drop 0 head)) c.layer_numbers-head.ensures ∙ rw (e, take-head_numbers c.args.r c.args.heads) in lent-here)) at c.write_numbers.ensures
