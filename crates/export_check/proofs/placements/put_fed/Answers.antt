-- `export_check::placements::put_fed` meets its contract: three parts, and the feeders after them. Assumes nothing.
use Prim.Native.Nat.{ℕ, ◌+◌, ◌-◌}
use native.Mathlib.Omega.{arith}
use mathlib.Core.Path.{◌≡◌, sym, ap, ◌∙◌}
use mathlib.Core.List.{List, [], ◌∷◌, ◌++◌}
use lib.ListN.{length, length-append, length-take}
use Rattle.lists.specs.Lists.{over_start}
use Rattle.exports.proofs.Parts.{both-put}
use Rattle.export_check.proofs.Values.{lent, lent_is}
use Rattle.export_check.proofs.placements.put_fed.Goals as goal

pub returns : goal.returns
returns c =
    let front = c.args.numbers.now ++ (c.args.nodes.now ++ (c.args.number ∷ [])) in
    let size : length c.args.numbers.now + length c.args.nodes.now + 1 ≡ length front =
    sym (length-append c.args.numbers.now (c.args.nodes.now ++ (c.args.number ∷ [])) ∙ ap (λ (n : ℕ). length c.args.numbers.now + n) (length-append c.args.nodes.now (c.args.number ∷ [])) ∙ omega arith) in
    both-put front (lent c.args.n c.args.each) c.args.answer.now _ _ size (omega (arith, c.requires.1, length-take (c.args.n - 0) c.args.each))
    c.put_three.ensures _ c.put_bytes.ensures
    ∙ ap (λ (t : List ℕ). over_start (front ++ t) c.args.answer.now) (lent_is c.args.n c.args.each)
