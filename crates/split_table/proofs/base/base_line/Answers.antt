use Prim.Native.Nat.{ℕ, ◌-◌, ◌≤◌, ◌<◌}
use native.Mathlib.Nat.{le_refl}
use native.Mathlib.Omega.{arith}
use mathlib.Core.Path.{◌≡◌, sym, ap, ◌∙◌}
use mathlib.Core.List.{List, ◌++◌, map}
use lib.ListN.{length, get_or, drop}
use lib.Seq.{sets, take-length}
use Rattle.split.specs.Working.{loss_below}
use Rattle.lists.specs.Lists.{up_to}
use Rattle.lists.proofs.UpTo.{take-map-up_to, length-map-up_to}
use Rattle.lists.proofs.Stores.{sets-start}
use Rattle.split_table.proofs.base.base_line.Goals as goal

-- a line before the entries that are kept is a run of stores
written : (w : ℕ) (items work : List ℕ) → length items ≡ w → w ≤ length work → ((k : ℕ) → k < w → get_or items k 0 ≡ loss_below k)
    → items ++ drop w work ≡ sets work 0 (map loss_below (up_to w))
written w items work long fits each =
    let line = take-map-up_to loss_below items 0 (length items) (le_refl _) (λ k h. each k (omega arith)) in
    let same = rw long at (sym (take-length items) ∙ line) in
    let n = length-map-up_to loss_below w in
    let start = sets-start work (map loss_below (up_to w)) (rw n fits) in
    ap (λ (z : List ℕ). z ++ drop w work) same ∙ sym (rw n at start)

pub returns : goal.returns
returns c =
    let e : c.args.w - 0 ≡ c.args.w = omega arith in
    rw e (written c.args.w c.loop-b.entry-items c.args.work.now (omega arith) c.requires (λ k h. c.loop-b.invariant k (omega arith)))
