-- Where there are no more tails than the bound, growing sets changes nothing, so it may stop there. Assumes nothing.
use Prim.Native.Nat.{ℕ, zero, suc, ◌+◌, ◌≤◌}
use mathlib.Core.Path.{◌≡◌}
use mathlib.Core.List.{List, [], ◌∷◌}
use native.Mathlib.Omega.{arith}
use lib.ListN.{length}
use borrow.Author.Tests.{le-ltb}
use Rattle.lists.proofs.Tests.{cond-elim}
use Rattle.crowding.specs.Tails.{Tail, past, leaves, tails_after, lowest_crowded}
use Rattle.crowding.proofs.OverNodes.{over-same}

pub length-after-le : (w v : ℕ) (tails found : List Tail) → length (tails_after w v tails found) ≤ length tails + length found
unfolding tails_after
length-after-le w v [] found = omega arith
length-after-le w v (t ∷ tails) found =
    cond-elim (λ l. length (tails_after w v tails l) ≤ suc (length tails) + length found) (leaves w v t.nodes)
    (λ e. omega (arith, length-after-le w v tails (record { row = t.row; nodes = past v t.nodes } ∷ found)))
    (λ e. omega (arith, length-after-le w v tails found))

pub lowest-few : (w bound : ℕ) (tails : List Tail) (least : ℕ) → length tails ≤ bound → lowest_crowded w bound tails least ≡ least
unfolding lowest_crowded
lowest-few zero bound tails least few = rw (le-ltb bound (length tails) few)
lowest-few (suc w) bound tails least few =
    over-same (λ v least. lowest_crowded w bound (tails_after w v tails []) least) 256 least
    (λ v lt. lowest-few w bound (tails_after w v tails []) least (omega (arith, length-after-le w v tails [])))
