-- What each side's move gives: the best of all that it may make, whatever the order of a cut's two nodes. Assumes nothing.
use Prim.Native.Nat.{ℕ, suc, ◌+◌, ◌≤◌, ◌<◌}
use native.Mathlib.Omega.{arith}
use native.Mathlib.Nat.{le_trans, le_of_eq}
use mathlib.Core.Path.{◌≡◌, refl, ap}
use mathlib.Core.Logic.{◌⊎◌, inl, inr}
use mathlib.Core.Bool.{Bool, true, false, not, ◌||◌}
use lib.Dec.{T, eqb}
use Rattle.lists.specs.Lists.{count, up_to}
use Rattle.lists.proofs.Arith.{le-or-lt}
use Rattle.lists.proofs.Tests.{and_both}
use Rattle.lists.proofs.Counts.{count-not}
use Rattle.lists.proofs.Listed.{all-mem, passing-count}
use Rattle.lists.proofs.UpTo.{length-up_to, all-up_to}
use Rattle.rounds.specs.Game.{mended, pairs, both_work, cut, best_cut, crew, storm}
use Rattle.rounds.proofs.Moves.{le-most, most-reached, least-le, least-reached, up_to-listed, pair-listed, pairs_below}
use Rattle.rounds.proofs.Counts.{two-of-count, cut-passing, first-works, second-works}
use Rattle.rounds.proofs.Fewest.{crew-le-all}

-- the order of the two nodes in a cut doesn't matter
pub cut-order : (u v : ℕ) (failed : ℕ → Bool) → cut (u, v) failed ≡ cut (v, u) failed
cut-order u v failed = λ i w. swapped (eqb u w) (eqb v w) (failed w) i
  where
    swapped : (a b c : Bool) → (a || (b || c)) ≡ (b || (a || c))
    swapped true true c = refl
    swapped true false c = refl
    swapped false b c = refl

-- two working nodes, in the order of their numbers
pub record CutMade (n : ℕ) (failed : ℕ → Bool) (u v : ℕ) : Type 0 where
  pub apart : u < v
  pub below : v < n
  pub one : failed u ≡ false
  pub other : failed v ≡ false

module _ (n all : ℕ) (value : (ℕ → Bool) → ℕ) (repairs : ℕ) where
  storm-le-cut : (failed : ℕ → Bool) (u v : ℕ) → u < v → v < n → failed u ≡ false → failed v ≡ false
      → storm n all value repairs failed ≤ crew n all value repairs (cut (u, v) failed)
  unfolding best_cut
  storm-le-cut failed u v h g one other =
      least-le (both_work failed) (λ pair. crew n all value repairs (cut pair failed)) all (pair-listed u v n h g)
      (and_both (not (failed u)) (not (failed v)) (rw one tt) (rw other tt))

  -- no two working nodes leave fewer than the storm's cut
  pub storm-best : (failed : ℕ → Bool) (u v : ℕ) → (u ≡ v → ⊥) → u < n → v < n → failed u ≡ false → failed v ≡ false
      → storm n all value repairs failed ≤ crew n all value repairs (cut (u, v) failed)
  storm-best failed u v apart hu hv one other = go (le-or-lt v u)
    where
      go : (v ≤ u) ⊎ (u < v) → storm n all value repairs failed ≤ crew n all value repairs (cut (u, v) failed)
      go (inl le) =
          le_trans (storm-le-cut failed v u (omega arith) hu other one)
          (le_of_eq (ap (crew n all value repairs) (cut-order v u failed)))
      go (inr lt) = storm-le-cut failed u v lt hv one other

  -- and two working nodes leave as many, where two work
  pub storm-made : ((f : ℕ → Bool) → value f ≤ all) → (failed : ℕ → Bool) → count failed (up_to n) + 2 ≤ n
      → (u v : ℕ) × CutMade n failed u v × (crew n all value repairs (cut (u, v) failed) ≡ storm n all value repairs failed)
  unfolding best_cut
  storm-made most failed room =
      let some = count-not failed (up_to n) in
      let size = length-up_to n in
      let w = two-of-count n (λ v. not (failed v)) (omega arith) in
      let best = least-reached (both_work failed) (λ pair. crew n all value repairs (cut pair failed)) all (pairs n)
      (λ pair. crew-le-all n all value most repairs (cut pair failed)) (cut-passing n failed w) in
      let pair = best.move in
      let inside = all-mem (λ p. (p.0 < p.1) × (p.1 < n)) (pairs_below n) best.listed in (
        pair.0,
        pair.1,
        record {
          apart = inside.0;
          below = inside.1;
          one = first-works failed pair.0 pair.1 best.made;
          other = second-works failed pair.0 pair.1 best.made;
        },
        best.gives,
      )

  -- no failed node brought back leaves more than the crew's
  pub crew-best : (failed : ℕ → Bool) (v : ℕ) → v < n → T (failed v)
      → storm n all value repairs (mended v failed) ≤ crew n all value (suc repairs) failed
  unfolding crew
  crew-best failed v h t = le-most failed (λ w. storm n all value repairs (mended w failed)) (up_to-listed v n h) t

  -- and one leaves as many, where one is failed
  pub crew-made : (failed : ℕ → Bool) → 0 < count failed (up_to n)
      → (v : ℕ) × (v < n) × T (failed v) × (storm n all value repairs (mended v failed) ≡ crew n all value (suc repairs) failed)
  unfolding crew
  crew-made failed some =
      let best = most-reached failed (λ w. storm n all value repairs (mended w failed)) (up_to n) (passing-count failed (up_to n) some) in (
        best.move,
        all-mem (λ w. w < n) (all-up_to (λ w. w < n) n (λ w lt. lt)) best.listed,
        best.made,
        best.gives,
      )
