-- The number is the fewest over all sets of as many nodes as are down after the last cut: the storm settles on a set and cuts
-- again what the crew brings back, and every play ends in such a set. Assumes nothing.
use Prim.Native.Nat.{ℕ, zero, suc, ◌+◌, ◌≤◌, ◌<◌}
use native.Mathlib.Omega.{arith}
use native.Mathlib.Nat.{le_trans, le_of_eq}
use mathlib.Core.Path.{◌≡◌, refl, ◌∙◌}
use mathlib.Core.Bool.{Bool, not}
use lib.Dec.{T}
use Rattle.lists.specs.Lists.{count, up_to}
use Rattle.lists.proofs.Tests.{and_left, and_right, and_both}
use Rattle.lists.proofs.Alls.{all_of}
use Rattle.lists.proofs.Counts.{count-not}
use Rattle.lists.proofs.Listed.{all-mem, passing-count}
use Rattle.lists.proofs.UpTo.{length-up_to, all-up_to}
use Rattle.packing.specs.Failures.{Failure}
use Rattle.rounds.specs.Game.{down, mended, pairs, both_work, cut, best_cut, crew, storm}
use Rattle.rounds.proofs.Moves.{most-le, most-reached, least-le-all, least-le, least-reached, pair-listed, pairs_below}
use Rattle.rounds.proofs.Counts.{count-mended, count_cut, two-of-count, cut-passing, Within, besides, count-besides, same-below, within-down, within-mended}

-- a value of final states: at most `all`, and the same for tests that agree on the nodes below n
module _ (n all : ℕ) (value : (ℕ → Bool) → ℕ) where
  pub storm-le-all : (repairs : ℕ) (failed : ℕ → Bool) → storm n all value repairs failed ≤ all
  unfolding best_cut
  storm-le-all repairs failed =
      least-le-all (both_work failed) (λ pair. crew n all value repairs (cut pair failed)) all (pairs n)

  pub crew-le-all : ((f : ℕ → Bool) → value f ≤ all) → (repairs : ℕ) (failed : ℕ → Bool) → crew n all value repairs failed ≤ all
  unfolding crew
  crew-le-all most zero failed = most failed
  crew-le-all most (suc repairs) failed =
      most-le failed (λ v. storm n all value repairs (mended v failed)) all (up_to n)
      (all_of (λ v. T (failed v) → storm n all value repairs (mended v failed) ≤ all)
      (λ v _. storm-le-all repairs (mended v failed)) (up_to n))

  -- The storm settles on the target: what is down is always within it, and after the last cut it is the target.
  module _ (alike : (f g : ℕ → Bool) → ((w : ℕ) → w < n → f w ≡ g w) → value f ≡ value g) (target : ℕ → Bool) where
    storm-settles : (repairs : ℕ)
        → ((state : ℕ → Bool) → Within n state target → count state (up_to n) + repairs ≡ count target (up_to n)
        → crew n all value repairs state ≤ value target)
        → (failed : ℕ → Bool) → Within n failed target → count failed (up_to n) + suc (suc repairs) ≡ count target (up_to n)
        → storm n all value repairs failed ≤ value target
    unfolding best_cut
    storm-settles repairs crew-settles failed inside number =
        let all-besides = count-besides n failed target inside in
        let w = two-of-count n (besides failed target) (omega arith) in
        let one = w.one in
        let other = w.other in
        let works = and_both (not (failed w.u)) (not (failed w.v))
        (and_right (target w.u) (not (failed w.u)) one) (and_right (target w.v) (not (failed w.v)) other) in
        let best = least-le (both_work failed) (λ pair. crew n all value repairs (cut pair failed)) all
        (pair-listed w.u w.v n w.apart w.below) works in
        let two = count_cut n w.u w.v failed w.apart w.below works in
        le_trans best
        (crew-settles (cut (w.u, w.v) failed)
        (within-down n w.u (down w.v failed) target
        (within-down n w.v failed target inside (and_left (target w.v) (not (failed w.v)) other))
        (and_left (target w.u) (not (failed w.u)) one))
        (omega arith))

    crew-settles : (repairs : ℕ) (state : ℕ → Bool) → Within n state target
        → count state (up_to n) + repairs ≡ count target (up_to n) → crew n all value repairs state ≤ value target
    unfolding crew
    crew-settles zero state inside number =
        le_of_eq (alike state target (same-below n state target inside (omega arith)))
    crew-settles (suc repairs) state inside number =
        most-le state (λ v. storm n all value repairs (mended v state)) (value target) (up_to n)
        (all-up_to (λ v. T (state v) → storm n all value repairs (mended v state) ≤ value target) n
        (λ v lt failed.
        let less = count-mended n v state lt failed in
        storm-settles repairs (crew-settles repairs) (mended v state) (within-mended n v state target inside) (omega arith)))

    pub storm-le : (repairs : ℕ) (failed : ℕ → Bool) → Within n failed target
        → count failed (up_to n) + suc (suc repairs) ≡ count target (up_to n) → storm n all value repairs failed ≤ value target
    storm-le repairs = storm-settles repairs (crew-settles repairs)

  -- a set of k nodes with the value x
  pub record Final (k x : ℕ) : Type 0 where
    pub set : ℕ → Bool
    pub number : Failure n k set
    pub gives : value set ≡ x

  final-as : {k k' x x' : ℕ} → k ≡ k' → x ≡ x' → Final k x → Final k' x'
  final-as e f final = record { set = final.set; number = final.number ∙ e; gives = final.gives ∙ f }

  -- Every play ends in a set of that size, the best one too.
  module _ (most : (f : ℕ → Bool) → value f ≤ all) where
    storm-ends : (repairs : ℕ)
        → ((state : ℕ → Bool) → 0 < count state (up_to n) → count state (up_to n) + repairs ≤ n
        → Final (count state (up_to n) + repairs) (crew n all value repairs state))
        → (failed : ℕ → Bool) → count failed (up_to n) + suc (suc repairs) ≤ n
        → Final (count failed (up_to n) + suc (suc repairs)) (storm n all value repairs failed)
    unfolding best_cut
    storm-ends repairs crew-ends failed room =
        let some = count-not failed (up_to n) in
        let size = length-up_to n in
        let w = two-of-count n (λ v. not (failed v)) (omega arith) in
        let best = least-reached (both_work failed) (λ pair. crew n all value repairs (cut pair failed)) all (pairs n)
        (λ pair. crew-le-all most repairs (cut pair failed)) (cut-passing n failed w) in
        let pair = best.move in
        let inside = all-mem (λ p. (p.0 < p.1) × (p.1 < n)) (pairs_below n) best.listed in
        let two = count_cut n pair.0 pair.1 failed inside.0 inside.1 best.made in
        final-as (omega arith) best.gives (crew-ends (cut pair failed) (omega arith) (omega arith))

    crew-ends : (repairs : ℕ) (state : ℕ → Bool) → 0 < count state (up_to n) → count state (up_to n) + repairs ≤ n
        → Final (count state (up_to n) + repairs) (crew n all value repairs state)
    unfolding crew
    crew-ends zero state some room = record { set = state; number = omega arith; gives = refl }
    crew-ends (suc repairs) state some room =
        let best = most-reached state (λ v. storm n all value repairs (mended v state)) (up_to n) (passing-count state (up_to n) some) in
        let v = best.move in
        let less = count-mended n v state (all-mem (λ w. w < n) (all-up_to (λ w. w < n) n (λ w lt. lt)) best.listed) best.made in
        final-as (omega arith) best.gives (storm-ends repairs (crew-ends repairs) (mended v state) (omega arith))

    pub storm-final : (repairs : ℕ) (failed : ℕ → Bool) → count failed (up_to n) + suc (suc repairs) ≤ n
        → Final (count failed (up_to n) + suc (suc repairs)) (storm n all value repairs failed)
    storm-final repairs = storm-ends repairs (crew-ends repairs)
