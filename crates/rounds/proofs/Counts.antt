-- How many nodes are failed after a cut or a repair, and sets of failed nodes one within the other. Assumes nothing.
use Prim.Native.Nat.{ℕ, zero, suc, ◌+◌, ◌≤◌, ◌<◌}
use native.Mathlib.Omega.{arith}
use mathlib.Core.Path.{◌≡◌, refl, sym, ◌∙◌, subst}
use mathlib.Core.Bool.{Bool, true, false, not, ◌&&◌, ◌||◌}
use lib.Dec.{T, eqb, eqb_refl, T_not}
use borrow.Author.Tests.{eqb-true, ne_eqb}
use Rattle.lists.specs.Lists.{tally, count, up_to}
use Rattle.lists.proofs.Tests.{T_true, T-not-false, and_left, and_right, and_both, or_left, bool-ext}
use Rattle.lists.proofs.CountUpTo.{count-up_to-suc, count-up_to-congr}
use Rattle.lists.proofs.DoubleCount.{count-split, count-eqb-up_to, count_none}
use Rattle.lists.proofs.Listed.{all-mem, count-mem, Passing, passing-count}
use Rattle.lists.proofs.UpTo.{all-up_to}
use Rattle.rounds.specs.Game.{none_failed, down, mended, both_work, cut, pairs}
use Rattle.rounds.proofs.Moves.{up_to-listed, pair-listed}

pub count-none_failed : (n : ℕ) → count none_failed (up_to n) ≡ 0
count-none_failed n = count_none none_failed (up_to n) (λ v t. t)

-- one node more is down
pub count_down : (n v : ℕ) (failed : ℕ → Bool) → v < n → failed v ≡ false
    → count (down v failed) (up_to n) ≡ suc (count failed (up_to n))
count_down n v failed h works =
    count-split (down v failed) v (or_left (eqb v v) (failed v) (eqb_refl v)) (up_to n)
    ∙ rw (
      count-eqb-up_to v n h,
      count-up_to-congr (λ w. (eqb v w || failed w) && not (eqb v w)) failed n (λ w lt. others w (eqb v w) refl),
    )
    (omega arith)
  where
    and-true : (b : Bool) → (b && true) ≡ b
    and-true true = refl
    and-true false = refl

    others : (w : ℕ) (t : Bool) → eqb v w ≡ t → ((t || failed w) && not t) ≡ failed w
    others w true e = sym (subst (λ u. failed u ≡ false) (eqb-true v w e) works)
    others w false e = and-true (failed w)

-- one node less
pub count-mended : (n v : ℕ) (failed : ℕ → Bool) → v < n → T (failed v)
    → count failed (up_to n) ≡ suc (count (mended v failed) (up_to n))
count-mended n v failed h f = count-split failed v f (up_to n) ∙ rw (count-eqb-up_to v n h) (omega arith)

-- a node stays as it is where another goes down
pub down-other : (u v : ℕ) (failed : ℕ → Bool) → u < v → down v failed u ≡ failed u
down-other u v failed h = rw (ne_eqb v u (λ e. omega arith))

-- the two parts of `both_work`
pub first-works : (failed : ℕ → Bool) (u v : ℕ) → T (both_work failed (u, v)) → failed u ≡ false
first-works failed u v t = T-not-false (failed u) (T_not (failed u) (and_left (not (failed u)) (not (failed v)) t))

pub second-works : (failed : ℕ → Bool) (u v : ℕ) → T (both_work failed (u, v)) → failed v ≡ false
second-works failed u v t = T-not-false (failed v) (T_not (failed v) (and_right (not (failed u)) (not (failed v)) t))

-- "takes two working nodes down"
pub count_cut : (n u v : ℕ) (failed : ℕ → Bool) → u < v → v < n → T (both_work failed (u, v))
    → count (cut (u, v) failed) (up_to n) ≡ suc (suc (count failed (up_to n)))
count_cut n u v failed h g t =
    count_down n u (down v failed) (omega arith) (down-other u v failed h ∙ first-works failed u v t)
    ∙ rw (count_down n v failed g (second-works failed u v t))

-- two different nodes below n that pass a test, where it passes twice
pub record Two (n : ℕ) (f : ℕ → Bool) : Type 0 where
  pub u : ℕ
  pub v : ℕ
  pub apart : u < v
  pub below : v < n
  pub one : T (f u)
  pub other : T (f v)

pub two-of-count : (n : ℕ) (f : ℕ → Bool) → 2 ≤ count f (up_to n) → Two n f
unfolding up_to count
two-of-count zero f h = absurd (omega arith)
two-of-count (suc n) f h =
    go (f n) refl (subst (λ c. 2 ≤ c) (count-up_to-suc f n) h) (two-of-count n f)
  where
    last : T (f n) → Passing f (up_to n) → Two (suc n) f
    last t p =
        record {
          u = p.element;
          v = n;
          apart = all-mem (λ w. w < n) (all-up_to (λ w. w < n) n (λ w lt. lt)) p.listed;
          below = omega arith;
          one = p.passes;
          other = t;
        }

    earlier : Two n f → Two (suc n) f
    earlier w =
        record { u = w.u; v = w.v; apart = w.apart; below = omega (arith, w.below); one = w.one; other = w.other }

    go : (b : Bool) → f n ≡ b → 2 ≤ count f (up_to n) + tally b 0 → (2 ≤ count f (up_to n) → Two n f) → Two (suc n) f
    go true e p ih = last (T_true e) (passing-count f (up_to n) (omega arith))
    go false e p ih = earlier (ih (omega arith))

-- where two nodes work, there is a cut
pub cut-passing : (n : ℕ) (failed : ℕ → Bool) → Two n (λ w. not (failed w)) → Passing (both_work failed) (pairs n)
cut-passing n failed w =
    record {
      element = (w.u, w.v);
      listed = pair-listed w.u w.v n w.apart w.below;
      passes = and_both (not (failed w.u)) (not (failed w.v)) w.one w.other;
    }

-- every failed node is one of the target's
abbrev pub Within : (n : ℕ) (failed target : ℕ → Bool) → Type 0
Within n failed target = (w : ℕ) → w < n → T (failed w) → T (target w)

-- what the target has besides
abbrev pub besides : (failed target : ℕ → Bool) → ℕ → Bool
besides failed target = λ w. target w && not (failed w)

pub count-besides : (n : ℕ) (failed target : ℕ → Bool) → Within n failed target
    → count failed (up_to n) + count (besides failed target) (up_to n) ≡ count target (up_to n)
unfolding up_to count
count-besides zero failed target h = refl
count-besides (suc n) failed target h =
    rw (count-up_to-suc failed n, count-up_to-suc (besides failed target) n, count-up_to-suc target n)
    (go (failed n) (target n) (h n (omega arith)) (count-besides n failed target (λ w lt. h w (omega arith))))
  where
    go : (f t : Bool) → (T f → T t)
        → count failed (up_to n) + count (besides failed target) (up_to n) ≡ count target (up_to n)
        → count failed (up_to n) + tally f 0 + (count (besides failed target) (up_to n) + tally (t && not f) 0)
        ≡ count target (up_to n) + tally t 0
    go true true i e = omega arith
    go true false i e = absurd (i tt)
    go false true i e = omega arith
    go false false i e = omega arith

-- with as many failed nodes as the target has, it is the target
pub same-below : (n : ℕ) (failed target : ℕ → Bool) → Within n failed target
    → count failed (up_to n) ≡ count target (up_to n) → (w : ℕ) → w < n → failed w ≡ target w
same-below n failed target h e w lt = bool-ext (failed w) (target w) (h w lt) (go (failed w) refl)
  where
    go : (f : Bool) → failed w ≡ f → T (target w) → T f
    go true is t = tt
    go false is t =
        let more = count-mem (besides failed target) (up_to-listed w n lt)
        (and_both (target w) (not (failed w)) t (rw is tt)) in
        let all = count-besides n failed target h in
        absurd (omega arith)

-- the parts of a node taken down or brought back
pub within-down : (n v : ℕ) (failed target : ℕ → Bool) → Within n failed target → T (target v) → Within n (down v failed) target
within-down n v failed target h t w lt d = go (eqb v w) refl d
  where
    go : (b : Bool) → eqb v w ≡ b → T (b || failed w) → T (target w)
    go true e p = subst (λ u. T (target u)) (eqb-true v w e) t
    go false e p = h w lt p

pub within-mended : (n v : ℕ) (failed target : ℕ → Bool) → Within n failed target → Within n (mended v failed) target
within-mended n v failed target h w lt m = h w lt (and_left (failed w) (not (eqb v w)) m)
