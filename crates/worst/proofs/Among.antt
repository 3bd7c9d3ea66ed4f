-- Counts over the entries from a place on. Assumes nothing.
use Prim.Native.Nat.{ℕ, zero, suc, ◌+◌, ◌-◌, ◌≤◌, ◌<◌}
use native.Mathlib.Omega.{arith}
use native.Mathlib.Nat.{le_refl, le_trans, add-zero, add-sub_of_le, eq-or-lt_of_le}
use native.Mathlib.Numerals.{add-one}
use mathlib.Core.Path.{◌≡◌, refl, ap, ap₂}
use mathlib.Core.Logic.{⊎_elim}
use mathlib.Core.Bool.{Bool, true, false}
use mathlib.Core.List.{List}
use lib.ListN.{get_or}
use lib.Dec.{ltb, eqb}
use borrow.Author.Tests.{ltb-true, ltb-false, lt-ltb, le-ltb, eqb-true, eqb-false}
use Rattle.lists.specs.Lists.{tally}
use Rattle.lists.proofs.Counts.{le-tally, tally-le-suc}
use Rattle.worst.specs.Records.{among}

module _ (f : ℕ → Bool) (l : List ℕ) (from : ℕ) where
  pub among_next : (m : ℕ) → among f l from (m + 1) ≡ tally (f (get_or l (from + m) 0)) (among f l from m)
  unfolding among
  among_next m = rw (add-one m)

  pub among-le : (m : ℕ) → among f l from m ≤ m
  unfolding among
  among-le zero = omega arith
  among-le (suc m) = omega (arith, among-le m, tally-le-suc (f (get_or l (from + m) 0)) (among f l from m))

  among-more : (m d : ℕ) → among f l from m ≤ among f l from (m + d)
  unfolding among
  among-more m zero = rw (add-zero m) (le_refl (among f l from m))
  among-more m (suc d) =
      let e : m + suc d ≡ suc (m + d) = omega arith in
      rw e (le_trans (among-more m d) (le-tally (f (get_or l (from + (m + d)) 0)) (among f l from (m + d))))

  pub among-mono : (m n : ℕ) → m ≤ n → among f l from m ≤ among f l from n
  among-mono m n h = rw (add-sub_of_le h) at (among-more m (n - m))

  -- an entry that passes is counted
  pub among-some : (q m : ℕ) → q < m → f (get_or l (from + q) 0) ≡ true → 1 ≤ among f l from m
  unfolding among
  among-some q m h e =
      let here : among f l from (suc q) ≡ suc (among f l from q) = rw e refl in
      omega (arith, among-mono (suc q) m h)

-- the same entries, the same count
pub among-congr : (f : ℕ → Bool) (l k : List ℕ) (from m : ℕ) → ((q : ℕ) → q < m → get_or l (from + q) 0 ≡ get_or k (from + q) 0)
    → among f l from m ≡ among f k from m
unfolding among
among-congr f l k from zero h = refl
among-congr f l k from (suc m) h =
    ap₂ tally (ap f (h m (omega arith))) (among-congr f l k from m (λ q lt. h q (omega arith)))

-- those below v+1 are those below v, and those that are v
pub among-split : (v : ℕ) (l : List ℕ) (from m : ℕ)
    → among (λ w. ltb w (v + 1)) l from m ≡ among (λ w. ltb w v) l from m + among (eqb v) l from m
unfolding among
among-split v l from zero = refl
among-split v l from (suc m) = go (get_or l (from + m) 0) (among-split v l from m)
  where
    go : (w : ℕ) → among (λ w. ltb w (v + 1)) l from m ≡ among (λ w. ltb w v) l from m + among (eqb v) l from m
        → tally (ltb w (v + 1)) (among (λ w. ltb w (v + 1)) l from m)
        ≡ tally (ltb w v) (among (λ w. ltb w v) l from m) + tally (eqb v w) (among (eqb v) l from m)
    go w ih = by (ltb w v) refl (eqb v w) refl
      where
        by : (a : Bool) → ltb w v ≡ a → (b : Bool) → eqb v w ≡ b
            → tally (ltb w (v + 1)) (among (λ w. ltb w (v + 1)) l from m)
            ≡ tally a (among (λ w. ltb w v) l from m) + tally b (among (eqb v) l from m)
        by true e true q = absurd (omega (arith, ltb-true w v e, eqb-true v w q))
        by true e false q = rw (lt-ltb w (v + 1) (omega (arith, ltb-true w v e))) (omega arith)
        by false e true q = rw (lt-ltb w (v + 1) (omega (arith, eqb-true v w q))) (omega arith)
        by false e false q =
            let h : v ≤ w = ltb-false w v e in
            let lt : v < w = ⊎_elim (λ p. absurd (eqb-false v w q p)) (λ p. p) (eq-or-lt_of_le h) in
            rw (le-ltb w (v + 1) (omega arith)) ih

-- no number is below 0
pub among_none : (l : List ℕ) (from m : ℕ) → among (λ w. ltb w 0) l from m ≡ 0
unfolding among
among_none l from zero = refl
among_none l from (suc m) = rw (le-ltb (get_or l (from + m) 0) 0 (omega arith)) (among_none l from m)
