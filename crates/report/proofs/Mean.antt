-- The mean by the half-to-even rule: it is within a half of total / n and even where it is just a half away, and no other
-- number is so. Assumes nothing.
use Prim.Native.Nat.{ℕ, zero, suc, ◌+◌, ◌*◌, ◌/◌, ◌%◌, ◌≤◌, ◌<◌}
use native.Mathlib.Omega.{arith}
use native.Mathlib.Nat.{div-add-mod', mod-lt, mul-le-mul_right, suc-mul, add-zero}
use mathlib.Core.Path.{◌≡◌, refl, ◌∙◌, ap}
use mathlib.Core.Bool.{Bool, true, false, cond}
use lib.Dec.{ltb}
use borrow.Author.Tests.{ltb-true, ltb-false}
use Rattle.report.specs.Load.{half_to_even, Rounded}

module _ (total n : ℕ) (pos : 0 < n) where
  pub half_to_even-rounded : Rounded total n (half_to_even total n)
  unfolding half_to_even
  half_to_even-rounded = go (ltb (2 * (total % n)) n) refl (ltb n (2 * (total % n))) refl
    where
      whole : total / n * n + total % n ≡ total
      whole = div-add-mod' total n

      less : total % n < n
      less = mod-lt total pos

      go : (a : Bool) → ltb (2 * (total % n)) n ≡ a → (b : Bool) → ltb n (2 * (total % n)) ≡ b
          → Rounded total n (cond a (total / n) (cond b (suc (total / n)) (total / n + total / n % 2)))
      go true p b q =
          let below = ltb-true (2 * (total % n)) n p in
          record {
            not-far-below = omega (arith, whole);
            not-far-above = omega (arith, whole);
            even-below = λ e. absurd (omega (arith, whole));
            even-above = λ e. absurd (omega (arith, whole));
          }
      go false p true q =
          let above = ltb-true n (2 * (total % n)) q in
          let one = suc-mul (total / n) n in
          record {
            not-far-below = omega (arith, whole, less);
            not-far-above = omega (arith, whole, less);
            even-below = λ e. absurd (omega (arith, whole, less));
            even-above = λ e. absurd (omega (arith, whole, less));
          }
      go false p false q =
          half (total / n % 2) refl
          (let low = ltb-false (2 * (total % n)) n p in let high = ltb-false n (2 * (total % n)) q in omega (arith, whole))
        where
          half : (odd : ℕ) → total / n % 2 ≡ odd → 2 * total ≡ 2 * (total / n * n) + n → Rounded total n (total / n + odd)
          half zero e h =
              rw (add-zero (total / n))
              (record {
                not-far-below = omega arith;
                not-far-above = omega arith;
                even-below = λ k. e;
                even-above = λ k. e;
              })
          half (suc zero) e h =
              record {
                not-far-below = omega arith;
                not-far-above = omega arith;
                even-below = λ k. omega arith;
                even-above = λ k. omega arith;
              }
          half (suc (suc odd)) e h = absurd (omega arith)

  -- a smaller number that is so too is not smaller
  not-less : (m k : ℕ) → Rounded total n m → Rounded total n k → m < k → ⊥
  not-less m k a b h = go (ltb (suc m) k) refl
    where
      one : suc m * n ≡ m * n + n
      one = suc-mul m n

      go : (t : Bool) → ltb (suc m) k ≡ t → ⊥
      go true p =
          let far : suc (suc m) * n ≤ k * n = mul-le-mul_right n (ltb-true (suc m) k p) in
          omega (arith, one, suc-mul (suc m) n, a.not-far-below, b.not-far-above)
      go false p =
          let next : k ≡ suc m = omega (arith, ltb-false (suc m) k p) in
          let there : k * n ≡ m * n + n = ap (λ i. i * n) next ∙ one in
          let low = a.even-below (omega (arith, a.not-far-below, b.not-far-above)) in
          let high = b.even-above (omega (arith, a.not-far-below, b.not-far-above)) in
          omega arith

  pub rounded-unique : (m k : ℕ) → Rounded total n m → Rounded total n k → m ≡ k
  rounded-unique m k a b = go (ltb m k) refl (ltb k m) refl
    where
      go : (s : Bool) → ltb m k ≡ s → (t : Bool) → ltb k m ≡ t → m ≡ k
      go true p t q = absurd (not-less m k a b (ltb-true m k p))
      go false p true q = absurd (not-less k m b a (ltb-true k m q))
      go false p false q = omega (arith, ltb-false m k p, ltb-false k m q)
