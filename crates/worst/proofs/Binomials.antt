-- C(n,k) by a product for the smaller of k and n-k: each step is exact, and none is above a later one. Assumes nothing.
use Prim.Native.Nat.{ℕ, zero, suc, ◌+◌, ◌-◌, ◌*◌, ◌/◌, ◌≤◌, ◌<◌, min}
use native.Mathlib.Omega.{arith}
use native.Mathlib.Nat.{le_refl, le_trans, sub-le, add-zero, zero-add, add-sub_of_le, mul-le-mul, mul-le-mul_right, mul-div_cancel_left, le_of_mul-le-mul_left, zero-lt-suc, mul_comm}
use native.Mathlib.Numerals.{add-one}
use mathlib.Core.Path.{◌≡◌, refl, sym, ◌∙◌, ap}
use mathlib.Core.Logic.{⊎_elim}
use mathlib.Core.Bool.{false}
use borrow.Author.Tests.{lt-leb}
use Rattle.lists.proofs.Arith.{le-or-lt}
use Rattle.binomial.specs.Choose.{choose}
use Rattle.worst.specs.Worst.{few_sets}
use Rattle.binomial.proofs.Laws.{choose-zero, choose_one, choose-self, choose-absorb, pascal}

-- (i+1) C(n,i+1) = (n-i) C(n,i)
choose-step : (n i : ℕ) → i ≤ n → suc i * choose n (suc i) ≡ (n - i) * choose n i
unfolding choose
choose-step zero zero h = refl
choose-step zero (suc i) h = absurd (omega arith)
choose-step (suc m) zero h = omega (arith, choose_one m)
choose-step (suc m) (suc i) h =
    let e : suc m - suc i ≡ m - i = omega arith in
    let f : suc m ≡ suc (i + (m - i)) = omega arith in
    rw e (choose-absorb m (suc i) ∙ ap (λ x. x * choose m (suc i)) f ∙ both i (m - i) (choose m (suc i)) (choose m i) (choose-step m i (omega arith)))
  where
    both : (i d x y : ℕ) → suc i * x ≡ d * y → suc (i + d) * x ≡ d * (y + x)
    both i d x y e = omega arith

-- C(a+b,a) = C(a+b,b)
choose-symmetric : (a b : ℕ) → choose (a + b) a ≡ choose (a + b) b
choose-symmetric zero b = rw (zero-add b) (choose-zero b ∙ sym (choose-self b))
choose-symmetric (suc a) zero = rw (add-zero (suc a)) (choose-self (suc a) ∙ sym (choose-zero (suc a)))
choose-symmetric (suc a) (suc b) =
    let e : suc a + suc b ≡ suc (a + suc b) = omega arith in
    let f : suc a + b ≡ a + suc b = omega arith in
    rw (e, pascal (a + suc b) a, pascal (a + suc b) b)
    (omega (arith, choose-symmetric a (suc b), rw f at (choose-symmetric (suc a) b)))

-- the same sets counted by the smaller of k and n-k
pub choose-smaller : (n k : ℕ) → k ≤ n → choose n k ≡ choose n (min k (n - k))
choose-smaller n k h = ⊎_elim same other (le-or-lt k (n - k))
  where
    same : k ≤ n - k → choose n k ≡ choose n (min k (n - k))
    same less = let e : min k (n - k) ≡ k = omega arith in rw e refl

    other : n - k < k → choose n k ≡ choose n (min k (n - k))
    other more =
        let e : min k (n - k) ≡ n - k = omega arith in
        rw e (rw (add-sub_of_le h) at (choose-symmetric k (n - k)))

-- rising up to the middle
choose-rises : (n i : ℕ) → i + i < n → choose n i ≤ choose n (suc i)
choose-rises n i h =
    le_of_mul-le-mul_left
    (rw (choose-step n i (omega arith)) (mul-le-mul_right (choose n i) (middle n i h)))
    (zero-lt-suc i)
  where
    middle : (n i : ℕ) → i + i < n → suc i ≤ n - i
    middle n i h = omega arith

choose-rising : (n i d : ℕ) → i + d + (i + d) ≤ n → choose n i ≤ choose n (i + d)
choose-rising n i zero h = rw (add-zero i) (le_refl (choose n i))
choose-rising n i (suc d) h =
    let e : i + suc d ≡ suc (i + d) = omega arith in
    rw e (le_trans (choose-rising n i d (omega arith)) (choose-rises n (i + d) (omega arith)))

module _ (n : ℕ) where
  -- a step of the product is exact
  pub product-step : (i : ℕ) {sets : ℕ} → i < n → sets ≡ choose n i → sets * (n - i) / (i + 1) ≡ choose n (i + 1)
  product-step i lt e =
      rw (e, add-one i, mul_comm (choose n i) (n - i), ← choose-step n i (omega arith))
      (mul-div_cancel_left (choose n (suc i)) (zero-lt-suc i))

  -- past the limit before the end, it is past it at the end
  pub past-limit : (i k b : ℕ) {sets : ℕ} → k ≤ n → i ≤ min k (n - k) → 1 ≤ b → sets ≡ choose n i → 16_777_216 < sets
      → few_sets n k b ≡ false
  past-limit i k b {sets} enough before some e past =
      let j = min k (n - k) in
      let g : i + (j - i) ≡ j = omega arith in
      let rising : choose n i ≤ choose n j = rw g at (choose-rising n i (j - i) (omega arith)) in
      let times : choose n k * 1 ≤ choose n k * b = mul-le-mul (le_refl (choose n k)) some in
      lt-leb (choose n k * b) 16_777_216 (omega (arith, choose-smaller n k enough))

-- products fit
pub product-fits : (sets n i : ℕ) → sets ≤ 16_777_216 → n ≤ 255 → sets * (n - i) ≤ 4_278_190_080
product-fits sets n i few small = mul-le-mul few (le_trans (sub-le n i) small)

pub total-fits : (sets b : ℕ) → sets ≤ 16_777_216 → b ≤ 4_096 → sets * b ≤ 68_719_476_736
total-fits sets b few small = mul-le-mul few small
