-- The least common multiple is one: a multiple of each, and it divides every common multiple. Assumes nothing.
use Prim.Native.Nat.{ℕ, zero, suc, ◌+◌, ◌*◌, ◌-◌, ◌/◌, ◌%◌, ◌≤◌, ◌<◌, ◌∣◌}
use native.Mathlib.Omega.{arith}
use native.Mathlib.Nat.{dvd_refl, dvd-add, dvd-sub, dvd-mul_right, dvd-mod_iff, dvd_of_mod-eq-zero, mod-eq-zero_of_dvd, div-mul_cancel, mod-lt, zero-mul, le_of_dvd}
use mathlib.Core.Path.{◌≡◌, refl}
use lib.Dec.{eqb}
use borrow.Author.Tests.{eqb-true, eq-eqb}
use Rattle.lists.proofs.Tests.{cond-elim}
use Rattle.join.specs.Lcm.{first_common, lcm}

-- a multiple of a stays one
first-multiple : (left m a b : ℕ) → a ∣ m → a ∣ first_common left m a b
unfolding first_common
first-multiple zero m a b h = h
first-multiple (suc left) m a b h =
    cond-elim (λ v. a ∣ v) (eqb (m % b) 0) (λ t. h) (λ t. first-multiple left (m + a) a b (dvd-add a h (dvd_refl a)))

-- it is not below the place where the search begins
first-ge : (left m a b : ℕ) → m ≤ first_common left m a b
unfolding first_common
first-ge zero m a b = omega arith
first-ge (suc left) m a b =
    cond-elim (λ v. m ≤ v) (eqb (m % b) 0) (λ t. omega arith) (λ t. omega (arith, first-ge left (m + a) a b))

-- no earlier one of the numbers is a multiple of b
first-least : (left m a b j : ℕ) → b ∣ m + j * a → first_common left m a b ≤ m + j * a
unfolding first_common
first-least zero m a b j h = omega arith
first-least (suc left) m a b zero h =
    let e : m + 0 * a ≡ m = omega arith in
    let d : b ∣ m = rw e at h in
    rw (eq-eqb (m % b) 0 (mod-eq-zero_of_dvd b d)) (omega arith)
first-least (suc left) m a b (suc j) h =
    let e : m + suc j * a ≡ m + a + j * a = omega arith in
    let d : b ∣ m + a + j * a = rw e at h in
    cond-elim (λ v. v ≤ m + suc j * a) (eqb (m % b) 0) (λ t. omega arith) (λ t. rw e (first-least left (m + a) a b j d))

-- one of the numbers looked at is a multiple of b
first_found : (left m a b j : ℕ) → j < left → b ∣ m + j * a → b ∣ first_common left m a b
unfolding first_common
first_found zero m a b j lt h = absurd (omega arith)
first_found (suc left) m a b zero lt h =
    let e : m + 0 * a ≡ m = omega arith in
    let d : b ∣ m = rw e at h in
    rw (eq-eqb (m % b) 0 (mod-eq-zero_of_dvd b d)) d
first_found (suc left) m a b (suc j) lt h =
    let e : m + suc j * a ≡ m + a + j * a = omega arith in
    cond-elim (λ v. b ∣ v) (eqb (m % b) 0) (λ t. dvd_of_mod-eq-zero b (eqb-true (m % b) 0 t))
    (λ t. first_found left (m + a) a b j (omega arith) (rw e at h))

-- a multiple of each
pub lcm-left : (a b : ℕ) → a ∣ lcm a b
unfolding lcm
lcm-left a b = first-multiple b a a b (dvd_refl a)

pub lcm-right : (a b : ℕ) → 0 < b → b ∣ lcm a b
unfolding lcm
lcm-right a zero h = absurd (omega arith)
lcm-right a (suc b) h =
    let e : suc b * a ≡ a + b * a = omega arith in
    first_found (suc b) a a (suc b) b (omega arith) (rw e at (dvd-mul_right (suc b) a))

pub lcm-ge : (a b : ℕ) → a ≤ lcm a b
unfolding lcm
lcm-ge a b = first-ge b a a b

-- no common multiple but 0 is less
pub lcm-least : (a b c : ℕ) → 0 < c → a ∣ c → b ∣ c → lcm a b ≤ c
unfolding lcm
lcm-least a b c some ha hb =
    let q : c / a * a ≡ c = div-mul_cancel a ha in
    go (c / a) q
  where
    go : (n : ℕ) → n * a ≡ c → first_common b a a b ≤ c
    go zero e = absurd (omega (arith, zero-mul a))
    go (suc n) e =
        let s : a + n * a ≡ c = omega arith in
        rw s at (first-least b a a b n (rw s hb))

-- and it divides every common multiple
pub lcm-divides : (a b c : ℕ) → 0 < a → 0 < b → a ∣ c → b ∣ c → lcm a b ∣ c
lcm-divides a b c pa pb ha hb = dvd_of_mod-eq-zero (lcm a b) (go (c % lcm a b) refl)
  where
    some : 0 < lcm a b
    some = omega (arith, lcm-ge a b)

    go : (rest : ℕ) → c % lcm a b ≡ rest → c % lcm a b ≡ 0
    go zero e = e
    go (suc rest) e =
        let positive : 0 < c % lcm a b = omega arith in
        let least = lcm-least a b (c % lcm a b) positive ((dvd-mod_iff a (lcm-left a b)).1 ha) ((dvd-mod_iff b (lcm-right a b pb)).1 hb) in
        absurd (omega (arith, mod-lt c some))

-- two numbers that are multiples of a: the larger is at least a more
pub multiple-step : (a m l : ℕ) → a ∣ m → a ∣ l → m < l → m + a ≤ l
multiple-step a m l hm hl lt = omega (arith, le_of_dvd {m = a} {n = l - m} (omega arith) (dvd-sub a hl hm))
