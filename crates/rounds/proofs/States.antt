-- States as numbers: a bit more, a bit less, and what a table of them lists. Assumes nothing.
use Prim.Native.Nat.{ℕ, zero, suc, ◌+◌, ◌*◌, ◌-◌, ◌/◌, ◌%◌, ◌^◌, ◌≤◌, ◌<◌}
use native.Mathlib.Omega.{arith}
use native.Mathlib.Nat.{pow-zero, pow-succ', div-one, div-div-eq-div-mul}
use mathlib.Core.Path.{◌≡◌, refl, sym}
use mathlib.Core.Bool.{Bool, true, false, not, ◌&&◌, ◌||◌}
use lib.Dec.{eqb, eqb-zero-suc, eqb-suc-zero, eqb-suc-suc}
use lib.Pow.{pow_mono}
use borrow.Author.Tests.{eqb-true, eqb-false, eq-eqb, ne_eqb}
use Rattle.lists.specs.Lists.{tally}
use Rattle.rounds.specs.Game.{none_failed, down, mended}
use Rattle.rounds.specs.States.{down_in}

-- the bit by a shift
pub bit_shifted : (state v : ℕ) → eqb (state / 2 ^ v % 2) 1 ≡ down_in state v
unfolding down_in
bit_shifted state zero = rw (pow-zero 2, div-one state)
bit_shifted state (suc v) = rw (pow-succ' 2 v, ← div-div-eq-div-mul state 2 (2 ^ v)) (bit_shifted (state / 2) v)

-- as a number
pub bit-number : (state v : ℕ) → state / 2 ^ v % 2 ≡ tally (down_in state v) 0
bit-number state v = go (down_in state v) (bit_shifted state v)
  where
    go : (b : Bool) → eqb (state / 2 ^ v % 2) 1 ≡ b → state / 2 ^ v % 2 ≡ tally b 0
    go true e = eqb-true (state / 2 ^ v % 2) 1 e
    go false e = let h = eqb-false (state / 2 ^ v % 2) 1 e in omega arith

low_clear : (state : ℕ) → eqb (state % 2) 1 ≡ false → state % 2 ≡ 0
low_clear state e = let h = eqb-false (state % 2) 1 e in omega arith

-- node v goes down
raised : (state v : ℕ) → down_in state v ≡ false → (w : ℕ) → down_in (state + 2 ^ v) w ≡ (eqb v w || down_in state w)
unfolding down_in
raised state zero e zero =
    let h = low_clear state e in
    rw (pow-zero 2) (eq-eqb ((state + 1) % 2) 1 (omega arith))
raised state zero e (suc w) =
    let h = low_clear state e in
    let half : (state + 1) / 2 ≡ state / 2 = omega arith in
    rw (pow-zero 2, half, eqb-zero-suc w)
raised state (suc v) e zero =
    let even : (state + 2 * 2 ^ v) % 2 ≡ state % 2 = omega arith in
    rw (pow-succ' 2 v, even, eqb-suc-zero v)
raised state (suc v) e (suc w) =
    let half : (state + 2 * 2 ^ v) / 2 ≡ state / 2 + 2 ^ v = omega arith in
    rw (pow-succ' 2 v, half, eqb-suc-suc v w) (raised (state / 2) v e w)

pub state-down : (state v : ℕ) → down_in state v ≡ false → down_in (state + 2 ^ v) ≡ down v (down_in state)
state-down state v e = λ i w. raised state v e w i

-- and is still one of the states
pub down-inside : (n state v : ℕ) → v < n → state < 2 ^ n → down_in state v ≡ false → state + 2 ^ v < 2 ^ n
unfolding down_in
down-inside zero state v h g e = absurd (omega arith)
down-inside (suc n) state zero h g e =
    let low = low_clear state e in
    let p = pow-succ' 2 n in
    let z = pow-zero 2 in
    omega arith
down-inside (suc n) state (suc v) h g e =
    let p = pow-succ' 2 n in
    let q = pow-succ' 2 v in
    let half = down-inside n (state / 2) v (omega arith) (omega arith) e in
    omega arith

-- node v works again
pub bit_le : (state v : ℕ) → down_in state v ≡ true → 2 ^ v ≤ state
unfolding down_in
bit_le state zero e =
    let h = eqb-true (state % 2) 1 e in
    let z = pow-zero 2 in
    omega arith
bit_le state (suc v) e =
    let q = pow-succ' 2 v in
    let half = bit_le (state / 2) v e in
    omega arith

lowered : (state v : ℕ) → down_in state v ≡ true → (w : ℕ) → down_in (state - 2 ^ v) w ≡ (down_in state w && not (eqb v w))
unfolding down_in
lowered state zero e zero =
    let h = eqb-true (state % 2) 1 e in
    rw (pow-zero 2, e) (ne_eqb ((state - 1) % 2) 1 (λ p. omega arith))
lowered state zero e (suc w) =
    let h = eqb-true (state % 2) 1 e in
    let half : (state - 1) / 2 ≡ state / 2 = omega arith in
    rw (pow-zero 2, half, eqb-zero-suc w) (sym (and-true (down_in (state / 2) w)))
  where
    and-true : (b : Bool) → (b && true) ≡ b
    and-true true = refl
    and-true false = refl
lowered state (suc v) e zero =
    let half = bit_le (state / 2) v e in
    let even : (state - 2 * 2 ^ v) % 2 ≡ state % 2 = omega arith in
    rw (pow-succ' 2 v, even, eqb-suc-zero v) (sym (and-true (eqb (state % 2) 1)))
  where
    and-true : (b : Bool) → (b && true) ≡ b
    and-true true = refl
    and-true false = refl
lowered state (suc v) e (suc w) =
    let h = bit_le (state / 2) v e in
    let half : (state - 2 * 2 ^ v) / 2 ≡ state / 2 - 2 ^ v = omega arith in
    rw (pow-succ' 2 v, half, eqb-suc-suc v w) (lowered (state / 2) v e w)

pub state-mended : (state v : ℕ) → down_in state v ≡ true → down_in (state - 2 ^ v) ≡ mended v (down_in state)
state-mended state v e = λ i w. lowered state v e w i

-- state 0
no-bit : (v : ℕ) → down_in 0 v ≡ false
unfolding down_in
no-bit zero = refl
no-bit (suc v) = no-bit v

pub state-none : down_in 0 ≡ none_failed
state-none = λ i v. no-bit v i

-- at most ten nodes have at most 1,024 states
pub states-few : (n : ℕ) → n ≤ 10 → 2 ^ n ≤ 1_024
states-few n h = pow_mono h
