-- What the digit of a byte says of it. Assumes nothing.
use Prim.Native.Nat.{ℕ, ◌-◌, ◌≤◌, ◌<◌}
use native.Mathlib.Omega.{arith}
use mathlib.Core.Path.{◌≡◌, refl}
use mathlib.Core.Bool.{Bool, true, false, cond}
use lib.Dec.{leb}
use borrow.Author.Tests.{leb-true}
use Rattle.lists.proofs.Tests.{T_true, true-T, and_right}
use Rattle.table.specs.Lines.{is_digit, is_blank}
use Rattle.table.specs.Progress.{digit_of}

module _ (byte : ℕ) where
  digit-most : is_digit byte ≡ true → byte ≤ 57
  digit-most e = leb-true byte 57 (true-T (leb byte 57) (and_right (leb 48 byte) (leb byte 57) (T_true e)))

  pub a-digit : digit_of byte < 10 → (is_blank byte ≡ false) × (is_digit byte ≡ true) × (digit_of byte ≡ byte - 48)
  a-digit = go (is_blank byte) (is_digit byte)
    where
      go : (x y : Bool) → cond x 10 (cond y (byte - 48) 11) < 10
          → (x ≡ false) × (y ≡ true) × (cond x 10 (cond y (byte - 48) 11) ≡ byte - 48)
      go true y h = absurd (omega arith)
      go false true h = (refl, refl, refl)
      go false false h = absurd (omega arith)

  pub a-blank : 10 ≤ digit_of byte → digit_of byte ≤ 10 → is_blank byte ≡ true
  a-blank = go (is_blank byte) (is_digit byte) refl
    where
      go : (x y : Bool) → is_digit byte ≡ y → 10 ≤ cond x 10 (cond y (byte - 48) 11) → cond x 10 (cond y (byte - 48) 11) ≤ 10 → x ≡ true
      go true y e h g = refl
      go false true e h g = absurd (let m = digit-most e in omega arith)
      go false false e h g = absurd (omega arith)

  pub another : 10 < digit_of byte → (is_blank byte ≡ false) × (is_digit byte ≡ false)
  another = go (is_blank byte) (is_digit byte) refl
    where
      go : (x y : Bool) → is_digit byte ≡ y → 10 < cond x 10 (cond y (byte - 48) 11) → (x ≡ false) × (y ≡ false)
      go true y e h = absurd (omega arith)
      go false true e h = absurd (let m = digit-most e in omega arith)
      go false false e h = (refl, refl)
