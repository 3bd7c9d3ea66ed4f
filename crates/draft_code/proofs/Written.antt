-- The bytes of a draft. Assumes nothing.
use Prim.Native.Nat.{ℕ, ◌+◌, ◌-◌, ◌≤◌}
use native.Mathlib.Omega.{arith}
use mathlib.Core.Path.{◌≡◌, refl, sym, ◌∙◌, ap}
use mathlib.Core.List.{List, ◌++◌}
use lib.ListN.{length, take, drop, length-append, length-drop}
use Rattle.lists.specs.Lists.{over_start}
use Rattle.lists.proofs.Writing.{given_back, write-part}
use Rattle.number.specs.Numbers.{forms_of}

-- the numbers' forms, then the rows
module _ (head rows out₀ : List ℕ) (fits : length (forms_of head) + length rows ≤ length out₀) {out : List ℕ} {at : ℕ}
    (at-is : at ≡ length (forms_of head)) (out-is : out ≡ over_start (forms_of head) out₀) where
  out-length : length out ≡ length out₀
  out-length = ap length out-is ∙ simp (length-append, length-drop) (omega arith)

  pub rows_fit : at + length rows ≤ length out
  rows_fit = omega (arith, out-length)

  pub both-written : {last : List ℕ} → last ≡ over_start rows (take (length out - at) (drop at out))
      → given_back out at last ≡ over_start (forms_of head ++ rows) out₀
  both-written {last} is =
      let first : out ≡ forms_of head ++ drop at out₀ = rw at-is out-is in
      let size : at + length rows ≡ length (forms_of head ++ rows) = rw (length-append (forms_of head) rows, at-is) refl in
      write-part (forms_of head) rows out₀ out last at (sym at-is) first is ∙ rw size refl
