-- Numbers put in two or three parts, each into the part of the slice that begins after those before it. Assumes nothing.
use Prim.Native.Nat.{ℕ, ◌+◌, ◌-◌, ◌≤◌}
use native.Mathlib.Omega.{arith}
use mathlib.Core.Path.{◌≡◌, sym, ◌∙◌, ap}
use mathlib.Core.List.{List, ◌++◌, append_assoc}
use lib.ListN.{length, take, drop, length-append, length-drop}
use Rattle.lists.specs.Lists.{over_start}
use Rattle.lists.proofs.Writing.{given_back, take-drop-rest, write-part}

module _ (one two a₀ : List ℕ) (a : List ℕ) (at : ℕ) (at-is : at ≡ length one) (fits : at + length two ≤ length a₀)
    (first : a ≡ over_start one a₀) where
  -- the slice has its length after the first part
  pub first-length : length a ≡ length a₀
  first-length = ap length first ∙ simp (length-append, length-drop) (omega arith)

  -- what putting the second asks of the part that is lent
  pub second_fits : length two ≤ length (take (length a - at) (drop at a))
  second_fits = rw (take-drop-rest a at, length-drop at a) (omega (arith, first-length))

  -- and both stand there
  pub both-put : (last : List ℕ) → last ≡ over_start two (take (length a - at) (drop at a))
      → given_back a at last ≡ over_start (one ++ two) a₀
  both-put last e =
      let is : a ≡ one ++ drop at a₀ = rw at-is first in
      let end : at + length two ≡ length (one ++ two) = rw (length-append one two) (omega arith) in
      write-part one two a₀ a last at (sym at-is) is e ∙ ap (λ (to : ℕ). one ++ two ++ drop to a₀) end

-- the same three parts, however they are put together
pub three-parts : (one two three a₀ : List ℕ) → over_start ((one ++ two) ++ three) a₀ ≡ over_start (one ++ (two ++ three)) a₀
three-parts one two three a₀ = ap (λ (all : List ℕ). over_start all a₀) (append_assoc one two three)
