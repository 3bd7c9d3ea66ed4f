-- The layers' numbers in a head, from an array of five layers. Assumes nothing.
use Prim.Native.Nat.{ℕ, zero, suc, ◌*◌}
use native.Mathlib.Omega.{arith}
use mathlib.Core.Path.{◌≡◌, refl}
use mathlib.Core.List.{List, [], ◌∷◌}
use lib.ListN.{length, get_or, take}
use Rattle.layers.specs.Layers.{head_numbers}
use Rattle.layers.specs.Answers.{no_head}
use Rattle.layers.specs.declared.LayerHead.{LayerHead}

-- an array's numbers, one by one
abbrev pub array_numbers : List LayerHead → List ℕ
array_numbers heads =
    (get_or heads 0 no_head).bound ∷ (get_or heads 0 no_head).size
    ∷ (get_or heads 1 no_head).bound ∷ (get_or heads 1 no_head).size
    ∷ (get_or heads 2 no_head).bound ∷ (get_or heads 2 no_head).size
    ∷ (get_or heads 3 no_head).bound ∷ (get_or heads 3 no_head).size
    ∷ (get_or heads 4 no_head).bound ∷ (get_or heads 4 no_head).size
    ∷ []

pub five-numbers : (heads : List LayerHead) → length heads ≡ 5 → array_numbers heads ≡ head_numbers heads
unfolding head_numbers
five-numbers (a ∷ b ∷ c ∷ d ∷ e ∷ []) h = refl
five-numbers [] h = absurd (omega arith)
five-numbers (a ∷ []) h = absurd (omega arith)
five-numbers (a ∷ b ∷ []) h = absurd (omega arith)
five-numbers (a ∷ b ∷ c ∷ []) h = absurd (omega arith)
five-numbers (a ∷ b ∷ c ∷ d ∷ []) h = absurd (omega arith)
five-numbers (a ∷ b ∷ c ∷ d ∷ e ∷ f ∷ l) h = absurd (omega arith)

-- the first two numbers a layer
pub take-head_numbers : (s : ℕ) (heads : List LayerHead) → take (2 * s) (head_numbers heads) ≡ head_numbers (take s heads)
unfolding head_numbers
take-head_numbers zero heads = refl
take-head_numbers (suc s) [] = let e : 2 * suc s ≡ suc (suc (2 * s)) = omega arith in rw e
take-head_numbers (suc s) (head ∷ heads) =
    let e : 2 * suc s ≡ suc (suc (2 * s)) = omega arith in
    rw (e, take-head_numbers s heads)
