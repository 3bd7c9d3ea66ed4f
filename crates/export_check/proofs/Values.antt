-- A check's values as they are put, in parts: the numbers before the lists, the nodes out of service, the feeders. Assumes nothing.
use Prim.Native.Nat.{ℕ, ◌-◌}
use native.Mathlib.Nat.{sub-zero}
use mathlib.Core.Path.{◌≡◌, sym, ap, ◌∙◌}
use mathlib.Core.Bool.{Bool, cond}
use mathlib.Core.List.{List, [], ◌∷◌, ◌++◌, append_assoc, append-nil}
use lib.ListN.{take}
use borrow.Author.Tests.{eq-eqb, ne_eqb}
use Rattle.lists.specs.Lists.{over_start}
use Rattle.layers.specs.Layers.{head_numbers}
use Rattle.layers.specs.declared.LayerHead.{LayerHead}
use Rattle.pack.specs.declared.PackHead.{PackHead}
use Rattle.placement.specs.Answers.{head_values, table_values}
use Rattle.placement.specs.declared.FeederTable.{FeederTable}
use Rattle.placement.specs.declared.PlacementHead.{PlacementHead}

pub pack-parts : (head : PackHead) (l : List LayerHead) (count : ℕ) (nodes : List ℕ)
    → (0 ∷ head.n ∷ head.r ∷ head.first ∷ (head_numbers l ++ (count ∷ []))) ++ nodes
    ≡ 0 ∷ head.n ∷ head.r ∷ head.first ∷ (head_numbers l ++ (count ∷ nodes))
pack-parts head l count nodes =
    ap (λ (t : List ℕ). 0 ∷ head.n ∷ head.r ∷ head.first ∷ t) (append_assoc (head_numbers l) (count ∷ []) nodes)

module _ (head : PlacementHead) (l : List LayerHead) (count : ℕ) (nodes : List ℕ) where
  -- behind the eight numbers of the head
  abbrev behind : List ℕ → List ℕ
  behind t =
      0 ∷ head.kind ∷ head.n ∷ head.r ∷ head.s ∷ head.k ∷ head.b ∷ head.figure ∷ head.first ∷ t

  pub unfed-parts : (0 ∷ head_values head l (count ∷ []) []) ++ nodes ≡ 0 ∷ head_values head l (count ∷ nodes) []
  unfed-parts =
      ap behind
      (append_assoc (head_numbers l) (count ∷ []) nodes ∙ ap (λ (t : List ℕ). head_numbers l ++ (count ∷ t)) (sym (append-nil nodes)))

  pub fed-parts : (number : ℕ) (each : List ℕ)
      → ((0 ∷ head_values head l (count ∷ []) []) ++ (nodes ++ (number ∷ []))) ++ each
      ≡ 0 ∷ head_values head l (count ∷ nodes) (number ∷ each)
  fed-parts number each =
      ap behind
      (ap (λ (t : List ℕ). t ++ each) (append_assoc (head_numbers l) (count ∷ []) (nodes ++ (number ∷ [])))
      ∙ append_assoc (head_numbers l) (count ∷ (nodes ++ (number ∷ []))) each
      ∙ ap (λ (t : List ℕ). head_numbers l ++ (count ∷ t)) (append_assoc nodes (number ∷ []) each))

-- the first `count` of a list, as a part from 0 on is lent
abbrev pub lent : ℕ → List ℕ → List ℕ
lent count l = take (count - 0) l

pub lent_is : (count : ℕ) (l : List ℕ) → lent count l ≡ take count l
lent_is count l = ap (λ (n : ℕ). take n l) (sub-zero count)

-- what the code's table says, without feeders and with them
no-feeders : (n : ℕ) (table : FeederTable) → table.number ≡ 0 → table_values n table ≡ []
no-feeders n table none = ap (λ (t : Bool). cond t [] (table.number ∷ take n table.each)) (eq-eqb table.number 0 none)

some-feeders : (n : ℕ) (table : FeederTable) → (table.number ≡ 0 → ⊥) → table_values n table ≡ table.number ∷ take n table.each
some-feeders n table some =
    ap (λ (t : Bool). cond t [] (table.number ∷ take n table.each)) (ne_eqb table.number 0 some)

-- what an accepted pack's answer slice has, from what was put
pub pack-put : (head : PackHead) (l : List LayerHead) (count : ℕ) (nodes numbers answer left : List ℕ)
    → numbers ≡ 0 ∷ head.n ∷ head.r ∷ head.first ∷ (head_numbers l ++ (count ∷ []))
    → left ≡ over_start (numbers ++ lent count nodes) answer
    → left ≡ over_start (0 ∷ head.n ∷ head.r ∷ head.first ∷ (head_numbers l ++ (count ∷ take count nodes))) answer
pack-put head l count nodes numbers answer left are put =
    put
    ∙ ap (λ (all : List ℕ). over_start all answer)
    (ap (λ (first : List ℕ). first ++ lent count nodes) are
    ∙ ap (λ (t : List ℕ). (0 ∷ head.n ∷ head.r ∷ head.first ∷ (head_numbers l ++ (count ∷ []))) ++ t) (lent_is count nodes)
    ∙ pack-parts head l count (take count nodes))

module _ (head : PlacementHead) (l : List LayerHead) (count : ℕ) (nodes numbers answer left : List ℕ) (table : FeederTable)
    (are : numbers ≡ 0 ∷ head_values head l (count ∷ []) []) where
  -- an accepted placement's, without feeders and with them
  pub unfed-put : table.number ≡ 0 → left ≡ over_start (numbers ++ lent count nodes) answer
      → left ≡ over_start (0 ∷ head_values head l (count ∷ take count nodes) (table_values head.n table)) answer
  unfed-put none put =
      put
      ∙ ap (λ (all : List ℕ). over_start all answer)
      (ap (λ (first : List ℕ). first ++ lent count nodes) are
      ∙ ap (λ (t : List ℕ). (0 ∷ head_values head l (count ∷ []) []) ++ t) (lent_is count nodes)
      ∙ unfed-parts head l count (take count nodes)
      ∙ ap (λ (t : List ℕ). 0 ∷ head_values head l (count ∷ take count nodes) t) (sym (no-feeders head.n table none)))

  pub fed-put : (table.number ≡ 0 → ⊥)
      → left ≡ over_start ((numbers ++ (lent count nodes ++ (table.number ∷ []))) ++ take head.n table.each) answer
      → left ≡ over_start (0 ∷ head_values head l (count ∷ take count nodes) (table_values head.n table)) answer
  fed-put some put =
      put
      ∙ ap (λ (all : List ℕ). over_start all answer)
      (ap (λ (first : List ℕ). (first ++ (lent count nodes ++ (table.number ∷ []))) ++ take head.n table.each) are
      ∙ ap
      (λ (t : List ℕ). ((0 ∷ head_values head l (count ∷ []) []) ++ (t ++ (table.number ∷ []))) ++ take head.n table.each)
      (lent_is count nodes)
      ∙ fed-parts head l count (take count nodes) table.number (take head.n table.each)
      ∙ ap (λ (t : List ℕ). 0 ∷ head_values head l (count ∷ take count nodes) t) (sym (some-feeders head.n table some)))
