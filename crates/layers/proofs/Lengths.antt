-- How many rows and bytes the layers have, and how many their numbers take. Assumes nothing.
use Prim.Native.Nat.{◌+◌, ◌*◌, ◌≤◌, ◌<◌}
use native.Mathlib.Omega.{arith}
use mathlib.Core.Path.{◌≡◌, refl, ◌∙◌, ap}
use mathlib.Core.List.{List, [], ◌∷◌, map, flatten}
use lib.ListN.{length, length-append}
use Rattle.lists.specs.Lists.{All, total}
use Rattle.number.specs.Numbers.{largest_number, number_bytes}
use Rattle.number.proofs.Laws.{number_bytes-length-le-two, number_bytes-length-le-four}
use Rattle.layers.specs.Layers.{Layer, sizes, all_rows, heads_of, head_numbers}

-- the layers' sizes sum to their rows
pub length-all_rows : (layers : List Layer) → length (all_rows layers) ≡ sizes (heads_of layers)
unfolding flatten total
length-all_rows [] = refl
length-all_rows (layer ∷ layers) =
    length-append layer.rows (all_rows layers) ∙ ap (λ n. length layer.rows + n) (length-all_rows layers)

-- a layer's two numbers take at most six bytes
pub length-head_numbers : (layers : List Layer) → All (λ layer. layer.bound ≤ largest_number) layers
    → sizes (heads_of layers) < 16_384 → length (flatten (map number_bytes (head_numbers (heads_of layers)))) ≤ 6 * length layers
unfolding flatten total head_numbers
length-head_numbers [] h small = omega arith
length-head_numbers (layer ∷ layers) h small =
    let rest = length-head_numbers layers h.1 (omega arith) in
    let bound = number_bytes-length-le-four layer.bound h.0 in
    let count = number_bytes-length-le-two (length layer.rows) (omega arith) in
    rw (length-append (number_bytes layer.bound), length-append (number_bytes (length layer.rows))) (omega arith)

-- the layers' numbers are at most the largest number
pub head_numbers-most : (layers : List Layer) → All (λ layer. layer.bound ≤ largest_number) layers
    → sizes (heads_of layers) ≤ largest_number → All (λ v. v ≤ largest_number) (head_numbers (heads_of layers))
unfolding total head_numbers
head_numbers-most [] h small = tt
head_numbers-most (layer ∷ layers) h small = (h.0, (omega arith, head_numbers-most layers h.1 (omega arith)))
