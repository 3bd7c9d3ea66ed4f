-- Blocks repeated as rows: the next row, and the block that it is a copy of. Assumes nothing.
use Prim.Native.Nat.{ℕ, ◌+◌, ◌%◌, ◌≤◌, ◌<◌}
use native.Mathlib.Nat.{mod_self}
use native.Mathlib.Numerals.{add-one}
use native.Mathlib.Omega.{arith}
use mathlib.Core.Path.{◌≡◌, ap, ◌∙◌}
use mathlib.Core.List.{List, [], ◌∷◌, ◌++◌, map, flatten, append-nil}
use lib.ListN.{length, get_or}
use Rattle.lists.specs.Lists.{up_to}
use Rattle.lists.proofs.Counts.{flatten-append}
use Rattle.lists.proofs.UpTo.{map-up_to-suc}
use Rattle.packing.specs.Rows.{repeated}

pub flatten-repeated-next : (blocks : List (List ℕ)) (c : ℕ)
    → flatten (repeated blocks (c + 1)) ≡ flatten (repeated blocks c) ++ get_or blocks (c % length blocks) []
unfolding repeated flatten
flatten-repeated-next blocks c =
    rw (add-one c, map-up_to-suc (λ j. get_or blocks (j % length blocks) []) c)
    (flatten-append (map (λ j. get_or blocks (j % length blocks) []) (up_to c)) (get_or blocks (c % length blocks) [] ∷ [])
    ∙ ap
    (λ (l : List ℕ). flatten (map (λ j. get_or blocks (j % length blocks) []) (up_to c)) ++ l)
    (append-nil (get_or blocks (c % length blocks) [])))

-- after the last block the first one comes
pub mod-of-last : {block m : ℕ} → block < m → m ≤ block + 1 → (block + 1) % m ≡ 0
mod-of-last {block} {m} h last = let e : block + 1 ≡ m = omega arith in rw e (mod_self m)
