-- Where layer 0 has all rows its load alone can settle the packing test of all layers. Assumes nothing.
use Prim.Native.Nat.{ℕ, zero, suc, ◌*◌, ◌≤◌, ◌<◌}
use native.Mathlib.Nat.{zero-lt-suc}
use native.Mathlib.Omega.{arith}
use mathlib.Core.Path.{◌≡◌, refl}
use mathlib.Core.List.{List, [], ◌∷◌}
use mathlib.Core.Option.{none}
use lib.ListN.{take, drop, get_or}
use Rattle.lists.specs.Lists.{total, first_where}
use Rattle.refusal.specs.Checked.{accepted}
use Rattle.packing.specs.Rows.{rows_at, first_crowded}
use Rattle.packing.specs.Load.{most}
use Rattle.crowding.proofs.Crowded.{first-none-of-loads}
use Rattle.layers.specs.Layers.{sizes, layers_at, first_crowded_of, check_packings}
use Rattle.layers.specs.Answers.{no_head}
use Rattle.layers.specs.declared.LayerHead.{LayerHead}

-- layers without rows have no crowded one
no_rows : (x r : ℕ) (heads : List LayerHead) (s : List ℕ) → sizes heads ≡ 0 → first_crowded_of x (layers_at r heads s) ≡ none
unfolding first_crowded_of layers_at total rows_at first_crowded first_where
no_rows x r [] s e = refl
no_rows x r (head ∷ heads) s e =
    let empty : head.size ≡ 0 = omega arith in
    rw (empty, no_rows (suc x) r heads (drop (0 * r) s) (omega arith))

pub load-settles : (r layers : ℕ) (heads : List LayerHead) (s : List ℕ) (at c : ℕ) → ((i : ℕ) → get_or s i 0 < 256)
    → (0 < layers → c ≡ (get_or heads 0 no_head).size) → c ≡ sizes (take layers heads)
    → most 256 (rows_at r c s) ≤ (get_or heads 0 no_head).bound → check_packings r at (layers_at r (take layers heads) s) ≡ accepted tt
unfolding check_packings first_crowded_of layers_at total
load-settles r zero heads s at c bytes first all low = refl
load-settles r (suc layers) [] s at c bytes first all low = refl
load-settles r (suc layers) (head ∷ heads) s at c bytes first all low =
    let same : c ≡ head.size = first (zero-lt-suc layers) in
    let none_here : first_crowded 0 head.bound (rows_at r head.size s) ≡ none =
    first-none-of-loads r head.size s bytes 0 head.bound (rw same at low)
    in
    rw (none_here, no_rows 1 r (take layers heads) (drop (head.size * r) s) (omega arith))
