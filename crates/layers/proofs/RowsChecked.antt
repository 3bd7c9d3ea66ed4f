-- Which rows are accepted: those that fill the rest of the bytes, are in order and form packings. Assumes nothing.
use Prim.Native.Nat.{ℕ, ◌+◌, ◌*◌, ◌≤◌}
use native.Mathlib.Omega.{arith}
use mathlib.Core.Path.{◌≡◌, refl, sym, ◌∙◌, ap, subst}
use mathlib.Core.List.{List, [], flatten, append-nil}
use mathlib.Core.Option.{Option, none, some}
use lib.ListN.{length, drop, length-drop}
use lib.Seq.{take_all}
use lib.Dec.{T, leb}
use borrow.Author.Tests.{leb-true, le-leb}
use Rattle.lists.specs.Lists.{All}
use Rattle.lists.proofs.Alls.{all-imp, all_both, length-flatten}
use Rattle.refusal.specs.declared.Refusal.{Refusal}
use Rattle.refusal.specs.declared.Refusal.TheVariants.{Ended, Trailing, BadRow, OutOfService, Crowded}
use Rattle.refusal.specs.Checked.{Checked, accepted, ◌>>=◌}
use Rattle.refusal.proofs.Checked.{accepted-injective, refused-not-accepted, require-bind-accepted}
use Rattle.packing.specs.Rows.{Row, is_in_order, first_bad}
use Rattle.packing.proofs.Test.{good-iff-in-order}
use Rattle.layers.specs.Layers.{Layer, Packings, Site, InService, sizes, all_rows, heads_of, layers_at, first_naming, first_crowded_of, refuse_row, check_length, check_end, check_ascending, check_service, check_packings, check_rows}
use Rattle.layers.specs.declared.LayerHead.{LayerHead}
use Rattle.layers.proofs.Lengths.{length-all_rows}
use Rattle.layers.proofs.Layouts.{heads_of-layers_at, flatten-layers_at, layers_at-lengths, layers_at-flatten}
use Rattle.layers.proofs.Packings.{packings-iff-uncrowded}
use Rattle.layers.proofs.Service.{service-iff}

-- no row is refused exactly where none was found
pub refuse_row-bind-accepted : {B : Type 0} (refusal : ℕ → Refusal) (r at : ℕ) (o : Option ℕ) (f : Unit → Checked B) {b : B}
    → (refuse_row refusal r at o >>= f) ≡ accepted b → (o ≡ none) × (f tt ≡ accepted b)
refuse_row-bind-accepted refusal r at none f e = (refl, e)
refuse_row-bind-accepted refusal r at (some i) f e = absurd (refused-not-accepted e)

-- the layers of the rows that start at `at` and end with the bytes, all in order, none naming a node out of service, and each
-- layer a packing
pub record RowsTaken (base : Site) (heads : List LayerHead) (s : List ℕ) (at : ℕ) (layers : List Layer) : Type 0 where
  pub ends : length s ≡ at + sizes heads * base.r
  pub taken : layers_at base.r heads (drop at s) ≡ layers
  pub rows : All (Row base.n base.r) (all_rows layers)
  pub in-service : InService base.dark (all_rows layers)
  pub packings : Packings 0 layers

-- "Then 1 or 5 for the rows' total length, then 6 over all rows", then 15, then 7: none of these exactly where the rows are so
pub taken-of-check_rows : (base : Site) (heads : List LayerHead) (s : List ℕ) (at : ℕ) {layers : List Layer}
    → check_rows base heads s at ≡ accepted layers → RowsTaken base heads s at layers
unfolding check_length check_end check_ascending check_service check_packings check_rows
taken-of-check_rows base heads s at e =
    let layers = layers_at base.r heads (drop at s) in
    let end = at + sizes heads * base.r in
    let (t₁, e₁) = require-bind-accepted (leb end (length s)) (Ended (length s)) _ e in
    let (t₂, e₂) = require-bind-accepted (leb (length s) end) (Trailing end) _ e₁ in
    let (t₃, e₃) = refuse_row-bind-accepted BadRow base.r at (first_bad base.n (all_rows layers)) _ e₂ in
    let (t₄, e₄) = refuse_row-bind-accepted OutOfService base.r at (first_naming base.dark (all_rows layers)) _ e₃ in
    let (t₅, e₅) = refuse_row-bind-accepted Crowded base.r at (first_crowded_of 0 layers) _ e₄ in
    let least = leb-true end (length s) t₁ in
    let most = leb-true (length s) end t₂ in
    let lengths = layers_at-lengths base.r heads (drop at s) (rw length-drop (omega arith)) in
    let ordered = (good-iff-in-order base.n (all_rows layers)).0 t₃ in
    let rows = all_both (λ row. length row ≡ base.r) (λ row. T (is_in_order base.n row)) (all_rows layers) lengths ordered in
    subst
    (RowsTaken base heads s at)
    (accepted-injective e₅)
    (record {
      ends = omega arith;
      taken = refl;
      rows = rows;
      in-service = (service-iff base.dark (all_rows layers)).0 t₄;
      packings = (packings-iff-uncrowded base.n base.r 0 layers rows).0 t₅;
    })

pub check_rows-accepted : (base : Site) (heads : List LayerHead) (s : List ℕ) (at : ℕ) {layers : List Layer}
    → RowsTaken base heads s at layers → check_rows base heads s at ≡ accepted layers
unfolding check_length check_end check_ascending check_service check_packings check_rows
check_rows-accepted base heads s at {layers} h =
    let e = h.ends in
    let ordered = all-imp (Row base.n base.r) (λ row. T (is_in_order base.n row)) (λ row g. g.1) (all_rows layers) h.rows in
    rw (
      le-leb (at + sizes heads * base.r) (length s) (omega arith),
      le-leb (length s) (at + sizes heads * base.r) (omega arith),
      h.taken,
      (good-iff-in-order base.n (all_rows layers)).1 ordered,
      (service-iff base.dark (all_rows layers)).1 h.in-service,
      (packings-iff-uncrowded base.n base.r 0 layers h.rows).1 h.packings,
    )

-- Such layers have the head's numbers, and their rows one after another are the rest of the bytes.
pub taken-heads : (base : Site) (heads : List LayerHead) (s : List ℕ) (at : ℕ) {layers : List Layer}
    → RowsTaken base heads s at layers → heads_of layers ≡ heads
taken-heads base heads s at h = rw (← h.taken) (heads_of-layers_at base.r heads (drop at s))

pub taken-bytes : (base : Site) (heads : List LayerHead) (s : List ℕ) (at : ℕ) {layers : List Layer}
    → RowsTaken base heads s at layers → drop at s ≡ flatten (all_rows layers)
taken-bytes base heads s at h =
    let e = h.ends in
    let all = take_all (sizes heads * base.r) (drop at s) (rw length-drop (omega arith)) in
    rw (← h.taken) (sym (flatten-layers_at base.r heads (drop at s) ∙ all))

-- Rows that are the rest of the bytes are taken apart into their layers.
pub taken-of-bytes : (base : Site) (s : List ℕ) (at : ℕ) (layers : List Layer) → at ≤ length s
    → drop at s ≡ flatten (all_rows layers) → All (Row base.n base.r) (all_rows layers)
    → InService base.dark (all_rows layers) → Packings 0 layers
    → RowsTaken base (heads_of layers) s at layers
taken-of-bytes base s at layers inside bytes rows service packings =
    let lengths = all-imp (Row base.n base.r) (λ row. length row ≡ base.r) (λ row g. g.0) (all_rows layers) rows in
    let len = length-flatten base.r (all_rows layers) lengths ∙ ap (λ c. c * base.r) (length-all_rows layers) in
    record {
      ends = let d = ap length bytes in omega (arith, length-drop at s);
      taken = rw (bytes, ← append-nil (flatten (all_rows layers))) (layers_at-flatten base.r layers [] lengths);
      rows = rows;
      in-service = service;
      packings = packings;
    }
