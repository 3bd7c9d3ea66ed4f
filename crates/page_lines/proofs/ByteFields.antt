-- The fields of every byte, one after another: each of them is a part of them. Assumes nothing.
use Prim.Native.Nat.{ℕ, ◌+◌, ◌*◌, ◌-◌, ◌<◌}
use native.Mathlib.Omega.{arith}
use mathlib.Core.Path.{◌≡◌, ◌∙◌, ap}
use mathlib.Core.List.{List, [], ◌++◌, append-nil}
use lib.ListN.{length, take, drop, drop_of_length-le}
use lib.Seq.{sets}
use Rattle.lists.proofs.Stores.{sets-start}
use Rattle.page.specs.Field.{field}
use Rattle.page.proofs.Joined.{length-joined, joined-part}
use Rattle.page.proofs.Fields.{length-field}
use Rattle.page_lines.specs.ByteFields.{byte_fields}

lengths : (i : ℕ) → i < 256 → length (field i) ≡ 4
lengths i h = length-field i (omega arith)

pub length-byte_fields : length byte_fields ≡ 1_024
length-byte_fields = length-joined field 4 256 lengths

-- a slice of so many bytes is overwritten whole
pub fields-all : (before : List ℕ) → length before ≡ 1_024 → sets before 0 byte_fields ≡ byte_fields
fields-all before e =
    let n = length-byte_fields in
    sets-start before byte_fields (omega arith)
    ∙ ap (λ (l : List ℕ). byte_fields ++ l) (drop_of_length-le before {i = length byte_fields} (omega arith))
    ∙ append-nil byte_fields

-- the field of v, from where it begins to its end
pub field-part : (fields : List ℕ) (v from : ℕ) → v < 256 → fields ≡ byte_fields → from ≡ v
    → take (4 * from + 4 - 4 * from) (drop (4 * from) fields) ≡ field v
field-part fields v from h e same =
    let wide : 4 * from + 4 - 4 * from ≡ 4 = omega arith in
    rw (wide, e, same) (rw (append-nil byte_fields) at (joined-part field 4 256 v [] h lengths))
