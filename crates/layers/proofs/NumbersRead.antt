-- Numbers read one after another: where they stand, and that they are the forms of those numbers. Assumes nothing.
use Prim.Native.Nat.{ℕ, ◌+◌, ◌*◌, ◌≤◌}
use native.Mathlib.Omega.{arith}
use mathlib.Core.Path.{◌≡◌, refl}
use mathlib.Core.List.{List, [], ◌∷◌, ◌++◌, append_assoc}
use lib.ListN.{length, length-append}
use lib.Seq.{slice, slice_empty}
use Rattle.refusal.specs.Checked.{accepted}
use Rattle.number.specs.Numbers.{Bytes, Forms, read_number}
use Rattle.number.proofs.Laws.{form-read, read-form, read_next}
use Rattle.lists.proofs.Prefixes.{slice-append}

-- the numbers are read one after another, the first at `at`, and the place after the last is `end`
abbrev pub Reads : List ℕ → List ℕ → (at end : ℕ) → Type 0
Reads [] s at end = at ≡ end
Reads (v ∷ vs) s at end =
    (mid : ℕ) × (read_number s at ≡ accepted (record { value = v; next = mid })) × Reads vs s mid end

-- what is read of the bytes is theirs
pub reads-le : (vs s : List ℕ) (at end : ℕ) → Reads vs s at end → at ≤ end
reads-le [] s at end h = omega arith
reads-le (v ∷ vs) s at end h =
    let le = reads-le vs s h.0 end h.2 in
    let lt = read_next s at h.1 in
    omega arith

pub reads-le-length : (vs s : List ℕ) (at end : ℕ) → at ≤ length s → Reads vs s at end → end ≤ length s
reads-le-length [] s at end k h = omega arith
reads-le-length (v ∷ vs) s at end k h =
    let lt = read_next s at h.1 in
    reads-le-length vs s h.0 end lt.2 h.2

-- a number takes at most four bytes
pub reads-next : (vs s : List ℕ) (at end : ℕ) → Reads vs s at end → end ≤ at + length vs * 4
reads-next [] s at end h = omega arith
reads-next (v ∷ vs) s at end h =
    let rest = reads-next vs s h.0 end h.2 in
    let first = read_next s at h.1 in
    omega arith

-- numbers after numbers
pub reads-append : (vs ws s : List ℕ) (at mid end : ℕ) → Reads vs s at mid → Reads ws s mid end → Reads (vs ++ ws) s at end
reads-append [] ws s at mid end h k = rw h k
reads-append (v ∷ vs) ws s at mid end h k = (h.0, h.1, reads-append vs ws s h.0 mid end h.2 k)

pub reads-split : (vs ws s : List ℕ) (at end : ℕ) → Reads (vs ++ ws) s at end
    → (mid : ℕ) × Reads vs s at mid × Reads ws s mid end
reads-split [] ws s at end h = (at, refl, h)
reads-split (v ∷ vs) ws s at end h =
    let rest = reads-split vs ws s h.0 end h.2 in
    (rest.0, (h.0, h.1, rest.1), rest.2)

-- numbers that were read stand there in their forms
pub reads-forms : (vs s : List ℕ) (at end : ℕ) → Bytes s → at ≤ length s → Reads vs s at end → Forms vs (slice at end s)
reads-forms [] s at end b k h = rw (← h) (slice_empty at s)
reads-forms (v ∷ vs) s at end b k h =
    let first = read-form s at b h.1 in
    let mid = h.0 in
    let most = reads-le-length vs s mid end first.1 h.2 in (
      slice at mid s,
      slice mid end s,
      slice-append at mid end s (omega arith) (reads-le vs s mid end h.2) most,
      first.2,
      reads-forms vs s mid end b first.1 h.2,
    )

-- numbers that stand there in their forms are read
pub forms-reads : (vs pre f t : List ℕ) → Forms vs f → Reads vs (pre ++ (f ++ t)) (length pre) (length pre + length f)
forms-reads [] pre f t h = rw h (omega arith)
forms-reads (v ∷ vs) pre f t h =
    let g = h.0 in
    let k = h.1 in
    let rest = forms-reads vs (pre ++ g) k t h.4 in
    let end : length pre + length g + length k ≡ length pre + length (g ++ k) = omega (arith, length-append g k) in
    let rest' = rw (append_assoc pre g (k ++ t), length-append pre g, end) at rest in
    rw (h.2, append_assoc g k t) (length pre + length g, form-read pre (k ++ t) h.3, rest')
