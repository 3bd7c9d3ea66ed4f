-- Reading a number and its forms are two sides of one thing: what is read is a form, and a form is read. Assumes nothing.
use Prim.Native.Nat.{ℕ, suc, ◌+◌, ◌-◌, ◌≤◌, ◌<◌}
use native.Mathlib.Omega.{arith}
use native.Mathlib.Nat.{zero-add, one-mul}
use mathlib.Core.Path.{◌≡◌, sym, ◌∙◌, ap}
use mathlib.Core.Logic.{◌↔◌, ◌⊎◌}
use mathlib.Core.List.{List, ◌++◌}
use lib.ListN.{length, take, drop, length-drop, take-append-drop}
use lib.Seq.{slice, drop-append-le, drop-append_seam, length-take-le}
use Rattle.refusal.specs.declared.Refusal.{Refusal}
use Rattle.refusal.specs.declared.Refusal.TheVariants.{Ended, Malformed}
use Rattle.refusal.specs.Checked.{accepted, refused}
use Rattle.number.specs.Numbers.{Bytes, Form, largest_number, number_bytes, read_number}
use Rattle.number.specs.declared.Reading.{Reading}
use Rattle.number.proofs.Groups.{capacity, groups-small, groups-grouped, groups-count_up, groups-length-le, groups-length-le-more, count_up-lt, grouped-length-pos, grouped-bytes}
use Rattle.number.proofs.ReadGroups.{grouped-read_groups, read_groups-grouped, read_groups-next, read_groups-refused, read_groups-take}

-- "The largest is 268,435,455": a number fits four groups.
fits-four : (v : ℕ) → v ≤ largest_number → v < capacity 4
fits-four v h = omega arith

-- A form is read wherever it stands: its number, and the place after it.
pub form-read-at : {v : ℕ} {g : List ℕ} (s t : List ℕ) (at : ℕ) → Form v g → drop at s ≡ g ++ t
    → read_number s at ≡ accepted (record { value = v; next = at + length g })
unfolding read_number
form-read-at {v} {g} s t at form e =
    rw (one-mul, zero-add, form.counts) at (read_groups-grouped 3 g s t at at 1 0 e form.grouped form.most-four)

-- The same after any bytes: the number that stands between pre and t is read.
pub form-read : {v : ℕ} {g : List ℕ} (pre t : List ℕ) → Form v g
    → read_number (pre ++ (g ++ t)) (length pre) ≡ accepted (record { value = v; next = length pre + length g })
form-read {g = g} pre t form =
    form-read-at (pre ++ (g ++ t)) t (length pre) form (drop-append_seam pre (g ++ t))

-- A number read takes at least one byte and at most four, all of the input.
pub read_next : (s : List ℕ) (at : ℕ) {n : Reading} → read_number s at ≡ accepted n
    → (n.next ≤ at + 4) × (at < n.next) × (n.next ≤ length s)
unfolding read_number
read_next s at {n} e =
    let place = read_groups-next 4 s at at 1 0 n e in
    (place.1, place.0, place.2)

-- the bytes between two places are as many as the second is further on
slice-length : (s : List ℕ) (at next : ℕ) → next ≤ length s → length (slice at next s) ≡ next - at
slice-length s at next h = length-drop at (take next s) ∙ rw (length-take-le next s h)

-- Request (b): reading "gives the length taken", 1 to 4: the next place less the start.
pub read_length : (s : List ℕ) (at : ℕ) {n : Reading} → read_number s at ≡ accepted n
    → (length (slice at n.next s) ≡ n.next - at) × (1 ≤ n.next - at) × (n.next - at ≤ 4)
read_length s at {n} e =
    let place = read_next s at e in
    (slice-length s at n.next place.2, omega arith, omega arith)

-- A refused reading is refusal 1 at the input's length or refusal 2 at the number's start.
pub read-refused : (s : List ℕ) (at : ℕ) {why : Refusal} → read_number s at ≡ refused why
    → (why ≡ Ended (length s)) ⊎ (why ≡ Malformed at)
unfolding read_number
read-refused s at {why} e = read_groups-refused 4 s at at 1 0 why e

-- What is read is a form: the bytes from the number's start to the next place.
pub read-form : (s : List ℕ) (at : ℕ) {n : Reading} → Bytes s → read_number s at ≡ accepted n
    → (at < n.next) × (n.next ≤ length s) × Form n.value (slice at n.next s)
unfolding read_number
read-form s at {n} bytes e =
    let r = grouped-read_groups 4 s at at 1 0 n bytes e in
    let place = read_next s at e in
    let taken = slice-length s at n.next place.2 in
    let form : Form n.value (slice at n.next s) = record {
      grouped = r.grouped;
      most-four = omega arith;
      counts = sym (r.value-is ∙ (rw (one-mul, zero-add)));
    } in
    (place.1, place.2, form)

-- A reading gives a number and the next place exactly where the bytes between are a form of it.
pub read-iff-form : (s : List ℕ) (at : ℕ) (n : Reading) → Bytes s
    → (read_number s at ≡ accepted n) ↔ ((n.next ≤ length s) × Form n.value (slice at n.next s))
read-iff-form s at n bytes = (λ e. let f = read-form s at bytes e in (f.1, f.2), from)
  where
    from : (n.next ≤ length s) × Form n.value (slice at n.next s) → read_number s at ≡ accepted n
    from (inside, form) =
        let some = grouped-length-pos (slice at n.next s) form.grouped in
        let taken = slice-length s at n.next inside in
        let before = length-take-le n.next s inside in
        let stands : drop at s ≡ slice at n.next s ++ drop n.next s =
        ap (drop at) (sym (take-append-drop n.next s))
        ∙ drop-append-le at (take n.next s) (drop n.next s) (omega arith) in
        let next : at + length (slice at n.next s) ≡ n.next = omega arith in
        rw next at (form-read-at s (drop n.next s) at form stands)

-- Reading looks at four bytes at most.
pub read-local : (m : ℕ) (s : List ℕ) (at : ℕ) → at + 4 ≤ m → m ≤ length s → read_number (take m s) at ≡ read_number s at
unfolding read_number
read-local m s at h le = read_groups-take 4 m s at at 1 0 h le

-- a form is of one number
pub form-value-unique : {v w : ℕ} {f : List ℕ} → Form v f → Form w f → v ≡ w
form-value-unique p q = sym p.counts ∙ q.counts

-- "It has one to four groups."
pub form-length : {v : ℕ} {f : List ℕ} → Form v f → (1 ≤ length f) × (length f ≤ 4)
form-length {f = f} p = (grouped-length-pos f p.grouped, p.most-four)

pub form-bytes : {v : ℕ} {f : List ℕ} → Form v f → Bytes f
form-bytes {f = f} p = grouped-bytes f p.grouped

-- "The largest is 268,435,455."
pub form-most : {v : ℕ} {f : List ℕ} → Form v f → v ≤ largest_number
form-most {f = f} p = let less = count_up-lt f 4 p.most-four in omega (arith, p.counts)

-- the shortest form is a form
pub form-number_bytes : (v : ℕ) → v ≤ largest_number → Form v (number_bytes v)
unfolding number_bytes
form-number_bytes v h =
    let fits = fits-four v h in
    record { grouped = groups-grouped 3 v fits; most-four = groups-length-le-more 3 v; counts = groups-count_up 3 v fits }

-- and no form is shorter
pub form-shortest : {v : ℕ} {f : List ℕ} → Form v f → length (number_bytes v) ≤ length f
unfolding number_bytes
form-shortest {v} {f} p =
    let (some, few) = form-length p in
    let less : v < capacity (suc (length f - 1)) = rw (← p.counts) (count_up-lt f (suc (length f - 1)) (omega arith)) in
    let short = groups-length-le (length f - 1) 3 v less (omega arith) in
    omega arith

pub number_bytes-length-one : (v : ℕ) → v < 128 → length (number_bytes v) ≡ 1
unfolding number_bytes
number_bytes-length-one v h = ap length (groups-small 3 v h)

pub number_bytes-length-le-two : (v : ℕ) → v < 16384 → length (number_bytes v) ≤ 2
unfolding number_bytes
number_bytes-length-le-two v h = groups-length-le 1 3 v h (omega arith)

pub number_bytes-length-le-four : (v : ℕ) → v ≤ largest_number → length (number_bytes v) ≤ 4
unfolding number_bytes
number_bytes-length-le-four v h = groups-length-le 3 3 v (fits-four v h) (omega arith)
