-- The pack's bytes and what its check says of them. Assumes nothing.
use Prim.Native.Nat.{ℕ, ◌+◌, ◌*◌, ◌-◌, ◌/◌, ◌≤◌, ◌<◌}
use Rattle.std.specs.Prelude.{Result, Ok, Err}
use native.Mathlib.Omega.{arith}
use mathlib.Core.Path.{◌≡◌, refl, ◌∙◌, ap}
use mathlib.Core.List.{List, [], ◌∷◌, ◌++◌, flatten}
use lib.ListN.{length, take, drop, get_or, length-append}
use lib.Seq.{length-take-le, take_at}
use Rattle.lists.specs.Lists.{All, over_start}
use Rattle.refusal.specs.declared.Refusal.{Refusal}
use Rattle.refusal.specs.Refusals.{number_of, place_of}
use Rattle.refusal.specs.Checked.{Checked, accepted, refused}
use Rattle.number.specs.Numbers.{largest_number, number_bytes, forms_of}
use Rattle.number.proofs.Laws.{number_bytes-length-le-four}
use Rattle.layers.specs.Layers.{Located}
use Rattle.pack.specs.Pack.{Pack, read_pack}
use Rattle.pack.specs.declared.PackHead.{PackHead}
use Rattle.pack.specs.declared.PackCheck.{PackCheck}
use Rattle.pack.specs.Answers.{pack_checked}
use Rattle.table.specs.declared.Fault.{Fault}
use Rattle.table.specs.declared.Progress.{Progress}
use Rattle.table.specs.Told.{Told, good, bad, ◌>>=◌}
use Rattle.table.specs.Reading.{Draft, read_text, draft_bytes, line_at, pack_if, pack_draft, pack_of}
use Rattle.table.specs.Progress.{Room, Grown, DraftFits, PackedIn, draft_of, packed_as, pack_most}
use Rattle.table.proofs.Made.{some-replica}

-- numbers take at most four bytes each
forms-length : (numbers : List ℕ) → All (λ v. v ≤ largest_number) numbers → length (forms_of numbers) ≤ 4 * length numbers
unfolding flatten
forms-length [] h = omega arith
forms-length (v ∷ numbers) h =
    rw (length-append (number_bytes v) (forms_of numbers)) (omega (arith, number_bytes-length-le-four v h.0, forms-length numbers h.1))

-- what the check of the bytes says
module _ (m : Checked (Located Pack)) {check : PackCheck} (is : check ≡ pack_checked m) (size : ℕ) (lines : List ℕ) (first r : ℕ) where
  pub made-accepted : {head : PackHead} → check.answer ≡ Ok head → Ok size ≡ packed_as m size lines first r
  made-accepted {head} a = go m (ap (λ k. k.answer) is)
    where
      go : (m : Checked (Located Pack)) → check.answer ≡ (pack_checked m).answer → Ok size ≡ packed_as m size lines first r
      go (accepted file) e = refl
      go (refused why) e = absurd (let z : ◌≡◌ {A = ℕ} 0 1 = cc in omega arith)

  pub made-refused : {why : Refusal} → check.answer ≡ Err why
      → Err (record { number = number_of why; place = get_or lines ((place_of why - first) / r) 0 }) ≡ packed_as m size lines first r
  made-refused {why} a = go m (ap (λ k. k.answer) is)
    where
      go : (m : Checked (Located Pack)) → check.answer ≡ (pack_checked m).answer
          → Err (record { number = number_of why; place = get_or lines ((place_of why - first) / r) 0 }) ≡ packed_as m size lines first r
      go (accepted file) e = absurd (let z : ◌≡◌ {A = ℕ} 0 1 = cc in omega arith)
      go (refused other) e = let same : other ≡ why = cc in rw same refl

  pub made_told : {why : Refusal} {number at place : ℕ} → check.answer ≡ Err why → number ≡ number_of why → at ≡ place_of why
      → place ≡ get_or lines ((at - first) / r) 0 → Err (record { number = number; place = place }) ≡ packed_as m size lines first r
  made_told a number_is at-is place_is = rw (number_is, place_is, at-is) (made-refused a)

-- the pack of a draft
module _ (p : Progress) (numbers rows lines : List ℕ) (fits : DraftFits p numbers rows lines) where
  count-within : p.count ≤ 269
  count-within = let k = fits.kept in omega (arith, k.count_most, k.layers-most, k.r-most)

  pub numbers-room : p.count ≤ length numbers
  numbers-room = omega (arith, count-within, fits.room.for-numbers)

  pub rows-room : p.place ≤ length rows
  rows-room = omega (arith, fits.room.for-rows, fits.kept.place-most, fits.kept.blocks-most)

  pub lines-room : p.blocks ≤ length lines
  lines-room = omega (arith, fits.room.for-lines, fits.kept.blocks-most)

  head-length : length (take p.count numbers) ≡ p.count
  head-length = length-take-le p.count numbers numbers-room

  rows-length : length (take p.place rows) ≡ p.place
  rows-length = length-take-le p.place rows rows-room

  pub draft-room : length (forms_of (take p.count numbers)) + length (take p.place rows) ≤ pack_most
  draft-room =
      omega (
        arith,
        forms-length (take p.count numbers) fits.kept.numbers-most,
        head-length,
        rows-length,
        count-within,
        fits.kept.place-most,
        fits.kept.blocks-most,
      )

  abbrev made : List ℕ
  made = forms_of (take p.count numbers) ++ take p.place rows

  pub draft-packed : (first : ℕ) (out out₀ : List ℕ) → first ≡ length (forms_of (take p.count numbers))
      → out ≡ over_start (forms_of (take p.count numbers) ++ take p.place rows) out₀ → (packed : Result ℕ Fault)
      → packed ≡ packed_as (read_pack (take (first + p.place) out)) (length (take (first + p.place) out)) (take p.blocks lines) first p.r
      → PackedIn (pack_draft (draft_of p numbers rows lines)) packed out₀ out
  unfolding pack_draft draft_bytes line_at
  draft-packed first out out₀ first-is out-is packed is =
      let bytes = forms_of (take p.count numbers) ++ take p.place rows in
      let size : length bytes ≡ first + p.place = rw (length-append (forms_of (take p.count numbers)) (take p.place rows), rows-length, first-is) refl in
      let whole : take (first + p.place) out ≡ bytes =
      (rw out-is (take_at bytes (drop (length bytes) out₀) (first + p.place) size)) in
      go (read_pack bytes) (is ∙ rw (whole, first-is) refl)
    where
      go : (m : Checked (Located Pack))
          → packed ≡ packed_as m (length made) (take p.blocks lines) (length (forms_of (take p.count numbers))) p.r
          → PackedIn (pack_if (draft_of p numbers rows lines) m) packed out₀ out
      go (accepted file) e = rw e (refl, out-is)
      go (refused why) e = rw e refl

  -- the same in the code's words: its parts begin at 0
  pub draft-asks : {size : ℕ} → pack_most ≤ size → All (λ v. v ≤ largest_number) (take (p.count - 0) (drop 0 numbers))
      × (length (forms_of (take (p.count - 0) (drop 0 numbers))) + length (take (p.place - 0) (drop 0 rows)) ≤ size)
  draft-asks h =
      let count : p.count - 0 ≡ p.count = omega arith in
      let place : p.place - 0 ≡ p.place = omega arith in
      rw (count, place) (fits.kept.numbers-most, omega (arith, draft-room))

  module _ {first : ℕ} (first-is : first ≡ length (forms_of (take (p.count - 0) (drop 0 numbers)))) where
    forms-first : first ≡ length (forms_of (take p.count numbers))
    forms-first = let count : p.count - 0 ≡ p.count = omega arith in rw count at first-is

    pub draft-end : first + p.place ≤ pack_most
    draft-end = omega (arith, forms-first, draft-room, rows-length)

    pub draft-told : (out out₀ : List ℕ) → out ≡ over_start (forms_of (take (p.count - 0) (drop 0 numbers)) ++ take (p.place - 0) (drop 0 rows)) out₀
        → (packed : Result ℕ Fault) → packed ≡ packed_as (read_pack (take (first + p.place - 0) (drop 0 out))) (length (take (first + p.place - 0) (drop 0 out)))
        (take (p.blocks - 0) (drop 0 lines)) first p.r → PackedIn (pack_draft (draft_of p numbers rows lines)) packed out₀ out
    draft-told out out₀ out-is packed is =
        let count : p.count - 0 ≡ p.count = omega arith in
        let place : p.place - 0 ≡ p.place = omega arith in
        let blocks : p.blocks - 0 ≡ p.blocks = omega arith in
        let whole : first + p.place - 0 ≡ first + p.place = omega arith in
        draft-packed first out out₀ forms-first (rw (count, place) at out-is) packed (rw (whole, blocks) at is)

-- the pack of a text
module _ (text numbers rows lines : List ℕ) (room : Room numbers rows lines) {added : Result Progress Fault} (grown : Grown (read_text text) added numbers rows lines) where
  pub text-bad : {e : Fault} → added ≡ Err e → (out₀ out : List ℕ) → PackedIn (pack_of text) (Err e) out₀ out
  unfolding pack_of
  text-bad {e} is out₀ out = go (read_text text) (rw is at grown)
    where
      go : (told : Told Draft) → Grown told (Err e) numbers rows lines → PackedIn (told >>= pack_draft) (Err e) out₀ out
      go (good d) g = absurd g
      go (bad f) g = g

  pub text-fits : {p : Progress} → added ≡ Ok p → DraftFits p numbers rows lines
  text-fits {p} is = go (read_text text) refl (rw is at grown)
    where
      go : (told : Told Draft) → read_text text ≡ told → Grown told (Ok p) numbers rows lines → DraftFits p numbers rows lines
      go (good d) e g =
          let some : 0 < d.r = some-replica text e in
          record { kept = g.1; room = room; some-r = rw (← g.0) at some }
      go (bad f) e g = absurd g

  pub text-packed : {p : Progress} → added ≡ Ok p → (packed : Result ℕ Fault) (out₀ out : List ℕ)
      → PackedIn (pack_draft (draft_of p numbers rows lines)) packed out₀ out → PackedIn (pack_of text) packed out₀ out
  unfolding pack_of
  text-packed {p} is packed out₀ out made = go (read_text text) (rw is at grown)
    where
      go : (told : Told Draft) → Grown told (Ok p) numbers rows lines → PackedIn (told >>= pack_draft) packed out₀ out
      go (good d) g = rw (← g.0) made
      go (bad f) g = absurd g
