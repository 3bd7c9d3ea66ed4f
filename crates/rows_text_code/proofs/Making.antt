-- The bytes of the bare rows and what their check says of them. Assumes nothing.
use Prim.Native.Nat.{ℕ, ◌+◌, ◌-◌, ◌/◌, ◌<◌}
use Rattle.std.specs.Prelude.{Result, Ok, Err}
use native.Mathlib.Omega.{arith}
use mathlib.Core.Path.{◌≡◌, refl, ◌∙◌, ap}
use mathlib.Core.List.{List, ◌++◌}
use lib.ListN.{length, take, drop, get_or, length-append}
use lib.Seq.{length-take-le, take_at}
use Rattle.lists.specs.Lists.{over_start}
use Rattle.refusal.specs.declared.Refusal.{Refusal}
use Rattle.refusal.specs.Refusals.{number_of, place_of}
use Rattle.refusal.specs.Checked.{Checked, accepted, refused}
use Rattle.refusal.proofs.Answered.{answered-err, answered-ok}
use Rattle.number.specs.Numbers.{forms_of}
use Rattle.layers.specs.Layers.{Located}
use Rattle.certify.specs.Bare.{Bare, read_bare}
use Rattle.certify.specs.Answers.{bare_read}
use Rattle.certify.specs.declared.BareRead.{BareRead}
use Rattle.table.specs.declared.Fault.{Fault}
use Rattle.table.specs.declared.Progress.{Progress}
use Rattle.table.specs.Told.{Told, good, bad, ◌>>=◌}
use Rattle.table.specs.Reading.{Draft, draft_bytes, line_at}
use Rattle.table.specs.Progress.{Room, Grown, DraftFits, PackedIn, draft_of}
use Rattle.table_code.proofs.Making.{rows-room}
use Rattle.rows_text.specs.Reading.{read_text}
use Rattle.rows_text.specs.Making.{rows_if, made_as, rows_draft, rows_of}
use Rattle.rows_text.proofs.Made.{some-replica}

-- what the check of the bytes says
module _ (m : Checked (Located Bare)) {given : Result BareRead Refusal} (is : given ≡ bare_read m) (size : ℕ) (lines : List ℕ) (first r : ℕ) where
  pub made-accepted : {read : BareRead} → given ≡ Ok read → Ok size ≡ made_as m size lines first r
  made-accepted a = let (file, taken, made) = answered-ok _ m is a in rw taken refl

  made-refused : {why : Refusal} → given ≡ Err why
      → Err (record { number = number_of why; place = get_or lines ((place_of why - first) / r) 0 }) ≡ made_as m size lines first r
  made-refused a = rw (answered-err _ m is a) refl

  pub made_told : {why : Refusal} {number at place : ℕ} → given ≡ Err why → number ≡ number_of why → at ≡ place_of why
      → place ≡ get_or lines ((at - first) / r) 0 → Err (record { number = number; place = place }) ≡ made_as m size lines first r
  made_told a number_is at-is place_is = rw (number_is, place_is, at-is) (made-refused a)

-- the bare rows of a draft
module _ (p : Progress) (numbers rows lines : List ℕ) (fits : DraftFits p numbers rows lines) where
  rows-length : length (take p.place rows) ≡ p.place
  rows-length = length-take-le p.place rows (rows-room p numbers rows lines fits)

  abbrev made : List ℕ
  made = forms_of (take p.count numbers) ++ take p.place rows

  draft-packed : (first : ℕ) (out out₀ : List ℕ) → first ≡ length (forms_of (take p.count numbers))
      → out ≡ over_start (forms_of (take p.count numbers) ++ take p.place rows) out₀ → (packed : Result ℕ Fault)
      → packed ≡ made_as (read_bare (take (first + p.place) out)) (length (take (first + p.place) out)) (take p.blocks lines) first p.r
      → PackedIn (rows_draft (draft_of p numbers rows lines)) packed out₀ out
  unfolding rows_draft draft_bytes line_at
  draft-packed first out out₀ first-is out-is packed is =
      let bytes = forms_of (take p.count numbers) ++ take p.place rows in
      let size : length bytes ≡ first + p.place = rw (length-append (forms_of (take p.count numbers)) (take p.place rows), rows-length, first-is) refl in
      let whole : take (first + p.place) out ≡ bytes =
      (rw out-is (take_at bytes (drop (length bytes) out₀) (first + p.place) size)) in
      go (read_bare bytes) (is ∙ rw (whole, first-is) refl)
    where
      go : (m : Checked (Located Bare))
          → packed ≡ made_as m (length made) (take p.blocks lines) (length (forms_of (take p.count numbers))) p.r
          → PackedIn (rows_if (draft_of p numbers rows lines) m) packed out₀ out
      go (accepted file) e = rw e (refl, out-is)
      go (refused why) e = rw e refl

  -- the same in the code's words: its parts begin at 0
  module _ {first : ℕ} (first-is : first ≡ length (forms_of (take (p.count - 0) (drop 0 numbers)))) where
    forms-first : first ≡ length (forms_of (take p.count numbers))
    forms-first = let count : p.count - 0 ≡ p.count = omega arith in rw count at first-is

    pub draft-told : (out out₀ : List ℕ) → out ≡ over_start (forms_of (take (p.count - 0) (drop 0 numbers)) ++ take (p.place - 0) (drop 0 rows)) out₀
        → (packed : Result ℕ Fault) → packed ≡ made_as (read_bare (take (first + p.place - 0) (drop 0 out))) (length (take (first + p.place - 0) (drop 0 out)))
        (take (p.blocks - 0) (drop 0 lines)) first p.r → PackedIn (rows_draft (draft_of p numbers rows lines)) packed out₀ out
    draft-told out out₀ out-is packed is =
        let count : p.count - 0 ≡ p.count = omega arith in
        let place : p.place - 0 ≡ p.place = omega arith in
        let blocks : p.blocks - 0 ≡ p.blocks = omega arith in
        let whole : first + p.place - 0 ≡ first + p.place = omega arith in
        draft-packed first out out₀ forms-first (rw (count, place) at out-is) packed (rw (whole, blocks) at is)

-- the bare rows of a text
module _ (text numbers rows lines : List ℕ) (room : Room numbers rows lines) {added : Result Progress Fault} (grown : Grown (read_text text) added numbers rows lines) where
  pub text-bad : {e : Fault} → added ≡ Err e → (out₀ out : List ℕ) → PackedIn (rows_of text) (Err e) out₀ out
  unfolding rows_of
  text-bad {e} is out₀ out = go (read_text text) (rw is at grown)
    where
      go : (told : Told Draft) → Grown told (Err e) numbers rows lines → PackedIn (told >>= rows_draft) (Err e) out₀ out
      go (good d) g = absurd g
      go (bad f) g = g

  pub text-fits : {p : Progress} → added ≡ Ok p → DraftFits p numbers rows lines
  text-fits {p} is = go (read_text text) refl (rw is at grown)
    where
      go : (told : Told Draft) → read_text text ≡ told → Grown told (Ok p) numbers rows lines → DraftFits p numbers rows lines
      go (good d) e g =
          let some : 0 < d.r = some-replica text e in
          record { kept = g.1; room = room; some-r = rw (← g.0) at some }
      go (bad f) e g = absurd g

  pub text-packed : {p : Progress} → added ≡ Ok p → (packed : Result ℕ Fault) (out₀ out : List ℕ)
      → PackedIn (rows_draft (draft_of p numbers rows lines)) packed out₀ out → PackedIn (rows_of text) packed out₀ out
  unfolding rows_of
  text-packed {p} is packed out₀ out made = go (read_text text) (rw is at grown)
    where
      go : (told : Told Draft) → Grown told (Ok p) numbers rows lines → PackedIn (told >>= rows_draft) packed out₀ out
      go (good d) g = rw (← g.0) made
      go (bad f) g = absurd g
