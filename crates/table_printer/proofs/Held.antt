-- The text of a pack, from what its check hands on. Assumes nothing.
use Prim.Native.Nat.{ℕ, ◌+◌, ◌*◌, ◌-◌, ◌≤◌}
use Rattle.std.specs.Prelude.{Ok, Err}
use native.Mathlib.Omega.{arith}
use mathlib.Core.Path.{◌≡◌, refl, sym, ◌∙◌, ap}
use mathlib.Core.List.{List, [], ◌∷◌, ◌++◌, map, flatten, append-nil}
use lib.ListN.{length, take, drop, replicate, length-append, length-map}
use lib.Seq.{take_at, take-take}
use Rattle.lists.proofs.Alls.{all-imp}
use Rattle.lists.proofs.Writing.{take-drop-rest}
use Rattle.refusal.specs.declared.Refusal.{Refusal}
use Rattle.refusal.specs.Checked.{Checked, accepted, refused, map_accepted}
use Rattle.packing.specs.Rows.{Row}
use Rattle.layers.specs.Layers.{Located, all_rows, heads_of, sizes, layers_at}
use Rattle.layers.specs.Answers.{five_heads, dark_of, dark_list, no_head}
use Rattle.layers.specs.declared.LayerHead.{LayerHead}
use Rattle.layers.specs.declared.Dark.{Dark}
use Rattle.layers.proofs.Layouts.{layers_at-flatten}
use Rattle.layers.proofs.Lengths.{length-all_rows}
use Rattle.layers.proofs.Listing.{dark-count, dark_list-dark_of}
use Rattle.lists.proofs.Alls.{length-flatten}
use Rattle.pack.specs.Pack.{Pack, GoodPack, read_pack, check_pack}
use Rattle.pack.specs.Answers.{pack_head, pack_checked}
use Rattle.pack.specs.declared.PackHead.{PackHead}
use Rattle.pack.specs.declared.PackCheck.{PackCheck}
use Rattle.pack.proofs.Accepted.{read-of-pack, blocks-stand}
use Rattle.report.specs.Programs.{refused_line, or_refused_line}
use Rattle.report.specs.Replies.{Replied}
use Rattle.report_lines.specs.Put.{Put}
use Rattle.report_lines.proofs.Lengths.{rest-most}
use Rattle.table.specs.declared.Word.TheVariants.{Table}
use Rattle.table.specs.Printing.{text_line, out_text, layer_text, table_text, table_reply, table_most, held_text, PackHeld}
use Rattle.table.proofs.Lengths.{text-length}
use Rattle.line_printer.proofs.Stored.{put_both, put-replied}

module _ (head : PackHead) (heads : List LayerHead) (dark : Dark) (rows out : List ℕ) (held : PackHeld head heads dark rows) (room : table_most ≤ length out) where
  abbrev first-line : List ℕ
  first-line = text_line Table (head.n ∷ head.r ∷ [])

  abbrev layers-text : List ℕ
  layers-text = flatten (map layer_text (layers_at head.r (take head.r heads) rows))

  whole_length : length (held_text head heads dark rows) ≡ length first-line + (length (out_text (dark_list dark)) + length layers-text)
  unfolding held_text
  whole_length = length-append first-line (out_text (dark_list dark) ++ layers-text) ∙ ap (λ n. length first-line + n) (length-append (out_text (dark_list dark)) layers-text)

  module _ {one : List ℕ} {first : ℕ} (put₁ : Put first-line out 0 first one) (len₁ : length one ≡ length out) where
    pub out-room : first + 6_000 ≤ length one
    out-room = omega (arith, put₁.ends, rest-most (head.n ∷ head.r ∷ []))

    module _ {two : List ℕ} {second : ℕ} (put₂ : Put (out_text (dark_list dark)) one first second two) (len₂ : length two ≡ length one) where
      pub layers-room : second + length layers-text + 128 ≤ length two
      layers-room = omega (arith, put₁.ends, put₂.ends, whole_length, held.short)

      pub table-replied : {after : List ℕ} {next : ℕ} → Put layers-text two second next after
          → Replied (held_text head heads dark rows) next out after
      unfolding held_text
      table-replied put₃ =
          put-replied (first-line ++ (out_text (dark_list dark) ++ layers-text)) out (omega (arith, whole_length, held.short)) (put_both put₁ (put_both put₂ put₃))

-- of at most five layers' heads the code's array has all
take-five : (heads : List LayerHead) (r : ℕ) → length heads ≡ r → r ≤ 5 → take r (five_heads heads) ≡ heads
take-five heads r is most =
    take-take r 5 (heads ++ replicate 5 no_head) most ∙ take_at heads (replicate 5 no_head) r is

-- what the check of an accepted input hands on
record AcceptedFile (input : List ℕ) (check : PackCheck) (head : PackHead) : Type 0 where
  pub file : Located Pack
  pub read : read_pack input ≡ accepted file
  pub head-is : head ≡ pack_head file
  pub heads-are : check.layers ≡ five_heads (heads_of file.content.layers)
  pub dark-is : check.dark ≡ dark_of file.content.dark

the-file : (input : List ℕ) {check : PackCheck} → check ≡ pack_checked (read_pack input) → {head : PackHead} → check.answer ≡ Ok head
    → AcceptedFile input check head
the-file input {check} is {head} a = go (read_pack input) refl is
  where
    go : (m : Checked (Located Pack)) → read_pack input ≡ m → check ≡ pack_checked m → AcceptedFile input check head
    go (accepted file) e h =
        let answer = ap (λ k. k.answer) h in
        record { file = file; read = e; head-is = cc; heads-are = ap (λ k. k.layers) h; dark-is = ap (λ k. k.dark) h }
    go (refused why) e h = let answer = ap (λ k. k.answer) h in absurd (let z : ◌≡◌ {A = ℕ} 0 1 = cc in omega arith)

-- its blocks stand behind its head
module _ (input : List ℕ) (file : Located Pack) (read : read_pack input ≡ accepted file) {head : PackHead} (head-is : head ≡ pack_head file) where
  blocks-inside : head.first ≤ length input
  blocks-inside = rw head-is (blocks-stand input file read).0

  abbrev rows : List ℕ
  rows = take (length input - head.first) (drop head.first input)

  rows_are : rows ≡ flatten (all_rows file.content.layers)
  rows_are = take-drop-rest input head.first ∙ rw head-is (blocks-stand input file read).1

  good-pack : GoodPack file.content
  good-pack = (read-of-pack input file.content file.first read).1

  abbrev content : Pack
  content = file.content

  dark-few : length content.dark ≤ 255
  dark-few = omega (arith, dark-count content.n content.dark good-pack.limits.dark-order, good-pack.limits.base.n-most)

  own-layers : layers_at content.r (heads_of content.layers) (flatten (all_rows content.layers)) ≡ content.layers
  own-layers =
      let lengths = all-imp (Row content.n content.r) (λ row. length row ≡ content.r) (λ row h. h.0) (all_rows content.layers) good-pack.rows in
      ap (layers_at content.r (heads_of content.layers)) (sym (append-nil (flatten (all_rows content.layers))))
      ∙ layers_at-flatten content.r content.layers [] lengths

  module _ {heads : List LayerHead} (heads-are : heads ≡ five_heads (heads_of content.layers)) {dark : Dark} (dark-is : dark ≡ dark_of content.dark) where
    own-heads : take head.r heads ≡ heads_of content.layers
    own-heads =
        rw (head-is, heads-are)
        (take-five (heads_of content.layers) content.r (length-map content.layers _ ∙ good-pack.limits.layer-each) good-pack.limits.base.r-most)

    own-dark : dark_list dark ≡ content.dark
    own-dark = rw dark-is (dark_list-dark_of content.dark dark-few)

    same_text : held_text head heads dark rows ≡ table_text content
    unfolding held_text table_text
    same_text = rw (own-heads, own-dark, rows_are, head-is, own-layers) refl

    own_held : PackHeld head heads dark rows
    own_held =
        let lengths = all-imp (Row content.n content.r) (λ row. length row ≡ content.r) (λ row h. h.0) (all_rows content.layers) good-pack.rows in
        let size : length (flatten (all_rows content.layers)) ≡ sizes (heads_of content.layers) * content.r =
        length-flatten content.r (all_rows content.layers) lengths ∙ ap (λ n. n * content.r) (length-all_rows content.layers) in
        record {
          r-most = rw head-is good-pack.limits.base.r-most;
          dark-few = rw dark-is dark-few;
          rows-there = rw (own-heads, rows_are, head-is) (omega (arith, size));
          short = rw same_text (omega (arith, text-length content good-pack));
        }

-- the same of the code's values
module _ (input : List ℕ) {check : PackCheck} (is : check ≡ pack_checked (read_pack input)) {head : PackHead} (a : check.answer ≡ Ok head) where
  pub first-inside : head.first ≤ length input
  first-inside = let f = the-file input is a in blocks-inside input f.file f.read f.head-is

  pub pack-held : PackHeld head check.layers check.dark (take (length input - head.first) (drop head.first input))
  pack-held = let f = the-file input is a in own_held input f.file f.read f.head-is f.heads-are f.dark-is

  pub accepted-text : {before after : List ℕ} {next : ℕ}
      → Replied (held_text head check.layers check.dark (take (length input - head.first) (drop head.first input))) next before after
      → Replied (table_reply input) next before after
  unfolding table_reply check_pack
  accepted-text {before} {after} {next} r =
      let f = the-file input is a in
      let same = same_text input f.file f.read f.head-is f.heads-are f.dark-is in
      rw f.read (rw same at r)

-- a refusal's line
pub refused-text : (input : List ℕ) {check : PackCheck} → check ≡ pack_checked (read_pack input) → {why : Refusal} → check.answer ≡ Err why
    → {before after : List ℕ} {next : ℕ} → Replied (refused_line why) next before after → Replied (table_reply input) next before after
unfolding table_reply check_pack
refused-text input {check} is {why} a {before} {after} {next} r = go (read_pack input) is
  where
    go : (m : Checked (Located Pack)) → check ≡ pack_checked m
        → Replied (or_refused_line (map_accepted table_text (map_accepted (λ file. file.content) m))) next before after
    go (accepted file) h = let answer = ap (λ k. k.answer) h in absurd (let z : ◌≡◌ {A = ℕ} 0 1 = cc in omega arith)
    go (refused other) h =
        let answer = ap (λ k. k.answer) h in
        let same : other ≡ why = cc in
        rw same r
