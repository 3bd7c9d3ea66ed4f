-- The text of bare rows, from what their check hands on. Assumes nothing.
use Prim.Native.Nat.{ℕ, ◌+◌, ◌*◌, ◌-◌, ◌≤◌}
use Rattle.std.specs.Prelude.{Result, Ok, Err}
use native.Mathlib.Omega.{arith}
use mathlib.Core.Path.{◌≡◌, ◌∙◌, ap}
use mathlib.Core.List.{List, [], ◌∷◌, ◌++◌, map, flatten}
use lib.ListN.{length, take, drop, length-append}
use Rattle.refusal.specs.declared.Refusal.{Refusal}
use Rattle.packing.specs.Rows.{rows_at}
use Rattle.layers.specs.Answers.{dark_list}
use Rattle.layers.specs.declared.Base.{Base}
use Rattle.layers.specs.declared.Dark.{Dark}
use Rattle.layers.proofs.Listing.{dark-count}
use Rattle.placement.specs.declared.Order.{Order}
use Rattle.certify.specs.Answers.{bare_read}
use Rattle.certify.specs.Asked.{BareHeld, held_bare}
use Rattle.certify.specs.Bare.{read_bare}
use Rattle.certify.specs.declared.BareRead.{BareRead}
use Rattle.certify.proofs.Answered.{BareFound, bare-refused}
use Rattle.certify.proofs.Writing.{rows-asked, found-is}
use Rattle.report.specs.Programs.{rest, refused_line}
use Rattle.report.specs.Replies.{Replied}
use Rattle.report_lines.specs.Put.{Put}
use Rattle.report_lines.proofs.Lengths.{rest-most}
use Rattle.table.specs.Printing.{out_text, table_most}
use Rattle.line_printer.proofs.Stored.{put_both, put-replied}
use Rattle.rows_text.specs.declared.RowsWord.TheVariants.{Rows, Order as OrderWord}
use Rattle.rows_text_print.specs.Printing.{text_line, rows_text, listing_reply}
use Rattle.rows_text_print.proofs.Lengths.{text-length}

module _ (base : Base) (order : Order) (rows out : List ℕ) (held : BareHeld base order rows) (room : table_most ≤ length out) where
  abbrev first-line : List ℕ
  first-line = text_line Rows (base.n ∷ base.r ∷ [])

  abbrev out_line : List ℕ
  out_line = out_text (dark_list base.dark)

  abbrev order-line : List ℕ
  order-line = text_line OrderWord (order.s ∷ order.k ∷ [])

  abbrev row-lines : List ℕ
  row-lines = flatten (map rest (rows_at base.r order.b rows))

  whole_length : length (rows_text (held_bare base order rows)) ≡ length first-line + (length out_line + (length order-line + length row-lines))
  unfolding rows_text
  whole_length =
      length-append first-line (out_line ++ (order-line ++ row-lines))
      ∙ ap (λ n. length first-line + n) (length-append out_line (order-line ++ row-lines)
      ∙ ap (λ n. length out_line + n) (length-append order-line row-lines))

  pub dark-few : base.dark.count ≤ 255
  dark-few =
      let few = dark-count base.n (dark_list base.dark) held.good.dark.ordered in
      let count = ap (λ (d : Dark). d.count) held.array in
      omega (arith, few, count, held.good.base.n-most)

  pub rows-there : order.b * base.r ≤ length rows
  rows-there = (rows-asked held).within

  pub r-most : base.r ≤ 5
  r-most = held.good.base.r-most

  short : length (rows_text (held_bare base order rows)) ≤ 87_067
  short = text-length (held_bare base order rows) held.good

  module _ {one : List ℕ} {first : ℕ} (put₁ : Put first-line out 0 first one) (len₁ : length one ≡ length out) where
    pub out-room : first + 6_000 ≤ length one
    out-room = omega (arith, put₁.ends, rest-most (base.n ∷ base.r ∷ []))

    module _ {two : List ℕ} {second : ℕ} (put₂ : Put out_line one first second two) (len₂ : length two ≡ length one) where
      pub order-room : second + 128 ≤ length two
      order-room = omega (arith, put₁.ends, put₂.ends, whole_length, short)

      module _ {three : List ℕ} {third : ℕ} (put₃ : Put order-line two second third three) (len₃ : length three ≡ length two) where
        pub rows-room : third + length row-lines + 128 ≤ length three
        rows-room = omega (arith, put₁.ends, put₂.ends, put₃.ends, whole_length, short)

        pub listing-replied : {after : List ℕ} {next : ℕ} → Put row-lines three third next after
            → Replied (rows_text (held_bare base order rows)) next out after
        unfolding rows_text
        listing-replied put₄ =
            put-replied (first-line ++ (out_line ++ (order-line ++ row-lines))) out (omega (arith, whole_length, short))
            (put_both put₁ (put_both put₂ (put_both put₃ put₄)))

-- what was read: the text, or a refusal's line
module _ (input : List ℕ) {before after : List ℕ} {next : ℕ} where
  pub listed : {read : BareRead} (found : BareFound input read)
      → Replied (rows_text (held_bare read.base read.order (take (length input - read.first) (drop read.first input)))) next before after
      → Replied (listing_reply input) next before after
  unfolding listing_reply
  listed found r = rw (found-is input found) r

  pub not_listed : {given : Result BareRead Refusal} {e : Refusal} → given ≡ bare_read (read_bare input) → given ≡ Err e → Replied (refused_line e) next before after
      → Replied (listing_reply input) next before after
  unfolding listing_reply
  not_listed is why r = rw (bare-refused input is why) r
