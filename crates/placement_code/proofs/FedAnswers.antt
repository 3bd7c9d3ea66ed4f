-- The answers of checking the rows of kind 6: 1 for their length, 1, 2 or 4 for a number after them, 5, then 6 over all rows, 15, 21, 7.
-- Assumes nothing.
use Prim.Native.Nat.{ℕ, ◌+◌, ◌*◌, ◌≤◌, ◌<◌}
use Rattle.std.specs.Prelude.{⊤, Result, Ok, Err}
use native.Mathlib.Omega.{arith}
use mathlib.Core.Path.{◌≡◌, refl, sym, ◌∙◌, ap}
use mathlib.Core.List.{List}
use mathlib.Core.Option.{Option, none, some}
use lib.ListN.{length, drop, length-drop}
use lib.Dec.{T}
use borrow.Author.Tests.{le-leb, lt-leb}
use Rattle.lists.specs.Lists.{All}
use Rattle.lists.proofs.Alls.{all_both}
use Rattle.refusal.specs.declared.Refusal.{Refusal}
use Rattle.refusal.specs.declared.Refusal.TheVariants.{Ended, Trailing, BadRow}
use Rattle.refusal.specs.Checked.{Checked, accepted, refused, ◌>>=◌, verdict}
use Rattle.refusal.proofs.Answered.{answered-ok}
use Rattle.refusal.proofs.Checked.{verdict-good, verdict-refused, refused-not-accepted}
use Rattle.packing.specs.Rows.{Row, is_in_order, rows_at, first_bad}
use Rattle.packing.proofs.Test.{good-iff-in-order}
use Rattle.layers.specs.Layers.{Layer, Site, sizes, all_rows, layers_at, refuse_row, check_length, check_end, check_ascending, check_service, check_packings}
use Rattle.layers.specs.declared.LayerHead.{LayerHead}
use Rattle.layers.proofs.Layouts.{layers_at-lengths}
use Rattle.crowding_code.proofs.AllRows.{all_rows-layers_at}
use Rattle.placement.specs.Feeders.{Feeders, FeedersReading, unit_layers, read_numbered, read_feeders, check_apart}
use Rattle.placement.specs.Placement.{Rows, check_records}
use Rattle.placement.specs.Answers.{table_of, feeders_read, records_check}
use Rattle.placement.specs.Asked.{TableFits, table_feeders, feeders_checked, fed_rows_checked}
use Rattle.placement.specs.declared.FeedersRead.{FeedersRead}
use Rattle.placement.proofs.FeederNumbers.{Numbered, reads-of-read_numbered}
use Rattle.placement.proofs.RecordsMeaning.{when-short, when-feeders}
use Rattle.feeders_packings.proofs.TableFeeders.{same-feeders}

-- what reading the feeders gave
pub record WasRead (m : Checked FeedersReading) (read : FeedersRead) : Type 0 where
  pub after : FeedersReading
  pub is : m ≡ accepted after
  pub table_is : read.table ≡ table_of after.feeders
  pub next-is : read.next ≡ after.next

pub was_read : (m : Checked FeedersReading) {given : Result FeedersRead Refusal} {read : FeedersRead} → given ≡ feeders_read m
    → given ≡ Ok read → WasRead m read
was_read m is good =
    let (a, accepts, made) = answered-ok _ m is good in
    record { after = a; is = accepts; table_is = ap (λ r. r.table) made; next-is = ap (λ r. r.next) made }

-- the table that was read says of each node what its feeders say
same_rows : (base : Site) (at : ℕ) (feeders : Feeders) (layers : List Layer) → length feeders.each ≤ 255
    → fed_rows_checked base at (table_feeders (table_of (some feeders))) layers ≡ fed_rows_checked base at feeders layers
unfolding fed_rows_checked
same_rows base at feeders layers few = rw (same-feeders base.r at feeders layers few) refl

-- The steps over the rows.
module _ (base : Site) (heads : List LayerHead) (s : List ℕ) (at rows : ℕ) (count : rows ≡ sizes heads) (feeders : Feeders) (order : Result ⊤ Refusal)
    (is : order ≡ verdict (check_ascending base at (rows_at base.r rows (drop at s)))) where
  layers : List Layer
  layers = layers_at base.r heads (drop at s)

  order_is : order ≡ verdict (check_ascending base at (all_rows layers))
  unfolding layers
  order_is = is ∙ rw (count, all_rows-layers_at base.r heads (drop at s)) refl

  pub fed-unordered : {e : Refusal} → order ≡ Err e
      → Err e ≡ verdict (fed_rows_checked base at feeders (layers_at base.r heads (drop at s)))
  unfolding layers fed_rows_checked
  fed-unordered k = rw (verdict-refused (check_ascending base at (all_rows layers)) order_is k) refl

  module _ (good : order ≡ Ok tt) where
    -- the rows are rows
    pub fed-rows : at + sizes heads * base.r ≤ length s → All (Row base.n base.r) (all_rows (layers_at base.r heads (drop at s)))
    unfolding layers check_ascending
    fed-rows inside =
        all_both (λ row. length row ≡ base.r) (λ row. T (is_in_order base.n row)) (all_rows layers)
        (layers_at-lengths base.r heads (drop at s) (rw length-drop (omega arith)))
        ((good-iff-in-order base.n (all_rows layers)).0
        (none_found (first_bad base.n (all_rows layers)) (verdict-good (check_ascending base at (all_rows layers)) order_is good).1))
      where
        none_found : (o : Option ℕ) {u : Unit} → refuse_row BadRow base.r at o ≡ accepted u → o ≡ none
        none_found none e = refl
        none_found (some i) e = absurd (refused-not-accepted e)

    module _ (service : Result ⊤ Refusal) (says : service ≡ verdict (check_service base at (rows_at base.r rows (drop at s)))) where
      served : service ≡ verdict (check_service base at (all_rows layers))
      unfolding layers
      served = says ∙ rw (count, all_rows-layers_at base.r heads (drop at s)) refl

      pub fed-dark : {e : Refusal} → service ≡ Err e
          → Err e ≡ verdict (fed_rows_checked base at feeders (layers_at base.r heads (drop at s)))
      unfolding layers fed_rows_checked
      fed-dark k =
          rw (
            (verdict-good (check_ascending base at (all_rows layers)) order_is good).1,
            verdict-refused (check_service base at (all_rows layers)) served k,
          ) refl

      pub fed-left : service ≡ Ok tt → {answer : Result ⊤ Refusal}
          → answer ≡ verdict (feeders_checked base.r at feeders (layers_at base.r heads (drop at s)))
          → answer ≡ verdict (fed_rows_checked base at feeders (layers_at base.r heads (drop at s)))
      unfolding layers fed_rows_checked
      fed-left light a =
          a
          ∙ rw (
            (verdict-good (check_ascending base at (all_rows layers)) order_is good).1,
            (verdict-good (check_service base at (all_rows layers)) served light).1,
          ) refl

-- the four checks, and what is handed on
regroup : {A : Type 0} (a b c d : Checked Unit) (x : A)
    → (a >>= λ _. b >>= λ _. c >>= λ _. d >>= λ _. accepted x) ≡ ((a >>= λ _. b >>= λ _. c >>= λ _. d) >>= λ _. accepted x)
regroup (refused e) b c d x = refl
regroup (accepted u) (refused e) c d x = refl
regroup (accepted u) (accepted v) (refused e) d x = refl
regroup (accepted u) (accepted v) (accepted w) d x = refl

-- The whole.
module _ (base : Site) (k : ℕ) (heads : List LayerHead) (s : List ℕ) (at rows : ℕ) (count : rows ≡ sizes heads) (few : base.n ≤ 255) where
  pub fed-short : length s < at + rows * base.r → check_records 6 base k heads s at ≡ refused (Ended (length s))
  fed-short h = when-short 6 base k heads s at (rw (← count) h)

  module _ (fits : at + rows * base.r ≤ length s) where
    as-kind-6 : read_feeders 6 base.n base.r k s (at + sizes heads * base.r) ≡ read_numbered base.n base.r k s (at + rows * base.r)
    unfolding read_feeders
    as-kind-6 = ap (λ c. read_numbered base.n base.r k s (at + c * base.r)) (sym count)

    pub fed-unread : {e : Refusal} → read_numbered base.n base.r k s (at + rows * base.r) ≡ refused e
        → check_records 6 base k heads s at ≡ refused e
    fed-unread e = when-feeders 6 base k heads s at (rw (← count) fits) (as-kind-6 ∙ e)

    module _ {read : FeedersRead} (w : WasRead (read_numbered base.n base.r k s (at + rows * base.r)) read) where
      read_is : read_feeders 6 base.n base.r k s (at + sizes heads * base.r) ≡ accepted w.after
      read_is = as-kind-6 ∙ w.is

      numbered : Numbered base.n base.r k s (at + rows * base.r) w.after
      numbered = reads-of-read_numbered base.n base.r k s (at + rows * base.r) w.is

      read_as : read_feeders 6 base.n base.r k s (at + sizes heads * base.r)
          ≡ accepted (record { feeders = some numbered.table; next = w.after.next })
      read_as = read_is ∙ (λ i. accepted (record { feeders = numbered.is i; next = w.after.next }))

      -- g and the feeders are within their limits
      pub fed-fits : TableFits base.n base.r k read.table
      fed-fits =
          record {
            feeders = numbered.table;
            is = w.table_is ∙ ap table_of numbered.is;
            limits = numbered.limits;
          }

      pub fed-long : read.next < length s → check_records 6 base k heads s at ≡ refused (Trailing read.next)
      unfolding check_records check_length check_end
      fed-long h =
          let end : at + sizes heads * base.r ≤ length s = rw (← count) fits in
          let more : w.after.next < length s = rw (← w.next-is) h in
          rw (le-leb (at + sizes heads * base.r) (length s) end, read_is, lt-leb (length s) w.after.next more, w.next-is) refl

      module _ (ends : length s ≤ read.next) where
        handed_on : Rows
        handed_on = record { layers = layers_at base.r heads (drop at s); feeders = some numbered.table }

        whole : check_records 6 base k heads s at
            ≡ (fed_rows_checked base at numbered.table (layers_at base.r heads (drop at s)) >>= λ u. accepted handed_on)
        unfolding handed_on check_records check_length check_end fed_rows_checked feeders_checked
        whole =
            let end : at + sizes heads * base.r ≤ length s = rw (← count) fits in
            let last : length s ≤ w.after.next = rw (← w.next-is) ends in
            let rows_in = layers_at base.r heads (drop at s) in
            rw (le-leb (at + sizes heads * base.r) (length s) end, read_as, le-leb (length s) w.after.next last)
            (regroup (check_ascending base at (all_rows rows_in)) (check_service base at (all_rows rows_in))
            (check_apart (some numbered.table) base.r at (all_rows rows_in))
            (check_packings base.r at (unit_layers (some numbered.table) rows_in)) handed_on)

        tested-is : fed_rows_checked base at (table_feeders read.table) (layers_at base.r heads (drop at s))
            ≡ fed_rows_checked base at numbered.table (layers_at base.r heads (drop at s))
        unfolding fed-fits
        tested-is =
            ap (λ t. fed_rows_checked base at (table_feeders t) (layers_at base.r heads (drop at s))) fed-fits.is
            ∙ same_rows base at numbered.table (layers_at base.r heads (drop at s)) (omega (arith, numbered.limits.node-each, few))

        module _ {tested : Result ⊤ Refusal} (is : tested ≡ verdict (fed_rows_checked base at (table_feeders read.table) (layers_at base.r heads (drop at s)))) where
          pub fed-refused : {e : Refusal} → tested ≡ Err e → check_records 6 base k heads s at ≡ refused e
          fed-refused why = rw (whole, ← tested-is, verdict-refused (fed_rows_checked base at (table_feeders read.table) (layers_at base.r heads (drop at s))) is why) refl

          pub fed-good : tested ≡ Ok tt → Ok read.table ≡ records_check (check_records 6 base k heads s at)
          unfolding handed_on fed-fits
          fed-good good =
              let checked : check_records 6 base k heads s at ≡ accepted handed_on =
              rw (whole, ← tested-is, (verdict-good (fed_rows_checked base at (table_feeders read.table) (layers_at base.r heads (drop at s))) is good).1) refl in
              ap Ok fed-fits.is ∙ sym (ap records_check checked)
