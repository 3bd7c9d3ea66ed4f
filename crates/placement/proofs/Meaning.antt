-- A placement whose head's numbers are in order is refused exactly where the documents' table says, for its rows, the numbers after
-- them and then its figure. Assumes nothing.
use Prim.Native.Nat.{ℕ, ◌≤◌}
use native.Mathlib.Omega.{arith}
use mathlib.Core.Path.{◌≡◌, refl, sym, ◌∙◌}
use mathlib.Core.Logic.{◌↔◌, inl, inr}
use mathlib.Core.Bool.{Bool, true, false}
use mathlib.Core.List.{List}
use lib.ListN.{length}
use lib.Dec.{eqb, leb}
use borrow.Author.Tests.{eqb-false, ne_eqb, leb-true, leb-false}
use Rattle.refusal.specs.declared.Refusal.{Refusal}
use Rattle.refusal.specs.declared.Refusal.TheVariants.{Ended, WrongFigure}
use Rattle.refusal.specs.Checked.{Checked, accepted, refused, ◌>>=◌, require, map_accepted}
use Rattle.refusal.proofs.Checked.{accepted-injective}
use Rattle.layers.specs.Layers.{Located, BaseReading, LayerHeads, heads_of, read_base, read_layers}
use Rattle.layers.specs.declared.FileKind.TheVariants.{Placement as PlacementKind}
use Rattle.layers.specs.Meaning.{standing, rows_end}
use Rattle.placement.specs.Figure.{rule_of, figure_of}
use Rattle.placement.specs.Feeders.{FeedersReading, read_feeders}
use Rattle.placement.specs.Placement.{Placement, TermsReading, Rows, placement_layer_limits, placement_of, read_terms, check_records, check_figure, read_placement, check_placement}
use Rattle.placement.specs.Meaning.{RecordsGood, PlacementRefused}
use Rattle.placement.proofs.FeederNumbers.{reads-of-read_feeders, read_feeders-accepted}
use Rattle.placement.proofs.Records.{taken-of-check_records, check_records-accepted, taken-heads}
use Rattle.placement.proofs.RecordsMeaning.{feeders-refused-iff, when-short, when-feeders, records-refused-iff}

module _ (s : List ℕ) {head : BaseReading} {order : TermsReading} {numbers : LayerHeads} (b : read_base PlacementKind s ≡ accepted head)
    (o : read_terms head.base s head.next ≡ accepted order)
    (l : read_layers placement_layer_limits order.terms.s order.terms.b s order.next ≡ accepted numbers) where
  rows_checked : Checked Rows
  rows_checked = check_records head.kind head.base order.terms.k numbers.heads s numbers.next

  after_read : Checked FeedersReading
  after_read =
      read_feeders head.kind head.base.n head.base.r order.terms.k s (rows_end head.base numbers.heads s numbers.next)

  end : ℕ
  end = rows_end head.base numbers.heads s numbers.next

  -- the rows are taken as they stand
  rows-good : {rows : Rows} {after : FeedersReading} → rows_checked ≡ accepted rows → after_read ≡ accepted after
      → RecordsGood head.kind head.base numbers.heads s numbers.next after × (heads_of rows.layers ≡ numbers.heads)
  unfolding rows_checked after_read
  rows-good {rows} {after} a r =
      let taken = taken-of-check_records head.kind head.base order.terms.k numbers.heads s numbers.next a in
      let same = taken.taken in
      let read : ◌≡◌ {A = Checked FeedersReading} (accepted (record { feeders = rows.feeders; next = length s })) (accepted after) =
      sym (read_feeders-accepted head.kind head.base.n head.base.r order.terms.k s (rows_end head.base numbers.heads s numbers.next) rows.feeders (length s) taken.after taken.fit) ∙ r in
      let is = accepted-injective read in (
        rw (← is)
            (record {
              ends = refl;
              rows = rw same taken.in_order;
              in-service = rw same taken.in-service;
              apart = rw same taken.apart;
              packings = rw same taken.packings;
            }),
        taken-heads head.kind head.base order.terms.k numbers.heads s numbers.next taken,
      )

  good-rows : {after : FeedersReading} → end ≤ length s → after_read ≡ accepted after
      → RecordsGood head.kind head.base numbers.heads s numbers.next after
      → rows_checked ≡ accepted (record { layers = standing head.base numbers.heads s numbers.next; feeders = after.feeders })
  unfolding rows_checked after_read end
  good-rows {after} fits r g =
      let (reads, fit) = reads-of-read_feeders head.kind head.base.n head.base.r order.terms.k s end r in
      check_records-accepted head.kind head.base order.terms.k numbers.heads s numbers.next
      (record {
        fits = fits;
        taken = refl;
        after = rw g.ends reads;
        fit = fit;
        in_order = g.rows;
        in-service = g.in-service;
        apart = g.apart;
        packings = g.packings;
      })

  -- what follows the rows
  rest : Rows → Checked Unit
  rest rows = check_figure (rule_of head.kind) order.terms (heads_of rows.layers)

  -- the check is that of the rows, and then of the figure
  decides : (e : Refusal) → (check_placement s ≡ refused e) ↔ ((rows_checked >>= rest) ≡ refused e)
  unfolding check_placement read_placement rows_checked rest
  decides e = rw (b, o, l) (go (check_records head.kind head.base order.terms.k numbers.heads s numbers.next))
    where
      tail : (m : Checked Unit) (rows : Rows)
          → (map_accepted (λ (file : Located Placement). file.content)
          (m >>= λ u. accepted (record { content = placement_of head.kind head.base order.terms rows; first = numbers.next })) ≡ refused e)
          ↔ (m ≡ refused e)
      tail (accepted u) rows = (λ p. cc, λ p. cc)
      tail (refused why) rows = (λ p. cc, λ p. cc)

      go : (m : Checked Rows)
          → (map_accepted (λ (file : Located Placement). file.content)
          (m >>= λ rows. check_figure (rule_of head.kind) order.terms (heads_of rows.layers) >>= λ u.
          accepted (record { content = placement_of head.kind head.base order.terms rows; first = numbers.next })) ≡ refused e)
          ↔ ((m >>= λ rows. check_figure (rule_of head.kind) order.terms (heads_of rows.layers)) ≡ refused e)
      go (accepted rows) = tail (check_figure (rule_of head.kind) order.terms (heads_of rows.layers)) rows
      go (refused why) = (λ p. cc, λ p. cc)

  -- the figure's check
  figure-refused : (rows : Rows) (e : Refusal) → heads_of rows.layers ≡ numbers.heads
      → (rest rows ≡ refused e)
      ↔ ((e ≡ WrongFigure order.terms.place)
      × (order.terms.figure ≡ figure_of (rule_of head.kind) order.terms.s order.terms.k order.terms.b numbers.heads → ⊥))
  unfolding rest check_figure
  figure-refused rows e heads = rw heads (λ p. to (eqb order.terms.figure formula) refl p, from)
    where
      formula : ℕ
      formula = figure_of (rule_of head.kind) order.terms.s order.terms.k order.terms.b numbers.heads

      to : (v : Bool) → eqb order.terms.figure formula ≡ v → require v (WrongFigure order.terms.place) ≡ refused e
          → (e ≡ WrongFigure order.terms.place) × (order.terms.figure ≡ formula → ⊥)
      to true k p = absurd (let z : ◌≡◌ {A = ℕ} 0 1 = cc in omega arith)
      to false k p =
          let why : WrongFigure order.terms.place ≡ e = cc in
          (sym why, eqb-false order.terms.figure formula k)

      from : (e ≡ WrongFigure order.terms.place) × (order.terms.figure ≡ formula → ⊥)
          → require (eqb order.terms.figure formula) (WrongFigure order.terms.place) ≡ refused e
      from (is, differs) = rw (ne_eqb order.terms.figure formula differs, is)

  pub placement-refused-iff : (e : Refusal)
      → (check_placement s ≡ refused e) ↔ PlacementRefused head.kind head.base numbers.heads s numbers.next order.terms e
  unfolding rows_checked after_read end
  placement-refused-iff e = (λ p. to (leb end (length s)) refl ((decides e).0 p), from)
    where
      passed : (fits : end ≤ length s) (after : FeedersReading) → after_read ≡ accepted after
          → (m : Checked Rows) → rows_checked ≡ m → (m >>= rest) ≡ refused e
          → PlacementRefused head.kind head.base numbers.heads s numbers.next order.terms e
      passed fits after read (accepted rows) r p =
          let (good, heads) = rows-good r read in
          let (why, differs) = (figure-refused rows e heads).0 p in
          inr (inr (after, fits, read, inr (why, good, differs)))
      passed fits after read (refused why) r p =
          inr (inr (
            after,
            fits,
            read,
            inl
                ((records-refused-iff head.kind head.base order.terms.k numbers.heads s numbers.next fits read e).0 (r ∙ cc)),
          ))

      fitting : (fits : end ≤ length s) (a : Checked FeedersReading) → after_read ≡ a → (rows_checked >>= rest) ≡ refused e
          → PlacementRefused head.kind head.base numbers.heads s numbers.next order.terms e
      fitting fits (accepted after) read p = passed fits after read rows_checked refl p
      fitting fits (refused why) read p =
          let stops = when-feeders head.kind head.base order.terms.k numbers.heads s numbers.next fits read in
          let same : ◌≡◌ {A = Checked Unit} (refused why) (refused e) = rw stops at p in
          let (is, h) = (feeders-refused-iff head.kind head.base.n head.base.r order.terms.k s end e).0 (read ∙ cc) in
          inr (inl (fits, is, h))

      to : (v : Bool) → leb end (length s) ≡ v → (rows_checked >>= rest) ≡ refused e
          → PlacementRefused head.kind head.base numbers.heads s numbers.next order.terms e
      to false k p =
          let short = leb-false end (length s) k in
          let stops = when-short head.kind head.base order.terms.k numbers.heads s numbers.next short in
          let same : Ended (length s) ≡ e = let q = rw stops at p in cc in
          inl (short, sym same)
      to true k p = fitting (leb-true end (length s) k) after_read refl p

      from : PlacementRefused head.kind head.base numbers.heads s numbers.next order.terms e → check_placement s ≡ refused e
      from (inl (short, is)) =
          (decides e).1 (rw (when-short head.kind head.base order.terms.k numbers.heads s numbers.next short, is) refl)
      from (inr (inl (fits, is, h))) =
          (decides e).1
          (rw (when-feeders head.kind head.base order.terms.k numbers.heads s numbers.next fits
          ((feeders-refused-iff head.kind head.base.n head.base.r order.terms.k s end e).1 (is, h))) refl)
      from (inr (inr (after, fits, read, inl h))) =
          (decides e).1
          (rw ((records-refused-iff head.kind head.base order.terms.k numbers.heads s numbers.next fits read e).1 h) refl)
      from (inr (inr (after, fits, read, inr (why, good, differs)))) =
          let accepts = good-rows fits read good in
          (decides e).1 (rw accepts ((figure-refused _ e (rows-good accepts read).1).1 (why, differs)))
