-- Refusals of the rows and of the numbers after them are given exactly where the documents' conditions hold, with their places, for
-- every file and any x. Assumes nothing.
use Prim.Native.Nat.{ℕ, zero, suc, ◌+◌, ◌*◌, ◌-◌, ◌≤◌, ◌<◌, max}
use native.Mathlib.Omega.{arith}
use mathlib.Core.Path.{◌≡◌, refl, sym, ◌∙◌, ap, subst}
use mathlib.Core.Logic.{◌↔◌, inl, inr}
use mathlib.Core.Bool.{Bool, true, false}
use mathlib.Core.List.{List, ◌∷◌}
use mathlib.Core.Option.{Option, none, some}
use lib.ListN.{length, drop, length-drop}
use lib.Dec.{T, leb}
use borrow.Author.Tests.{leb-true, leb-false, le-leb, lt-leb}
use Rattle.lists.specs.Lists.{All}
use Rattle.lists.proofs.Alls.{all_both}
use Rattle.refusal.specs.declared.Refusal.{Refusal}
use Rattle.refusal.specs.declared.Refusal.TheVariants.{Ended, Malformed, WrongKind, OutsideLimits, Trailing, BadRow, Crowded, WrongFigure, NoBlock, ShortWork, ShortOutput, BadOrder, Unjoinable, BadWish, OutOfService, BadCounts, TooManySets, BadRounds, EarlierEvent, BadEvent, SharedFeeder}
use Rattle.refusal.specs.Checked.{Checked, accepted, refused, ◌>>=◌}
use Rattle.refusal.proofs.Checked.{handed_on-refused}
use Rattle.number.specs.Numbers.{read_within}
use Rattle.number.specs.declared.Reading.{Reading}
use Rattle.number.proofs.Meaning.{within-refused-iff}
use Rattle.packing.specs.Rows.{Row, is_in_order, first_bad}
use Rattle.packing.proofs.Members.{rows-distinct}
use Rattle.packing.proofs.Test.{good-iff-in-order}
use Rattle.layers.specs.Layers.{Layer, Site, NodesReading, all_rows, first_naming, first_crowded_of, check_length, check_end, check_ascending, check_service, check_packings}
use Rattle.layers.specs.Meaning.{standing, rows_end}
use Rattle.layers.specs.declared.LayerHead.{LayerHead}
use Rattle.layers.proofs.Layouts.{layers_at-lengths}
use Rattle.layers.proofs.NumbersRead.{reads-le-length}
use Rattle.layers.proofs.Meaning.{first-bad-meaning, first-crowded-of-meaning}
use Rattle.layers.proofs.Service.{service-iff, first-naming-meaning}
use Rattle.placement.specs.Feeders.{FeedersReading, Apart, fed, feeder_numbers, unit_layers, units_of, first_sharing, read_each, read_numbered, read_feeders, check_apart}
use Rattle.placement.specs.Placement.{Rows, check_records}
use Rattle.placement.specs.Meaning.{EachRefused, FeedersRefused, RecordsRefused}
use Rattle.placement.proofs.FeederRows.{apart-iff, first-sharing-meaning, unit-rows}
use Rattle.placement.proofs.FeederNumbers.{reads-of-read_feeders}

-- "a feeder below g for each node; limits are refusal 4"
abbrev AfterFeeder : (g left : ℕ) → List ℕ → Refusal → Type 0
AfterFeeder g left s e = (feeder : Reading) → (read_each g left s feeder.next ≡ refused e) ↔ EachRefused g left s feeder.next e

abbrev feeder_first : ℕ → NodesReading → NodesReading
feeder_first v rest = record { nodes = v ∷ rest.nodes; next = rest.next }

abbrev with_number : ℕ → NodesReading → FeedersReading
with_number g each = record { feeders = some (record { number = g; each = each.nodes }); next = each.next }

pub each-refused-iff : (g left : ℕ) (s : List ℕ) (at : ℕ) (e : Refusal) → (read_each g left s at ≡ refused e) ↔ EachRefused g left s at e
unfolding read_each
each-refused-iff g zero s at e = (λ p. absurd (let z : ◌≡◌ {A = ℕ} 0 1 = cc in omega arith), λ h. absurd h)
each-refused-iff g (suc left) s at e =
    let following : AfterFeeder g left s e = λ feeder. each-refused-iff g left s feeder.next e in
    (λ p. to following (read_within 0 (g - 1) s at) refl p, from following)
  where
    to : AfterFeeder g left s e → (m : Checked Reading) → read_within 0 (g - 1) s at ≡ m
        → (m >>= λ feeder. read_each g left s feeder.next >>= λ rest.
        accepted (feeder_first feeder.value rest)) ≡ refused e
        → EachRefused g (suc left) s at e
    to following (accepted feeder) r q =
        inr (feeder, r, (following feeder).0 ((handed_on-refused (read_each g left s feeder.next) _ e).0 q))
    to following (refused why) r q = inl ((within-refused-iff 0 (g - 1) s at e).0 (r ∙ cc))

    from : AfterFeeder g left s e → EachRefused g (suc left) s at e → read_each g (suc left) s at ≡ refused e
    from following (inl h) = rw ((within-refused-iff 0 (g - 1) s at e).1 h)
    from following (inr (feeder, r, h)) = rw (r, (following feeder).1 h)

-- the numbers after the rows of a placement of kind 6; none is refused in another kind
pub feeders-refused-iff : (kind n r k : ℕ) (s : List ℕ) (at : ℕ) (e : Refusal)
    → (read_feeders kind n r k s at ≡ refused e) ↔ ((fed kind ≡ true) × FeedersRefused n r k s at e)
unfolding read_feeders read_numbered
feeders-refused-iff kind n r k s at e = (to (fed kind) refl, from)
  where
    numbered : (m : Checked Reading) → read_within (max (suc k) r) n s at ≡ m
        → (m >>= λ g. read_each g.value n s g.next >>= λ each.
        accepted (with_number g.value each)) ≡ refused e
        → FeedersRefused n r k s at e
    numbered (accepted g) m q =
        inr (g, m, (each-refused-iff g.value n s g.next e).0 ((handed_on-refused (read_each g.value n s g.next) _ e).0 q))
    numbered (refused why) m q = inl ((within-refused-iff (max (suc k) r) n s at e).0 (m ∙ cc))

    to : (b : Bool) → fed kind ≡ b → read_feeders kind n r k s at ≡ refused e → (fed kind ≡ true) × FeedersRefused n r k s at e
    to true is p = (is, numbered (read_within (max (suc k) r) n s at) refl (rw is at p))
    to false is p = absurd (let q = rw is at p in let z : ◌≡◌ {A = ℕ} 0 1 = cc in omega arith)

    from : (fed kind ≡ true) × FeedersRefused n r k s at e → read_feeders kind n r k s at ≡ refused e
    from (is, inl h) = rw (is, (within-refused-iff (max (suc k) r) n s at e).1 h)
    from (is, inr (g, m, h)) = rw (is, m, (each-refused-iff g.value n s g.next e).1 h)

-- What checking the rows gives in each case.
module _ (kind : ℕ) (base : Site) (k : ℕ) (heads : List LayerHead) (s : List ℕ) (at : ℕ) where
  rows : List (List ℕ)
  rows = all_rows (standing base heads s at)

  pub when-short : length s < rows_end base heads s at → check_records kind base k heads s at ≡ refused (Ended (length s))
  unfolding check_length check_records
  when-short h = rw (lt-leb (rows_end base heads s at) (length s) h)

  pub when-feeders : rows_end base heads s at ≤ length s → {e : Refusal}
      → read_feeders kind base.n base.r k s (rows_end base heads s at) ≡ refused e
      → check_records kind base k heads s at ≡ refused e
  unfolding check_length check_records
  when-feeders h e = rw (le-leb (rows_end base heads s at) (length s) h, e) refl

  module _ (fits : rows_end base heads s at ≤ length s) {after : FeedersReading}
      (read : read_feeders kind base.n base.r k s (rows_end base heads s at) ≡ accepted after) where
    -- the rows of what can fail
    units_in : List Layer
    units_in = unit_layers after.feeders (standing base heads s at)

    inside : after.next ≤ length s
    inside =
        reads-le-length (feeder_numbers after.feeders) s (rows_end base heads s at) after.next fits
        (reads-of-read_feeders kind base.n base.r k s (rows_end base heads s at) read).0

    when-long : after.next < length s → check_records kind base k heads s at ≡ refused (Trailing after.next)
    unfolding check_length check_end check_records
    when-long h = rw (le-leb (rows_end base heads s at) (length s) fits, read, lt-leb (length s) after.next h) refl

    module _ (ends : length s ≡ after.next) where
      whole : check_records kind base k heads s at
          ≡ (check_ascending base at rows
          >>= λ u. check_service base at rows
          >>= λ v. check_apart after.feeders base.r at rows
          >>= λ w. check_packings base.r at units_in
          >>= λ x. accepted (record { layers = standing base heads s at; feeders = after.feeders }))
      unfolding rows units_in check_length check_end check_records
      whole =
          rw (
            le-leb (rows_end base heads s at) (length s) fits,
            read,
            le-leb (length s) after.next (omega arith),
          ) refl

      when-bad : {i : ℕ} → first_bad base.n rows ≡ some i → check_records kind base k heads s at ≡ refused (BadRow (at + i * base.r))
      unfolding check_ascending
      when-bad e = rw (whole, e)

      module _ (good : first_bad base.n rows ≡ none) where
        when-dark : {i : ℕ} → first_naming base.dark rows ≡ some i
            → check_records kind base k heads s at ≡ refused (OutOfService (at + i * base.r))
        unfolding check_ascending check_service
        when-dark e = rw (whole, good, e)

        -- the rows are rows
        rows_are : All (Row base.n base.r) (all_rows (standing base heads s at))
        unfolding rows
        rows_are =
            all_both (λ row. length row ≡ base.r) (λ row. T (is_in_order base.n row)) rows
            (layers_at-lengths base.r heads (drop at s) (rw length-drop (omega (arith, fits))))
            ((good-iff-in-order base.n rows).0 good)

        module _ (light : first_naming base.dark rows ≡ none) where
          when-shared : {i : ℕ} → first_sharing after.feeders rows ≡ some i
              → check_records kind base k heads s at ≡ refused (SharedFeeder (at + i * base.r))
          unfolding check_ascending check_service check_apart
          when-shared e = rw (whole, good, light, e)

          module _ (apart : first_sharing after.feeders rows ≡ none) where
            when-crowded : {i : ℕ} → first_crowded_of 0 units_in ≡ some i
                → check_records kind base k heads s at ≡ refused (Crowded (at + i * base.r))
            unfolding check_ascending check_service check_apart check_packings
            when-crowded e = rw (whole, good, light, apart, e)

            when-none : first_crowded_of 0 units_in ≡ none
                → check_records kind base k heads s at ≡ accepted (record { layers = standing base heads s at; feeders = after.feeders })
            unfolding check_ascending check_service check_apart check_packings
            when-none e = rw (whole, good, light, apart, e)

      -- the rows of what can fail are rows of that
      units-are : first_bad base.n rows ≡ none → Apart after.feeders rows
          → All (Row (units_of base.n after.feeders) base.r) (all_rows units_in)
      unfolding rows units_in
      units-are good apart =
          unit-rows kind base.n base.r k after.feeders (standing base heads s at)
          (reads-of-read_feeders kind base.n base.r k s (rows_end base heads s at) read).1 (rows_are good) apart

    -- Where the rows fit and the numbers after them are read, the rows are refused exactly where the table's conditions hold, in its order.
    pub records-refused-iff : (e : Refusal) → (check_records kind base k heads s at ≡ refused e) ↔ RecordsRefused kind base heads s at after e
    unfolding rows units_in
    records-refused-iff e = (to, from e)
      where
        same : {a b : Refusal} → ◌≡◌ {A = Checked Rows} (refused a) (refused b) → a ≡ b
        same p = cc

        told : (a : Refusal) → check_records kind base k heads s at ≡ refused a → check_records kind base k heads s at ≡ refused e
            → RecordsRefused kind base heads s at after a → RecordsRefused kind base heads s at after e
        told a p q h = subst (RecordsRefused kind base heads s at after) (same (sym p ∙ q)) h

        apart_of : length s ≡ after.next → (good : first_bad base.n rows ≡ none)
            → (first_sharing after.feeders rows ≡ none) ↔ Apart after.feeders rows
        apart_of ends good = apart-iff after.feeders rows (rows-distinct base.n base.r rows (rows_are ends good))

        to : check_records kind base k heads s at ≡ refused e → RecordsRefused kind base heads s at after e
        to q = go₂ (leb (length s) after.next) refl
          where
            go₆ : (ends : length s ≡ after.next) (good : first_bad base.n rows ≡ none) → first_naming base.dark rows ≡ none
                → first_sharing after.feeders rows ≡ none → (o : Option ℕ) → first_crowded_of 0 units_in ≡ o → RecordsRefused kind base heads s at after e
            go₆ ends good light apart (some i) p =
                told (Crowded (at + i * base.r)) (when-crowded ends good light apart p) q (
                  ends,
                  (good-iff-in-order base.n rows).0 good,
                  (service-iff base.dark rows).0 light,
                  (apart_of ends good).0 apart,
                  (i, (first-crowded-of-meaning (units_of base.n after.feeders) base.r 0 units_in i (units-are ends good ((apart_of ends good).0 apart))).0 p, refl),
                )
            go₆ ends good light apart none p =
                absurd (let r = when-none ends good light apart p in let z : ◌≡◌ {A = ℕ} 0 1 = cc in omega arith)

            go₅ : (ends : length s ≡ after.next) (good : first_bad base.n rows ≡ none) → first_naming base.dark rows ≡ none
                → (o : Option ℕ) → first_sharing after.feeders rows ≡ o → RecordsRefused kind base heads s at after e
            go₅ ends good light (some i) p =
                told (SharedFeeder (at + i * base.r)) (when-shared ends good light p) q (
                  ends,
                  (good-iff-in-order base.n rows).0 good,
                  (service-iff base.dark rows).0 light,
                  (i, (first-sharing-meaning after.feeders rows i (rows-distinct base.n base.r rows (rows_are ends good))).0 p, refl),
                )
            go₅ ends good light none p = go₆ ends good light p (first_crowded_of 0 units_in) refl

            go₄ : (ends : length s ≡ after.next) (good : first_bad base.n rows ≡ none) → (o : Option ℕ)
                → first_naming base.dark rows ≡ o → RecordsRefused kind base heads s at after e
            go₄ ends good (some i) p =
                told (OutOfService (at + i * base.r)) (when-dark ends good p) q
                (ends, (good-iff-in-order base.n rows).0 good, (i, (first-naming-meaning base.dark rows i).0 p, refl))
            go₄ ends good none p = go₅ ends good p (first_sharing after.feeders rows) refl

            go₃ : (ends : length s ≡ after.next) → (o : Option ℕ) → first_bad base.n rows ≡ o → RecordsRefused kind base heads s at after e
            go₃ ends (some i) p =
                told (BadRow (at + i * base.r)) (when-bad ends p) q (ends, (i, (first-bad-meaning base.n rows i).0 p, refl))
            go₃ ends none p = go₄ ends p (first_naming base.dark rows) refl

            go₂ : (b : Bool) → leb (length s) after.next ≡ b → RecordsRefused kind base heads s at after e
            go₂ false p =
                let h = leb-false (length s) after.next p in
                told (Trailing after.next) (when-long h) q (h, refl)
            go₂ true p =
                let h = leb-true (length s) after.next p in
                go₃ (omega (arith, inside)) (first_bad base.n rows) refl

        from : (e : Refusal) → RecordsRefused kind base heads s at after e → check_records kind base k heads s at ≡ refused e
        from (Trailing p) (h, is) = when-long h ∙ ap (λ p. refused (Trailing p)) (sym is)
        from (BadRow p) (ends, (i, f, is)) =
            when-bad ends ((first-bad-meaning base.n rows i).1 f) ∙ ap (λ p. refused (BadRow p)) (sym is)
        from (OutOfService p) (ends, order, (i, f, is)) =
            when-dark ends ((good-iff-in-order base.n rows).1 order) ((first-naming-meaning base.dark rows i).1 f)
            ∙ ap (λ p. refused (OutOfService p)) (sym is)
        from (SharedFeeder p) (ends, order, service, (i, f, is)) =
            let good = (good-iff-in-order base.n rows).1 order in
            when-shared ends good ((service-iff base.dark rows).1 service)
            ((first-sharing-meaning after.feeders rows i (rows-distinct base.n base.r rows (rows_are ends good))).1 f)
            ∙ ap (λ p. refused (SharedFeeder p)) (sym is)
        from (Crowded p) (ends, order, service, apart, (i, f, is)) =
            let good = (good-iff-in-order base.n rows).1 order in
            when-crowded ends good ((service-iff base.dark rows).1 service) ((apart_of ends good).1 apart)
            ((first-crowded-of-meaning (units_of base.n after.feeders) base.r 0 units_in i (units-are ends good apart)).1 f)
            ∙ ap (λ p. refused (Crowded p)) (sym is)
        from (Ended p) h = absurd h
        from (Malformed p) h = absurd h
        from WrongKind h = absurd h
        from (OutsideLimits p) h = absurd h
        from (WrongFigure p) h = absurd h
        from NoBlock h = absurd h
        from (ShortWork p) h = absurd h
        from (ShortOutput p) h = absurd h
        from (BadOrder p) h = absurd h
        from Unjoinable h = absurd h
        from BadWish h = absurd h
        from BadCounts h = absurd h
        from TooManySets h = absurd h
        from BadRounds h = absurd h
        from (EarlierEvent p) h = absurd h
        from (BadEvent p) h = absurd h
