-- What the refusals of a placement whose head's numbers are in order mean. Assumes nothing.
use Rattle.std.specs.Prelude.{ℕ, zero, suc, ◌+◌, ◌*◌, ◌-◌, ◌≤◌, ◌<◌, max, ◌≡◌, ◌⊎◌, true, List, [], length, get_or, T}
use Rattle.std.proofs.Math.Option.{Option, none, some}
use Rattle.lists.specs.Lists.{All}
use Rattle.refusal.specs.declared.Refusal.{Refusal}
use Rattle.refusal.specs.declared.Refusal.TheVariants.{Ended, Malformed, WrongKind, OutsideLimits, Trailing, BadRow, Crowded, WrongFigure, NoBlock, ShortWork, ShortOutput, BadOrder, Unjoinable, BadWish, OutOfService, BadCounts, TooManySets, BadRounds, EarlierEvent, BadEvent, SharedFeeder}
use Rattle.refusal.specs.Checked.{accepted}
use Rattle.number.specs.Numbers.{read_within}
use Rattle.number.specs.declared.Reading.{Reading}
use Rattle.number.specs.Meaning.{WithinRefused}
use Rattle.packing.specs.Rows.{is_in_order, Row}
use Rattle.layers.specs.Layers.{Packings, Site, InService, all_rows}
use Rattle.layers.specs.Meaning.{FirstAt, BadAt, DarkAt, CrowdedAt, standing, rows_end}
use Rattle.layers.specs.declared.LayerHead.{LayerHead}
use Rattle.placement.specs.Figure.{rule_of, figure_of}
use Rattle.placement.specs.Feeders.{Feeders, FeedersReading, Shares, Apart, fed, unit_layers, read_feeders}
use Rattle.placement.specs.declared.Terms.{Terms}

-- (n) row i is "a row with two nodes on one feeder"
abbrev pub SharedAt : Option Feeders → (rows : List (List ℕ)) (i : ℕ) → Type 0
SharedAt none rows i = ⊥
SharedAt (some feeders) rows i = (i < length rows) × Shares feeders (get_or rows i [])

-- "a feeder below g for each node; limits are refusal 4": the first of `left` numbers that is refused, for 1, 2, then 4
abbrev pub EachRefused : (g left : ℕ) → List ℕ → (at : ℕ) → Refusal → Type 0
EachRefused g zero s at e = ⊥
EachRefused g (suc left) s at e =
    WithinRefused 0 (g - 1) s at e
    ⊎ ((feeder : Reading) × (read_within 0 (g - 1) s at ≡ accepted feeder) × EachRefused g left s feeder.next e)

-- "the number g of feeders (above k, at least r, at most n)", and then these
abbrev pub FeedersRefused : (n r k : ℕ) → List ℕ → (at : ℕ) → Refusal → Type 0
FeedersRefused n r k s at e =
    WithinRefused (max (suc k) r) n s at e
    ⊎ ((g : Reading) × (read_within (max (suc k) r) n s at ≡ accepted g) × EachRefused g.value n s g.next e)

module _ (kind : ℕ) (base : Site) (heads : List LayerHead) (s : List ℕ) (at : ℕ) where
  -- The table's rows 5, 6, 15, 21 and 7 where the rows fit and the numbers after them are read, each with its place, where none of
  -- those before it holds.
  module _ (after : FeedersReading) where
    abbrev pub RecordsRefused : Refusal → Type 0
    -- "Refusal 5 is checked after the last feeder": "the first of them"
    RecordsRefused (Trailing p) = (after.next < length s) × (p ≡ after.next)
    -- "then 6": "the row's start"
    RecordsRefused (BadRow p) =
        (length s ≡ after.next)
        × ((i : ℕ) × FirstAt (BadAt base.n (all_rows (standing base heads s at))) i × (p ≡ at + i * base.r))
    -- (h) "at the row's start, a row naming such a node, after 6 and before 7"
    RecordsRefused (OutOfService p) =
        (length s ≡ after.next)
        × All (λ row. T (is_in_order base.n row)) (all_rows (standing base heads s at))
        × ((i : ℕ) × FirstAt (DarkAt base.dark (all_rows (standing base heads s at))) i × (p ≡ at + i * base.r))
    -- "after 15 and before 7, a row with two nodes on one feeder"
    RecordsRefused (SharedFeeder p) =
        (length s ≡ after.next)
        × All (λ row. T (is_in_order base.n row)) (all_rows (standing base heads s at))
        × InService base.dark (all_rows (standing base heads s at))
        × ((i : ℕ) × FirstAt (SharedAt after.feeders (all_rows (standing base heads s at))) i × (p ≡ at + i * base.r))
    -- "x+1 nodes together in too many rows of layer x", "feeder numbers in place of nodes": "the start of the first row in the file
    -- that holds such a set"
    RecordsRefused (Crowded p) =
        (length s ≡ after.next)
        × All (λ row. T (is_in_order base.n row)) (all_rows (standing base heads s at))
        × InService base.dark (all_rows (standing base heads s at))
        × Apart after.feeders (all_rows (standing base heads s at))
        × ((i : ℕ) × FirstAt (CrowdedAt 0 (unit_layers after.feeders (standing base heads s at))) i × (p ≡ at + i * base.r))
    RecordsRefused (Ended p) = ⊥
    RecordsRefused (Malformed p) = ⊥
    RecordsRefused WrongKind = ⊥
    RecordsRefused (OutsideLimits p) = ⊥
    RecordsRefused (WrongFigure p) = ⊥
    RecordsRefused NoBlock = ⊥
    RecordsRefused (ShortWork p) = ⊥
    RecordsRefused (ShortOutput p) = ⊥
    RecordsRefused (BadOrder p) = ⊥
    RecordsRefused Unjoinable = ⊥
    RecordsRefused BadWish = ⊥
    RecordsRefused BadCounts = ⊥
    RecordsRefused TooManySets = ⊥
    RecordsRefused BadRounds = ⊥
    RecordsRefused (EarlierEvent p) = ⊥
    RecordsRefused (BadEvent p) = ⊥

    -- none of these: all ends there, the rows are rows, none names a node out of service or has two nodes on one feeder, and every layer
    -- is a packing
    pub record RecordsGood : Type 0 where
      pub ends : length s ≡ after.next
      pub rows : All (Row base.n base.r) (all_rows (standing base heads s at))
      pub in-service : InService base.dark (all_rows (standing base heads s at))
      pub apart : Apart after.feeders (all_rows (standing base heads s at))
      pub packings : Packings 0 (unit_layers after.feeders (standing base heads s at))

  -- A placement's refusals after its head, in their order: 1 for the rows, "the input ends .. before the last row's end"; in kind 6 the
  -- numbers after them, for 1, 2, 4; 5, 6, 15, 21 and 7; "then 8", "F differs from the formula", at "F's start".
  abbrev pub PlacementRefused : Terms → Refusal → Type 0
  PlacementRefused terms e =
      ((length s < rows_end base heads s at) × (e ≡ Ended (length s)))
      ⊎ (((rows_end base heads s at ≤ length s)
      × (fed kind ≡ true)
      × FeedersRefused base.n base.r terms.k s (rows_end base heads s at) e)
      ⊎ ((after : FeedersReading)
      × (rows_end base heads s at ≤ length s)
      × (read_feeders kind base.n base.r terms.k s (rows_end base heads s at) ≡ accepted after)
      × (RecordsRefused after e
      ⊎ ((e ≡ WrongFigure terms.place)
      × RecordsGood after
      × (terms.figure ≡ figure_of (rule_of kind) terms.s terms.k terms.b heads → ⊥)))))
