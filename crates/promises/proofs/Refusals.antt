-- Document 01's table of refusals, row by row, for every file: each is given exactly where its condition holds and none of
-- those before it does, with its place; and what C(m,j) counts. Assumes nothing.
use Prim.Native.Nat.{ℕ, zero, suc, ◌-◌, ◌≤◌, max}
use native.Mathlib.Omega.{arith}
use mathlib.Core.Path.{◌≡◌}
use mathlib.Core.Logic.{◌↔◌, inl, inr}
use mathlib.Core.List.{List}
use lib.ListN.{length}
use lib.Dec.{T, lit≤}
use Rattle.lists.specs.Lists.{All}
use Rattle.refusal.specs.declared.Refusal.{Refusal}
use Rattle.refusal.specs.declared.Refusal.TheVariants.{Ended, Malformed, WrongKind, OutsideLimits, Trailing, BadRow, Crowded, WrongFigure, NoBlock, ShortWork, ShortOutput, BadOrder, Unjoinable, BadWish, OutOfService, BadCounts, TooManySets, BadRounds, EarlierEvent, BadEvent, SharedFeeder}
use Rattle.refusal.specs.Refusals.{number_of}
use Rattle.refusal.specs.Checked.{accepted, refused}
use Rattle.binomial.specs.Choose.{choose}
use Rattle.number.specs.Numbers.{read_number, read_within}
use Rattle.number.specs.Meaning.{NumberRefused, WithinRefused}
use Rattle.number.proofs.Meaning.{number-refused-iff, within-refused-iff}
use Rattle.packing.specs.Rows.{distinct, subsets, SetIn}
use Rattle.packing.proofs.Sets.{ListedSet, subsets-in, listed-set}
use Rattle.packing.proofs.Subsets.{AllApart, length-subsets, subsets-apart}
use Rattle.layers.specs.declared.LayerHead.{LayerHead}
use Rattle.layers.specs.Layers.{Site, BaseReading, LayerHeads, listed, read_kind, read_dark, read_base, read_layers}
use Rattle.layers.specs.declared.FileKind.{FileKind}
use Rattle.layers.specs.declared.FileKind.TheVariants.{Pack as PackKind, Placement as PlacementKind}
use Rattle.layers.specs.Meaning.{KindRefused, ListRefused, rows_end, RowsRefused}
use Rattle.layers.proofs.KindMeaning.{kind-refused-iff}
use Rattle.layers.proofs.ListMeaning.{list-refused-iff}
use Rattle.pack.specs.Pack.{pack_layer_limits, check_pack}
use Rattle.pack.proofs.Meaning.{pack-refused-iff}
use Rattle.placement.specs.Placement.{TermsReading, placement_layer_limits, read_terms, check_placement}
use Rattle.placement.specs.Feeders.{FeedersReading, read_feeders}
use Rattle.placement.specs.Meaning.{EachRefused, FeedersRefused, RecordsRefused, PlacementRefused}
use Rattle.placement.proofs.Meaning.{placement-refused-iff}

-- 1 and 2: a number
pub refusals-of-a-number : (s : List ℕ) (at : ℕ) (e : Refusal) → (read_number s at ≡ refused e) ↔ NumberRefused s at e
refusals-of-a-number = number-refused-iff

-- "Head numbers are checked in file order, each for 1, 2, then 3 or 4": the first number, and any later one
pub refusals-of-the-kind : (file : FileKind) (s : List ℕ) (e : Refusal)
    → (read_kind file s ≡ refused e) ↔ KindRefused file s e
refusals-of-the-kind = kind-refused-iff

pub refusals-of-a-head-number : (lo hi : ℕ) (s : List ℕ) (at : ℕ) (e : Refusal)
    → (read_within lo hi s at ≡ refused e) ↔ WithinRefused lo hi s at e
refusals-of-a-head-number = within-refused-iff

-- Request (h), the list after r: its count and its numbers are checked in file order, each for 1, 2, then 4; kinds without a list
-- have none to refuse
pub refusals-of-the-list : (kind n : ℕ) (s : List ℕ) (at : ℕ) (e : Refusal)
    → (read_dark kind n s at ≡ refused e) ↔ (T (listed kind) × ListRefused n s at e)
refusals-of-the-list = list-refused-iff

-- "Then 1 or 5 for the rows' total length, then 6 over all rows", then 15, "then 7": a pack whose head's numbers are in order, with any x
pub refusals-of-a-pack : (s : List ℕ) {head : BaseReading} {numbers : LayerHeads} → read_base PackKind s ≡ accepted head
    → read_layers pack_layer_limits head.base.r 4_096 s head.next ≡ accepted numbers
    → (e : Refusal) → (check_pack s ≡ refused e) ↔ RowsRefused head.base numbers.heads s numbers.next e
refusals-of-a-pack = pack-refused-iff

-- "then 8": a placement whose head's numbers are in order, the figure being that of its kind; in kind 6 the numbers after the rows are
-- checked "after the rows' length", and 21 is "after 15 and before 7"
pub refusals-of-a-placement : (s : List ℕ) {head : BaseReading} {order : TermsReading} {numbers : LayerHeads}
    → read_base PlacementKind s ≡ accepted head
    → read_terms head.base s head.next ≡ accepted order
    → read_layers placement_layer_limits order.terms.s order.terms.b s order.next ≡ accepted numbers
    → (e : Refusal)
    → (check_placement s ≡ refused e) ↔ PlacementRefused head.kind head.base numbers.heads s numbers.next order.terms e
refusals-of-a-placement = placement-refused-iff

-- a number is refused with 1, 2 or 4
number-low : (s : List ℕ) (at : ℕ) (e : Refusal) → NumberRefused s at e → number_of e ≤ 4
number-low s at (Ended p) h = lit≤ tt
number-low s at (Malformed p) h = lit≤ tt
number-low s at WrongKind h = absurd h
number-low s at (OutsideLimits p) h = absurd h
number-low s at (Trailing p) h = absurd h
number-low s at (BadRow p) h = absurd h
number-low s at (Crowded p) h = absurd h
number-low s at (WrongFigure p) h = absurd h
number-low s at NoBlock h = absurd h
number-low s at (ShortWork p) h = absurd h
number-low s at (ShortOutput p) h = absurd h
number-low s at (BadOrder p) h = absurd h
number-low s at Unjoinable h = absurd h
number-low s at BadWish h = absurd h
number-low s at (OutOfService p) h = absurd h
number-low s at BadCounts h = absurd h
number-low s at TooManySets h = absurd h
number-low s at BadRounds h = absurd h
number-low s at (EarlierEvent p) h = absurd h
number-low s at (BadEvent p) h = absurd h
number-low s at (SharedFeeder p) h = absurd h

within_low : (lo hi : ℕ) (s : List ℕ) (at : ℕ) (e : Refusal) → WithinRefused lo hi s at e → number_of e ≤ 4
within_low lo hi s at e (inl h) = number-low s at e h
within_low lo hi s at e (inr (is, h)) = rw is (lit≤ tt)

each-low : (g left : ℕ) (s : List ℕ) (at : ℕ) (e : Refusal) → EachRefused g left s at e → number_of e ≤ 4
each-low g zero s at e h = absurd h
each-low g (suc left) s at e (inl h) = within_low 0 (g - 1) s at e h
each-low g (suc left) s at e (inr (feeder, read, h)) = each-low g left s feeder.next e h

pub feeders-low : (n r k : ℕ) (s : List ℕ) (at : ℕ) (e : Refusal) → FeedersRefused n r k s at e → number_of e ≤ 4
feeders-low n r k s at e (inl h) = within_low (max (suc k) r) n s at e h
feeders-low n r k s at e (inr (g, read, h)) = each-low g.value n s g.next e h

-- what is refused after them has another number
module _ (kind : ℕ) (base : Site) (heads : List LayerHead) (s : List ℕ) (at : ℕ) (after : FeedersReading) where
  pub records-high : (e : Refusal) → RecordsRefused kind base heads s at after e → 5 ≤ number_of e
  records-high (Ended p) h = absurd h
  records-high (Malformed p) h = absurd h
  records-high WrongKind h = absurd h
  records-high (OutsideLimits p) h = absurd h
  records-high (Trailing p) h = lit≤ tt
  records-high (BadRow p) h = lit≤ tt
  records-high (Crowded p) h = lit≤ tt
  records-high (WrongFigure p) h = absurd h
  records-high NoBlock h = absurd h
  records-high (ShortWork p) h = absurd h
  records-high (ShortOutput p) h = absurd h
  records-high (BadOrder p) h = absurd h
  records-high Unjoinable h = absurd h
  records-high BadWish h = absurd h
  records-high (OutOfService p) h = lit≤ tt
  records-high BadCounts h = absurd h
  records-high TooManySets h = absurd h
  records-high BadRounds h = absurd h
  records-high (EarlierEvent p) h = absurd h
  records-high (BadEvent p) h = absurd h
  records-high (SharedFeeder p) h = lit≤ tt

-- the rows fit, what stands after them is read, and then e is given
abbrev pub AfterFeeders : (kind : ℕ) (base : Site) (heads : List LayerHead) (s : List ℕ) (at k : ℕ) → Refusal → Type 0
AfterFeeders kind base heads s at k e =
    (after : FeedersReading)
    × (rows_end base heads s at ≤ length s)
    × (read_feeders kind base.n base.r k s (rows_end base heads s at) ≡ accepted after)
    × RecordsRefused kind base heads s at after e

-- 5, 6, 15, 21 and 7 of a placement: each is given exactly where its condition holds after the last feeder, or in kinds 2, 3 and 5
-- after the rows, and none of those before it does
pub refused-after-feeders : (s : List ℕ) {head : BaseReading} {order : TermsReading} {numbers : LayerHeads}
    → read_base PlacementKind s ≡ accepted head
    → read_terms head.base s head.next ≡ accepted order
    → read_layers placement_layer_limits order.terms.s order.terms.b s order.next ≡ accepted numbers
    → (e : Refusal) → 5 ≤ number_of e → (e ≡ WrongFigure order.terms.place → ⊥)
    → (check_placement s ≡ refused e) ↔ AfterFeeders head.kind head.base numbers.heads s numbers.next order.terms.k e
refused-after-feeders s {head} {order} {numbers} b o l e high other =
    let meaning = placement-refused-iff s b o l e in
    (λ p. to (meaning.0 p), λ (after, fits, read, h). meaning.1 (inr (inr (after, fits, read, inl h))))
  where
    to : PlacementRefused head.kind head.base numbers.heads s numbers.next order.terms e
        → AfterFeeders head.kind head.base numbers.heads s numbers.next order.terms.k e
    to (inl (short, is)) = let low : number_of e ≤ 1 = rw is (lit≤ tt) in absurd (omega arith)
    to (inr (inl (fits, six, h))) =
        let end = rows_end head.base numbers.heads s numbers.next in
        absurd (omega (arith, feeders-low head.base.n head.base.r order.terms.k s end e h))
    to (inr (inr (after, fits, read, inl h))) = (after, fits, read, h)
    to (inr (inr (after, fits, read, inr (is, good, differs)))) = absurd (other is)

-- "C(m,j) is the number of j-element subsets of m things": of distinct things `subsets` lists sets of j of them, every such
-- set is listed, no two that are listed are the same, and there are C(m,j)
pub binomial-counts-subsets : (j : ℕ) (things : List ℕ) → T (distinct things)
    → All (SetIn j things) (subsets j things)
    × ((set : List ℕ) → SetIn j things set → ListedSet j things set)
    × AllApart (subsets j things)
    × (length (subsets j things) ≡ choose (length things) j)
binomial-counts-subsets j things d =
    (subsets-in j things d, listed-set j things, subsets-apart j things d, length-subsets j things)
