-- Document 02, (n): what a file of kind 6 is refused for and where, how long one is, and one in which each node is its own feeder. Assumes
-- nothing.
use Prim.Native.Nat.{ℕ, suc, ◌+◌, ◌*◌, ◌≤◌, ◌<◌}
use native.Mathlib.Omega.{arith}
use native.Mathlib.Nat.{mul-le-mul}
use mathlib.Core.Path.{◌≡◌, refl, sym, ◌∙◌, ap, subst}
use mathlib.Core.Logic.{◌↔◌, ◌⊎◌, inl, inr}
use mathlib.Core.Bool.{Bool, true, false, true≢false}
use mathlib.Core.List.{List, [], ◌∷◌, map, map-id, flatten}
use mathlib.Core.Option.{none, some}
use lib.ListN.{length, get_or, length-append, length-map}
use lib.Dec.{T, lit≤, ltb, ltb→lt, eqb→eq}
use Rattle.lists.specs.Lists.{All, up_to}
use Rattle.lists.proofs.Alls.{all-imp, all-append-left, all-append-right, every-all}
use Rattle.lists.proofs.Tests.{T_true, and_right}
use Rattle.lists.proofs.UpTo.{length-up_to, all-up_to, get_d-map-up_to}
use Rattle.refusal.specs.declared.Refusal.{Refusal}
use Rattle.refusal.specs.declared.Refusal.TheVariants.{Ended, Trailing, BadRow, Crowded, OutOfService, SharedFeeder}
use Rattle.refusal.specs.Refusals.{number_of, result}
use Rattle.refusal.specs.Checked.{accepted, refused}
use Rattle.refusal.proofs.Checked.{accepted-injective}
use Rattle.packing.specs.Rows.{Row, ascending, member}
use Rattle.packing.proofs.Members.{member-cases}
use Rattle.layers.specs.Layers.{Layer, Packings, BaseReading, LayerHeads, all_rows, head_of, heads_of, head_numbers, list_numbers, read_base, read_layers}
use Rattle.layers.specs.Meaning.{standing, rows_end}
use Rattle.layers.specs.declared.FileKind.TheVariants.{Placement as PlacementKind}
use Rattle.layers.proofs.Listing.{dark-count}
use Rattle.layers.proofs.NumbersRead.{reads-next}
use Rattle.layers.proofs.Prefix.{head_numbers-two}
use Rattle.placement.specs.Feeders.{Feeders, FeedersReading, Shares, fed, read_feeders}
use Rattle.placement.specs.Meaning.{SharedAt, FeedersRefused, PlacementRefused}
use Rattle.placement.specs.Placement.{Placement, GoodPlacement, TermsReading, placement_numbers, placement_layer_limits, read_terms, read_placement, check_placement}
use Rattle.placement.specs.Answers.{placement_checked, placement_outcome}
use Rattle.placement.proofs.Accepted.{read-of-placement}
use Rattle.placement.proofs.Meaning.{placement-refused-iff}
use Rattle.promises.proofs.Says.{says}
use Rattle.promises.proofs.Fails.{on_feeders, has-feeders}
use Rattle.promises.proofs.Refusals.{AfterFeeders, refused-after-feeders, records-high}
use Rattle.promises.proofs.RequestN.{by_feeder, good-of-fed, fed-of-good}

-- A file of kind 6 whose head's numbers are in order, and whose rows end at `rows_end`.
module _ (s : List ℕ) {head : BaseReading} {order : TermsReading} {numbers : LayerHeads}
    (b : read_base PlacementKind s ≡ accepted head)
    (o : read_terms head.base s head.next ≡ accepted order)
    (l : read_layers placement_layer_limits order.terms.s order.terms.b s order.next ≡ accepted numbers)
    (six : head.kind ≡ 6) where
  -- "these numbers are read after the rows' length": 1, at the input's length, where the rows don't fit; then g and the feeders, each for
  -- 1, 2 and 4: "limits are refusal 4", at the number's start. `FeedersRefused` says of which number: g below the larger of k+1 and r or
  -- above n, or a feeder not below g, those before it being in order. So whatever the rows are and whatever follows.
  pub n-numbers-refused : (e : Refusal) → number_of e ≤ 4
      → (check_placement s ≡ refused e)
      ↔ (((length s < rows_end head.base numbers.heads s numbers.next) × (e ≡ Ended (length s)))
      ⊎ ((rows_end head.base numbers.heads s numbers.next ≤ length s)
      × FeedersRefused head.base.n head.base.r order.terms.k s (rows_end head.base numbers.heads s numbers.next) e))
  n-numbers-refused e low =
      let meaning = placement-refused-iff s b o l e in
      (λ p. to (meaning.0 p), λ h. meaning.1 (from h))
    where
      to : PlacementRefused head.kind head.base numbers.heads s numbers.next order.terms e
          → ((length s < rows_end head.base numbers.heads s numbers.next) × (e ≡ Ended (length s)))
          ⊎ ((rows_end head.base numbers.heads s numbers.next ≤ length s)
          × FeedersRefused head.base.n head.base.r order.terms.k s (rows_end head.base numbers.heads s numbers.next) e)
      to (inl h) = inl h
      to (inr (inl (fits, is, h))) = inr (fits, h)
      to (inr (inr (after, fits, read, inl h))) =
          absurd (let high = records-high head.kind head.base numbers.heads s numbers.next after e h in omega arith)
      to (inr (inr (after, fits, read, inr (is, good, differs)))) = absurd (let high : 8 ≤ number_of e = rw is (lit≤ tt) in omega arith)

      from : ((length s < rows_end head.base numbers.heads s numbers.next) × (e ≡ Ended (length s)))
          ⊎ ((rows_end head.base numbers.heads s numbers.next ≤ length s)
          × FeedersRefused head.base.n head.base.r order.terms.k s (rows_end head.base numbers.heads s numbers.next) e)
          → PlacementRefused head.kind head.base numbers.heads s numbers.next order.terms e
      from (inl h) = inl h
      from (inr (fits, h)) = inr (inl (fits, rw six refl, h))

  -- "Refusal 5 is checked after the last feeder": at the first byte after it, where the rows fit and g and the feeders are in order,
  -- whatever the rows are. What `AfterFeeders` says of each of these is `RecordsRefused`, in which `after` holds g, the feeders and the
  -- place after the last of them.
  pub n-refusal-5 : (place : ℕ) → (check_placement s ≡ refused (Trailing place))
      ↔ AfterFeeders head.kind head.base numbers.heads s numbers.next order.terms.k (Trailing place)
  n-refusal-5 place = refused-after-feeders s b o l (Trailing place) (lit≤ tt) (λ e. let eight : 5 ≡ 8 = ap number_of e in omega arith)

  -- "then 6": at the row's start, where the file ends with the last feeder
  pub n-refusal-6 : (place : ℕ) → (check_placement s ≡ refused (BadRow place))
      ↔ AfterFeeders head.kind head.base numbers.heads s numbers.next order.terms.k (BadRow place)
  n-refusal-6 place = refused-after-feeders s b o l (BadRow place) (lit≤ tt) (λ e. let eight : 6 ≡ 8 = ap number_of e in omega arith)

  -- 15: where all rows are in order too
  pub n-refusal-15 : (place : ℕ) → (check_placement s ≡ refused (OutOfService place))
      ↔ AfterFeeders head.kind head.base numbers.heads s numbers.next order.terms.k (OutOfService place)
  n-refusal-15 place = refused-after-feeders s b o l (OutOfService place) (lit≤ tt) (λ e. let eight : 15 ≡ 8 = ap number_of e in omega arith)

  -- "It refuses with 21, after 15 and before 7, a row with two nodes on one feeder": at the start of the first such row in the file, where
  -- no row names a node out of service, whatever stands together in them
  pub n-refusal-21 : (place : ℕ) → (check_placement s ≡ refused (SharedFeeder place))
      ↔ AfterFeeders head.kind head.base numbers.heads s numbers.next order.terms.k (SharedFeeder place)
  n-refusal-21 place = refused-after-feeders s b o l (SharedFeeder place) (lit≤ tt) (λ e. let eight : 21 ≡ 8 = ap number_of e in omega arith)

  -- 7, "over feeder numbers in place of nodes": at the start of the first row in the file that holds x+1 feeders which stand together in
  -- more rows than its layer x allows, where no row has two nodes on one feeder. What a row of feeders in ascending order holds, the row
  -- as it stands holds: `in-order-or-not`.
  pub n-refusal-7 : (place : ℕ) → (check_placement s ≡ refused (Crowded place))
      ↔ AfterFeeders head.kind head.base numbers.heads s numbers.next order.terms.k (Crowded place)
  n-refusal-7 place = refused-after-feeders s b o l (Crowded place) (lit≤ tt) (λ e. let eight : 7 ≡ 8 = ap number_of e in omega arith)

-- 21 is for no other kind
pub n-21-of-kind-6 : (s : List ℕ) {head : BaseReading} {order : TermsReading} {numbers : LayerHeads}
    → read_base PlacementKind s ≡ accepted head
    → read_terms head.base s head.next ≡ accepted order
    → read_layers placement_layer_limits order.terms.s order.terms.b s order.next ≡ accepted numbers
    → (place : ℕ) → check_placement s ≡ refused (SharedFeeder place) → head.kind ≡ 6
unfolding read_feeders
n-21-of-kind-6 s {head} {order} {numbers} b o l place e =
    let why = (refused-after-feeders s b o l (SharedFeeder place) (lit≤ tt) (λ e. let eight : 21 ≡ 8 = ap number_of e in omega arith)).0 e in
    go (fed head.kind) refl why.0 why.2 why.3.3.0 why.3.3.1.here
  where
    go : (t : Bool) → fed head.kind ≡ t → (after : FeedersReading)
        → read_feeders head.kind head.base.n head.base.r order.terms.k s (rows_end head.base numbers.heads s numbers.next)
        ≡ accepted after
        → (i : ℕ) → SharedAt after.feeders (all_rows (standing head.base numbers.heads s numbers.next)) i
        → head.kind ≡ 6
    go true is after read i h = eqb→eq head.kind 6 (T_true is)
    go false is after read i h =
        let none_after : none ≡ after.feeders = ap (λ (a : FeedersReading). a.feeders) (accepted-injective (rw is at read)) in
        absurd (subst (λ f. SharedAt f (all_rows (standing head.base numbers.heads s numbers.next)) i) (sym none_after) h)

-- A file of kind 6 that is accepted has at most 22,596 bytes, however its numbers are padded: 1,092 before the rows, 20,480 of rows, and
-- 1,024 after them. So the 32,768 bytes that `check` reads hold it whole, and decide (`check_placement-buffer`).
pub n-bytes-most : (bytes : List ℕ) {n r s k b figure first : ℕ} {values : List ℕ}
    → placement_outcome (placement_checked (read_placement bytes)) ≡ result (6 ∷ n ∷ r ∷ s ∷ k ∷ b ∷ figure ∷ first ∷ values)
    → length bytes ≤ 22_596
unfolding list_numbers
n-bytes-most bytes {n} {r} {s} {k} {b} {figure} {first} {values} e =
    let y = says bytes e in
    let p = y.file.content in
    let h = has-feeders y refl in
    let l = y.good.limits in
    let base = l.base in
    let o = l.order in
    let file = (read-of-placement bytes p y.file.first y.reads).0 in
    let list : length (list_numbers p.kind p.dark) ≡ suc (length p.dark) = rw y.kind-is refl in
    let dark = dark-count p.n p.dark l.dark.ordered in
    let heads : length (head_numbers (heads_of p.layers)) ≡ length (heads_of p.layers) * 2 = head_numbers-two (heads_of p.layers) in
    let layers : length (heads_of p.layers) ≡ p.s = length-map p.layers head_of ∙ l.layer-each in
    let size : length (placement_numbers p)
    ≡ 3 + (length (list_numbers p.kind p.dark) + (4 + length (head_numbers (heads_of p.layers)))) =
    let whole = length-append (list_numbers p.kind p.dark) (p.s ∷ p.k ∷ p.b ∷ p.figure ∷ head_numbers (heads_of p.layers)) in
    omega arith in
    let head-end = reads-next (placement_numbers p) bytes 0 y.file.first file.reads in
    let rows : p.b * p.r ≤ 4_096 * 5 = mul-le-mul o.b-most base.r-most in
    let same_rows : p.b * p.r ≡ b * r = rw (y.b-is, y.r-is) refl in
    let after = reads-next (h.feeders.number ∷ h.feeders.each) bytes (first + b * r) (length bytes) h.reads in
    omega (arith, y.first-is, y.n-is, h.limits.node-each, base.n-most, base.r-most, o.s-most)

-- g = n, each node its own feeder
abbrev pub own_feeders : (n : ℕ) → Feeders
own_feeders n = record { number = n; each = up_to n }

abbrev pub as_kind6 : Placement → Placement
as_kind6 p =
    record {
      kind = 6;
      n = p.n;
      r = p.r;
      dark = p.dark;
      s = p.s;
      k = p.k;
      b = p.b;
      figure = p.figure;
      layers = p.layers;
      feeders = some (own_feeders p.n);
    }

own : (n v : ℕ) → v < n → get_or (up_to n) v 0 ≡ v
own n v lt = ap (λ l. get_or l v 0) (sym (map-id (up_to n))) ∙ get_d-map-up_to (λ i. i) n v 0 lt

nodes-below : (n r : ℕ) (row : List ℕ) → Row n r row → All (λ v. v < n) row
nodes-below n r row h =
    all-imp (λ v. T (ltb v n)) (λ v. v < n) (λ v. ltb→lt v n) row
    (every-all (λ v. ltb v n) row (and_right (ascending 0 row) _ h.1))

own_row : (n : ℕ) (row : List ℕ) → All (λ v. v < n) row → map (λ v. get_or (up_to n) v 0) row ≡ row
own_row n [] h = refl
own_row n (v ∷ row) (lt, h) = λ i. own n v lt i ∷ own_row n row h i

own-rows : (n r : ℕ) (rows : List (List ℕ)) → All (Row n r) rows → on_feeders (up_to n) rows ≡ rows
own-rows n r [] h = refl
own-rows n r (row ∷ rows) (is, h) = λ i. own_row n row (nodes-below n r row is) i ∷ own-rows n r rows h i

own-layers : (n r : ℕ) (layers : List Layer) → All (Row n r) (all_rows layers) → map (by_feeder (own_feeders n)) layers ≡ layers
unfolding flatten
own-layers n r [] h = refl
own-layers n r (layer ∷ layers) h =
    let here = own-rows n r layer.rows (all-append-left (Row n r) layer.rows (all_rows layers) h) in
    let rest = own-layers n r layers (all-append-right (Row n r) layer.rows (all_rows layers) h) in
    λ i. record { bound = layer.bound; rows = here i } ∷ rest i

all-member : (P : ℕ → Type 0) (nodes : List ℕ) → All P nodes → (v : ℕ) → T (member v nodes) → P v
unfolding member
all-member P [] h v m = absurd m
all-member P (w ∷ nodes) h v m = go (member-cases v w nodes m) (all-member P nodes h.1 v)
  where
    go : (v ≡ w) ⊎ T (member v nodes) → (T (member v nodes) → P v) → P v
    go (inl same) ih = subst P (sym same) h.0
    go (inr later) ih = ih later

own-apart : (n r : ℕ) (row : List ℕ) → Row n r row → Shares (own_feeders n) row → ⊥
own-apart n r row is shared =
    let below = nodes-below n r row is in
    let lt = all-member (λ v. v < n) row below shared.node shared.node_in in
    let lt' = all-member (λ v. v < n) row below shared.other shared.other-in in
    shared.two (sym (own n shared.node lt) ∙ shared.one-feeder ∙ own n shared.other lt')

-- g = n, each node its own feeder: such a placement of kind 6 is good exactly where the one of kind 5 without the feeders is, with the
-- same figure, which is a field of both
pub n-own-feeders : (p : Placement) → p.kind ≡ 5 → p.feeders ≡ none → GoodPlacement p ↔ GoodPlacement (as_kind6 p)
n-own-feeders p five unfed = (to, from)
  where
    to : GoodPlacement p → GoodPlacement (as_kind6 p)
    to good =
        let l = good.limits in
        good-of-fed (as_kind6 p) (own_feeders p.n)
        (record {
          kind-6 = refl;
          base = l.base;
          dark = record { ordered = l.dark.ordered; unlisted = λ no-list. absurd (true≢false no-list) };
          order = l.order;
          layer-each = l.layer-each;
          lambda-most = l.lambda-most;
          records-all = l.records-all;
          rows = good.rows;
          in-service = good.in-service;
          has = refl;
          limits =
              record {
                above-k = l.order.k-most;
                least = l.base.r-nodes;
                most = omega arith;
                node-each = length-up_to p.n;
                below = all-up_to (λ f. f < p.n) p.n (λ f lt. lt);
              };
          apart =
              all-imp (Row p.n p.r) (λ row. Shares (own_feeders p.n) row → ⊥) (own-apart p.n p.r) (all_rows p.layers)
              good.rows;
          packings = subst (Packings 0) (sym (own-layers p.n p.r p.layers good.rows)) (rw unfed at good.packings);
          formula = good.formula ∙ rw five refl;
        })

    from : GoodPlacement (as_kind6 p) → GoodPlacement p
    from good =
        let l = good.limits in
        let (feeders, f) = fed-of-good (as_kind6 p) good refl in
        let one : some feeders ≡ some (own_feeders p.n) = sym f.has in
        record {
          limits =
              record {
                kind = rw five tt;
                base = l.base;
                dark = record { ordered = l.dark.ordered; unlisted = λ no-list. absurd (true≢false (rw five at no-list)) };
                order = l.order;
                layer-each = l.layer-each;
                lambda-most = l.lambda-most;
                records-all = l.records-all;
                feeders = rw unfed (rw five refl);
              };
          rows = good.rows;
          in-service = good.in-service;
          apart = rw unfed tt;
          packings =
              rw unfed
              (subst (Packings 0) (own-layers p.n p.r p.layers good.rows)
              (subst (λ (o : Feeders). Packings 0 (map (by_feeder o) p.layers)) (some_one one) f.packings));
          formula = good.formula ∙ rw five refl;
        }
      where
        some_one : {a c : Feeders} → some a ≡ some c → a ≡ c
        some_one e = cc
