-- Document 02, (n): "When whole feeders fall", as theorems: which placements of kind 6 are accepted, what the answer says, the guarantee,
-- and what is refused where. The calls on them are in `RequestNCalls`. Assumes nothing.
use Prim.Native.Nat.{ℕ, suc, ◌+◌, ◌*◌, ◌≤◌, ◌<◌}
use native.Mathlib.Omega.{arith}
use native.Mathlib.Nat.{le_trans}
use mathlib.Core.Path.{◌≡◌, refl, sym, ◌∙◌, ap, subst}
use mathlib.Core.Logic.{◌↔◌}
use mathlib.Core.Bool.{Bool, false, true≢false}
use mathlib.Core.List.{List, [], ◌∷◌, ◌++◌, map}
use mathlib.Core.Option.{Option, none, some}
use lib.ListN.{length, get_or}
use lib.Dec.{T}
use Rattle.lists.specs.Lists.{All, every}
use Rattle.lists.proofs.Counts.{count_map, count-congr}
use Rattle.refusal.specs.Refusals.{result}
use Rattle.refusal.specs.Checked.{accepted}
use Rattle.number.specs.Numbers.{Bytes}
use Rattle.packing.specs.Rows.{Row, is_in_order, member, holds, together, records_in}
use Rattle.packing.specs.Failures.{Failure, FailedNodes, usable}
use Rattle.packing.proofs.Failed.{failure-of-nodes}
use Rattle.layers.specs.Layers.{Layer, Located, FileAt, BaseLimits, DarkLimits, InService, Packings, all_rows, heads_of, head_numbers, sizes}
use Rattle.layers.specs.Answers.{five_heads}
use Rattle.placement.specs.declared.Rule.TheVariants.{NestedFloors}
use Rattle.placement.specs.Figure.{figure_of}
use Rattle.placement.specs.Feeders.{Feeders, FeederLimits, Shares, fed, feeder_of, feeder_numbers, feeder_row, feeder_layer}
use Rattle.placement.specs.Placement.{Placement, GoodPlacement, OrderLimits, placement_numbers, read_placement}
use Rattle.placement.specs.Answers.{placement_checked, placement_outcome, placement_values}
use Rattle.placement.proofs.Answered.{placement-told}
use Rattle.placement.proofs.Ordered.{member-ordered}
use Rattle.placement.proofs.Survivors.{usable-grows}
use Rattle.promises.proofs.Says.{says}
use Rattle.promises.proofs.Fails.{FeedersAt, on_feeders, through-feeders, has-feeders, feeders-fail}
use Rattle.promises.proofs.Demands.{demand-2-placement}
use Rattle.promises.proofs.RequestC.{at-most-kept}
use Rattle.promises.proofs.RequestH.{layer-numbers}

-- "over feeder numbers in place of nodes": a layer with, for each node of a row, its feeder
abbrev pub by_feeder : Feeders → Layer → Layer
by_feeder feeders layer = record { bound = layer.bound; rows = on_feeders feeders.each layer.rows }

-- What an accepted placement of kind 6 is.
pub record FedPlacement (p : Placement) (feeders : Feeders) : Type 0 where
  -- "A placement of kind 6 is one of kind 5 with": the limits of kind 5, its rows, none of which names a node out of service
  pub kind-6 : p.kind ≡ 6
  pub base : BaseLimits p.n p.r
  pub dark : DarkLimits 5 p.n p.dark
  pub order : OrderLimits p.n p.r (record { s = p.s; k = p.k; b = p.b })
  pub layer-each : length p.layers ≡ p.s
  pub lambda-most : All (λ layer. layer.bound ≤ 16_777_216) p.layers
  pub records-all : sizes (heads_of p.layers) ≡ p.b
  pub rows : All (Row p.n p.r) (all_rows p.layers)
  pub in-service : InService p.dark (all_rows p.layers)
  -- "the number g of feeders (above k, at least r, at most n) and a feeder below g for each node"
  pub has : p.feeders ≡ some feeders
  pub limits : FeederLimits p.n p.r p.k feeders
  -- no row is "a row with two nodes on one feeder"
  pub apart : All (λ row. Shares feeders row → ⊥) (all_rows p.layers)
  -- "The packing test .. over feeder numbers in place of nodes": in layer x no x+1 feeders stand together in more than lambda rows
  pub packings : Packings 0 (map (by_feeder feeders) p.layers)
  -- "and the figure": that of kinds 3 and 5, for k failed feeders
  pub formula : p.figure ≡ figure_of NestedFloors p.s p.k p.b (heads_of p.layers)

-- rows of feeders in ascending order hold what the rows as they stand hold
pub in-order-or-not : (feeders : Feeders) (rows : List (List ℕ)) (set : List ℕ)
    → together (map (feeder_row feeders) rows) set ≡ together (on_feeders feeders.each rows) set
unfolding together holds
in-order-or-not feeders rows set =
    count_map (λ row. every (λ v. member v row) set) (feeder_row feeders) rows
    ∙ count-congr (λ row. every (λ v. member v (feeder_row feeders row)) set) (λ row. every (λ v. member v (map (feeder_of feeders) row)) set)
    (λ row. ap (λ (f : ℕ → Bool). every f set) (λ i v. member-ordered v (map (feeder_of feeders) row) i)) rows
    ∙ sym (count_map (λ row. every (λ v. member v row) set) (map (feeder_of feeders)) rows)

packings-as : (feeders : Feeders) (x : ℕ) (layers : List Layer)
    → (Packings x (map (feeder_layer feeders) layers) → Packings x (map (by_feeder feeders) layers))
    × (Packings x (map (by_feeder feeders) layers) → Packings x (map (feeder_layer feeders) layers))
packings-as feeders x [] = (λ h. tt, λ h. tt)
packings-as feeders x (layer ∷ layers) =
    let rest = packings-as feeders (suc x) layers in
    let same = in-order-or-not feeders layer.rows in (
      λ h. (λ set size d. subst (λ c. c ≤ layer.bound) (same set) (h.0 set size d), rest.0 h.1),
      λ h. (λ set size d. subst (λ c. c ≤ layer.bound) (sym (same set)) (h.0 set size d), rest.1 h.1),
    )

pub fed-of-good : (p : Placement) → GoodPlacement p → p.kind ≡ 6 → (feeders : Feeders) × FedPlacement p feeders
fed-of-good p good six = go p.feeders refl
  where
    go : (f : Option Feeders) → p.feeders ≡ f → (feeders : Feeders) × FedPlacement p feeders
    go none is =
        let not-six : fed p.kind ≡ false = rw is at good.limits.feeders in
        absurd (true≢false (rw six at not-six))
    go (some feeders) is =
        let l = good.limits in (
          feeders,
          record {
            kind-6 = six;
            base = l.base;
            dark = record { ordered = l.dark.ordered; unlisted = λ no-list. absurd (true≢false no-list) };
            order = l.order;
            layer-each = l.layer-each;
            lambda-most = l.lambda-most;
            records-all = l.records-all;
            rows = good.rows;
            in-service = good.in-service;
            has = is;
            limits = (rw is at l.feeders).1;
            apart = rw is at good.apart;
            packings = (packings-as feeders 0 p.layers).0 (rw is at good.packings);
            formula = good.formula ∙ rw six refl;
          },
        )

pub good-of-fed : (p : Placement) (feeders : Feeders) → FedPlacement p feeders → GoodPlacement p
good-of-fed p feeders f =
    record {
      limits =
          record {
            kind = rw f.kind-6 tt;
            base = f.base;
            dark = record { ordered = f.dark.ordered; unlisted = λ no-list. absurd (true≢false (rw f.kind-6 at no-list)) };
            order = f.order;
            layer-each = f.layer-each;
            lambda-most = f.lambda-most;
            records-all = f.records-all;
            feeders = rw f.has (rw f.kind-6 refl, f.limits);
          };
      rows = f.rows;
      in-service = f.in-service;
      apart = rw f.has f.apart;
      packings = rw f.has ((packings-as feeders 0 p.layers).1 f.packings);
      formula = f.formula ∙ rw f.kind-6 refl;
    }

-- A file of kind 6 is accepted exactly when it has this layout, "after its rows, the number g of feeders .. and a feeder below g for each
-- node", then the end, and is such a placement.
pub n-accepted : (bytes values : List ℕ) → Bytes bytes
    → (placement_outcome (placement_checked (read_placement bytes)) ≡ result (6 ∷ values))
    ↔ ((file : Located Placement) × (feeders : Feeders) × (6 ∷ values ≡ placement_values file)
    × FileAt (placement_numbers file.content) file.content.layers (feeders.number ∷ feeders.each) file.first bytes
    × FedPlacement file.content feeders)
n-accepted bytes values h = (to, from)
  where
    to : placement_outcome (placement_checked (read_placement bytes)) ≡ result (6 ∷ values)
        → (file : Located Placement) × (feeders : Feeders) × (6 ∷ values ≡ placement_values file)
        × FileAt (placement_numbers file.content) file.content.layers (feeders.number ∷ feeders.each) file.first bytes
        × FedPlacement file.content feeders
    to e =
        let (file, same, is-file, good) = (demand-2-placement bytes (6 ∷ values) h).0 e in
        let p = file.content in
        let six : p.kind ≡ 6 = cc in
        let (feeders, f) = fed-of-good p good six in
        let is-fed = subst (λ o. FileAt (placement_numbers p) p.layers (feeder_numbers o) file.first bytes) f.has is-file in
        (file, feeders, same, is-fed, f)

    from : ((file : Located Placement) × (feeders : Feeders) × (6 ∷ values ≡ placement_values file)
        × FileAt (placement_numbers file.content) file.content.layers (feeders.number ∷ feeders.each) file.first bytes
        × FedPlacement file.content feeders)
        → placement_outcome (placement_checked (read_placement bytes)) ≡ result (6 ∷ values)
    from (file, feeders, same, is-file, f) =
        let p = file.content in
        let is-placement = subst (λ o. FileAt (placement_numbers p) p.layers (feeder_numbers o) file.first bytes) (sym f.has) is-file in
        (demand-2-placement bytes (6 ∷ values) h).1 (file, same, is-placement, good-of-fed p feeders f)

-- What an accepting answer of kind 6 says: after the numbers of five layers and the list come g and the feeder of each node, and these
-- are the numbers that stand from the rows' end to the file's.
pub record FedAnswer (bytes : List ℕ) (n r k b first : ℕ) (values : List ℕ) : Type 0 where
  pub layers : List ℕ
  pub list : List ℕ
  pub g : ℕ
  pub each : List ℕ
  pub values-are : values ≡ layers ++ ((length list ∷ list) ++ (g ∷ each))
  pub five : length layers ≡ 10
  pub list-order : T (is_in_order n list)
  pub in-service : InService list (records_in bytes first r b)
  pub above-k : k < g
  pub at-least-r : r ≤ g
  pub at-most-n : g ≤ n
  pub below-g : All (λ f. f < g) each
  pub stand : FeedersAt bytes (first + b * r) n g each
  pub to_the_end : stand.end ≡ length bytes

pub n-answer : (bytes : List ℕ) {n r s k b figure first : ℕ} {values : List ℕ}
    → placement_outcome (placement_checked (read_placement bytes)) ≡ result (6 ∷ n ∷ r ∷ s ∷ k ∷ b ∷ figure ∷ first ∷ values)
    → FedAnswer bytes n r k b first values
n-answer bytes {n} {r} {s} {k} {b} {figure} {first} {values} e =
    let y = says bytes e in
    let p = y.file.content in
    let h = has-feeders y refl in
    let l = h.limits in
    let told = placement-told bytes y.file y.reads in
    let given : placement_outcome (placement_checked (accepted y.file)) ≡ result (6 ∷ n ∷ r ∷ s ∷ k ∷ b ∷ figure ∷ first ∷ values) =
    ap (λ c. placement_outcome (placement_checked c)) (sym y.reads) ∙ e in
    let whole : head_numbers (five_heads (heads_of p.layers)) ++ ((length p.dark ∷ p.dark) ++ feeder_numbers p.feeders) ≡ values =
    cc in
    record {
      layers = head_numbers (five_heads (heads_of p.layers));
      list = p.dark;
      g = h.feeders.number;
      each = h.feeders.each;
      values-are =
          sym whole
          ∙ ap (λ o. head_numbers (five_heads (heads_of p.layers)) ++ ((length p.dark ∷ p.dark) ++ feeder_numbers o)) h.is;
      five = layer-numbers (heads_of p.layers);
      list-order = subst (λ c. T (is_in_order c p.dark)) y.n-is y.good.limits.dark.ordered;
      in-service = subst (InService p.dark) y.records y.good.in-service;
      above-k = l.above-k;
      at-least-r = l.least;
      at-most-n = l.most;
      below-g = l.below;
      stand = record { end = length bytes; reads = h.reads; node-each = l.node-each };
      to_the_end = refl;
    }

-- "Whichever k feeders fail, at least the figure's number of records keep fewer than s replicas on them." The file's own bytes say which:
-- record j is the r bytes at the first row's place plus j × r; g and the feeders are the numbers read where the b rows end, node v's the
-- one after v others; a replica on node v is on a failed feeder where v's feeder is one. Which feeders fail is a test that just k of the g
-- feeders pass.
pub n-survivors : (bytes : List ℕ) {n r s k b figure first g : ℕ} {values each : List ℕ}
    → placement_outcome (placement_checked (read_placement bytes)) ≡ result (6 ∷ n ∷ r ∷ s ∷ k ∷ b ∷ figure ∷ first ∷ values)
    → FeedersAt bytes (first + b * r) n g each
    → (failed : ℕ → Bool) → Failure g k failed
    → figure ≤ usable s (records_in bytes first r b) (λ v. failed (get_or each v 0))
n-survivors bytes {r = r} {s = s} {k = k} {b = b} {figure = figure} {first = first} {each = each} e at failed f =
    subst (λ c. figure ≤ c) (through-feeders each s (records_in bytes first r b) failed)
    (at-most-kept (feeders-fail bytes e at) k failed (omega arith) f)

-- The same for failed feeders as a list: k different numbers below g.
pub n-whichever : (bytes : List ℕ) {n r s k b figure first g : ℕ} {values each : List ℕ}
    → placement_outcome (placement_checked (read_placement bytes)) ≡ result (6 ∷ n ∷ r ∷ s ∷ k ∷ b ∷ figure ∷ first ∷ values)
    → FeedersAt bytes (first + b * r) n g each
    → (failed : List ℕ) → FailedNodes g k failed
    → figure ≤ usable s (records_in bytes first r b) (λ v. member (get_or each v 0) failed)
n-whichever bytes {k = k} {g = g} e at failed f = n-survivors bytes e at (λ u. member u failed) (failure-of-nodes g k failed f)

-- "a feeder takes all of its own": every failure of nodes that lies within k feeders keeps the figure, however many nodes fail
pub n-nodes-within : (bytes : List ℕ) {n r s k b figure first g : ℕ} {values each : List ℕ}
    → placement_outcome (placement_checked (read_placement bytes)) ≡ result (6 ∷ n ∷ r ∷ s ∷ k ∷ b ∷ figure ∷ first ∷ values)
    → FeedersAt bytes (first + b * r) n g each
    → (fallen : List ℕ) → FailedNodes g k fallen
    → (failed : ℕ → Bool) → ((v : ℕ) → v < n → T (failed v) → T (member (get_or each v 0) fallen))
    → figure ≤ usable s (records_in bytes first r b) failed
n-nodes-within bytes {n} {r} {s} {k} {b} {figure} {first} {g} {values} {each} e at fallen f failed within =
    let y = says bytes e in
    let rows : All (Row n y.file.content.r) (records_in bytes first r b) =
    subst (λ c. All (Row c y.file.content.r) (records_in bytes first r b)) y.n-is
    (subst (All (Row y.file.content.n y.file.content.r)) y.records y.good.rows) in
    le_trans (n-whichever bytes e at fallen f)
    (usable-grows n y.file.content.r s (records_in bytes first r b) failed (λ v. member (get_or each v 0) fallen) rows within)

-- F holds for at most k failed feeders too
pub n-at-most : (bytes : List ℕ) {n r s k b figure first g : ℕ} {values each : List ℕ}
    → placement_outcome (placement_checked (read_placement bytes)) ≡ result (6 ∷ n ∷ r ∷ s ∷ k ∷ b ∷ figure ∷ first ∷ values)
    → FeedersAt bytes (first + b * r) n g each
    → (j : ℕ) (failed : ℕ → Bool) → j ≤ k → Failure g j failed
    → figure ≤ usable s (records_in bytes first r b) (λ v. failed (get_or each v 0))
n-at-most bytes {r = r} {s = s} {b = b} {figure = figure} {first = first} {each = each} e at j failed few f =
    subst (λ c. figure ≤ c) (through-feeders each s (records_in bytes first r b) failed)
    (at-most-kept (feeders-fail bytes e at) j failed few f)
