-- What can fail in an accepted placement: its nodes or, in kind 6, its feeders. The promises of requests (c), (j), (k) and (l) are shown
-- once for both. Assumes nothing.
use Prim.Native.Nat.{ℕ, suc, ◌+◌, ◌*◌}
use native.Mathlib.Omega.{arith}
use mathlib.Core.Path.{◌≡◌, refl, sym, ◌∙◌, ap, subst}
use mathlib.Core.Bool.{Bool, false, true≢false}
use mathlib.Core.List.{List, [], ◌∷◌, map, flatten}
use mathlib.Core.Option.{Option, none, some}
use lib.ListN.{length, get_or, length-map}
use lib.Dec.{ltb, eqb→eq}
use Rattle.lists.proofs.Alls.{all-imp, length-flatten}
use Rattle.lists.proofs.Counts.{count_map, count-congr}
use Rattle.lists.proofs.Tests.{T_true}
use Rattle.refusal.specs.Refusals.{result}
use Rattle.refusal.proofs.Checked.{accepted-injective}
use Rattle.number.specs.declared.Reading.{Reading}
use Rattle.packing.specs.Rows.{Row, records_in}
use Rattle.packing.specs.Failures.{hits, usable}
use Rattle.layers.specs.Layers.{all_rows}
use Rattle.layers.proofs.Lengths.{length-all_rows}
use Rattle.layers.proofs.NumbersRead.{Reads}
use Rattle.placement.specs.Feeders.{Feeders, FeederLimits, fed, feeder_numbers, unit_layers, units_of}
use Rattle.placement.specs.Placement.{read_placement}
use Rattle.placement.specs.Units.{units, unit_rows}
use Rattle.placement.specs.Answers.{placement_checked, placement_outcome}
use Rattle.placement.proofs.Accepted.{read-of-placement}
use Rattle.placement.proofs.FeederRows.{feeder-all_rows, usable-feeders}
use Rattle.promises.proofs.Says.{Says, says}

-- (n) the numbers that are read from `at` on, where the rows end: g, "and a feeder .. for each node", n of them
pub record FeedersAt (bytes : List ℕ) (at n g : ℕ) (each : List ℕ) : Type 0 where
  pub end : ℕ
  pub reads : Reads (g ∷ each) bytes at end
  pub node-each : length each ≡ n

-- the records with, for each node, the feeder that it hangs on: number v of these for node v
abbrev pub on_feeders : (each : List ℕ) (records : List (List ℕ)) → List (List ℕ)
on_feeders each records = map (map (λ v. get_or each v 0)) records

-- the replicas of a record on failed feeders are those on nodes whose feeder is failed
pub through-feeders : (each : List ℕ) (s : ℕ) (records : List (List ℕ)) (failed : ℕ → Bool)
    → usable s (on_feeders each records) failed ≡ usable s records (λ v. failed (get_or each v 0))
unfolding usable
through-feeders each s records failed =
    count_map (λ row. ltb (hits failed row) s) (map (λ v. get_or each v 0)) records
    ∙ count-congr (λ row. ltb (hits failed (map (λ v. get_or each v 0) row)) s) (λ row. ltb (hits (λ v. failed (get_or each v 0)) row) s)
    (λ row. ap (λ h. ltb h s) (count_map failed (λ v. get_or each v 0) row)) records

-- An accepted placement, of which m can fail; `rows` are its b records as lists of these.
pub record Fails (bytes : List ℕ) (kind n r s k b figure first m : ℕ) (rows : List (List ℕ)) : Type 0 where
  pub told : Says bytes kind n r s k b figure first
  pub units-are : units told.file.content ≡ m
  pub size : length rows ≡ b
  pub leaves : (failed : ℕ → Bool) → usable told.file.content.s (unit_rows told.file.content) failed ≡ usable s rows failed

-- numbers of one count that are read from one place are the same
reads_same : (vs ws s : List ℕ) (at end end' : ℕ) → length vs ≡ length ws → Reads vs s at end → Reads ws s at end' → vs ≡ ws
reads_same [] [] s at end end' e h k = refl
reads_same [] (w ∷ ws) s at end end' e h k = absurd (omega arith)
reads_same (v ∷ vs) [] s at end end' e h k = absurd (omega arith)
reads_same (v ∷ vs) (w ∷ ws) s at end end' e (mid, read, rest) (mid', read', rest') =
    let one : ◌≡◌ {A = Reading} (record { value = v; next = mid }) (record { value = w; next = mid' }) =
    accepted-injective (sym read ∙ read') in
    let ends = subst (λ (n : Reading). Reads ws s n.next end') (sym one) rest' in
    let tail = reads_same vs ws s mid end end' (omega arith) rest ends in
    λ i. (one i).value ∷ tail i

module _ {bytes : List ℕ} {kind n r s k b figure first : ℕ} (y : Says bytes kind n r s k b figure first) where
  -- the records are b
  records-b : length (records_in bytes first r b) ≡ b
  records-b = sym (ap length y.records) ∙ length-all_rows y.file.content.layers ∙ y.good.limits.records-all ∙ y.b-is

  -- no other kind has feeders
  pub unfed : (kind ≡ 6 → ⊥) → y.file.content.feeders ≡ none
  unfed other = go y.file.content.feeders refl
    where
      go : (f : Option Feeders) → y.file.content.feeders ≡ f → y.file.content.feeders ≡ none
      go none is = is
      go (some feeders) is =
          let six = (rw is at y.good.limits.feeders).0 in
          absurd (other (sym y.kind-is ∙ eqb→eq y.file.content.kind 6 (T_true six)))

  -- the numbers after the rows of one that has them
  pub record HasFeeders : Type 0 where
    pub feeders : Feeders
    pub is : y.file.content.feeders ≡ some feeders
    pub limits : FeederLimits n r k feeders
    pub reads : Reads (feeders.number ∷ feeders.each) bytes (first + b * r) (length bytes)

  pub has-feeders : kind ≡ 6 → HasFeeders
  has-feeders six = go y.file.content.feeders refl
    where
      go : (f : Option Feeders) → y.file.content.feeders ≡ f → HasFeeders
      go none is =
          let p = y.file.content in
          let not-six : fed p.kind ≡ false = rw is at y.good.limits.feeders in
          let same : p.kind ≡ 6 = y.kind-is ∙ six in
          absurd (true≢false (rw same at not-six))
      go (some feeders) is =
          let p = y.file.content in
          let file = (read-of-placement bytes p y.file.first y.reads).0 in
          let lengths = all-imp (Row p.n p.r) (λ row. length row ≡ p.r) (λ row h. h.0) (all_rows p.layers) y.good.rows in
          let flat : length (flatten (all_rows p.layers)) ≡ b * r =
          length-flatten p.r (all_rows p.layers) lengths
          ∙ ap (λ c. c * p.r) (length-all_rows p.layers ∙ y.good.limits.records-all) ∙ rw (y.b-is, y.r-is) refl in
          let place : y.file.first + length (flatten (all_rows p.layers)) ≡ first + b * r = rw (flat, y.first-is) refl in
          let tail : Reads (feeder_numbers (some feeders)) bytes (y.file.first + length (flatten (all_rows p.layers))) (length bytes) =
          rw is at file.tail in
          record {
            feeders = feeders;
            is = is;
            limits = rw (y.n-is, y.r-is, y.k-is) at (rw is at y.good.limits.feeders).1;
            reads = subst (λ at. Reads (feeder_numbers (some feeders)) bytes at (length bytes)) place tail;
          }

-- In kinds 2, 3 and 5 the n nodes can fail.
pub nodes-fail : (bytes : List ℕ) {kind n r s k b figure first : ℕ} {layers : List ℕ}
    → placement_outcome (placement_checked (read_placement bytes)) ≡ result (kind ∷ n ∷ r ∷ s ∷ k ∷ b ∷ figure ∷ first ∷ layers)
    → (kind ≡ 6 → ⊥)
    → Fails bytes kind n r s k b figure first n (records_in bytes first r b)
nodes-fail bytes e other =
    let y = says bytes e in
    let is = unfed y other in
    record {
      told = y;
      units-are = rw is y.n-is;
      size = records-b y;
      leaves = λ failed. rw (is, y.s-is, y.records) refl;
    }

-- In kind 6 the g feeders can.
pub feeders-fail : (bytes : List ℕ) {n r s k b figure first g : ℕ} {layers each : List ℕ}
    → placement_outcome (placement_checked (read_placement bytes)) ≡ result (6 ∷ n ∷ r ∷ s ∷ k ∷ b ∷ figure ∷ first ∷ layers)
    → FeedersAt bytes (first + b * r) n g each
    → Fails bytes 6 n r s k b figure first g (on_feeders each (records_in bytes first r b))
feeders-fail bytes {n} {r} {s} {k} {b} {figure} {first} {g} {layers} {each} e at =
    let y = says bytes e in
    let h = has-feeders y refl in
    let feeders = h.feeders in
    let p = y.file.content in
    let long : length (feeders.number ∷ feeders.each) ≡ length (g ∷ each) = ap suc (h.limits.node-each ∙ sym at.node-each) in
    let same =
    reads_same (feeders.number ∷ feeders.each) (g ∷ each) bytes (first + b * r) (length bytes) at.end long h.reads at.reads in
    let number : feeders.number ≡ g = cc in
    let list : feeders.each ≡ each = cc in
    let rows : unit_rows p ≡ all_rows (unit_layers (some feeders) p.layers) =
    ap (λ f. all_rows (unit_layers f p.layers)) h.is in
    record {
      told = y;
      units-are = ap (units_of p.n) h.is ∙ number;
      size = length-map (records_in bytes first r b) _ ∙ records-b y;
      leaves = λ failed.
          ap (λ l. usable p.s l failed) (rows ∙ feeder-all_rows feeders p.layers)
          ∙ usable-feeders feeders p.s (all_rows p.layers) failed
          ∙ (λ i. usable (y.s-is i) (y.records i) (λ v. failed (get_or (list i) v 0)))
          ∙ sym (through-feeders each s (records_in bytes first r b) failed);
    }
