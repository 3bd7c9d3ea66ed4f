-- Document 02's request (h), cabinets out of service, as theorems in its words: what is accepted, what is refused, and the
-- guarantee. Acceptance in both directions is `demand-2-pack` and `demand-2-placement`: `PackFile` and `placement_numbers` have the
-- list after r, `GoodPack` and `GoodPlacement` its limits and that no row names one. Assumes nothing.
use Prim.Native.Nat.{ℕ, ◌+◌, ◌*◌, ◌≤◌}
use native.Mathlib.Omega.{arith}
use mathlib.Core.Path.{◌≡◌, refl, sym, ◌∙◌, ap}
use mathlib.Core.Logic.{◌↔◌, ◌⊎◌, inl, inr}
use mathlib.Core.Bool.{false}
use mathlib.Core.List.{List, [], ◌∷◌, ◌++◌, flatten, append-nil}
use lib.ListN.{length, take, drop, replicate, length-append}
use lib.Seq.{length-take-le, drop_at}
use lib.Dec.{T, lit≤}
use Rattle.lists.specs.Lists.{All}
use Rattle.refusal.specs.Refusals.{number_of, result, refusal}
use Rattle.refusal.specs.Checked.{Checked, accepted, refused}
use Rattle.refusal.specs.declared.Refusal.TheVariants.{WrongKind, OutOfService}
use Rattle.number.specs.Numbers.{groups, number_bytes, read_number}
use Rattle.number.specs.declared.Reading.{Reading}
use Rattle.packing.specs.Rows.{is_in_order, member, records_in}
use Rattle.packing.specs.Failures.{FailedNodes, usable}
use Rattle.layers.specs.Layers.{Located, BaseReading, LayerHeads, InService, all_rows, heads_of, head_numbers, is_kind, listed, read_kind, read_base, read_layers}
use Rattle.layers.specs.Answers.{five_heads, no_head}
use Rattle.layers.specs.declared.FileKind.TheVariants.{Pack as PackKind, Placement as PlacementKind}
use Rattle.layers.specs.declared.LayerHead.{LayerHead}
use Rattle.layers.specs.Meaning.{FirstAt, DarkAt, standing, rows_end}
use Rattle.layers.proofs.KindMeaning.{pack-kinds, kind-refused-iff}
use Rattle.layers.proofs.Listing.{dark-count}
use Rattle.layers.proofs.Prefix.{head_numbers-two}
use Rattle.pack.specs.Pack.{Pack, pack_layer_limits, read_pack, check_pack}
use Rattle.pack.specs.Answers.{pack_checked, pack_outcome}
use Rattle.pack.proofs.Accepted.{read-of-pack, pack-told}
use Rattle.pack.proofs.Meaning.{pack-refused-iff}
use Rattle.placement.specs.declared.Rule.TheVariants.{NestedFloors}
use Rattle.placement.specs.Figure.{figure_of}
use Rattle.placement.specs.Placement.{Placement, GoodPlacement, TermsReading, placement_layer_limits, placement_bytes, read_terms, read_placement, check_placement}
use Rattle.placement.specs.Feeders.{feeder_numbers}
use Rattle.placement.specs.Answers.{placement_checked, placement_outcome}
use Rattle.placement.proofs.Answered.{placement-told}
use Rattle.planner.specs.declared.PlanResult.{PlanResult}
use Rattle.promises.proofs.Says.{not-both, says}
use Rattle.promises.proofs.Fails.{unfed}
use Rattle.promises.proofs.Refusals.{AfterFeeders, refused-after-feeders}
use Rattle.promises.proofs.Demands.{demand-3-whichever}
use Rattle.promises.proofs.Planned.{Kept}

-- the ten numbers of five layers, and what comes after them
pub layer-numbers : (heads : List LayerHead) → length (head_numbers (five_heads heads)) ≡ 10
layer-numbers heads =
    let five = length-take-le 5 (heads ++ replicate 5 no_head) (omega (arith, length-append heads (replicate 5 no_head))) in
    omega (arith, head_numbers-two (five_heads heads))

after-layers : (heads : List LayerHead) (numbers rest more : List ℕ) → head_numbers (five_heads heads) ++ rest ≡ numbers ++ more
    → length numbers ≡ 10 → rest ≡ more
after-layers heads numbers rest more e ten =
    sym (drop_at (head_numbers (five_heads heads)) rest 10 (layer-numbers heads)) ∙ ap (drop 10) e ∙ drop_at numbers more 10 ten

-- "Packs of kind 4 .. have, after r, a count from 0 to n of such nodes and then their numbers, strictly ascending and below n";
-- "No row may name one": so of what the checker's answer says of every accepted pack, whose blocks stand from `first` on.
pub h-pack-list : (bytes numbers list : List ℕ) {n r first count : ℕ}
    → pack_outcome (pack_checked (read_pack bytes)) ≡ result (n ∷ r ∷ first ∷ (numbers ++ (count ∷ list))) → length numbers ≡ 10
    → (count ≡ length list) × (count ≤ n) × T (is_in_order n list)
    × ((file : Located Pack) × (read_pack bytes ≡ accepted file) × (file.content.dark ≡ list)
    × InService list (all_rows file.content.layers))
h-pack-list bytes numbers list {n} {r} {first} {count} e ten = go (read_pack bytes) refl e
  where
    go : (c : Checked (Located Pack)) → read_pack bytes ≡ c
        → pack_outcome (pack_checked c) ≡ result (n ∷ r ∷ first ∷ (numbers ++ (count ∷ list)))
        → (count ≡ length list) × (count ≤ n) × T (is_in_order n list)
        × ((file : Located Pack) × (read_pack bytes ≡ accepted file) × (file.content.dark ≡ list)
        × InService list (all_rows file.content.layers))
    go (accepted file) q p =
        let pack = file.content in
        let good = (read-of-pack bytes pack file.first q).1 in
        let told = pack-told bytes file q in
        let n-is : pack.n ≡ n = cc in
        let layers : head_numbers (five_heads (heads_of pack.layers)) ++ (length pack.dark ∷ pack.dark) ≡ numbers ++ (count ∷ list) = cc in
        let tail : ◌≡◌ {A = List ℕ} (length pack.dark ∷ pack.dark) (count ∷ list) =
        after-layers (heads_of pack.layers) numbers (length pack.dark ∷ pack.dark) (count ∷ list) layers ten in
        let count-is : length pack.dark ≡ count = cc in
        let list-is : pack.dark ≡ list = cc in
        let order : T (is_in_order n list) = rw (← n-is, ← list-is) good.limits.dark-order in (
          sym count-is ∙ ap length list-is,
          rw (← count-is, ← n-is) (dark-count pack.n pack.dark good.limits.dark-order),
          order,
          (file, q, list-is, rw (← list-is) good.in-service),
        )
    go (refused why) q p = absurd (not-both p)

-- The same of every accepted placement of kinds 2, 3 and 5: no record in the bytes names a node of the list, and "Kinds 1 to 3 count
-- as having an empty list". In kind 6 the feeders come after the list: `n-answer`.
pub h-placement-list : (bytes numbers list : List ℕ) {kind n r s k b figure first count : ℕ}
    → placement_outcome (placement_checked (read_placement bytes))
    ≡ result (kind ∷ n ∷ r ∷ s ∷ k ∷ b ∷ figure ∷ first ∷ (numbers ++ (count ∷ list)))
    → length numbers ≡ 10
    → (kind ≡ 6 → ⊥)
    → (count ≡ length list) × (count ≤ n) × T (is_in_order n list) × InService list (records_in bytes first r b)
    × ((kind ≡ 2) ⊎ (kind ≡ 3) → list ≡ [])
h-placement-list bytes numbers list {kind} {n} {r} {s} {k} {b} {figure} {first} {count} e ten other =
    let y = says bytes e in
    let p = y.file.content in
    let told = placement-told bytes y.file y.reads in
    let values : placement_outcome (placement_checked (accepted y.file))
    ≡ result (kind ∷ n ∷ r ∷ s ∷ k ∷ b ∷ figure ∷ first ∷ (numbers ++ (count ∷ list))) =
    ap (λ c. placement_outcome (placement_checked c)) (sym y.reads) ∙ e in
    let whole : head_numbers (five_heads (heads_of p.layers)) ++ ((length p.dark ∷ p.dark) ++ feeder_numbers p.feeders) ≡ numbers ++ (count ∷ list) = cc in
    let none_after : (length p.dark ∷ p.dark) ++ feeder_numbers p.feeders ≡ length p.dark ∷ p.dark =
    rw (unfed y other) (append-nil (length p.dark ∷ p.dark)) in
    let layers : head_numbers (five_heads (heads_of p.layers)) ++ (length p.dark ∷ p.dark) ≡ numbers ++ (count ∷ list) =
    ap (λ l. head_numbers (five_heads (heads_of p.layers)) ++ l) (sym none_after) ∙ whole in
    let kind-is = y.kind-is in
    let tail : ◌≡◌ {A = List ℕ} (length p.dark ∷ p.dark) (count ∷ list) =
    after-layers (heads_of p.layers) numbers (length p.dark ∷ p.dark) (count ∷ list) layers ten in
    let count-is : length p.dark ≡ count = cc in
    let list-is : p.dark ≡ list = cc in
    let limits = y.good.limits.dark in (
      sym count-is ∙ ap length list-is,
      rw (count-is, y.n-is) at (dark-count p.n p.dark limits.ordered),
      rw (y.n-is, list-is) at limits.ordered,
      rw (y.records, list-is) at y.good.in-service,
      λ old. sym list-is ∙ limits.unlisted (rw kind-is (unlisted old)),
    )
  where
    unlisted : (kind ≡ 2) ⊎ (kind ≡ 3) → listed kind ≡ false
    unlisted (inl two) = rw two refl
    unlisted (inr three) = rw three refl

-- "kind 5, whose figure is that of kind 3"
pub h-kind-5 : (p : Placement) → GoodPlacement p → p.kind ≡ 5 → p.figure ≡ figure_of NestedFloors p.s p.k p.b (heads_of p.layers)
h-kind-5 p good five = good.formula ∙ rw five refl

-- "The guarantee is over failures among all n": whichever k of the n nodes fail, those out of service among them or not
pub h-guarantee : (bytes : List ℕ) {n r s k b figure first : ℕ} {layers : List ℕ}
    → placement_outcome (placement_checked (read_placement bytes)) ≡ result (5 ∷ n ∷ r ∷ s ∷ k ∷ b ∷ figure ∷ first ∷ layers)
    → (failed : List ℕ) → FailedNodes n k failed
    → figure ≤ usable s (records_in bytes first r b) (λ v. member v failed)
h-guarantee bytes e = demand-3-whichever bytes e

-- "It refuses with 15, at the row's start, a row naming such a node, after 6 and before 7": a pack whose head's numbers are in
-- order is refused so exactly where its rows have the right length and are in order, and row i is the first in the file that
-- names one, whatever stands together in them.
pub h-refusal-15 : (s : List ℕ) {head : BaseReading} {numbers : LayerHeads} → read_base PackKind s ≡ accepted head
    → read_layers pack_layer_limits head.base.r 4_096 s head.next ≡ accepted numbers
    → (place : ℕ)
    → (check_pack s ≡ refused (OutOfService place))
    ↔ ((length s ≡ rows_end head.base numbers.heads s numbers.next)
    × All (λ row. T (is_in_order head.base.n row)) (all_rows (standing head.base numbers.heads s numbers.next))
    × ((i : ℕ) × FirstAt (DarkAt head.base.dark (all_rows (standing head.base numbers.heads s numbers.next))) i
    × (place ≡ numbers.next + i * head.base.r)))
h-refusal-15 s b l place = pack-refused-iff s b l (OutOfService place)

-- The same of a placement. The rows' end is where the numbers after them are read; in kinds 2, 3 and 5 there are none, and `after` is
-- the rows' end (`read_feeders`).
pub h-refusal-15-placement : (s : List ℕ) {head : BaseReading} {order : TermsReading} {numbers : LayerHeads}
    → read_base PlacementKind s ≡ accepted head
    → read_terms head.base s head.next ≡ accepted order
    → read_layers placement_layer_limits order.terms.s order.terms.b s order.next ≡ accepted numbers
    → (place : ℕ)
    → (check_placement s ≡ refused (OutOfService place))
    ↔ AfterFeeders head.kind head.base numbers.heads s numbers.next order.terms.k (OutOfService place)
h-refusal-15-placement s b o l place = refused-after-feeders s b o l (OutOfService place) (lit≤ tt) (λ e. let eight : 15 ≡ 8 = ap number_of e in omega arith)

-- "Kinds 1 to 3 count as having an empty list": an accepted pack whose first number is 1 has none
pub h-kind-1-empty : (bytes : List ℕ) (file : Located Pack) → read_pack bytes ≡ accepted file → (first : Reading)
    → read_number bytes 0 ≡ accepted first → first.value ≡ 1 → file.content.dark ≡ []
h-kind-1-empty bytes file e first read one =
    let f = (read-of-pack bytes file.content file.first e).0 in
    let (next, kind-read, rest) = f.file.reads in
    let same : f.kind ≡ first.value = cc in
    f.unlisted (rw (same, one) refl)

-- a pack's first number is 1 or 4; any other is refusal 3
pub h-other-pack-refused : (bytes : List ℕ) (first : Reading) → read_number bytes 0 ≡ accepted first → (first.value ≡ 1 → ⊥)
    → (first.value ≡ 4 → ⊥)
    → pack_outcome (pack_checked (read_pack bytes)) ≡ refusal 3 0
unfolding read_pack read_base
h-other-pack-refused bytes first read not-one not-four =
    let refuses : read_kind PackKind bytes ≡ refused WrongKind =
    (kind-refused-iff PackKind bytes WrongKind).1 (inr (refl, (first, read, neither))) in
    rw refuses
  where
    neither : T (is_kind PackKind first.value) → ⊥
    neither t = go (pack-kinds first.value t)
      where
        go : (first.value ≡ 1) ⊎ (first.value ≡ 4) → ⊥
        go (inl one) = not-one one
        go (inr four) = not-four four

-- "The planner copies the list and writes kind 5": the bytes of what it writes begin with 5, and its list is the pack's. Its split
-- is the one named by the nested floors, and no other split has a higher figure by them: `named` and `best` of `Kept`, for which
-- `demand-3-written` is the theorem.
pub h-planner-writes-kind-5 : {pack : Pack} {s k b : ℕ} {work work-left out out-left : List ℕ} {given : PlanResult}
    → (kept : Kept pack s k b work work-left out out-left given)
    → (kept.placement.kind ≡ 5) × (take 1 (placement_bytes kept.placement) ≡ 5 ∷ []) × (kept.placement.dark ≡ pack.dark)
unfolding placement_bytes flatten groups number_bytes
h-planner-writes-kind-5 kept = (kept.numbers.0, rw kept.numbers.0 refl, kept.list)
