-- Document 02, (k): "Cuts and repairs in turn", as theorems over the call's own contract: `rounds_answer` of `check_rounds` is what
-- `rounds_code::rounds` ensures of its answer. `k-rounds` and `k-then-18` are for placements of kinds 2, 3 and 5, whose nodes fail; those
-- of kind 6, whose feeders fail, are in `RequestN`. Assumes nothing.
use Prim.Native.Nat.{ℕ, suc, ◌+◌, ◌-◌, ◌≤◌, ◌<◌}
use Rattle.std.specs.Prelude.{Result}
use native.Mathlib.Omega.{arith}
use mathlib.Core.Path.{◌≡◌, refl, sym, ◌∙◌, ap, subst}
use mathlib.Core.Logic.{◌⊎◌, inl, inr}
use mathlib.Core.Bool.{Bool, true, false}
use mathlib.Core.List.{List, [], ◌∷◌}
use lib.ListN.{length, get_or}
use lib.Dec.{T}
use borrow.Author.Tests.{le-leb}
use Rattle.lists.specs.Lists.{All, count, up_to}
use Rattle.lists.proofs.Tests.{true-T, T-not-false}
use Rattle.refusal.specs.declared.Refusal.TheVariants.{BadRounds}
use Rattle.refusal.specs.declared.Refusal.{Refusal}
use Rattle.refusal.specs.Refusals.{result, refusal}
use Rattle.refusal.specs.Checked.{Checked, accepted, refused, outcome, WritingDone}
use Rattle.packing.specs.Rows.{Row, records_in}
use Rattle.packing.specs.Failures.{Failure, usable}
use Rattle.layers.specs.Layers.{Located, sizes}
use Rattle.layers.proofs.Lengths.{length-all_rows}
use Rattle.placement.specs.Placement.{Placement, read_placement, check_placement}
use Rattle.placement.specs.Feeders.{unit_layers}
use Rattle.placement.specs.Units.{unit_rows, figure_at}
use Rattle.placement.specs.Answers.{placement_checked, placement_outcome}
use Rattle.placement.proofs.Units.{unit-rows-are, figure_at-holds}
use Rattle.placement.proofs.FeederRows.{unit-heads}
use Rattle.curve.specs.Curve.{check_curve}
use Rattle.rounds.specs.Game.{none_failed, mended, cut, crew, storm, rounds}
use Rattle.rounds.specs.Rounds.{rounds_taken, rounds_of, check_rounds}
use Rattle.rounds.specs.Answers.{rounds_answer, rounds_outcome}
use Rattle.rounds.proofs.Number.{rows-below, usable-most, rounds-le, rounds-final, rounds-ge, rounds-whole}
use Rattle.rounds.proofs.Best.{cut-order, CutMade, storm-best, storm-made, crew-best, crew-made}
use Rattle.rounds.proofs.Checking.{Limits, limits_of}
use Rattle.promises.proofs.Says.{not-both}
use Rattle.promises.proofs.Fails.{Fails, nodes-fail}
use Rattle.promises.proofs.RequestC.{curve-kept}

-- what the answer says is what the check says: the number, or the refusal's number and place
pub k-answer : (c : Checked ℕ) → rounds_outcome (rounds_answer c) ≡ outcome (λ number. number ∷ []) c
k-answer (accepted number) = refl
k-answer (refused e) = refl

-- What is promised of a call on an accepted placement of which m can fail, n nodes or (n) g feeders, and whose b records are `rows` as
-- lists of these, within the limits, that answered `given`.
pub record RoundsKept (m : ℕ) (rows : List (List ℕ)) (s b q : ℕ) (bytes : List ℕ) (given : Result ℕ Refusal) : Type 0 where
  -- "Give that number.": the game's, on the b records
  pub number : ℕ
  pub answered : rounds_outcome given ≡ result (number ∷ [])
  pub game : number ≡ rounds m s rows q
  -- the fewest usable records over all sets of q+1 nodes: never more than after any such failure ..
  pub fewest : (failed : ℕ → Bool) → Failure m (suc q) failed → number ≤ usable s rows failed
  -- .. and as many as after one
  pub worst : ℕ → Bool
  pub worst-size : Failure m (suc q) worst
  pub worst-left : usable s rows worst ≡ number
  -- "For q+1 from s to n-1 it is at least the curve's figure for q+1 failures": the entry that a call of the curve writes for them
  pub at_least : s ≤ suc q → suc q < m → (out out-left : List ℕ) (curve : Result ℕ Refusal) → m - s ≤ length out
      → WritingDone (check_curve bytes (length out)) out out-left curve → get_or out-left (suc q - s) 0 ≤ number
  -- "If q+1 is below s it is b."
  pub whole : suc q < s → number ≡ b

-- the limits as a test
within-taken : (n b q : ℕ) → Limits n b q → rounds_taken n b q ≡ true
within-taken n b q l =
    rw (le-leb 1 q l.least, le-leb q 3 l.most, le-leb n 10 l.few, le-leb (q + 2) n l.room, le-leb b 256 l.records)

module _ (bytes : List ℕ) (q : ℕ) (given : Result ℕ Refusal) (done : given ≡ rounds_answer (check_rounds bytes q)) where
  -- whatever can fail
  pub rounds-kept : {kind n r s k b figure first m : ℕ} {rows : List (List ℕ)} → Fails bytes kind n r s k b figure first m rows
      → Limits m b q → RoundsKept m rows s b q bytes given
  unfolding check_rounds check_placement rounds_of rounds
  rounds-kept {kind} {n} {r} {s} {k} {b} {figure} {first} {m} {rows} fails l =
      let y = fails.told in
      let p = y.file.content in
      let units-rows = unit_rows p in
      let in_order : All (Row m p.r) units-rows =
      subst (λ c. All (Row c p.r) units-rows) fails.units-are (unit-rows-are p y.good) in
      let below = rows-below m p.r units-rows in_order in
      let room : suc q ≤ m = omega (arith, l.room) in
      let is : check_rounds bytes q ≡ accepted (rounds_of p q) = rw (y.reads, fails.units-are, y.b-is, within-taken m b q l) in
      let count : length units-rows ≡ b =
      length-all_rows (unit_layers p.feeders p.layers) ∙ ap sizes (unit-heads p.feeders p.layers) ∙ y.good.limits.records-all
      ∙ y.b-is in
      let leaves = fails.leaves in
      let alike : length units-rows ≡ length rows = count ∙ sym fails.size in
      let by_rows : rounds m p.s units-rows q ≡ rounds m s rows q =
      λ i. storm m (alike i) (λ failed. leaves failed i) (q - 1) none_failed in
      let same : rounds_of p q ≡ rounds m s rows q = rw fails.units-are by_rows in
      let end = rounds-final m p.s units-rows q l.least room in
      record {
        number = rounds m s rows q;
        answered = ap rounds_outcome (done ∙ ap rounds_answer (is ∙ ap accepted same));
        game = refl;
        fewest = λ failed f. rw (by_rows, leaves failed) at (rounds-le m p.s units-rows q l.least below failed f);
        worst = end.set;
        worst-size = end.number;
        worst-left = sym (leaves end.set) ∙ end.gives ∙ by_rows;
        at_least = λ least most out out-left curve enough wrote.
            let c = curve-kept bytes out out-left curve wrote fails enough in
            let one : c.placement ≡ p = cc (c.accepts, y.reads) in
            rw (c.formula (suc q) least most, one, ← by_rows)
            (rounds-ge m p.s units-rows q l.least room (figure_at p (suc q))
            (λ failed f. figure_at-holds p y.good (suc q) failed (rw fails.units-are f)));
        whole = λ few. sym by_rows ∙ rounds-whole m p.r p.s units-rows q in_order l.least room (rw y.s-is few) ∙ count;
      }

  pub k-rounds : {kind n r s k b figure first : ℕ} {layers : List ℕ}
      → placement_outcome (placement_checked (read_placement bytes)) ≡ result (kind ∷ n ∷ r ∷ s ∷ k ∷ b ∷ figure ∷ first ∷ layers)
      → (kind ≡ 6 → ⊥)
      → Limits n b q → RoundsKept n (records_in bytes first r b) s b q bytes given
  k-rounds e nodes = rounds-kept (nodes-fail bytes e nodes)

  -- the checker's refusals come first
  pub k-checker-first : {number place : ℕ}
      → placement_outcome (placement_checked (read_placement bytes)) ≡ refusal number place → rounds_outcome given ≡ refusal number place
  unfolding check_rounds check_placement
  k-checker-first {number} {place} e = go (read_placement bytes) refl e
    where
      go : (c : Checked (Located Placement)) → read_placement bytes ≡ c → placement_outcome (placement_checked c) ≡ refusal number place
          → rounds_outcome given ≡ refusal number place
      go (accepted file) is p = absurd (not-both (sym p))
      go (refused why) is p =
          let e : check_rounds bytes q ≡ refused why = rw is in
          ap rounds_outcome (done ∙ ap rounds_answer e) ∙ p

  -- "It refuses with 18, after the placement is accepted, if q is outside 1 to 3, n is above 10 or below q+2, or b is above 256."
  pub rounds-18 : {kind n r s k b figure first m : ℕ} {rows : List (List ℕ)} → Fails bytes kind n r s k b figure first m rows
      → ((q < 1) ⊎ (3 < q)) ⊎ (((10 < m) ⊎ (m < q + 2)) ⊎ (256 < b)) → rounds_outcome given ≡ refusal 18 0
  unfolding check_rounds check_placement
  rounds-18 {b = b} {m = n} fails bad =
      let y = fails.told in
      let outside : rounds_taken n b q ≡ false =
      T-not-false (rounds_taken n b q) (λ t. none (limits_of n b q (true-T (rounds_taken n b q) t)) bad) in
      let is : check_rounds bytes q ≡ refused BadRounds = rw (y.reads, fails.units-are, y.b-is, outside) in
      ap rounds_outcome (done ∙ ap rounds_answer is)
    where
      none : Limits n b q → ((q < 1) ⊎ (3 < q)) ⊎ (((10 < n) ⊎ (n < q + 2)) ⊎ (256 < b)) → ⊥
      none l (inl (inl h)) = omega (arith, l.least)
      none l (inl (inr h)) = omega (arith, l.most)
      none l (inr (inl (inl h))) = omega (arith, l.few)
      none l (inr (inl (inr h))) = omega (arith, l.room)
      none l (inr (inr h)) = omega (arith, l.records)

  pub k-then-18 : {kind n r s k b figure first : ℕ} {layers : List ℕ}
      → placement_outcome (placement_checked (read_placement bytes)) ≡ result (kind ∷ n ∷ r ∷ s ∷ k ∷ b ∷ figure ∷ first ∷ layers)
      → (kind ≡ 6 → ⊥)
      → ((q < 1) ⊎ (3 < q)) ⊎ (((10 < n) ⊎ (n < q + 2)) ⊎ (256 < b)) → rounds_outcome given ≡ refusal 18 0
  k-then-18 e nodes = rounds-18 (nodes-fail bytes e nodes)

-- "each side answers the other's best move": no two working nodes leave fewer than the storm's cut, in either order, and some two
-- leave as many, wherever two work
pub k-storm-best : (n s : ℕ) (rows : List (List ℕ)) (repairs : ℕ) (failed : ℕ → Bool) (u v : ℕ) → (u ≡ v → ⊥) → u < n → v < n
    → failed u ≡ false → failed v ≡ false
    → storm n (length rows) (usable s rows) repairs failed ≤ crew n (length rows) (usable s rows) repairs (cut (u, v) failed)
k-storm-best n s rows repairs = storm-best n (length rows) (usable s rows) repairs

pub k-storm-made : (n s : ℕ) (rows : List (List ℕ)) (repairs : ℕ) (failed : ℕ → Bool) → count failed (up_to n) + 2 ≤ n
    → (u v : ℕ) × CutMade n failed u v
    × (crew n (length rows) (usable s rows) repairs (cut (u, v) failed) ≡ storm n (length rows) (usable s rows) repairs failed)
k-storm-made n s rows repairs = storm-made n (length rows) (usable s rows) repairs (usable-most s rows)

-- no failed node that is brought back leaves more than the crew's, and some failed node leaves as many, wherever one is failed
pub k-crew-best : (n s : ℕ) (rows : List (List ℕ)) (repairs : ℕ) (failed : ℕ → Bool) (v : ℕ) → v < n → T (failed v)
    → storm n (length rows) (usable s rows) repairs (mended v failed) ≤ crew n (length rows) (usable s rows) (suc repairs) failed
k-crew-best n s rows repairs = crew-best n (length rows) (usable s rows) repairs

pub k-crew-made : (n s : ℕ) (rows : List (List ℕ)) (repairs : ℕ) (failed : ℕ → Bool) → 0 < count failed (up_to n)
    → (v : ℕ) × (v < n) × T (failed v)
    × (storm n (length rows) (usable s rows) repairs (mended v failed) ≡ crew n (length rows) (usable s rows) (suc repairs) failed)
k-crew-made n s rows repairs = crew-made n (length rows) (usable s rows) repairs

-- the order of the two nodes in a cut doesn't matter
pub k-order-of-a-cut : (u v : ℕ) (failed : ℕ → Bool) → cut (u, v) failed ≡ cut (v, u) failed
k-order-of-a-cut = cut-order
