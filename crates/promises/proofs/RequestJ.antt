-- Document 02, (j): "The true worst case for small estates", as theorems over the call's own contract: `WorstDone` of `check_worst`
-- is what `worst_code::worst_case` ensures of its answer and of the slice that it was lent. `j-worst`, `j-too-many` and
-- `j-short-output` are for placements of kinds 2, 3 and 5, whose nodes fail; those of kind 6, whose feeders fail, are in `RequestN`.
-- Assumes nothing.
use Prim.Native.Nat.{ℕ, ◌*◌, ◌≤◌, ◌<◌}
use Rattle.std.specs.Prelude.{Result}
use native.Mathlib.Omega.{arith}
use mathlib.Core.Path.{◌≡◌, refl, sym, ◌∙◌, ap, subst}
use mathlib.Core.Bool.{Bool}
use mathlib.Core.List.{List, [], ◌∷◌}
use lib.ListN.{length, take, drop, length-append, length-drop}
use lib.Seq.{take_at, drop_at}
use lib.Dec.{T, leb}
use borrow.Author.Tests.{le-leb, lt-leb}
use Rattle.refusal.specs.Refusals.{result, refusal}
use Rattle.refusal.specs.declared.Refusal.TheVariants.{ShortOutput, TooManySets}
use Rattle.refusal.specs.declared.Refusal.{Refusal}
use Rattle.refusal.specs.Checked.{Checked, accepted, refused, ◌>>=◌, require, map_accepted, outcome}
use Rattle.refusal.specs.Agree.{Agree, both-accepted, both-refused}
use Rattle.binomial.specs.Choose.{choose}
use Rattle.packing.specs.Rows.{ascending, member, records_in}
use Rattle.packing.specs.Failures.{Failure, FailedNodes, usable}
use Rattle.packing.proofs.Failed.{failure-of-nodes}
use Rattle.layers.specs.Layers.{Located}
use Rattle.placement.specs.Placement.{Placement, GoodPlacement, read_placement, check_placement}
use Rattle.placement.specs.Units.{units, unit_rows}
use Rattle.placement.specs.Answers.{placement_checked, placement_outcome}
use Rattle.placement.proofs.Units.{figure_at-holds, figure_at-planned}
use Rattle.worst.specs.Worst.{Worst, few_sets, worst_of, check_worst, Before}
use Rattle.worst.specs.Answers.{worst_answer, worst_outcome, WorstDone}
use Rattle.worst.proofs.Exact.{TrueWorst}
use Rattle.worst.proofs.Good.{worst-of-good}
use Rattle.promises.proofs.Says.{not-both}
use Rattle.promises.proofs.Fails.{Fails, nodes-fail}
use Rattle.promises.proofs.Requests.{SameContent, SameAnswer, results, refusals}

-- the answer is a result with one value, the number, or a refusal with its place
pub j-answer : (c : Checked Worst) → worst_outcome (worst_answer c) ≡ outcome (λ worst. worst.fewest ∷ []) c
j-answer (accepted worst) = refl
j-answer (refused e) = refl

-- What is promised of a call on an accepted placement of which m can fail, n nodes or (n) g feeders, and whose b records are `rows` as
-- lists of these. It was lent `out`, left `out-left` in it and answered `given`.
pub record WorstKept (m : ℕ) (rows : List (List ℕ)) (s k figure : ℕ) (out out-left : List ℕ) (given : Result ℕ Refusal) : Type 0 where
  -- "the exact number of definition 1 in the paper": it is answered
  pub number : ℕ
  pub answered : worst_outcome given ≡ result (number ∷ [])
  -- "The number equals the minimum over all sets": no k nodes leave fewer of the b records usable, as a list of different nodes
  -- or as a test
  pub least : (failed : List ℕ) → FailedNodes m k failed → number ≤ usable s rows (λ v. member v failed)
  pub whichever : (failed : ℕ → Bool) → Failure m k failed → number ≤ usable s rows failed
  -- and "the set is written as k bytes": k different nodes, ascending, that leave just so many
  pub set : FailedNodes m k (take k out-left)
  pub ascends : T (ascending 0 (take k out-left))
  pub reached : usable s rows (λ v. member v (take k out-left)) ≡ number
  -- "the first such set in dictionary order of its ascending numbers": every set before it leaves more
  pub first-of-all : (failed : List ℕ) → FailedNodes m k failed → T (ascending 0 failed) → Before failed (take k out-left)
      → number < usable s rows (λ v. member v failed)
  -- "it is at least the figure"
  pub above-figure : figure ≤ number
  -- bytes past k never change
  pub rest : drop k out-left ≡ drop k out
  pub same_length : length out-left ≡ length out

-- it is at least F
figure-below : (p : Placement) → GoodPlacement p → p.figure ≤ (worst_of p).fewest
figure-below p good =
    let w = worst-of-good p good in
    omega (
      arith,
      figure_at-planned p good,
      figure_at-holds p good p.k (λ v. member v (worst_of p).set) (failure-of-nodes (units p) p.k (worst_of p).set w.nodes),
      w.reached,
    )

-- the same over the records
worst-by : {bytes : List ℕ} {kind n r s k b figure first m : ℕ} {rows : List (List ℕ)}
    (fails : Fails bytes kind n r s k b figure first m rows)
    → TrueWorst m s k rows (worst_of fails.told.file.content)
worst-by {s = s} {k = k} {m = m} fails =
    let y = fails.told in
    let p = y.file.content in
    let w : TrueWorst m p.s k (unit_rows p) (worst_of p) =
    subst (λ c. TrueWorst c p.s k (unit_rows p) (worst_of p)) fails.units-are
    (subst (λ c. TrueWorst (units p) p.s c (unit_rows p) (worst_of p)) y.k-is (worst-of-good p y.good)) in
    record {
      least = λ failed f. rw (fails.leaves failed) at (w.least failed f);
      nodes = w.nodes;
      ascends = w.ascends;
      reached = sym (fails.leaves (λ v. member v (worst_of p).set)) ∙ w.reached;
      first = λ other f a before. rw (fails.leaves (λ v. member v other)) at (w.first other f a before);
    }

module _ (bytes out out-left : List ℕ) (given : Result ℕ Refusal) (done : WorstDone (check_worst bytes (length out)) out out-left given) where
  -- the same in the terms of the accepted placement
  worst-done : (file : Located Placement) → read_placement bytes ≡ accepted file
      → choose (units file.content) file.content.k * file.content.b ≤ 16_777_216 → file.content.k ≤ length out
      → WorstDone (accepted (worst_of file.content)) out out-left given
  unfolding check_worst check_placement
  worst-done file e few enough =
      let p = file.content in
      let is : check_worst bytes (length out) ≡ accepted (worst_of p) =
      rw (e, le-leb (choose (units p) p.k * p.b) 16_777_216 few, le-leb p.k (length out) enough) in
      subst (λ c. WorstDone c out out-left given) is done

  -- whatever can fail
  pub worst-kept : {kind n r s k b figure first m : ℕ} {rows : List (List ℕ)} → Fails bytes kind n r s k b figure first m rows
      → choose m k * b ≤ 16_777_216 → k ≤ length out → WorstKept m rows s k figure out out-left given
  worst-kept {kind} {n} {r} {s} {k} {b} {figure} {first} {m} {rows} fails few enough =
      let y = fails.told in
      let p = y.file.content in
      let ks = y.k-is in
      let d = worst-done y.file y.reads (rw (fails.units-are, ks, y.b-is) few) (rw ks enough) in
      let w = worst-by fails in
      let size : length (worst_of p).set ≡ k = w.nodes.number in
      let start : take k out-left ≡ (worst_of p).set =
      ap (take k) d.output-after ∙ take_at (worst_of p).set (drop (length (worst_of p).set) out) k size in
      record {
        number = (worst_of p).fewest;
        answered = ap worst_outcome d.answer;
        least = λ failed f. w.least (λ v. member v failed) (failure-of-nodes m k failed f);
        whichever = w.least;
        set = rw start w.nodes;
        ascends = rw start w.ascends;
        reached = rw start w.reached;
        first-of-all = λ failed f a before. w.first failed f a (rw start at before);
        above-figure = subst (λ c. c ≤ (worst_of p).fewest) y.figure-is (figure-below p y.good);
        rest =
            ap (drop k) d.output-after
            ∙ drop_at (worst_of p).set (drop (length (worst_of p).set) out) k size
            ∙ ap (λ m. drop m out) size;
        same_length =
            ap length d.output-after
            ∙ omega (arith, length-append (worst_of p).set (drop (length (worst_of p).set) out), length-drop (length (worst_of p).set) out);
      }

  pub j-worst : {kind n r s k b figure first : ℕ} {layers : List ℕ}
      → placement_outcome (placement_checked (read_placement bytes)) ≡ result (kind ∷ n ∷ r ∷ s ∷ k ∷ b ∷ figure ∷ first ∷ layers)
      → (kind ≡ 6 → ⊥)
      → choose n k * b ≤ 16_777_216 → k ≤ length out → WorstKept n (records_in bytes first r b) s k figure out out-left given
  j-worst e nodes = worst-kept (nodes-fail bytes e nodes)

  -- "after the placement is accepted": the checker's refusals come first
  pub j-checker-first : {number place : ℕ}
      → placement_outcome (placement_checked (read_placement bytes)) ≡ refusal number place
      → (worst_outcome given ≡ refusal number place) × (out-left ≡ out)
  unfolding check_worst check_placement
  j-checker-first {number} {place} e = go (read_placement bytes) refl e
    where
      go : (c : Checked (Located Placement)) → read_placement bytes ≡ c → placement_outcome (placement_checked c) ≡ refusal number place
          → (worst_outcome given ≡ refusal number place) × (out-left ≡ out)
      go (accepted file) q p = absurd (not-both (sym p))
      go (refused why) q p =
          let d : WorstDone (refused why) out out-left given = rw q at done in
          (ap worst_outcome d.answer ∙ p, d.output-after)

  -- "It refuses with 17 .. if C(n,k) × b is above 16,777,216", however long the output is
  pub worst-too-many : {kind n r s k b figure first m : ℕ} {rows : List (List ℕ)} → Fails bytes kind n r s k b figure first m rows
      → 16_777_216 < choose m k * b → (worst_outcome given ≡ refusal 17 0) × (out-left ≡ out)
  unfolding check_worst check_placement
  worst-too-many fails many =
      let y = fails.told in
      let p = y.file.content in
      let is : check_worst bytes (length out) ≡ refused TooManySets =
      rw (y.reads, lt-leb (choose (units p) p.k * p.b) 16_777_216 (rw (fails.units-are, y.k-is, y.b-is) many)) in
      let d = subst (λ c. WorstDone c out out-left given) is done in
      (ap worst_outcome d.answer, d.output-after)

  pub j-too-many : {kind n r s k b figure first : ℕ} {layers : List ℕ}
      → placement_outcome (placement_checked (read_placement bytes)) ≡ result (kind ∷ n ∷ r ∷ s ∷ k ∷ b ∷ figure ∷ first ∷ layers)
      → (kind ≡ 6 → ⊥)
      → 16_777_216 < choose n k * b → (worst_outcome given ≡ refusal 17 0) × (out-left ≡ out)
  j-too-many e nodes = worst-too-many (nodes-fail bytes e nodes)

  -- "a shorter output is then 11": its place the bytes needed
  pub worst-short : {kind n r s k b figure first m : ℕ} {rows : List (List ℕ)} → Fails bytes kind n r s k b figure first m rows
      → choose m k * b ≤ 16_777_216 → length out < k → (worst_outcome given ≡ refusal 11 k) × (out-left ≡ out)
  unfolding check_worst check_placement
  worst-short {k = k} fails few short =
      let y = fails.told in
      let p = y.file.content in
      let is : check_worst bytes (length out) ≡ refused (ShortOutput p.k) =
      rw (
        y.reads,
        le-leb (choose (units p) p.k * p.b) 16_777_216 (rw (fails.units-are, y.k-is, y.b-is) few),
        lt-leb p.k (length out) (rw y.k-is short),
      ) in
      let d = subst (λ c. WorstDone c out out-left given) is done in
      (ap worst_outcome d.answer ∙ ap (refusal 11) y.k-is, d.output-after)

  pub j-short-output : {kind n r s k b figure first : ℕ} {layers : List ℕ}
      → placement_outcome (placement_checked (read_placement bytes)) ≡ result (kind ∷ n ∷ r ∷ s ∷ k ∷ b ∷ figure ∷ first ∷ layers)
      → (kind ≡ 6 → ⊥)
      → choose n k * b ≤ 16_777_216 → length out < k → (worst_outcome given ≡ refusal 11 k) × (out-left ≡ out)
  j-short-output e nodes = worst-short (nodes-fail bytes e nodes)

-- what follows the checker
rest_of : (output : ℕ) (p : Placement) → Checked Worst
rest_of output p = do
  _ ← require (few_sets (units p) p.k p.b) TooManySets
  _ ← require (leb p.k output) (ShortOutput p.k)
  accepted (worst_of p)

same : (c : Checked Worst) → Agree (λ worst other. worst ≡ other) c c
same (accepted worst) = both-accepted refl
same (refused e) = both-refused refl

worst-agree : (output : ℕ) {c d : Checked (Located Placement)} → Agree SameContent c d
    → Agree (λ worst other. worst ≡ other) (map_accepted (λ file. file.content) c >>= rest_of output) (map_accepted (λ file. file.content) d >>= rest_of output)
worst-agree output (both-accepted {a} {b} e) = rw e (same (rest_of output b.content))
worst-agree output (both-refused e) = both-refused e

done-agree : {c d : Checked Worst} {out left left' : List ℕ} {given given' : Result ℕ Refusal} → Agree (λ worst other. worst ≡ other) c d
    → WorstDone c out left given → WorstDone d out left' given'
    → SameAnswer 1 (worst_outcome given) (worst_outcome given') × (left ≡ left')
done-agree (both-accepted e) x y =
    (rw (x.answer, y.answer, e) (results refl refl), x.output-after ∙ rw e (sym y.output-after))
done-agree (both-refused e) x y = (rw (x.answer, y.answer) (refusals e), x.output-after ∙ sym y.output-after)

-- Two files with the same content, as those that differ only in padding have (`b-same-placement`): the same number and the same
-- set, or refusals with the same number.
pub j-padded : (bytes other out left left' : List ℕ) (given given' : Result ℕ Refusal)
    → Agree SameContent (read_placement bytes) (read_placement other)
    → WorstDone (check_worst bytes (length out)) out left given → WorstDone (check_worst other (length out)) out left' given'
    → SameAnswer 1 (worst_outcome given) (worst_outcome given') × (left ≡ left')
unfolding check_worst check_placement rest_of
j-padded bytes other out left left' given given' agree x y = done-agree (worst-agree (length out) agree) x y
