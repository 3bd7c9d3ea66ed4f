-- Document 02, (c): "A figure for every number of failures", as theorems over the call's own contract: `WritingDone` of
-- `check_curve` is what `curve_code::curve` ensures of its answer and of the slice that it was lent. `c-curve`, `c-short-output` and
-- `c-at-most` are for placements of kinds 2, 3 and 5, whose nodes fail; those of kind 6, whose feeders fail, are in `RequestN`.
-- Assumes nothing.
use Prim.Native.Nat.{ℕ, ◌+◌, ◌-◌, ◌≤◌, ◌<◌}
use Rattle.std.specs.Prelude.{Result}
use native.Mathlib.Omega.{arith}
use mathlib.Core.Path.{◌≡◌, refl, sym, ◌∙◌, ap, subst}
use mathlib.Core.Bool.{Bool}
use mathlib.Core.List.{List, [], ◌∷◌}
use lib.ListN.{length, get_or, drop, length-append, length-drop, get_or-append}
use lib.Seq.{drop_at}
use borrow.Author.Tests.{le-leb, lt-leb}
use Rattle.lists.proofs.UpTo.{length-map-up_to, get_d-map-up_to}
use Rattle.refusal.specs.declared.Refusal.TheVariants.{ShortOutput}
use Rattle.refusal.specs.declared.Refusal.{Refusal}
use Rattle.refusal.specs.Refusals.{result, refusal}
use Rattle.refusal.specs.Checked.{Checked, accepted, refused, writing_outcome, WritingDone}
use Rattle.packing.specs.Rows.{member, records_in}
use Rattle.packing.specs.Failures.{Failure, FailedNodes, usable}
use Rattle.packing.proofs.Failed.{failure-of-nodes}
use Rattle.layers.specs.Layers.{Located}
use Rattle.placement.specs.Placement.{Placement, read_placement, check_placement}
use Rattle.placement.specs.Units.{units, figure_at}
use Rattle.placement.specs.Answers.{placement_checked, placement_outcome}
use Rattle.placement.proofs.Units.{figure_at-falls, figure_at-holds, figure_at-planned, survivors-at-most}
use Rattle.placement.proofs.TableRows.{units-within}
use Rattle.curve.specs.Curve.{curve_of, check_curve}
use Rattle.promises.proofs.Says.{not-both}
use Rattle.promises.proofs.Fails.{Fails, nodes-fail}

-- What is promised of a call on an accepted placement of which m can fail, n nodes or (n) g feeders, and whose b records are `rows` as
-- lists of these. It was lent `out`, left `out-left` in it and answered `given`.
pub record CurveKept (m : ℕ) (rows : List (List ℕ)) (s k figure : ℕ) (bytes out out-left : List ℕ) (given : Result ℕ Refusal) : Type 0 where
  -- "n - s 16-bit numbers"; "A call that only writes answers the bytes or entries written."
  pub answered : writing_outcome given ≡ result ((m - s) ∷ [])
  -- "the figure for each k' from s to n-1, by the same formula with its own lambdas and counts .. lowest k' first"
  pub placement : Placement
  pub accepts : check_placement bytes ≡ accepted placement
  pub formula : (k' : ℕ) → s ≤ k' → k' < m → get_or out-left (k' - s) 0 ≡ figure_at placement k'
  -- "Each must hold whichever k' nodes fail": that many of the b records keep fewer than s failed replicas
  pub holds : (k' : ℕ) → s ≤ k' → k' < m → (failed : List ℕ) → FailedNodes m k' failed
      → get_or out-left (k' - s) 0 ≤ usable s rows (λ v. member v failed)
  -- "no figure on the curve is higher than one for fewer failures"
  pub falls : (k' k'' : ℕ) → s ≤ k' → k' ≤ k'' → k'' < m → get_or out-left (k'' - s) 0 ≤ get_or out-left (k' - s) 0
  -- "not only the planned k": the entry of the planned k is F
  pub planned : get_or out-left (k - s) 0 ≡ figure
  -- entries past m - s never change
  pub rest : drop (m - s) out-left ≡ drop (m - s) out
  pub same_length : length out-left ≡ length out

-- the entries of the curve
curve-entry : (p : Placement) (k : ℕ) → p.s ≤ k → k < units p → get_or (curve_of p) (k - p.s) 0 ≡ figure_at p k
unfolding curve_of
curve-entry p k least most =
    let e : p.s + (k - p.s) ≡ k = omega arith in
    get_d-map-up_to (λ i. figure_at p (p.s + i)) (units p - p.s) (k - p.s) 0 (omega arith) ∙ ap (figure_at p) e

curve-length : (p : Placement) → length (curve_of p) ≡ units p - p.s
unfolding curve_of
curve-length p = length-map-up_to (λ i. figure_at p (p.s + i)) (units p - p.s)

module _ (bytes out out-left : List ℕ) (given : Result ℕ Refusal) (done : WritingDone (check_curve bytes (length out)) out out-left given) where
  -- the same in the terms of the accepted placement
  curve-done : (file : Located Placement) → read_placement bytes ≡ accepted file
      → units file.content - file.content.s ≤ length out
      → WritingDone (accepted (curve_of file.content)) out out-left given
  unfolding check_curve check_placement
  curve-done file e enough =
      let p = file.content in
      let is : check_curve bytes (length out) ≡ accepted (curve_of p) = rw (e, le-leb (units p - p.s) (length out) enough) in
      subst (λ c. WritingDone c out out-left given) is done

  -- whatever can fail
  pub curve-kept : {kind n r s k b figure first m : ℕ} {rows : List (List ℕ)} → Fails bytes kind n r s k b figure first m rows
      → m - s ≤ length out → CurveKept m rows s k figure bytes out out-left given
  unfolding check_placement
  curve-kept {kind} {n} {r} {s} {k} {b} {figure} {first} {m} {rows} fails enough =
      let y = fails.told in
      let p = y.file.content in
      let ms = fails.units-are in
      let ss = y.s-is in
      let ks = y.k-is in
      let d = curve-done y.file y.reads (rw (ms, ss) enough) in
      let size : length (curve_of p) ≡ m - s = curve-length p ∙ rw (ms, ss) refl in
      let at : (k' : ℕ) → s ≤ k' → k' < m → get_or out-left (k' - s) 0 ≡ figure_at p k' = λ k' least most.
      ap (λ l. get_or l (k' - s) 0) d.output-after
      ∙ get_or-append (curve_of p) (drop (length (curve_of p)) out) 0 (k' - s) (omega arith)
      ∙ ap (λ c. get_or (curve_of p) (k' - c) 0) (sym ss)
      ∙ curve-entry p k' (omega arith) (omega arith) in
      let limits = y.good.limits.order in
      let within = units-within p y.good in
      record {
        answered = ap writing_outcome d.answer ∙ ap (λ c. result (c ∷ [])) size;
        placement = p;
        accepts = rw y.reads refl;
        formula = at;
        holds = λ k' least most failed f.
            let h = figure_at-holds p y.good k' (λ v. member v failed) (failure-of-nodes (units p) k' failed (rw ms f)) in
            rw (at k' least most) (rw (fails.leaves (λ v. member v failed)) at h);
        falls = λ k' k'' least more most.
            rw (at k'' (omega arith) most, at k' least (omega arith)) (figure_at-falls p k' k'' more);
        planned = at k (omega (arith, limits.k-least)) (omega (arith, within.0)) ∙ ap (figure_at p) (sym ks)
            ∙ figure_at-planned p y.good
            ∙ y.figure-is;
        rest = rw (d.output-after, ← size) (drop_at (curve_of p) (drop (length (curve_of p)) out) (length (curve_of p)) refl);
        same_length =
            ap length d.output-after
            ∙ omega (arith, length-append (curve_of p) (drop (length (curve_of p)) out), length-drop (length (curve_of p)) out);
      }

  pub c-curve : {kind n r s k b figure first : ℕ} {layers : List ℕ}
      → placement_outcome (placement_checked (read_placement bytes)) ≡ result (kind ∷ n ∷ r ∷ s ∷ k ∷ b ∷ figure ∷ first ∷ layers)
      → (kind ≡ 6 → ⊥)
      → n - s ≤ length out → CurveKept n (records_in bytes first r b) s k figure bytes out out-left given
  c-curve e nodes enough = curve-kept (nodes-fail bytes e nodes) enough

  -- "gives the checker's refusals first"
  pub c-checker-first : {number place : ℕ}
      → placement_outcome (placement_checked (read_placement bytes)) ≡ refusal number place
      → (writing_outcome given ≡ refusal number place) × (out-left ≡ out)
  unfolding check_curve check_placement
  c-checker-first {number} {place} e = go (read_placement bytes) refl e
    where
      go : (c : Checked (Located Placement)) → read_placement bytes ≡ c → placement_outcome (placement_checked c) ≡ refusal number place
          → (writing_outcome given ≡ refusal number place) × (out-left ≡ out)
      go (accepted file) q p = absurd (not-both (sym p))
      go (refused why) q p =
          let d : WritingDone (refused why) out out-left given = rw q at done in
          (ap writing_outcome d.answer ∙ p, d.output-after)

  -- "a shorter output is then refusal 11, its place the entries needed"
  pub curve-short : {kind n r s k b figure first m : ℕ} {rows : List (List ℕ)} → Fails bytes kind n r s k b figure first m rows
      → length out < m - s → (writing_outcome given ≡ refusal 11 (m - s)) × (out-left ≡ out)
  unfolding check_curve check_placement
  curve-short {s = s} {m = m} fails short =
      let y = fails.told in
      let p = y.file.content in
      let same : units p - p.s ≡ m - s = rw (fails.units-are, y.s-is) refl in
      let is : check_curve bytes (length out) ≡ refused (ShortOutput (units p - p.s)) =
      rw (y.reads, lt-leb (units p - p.s) (length out) (rw same short)) in
      let d = subst (λ c. WritingDone c out out-left given) is done in
      (ap writing_outcome d.answer ∙ ap (refusal 11) same, d.output-after)

  pub c-short-output : {kind n r s k b figure first : ℕ} {layers : List ℕ}
      → placement_outcome (placement_checked (read_placement bytes)) ≡ result (kind ∷ n ∷ r ∷ s ∷ k ∷ b ∷ figure ∷ first ∷ layers)
      → (kind ≡ 6 → ⊥)
      → length out < n - s → (writing_outcome given ≡ refusal 11 (n - s)) × (out-left ≡ out)
  c-short-output e nodes short = curve-short (nodes-fail bytes e nodes) short

-- F holds for every failure of at most k of what can fail
pub at-most-kept : {bytes : List ℕ} {kind n r s k b figure first m : ℕ} {rows : List (List ℕ)}
    → Fails bytes kind n r s k b figure first m rows
    → (j : ℕ) (failed : ℕ → Bool) → j ≤ k → Failure m j failed
    → figure ≤ usable s rows failed
at-most-kept fails j failed few f =
    let y = fails.told in
    let holds = survivors-at-most y.file.content y.good j failed (omega (arith, y.k-is)) (rw fails.units-are f) in
    rw (y.figure-is, fails.leaves failed) at holds

pub c-at-most : (bytes : List ℕ) {kind n r s k b figure first : ℕ} {layers : List ℕ}
    → placement_outcome (placement_checked (read_placement bytes)) ≡ result (kind ∷ n ∷ r ∷ s ∷ k ∷ b ∷ figure ∷ first ∷ layers)
    → (kind ≡ 6 → ⊥)
    → (j : ℕ) (failed : ℕ → Bool) → j ≤ k → Failure n j failed
    → figure ≤ usable s (records_in bytes first r b) failed
c-at-most bytes e nodes = at-most-kept (nodes-fail bytes e nodes)
