-- Certifying rows that somebody else placed. `CertifyDone (certify …)` is the contract of `certify_code::certify`: what it answers, and
-- what the lent output holds afterwards. Assumes nothing.
use Prim.Native.Nat.{ℕ, ◌+◌, ◌*◌, ◌≤◌, ◌<◌}
use native.Mathlib.Omega.{arith}
use native.Mathlib.Nat.{le_trans}
use mathlib.Core.Path.{◌≡◌, refl, ◌∙◌, ap, subst}
use mathlib.Core.Logic.{◌↔◌}
use mathlib.Core.List.{List}
use lib.ListN.{length, take, drop, length-append, length-drop}
use lib.Seq.{take_at, drop_at}
use Rattle.refusal.specs.declared.Refusal.{Refusal}
use Rattle.refusal.specs.declared.Refusal.TheVariants.{ShortOutput}
use Rattle.refusal.specs.Refusals.{result, refusal, refusal_outcome}
use Rattle.refusal.specs.Checked.{accepted, refused}
use Rattle.refusal.proofs.Checked.{map_accepted-accepted}
use Rattle.number.specs.Numbers.{Bytes}
use Rattle.packing.specs.Failures.{FailedNodes, usable}
use Rattle.packing.specs.Rows.{Packing, member, records_in}
use Rattle.layers.specs.Layers.{Layer, Located, blocks_at, all_rows}
use Rattle.placement.specs.Placement.{Placement, GoodPlacement, placement_bytes, read_placement, check_placement}
use Rattle.placement.specs.Answers.{placement_checked, placement_outcome, placement_values}
use Rattle.placement.proofs.Accepted.{read-of-placement}
use Rattle.placement.proofs.Answered.{placement-told}
use Rattle.placement.proofs.Written.{written-bytes, written-length}
use Rattle.planner.specs.Planning.{output_needed}
use Rattle.planner.specs.Answers.{plan_outcome, plan_values}
use Rattle.planner.specs.declared.PlanResult.{PlanResult}
use Rattle.planner.proofs.Checks.{output-good, output-short}
use Rattle.commit.proofs.Answers.{planned-refusal}
use Rattle.certify.specs.Bare.{Bare, BareFile, GoodBare, check_bare, bare_bytes}
use Rattle.certify.specs.Certify.{Reached, OnlyIn, most_together, figure_in, layer_taken, placed_in, certified, certify_bare, certify, bare_of, CertifyDone}
use Rattle.certify.proofs.Accepted.{checked-good, bare-accepted-iff, written-accepted}
use Rattle.certify.proofs.Alone.{empty_layer}
use Rattle.certify.proofs.Best.{none-higher}
use Rattle.certify.proofs.Certified.{placed_in-good, placed_in-accepted, placed_in-rows}
use Rattle.certify.proofs.Highest.{highest-most, highest-last}
use Rattle.certify.proofs.Most.{most-packing, most-reached, most-least}
use Rattle.certify.proofs.Taken.{taken-below, taken-layer, taken-others, taken-only, certified-bare}
use Rattle.promises.proofs.Demands.{demand-3-whichever}

-- "A file of bare rows, kind 7": it is accepted exactly when it has the layout, within the limits, with rows in order that name no
-- node out of service.
pub certify-accepted : (bytes : List ℕ) (q : Bare) → Bytes bytes → (check_bare bytes ≡ accepted q) ↔ (BareFile q bytes × GoodBare q)
certify-accepted = bare-accepted-iff

-- What certifying promises of a call that was lent `out`, left `out-left` in it, and answered `given`.
pub record CertifyKept (q : Bare) (out out-left : List ℕ) (given : PlanResult) : Type 0 where
  pub placement : Placement
  -- "writes a placement of kind 5 with the same rows in the same order", with the file's numbers and its list
  pub kind-5 : placement.kind ≡ 5
  pub numbers : (placement.n ≡ q.base.n)
      × (placement.r ≡ q.base.r)
      × (placement.dark ≡ q.base.dark)
      × (placement.s ≡ q.order.s)
      × (placement.k ≡ q.order.k)
      × (placement.b ≡ q.order.b)
  pub same_rows : all_rows placement.layers ≡ q.rows
  -- "all in one layer"; the others have lambda 0 and no row
  pub layer : ℕ
  pub below : layer < q.order.s
  pub only : OnlyIn layer placement.layers
  pub in-layer : (blocks_at placement.layers layer).rows ≡ q.rows
  pub others : (y : ℕ) → y < q.order.s → (y ≡ layer → ⊥) → blocks_at placement.layers y ≡ empty_layer 0
  -- "the least lambda that holds is the largest number of rows that hold one set of x+1 nodes"
  pub lambda : (blocks_at placement.layers layer).bound ≡ most_together layer q.rows
  pub lambda-holds : Packing layer (blocks_at placement.layers layer).bound q.rows
  pub lambda-reached : Reached layer (blocks_at placement.layers layer).bound q.rows
  pub lambda-least : (m : ℕ) → Packing layer m q.rows → (blocks_at placement.layers layer).bound ≤ m
  -- "the layer taken is the one with the highest figure by nested floors, of equal ones the highest x"
  pub figure-is : placement.figure ≡ figure_in q.order q.rows layer
  pub highest : (y : ℕ) → y < q.order.s → figure_in q.order q.rows y ≤ placement.figure
  pub last : (y : ℕ) → y < q.order.s → layer < y → figure_in q.order q.rows y < placement.figure
  -- "answers as planning does": the length, F and the counts
  pub answered : plan_outcome given ≡ result (plan_values placement)
  -- the bytes up to this length are the placement; "bytes past the length don't change"
  pub written : take (length (placement_bytes placement)) out-left ≡ placement_bytes placement
  pub are-bytes : Bytes (placement_bytes placement)
  pub rest : drop (length (placement_bytes placement)) out-left ≡ drop (length (placement_bytes placement)) out
  pub same_length : length out-left ≡ length out
  -- "what is written is accepted by the checker with these rows"
  pub first : ℕ
  pub checked : placement_outcome (placement_checked (read_placement (placement_bytes placement)))
      ≡ result (placement_values (record { content = placement; first = first }))
  -- "its F holds whichever k nodes fail": of the records in the bytes written
  pub survives : (failed : List ℕ) → FailedNodes q.base.n q.order.k failed
      → placement.figure ≤ usable q.order.s (records_in (placement_bytes placement) first q.base.r q.order.b) (λ v. member v failed)
  -- "no accepted placement of kind 2, 3 or 5 that has these rows, s and k with all of them in one layer has a higher F"
  pub best : (bytes : List ℕ) (p : Placement) → check_placement bytes ≡ accepted p → (p.kind ≡ 6 → ⊥)
      → p.s ≡ q.order.s → p.k ≡ q.order.k → all_rows p.layers ≡ q.rows → (x : ℕ) → OnlyIn x p.layers
      → p.figure ≤ placement.figure

-- an accepted placement is good
accepted-good : (bytes : List ℕ) (p : Placement) → check_placement bytes ≡ accepted p → GoodPlacement p
unfolding check_placement
accepted-good bytes p e =
    let (file, read, same) = map_accepted-accepted (λ (f : Located Placement). f.content) (read_placement bytes) e in
    subst GoodPlacement same (read-of-placement bytes file.content file.first read).1

-- the answer, the output and the placement of a call that did not refuse
certify-writes : (bytes : List ℕ) (q : Bare) → check_bare bytes ≡ accepted q → (output : ℕ) → output_needed q.order.b q.base.r ≤ output
    → certify bytes output ≡ accepted (certified q)
unfolding certify certify_bare
certify-writes bytes q is output room = rw (is, output-good q.order.b q.base.r output room)

-- For every accepted file of bare rows and every output that is long enough, whatever it holds, certifying doesn't refuse.
pub certify-kept : (bytes : List ℕ) (q : Bare) → Bytes bytes → BareFile q bytes × GoodBare q
    → (out out-left : List ℕ) (given : PlanResult) → output_needed q.order.b q.base.r ≤ length out
    → CertifyDone (certify bytes (length out)) out out-left given → CertifyKept q out out-left given
unfolding certified placed_in check_placement
certify-kept bytes q h is out out-left given room done =
    let good = is.1 in
    let x = layer_taken q in
    let low = taken-below q good in
    let p = placed_in q x in
    let wrote = certify-writes bytes q ((bare-accepted-iff bytes q h).1 is) (length out) room in
    let d : CertifyDone (accepted p) out out-left given = subst (λ m. CertifyDone m out out-left given) wrote done in
    let file = placement_bytes p in
    let fits : length file ≤ length out = le_trans (written-length p (placed_in-good q good x low)) room in
    let (found, read, same) = map_accepted-accepted (λ (f : Located Placement). f.content) (read_placement file) (placed_in-accepted q good x low) in
    let reads : read_placement file ≡ accepted (record { content = p; first = found.first }) =
    read ∙ (λ i. accepted (record { content = same i; first = found.first })) in
    let says = ap (λ c. placement_outcome (placement_checked c)) reads ∙ placement-told file (record { content = p; first = found.first }) reads in
    let layer-is = taken-layer q good in
    record {
      placement = p;
      kind-5 = refl;
      numbers = (refl, refl, refl, refl, refl, refl);
      same_rows = placed_in-rows q good x low;
      layer = x;
      below = low;
      only = taken-only q good;
      in-layer = ap (λ (l : Layer). l.rows) layer-is;
      others = taken-others q good;
      lambda = ap (λ (l : Layer). l.bound) layer-is;
      lambda-holds = rw (ap (λ (l : Layer). l.bound) layer-is) (most-packing x q.rows q.base.n q.base.r good.rows);
      lambda-reached =
          rw (ap (λ (l : Layer). l.bound) layer-is)
          (most-reached x q.base.n q.base.r q.rows good.rows (omega (arith, low, good.order.s-most))
          (omega (arith, good.records-all, good.order.b-least)));
      lambda-least = λ m held. rw (ap (λ (l : Layer). l.bound) layer-is) (most-least x q.rows q.base.n q.base.r good.rows m held);
      figure-is = refl;
      highest = λ y lt. highest-most (figure_in q.order q.rows) q.order.s y lt;
      last = λ y lt after. highest-last (figure_in q.order q.rows) q.order.s y lt after;
      answered = ap plan_outcome d.answer;
      written = rw d.output-after (take_at file (drop (length file) out) (length file) refl);
      are-bytes = written-bytes p (placed_in-good q good x low);
      rest = rw d.output-after (drop_at file (drop (length file) out) (length file) refl);
      same_length = ap length d.output-after ∙ omega (arith, length-append file (drop (length file) out), length-drop (length file) out);
      first = found.first;
      checked = says;
      survives = demand-3-whichever file says;
      best = λ other p' e not-six same_s same-k rows y only.
          none-higher q good p' (accepted-good other p' e) not-six same_s same-k rows y only;
    }

-- "certifying what was certified changes nothing": any file of bare rows that has the numbers and the rows of what was written, in
-- whatever forms, certifies to the same bytes and the same answer.
pub certify-again : (bytes again : List ℕ) (q : Bare) → Bytes again → check_bare bytes ≡ accepted q
    → BareFile (bare_of (certified q)) again → (output : ℕ) → certify again output ≡ certify bytes output
unfolding certify
certify-again bytes again q h is file output =
    let good = checked-good bytes q is in
    let same : check_bare again ≡ accepted q =
    (bare-accepted-iff again q h).1 (subst (λ (b : Bare). BareFile b again) (certified-bare q good) file, good) in
    rw (is, same) refl

-- and the file of those bare rows in shortest forms is one
pub certify-again-shortest : (bytes : List ℕ) (q : Bare) → check_bare bytes ≡ accepted q
    → (output : ℕ) → certify (bare_bytes (bare_of (certified q))) output ≡ certify bytes output
unfolding certify
certify-again-shortest bytes q is output =
    let good = checked-good bytes q is in
    let same : check_bare (bare_bytes (bare_of (certified q))) ≡ accepted q =
    ap (λ b. check_bare (bare_bytes b)) (certified-bare q good) ∙ written-accepted q good in
    rw (is, same) refl

-- Refusals: the file's come first, whatever the output; then "Output at least 448 + b × r bytes, else 11", its place the bytes needed.
-- "a refusal leaves it as it was".
pub certify-file-first : (bytes out out-left : List ℕ) (given : PlanResult) {e : Refusal} → check_bare bytes ≡ refused e
    → CertifyDone (certify bytes (length out)) out out-left given
    → (plan_outcome given ≡ refusal_outcome e) × (out-left ≡ out)
unfolding certify
certify-file-first bytes out out-left given {e} is done =
    let refuses : certify bytes (length out) ≡ refused e = rw is refl in
    let d : CertifyDone (refused e) out out-left given = subst (λ m. CertifyDone m out out-left given) refuses done in
    (ap plan_outcome d.answer, d.output-after)

pub certify-then-11 : (bytes : List ℕ) (q : Bare) → check_bare bytes ≡ accepted q
    → (out out-left : List ℕ) (given : PlanResult) → length out < 448 + q.order.b * q.base.r
    → CertifyDone (certify bytes (length out)) out out-left given
    → (plan_outcome given ≡ refusal 11 (448 + q.order.b * q.base.r)) × (out-left ≡ out)
unfolding certify certify_bare
certify-then-11 bytes q is out out-left given short done =
    let e = ShortOutput (output_needed q.order.b q.base.r) in
    let refuses : certify bytes (length out) ≡ refused e = rw (is, output-short q.order.b q.base.r (length out) short) refl in
    let d : CertifyDone (refused e) out out-left given = subst (λ m. CertifyDone m out out-left given) refuses done in
    (ap plan_outcome d.answer, d.output-after)

pub certify-unchanged : (bytes out out-left : List ℕ) (given : PlanResult) {number place : ℕ}
    → CertifyDone (certify bytes (length out)) out out-left given
    → plan_outcome given ≡ refusal number place → out-left ≡ out
certify-unchanged bytes out out-left given done says =
    let (e, is, same) = planned-refusal (certify bytes (length out)) done.answer says in
    let d : CertifyDone (refused e) out out-left given = subst (λ m. CertifyDone m out out-left given) is done in
    d.output-after
