-- Demand 3 of the planner, from the call's own contract: what it answers, what the lent slices hold afterwards, and what the
-- programs make of it. Assumes nothing.
use Prim.Native.Nat.{ℕ, ◌≤◌}
use native.Mathlib.Omega.{arith}
use native.Mathlib.Nat.{le_trans}
use mathlib.Core.Path.{◌≡◌, refl, ◌∙◌, ap, subst}
use mathlib.Core.List.{List}
use lib.ListN.{length, take, drop, length-append, length-drop}
use lib.Seq.{take_at, drop_at}
use lib.Dec.{T}
use Rattle.refusal.specs.Refusals.{result, refusal}
use Rattle.refusal.specs.Checked.{Checked, accepted, refused}
use Rattle.refusal.proofs.Checked.{map_accepted-accepted}
use Rattle.number.specs.Numbers.{Bytes}
use Rattle.packing.specs.Rows.{member, records_in}
use Rattle.packing.specs.Failures.{FailedNodes, usable}
use Rattle.layers.specs.Layers.{Located, heads_of}
use Rattle.pack.specs.Pack.{Pack, PackFile, GoodPack}
use Rattle.pack.proofs.Accepted.{pack-accepted-iff}
use Rattle.placement.specs.Placement.{Placement, OrderLimits, placement_bytes, read_placement, check_placement}
use Rattle.placement.specs.declared.Rule.TheVariants.{NestedFloors}
use Rattle.placement.specs.Answers.{placement_checked, placement_outcome, placement_values}
use Rattle.placement.specs.declared.Order.{Order}
use Rattle.placement.proofs.Answered.{placement-told}
use Rattle.placement.proofs.Written.{written-bytes}
use Rattle.split.specs.Splits.{Share, Split, Named, split_figure, has_block, named_split}
use Rattle.split.proofs.Named.{named as named-is, named-highest}
use Rattle.planner.specs.Planning.{plan, split_placement, named_placement, work_needed, output_needed}
use Rattle.planner.specs.Answers.{PlanDone, plan_outcome, plan_values}
use Rattle.planner.specs.declared.PlanResult.{PlanResult}
use Rattle.planner.proofs.Planned.{plan-never-refuses, plan-good, plan-accepted, plan-fits}
use Rattle.promises.proofs.Demands.{demand-3-whichever}

-- What demand 3 promises of a call of the planner that was lent the slices `work` and `out`, left `work-left` and `out-left` in
-- them, and answered `given`.
pub record Kept (pack : Pack) (s k b : ℕ) (work work-left out out-left : List ℕ) (given : PlanResult) : Type 0 where
  pub split : ℕ → Share
  pub placement : Placement
  -- "the placement of the pack's blocks that document 01 names"
  pub named : Named NestedFloors (heads_of pack.layers) s k b split
  pub of-named : placement ≡ split_placement pack s k b split
  -- "the planner doesn't refuse": "The answer is the length, F and the counts."
  pub answered : plan_outcome given ≡ result (plan_values placement)
  -- "The bytes it has written, up to the length in its answer, are the placement"; the bytes after them are as before
  pub written : take (length (placement_bytes placement)) out-left ≡ placement_bytes placement
  pub are-bytes : Bytes (placement_bytes placement)
  pub rest : drop (length (placement_bytes placement)) out-left ≡ drop (length (placement_bytes placement)) out
  pub same_length : length out-left ≡ length out
  -- of the working slice only the first s × (b+1) entries may change
  pub work-rest : drop (work_needed s b) work-left ≡ drop (work_needed s b) work
  pub work-length : length work-left ≡ length work
  -- "and the checker accepts it"
  pub first : ℕ
  pub checked : placement_outcome (placement_checked (read_placement (placement_bytes placement)))
      ≡ result (placement_values (record { content = placement; first = first }))
  -- "That placement has the pack's n and r, the given s, k and b"; its F and counts are the answer's, by `plan_values`; the kind is
  -- that of request (h)
  pub numbers : (placement.kind ≡ 5)
      × (placement.n ≡ pack.n)
      × (placement.r ≡ pack.r)
      × (placement.s ≡ s)
      × (placement.k ≡ k)
      × (placement.b ≡ b)
  -- (h) "The planner copies the list"
  pub list : placement.dark ≡ pack.dark
  -- "so this F too holds whichever k nodes fail": of the records in the bytes written
  pub survives : (failed : List ℕ) → FailedNodes pack.n k failed
      → placement.figure ≤ usable s (records_in (placement_bytes placement) first pack.r b) (λ v. member v failed)
  -- "Every other split of the b records over the layers .. has a figure of at most F."
  pub best : (other : ℕ → Share) → Split (heads_of pack.layers) s b other
      → split_figure NestedFloors (heads_of pack.layers) s k b other ≤ placement.figure

-- Demand 3: "For every accepted pack, every s, k and b within limits with a block in some layer below s, and all buffers at
-- least as long as stated, whatever they hold". A pack is accepted where its file is and it is good (`demand-2-pack`); `PlanDone`
-- is the contract of `planner_code::plan`.
pub demand-3-written : (bytes : List ℕ) (pack : Pack) → Bytes bytes → PackFile pack bytes × GoodPack pack
    → (s k b : ℕ) → OrderLimits pack.n pack.r (record { s = s; k = k; b = b }) → T (has_block (heads_of pack.layers) s)
    → (work work-left out out-left : List ℕ) (given : PlanResult)
    → work_needed s b ≤ length work → output_needed b pack.r ≤ length out
    → PlanDone (plan bytes (record { s = s; k = k; b = b }) (length work) (length out)) work work-left out out-left given
    → Kept pack s k b work work-left out out-left given
unfolding named_placement split_placement check_placement
demand-3-written bytes pack h is s k b limits block work work-left out out-left given hw ho done =
    let order : Order = record { s = s; k = k; b = b } in
    let accept = (pack-accepted-iff bytes pack h).1 is in
    let p = named_placement pack s k b in
    let planned = plan-never-refuses bytes pack accept order limits block (length work) (length out) hw ho in
    let d : PlanDone (accepted p) work work-left out out-left given =
    subst (λ m. PlanDone m work work-left out out-left given) planned done in
    let good = plan-good bytes pack accept order limits block in
    let wrote = placement_bytes p in
    let fits : length wrote ≤ length out = le_trans (plan-fits bytes pack accept order limits block) ho in
    let (file, read, same) = map_accepted-accepted (λ (f : Located Placement). f.content) (read_placement wrote)
    (plan-accepted bytes pack accept order limits block) in
    let found : read_placement wrote ≡ accepted (record { content = p; first = file.first }) =
    read ∙ (λ i. accepted (record { content = same i; first = file.first })) in
    let says = ap (λ c. placement_outcome (placement_checked c)) found
    ∙ placement-told wrote (record { content = p; first = file.first }) found in
    record {
      split = named_split NestedFloors (heads_of pack.layers) s k b;
      placement = p;
      named = named-is NestedFloors (heads_of pack.layers) s k b limits.b-most block;
      of-named = refl;
      answered = ap plan_outcome d.answer;
      written = rw d.output-after (take_at wrote (drop (length wrote) out) (length wrote) refl);
      are-bytes = written-bytes p good;
      rest = rw d.output-after (drop_at wrote (drop (length wrote) out) (length wrote) refl);
      same_length =
          ap length d.output-after ∙ omega (arith, length-append wrote (drop (length wrote) out), length-drop (length wrote) out);
      work-rest = d.work-after.1;
      work-length = d.work-after.0;
      first = file.first;
      checked = says;
      numbers = (refl, refl, refl, refl, refl, refl);
      list = refl;
      survives = demand-3-whichever wrote says;
      best = named-highest NestedFloors (heads_of pack.layers) s k b limits.b-most block;
    }

-- a refusal leaves both slices, whatever the definition is that a call's contract cites
pub plan-refused : (planned : Checked Placement) {work work-left out out-left : List ℕ} {given : PlanResult} {number place : ℕ}
    → PlanDone planned work work-left out out-left given
    → plan_outcome given ≡ refusal number place → (work-left ≡ work) × (out-left ≡ out)
plan-refused (accepted p) d says =
    absurd (let a = ap plan_outcome d.answer in let z : ◌≡◌ {A = ℕ} 0 1 = cc in omega arith)
plan-refused (refused e) d says = (d.work-after, d.output-after)

-- Demand 1 of the planner: "after a refusal each lent buffer holds what it held before".
pub demand-1-plan-refused : (bytes : List ℕ) (order : Order) (work work-left out out-left : List ℕ) (given : PlanResult) {number place : ℕ}
    → PlanDone (plan bytes order (length work) (length out)) work work-left out out-left given
    → plan_outcome given ≡ refusal number place → (work-left ≡ work) × (out-left ≡ out)
demand-1-plan-refused bytes order work work-left out out-left given done says =
    plan-refused (plan bytes order (length work) (length out)) done says
