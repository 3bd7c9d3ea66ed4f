-- Document 02, (h): "Cabinets out of service", of planning and of joining. `PlanDone (plan …)` is the contract of
-- `planner_code::plan`, `JoinDone (join …)` that of `join_code`'s three calls: what they answer, and what the lent slices hold
-- afterwards. Assumes nothing.
use Prim.Native.Nat.{ℕ, ◌+◌, ◌*◌, ◌≤◌, ◌<◌}
use Rattle.std.specs.Prelude.{Result}
use native.Mathlib.Omega.{arith}
use mathlib.Core.Path.{◌≡◌, refl, sym, ◌∙◌, ap, subst}
use mathlib.Core.Bool.{true≢false}
use mathlib.Core.List.{List, [], ◌∷◌, ◌++◌, map, flatten, append_assoc}
use lib.ListN.{length, take, length-append}
use lib.Seq.{take-take, take_at}
use lib.Dec.{T}
use Rattle.lists.specs.Lists.{total}
use Rattle.lists.proofs.Tests.{true-T}
use Rattle.refusal.specs.Refusals.{refusal}
use Rattle.refusal.specs.declared.Refusal.TheVariants.{ShortOutput}
use Rattle.refusal.specs.declared.Refusal.{Refusal}
use Rattle.refusal.specs.Checked.{accepted, refused}
use Rattle.refusal.proofs.Checked.{accepted-injective, bind-elim}
use Rattle.number.specs.Numbers.{Bytes, forms_of}
use Rattle.number.proofs.Forms.{forms_of-append}
use Rattle.packing.specs.Rows.{is_in_order, member, records_in}
use Rattle.packing.specs.Failures.{FailedNodes, usable}
use Rattle.layers.specs.Layers.{File, InService, all_rows, heads_of, head_numbers, list_numbers}
use Rattle.pack.specs.Pack.{Pack, GoodPack, pack_numbers, bytes_of_pack, check_pack}
use Rattle.placement.specs.Placement.{Placement, OrderLimits, GoodPlacement, placement_bytes}
use Rattle.placement.specs.declared.Order.{Order}
use Rattle.placement.proofs.Written.{written-length}
use Rattle.split.specs.Splits.{has_block}
use Rattle.planner.specs.Planning.{plan, named_placement, split_placement, work_needed, output_needed, output_most}
use Rattle.planner.specs.Answers.{PlanDone, plan_outcome}
use Rattle.planner.specs.declared.PlanResult.{PlanResult}
use Rattle.planner.proofs.Checks.{order-good, blocks-good, work-good, output-short, output-refused, planned-fits}
use Rattle.planner.proofs.Planned.{plan-good}
use Rattle.report.specs.Programs.{check_line}
use Rattle.report.proofs.Prefix.{check_line-buffer}
use Rattle.replies.specs.Replying.{into}
use Rattle.replies.specs.Plans.{plan_program}
use Rattle.replies.proofs.Prefix.{plan-buffer}
use Rattle.join.specs.Join.{joint_dark, joined_pack, check_packs, join}
use Rattle.join.specs.Answers.{JoinDone}
use Rattle.join.proofs.Listed.{all_nodes, dark-split, dark-counted}
use Rattle.join.proofs.Whole.{joined-from, join-accepted}
use Rattle.promises.proofs.Planned.{Kept, demand-3-written}

-- what a file with a list begins with: its kind, n and r, and "after r, a count .. of such nodes and then their numbers"
abbrev pub listed_start : (kind n r : ℕ) (dark : List ℕ) → List ℕ
listed_start kind n r dark = forms_of (kind ∷ n ∷ r ∷ length dark ∷ dark)

-- Demand 3 for every accepted pack of kind 4, whatever is out of service. Its buffers: "its output must now have at least 448 +
-- b × r bytes".
pub h-demand-3 : (bytes : List ℕ) (pack : Pack) → Bytes bytes → File (pack_numbers 4 pack) pack.layers [] bytes → GoodPack pack
    → (s k b : ℕ) → OrderLimits pack.n pack.r (record { s = s; k = k; b = b }) → T (has_block (heads_of pack.layers) s)
    → (work work-left out out-left : List ℕ) (given : PlanResult)
    → work_needed s b ≤ length work → 448 + b * pack.r ≤ length out
    → PlanDone (plan bytes (record { s = s; k = k; b = b }) (length work) (length out)) work work-left out out-left given
    → Kept pack s k b work work-left out out-left given
h-demand-3 bytes pack h file good =
    demand-3-written bytes pack h (record { kind = 4; is-kind = tt; unlisted = λ none. absurd (true≢false none); file = file }, good)

-- what a slice begins with, where it is known to hold more
begins : (start more slice : List ℕ) → take (length (start ++ more)) slice ≡ start ++ more → take (length start) slice ≡ start
begins start more slice e =
    let fits : length start ≤ length (start ++ more) = omega (arith, length-append start more) in
    sym (take-take (length start) (length (start ++ more)) slice fits)
    ∙ ap (take (length start)) e
    ∙ take_at start more (length start) refl

-- "The planner copies the list and writes kind 5": the bytes that it has written begin with 5, the pack's n and r, and the pack's
-- whole list.
pub h-list-copied : {pack : Pack} {s k b : ℕ} {work work-left out out-left : List ℕ} {given : PlanResult}
    → (kept : Kept pack s k b work work-left out out-left given)
    → (kept.placement.kind ≡ 5)
    × (kept.placement.dark ≡ pack.dark)
    × (take (length (listed_start 5 pack.n pack.r pack.dark)) out-left ≡ listed_start 5 pack.n pack.r pack.dark)
unfolding placement_bytes split_placement list_numbers
h-list-copied {pack} {s} {k} {b} {out-left = out-left} kept =
    let p = split_placement pack s k b kept.split in
    let start : List ℕ = 5 ∷ pack.n ∷ pack.r ∷ length pack.dark ∷ pack.dark in
    let own : List ℕ = s ∷ k ∷ b ∷ p.figure ∷ head_numbers (heads_of p.layers) in
    let rows = flatten (all_rows p.layers) in
    let bytes : placement_bytes kept.placement ≡ forms_of start ++ (forms_of own ++ rows) =
    ap placement_bytes kept.of-named
    ∙ ap (λ (l : List ℕ). l ++ rows) (forms_of-append start own)
    ∙ append_assoc (forms_of start) (forms_of own) rows in
    let wrote : take (length (forms_of start ++ (forms_of own ++ rows))) out-left ≡ forms_of start ++ (forms_of own ++ rows) =
    subst (λ (l : List ℕ). take (length l) out-left ≡ l) bytes kept.written in (
      ap (λ (q : Placement). q.kind) kept.of-named,
      ap (λ (q : Placement). q.dark) kept.of-named,
      begins (forms_of start) (forms_of own ++ rows) out-left wrote,
    )

-- What is planned is of kind 5, has the list of a pack that the checker accepts, and is a good placement: "No row may name one" of
-- the listed nodes.
pub h-planned-in-service : (bytes : List ℕ) (order : Order) (work output : ℕ) (p : Placement) → plan bytes order work output ≡ accepted p
    → (pack : Pack) × (check_pack bytes ≡ accepted pack)
    × (p.kind ≡ 5)
    × (p.dark ≡ pack.dark)
    × InService pack.dark (all_rows p.layers)
unfolding plan named_placement split_placement
h-planned-in-service bytes order work output p e =
    bind-elim (check_pack bytes) _ e λ pack e₁ r₁.
    let (fits, named) = planned-fits pack order work output r₁ in
    let is = accepted-injective named in
    let good : GoodPlacement (named_placement pack order.s order.k order.b) = plan-good bytes pack e₁ order fits.within fits.block in (
      pack,
      e₁,
      sym (ap (λ (q : Placement). q.kind) is),
      sym (ap (λ (q : Placement). q.dark) is),
      subst (λ (q : Placement). InService pack.dark (all_rows q.layers)) is good.in-service,
    )

-- "The guarantee is over failures among all n": whichever k of the pack's n nodes fail, those out of service among them or not, at
-- least F of the records in the bytes written stay usable.
pub h-survives : {pack : Pack} {s k b : ℕ} {work work-left out out-left : List ℕ} {given : PlanResult}
    → (kept : Kept pack s k b work work-left out out-left given) (failed : List ℕ) → FailedNodes pack.n k failed
    → kept.placement.figure ≤ usable s (records_in (placement_bytes kept.placement) kept.first pack.r b) (λ v. member v failed)
h-survives kept failed f = kept.survives failed f

-- 448 + b × r bytes are enough for every list: no good placement takes more
pub h-output-enough : (p : Placement) → GoodPlacement p → length (placement_bytes p) ≤ 448 + p.b * p.r
h-output-enough = written-length

-- and an output that has fewer is refusal 11 with that number as its place, even where the file would fit
pub h-output-short : (bytes : List ℕ) (pack : Pack) → check_pack bytes ≡ accepted pack
    → (order : Order) → OrderLimits pack.n pack.r order → T (has_block (heads_of pack.layers) order.s)
    → (work work-left out out-left : List ℕ) (given : PlanResult)
    → work_needed order.s order.b ≤ length work → length out < 448 + order.b * pack.r
    → PlanDone (plan bytes order (length work) (length out)) work work-left out out-left given
    → (plan_outcome given ≡ refusal 11 (448 + order.b * pack.r)) × (work-left ≡ work) × (out-left ≡ out)
unfolding plan
h-output-short bytes pack is order within block work work-left out out-left given hw short done =
    let heads = heads_of pack.layers in
    let planned : plan bytes order (length work) (length out) ≡ refused (ShortOutput (output_needed order.b pack.r)) =
    rw is
    (output-refused pack order (length work) (length out) (order-good pack.n pack.r order within)
    (blocks-good heads order.s (true-T (has_block heads order.s) block)) (work-good order (length work) hw)
    (output-short order.b pack.r (length out) short)) in
    let d : PlanDone (refused (ShortOutput (output_needed order.b pack.r))) work work-left out out-left given =
    subst (λ m. PlanDone m work work-left out out-left given) planned done in
    (ap plan_outcome d.answer, d.work-after, d.output-after)

-- The program `plan` has an output of 20,928 bytes, and its reply asks for as many: a byte fewer is refused.
pub h-reply-limit : (arguments input : List ℕ)
    → (into output_most (plan_program arguments input) 20_927 ≡ refused (ShortOutput 20_928))
    × (into output_most (plan_program arguments input) 20_928 ≡ accepted (plan_program arguments input))
unfolding into
h-reply-limit arguments input = (refl, refl)

-- Whatever lists the files have, the first 32,768 bytes of an input decide what the programs write.
pub h-first-bytes : (arguments input : List ℕ) → (check_line (take 32_768 input) ≡ check_line input)
    × (plan_program arguments (take 32_768 input) ≡ plan_program arguments input)
h-first-bytes arguments input = (check_line-buffer input, plan-buffer arguments input)

-- "Joining chunks shifts and joins the lists": the joined list is the packs' lists one after another, each with node numbers after
-- the nodes of the packs before it.
pub h-joined-list : (first : List Pack) (p : Pack) (more : List Pack)
    → (joined_pack (first ++ (p ∷ more))).dark
    ≡ joint_dark 0 first ++ (map (λ v. 0 + all_nodes first + v) p.dark ++ joint_dark (0 + all_nodes first + p.n) more)
unfolding joined_pack
h-joined-list first p more = dark-split 0 first p more

-- A result has that list, of packs that are all accepted, whatever their kinds: as many nodes as all lists have, "strictly ascending
-- and below n", and "No row may name one".
pub h-joined-in-service : (files : List (List ℕ)) (output : ℕ) (p : Pack) → 0 < length files → join files output ≡ accepted p
    → (packs : List Pack) × (check_packs files ≡ accepted packs)
    × (p.dark ≡ joint_dark 0 packs)
    × (length p.dark ≡ total (map (λ (q : Pack). length q.dark) packs))
    × T (is_in_order p.n p.dark)
    × InService p.dark (all_rows p.layers)
unfolding joined_pack
h-joined-in-service files output p some e =
    let j = joined-from files output p e in
    let good = (join-accepted files output p some e).0 in
    let list : p.dark ≡ joint_dark 0 j.packs = ap (λ (q : Pack). q.dark) j.is-joined in (
      j.packs,
      j.checked,
      list,
      ap length list ∙ dark-counted 0 j.packs,
      good.limits.dark-order,
      good.in-service,
    )

-- "and gives kind 4", for packs of any kind: the output then begins with 4, the joined n and r, and the joined list.
pub h-joined-kind : (files : List (List ℕ)) (p : Pack) (out out-left : List ℕ) (given : Result ℕ Refusal) → join files (length out) ≡ accepted p
    → JoinDone (join files (length out)) out out-left given
    → take (length (listed_start 4 p.n p.r p.dark)) out-left ≡ listed_start 4 p.n p.r p.dark
unfolding bytes_of_pack list_numbers
h-joined-kind files p out out-left given e done =
    let d : JoinDone (accepted p) out out-left given = subst (λ m. JoinDone m out out-left given) e done in
    let start : List ℕ = 4 ∷ p.n ∷ p.r ∷ length p.dark ∷ p.dark in
    let own = head_numbers (heads_of p.layers) in
    let rows = flatten (all_rows p.layers) in
    let bytes : bytes_of_pack p ≡ forms_of start ++ (forms_of own ++ rows) =
    ap (λ (l : List ℕ). l ++ rows) (forms_of-append start own) ∙ append_assoc (forms_of start) (forms_of own) rows in
    begins (forms_of start) (forms_of own ++ rows) out-left
    (subst (λ (l : List ℕ). take (length l) out-left ≡ l) bytes
    (rw d.output-after (take_at (bytes_of_pack p) _ (length (bytes_of_pack p)) refl)))
