-- Document 02, (i): "See the plan, then commit it". `AskDone (ask …)` is the contract of `ask_code::ask`, `CommitDone (commit …)`
-- that of `commit_code::commit`: what they answer, and what the lent slices hold afterwards. Assumes nothing.
use Prim.Native.Nat.{ℕ, ◌*◌, ◌≤◌, ◌<◌}
use native.Mathlib.Omega.{arith}
use native.Mathlib.Nat.{le_trans}
use mathlib.Core.Path.{◌≡◌, refl, sym, ◌∙◌, ap, subst}
use mathlib.Core.Logic.{◌↔◌}
use mathlib.Core.List.{List, ◌∷◌, ◌++◌, map}
use lib.ListN.{length, get_or, take, drop, length-append, length-drop}
use lib.Seq.{take_at, drop_at}
use lib.Dec.{T}
use Rattle.lists.specs.Lists.{up_to}
use Rattle.refusal.specs.Refusals.{result, refusal}
use Rattle.refusal.specs.Checked.{accepted, refused, ◌>>=◌}
use Rattle.refusal.proofs.Checked.{map_accepted-accepted, accepted-injective, bind-elim}
use Rattle.number.specs.Numbers.{Bytes}
use Rattle.packing.specs.Rows.{member, records_in}
use Rattle.packing.specs.Failures.{FailedNodes, usable}
use Rattle.layers.specs.Layers.{Located, heads_of}
use Rattle.layers.specs.Answers.{five}
use Rattle.layers.specs.declared.LayerHead.{LayerHead}
use Rattle.pack.specs.Pack.{Pack, PackFile, GoodPack, check_pack}
use Rattle.pack.proofs.Accepted.{pack-accepted-iff}
use Rattle.placement.specs.Placement.{Placement, OrderLimits, placement_bytes, read_placement, check_placement}
use Rattle.placement.specs.declared.Order.{Order}
use Rattle.placement.specs.declared.Rule.TheVariants.{NestedFloors}
use Rattle.placement.specs.Answers.{placement_checked, placement_outcome, placement_values}
use Rattle.placement.proofs.Answered.{placement-told}
use Rattle.placement.proofs.Written.{written-bytes}
use Rattle.split.specs.Splits.{Share, Split, Named, layer_at, counts_split, split_figure, named_split, has_block}
use Rattle.split.proofs.Copies.{copies_for-least}
use Rattle.split.proofs.Named.{named, named-highest}
use Rattle.planner.specs.Planning.{plan, split_placement, work_needed, output_needed, work_most, output_most}
use Rattle.planner.specs.Answers.{PlanDone, plan_answer, plan_outcome}
use Rattle.planner.specs.Writing.{counts_placement}
use Rattle.planner.specs.declared.PlanResult.{PlanResult}
use Rattle.commit.specs.Asking.{named_offer, ask_layers, ask, ask_answer, ask_outcome, AskDone}
use Rattle.commit.specs.Committing.{Taken, commit, CommitDone}
use Rattle.commit.specs.declared.AskResult.{AskResult}
use Rattle.commit.proofs.Answers.{asked-result, asked-refusal, planned-result, planned-refusal, past-unchanged}
use Rattle.commit.proofs.Both.{ask-then-commit, plan-any-work}
use Rattle.commit.proofs.Checks.{CommitFits, commit-fitting, committed-fits}
use Rattle.commit.proofs.Committed.{counts-answered, committed-good, committed-accepted, committed-bytes, taken-block}
use Rattle.commit.proofs.Counts.{taken-split, split-taken, taken_none}
use Rattle.commit.proofs.Offers.{AskFits, ask-of-pack, ask-fitting, asked-fits, asked-work}
use Rattle.commit.proofs.Refusals.{ask-refused-plan, plan-refused-ask, plan-refused-commit, taken-refused-plan, plan-refused-taken, commit-sixteen, taken-not-sixteen}
use Rattle.promises.proofs.Demands.{demand-3-whichever}

-- What asking promises of a call that was lent `work`, left `work-left` in it, and answered `given`.
pub record AskKept (pack : Pack) (s k b : ℕ) (work work-left : List ℕ) (given : AskResult) : Type 0 where
  -- the split that planning takes
  pub split : ℕ → Share
  pub is-named : Named NestedFloors (heads_of pack.layers) s k b split
  -- "Asking gives the figure, counts and copies": of that split, 0 from layer s on
  pub answered : ask_outcome given
      ≡ result (split_figure NestedFloors (heads_of pack.layers) s k b split
      ∷ (five 0 (map (λ x. (split x).count) (up_to s)) ++ five 0 (map (λ x. (split x).copies) (up_to s))))
  -- of the working slice only the first s × (b+1) entries may change; no output is lent: it "leaves the output as found"
  pub work-rest : drop (work_needed s b) work-left ≡ drop (work_needed s b) work
  pub work-length : length work-left ≡ length work

-- For every accepted pack and every s, k and b that planning takes, asking answers, whatever the working slice holds.
pub i-ask : (bytes : List ℕ) (pack : Pack) → Bytes bytes → PackFile pack bytes × GoodPack pack
    → (s k b : ℕ) → OrderLimits pack.n pack.r (record { s = s; k = k; b = b }) → T (has_block (heads_of pack.layers) s)
    → (work work-left : List ℕ) (given : AskResult) → work_needed s b ≤ length work
    → AskDone (record { s = s; k = k; b = b }) (ask bytes (record { s = s; k = k; b = b }) (length work)) work work-left given
    → AskKept pack s k b work work-left given
unfolding named_offer
i-ask bytes pack h is s k b limits block work work-left given hw done =
    let order : Order = record { s = s; k = k; b = b } in
    let heads = heads_of pack.layers in
    let fits : AskFits pack.n pack.r heads order (length work) = record { within = limits; block = block; work-fits = hw } in
    let asked : ask bytes order (length work) ≡ accepted (named_offer heads order) =
    ask-of-pack bytes pack order (length work) ((pack-accepted-iff bytes pack h).1 is)
    ∙ ask-fitting pack.n pack.r heads order (length work) fits in
    let d : AskDone order (accepted (named_offer heads order)) work work-left given = subst (λ m. AskDone order m work work-left given) asked done in
    record {
      split = named_split NestedFloors heads s k b;
      is-named = named NestedFloors heads s k b limits.b-most block;
      answered = ap ask_outcome d.answer;
      work-rest = d.work-after.1;
      work-length = d.work-after.0;
    }

-- "Asking and then committing the counts gives the bytes that planning gave": a call of asking that answered, a call of
-- committing with the counts of its answer, and a call of planning lent a working slice as long as stated and an output that held
-- the same. The two answers are one, and so are the two outputs, also where both refuse the output with 11.
pub i-ask-then-commit : (bytes : List ℕ) (order : Order)
    (work work-left work' work-left' out out-left out-left' : List ℕ) (asked : AskResult) (committed planned : PlanResult) {values : List ℕ}
    → AskDone order (ask bytes order (length work)) work work-left asked
    → ask_outcome asked ≡ result values → work_needed order.s order.b ≤ length work'
    → CommitDone (commit bytes order asked.counts (length out)) out out-left committed
    → PlanDone (plan bytes order (length work') (length out)) work' work-left' out out-left' planned
    → (committed ≡ planned) × (out-left ≡ out-left')
i-ask-then-commit bytes order work work-left work' work-left' out out-left out-left' asked committed planned done says long written made =
    let (offer, is, _) = asked-result (ask bytes order (length work)) done.answer says in
    let counts : asked.counts ≡ five 0 offer.counts = ap (λ (a : AskResult). a.counts) (done.answer ∙ ap ask_answer is) in
    let same : plan bytes order (length work') (length out) ≡ commit bytes order asked.counts (length out) =
    plan-any-work bytes order (length work') (length work) (length out) long (asked-work bytes order (length work) is)
    ∙ ask-then-commit bytes order (length work) (length out)
    ∙ ap (λ m. m >>= (λ offer. commit bytes order (five 0 offer.counts) (length out))) is
    ∙ ap (λ (c : List ℕ). commit bytes order c (length out)) (sym counts) in
    let d : PlanDone (commit bytes order asked.counts (length out)) work' work-left' out out-left' planned =
    subst (λ m. PlanDone m work' work-left' out out-left' planned) same made in
    (written.answer ∙ sym d.answer, written.output-after ∙ sym d.output-after)

-- "Both refuse as planning does, but asking has no 11": what asking refuses, planning refuses with the same number and place, and
-- what planning refuses whose output has room for any placement, asking refuses so. The working slice is then as it was.
pub i-ask-refuses : (bytes : List ℕ) (order : Order)
    (work work-left work' work-left' out out-left' : List ℕ) (asked : AskResult) (planned : PlanResult) (number place : ℕ)
    → length work' ≡ length work
    → AskDone order (ask bytes order (length work)) work work-left asked
    → PlanDone (plan bytes order (length work') (length out)) work' work-left' out out-left' planned
    → (ask_outcome asked ≡ refusal number place → (plan_outcome planned ≡ refusal number place) × (work-left ≡ work))
    × (output_most ≤ length out → plan_outcome planned ≡ refusal number place → ask_outcome asked ≡ refusal number place)
i-ask-refuses bytes order work work-left work' work-left' out out-left' asked planned number place long done made = (to, from)
  where
    to : ask_outcome asked ≡ refusal number place → (plan_outcome planned ≡ refusal number place) × (work-left ≡ work)
    to says =
        let (e, is, same) = asked-refusal (ask bytes order (length work)) done.answer says in
        let refuses : plan bytes order (length work') (length out) ≡ refused e =
        rw long (ask-refused-plan bytes order (length work) (length out) is) in
        let d : AskDone order (refused e) work work-left asked = subst (λ m. AskDone order m work work-left asked) is done in
        (ap plan_outcome (made.answer ∙ ap plan_answer refuses) ∙ same, d.work-after)

    from : output_most ≤ length out → plan_outcome planned ≡ refusal number place → ask_outcome asked ≡ refusal number place
    from room says =
        let (e, is, same) = planned-refusal (plan bytes order (length work') (length out)) made.answer says in
        let refuses = plan-refused-ask bytes order (length work) (length out) room (sym (ap (λ n. plan bytes order n (length out)) long) ∙ is) in
        ap ask_outcome (done.answer ∙ ap ask_answer refuses) ∙ same

-- What committing promises of a call that was lent `out`, left `out-left` in it, and answered `given`.
pub record CommitKept (pack : Pack) (s k b : ℕ) (counts out out-left : List ℕ) (given : PlanResult) : Type 0 where
  pub split : ℕ → Share
  pub placement : Placement
  -- "writes that split's placement with least copies": the split with these counts
  pub is-split : Split (heads_of pack.layers) s b split
  pub has-counts : (x : ℕ) → x < s → (split x).count ≡ get_or counts x 0
  pub least-copies : (x d : ℕ) → x < s → (split x).count ≤ d * (layer_at (heads_of pack.layers) x).size → (split x).copies ≤ d
  pub of-split : placement ≡ split_placement pack s k b split
  -- "Committing answers as planning does": the length, F, which is the split's figure, and the counts, which are those given
  pub answered : plan_outcome given ≡ result (length (placement_bytes placement) ∷ split_figure NestedFloors (heads_of pack.layers) s k b split ∷ counts)
  -- the bytes up to this length are the placement; the bytes after them are as before
  pub written : take (length (placement_bytes placement)) out-left ≡ placement_bytes placement
  pub are-bytes : Bytes (placement_bytes placement)
  pub rest : drop (length (placement_bytes placement)) out-left ≡ drop (length (placement_bytes placement)) out
  pub same_length : length out-left ≡ length out
  -- "gives a placement that the checker accepts", with the pack's n and r, the given s, k and b, and this F
  pub first : ℕ
  pub checked : placement_outcome (placement_checked (read_placement (placement_bytes placement)))
      ≡ result (placement_values (record { content = placement; first = first }))
  pub numbers : (placement.n ≡ pack.n)
      × (placement.r ≡ pack.r)
      × (placement.s ≡ s)
      × (placement.k ≡ k)
      × (placement.b ≡ b)
      × (placement.figure ≡ split_figure NestedFloors (heads_of pack.layers) s k b split)
  -- and the pack's list of nodes out of service (h)
  pub list : placement.dark ≡ pack.dark
  -- so F holds whichever k nodes fail: of the records in the bytes written
  pub survives : (failed : List ℕ) → FailedNodes pack.n k failed
      → placement.figure ≤ usable s (records_in (placement_bytes placement) first pack.r b) (λ v. member v failed)

-- For every accepted pack, every s, k and b within limits, and any five counts that sum to b and put records only in layers below s
-- that have blocks, committing doesn't refuse.
pub i-commit : (bytes : List ℕ) (pack : Pack) → Bytes bytes → PackFile pack bytes × GoodPack pack
    → (s k b : ℕ) → OrderLimits pack.n pack.r (record { s = s; k = k; b = b })
    → (counts : List ℕ) → length counts ≡ 5 → Taken (heads_of pack.layers) s b counts
    → (out out-left : List ℕ) (given : PlanResult) → output_needed b pack.r ≤ length out
    → CommitDone (commit bytes (record { s = s; k = k; b = b }) counts (length out)) out out-left given
    → CommitKept pack s k b counts out out-left given
unfolding split_placement check_placement commit
i-commit bytes pack h is s k b limits counts five-long taken out out-left given ho done =
    let order : Order = record { s = s; k = k; b = b } in
    let heads = heads_of pack.layers in
    let good = is.1 in
    let p = counts_placement pack order counts in
    let s-most : s ≤ 5 = omega (arith, limits.s-most, good.limits.base.r-most) in
    let fits : CommitFits pack order counts (length out) =
    record { within = limits; block = taken-block pack good order limits counts taken; taken = taken; output-fits = ho } in
    let wrote : commit bytes order counts (length out) ≡ accepted p =
    rw ((pack-accepted-iff bytes pack h).1 is) (commit-fitting pack order counts (length out) fits) in
    let d : CommitDone (accepted p) out out-left given = subst (λ m. CommitDone m out out-left given) wrote done in
    let file = placement_bytes p in
    let room : length file ≤ length out = le_trans (committed-bytes pack good order limits counts taken) ho in
    let (found, read, same) = map_accepted-accepted (λ (f : Located Placement). f.content) (read_placement file)
    (committed-accepted pack good order limits counts taken) in
    let reads : read_placement file ≡ accepted (record { content = p; first = found.first }) =
    read ∙ (λ i. accepted (record { content = same i; first = found.first })) in
    let says = ap (λ c. placement_outcome (placement_checked c)) reads
    ∙ placement-told file (record { content = p; first = found.first }) reads in
    record {
      split = counts_split heads counts;
      placement = p;
      is-split = taken-split taken;
      has-counts = λ x l. refl;
      least-copies = λ x d l g. copies_for-least (get_or counts x 0) (layer_at heads x).size d g;
      of-split = refl;
      answered =
          ap plan_outcome d.answer
          ∙ ap (λ (c : List ℕ). result (length file ∷ p.figure ∷ c)) (sym (counts-answered pack order counts heads five-long s-most taken));
      written = rw d.output-after (take_at file (drop (length file) out) (length file) refl);
      are-bytes = written-bytes p (committed-good pack good order limits counts taken);
      rest = rw d.output-after (drop_at file (drop (length file) out) (length file) refl);
      same_length = ap length d.output-after ∙ omega (arith, length-append file (drop (length file) out), length-drop (length file) out);
      first = found.first;
      checked = says;
      numbers = (refl, refl, refl, refl, refl, refl);
      list = refl;
      survives = demand-3-whichever file says;
    }

-- No split that is committed has a figure above the one that asking gave: whatever the pack and the slices, where both calls
-- answered for one order.
pub i-figure-at-most : (bytes : List ℕ) (order : Order) (counts work work-left out out-left : List ℕ) (asked : AskResult) (committed : PlanResult)
    {offered size figure : ℕ} {more more' : List ℕ}
    → AskDone order (ask bytes order (length work)) work work-left asked
    → CommitDone (commit bytes order counts (length out)) out out-left committed
    → ask_outcome asked ≡ result (offered ∷ more) → plan_outcome committed ≡ result (size ∷ figure ∷ more') → figure ≤ offered
unfolding commit named_offer split_placement
i-figure-at-most bytes order counts work work-left out out-left asked committed {offered} {size} {figure} {more} {more'} done wrote says says' =
    let (offer, is, values) = asked-result (ask bytes order (length work)) done.answer says in
    let (p, is', values') = planned-result (commit bytes order counts (length out)) wrote.answer says' in
    bind-elim (check_pack bytes) _ is' λ pack e r.
    let (fits, same) = committed-fits pack order counts (length out) r in
    let heads = heads_of pack.layers in
    let asks : ask_layers pack.n pack.r heads order (length work) ≡ accepted offer =
    sym (ask-of-pack bytes pack order (length work) e) ∙ is in
    let named-is = (asked-fits pack.n pack.r heads order (length work) asks).1 in
    let most = named-highest NestedFloors heads order.s order.k order.b fits.within.b-most fits.block (counts_split heads counts) (taken-split fits.taken) in
    let offered-is : offered ≡ (named_offer heads order).figure = cc in
    let p-is = accepted-injective same in
    let figure-is : figure ≡ p.figure = cc in
    let committed-is : p.figure ≡ (counts_placement pack order counts).figure = ap (λ (q : Placement). q.figure) (sym p-is) in
    rw (offered-is, figure-is, committed-is) most

-- a split has these counts: below s they are its own, and from s on there are none
pub record SplitHas (layers : List LayerHead) (s b : ℕ) (counts : List ℕ) : Type 0 where
  pub split : ℕ → Share
  pub is-split : Split layers s b split
  pub below : (x : ℕ) → x < s → (split x).count ≡ get_or counts x 0
  pub above : (x : ℕ) → s ≤ x → get_or counts x 0 ≡ 0

-- "Committing refuses with 16, after 9, counts that don't sum to b or that put records in a layer without blocks or not below s":
-- exactly those that no split has, and whatever the output. 16 is then the answer, with place 0, and the output is as it was.
pub i-sixteen : (bytes : List ℕ) (pack : Pack) → Bytes bytes → PackFile pack bytes × GoodPack pack
    → (s k b : ℕ) → OrderLimits pack.n pack.r (record { s = s; k = k; b = b }) → T (has_block (heads_of pack.layers) s)
    → (counts out out-left : List ℕ) (given : PlanResult)
    → CommitDone (commit bytes (record { s = s; k = k; b = b }) counts (length out)) out out-left given
    → (plan_outcome given ≡ refusal 16 0) ↔ (SplitHas (heads_of pack.layers) s b counts → ⊥)
i-sixteen bytes pack h is s k b limits block counts out out-left given done = (to, from)
  where
    order : Order
    order = record { s = s; k = k; b = b }

    accept : check_pack bytes ≡ accepted pack
    accept = (pack-accepted-iff bytes pack h).1 is

    to : plan_outcome given ≡ refusal 16 0 → SplitHas (heads_of pack.layers) s b counts → ⊥
    to says has =
        let taken = split-taken has.split has.is-split has.below has.above in
        taken-not-sixteen bytes order pack accept limits block counts (length out) taken (sym (ap plan_outcome done.answer) ∙ says)

    from : (SplitHas (heads_of pack.layers) s b counts → ⊥) → plan_outcome given ≡ refusal 16 0
    from none =
        let refuses = commit-sixteen bytes order pack accept limits block counts (length out)
        (λ t. none (record { split = counts_split (heads_of pack.layers) counts; is-split = taken-split t; below = λ x l. refl; above = taken_none t })) in
        ap plan_outcome (done.answer ∙ ap plan_answer refuses)

-- "Both refuse as planning does", committing without 10: the pack's refusals, 12 and 9 come first, whatever the counts and the
-- output, as in planning with slices that any order fits.
pub i-planning-first : (bytes : List ℕ) (order : Order) (counts out out-left : List ℕ) (committed : PlanResult) (number place : ℕ)
    → CommitDone (commit bytes order counts (length out)) out out-left committed
    → plan_outcome (plan_answer (plan bytes order work_most output_most)) ≡ refusal number place
    → (plan_outcome committed ≡ refusal number place) × (out-left ≡ out)
i-planning-first bytes order counts out out-left committed number place done says =
    let (e, is, same) = planned-refusal (plan bytes order work_most output_most) refl says in
    let d : CommitDone (refused e) out out-left committed =
    subst (λ m. CommitDone m out out-left committed) (plan-refused-commit bytes order counts (length out) is) done in
    (ap plan_outcome d.answer ∙ same, d.output-after)

-- and where the counts are taken, it refuses exactly as planning does with a working slice that any order fits
pub i-commit-refuses : (bytes : List ℕ) (order : Order) (counts out out-left : List ℕ) (committed : PlanResult) (number place : ℕ)
    → ((pack : Pack) → check_pack bytes ≡ accepted pack → Taken (heads_of pack.layers) order.s order.b counts)
    → CommitDone (commit bytes order counts (length out)) out out-left committed
    → (plan_outcome committed ≡ refusal number place) ↔ (plan_outcome (plan_answer (plan bytes order work_most (length out))) ≡ refusal number place)
i-commit-refuses bytes order counts out out-left committed number place taken done = (to, from)
  where
    to : plan_outcome committed ≡ refusal number place → plan_outcome (plan_answer (plan bytes order work_most (length out))) ≡ refusal number place
    to says =
        let (e, is, same) = planned-refusal (commit bytes order counts (length out)) done.answer says in
        ap (λ m. plan_outcome (plan_answer m)) (taken-refused-plan bytes order counts (length out) taken is) ∙ same

    from : plan_outcome (plan_answer (plan bytes order work_most (length out))) ≡ refusal number place → plan_outcome committed ≡ refusal number place
    from says =
        let (e, is, same) = planned-refusal (plan bytes order work_most (length out)) refl says in
        ap plan_outcome (done.answer ∙ ap plan_answer (plan-refused-taken bytes order counts (length out) taken is)) ∙ same

-- Demand 1: after any refusal the lent slice holds what it held before.
pub i-commit-unchanged : (bytes : List ℕ) (order : Order) (counts out out-left : List ℕ) (committed : PlanResult) {number place : ℕ}
    → CommitDone (commit bytes order counts (length out)) out out-left committed
    → plan_outcome committed ≡ refusal number place → out-left ≡ out
i-commit-unchanged bytes order counts out out-left committed done says =
    let (e, is, same) = planned-refusal (commit bytes order counts (length out)) done.answer says in
    let d : CommitDone (refused e) out out-left committed = subst (λ m. CommitDone m out out-left committed) is done in
    d.output-after

pub i-ask-unchanged : (bytes : List ℕ) (order : Order) (work work-left : List ℕ) (asked : AskResult) {number place : ℕ}
    → AskDone order (ask bytes order (length work)) work work-left asked
    → ask_outcome asked ≡ refusal number place → work-left ≡ work
i-ask-unchanged bytes order work work-left asked done says =
    let (e, is, same) = asked-refusal (ask bytes order (length work)) done.answer says in
    let d : AskDone order (refused e) work work-left asked = subst (λ m. AskDone order m work work-left asked) is done in
    d.work-after

-- nor does any entry change from s × (b+1) on, whatever asking answers
pub i-ask-past : (bytes : List ℕ) (order : Order) (work work-left : List ℕ) (asked : AskResult)
    → AskDone order (ask bytes order (length work)) work work-left asked
    → (i : ℕ) → work_needed order.s order.b ≤ i → get_or work-left i 0 ≡ get_or work i 0
i-ask-past bytes order work work-left asked done =
    past-unchanged order (ask bytes order (length work)) work work-left done.work-after
