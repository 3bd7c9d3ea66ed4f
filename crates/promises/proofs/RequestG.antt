-- Document 02, (g): "A bus operator on the same cabinets". `PlanDone (plan_operator …)` is the contract of
-- `operators_code::plan_operator`: what it answers, and what the lent slices hold afterwards. Assumes nothing.
use Prim.Native.Nat.{ℕ, ◌+◌, min, ◌≤◌, ◌<◌}
use native.Mathlib.Omega.{arith}
use mathlib.Core.Path.{◌≡◌, refl, sym, ◌∙◌, ap, subst}
use mathlib.Core.Bool.{Bool, true, false}
use mathlib.Core.List.{List}
use mathlib.Core.Logic.{◌⊎◌, inl, inr}
use lib.ListN.{length}
use lib.Dec.{T}
use Rattle.refusal.specs.declared.Refusal.TheVariants.{BadWish}
use Rattle.refusal.specs.Refusals.{refusal}
use Rattle.refusal.specs.Checked.{Checked, refused}
use Rattle.number.specs.Numbers.{Bytes}
use Rattle.layers.specs.Layers.{heads_of}
use Rattle.pack.specs.Pack.{Pack, PackFile, GoodPack}
use Rattle.placement.specs.Placement.{Placement, OrderLimits}
use Rattle.split.specs.Splits.{has_block}
use Rattle.planner.specs.Planning.{plan, work_needed, output_needed}
use Rattle.planner.specs.Answers.{PlanDone, plan_outcome}
use Rattle.planner.specs.declared.PlanResult.{PlanResult}
use Rattle.operators.specs.Operators.{grant, Wish, wish_taken, plan_operator}
use Rattle.operators.specs.declared.SharedOrder.{SharedOrder}
use Rattle.operators.proofs.Grants.{grants-fit, grant-most, grant-least, grant-half, grant-whole}
use Rattle.operators.proofs.Wishes.{wish-taken, wish-outside, own-refused, other-refused, both-taken}
use Rattle.promises.proofs.Planned.{Kept, demand-3-written, plan-refused}

-- "The two share 4,096 records. .. The two grants never pass 4,096": whatever the two want
pub g-grants-share : (w v : ℕ) → grant w v + grant v w ≤ 4_096
g-grants-share = grants-fit

-- "and each gets what it wants up to 2,048 no matter what the other wants"
pub g-wish-to-half : (w v : ℕ) → (w ≤ 2_048 → grant w v ≡ w) × (min w 2_048 ≤ grant w v)
g-wish-to-half w v = (grant-whole w v, grant-half w v)

-- a grant is at least 1 and at most the wish, and so within a plan's limits
pub g-grant-bounds : (w v : ℕ) → Wish w → (1 ≤ grant w v) × (grant w v ≤ w) × (grant w v ≤ 4_096)
g-grant-bounds w v h = (grant-least w v h.0, grant-most w v, omega (arith, grant-most w v, h.1))

-- "answer and refusals as in planning": where both wishes are taken, the call gives what planning with the grant as b gives
pub g-as-planned : (bytes : List ℕ) (s k wish other work output : ℕ) → Wish wish → Wish other
    → plan_operator bytes (record { s = s; k = k; wish = wish; other = other }) work output
    ≡ plan bytes (record { s = s; k = k; b = grant wish other }) work output
g-as-planned bytes s k wish other work output h g =
    both-taken bytes (record { s = s; k = k; wish = wish; other = other }) work output (wish-taken wish h) (wish-taken other g)

-- what two calls of the planner give that were lent the same slices, where their definitions say the same
same-run : {planned others : Checked Placement} {work work-left work-left' out out-left out-left' : List ℕ} {given given' : PlanResult}
    → planned ≡ others
    → PlanDone planned work work-left out out-left given → PlanDone others work work-left' out out-left' given'
    → (given ≡ given') × (out-left ≡ out-left')
same-run e done done' =
    let d = rw e at done in
    (d.answer ∙ sym done'.answer, d.output-after ∙ sym done'.output-after)

-- "Changing only the other's wish within 1 to 4,096 changes neither answer nor output as long as the grant is equal": two calls
-- with the same pack, s, k and own wish, lent slices that hold the same
pub g-other-unseen : (bytes : List ℕ) (s k wish other changed : ℕ) → Wish other → Wish changed
    → grant wish other ≡ grant wish changed
    → (work work-left work-left' out out-left out-left' : List ℕ) (given given' : PlanResult)
    → PlanDone (plan_operator bytes (record { s = s; k = k; wish = wish; other = other }) (length work) (length out))
    work work-left out out-left given
    → PlanDone (plan_operator bytes (record { s = s; k = k; wish = wish; other = changed }) (length work) (length out))
    work work-left' out out-left' given'
    → (given ≡ given') × (out-left ≡ out-left')
g-other-unseen bytes s k wish other changed h h' same work work-left work-left' out out-left out-left' given given' done done' =
    same-run (go (wish_taken wish) refl) done done'
  where
    asked : ℕ → SharedOrder
    asked v = record { s = s; k = k; wish = wish; other = v }

    go : (b : Bool) → wish_taken wish ≡ b
        → plan_operator bytes (asked other) (length work) (length out) ≡ plan_operator bytes (asked changed) (length work) (length out)
    go true t =
        both-taken bytes (asked other) (length work) (length out) t (wish-taken other h)
        ∙ ap (λ b. plan bytes (record { s = s; k = k; b = b }) (length work) (length out)) same
        ∙ sym (both-taken bytes (asked changed) (length work) (length out) t (wish-taken changed h'))
    go false t =
        own-refused bytes (asked other) (length work) (length out) t
        ∙ sym (own-refused bytes (asked changed) (length work) (length out) t)

-- "The survivor promise is per operator": demand 3, whole, for an operator whose wish and the other's are taken, with its own
-- grant as b. An order within limits needs nothing of the grant: it is always within 1 to 4,096.
pub g-demand-3 : (bytes : List ℕ) (pack : Pack) → Bytes bytes → PackFile pack bytes × GoodPack pack
    → (s k wish other : ℕ) → Wish wish → Wish other
    → 1 ≤ s → s ≤ pack.r → s ≤ k → k < pack.n → T (has_block (heads_of pack.layers) s)
    → (work work-left out out-left : List ℕ) (given : PlanResult)
    → work_needed s (grant wish other) ≤ length work → output_needed (grant wish other) pack.r ≤ length out
    → PlanDone (plan_operator bytes (record { s = s; k = k; wish = wish; other = other }) (length work) (length out))
    work work-left out out-left given
    → Kept pack s k (grant wish other) work work-left out out-left given
g-demand-3 bytes pack h is s k wish other taken taken' s-least s-most k-least k-most block work work-left out out-left given hw ho done =
    let bounds = g-grant-bounds wish other taken in
    let limits : OrderLimits pack.n pack.r (record { s = s; k = k; b = grant wish other }) =
    record {
      s-least = s-least;
      s-most = s-most;
      k-least = k-least;
      k-most = k-most;
      b-least = bounds.0;
      b-most = bounds.2;
    } in
    demand-3-written bytes pack h is s k (grant wish other) limits block work work-left out out-left given hw ho
    (rw (g-as-planned bytes s k wish other (length work) (length out) taken taken') at done)

-- "It refuses with 14, before the pack is checked, if either wish is 0 or above 4,096": whatever the pack, s, k and the slices are
pub g-bad-wish : (bytes : List ℕ) (order : SharedOrder) (work work-left out out-left : List ℕ) (given : PlanResult)
    → ((order.wish ≡ 0) ⊎ (4_096 < order.wish)) ⊎ ((order.other ≡ 0) ⊎ (4_096 < order.other))
    → PlanDone (plan_operator bytes order (length work) (length out)) work work-left out out-left given
    → (plan_outcome given ≡ refusal 14 0) × (work-left ≡ work) × (out-left ≡ out)
g-bad-wish bytes order work work-left out out-left given bad done =
    let d : PlanDone (refused BadWish) work work-left out out-left given =
    subst (λ m. PlanDone m work work-left out out-left given) (go bad) done in
    (ap plan_outcome d.answer, d.work-after, d.output-after)
  where
    go : ((order.wish ≡ 0) ⊎ (4_096 < order.wish)) ⊎ ((order.other ≡ 0) ⊎ (4_096 < order.other))
        → plan_operator bytes order (length work) (length out) ≡ refused BadWish
    go (inl own) = own-refused bytes order (length work) (length out) (wish-outside order.wish own)
    go (inr its) = other-refused bytes order (length work) (length out) (wish-outside order.other its)

-- Demand 1: after any refusal both lent slices hold what they held before.
pub g-refused-unchanged : (bytes : List ℕ) (order : SharedOrder) (work work-left out out-left : List ℕ) (given : PlanResult) {number place : ℕ}
    → PlanDone (plan_operator bytes order (length work) (length out)) work work-left out out-left given
    → plan_outcome given ≡ refusal number place → (work-left ≡ work) × (out-left ≡ out)
g-refused-unchanged bytes order work work-left out out-left given done says =
    plan-refused (plan_operator bytes order (length work) (length out)) done says
