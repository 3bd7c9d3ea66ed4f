-- What the answers of asking and committing say of the checks behind them, and what asking leaves. Assumes nothing.
use Prim.Native.Nat.{ℕ, ◌+◌, ◌-◌, ◌≤◌}
use native.Mathlib.Omega.{arith}
use mathlib.Core.Path.{◌≡◌, refl, sym, ◌∙◌, ap}
use mathlib.Core.Bool.{Bool, true, false}
use mathlib.Core.List.{List}
use lib.ListN.{get_or}
use lib.Seq.{get_or-drop}
use Rattle.refusal.specs.declared.Refusal.{Refusal}
use Rattle.refusal.specs.declared.Refusal.TheVariants.{ShortOutput}
use Rattle.refusal.specs.Refusals.{result, refusal, refusal_outcome}
use Rattle.refusal.specs.Checked.{Checked, accepted, refused, ◌>>=◌, require}
use Rattle.placement.specs.Placement.{Placement}
use Rattle.placement.specs.declared.Order.{Order}
use Rattle.planner.specs.Planning.{work_needed}
use Rattle.planner.specs.Answers.{plan_answer, plan_outcome, plan_values}
use Rattle.planner.specs.declared.PlanResult.{PlanResult}
use Rattle.commit.specs.Asking.{Offer, ask_answer, ask_outcome, offer_values, AskedWork}
use Rattle.commit.specs.declared.AskResult.{AskResult}

-- a result is no refusal
not-both : {values : List ℕ} {number place : ℕ} → refusal number place ≡ result values → ⊥
not-both e = let z : ◌≡◌ {A = ℕ} 0 1 = cc in omega arith

-- asking
pub asked-result : (m : Checked Offer) {given : AskResult} {values : List ℕ} → given ≡ ask_answer m → ask_outcome given ≡ result values
    → (offer : Offer) × (m ≡ accepted offer) × (values ≡ offer_values offer)
asked-result (accepted offer) {given} {values} is says =
    let a : result values ≡ result (offer_values offer) = sym says ∙ ap ask_outcome is in (offer, refl, cc)
asked-result (refused e) is says = absurd (not-both (sym (ap ask_outcome is) ∙ says))

pub asked-refusal : (m : Checked Offer) {given : AskResult} {number place : ℕ} → given ≡ ask_answer m → ask_outcome given ≡ refusal number place
    → (e : Refusal) × (m ≡ refused e) × (refusal_outcome e ≡ refusal number place)
asked-refusal (accepted offer) is says = absurd (not-both (sym says ∙ ap ask_outcome is))
asked-refusal (refused e) is says = (e, refl, sym (ap ask_outcome is) ∙ says)

-- committing, and planning
pub planned-result : (m : Checked Placement) {given : PlanResult} {values : List ℕ} → given ≡ plan_answer m → plan_outcome given ≡ result values
    → (p : Placement) × (m ≡ accepted p) × (values ≡ plan_values p)
planned-result (accepted p) {given} {values} is says =
    let a : result values ≡ result (plan_values p) = sym says ∙ ap plan_outcome is in (p, refl, cc)
planned-result (refused e) is says = absurd (not-both (sym (ap plan_outcome is) ∙ says))

pub planned-refusal : (m : Checked Placement) {given : PlanResult} {number place : ℕ} → given ≡ plan_answer m
    → plan_outcome given ≡ refusal number place → (e : Refusal) × (m ≡ refused e) × (refusal_outcome e ≡ refusal number place)
planned-refusal (accepted p) is says = absurd (not-both (sym says ∙ ap plan_outcome is))
planned-refusal (refused e) is says = (e, refl, sym (ap plan_outcome is) ∙ says)

-- after 16 only 11 is left
pub not-sixteen : (t : Bool) (needed : ℕ) (p : Placement)
    → plan_outcome (plan_answer (require t (ShortOutput needed) >>= (λ _. accepted p))) ≡ refusal 16 0 → ⊥
not-sixteen true needed p says = not-both (sym says)
not-sixteen false needed p says = let z : ◌≡◌ {A = ℕ} 11 16 = cc in omega arith

-- "entries past the written length don't change": none from s × (b+1) on
pub past-unchanged : (order : Order) (asked : Checked Offer) (before after : List ℕ) → AskedWork order asked before after
    → (i : ℕ) → work_needed order.s order.b ≤ i → get_or after i 0 ≡ get_or before i 0
past-unchanged order (accepted offer) before after left i h =
    let n = work_needed order.s order.b in
    let q : n + (i - n) ≡ i = omega arith in
    ap (λ j. get_or after j 0) (sym q)
    ∙ sym (get_or-drop n after (i - n) 0)
    ∙ ap (λ (l : List ℕ). get_or l (i - n) 0) left.1
    ∙ get_or-drop n before (i - n) 0
    ∙ ap (λ j. get_or before j 0) q
past-unchanged order (refused e) before after left i h = ap (λ (l : List ℕ). get_or l i 0) left
