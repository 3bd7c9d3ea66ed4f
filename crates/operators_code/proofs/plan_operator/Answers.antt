-- `operators_code::plan_operator` meets its contract: 14 for either wish, or what planning with the grant as b gives. Assumes
-- nothing.
use mathlib.Core.Path.{◌≡◌, ◌∙◌, sym}
use mathlib.Core.Bool.{true}
use lib.ListN.{length}
use Rattle.operators.specs.Operators.{wish_taken}
use Rattle.planner_code.proofs.Chosen.{refused-done}
use Rattle.operators.proofs.Wishes.{taken-wish, own-refused, other-refused, both-taken}
use Rattle.operators_code.proofs.plan_operator.Goals as goal

pub returns-then-not-is_taken : goal.returns-then-not-is_taken
returns-then-not-is_taken c =
    refused-done c.args.work.now c.args.out.now
    (own-refused c.args.pack.now c.args.order (length c.args.work.now) (length c.args.out.now)
    (sym c.is_taken.ensures ∙ c.if-not-is_taken.true))
    c.refuse.ensures

pub returns-then-not-is_taken-2 : goal.returns-then-not-is_taken-2
returns-then-not-is_taken-2 c =
    refused-done c.args.work.now c.args.out.now
    (other-refused c.args.pack.now c.args.order (length c.args.work.now) (length c.args.out.now)
    (sym c.is_taken-2.ensures ∙ c.if-not-is_taken-2.true))
    c.refuse-then-not-is_taken-2.ensures

pub grant-b-requires : goal.grant-b-requires
grant-b-requires c =
    let order = c.args.order in
    record { wish_bound = (taken-wish order.wish ((let own-here : wish_taken c.args.order.wish ≡ true = sym c.is_taken.ensures ∙ c.if-not-is_taken.false in own-here))).1; other_bound = (taken-wish order.other ((let others-here : wish_taken c.args.order.other ≡ true = sym c.is_taken-2.ensures ∙ c.if-not-is_taken-2.false in others-here))).1 }

pub returns : goal.returns
returns c =
    rw (
      both-taken c.args.pack.now c.args.order (length c.args.work.now) (length c.args.out.now) ((let own-here : wish_taken c.args.order.wish ≡ true = sym c.is_taken.ensures ∙ c.if-not-is_taken.false in own-here)) ((let others-here : wish_taken c.args.order.other ≡ true = sym c.is_taken-2.ensures ∙ c.if-not-is_taken-2.false in others-here)),
      ← c.grant-b.ensures,
    )
    c.plan.ensures
