-- `ask_code::ask_layers` meets its contract: the first refusal of the three checks is the answer; an order that passes them is
-- answered. Assumes nothing.
use Prim.Native.Nat.{◌≤◌}
use native.Mathlib.Nat.{le_trans}
use mathlib.Core.Path.{◌≡◌}
use lib.ListN.{length}
use Rattle.refusal.specs.Checked.{accepted}
use Rattle.refusal.proofs.Checked.{verdict-refused}
use Rattle.placement.specs.Placement.{OrderLimits}
use Rattle.planner.specs.Planning.{check_order, check_blocks, check_work}
use Rattle.planner.proofs.Checks.{passed, order-within, blocks-some, work-long}
use Rattle.commit.proofs.Offers.{AskFits, order-refused, blocks-refused, work-refused, ask-fitting, askable, refused-done}
use Rattle.ask_code.proofs.ask_layers.Goals as goal

pub returns-in-Err : goal.returns-in-Err
returns-in-Err c =
    refused-done _
    (order-refused _ _ _ _ _ (verdict-refused _ c.check_order-limits.ensures c.in-Err.is))
    c.refuse.ensures

pub check_blocks-some-requires : goal.check_blocks-some-requires
check_blocks-some-requires c = (let s-most-here : c.args.order.s ≤ 5 = le_trans ((let within-here : OrderLimits c.args.base.n c.args.base.r c.args.order = order-within _ _ _ ((let ordered-here : check_order c.args.base.n c.args.base.r c.args.order ≡ accepted tt = passed _ c.check_order-limits.ensures c.in_default.is in ordered-here)) in within-here)).s-most c.requires.r-most in s-most-here)

pub returns-in-Err-some : goal.returns-in-Err-some
returns-in-Err-some c =
    refused-done _
    (blocks-refused _ _ _ _ _ ((let ordered-here : check_order c.args.base.n c.args.base.r c.args.order ≡ accepted tt = passed _ c.check_order-limits.ensures c.in_default.is in ordered-here))
    (verdict-refused _ c.check_blocks-some.ensures c.in-Err-some.is))
    c.refuse-in-Err-some.ensures

pub check_work-entries-requires : goal.check_work-entries-requires
check_work-entries-requires c = ((let s-most-here : c.args.order.s ≤ 5 = le_trans ((let within-here : OrderLimits c.args.base.n c.args.base.r c.args.order = order-within _ _ _ ((let ordered-here : check_order c.args.base.n c.args.base.r c.args.order ≡ accepted tt = passed _ c.check_order-limits.ensures c.in_default.is in ordered-here)) in within-here)).s-most c.requires.r-most in s-most-here), ((let within-here : OrderLimits c.args.base.n c.args.base.r c.args.order = order-within _ _ _ ((let ordered-here : check_order c.args.base.n c.args.base.r c.args.order ≡ accepted tt = passed _ c.check_order-limits.ensures c.in_default.is in ordered-here)) in within-here)).b-most)

pub returns-in-Err-entries : goal.returns-in-Err-entries
returns-in-Err-entries c =
    refused-done _
    (work-refused _ _ _ _ _ ((let ordered-here : check_order c.args.base.n c.args.base.r c.args.order ≡ accepted tt = passed _ c.check_order-limits.ensures c.in_default.is in ordered-here)) ((let some_block-here : check_blocks c.args.layers c.args.order.s ≡ accepted tt = passed _ c.check_blocks-some.ensures c.in_default-some.is in some_block-here))
    (verdict-refused _ c.check_work-entries.ensures c.in-Err-entries.is))
    c.refuse-in-Err-entries.ensures

pub offer-requires : goal.offer-requires
offer-requires c = askable c.requires ((let fits-here : AskFits c.args.base.n c.args.base.r c.args.layers c.args.order (length c.args.work.now) = record {
  within = (let within-here : OrderLimits c.args.base.n c.args.base.r c.args.order = order-within _ _ _ ((let ordered-here : check_order c.args.base.n c.args.base.r c.args.order ≡ accepted tt = passed _ c.check_order-limits.ensures c.in_default.is in ordered-here)) in within-here);
  block = blocks-some _ _ ((let some_block-here : check_blocks c.args.layers c.args.order.s ≡ accepted tt = passed _ c.check_blocks-some.ensures c.in_default-some.is in some_block-here));
  work-fits = work-long _ _ ((let work-enough-here : check_work c.args.order (length c.args.work.now) ≡ accepted tt = passed _ c.check_work-entries.ensures c.in_default-entries.is in work-enough-here));
} in fits-here))

pub returns : goal.returns
returns c =
    rw (ask-fitting _ _ _ _ _ ((let fits-here : AskFits c.args.base.n c.args.base.r c.args.layers c.args.order (length c.args.work.now) = record {
      within = (let within-here : OrderLimits c.args.base.n c.args.base.r c.args.order = order-within _ _ _ ((let ordered-here : check_order c.args.base.n c.args.base.r c.args.order ≡ accepted tt = passed _ c.check_order-limits.ensures c.in_default.is in ordered-here)) in within-here);
      block = blocks-some _ _ ((let some_block-here : check_blocks c.args.layers c.args.order.s ≡ accepted tt = passed _ c.check_blocks-some.ensures c.in_default-some.is in some_block-here));
      work-fits = work-long _ _ ((let work-enough-here : check_work c.args.order (length c.args.work.now) ≡ accepted tt = passed _ c.check_work-entries.ensures c.in_default-entries.is in work-enough-here));
    } in fits-here))) c.offer.ensures
