-- `planner_code::plan_pack` meets its contract: the first refusal of the four checks is the answer; an order that passes them
-- is planned. Assumes nothing.
use Prim.Native.Nat.{◌≤◌}
use native.Mathlib.Nat.{le_trans}
use mathlib.Core.Path.{◌≡◌, ◌∙◌}
use lib.ListN.{length}
use Rattle.refusal.specs.Checked.{accepted}
use Rattle.refusal.proofs.Checked.{verdict-refused}
use Rattle.layers.specs.Layers.{heads_of}
use Rattle.pack.specs.Pack.{Pack}
use Rattle.placement.specs.Placement.{OrderLimits}
use Rattle.planner.specs.Planning.{Fits, check_order, check_blocks, check_work, check_output}
use Rattle.planner.specs.Writing.{held_pack}
use Rattle.planner.proofs.Checks.{passed, order-within, blocks-some, work-long, output-long, order-refused, blocks-refused, work-refused, output-refused, plan-fitting}
use Rattle.planner.proofs.Blocks.{check_blocks-held}
use Rattle.planner_code.proofs.Chosen.{refused-done}
use Rattle.planner_code.proofs.plan_pack.Goals as goal

pub returns-in-Err : goal.returns-in-Err
returns-in-Err c =
    refused-done _ _
    (order-refused _ _ _ _ (verdict-refused _ c.check_order-limits.ensures c.in-Err.is))
    c.refuse.ensures

pub check_blocks-some-requires : goal.check_blocks-some-requires
check_blocks-some-requires c = le_trans ((let within-here : OrderLimits c.args.base.n c.args.base.r c.args.order = order-within _ _ _ ((let ordered-here : check_order c.args.base.n c.args.base.r c.args.order ≡ accepted tt = passed _ c.check_order-limits.ensures c.in_default.is in ordered-here)) in within-here)).s-most ((let r-most-here : c.args.base.r ≤ 5 = c.requires.good.limits.base.r-most in r-most-here))

pub returns-in-Err-some : goal.returns-in-Err-some
returns-in-Err-some c =
    refused-done _ _
    (blocks-refused _ _ _ _ ((let ordered-here : check_order c.args.base.n c.args.base.r c.args.order ≡ accepted tt = passed _ c.check_order-limits.ensures c.in_default.is in ordered-here))
    ((let same_blocks-here : check_blocks (heads_of ((let pack_of-here : Pack = held_pack c.args.base c.args.layers c.args.blocks.now in pack_of-here)).layers) c.args.order.s ≡ check_blocks c.args.layers c.args.order.s = check_blocks-held c.args.base.r c.args.layers c.args.blocks.now c.args.order.s ((let within-here : OrderLimits c.args.base.n c.args.base.r c.args.order = order-within _ _ _ ((let ordered-here : check_order c.args.base.n c.args.base.r c.args.order ≡ accepted tt = passed _ c.check_order-limits.ensures c.in_default.is in ordered-here)) in within-here)).s-most in same_blocks-here) ∙ verdict-refused _ c.check_blocks-some.ensures c.in-Err-some.is))
    c.refuse-in-Err-some.ensures

pub check_work-entries-requires : goal.check_work-entries-requires
check_work-entries-requires c =
    (le_trans ((let within-here : OrderLimits c.args.base.n c.args.base.r c.args.order = order-within _ _ _ ((let ordered-here : check_order c.args.base.n c.args.base.r c.args.order ≡ accepted tt = passed _ c.check_order-limits.ensures c.in_default.is in ordered-here)) in within-here)).s-most ((let r-most-here : c.args.base.r ≤ 5 = c.requires.good.limits.base.r-most in r-most-here)), ((let within-here : OrderLimits c.args.base.n c.args.base.r c.args.order = order-within _ _ _ ((let ordered-here : check_order c.args.base.n c.args.base.r c.args.order ≡ accepted tt = passed _ c.check_order-limits.ensures c.in_default.is in ordered-here)) in within-here)).b-most)

pub returns-in-Err-entries : goal.returns-in-Err-entries
returns-in-Err-entries c =
    refused-done _ _
    (work-refused _ _ _ _ ((let ordered-here : check_order c.args.base.n c.args.base.r c.args.order ≡ accepted tt = passed _ c.check_order-limits.ensures c.in_default.is in ordered-here)) ((let some_block-here : check_blocks (heads_of ((let pack_of-here : Pack = held_pack c.args.base c.args.layers c.args.blocks.now in pack_of-here)).layers) c.args.order.s ≡ accepted tt = (let same_blocks-here : check_blocks (heads_of ((let pack_of-here : Pack = held_pack c.args.base c.args.layers c.args.blocks.now in pack_of-here)).layers) c.args.order.s ≡ check_blocks c.args.layers c.args.order.s = check_blocks-held c.args.base.r c.args.layers c.args.blocks.now c.args.order.s ((let within-here : OrderLimits c.args.base.n c.args.base.r c.args.order = order-within _ _ _ ((let ordered-here : check_order c.args.base.n c.args.base.r c.args.order ≡ accepted tt = passed _ c.check_order-limits.ensures c.in_default.is in ordered-here)) in within-here)).s-most in same_blocks-here) ∙ passed _ c.check_blocks-some.ensures c.in_default-some.is in some_block-here))
    (verdict-refused _ c.check_work-entries.ensures c.in-Err-entries.is))
    c.refuse-in-Err-entries.ensures

pub check_output-bytes-requires : goal.check_output-bytes-requires
check_output-bytes-requires c =
    (((let within-here : OrderLimits c.args.base.n c.args.base.r c.args.order = order-within _ _ _ ((let ordered-here : check_order c.args.base.n c.args.base.r c.args.order ≡ accepted tt = passed _ c.check_order-limits.ensures c.in_default.is in ordered-here)) in within-here)).b-most, (let r-most-here : c.args.base.r ≤ 5 = c.requires.good.limits.base.r-most in r-most-here))

pub returns-in-Err-bytes : goal.returns-in-Err-bytes
returns-in-Err-bytes c =
    refused-done _ _
    (output-refused _ _ _ _ ((let ordered-here : check_order c.args.base.n c.args.base.r c.args.order ≡ accepted tt = passed _ c.check_order-limits.ensures c.in_default.is in ordered-here)) ((let some_block-here : check_blocks (heads_of ((let pack_of-here : Pack = held_pack c.args.base c.args.layers c.args.blocks.now in pack_of-here)).layers) c.args.order.s ≡ accepted tt = (let same_blocks-here : check_blocks (heads_of ((let pack_of-here : Pack = held_pack c.args.base c.args.layers c.args.blocks.now in pack_of-here)).layers) c.args.order.s ≡ check_blocks c.args.layers c.args.order.s = check_blocks-held c.args.base.r c.args.layers c.args.blocks.now c.args.order.s ((let within-here : OrderLimits c.args.base.n c.args.base.r c.args.order = order-within _ _ _ ((let ordered-here : check_order c.args.base.n c.args.base.r c.args.order ≡ accepted tt = passed _ c.check_order-limits.ensures c.in_default.is in ordered-here)) in within-here)).s-most in same_blocks-here) ∙ passed _ c.check_blocks-some.ensures c.in_default-some.is in some_block-here)) ((let work-enough-here : check_work c.args.order (length c.args.work.now) ≡ accepted tt = passed _ c.check_work-entries.ensures c.in_default-entries.is in work-enough-here))
    (verdict-refused _ c.check_output-bytes.ensures c.in-Err-bytes.is))
    c.refuse-in-Err-bytes.ensures

pub plan_order-requires : goal.plan_order-requires
plan_order-requires c = record {
  pack_held = c.requires;
  fits = (let fits-here : Fits ((let pack_of-here : Pack = held_pack c.args.base c.args.layers c.args.blocks.now in pack_of-here)) c.args.order (length c.args.work.now) (length c.args.out.now) = record {
    within = (let within-here : OrderLimits c.args.base.n c.args.base.r c.args.order = order-within _ _ _ ((let ordered-here : check_order c.args.base.n c.args.base.r c.args.order ≡ accepted tt = passed _ c.check_order-limits.ensures c.in_default.is in ordered-here)) in within-here);
    block = blocks-some _ _ ((let some_block-here : check_blocks (heads_of ((let pack_of-here : Pack = held_pack c.args.base c.args.layers c.args.blocks.now in pack_of-here)).layers) c.args.order.s ≡ accepted tt = (let same_blocks-here : check_blocks (heads_of ((let pack_of-here : Pack = held_pack c.args.base c.args.layers c.args.blocks.now in pack_of-here)).layers) c.args.order.s ≡ check_blocks c.args.layers c.args.order.s = check_blocks-held c.args.base.r c.args.layers c.args.blocks.now c.args.order.s ((let within-here : OrderLimits c.args.base.n c.args.base.r c.args.order = order-within _ _ _ ((let ordered-here : check_order c.args.base.n c.args.base.r c.args.order ≡ accepted tt = passed _ c.check_order-limits.ensures c.in_default.is in ordered-here)) in within-here)).s-most in same_blocks-here) ∙ passed _ c.check_blocks-some.ensures c.in_default-some.is in some_block-here));
    work-fits = work-long _ _ ((let work-enough-here : check_work c.args.order (length c.args.work.now) ≡ accepted tt = passed _ c.check_work-entries.ensures c.in_default-entries.is in work-enough-here));
    output-fits = output-long _ _ _ ((let output-enough-here : check_output c.args.order.b c.args.base.r (length c.args.out.now) ≡ accepted tt = passed _ c.check_output-bytes.ensures c.in_default-bytes.is in output-enough-here));
  } in fits-here);
}

pub returns : goal.returns
returns c =
    rw (plan-fitting _ _ _ _ ((let fits-here : Fits ((let pack_of-here : Pack = held_pack c.args.base c.args.layers c.args.blocks.now in pack_of-here)) c.args.order (length c.args.work.now) (length c.args.out.now) = record {
      within = (let within-here : OrderLimits c.args.base.n c.args.base.r c.args.order = order-within _ _ _ ((let ordered-here : check_order c.args.base.n c.args.base.r c.args.order ≡ accepted tt = passed _ c.check_order-limits.ensures c.in_default.is in ordered-here)) in within-here);
      block = blocks-some _ _ ((let some_block-here : check_blocks (heads_of ((let pack_of-here : Pack = held_pack c.args.base c.args.layers c.args.blocks.now in pack_of-here)).layers) c.args.order.s ≡ accepted tt = (let same_blocks-here : check_blocks (heads_of ((let pack_of-here : Pack = held_pack c.args.base c.args.layers c.args.blocks.now in pack_of-here)).layers) c.args.order.s ≡ check_blocks c.args.layers c.args.order.s = check_blocks-held c.args.base.r c.args.layers c.args.blocks.now c.args.order.s ((let within-here : OrderLimits c.args.base.n c.args.base.r c.args.order = order-within _ _ _ ((let ordered-here : check_order c.args.base.n c.args.base.r c.args.order ≡ accepted tt = passed _ c.check_order-limits.ensures c.in_default.is in ordered-here)) in within-here)).s-most in same_blocks-here) ∙ passed _ c.check_blocks-some.ensures c.in_default-some.is in some_block-here));
      work-fits = work-long _ _ ((let work-enough-here : check_work c.args.order (length c.args.work.now) ≡ accepted tt = passed _ c.check_work-entries.ensures c.in_default-entries.is in work-enough-here));
      output-fits = output-long _ _ _ ((let output-enough-here : check_output c.args.order.b c.args.base.r (length c.args.out.now) ≡ accepted tt = passed _ c.check_output-bytes.ensures c.in_default-bytes.is in output-enough-here));
    } in fits-here))) c.plan_order.ensures
