-- `commit_code::commit_pack` meets its contract: the first refusal of the four checks is the answer; counts that pass them are
-- written. Assumes nothing.
use Prim.Native.Nat.{◌≤◌}
use native.Mathlib.Omega.{arith}
use native.Mathlib.Nat.{le_trans}
use mathlib.Core.Path.{◌≡◌, ◌∙◌}
use lib.ListN.{length}
use Rattle.refusal.specs.Checked.{accepted}
use Rattle.refusal.proofs.Checked.{verdict-refused}
use Rattle.layers.specs.Layers.{heads_of}
use Rattle.pack.specs.Pack.{Pack}
use Rattle.placement.specs.Placement.{OrderLimits}
use Rattle.planner.specs.Planning.{check_order, check_blocks, check_output}
use Rattle.planner.specs.Writing.{held_pack}
use Rattle.planner.proofs.Checks.{passed, order-within, blocks-some, output-long}
use Rattle.planner.proofs.Blocks.{check_blocks-held}
use Rattle.commit.specs.Committing.{Taken, check_counts}
use Rattle.commit.proofs.Checks.{CommitFits, counts-passed, check_counts-held, order-refused, blocks-refused, counts-refused, output-refused, commit-fitting}
use Rattle.commit.proofs.Committed.{writable, counts-answered, refused-done, committed-done}
use Rattle.commit_code.proofs.commit_pack.Goals as goal

pub returns-in-Err : goal.returns-in-Err
returns-in-Err c =
    refused-done _
    (order-refused _ _ _ _ (verdict-refused _ c.check_order-limits.ensures c.in-Err.is))
    c.refuse.ensures

pub check_blocks-some-requires : goal.check_blocks-some-requires
check_blocks-some-requires c = le_trans ((let within-here : OrderLimits c.args.base.n c.args.base.r c.args.order = order-within _ _ _ ((let ordered-here : check_order c.args.base.n c.args.base.r c.args.order ≡ accepted tt = passed _ c.check_order-limits.ensures c.in_default.is in ordered-here)) in within-here)).s-most ((let r-most-here : c.args.base.r ≤ 5 = c.requires.good.limits.base.r-most in r-most-here))

pub returns-in-Err-some : goal.returns-in-Err-some
returns-in-Err-some c =
    refused-done _
    (blocks-refused _ _ _ _ ((let ordered-here : check_order c.args.base.n c.args.base.r c.args.order ≡ accepted tt = passed _ c.check_order-limits.ensures c.in_default.is in ordered-here))
    ((let same_blocks-here : check_blocks (heads_of ((let pack_of-here : Pack = held_pack c.args.base c.args.layers c.args.blocks.now in pack_of-here)).layers) c.args.order.s ≡ check_blocks c.args.layers c.args.order.s = check_blocks-held c.args.base.r c.args.layers c.args.blocks.now c.args.order.s ((let within-here : OrderLimits c.args.base.n c.args.base.r c.args.order = order-within _ _ _ ((let ordered-here : check_order c.args.base.n c.args.base.r c.args.order ≡ accepted tt = passed _ c.check_order-limits.ensures c.in_default.is in ordered-here)) in within-here)).s-most in same_blocks-here) ∙ verdict-refused _ c.check_blocks-some.ensures c.in-Err-some.is))
    c.refuse-in-Err-some.ensures

pub returns-in-Err-split : goal.returns-in-Err-split
returns-in-Err-split c =
    refused-done _
    (counts-refused _ _ _ _ ((let ordered-here : check_order c.args.base.n c.args.base.r c.args.order ≡ accepted tt = passed _ c.check_order-limits.ensures c.in_default.is in ordered-here)) ((let some_block-here : check_blocks (heads_of ((let pack_of-here : Pack = held_pack c.args.base c.args.layers c.args.blocks.now in pack_of-here)).layers) c.args.order.s ≡ accepted tt = (let same_blocks-here : check_blocks (heads_of ((let pack_of-here : Pack = held_pack c.args.base c.args.layers c.args.blocks.now in pack_of-here)).layers) c.args.order.s ≡ check_blocks c.args.layers c.args.order.s = check_blocks-held c.args.base.r c.args.layers c.args.blocks.now c.args.order.s ((let within-here : OrderLimits c.args.base.n c.args.base.r c.args.order = order-within _ _ _ ((let ordered-here : check_order c.args.base.n c.args.base.r c.args.order ≡ accepted tt = passed _ c.check_order-limits.ensures c.in_default.is in ordered-here)) in within-here)).s-most in same_blocks-here) ∙ passed _ c.check_blocks-some.ensures c.in_default-some.is in some_block-here))
    ((let same-counts-here : check_counts (heads_of ((let pack_of-here : Pack = held_pack c.args.base c.args.layers c.args.blocks.now in pack_of-here)).layers) c.args.order.s c.args.order.b c.args.counts
    ≡ check_counts c.args.layers c.args.order.s c.args.order.b c.args.counts = check_counts-held c.args.base.r c.args.layers c.args.blocks.now c.args.order.s c.args.order.b c.args.counts
    ((let within-here : OrderLimits c.args.base.n c.args.base.r c.args.order = order-within _ _ _ ((let ordered-here : check_order c.args.base.n c.args.base.r c.args.order ≡ accepted tt = passed _ c.check_order-limits.ensures c.in_default.is in ordered-here)) in within-here)).s-most in same-counts-here) ∙ verdict-refused _ c.check_counts-split.ensures c.in-Err-split.is))
    c.refuse-in-Err-split.ensures

pub check_output-bytes-requires : goal.check_output-bytes-requires
check_output-bytes-requires c =
    (((let within-here : OrderLimits c.args.base.n c.args.base.r c.args.order = order-within _ _ _ ((let ordered-here : check_order c.args.base.n c.args.base.r c.args.order ≡ accepted tt = passed _ c.check_order-limits.ensures c.in_default.is in ordered-here)) in within-here)).b-most, (let r-most-here : c.args.base.r ≤ 5 = c.requires.good.limits.base.r-most in r-most-here))

pub returns-in-Err-bytes : goal.returns-in-Err-bytes
returns-in-Err-bytes c =
    refused-done _
    (output-refused _ _ _ _ ((let ordered-here : check_order c.args.base.n c.args.base.r c.args.order ≡ accepted tt = passed _ c.check_order-limits.ensures c.in_default.is in ordered-here)) ((let some_block-here : check_blocks (heads_of ((let pack_of-here : Pack = held_pack c.args.base c.args.layers c.args.blocks.now in pack_of-here)).layers) c.args.order.s ≡ accepted tt = (let same_blocks-here : check_blocks (heads_of ((let pack_of-here : Pack = held_pack c.args.base c.args.layers c.args.blocks.now in pack_of-here)).layers) c.args.order.s ≡ check_blocks c.args.layers c.args.order.s = check_blocks-held c.args.base.r c.args.layers c.args.blocks.now c.args.order.s ((let within-here : OrderLimits c.args.base.n c.args.base.r c.args.order = order-within _ _ _ ((let ordered-here : check_order c.args.base.n c.args.base.r c.args.order ≡ accepted tt = passed _ c.check_order-limits.ensures c.in_default.is in ordered-here)) in within-here)).s-most in same_blocks-here) ∙ passed _ c.check_blocks-some.ensures c.in_default-some.is in some_block-here)) ((let pack-counts-here : check_counts (heads_of ((let pack_of-here : Pack = held_pack c.args.base c.args.layers c.args.blocks.now in pack_of-here)).layers) c.args.order.s c.args.order.b c.args.counts ≡ accepted tt = (let same-counts-here : check_counts (heads_of ((let pack_of-here : Pack = held_pack c.args.base c.args.layers c.args.blocks.now in pack_of-here)).layers) c.args.order.s c.args.order.b c.args.counts
    ≡ check_counts c.args.layers c.args.order.s c.args.order.b c.args.counts = check_counts-held c.args.base.r c.args.layers c.args.blocks.now c.args.order.s c.args.order.b c.args.counts
    ((let within-here : OrderLimits c.args.base.n c.args.base.r c.args.order = order-within _ _ _ ((let ordered-here : check_order c.args.base.n c.args.base.r c.args.order ≡ accepted tt = passed _ c.check_order-limits.ensures c.in_default.is in ordered-here)) in within-here)).s-most in same-counts-here) ∙ (let checked-counts-here : check_counts c.args.layers c.args.order.s c.args.order.b c.args.counts ≡ accepted tt = passed _ c.check_counts-split.ensures c.in_default-split.is in checked-counts-here) in pack-counts-here))
    (verdict-refused _ c.check_output-bytes.ensures c.in-Err-bytes.is))
    c.refuse-in-Err-bytes.ensures

pub write_placement-answer-requires : goal.write_placement-answer-requires
write_placement-answer-requires c =
    record {
      writable = writable c.requires ((let fits-here : CommitFits ((let pack_of-here : Pack = held_pack c.args.base c.args.layers c.args.blocks.now in pack_of-here)) c.args.order c.args.counts (length c.args.out.now) = record {
        within = (let within-here : OrderLimits c.args.base.n c.args.base.r c.args.order = order-within _ _ _ ((let ordered-here : check_order c.args.base.n c.args.base.r c.args.order ≡ accepted tt = passed _ c.check_order-limits.ensures c.in_default.is in ordered-here)) in within-here);
        block = blocks-some _ _ ((let some_block-here : check_blocks (heads_of ((let pack_of-here : Pack = held_pack c.args.base c.args.layers c.args.blocks.now in pack_of-here)).layers) c.args.order.s ≡ accepted tt = (let same_blocks-here : check_blocks (heads_of ((let pack_of-here : Pack = held_pack c.args.base c.args.layers c.args.blocks.now in pack_of-here)).layers) c.args.order.s ≡ check_blocks c.args.layers c.args.order.s = check_blocks-held c.args.base.r c.args.layers c.args.blocks.now c.args.order.s ((let within-here : OrderLimits c.args.base.n c.args.base.r c.args.order = order-within _ _ _ ((let ordered-here : check_order c.args.base.n c.args.base.r c.args.order ≡ accepted tt = passed _ c.check_order-limits.ensures c.in_default.is in ordered-here)) in within-here)).s-most in same_blocks-here) ∙ passed _ c.check_blocks-some.ensures c.in_default-some.is in some_block-here));
        taken = counts-passed _ _ _ _ ((let pack-counts-here : check_counts (heads_of ((let pack_of-here : Pack = held_pack c.args.base c.args.layers c.args.blocks.now in pack_of-here)).layers) c.args.order.s c.args.order.b c.args.counts ≡ accepted tt = (let same-counts-here : check_counts (heads_of ((let pack_of-here : Pack = held_pack c.args.base c.args.layers c.args.blocks.now in pack_of-here)).layers) c.args.order.s c.args.order.b c.args.counts
            ≡ check_counts c.args.layers c.args.order.s c.args.order.b c.args.counts = check_counts-held c.args.base.r c.args.layers c.args.blocks.now c.args.order.s c.args.order.b c.args.counts
            ((let within-here : OrderLimits c.args.base.n c.args.base.r c.args.order = order-within _ _ _ ((let ordered-here : check_order c.args.base.n c.args.base.r c.args.order ≡ accepted tt = passed _ c.check_order-limits.ensures c.in_default.is in ordered-here)) in within-here)).s-most in same-counts-here) ∙ (let checked-counts-here : check_counts c.args.layers c.args.order.s c.args.order.b c.args.counts ≡ accepted tt = passed _ c.check_counts-split.ensures c.in_default-split.is in checked-counts-here) in pack-counts-here));
        output-fits = output-long _ _ _ ((let output-enough-here : check_output c.args.order.b c.args.base.r (length c.args.out.now) ≡ accepted tt = passed _ c.check_output-bytes.ensures c.in_default-bytes.is in output-enough-here));
      } in fits-here)).within ((let taken-here : Taken c.args.layers c.args.order.s c.args.order.b c.args.counts = counts-passed _ _ _ _ ((let checked-counts-here : check_counts c.args.layers c.args.order.s c.args.order.b c.args.counts ≡ accepted tt = passed _ c.check_counts-split.ensures c.in_default-split.is in checked-counts-here)) in taken-here));
      r_in_bounds = ((let fits-here : CommitFits ((let pack_of-here : Pack = held_pack c.args.base c.args.layers c.args.blocks.now in pack_of-here)) c.args.order c.args.counts (length c.args.out.now) = record {
        within = (let within-here : OrderLimits c.args.base.n c.args.base.r c.args.order = order-within _ _ _ ((let ordered-here : check_order c.args.base.n c.args.base.r c.args.order ≡ accepted tt = passed _ c.check_order-limits.ensures c.in_default.is in ordered-here)) in within-here);
        block = blocks-some _ _ ((let some_block-here : check_blocks (heads_of ((let pack_of-here : Pack = held_pack c.args.base c.args.layers c.args.blocks.now in pack_of-here)).layers) c.args.order.s ≡ accepted tt = (let same_blocks-here : check_blocks (heads_of ((let pack_of-here : Pack = held_pack c.args.base c.args.layers c.args.blocks.now in pack_of-here)).layers) c.args.order.s ≡ check_blocks c.args.layers c.args.order.s = check_blocks-held c.args.base.r c.args.layers c.args.blocks.now c.args.order.s ((let within-here : OrderLimits c.args.base.n c.args.base.r c.args.order = order-within _ _ _ ((let ordered-here : check_order c.args.base.n c.args.base.r c.args.order ≡ accepted tt = passed _ c.check_order-limits.ensures c.in_default.is in ordered-here)) in within-here)).s-most in same_blocks-here) ∙ passed _ c.check_blocks-some.ensures c.in_default-some.is in some_block-here));
        taken = counts-passed _ _ _ _ ((let pack-counts-here : check_counts (heads_of ((let pack_of-here : Pack = held_pack c.args.base c.args.layers c.args.blocks.now in pack_of-here)).layers) c.args.order.s c.args.order.b c.args.counts ≡ accepted tt = (let same-counts-here : check_counts (heads_of ((let pack_of-here : Pack = held_pack c.args.base c.args.layers c.args.blocks.now in pack_of-here)).layers) c.args.order.s c.args.order.b c.args.counts
            ≡ check_counts c.args.layers c.args.order.s c.args.order.b c.args.counts = check_counts-held c.args.base.r c.args.layers c.args.blocks.now c.args.order.s c.args.order.b c.args.counts
            ((let within-here : OrderLimits c.args.base.n c.args.base.r c.args.order = order-within _ _ _ ((let ordered-here : check_order c.args.base.n c.args.base.r c.args.order ≡ accepted tt = passed _ c.check_order-limits.ensures c.in_default.is in ordered-here)) in within-here)).s-most in same-counts-here) ∙ (let checked-counts-here : check_counts c.args.layers c.args.order.s c.args.order.b c.args.counts ≡ accepted tt = passed _ c.check_counts-split.ensures c.in_default-split.is in checked-counts-here) in pack-counts-here));
        output-fits = output-long _ _ _ ((let output-enough-here : check_output c.args.order.b c.args.base.r (length c.args.out.now) ≡ accepted tt = passed _ c.check_output-bytes.ensures c.in_default-bytes.is in output-enough-here));
      } in fits-here)).output-fits;
    }

pub returns : goal.returns
returns c =
    rw (commit-fitting _ _ _ _ ((let fits-here : CommitFits ((let pack_of-here : Pack = held_pack c.args.base c.args.layers c.args.blocks.now in pack_of-here)) c.args.order c.args.counts (length c.args.out.now) = record {
      within = (let within-here : OrderLimits c.args.base.n c.args.base.r c.args.order = order-within _ _ _ ((let ordered-here : check_order c.args.base.n c.args.base.r c.args.order ≡ accepted tt = passed _ c.check_order-limits.ensures c.in_default.is in ordered-here)) in within-here);
      block = blocks-some _ _ ((let some_block-here : check_blocks (heads_of ((let pack_of-here : Pack = held_pack c.args.base c.args.layers c.args.blocks.now in pack_of-here)).layers) c.args.order.s ≡ accepted tt = (let same_blocks-here : check_blocks (heads_of ((let pack_of-here : Pack = held_pack c.args.base c.args.layers c.args.blocks.now in pack_of-here)).layers) c.args.order.s ≡ check_blocks c.args.layers c.args.order.s = check_blocks-held c.args.base.r c.args.layers c.args.blocks.now c.args.order.s ((let within-here : OrderLimits c.args.base.n c.args.base.r c.args.order = order-within _ _ _ ((let ordered-here : check_order c.args.base.n c.args.base.r c.args.order ≡ accepted tt = passed _ c.check_order-limits.ensures c.in_default.is in ordered-here)) in within-here)).s-most in same_blocks-here) ∙ passed _ c.check_blocks-some.ensures c.in_default-some.is in some_block-here));
      taken = counts-passed _ _ _ _ ((let pack-counts-here : check_counts (heads_of ((let pack_of-here : Pack = held_pack c.args.base c.args.layers c.args.blocks.now in pack_of-here)).layers) c.args.order.s c.args.order.b c.args.counts ≡ accepted tt = (let same-counts-here : check_counts (heads_of ((let pack_of-here : Pack = held_pack c.args.base c.args.layers c.args.blocks.now in pack_of-here)).layers) c.args.order.s c.args.order.b c.args.counts
          ≡ check_counts c.args.layers c.args.order.s c.args.order.b c.args.counts = check_counts-held c.args.base.r c.args.layers c.args.blocks.now c.args.order.s c.args.order.b c.args.counts
          ((let within-here : OrderLimits c.args.base.n c.args.base.r c.args.order = order-within _ _ _ ((let ordered-here : check_order c.args.base.n c.args.base.r c.args.order ≡ accepted tt = passed _ c.check_order-limits.ensures c.in_default.is in ordered-here)) in within-here)).s-most in same-counts-here) ∙ (let checked-counts-here : check_counts c.args.layers c.args.order.s c.args.order.b c.args.counts ≡ accepted tt = passed _ c.check_counts-split.ensures c.in_default-split.is in checked-counts-here) in pack-counts-here));
      output-fits = output-long _ _ _ ((let output-enough-here : check_output c.args.order.b c.args.base.r (length c.args.out.now) ≡ accepted tt = passed _ c.check_output-bytes.ensures c.in_default-bytes.is in output-enough-here));
    } in fits-here)))
    (committed-done
    (counts-answered ((let pack_of-here : Pack = held_pack c.args.base c.args.layers c.args.blocks.now in pack_of-here)) c.args.order c.args.counts c.args.layers (omega (arith, c.well_formed)) (le_trans ((let within-here : OrderLimits c.args.base.n c.args.base.r c.args.order = order-within _ _ _ ((let ordered-here : check_order c.args.base.n c.args.base.r c.args.order ≡ accepted tt = passed _ c.check_order-limits.ensures c.in_default.is in ordered-here)) in within-here)).s-most ((let r-most-here : c.args.base.r ≤ 5 = c.requires.good.limits.base.r-most in r-most-here))) ((let taken-here : Taken c.args.layers c.args.order.s c.args.order.b c.args.counts = counts-passed _ _ _ _ ((let checked-counts-here : check_counts c.args.layers c.args.order.s c.args.order.b c.args.counts ≡ accepted tt = passed _ c.check_counts-split.ensures c.in_default-split.is in checked-counts-here)) in taken-here)))
    c.write_placement-answer.ensures)
