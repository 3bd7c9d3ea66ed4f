-- `reply_plan::planned` meets its contract: the placement that the call wrote, or the line of its refusal. Assumes nothing.
use Rattle.reply_plan.proofs.Plans.{plan-planned, plan-refused}
use Rattle.reply_plan.proofs.planned.Goals as goal

pub returns-in-Ok : goal.returns-in-Ok
returns-in-Ok c =
    plan-planned c.args.pack.now c.args.order c.requires.work_most_in_bounds c.requires.output_most_in_bounds c.plan-result.ensures c.in-Ok.is

pub returns-in-Err : goal.returns-in-Err
returns-in-Err c =
    plan-refused c.args.pack.now c.args.order c.requires.work_most_in_bounds c.requires.output_most_in_bounds c.plan-result.ensures c.in-Err.is c.refused_line.ensures
