-- `report_check::check_reply` meets its contract: too short a slice is refused, and in any other stands the line. Assumes nothing.
use Rattle.report_check.proofs.Checks.{check-refused, check-written}
use Rattle.report_check.proofs.check_reply.Goals as goal

pub returns-then-out-lt-LINE_NEEDED : goal.returns-then-out-lt-LINE_NEEDED
returns-then-out-lt-LINE_NEEDED c =
    check-refused c.args.input.now c.args.out.now c.if-out-lt-LINE_NEEDED.true

pub returns : goal.returns
returns c =
    check-written c.args.input.now c.args.out.now c.if-out-lt-LINE_NEEDED.false c.check_line-length.ensures
