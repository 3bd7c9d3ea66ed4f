-- `export_report::musseltwig_check_reply` meets its contract: the call's own contract, told as numbers; or too short an answer slice. Assumes nothing.
use Rattle.export_report.proofs.Exported.{reply-told, reply-short}
use Rattle.export_report.proofs.musseltwig_check_reply.Goals as goal

pub returns-then-answer-lt2 : goal.returns-then-answer-lt2
returns-then-answer-lt2 c = reply-short _ _ _ c.if-answer-lt2.true

pub writing-requires : goal.writing-requires
writing-requires c = c.if-answer-lt2.false

pub returns : goal.returns
returns c =
    reply-told _ _ _ _ _ _ _ c.if-answer-lt2.false c.check_reply-reply.ensures c.writing.ensures
