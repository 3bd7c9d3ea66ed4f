-- `split_lines::raise_by_records` meets its contract: where records are of no use, the line below is the line. Assumes nothing.
use Rattle.split_lines.proofs.Gentle.{raised-gentle}
use Rattle.split_lines.proofs.raise_by_records.Goals as goal

pub returns-then-is_gentle : goal.returns-then-is_gentle
returns-then-is_gentle c =
    raised-gentle c.args.each c.requires.1 c.is_gentle.ensures c.if-is_gentle.true
    c.repeat_line.ensures
