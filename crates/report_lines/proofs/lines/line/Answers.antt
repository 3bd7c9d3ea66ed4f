-- `report_lines::lines::line` meets its contract: the word, and then the numbers from its end on. Assumes nothing.
use Rattle.report_lines.proofs.lines.Words.{line-replied}
use Rattle.report_lines.proofs.lines.line.Goals as goal

pub returns : goal.returns
returns c =
    line-replied c.args.word.now _ _ _ _ _ c.requires c.copy_bytes.ensures c.put_rest.ensures
