-- `line_printer::parts::put_line` meets its contract. Assumes nothing.
use Rattle.line_printer.proofs.Stored.{put_both}
use Rattle.line_printer.proofs.parts.put_line.Goals as goal

pub returns : goal.returns
returns c = put_both c.put_word-next.ensures c.put_rest.ensures
