-- `page_lines::lines::put_last_line` meets its contract: its parts make the line. Assumes nothing.
use Rattle.page.proofs.Writing.{last_stored}
use Rattle.page_lines.proofs.lines.put_last_line.Goals as goal

pub returns : goal.returns
returns c =
    last_stored c.args.out.now c.args.at c.args.figure c.args.b c.requires.0 c.requires.1 c.put_text.ensures c.put_count.ensures
    c.put_text-2.ensures c.put_count-2.ensures c.put_blanks.ensures
