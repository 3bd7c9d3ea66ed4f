-- `line_printer::parts::put_word` meets its contract. Assumes nothing.
use Rattle.line_printer.proofs.Stored.{put-copied}
use Rattle.line_printer.proofs.parts.put_word.Goals as goal

pub returns : goal.returns
returns c =
    put-copied c.args.word.now c.args.out.now c.args.at c.requires c.copy_bytes.ensures
