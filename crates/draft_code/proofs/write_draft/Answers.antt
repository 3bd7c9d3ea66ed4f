-- `draft_code::write_draft` meets its contract. Assumes nothing.
use Rattle.draft_code.proofs.Written.{both-written}
use Rattle.draft_code.proofs.write_draft.Goals as goal

pub returns : goal.returns
returns c =
    (c.write_numbers-at.ensures.0, both-written c.args.head.now c.args.rows.now c.args.out.now c.requires.rows_in_bounds c.write_numbers-at.ensures.0 c.write_numbers-at.ensures.1 c.copy_bytes.ensures)
