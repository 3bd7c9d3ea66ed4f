-- `rows_text_code::maker::make_rows` meets its contract. Assumes nothing.
use Rattle.refusal.proofs.Answered.{passed-on}
use Rattle.table_reader.proofs.Turns.{room-same}
use Rattle.rows_text_code.proofs.Making.{text-bad, text-fits, text-packed}
use Rattle.rows_text_code.proofs.maker.make_rows.Goals as goal

pub rows_draft-requires : goal.rows_draft-requires
rows_draft-requires c =
    let room = room-same c.requires.room c.numbers-1.given c.rows-1.given c.lines-1.given in
    record { draft_fits = text-fits _ _ _ _ room c.read_text.ensures c.in_ok-p.was; pack_most_in_bounds = c.requires.pack_most_in_bounds }

pub returns-in_err-p : goal.returns-in_err-p
returns-in_err-p c =
    let room = room-same c.requires.room c.numbers-1.given c.rows-1.given c.lines-1.given in
    rw (passed-on _ c.from_residual.ensures.1) (text-bad _ _ _ _ room c.read_text.ensures c.in_err-p.was _ _)

pub returns : goal.returns
returns c =
    let room = room-same c.requires.room c.numbers-1.given c.rows-1.given c.lines-1.given in
    text-packed _ _ _ _ room c.read_text.ensures c.in_ok-p.was _ _ _ c.rows_draft.ensures
