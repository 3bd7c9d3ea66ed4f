-- `rows_text_code::maker::rows_input` meets its contract. Assumes nothing.
use Rattle.rows_text_code.proofs.Replying.{input-long, input-held}
use Rattle.rows_text_code.proofs.maker.rows_input.Goals as goal

pub returns-then-input-ge-TEXT_MOST : goal.returns-then-input-ge-TEXT_MOST
returns-then-input-ge-TEXT_MOST c =
    input-long c.args.input.now c.if-input-ge-TEXT_MOST.true c.args.out.now c.args.out.now

pub returns : goal.returns
returns c =
    input-held c.args.input.now c.if-input-ge-TEXT_MOST.false _ _ _ c.make_rows.ensures
