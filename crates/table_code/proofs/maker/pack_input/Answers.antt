-- `table_code::maker::pack_input` meets its contract. Assumes nothing.
use Rattle.table_code.proofs.Replying.{input-long, input-held}
use Rattle.table_code.proofs.maker.pack_input.Goals as goal

pub returns-then-input-ge-TEXT_MOST : goal.returns-then-input-ge-TEXT_MOST
returns-then-input-ge-TEXT_MOST c =
    input-long c.args.input.now c.if-input-ge-TEXT_MOST.true c.args.out.now c.args.out.now

pub returns : goal.returns
returns c =
    input-held c.args.input.now c.if-input-ge-TEXT_MOST.false _ _ _ c.make_pack.ensures
