-- `rows_text_code::maker::rows_draft` meets its contract. Assumes nothing.
use native.Mathlib.Omega.{arith}
use Rattle.table_code.proofs.Making.{draft-asks, draft-end}
use Rattle.rows_text_code.proofs.Making.{draft-told}
use Rattle.rows_text_code.proofs.maker.rows_draft.Goals as goal

pub write_draft-first-requires : goal.write_draft-first-requires
write_draft-first-requires c = let w = draft-asks c.args.p c.args.numbers.now c.args.rows.now c.args.lines.now c.requires.draft_fits c.requires.pack_most_in_bounds in record { all = w.0; rows_in_bounds = w.1 }

pub overflow_add-end : goal.overflow_add-end
overflow_add-end c =
    omega (arith, draft-end c.args.p c.args.numbers.now c.args.rows.now c.args.lines.now c.requires.draft_fits c.write_draft-first.ensures.0)

pub slice_bounds-check_made-end : goal.slice_bounds-check_made-end
slice_bounds-check_made-end c =
    omega (arith, draft-end c.args.p c.args.numbers.now c.args.rows.now c.args.lines.now c.requires.draft_fits c.write_draft-first.ensures.0, c.requires.pack_most_in_bounds, c.out-1.given)

pub returns : goal.returns
returns c =
    draft-told c.args.p c.args.numbers.now c.args.rows.now c.args.lines.now c.requires.draft_fits c.write_draft-first.ensures.0 _ _ c.write_draft-first.ensures.1 _ c.check_made.ensures
