-- `table_reader::lines::add_line` meets its contract. Assumes nothing.
use Rattle.table_reader.proofs.Found.{comment-inside}
use Rattle.table_reader.proofs.Content.{line-grown}
use native.Mathlib.Omega.{arith}
use Rattle.table_reader.proofs.lines.add_line.Goals as goal

pub slice_bounds-add_content-end : goal.slice_bounds-add_content-end
slice_bounds-add_content-end c = omega (arith, comment-inside _ c.first_of-end.ensures)

pub returns : goal.returns
returns c =
    line-grown c.args.line c.args.bytes.now _ c.first_of-end.ensures _ _ _ _ c.add_content.ensures
