-- `table_printer::reply::table_line` meets its contract. Assumes nothing.
use native.Mathlib.Omega.{arith}
use Rattle.table_printer.proofs.Held.{first-inside, pack-held, accepted-text, refused-text}
use Rattle.table_printer.proofs.reply.table_line.Goals as goal

pub refused_line-requires : goal.refused_line-requires
refused_line-requires c = omega (arith, c.requires)

pub slice_bounds-put_table-count : goal.slice_bounds-put_table-count
slice_bounds-put_table-count c =
    omega (arith, first-inside c.args.input.now c.check_pack-check.ensures c.in-Ok.is)

pub slice_bounds-put_table-start : goal.slice_bounds-put_table-start
slice_bounds-put_table-start c =
    omega (arith, first-inside c.args.input.now c.check_pack-check.ensures c.in-Ok.is)

pub put_table-requires : goal.put_table-requires
put_table-requires c =
    record { pack_held = pack-held c.args.input.now c.check_pack-check.ensures c.in-Ok.is; table_most_in_bounds = c.requires }

pub returns-in-Err : goal.returns-in-Err
returns-in-Err c =
    refused-text c.args.input.now c.check_pack-check.ensures c.in-Err.is c.refused_line.ensures

pub returns-in-Ok : goal.returns-in-Ok
returns-in-Ok c =
    accepted-text c.args.input.now c.check_pack-check.ensures c.in-Ok.is c.put_table.ensures
