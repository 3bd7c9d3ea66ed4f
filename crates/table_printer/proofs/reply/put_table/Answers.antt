-- `table_printer::reply::put_table` meets its contract. Assumes nothing.
use native.Mathlib.Omega.{arith}
use Rattle.table_printer.proofs.Held.{out-room, layers-room, table-replied}
use Rattle.table_printer.proofs.reply.put_table.Goals as goal

pub put_line-first-requires : goal.put_line-first-requires
put_line-first-requires c = omega (arith, c.requires.table_most_in_bounds)

pub put_out-second-requires : goal.put_out-second-requires
put_out-second-requires c =
    record { count_bound = c.requires.pack_held.dark-few; at_in_bounds = out-room c.args.head c.args.heads c.args.dark c.args.rows.now c.args.out.now c.requires.pack_held c.requires.table_most_in_bounds c.put_line-first.ensures c.out-1.given }

pub put_layers-requires : goal.put_layers-requires
put_layers-requires c =
    record { r_bound = c.requires.pack_held.r-most; r_in_bounds = c.requires.pack_held.rows-there; rows_in_bounds = layers-room c.args.head c.args.heads c.args.dark c.args.rows.now c.args.out.now c.requires.pack_held c.requires.table_most_in_bounds c.put_line-first.ensures c.out-1.given c.put_out-second.ensures c.out-2-1.given }

pub returns : goal.returns
returns c =
    table-replied c.args.head c.args.heads c.args.dark c.args.rows.now c.args.out.now c.requires.pack_held c.requires.table_most_in_bounds c.put_line-first.ensures c.out-1.given c.put_out-second.ensures c.out-2-1.given c.put_layers.ensures
