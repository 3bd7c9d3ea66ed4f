-- `rows_text_printer::put_listing` meets its contract: four texts one after another. Assumes nothing.
use native.Mathlib.Omega.{arith}
use Rattle.rows_text_printer.proofs.Listed.{dark-few, rows-there, r-most, out-room, order-room, rows-room, listing-replied}
use Rattle.rows_text_printer.proofs.put_listing.Goals as goal

pub put_out-second-requires : goal.put_out-second-requires
put_out-second-requires c =
    record { count_bound = dark-few c.args.base c.args.order c.args.rows.now c.args.out.now c.requires.bare_held c.requires.table_most_in_bounds; at_in_bounds = out-room c.args.base c.args.order c.args.rows.now c.args.out.now c.requires.bare_held c.requires.table_most_in_bounds c.put_line-first.ensures c.out-1.given }

pub put_line-third-requires : goal.put_line-third-requires
put_line-third-requires c =
    omega (
      arith,
      order-room c.args.base c.args.order c.args.rows.now c.args.out.now c.requires.bare_held c.requires.table_most_in_bounds c.put_line-first.ensures c.out-1.given
          c.put_out-second.ensures c.out-2-1.given,
    )

pub put_rows-requires : goal.put_rows-requires
put_rows-requires c =
    record {
      r_in_bounds = rows-there c.args.base c.args.order c.args.rows.now c.args.out.now c.requires.bare_held c.requires.table_most_in_bounds;
      r_bound = r-most c.args.base c.args.order c.args.rows.now c.args.out.now c.requires.bare_held c.requires.table_most_in_bounds;
      rows_in_bounds = rows-room c.args.base c.args.order c.args.rows.now c.args.out.now c.requires.bare_held c.requires.table_most_in_bounds c.put_line-first.ensures c.out-1.given
          c.put_out-second.ensures c.out-2-1.given c.put_line-third.ensures c.out-3-1.given;
    }

pub returns : goal.returns
returns c =
    listing-replied c.args.base c.args.order c.args.rows.now c.args.out.now c.requires.bare_held c.requires.table_most_in_bounds c.put_line-first.ensures c.out-1.given
    c.put_out-second.ensures c.out-2-1.given c.put_line-third.ensures c.out-3-1.given
    c.put_rows.ensures
