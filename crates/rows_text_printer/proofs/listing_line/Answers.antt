-- `rows_text_printer::listing_line` meets its contract: a refused file's line is printed; the rows of an accepted one are the bytes from
-- its first row on. Assumes nothing.
use native.Mathlib.Omega.{arith}
use Rattle.certify.proofs.Answered.{bare-found}
use Rattle.certify.proofs.Writing.{held-of-found}
use Rattle.rows_text_printer.proofs.Listed.{listed, not_listed}
use Rattle.rows_text_printer.proofs.listing_line.Goals as goal

pub returns-in-Err : goal.returns-in-Err
returns-in-Err c =
    not_listed c.args.input.now c.read_bare.ensures c.in-Err.is c.refused_line.ensures

pub slice_bounds-put_listing-count : goal.slice_bounds-put_listing-count
slice_bounds-put_listing-count c = omega (arith, (bare-found _ c.read_bare.ensures c.in-Ok.is).inside)

pub slice_bounds-put_listing-start : goal.slice_bounds-put_listing-start
slice_bounds-put_listing-start c = omega (arith, (bare-found _ c.read_bare.ensures c.in-Ok.is).inside)

pub put_listing-requires : goal.put_listing-requires
put_listing-requires c =
    record { bare_held = held-of-found _ (bare-found _ c.read_bare.ensures c.in-Ok.is); table_most_in_bounds = c.requires }

pub returns-in-Ok : goal.returns-in-Ok
returns-in-Ok c = listed c.args.input.now (bare-found _ c.read_bare.ensures c.in-Ok.is) c.put_listing.ensures
