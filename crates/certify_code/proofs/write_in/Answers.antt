-- `certify_code::write_in` meets its contract: the two arrays are what the planner's writer takes for these rows in one layer. Assumes
-- nothing.
use native.Mathlib.Omega.{arith}
use Rattle.certify.proofs.Writing.{writes-asked, writes-done, order-asked, rows-asked}
use Rattle.certify_code.proofs.write_in.Goals as goal

pub bounds-layers-x : goal.bounds-layers-x
bounds-layers-x c =
    omega (arith, c.requires.layer_lt_s.0, (order-asked c.requires.bare_held).s-most, (rows-asked c.requires.bare_held).r-most)

pub bounds-counts-x : goal.bounds-counts-x
bounds-counts-x c =
    omega (arith, c.requires.layer_lt_s.0, (order-asked c.requires.bare_held).s-most, (rows-asked c.requires.bare_held).r-most)

pub write_placement-answer-requires : goal.write_placement-answer-requires
write_placement-answer-requires c =
    record { writable = writes-asked c.requires.bare_held c.requires.layer_lt_s.0 c.requires.layer_lt_s.1; r_in_bounds = c.requires.r_in_bounds }

pub returns : goal.returns
returns c =
    writes-done c.requires.bare_held c.requires.layer_lt_s.0 c.requires.layer_lt_s.1 c.write_placement-answer.ensures
