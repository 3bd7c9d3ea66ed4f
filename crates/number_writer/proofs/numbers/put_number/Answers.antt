-- `number_writer::numbers::put_number` meets its contract: the number fits, so it is written. Assumes nothing.
use native.Mathlib.Omega.{arith}
use Rattle.number_writer.proofs.numbers.Putting.{number_put, put-length, put-not-refused}
use Rattle.number_writer.proofs.numbers.put_number.Goals as goal

pub returns-in_default : goal.returns-in_default
returns-in_default c = absurd (put-not-refused ((number_put _ _ c.args.at c.args.v _ (c.requires.v_le_largest_number, c.requires.v_in_bounds) c.write_number-written.ensures)) c.in_default.is)

pub overflow_add-result : goal.overflow_add-result
overflow_add-result c =
    let p = (number_put _ _ c.args.at c.args.v _ (c.requires.v_le_largest_number, c.requires.v_in_bounds) c.write_number-written.ensures) in
    omega (arith, c.requires.v_in_bounds, put-length p c.in-Ok.is)

pub returns : goal.returns
returns c =
    let p = (number_put _ _ c.args.at c.args.v _ (c.requires.v_le_largest_number, c.requires.v_in_bounds) c.write_number-written.ensures) in
    (omega (arith, put-length p c.in-Ok.is), p.bytes)
