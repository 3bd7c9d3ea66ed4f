-- `rows_text_code::reply::rows_into` meets its contract. Assumes nothing.
use native.Mathlib.Omega.{arith}
use Rattle.rows_text_code.proofs.Replying.{packed-inside, packed-replied, fault-replied}
use Rattle.rows_text_code.proofs.reply.rows_into.Goals as goal

pub slice_bounds-copy_bytes-end : goal.slice_bounds-copy_bytes-end
slice_bounds-copy_bytes-end c =
    omega (arith, packed-inside c.args.input.now _ _ _ c.rows_input-packed.ensures c.in-Ok.is, c.made-2-1.given)

pub copy_bytes-requires : goal.copy_bytes-requires
copy_bytes-requires c =
    omega (arith, packed-inside c.args.input.now _ _ _ c.rows_input-packed.ensures c.in-Ok.is, c.made-2-1.given, c.requires)

pub returns-in-Ok : goal.returns-in-Ok
returns-in-Ok c =
    packed-replied c.args.input.now _ _ _ c.rows_input-packed.ensures c.in-Ok.is c.copy_bytes.ensures

pub returns-in-Err : goal.returns-in-Err
returns-in-Err c =
    fault-replied c.args.input.now _ _ _ c.rows_input-packed.ensures c.in-Err.is c.fault_line.ensures
