-- `reply_lines::put_numbers` meets its contract: the first number, then the others. Assumes nothing.
use native.Mathlib.Omega.{arith}
use Rattle.report_lines.proofs.Lengths.{decimal-most}
use Rattle.reply_lines.proofs.Puts.{put-append}
use Rattle.reply_lines.proofs.put_numbers.Goals as goal

pub put_decimal-next-requires : goal.put_decimal-next-requires
put_decimal-next-requires c = omega (arith, c.requires, decimal-most c.args.first)

pub put_rest-requires : goal.put_rest-requires
put_rest-requires c =
    omega (arith, c.requires, c.put_decimal-next.ensures.ends, c.put_decimal-next.auto.out, decimal-most c.args.first)

pub returns : goal.returns
returns c = put-append c.put_decimal-next.ensures c.put_rest.ensures
