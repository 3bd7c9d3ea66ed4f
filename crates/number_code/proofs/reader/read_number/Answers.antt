use native.Mathlib.Omega.{arith}
use lib.ListN.{get_or}
use Rattle.number_code.proofs.reader.ReadLoop.{ReadFits, read-holds, read_none, read-ends, read-last, read_again, read_fits}
use Rattle.number_code.proofs.reader.read_number.Goals as goal

pub loop-left-init : goal.loop-left-init
loop-left-init c = read-holds _ _

pub returns-then-bytes-place : goal.returns-then-bytes-place
returns-then-bytes-place c = read-ends c.loop-left.invariant (omega arith) (omega arith)

pub overflow_cast-byte : goal.overflow_cast-byte
overflow_cast-byte c = omega (arith, c.type_inv.bytes c.loop-left.place)

pub overflow_mul-result : goal.overflow_mul-result
overflow_mul-result c = omega (
  arith,
  (let last_fits : ReadFits c.loop-left.weight (get_or c.args.bytes.now c.loop-left.place 0) = read_fits c.loop-left.invariant (omega arith) _
      (c.type_inv.bytes c.loop-left.place).fits in last_fits),
)

pub overflow_add-result : goal.overflow_add-result
overflow_add-result c = omega (
  arith,
  (let last_fits : ReadFits c.loop-left.weight (get_or c.args.bytes.now c.loop-left.place 0) = read_fits c.loop-left.invariant (omega arith) _
      (c.type_inv.bytes c.loop-left.place).fits in last_fits),
)

pub returns-then-byte-lt128 : goal.returns-then-byte-lt128
returns-then-byte-lt128 c =
    read-last c.loop-left.invariant (omega arith) (omega arith) (omega arith)

pub overflow_mul-sum : goal.overflow_mul-sum
overflow_mul-sum c = omega (
  arith,
  (let more-fits : ReadFits c.loop-left.weight (get_or c.args.bytes.now c.loop-left.place 0) = read_fits c.loop-left.invariant (omega arith) _
      (c.type_inv.bytes c.loop-left.place).fits in more-fits),
)

pub overflow_add-sum : goal.overflow_add-sum
overflow_add-sum c = omega (
  arith,
  (let more-fits : ReadFits c.loop-left.weight (get_or c.args.bytes.now c.loop-left.place 0) = read_fits c.loop-left.invariant (omega arith) _
      (c.type_inv.bytes c.loop-left.place).fits in more-fits),
)

pub overflow_mul-weight : goal.overflow_mul-weight
overflow_mul-weight c = omega (
  arith,
  (let more-fits : ReadFits c.loop-left.weight (get_or c.args.bytes.now c.loop-left.place 0) = read_fits c.loop-left.invariant (omega arith) _
      (c.type_inv.bytes c.loop-left.place).fits in more-fits),
)

pub loop-left-preserved : goal.loop-left-preserved
loop-left-preserved c =
    read_again c.loop-left.invariant (omega arith) (omega arith) (omega arith)
    (c.type_inv.bytes c.loop-left.place).fits

pub returns : goal.returns
returns c = read_none c.loop-left.invariant (omega arith)
