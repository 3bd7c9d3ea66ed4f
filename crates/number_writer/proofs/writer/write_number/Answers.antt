use native.Mathlib.Omega.{arith}
use mathlib.Core.Path.{◌∙◌}
use lib.ListN.{length-set}
use Rattle.number.proofs.Writing.{answers-large, answers-short, answers-written}
use Rattle.number_writer.proofs.writer.WriteLoop.{write-holds, write-inside, write_again, write-last}
use Rattle.number_writer.proofs.writer.write_number.Goals as goal

pub returns-then-v-gt268435455 : goal.returns-then-v-gt268435455
returns-then-v-gt268435455 c = answers-large _ _ (omega arith)

pub returns-then-out-need : goal.returns-then-out-need
returns-then-out-need c = answers-short _ _ _ c.form_length-need.ensures (omega arith) (omega arith)

pub loop-rest-init : goal.loop-rest-init
loop-rest-init c = write-holds _ _ (omega arith) (omega arith)

pub bounds-out-i : goal.bounds-out-i
bounds-out-i c = write-inside c.loop-rest.invariant

pub overflow_add-i : goal.overflow_add-i
overflow_add-i c =
    omega (
      arith,
      write-inside c.loop-rest.invariant,
      c.loop-rest.invariant.same_length,
      c.well_formed.0.0,
    )

pub loop-rest-preserved : goal.loop-rest-preserved
loop-rest-preserved c = write_again c.loop-rest.invariant (omega arith)

pub bounds-out-i-2 : goal.bounds-out-i-2
bounds-out-i-2 c = write-inside c.loop-rest.invariant

pub shape_of-out : goal.shape_of-out
shape_of-out c = length-set c.loop-rest.out _ _ ∙ c.loop-rest.invariant.same_length

pub returns : goal.returns
returns c =
    answers-written _ _ _ c.form_length-need.ensures (omega arith) _
    (omega arith) (write-last c.loop-rest.invariant (omega arith))
