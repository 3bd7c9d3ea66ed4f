use Rattle.number_writer.proofs.numbers.Putting.{numbers_next}
use Rattle.number_writer.proofs.numbers.write_numbers.Goals as goal

pub loop-v-preserved : goal.loop-v-preserved
loop-v-preserved c =
    numbers_next c.loop-v.invariant c.loop-v-test.true c.requires.numbers_in_bounds c.put_number-at.ensures c.put_number-at.auto.out
