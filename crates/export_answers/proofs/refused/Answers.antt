-- `export_answers::refused` meets its contract: the two numbers are the refusal's. Assumes nothing.
use Rattle.export_answers.proofs.refused.Goals as goal

pub returns : goal.returns
returns c =
    record {
      answer-after = rw (← c.number-number.ensures, ← c.place-place.ensures) c.put.ensures;
      returned = c.number-number.ensures;
    }
