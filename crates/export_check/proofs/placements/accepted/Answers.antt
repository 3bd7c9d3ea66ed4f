-- `export_check::placements::accepted` meets its contract: the numbers, the list, and the feeders where there are any. Assumes nothing.
use mathlib.Core.Path.{refl}
use Rattle.export_check.proofs.Values.{unfed-put, fed-put}
use Rattle.export_check.proofs.placements.accepted.Goals as goal

pub returns-then-number-eq0 : goal.returns-then-number-eq0
returns-then-number-eq0 c =
    record {
      answer-after = unfed-put c.args.head c.args.l c.args.count c.args.nodes _ c.args.answer.now _ c.args.table c.numbers_of-numbers.ensures c.if-number-eq0.true c.put_two.ensures;
      returned = refl;
    }

pub returns : goal.returns
returns c =
    record {
      answer-after = fed-put c.args.head c.args.l c.args.count c.args.nodes _ c.args.answer.now _ c.args.table c.numbers_of-numbers.ensures c.if-number-eq0.false c.put_fed.ensures;
      returned = refl;
    }
