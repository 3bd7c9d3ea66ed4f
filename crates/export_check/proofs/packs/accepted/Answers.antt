-- `export_check::packs::accepted` meets its contract: the numbers, and the list after them. Assumes nothing.
use mathlib.Core.Path.{refl}
use Rattle.export_check.proofs.Values.{pack-put}
use Rattle.export_check.proofs.packs.accepted.Goals as goal

pub returns : goal.returns
returns c =
    record {
      answer-after = pack-put c.args.head c.args.l c.args.count c.args.nodes _ c.args.answer.now _ c.numbers_of-numbers.ensures c.put_two.ensures;
      returned = refl;
    }
