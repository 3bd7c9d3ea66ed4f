-- `export_answers::put_two` meets its contract: the second part goes after the first. Assumes nothing.
use mathlib.Core.Path.{refl}
use Rattle.exports.proofs.Parts.{both-put}
use Rattle.export_answers.proofs.put_two.Goals as goal

pub returns : goal.returns
returns c =
    both-put c.args.first.now c.args.second.now c.args.answer.now _ _ refl c.requires c.put.ensures _ c.put-2.ensures
