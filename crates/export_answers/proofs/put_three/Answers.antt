-- `export_answers::put_three` meets its contract: two parts, and the third after them. Assumes nothing.
use mathlib.Core.Path.{sym, ◌∙◌}
use mathlib.Core.List.{◌++◌}
use lib.ListN.{length-append}
use Rattle.exports.proofs.Parts.{both-put, three-parts}
use Rattle.export_answers.proofs.put_three.Goals as goal

pub returns : goal.returns
returns c =
    both-put (c.args.first.now ++ c.args.second.now) c.args.third.now c.args.answer.now _ _ (sym (length-append c.args.first.now c.args.second.now))
    c.requires c.put_two.ensures _ c.put.ensures
    ∙ three-parts c.args.first.now c.args.second.now c.args.third.now c.args.answer.now
