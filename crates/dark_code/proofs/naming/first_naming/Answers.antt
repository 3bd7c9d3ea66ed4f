-- `dark_code::naming::first_naming` meets its contract: a row with a marked node names one out of service. Assumes nothing.
use mathlib.Core.Path.{◌∙◌, ap, sym}
use Rattle.packing.specs.Answers.{row_found}
use Rattle.dark_code.proofs.naming.Marks.{naming-by-marks, naming-none}
use Rattle.dark_code.proofs.naming.first_naming.Goals as goal

pub returns-then-count-eq0 : goal.returns-then-count-eq0
returns-then-count-eq0 c =
    ap row_found (sym (naming-none c.args.dark.count c.args.dark.nodes _ c.if-count-eq0.true))

pub returns : goal.returns
returns c =
    c.first_marked.ensures ∙ ap row_found (naming-by-marks c.mark_nodes-marks.result _ c.mark_nodes-marks.ensures _)
