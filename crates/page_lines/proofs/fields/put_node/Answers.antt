-- `page_lines::fields::put_node` meets its contract: the four characters that stand in `fields`. Assumes nothing.
use mathlib.Core.Path.{◌∙◌, ap}
use lib.ListN.{length}
use lib.Seq.{sets}
use Rattle.page_lines.proofs.ByteFields.{length-byte_fields, field-part}
use native.Mathlib.Omega.{arith}
use Rattle.page_lines.proofs.fields.put_node.Goals as goal

pub slice_bounds-put_text-end : goal.slice_bounds-put_text-end
slice_bounds-put_text-end c = let n = ap length c.requires.1 ∙ length-byte_fields in omega arith

pub returns : goal.returns
returns c =
    c.put_text.ensures
    ∙ ap (λ text. sets c.args.out.now c.args.at text) (field-part c.args.fields.now c.args.node.0 c.from-from.result (omega arith) c.requires.1 c.from-from.ensures)
