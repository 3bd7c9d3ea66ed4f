-- `page_lines::lines::put_record_line` meets its contract: its parts make the line. Assumes nothing.
use Prim.Native.Nat.{◌+◌}
use native.Mathlib.Omega.{arith}
use mathlib.Core.Path.{◌∙◌}
use lib.ListN.{set, length-set}
use Rattle.page.proofs.Writing.{record-stored}
use Rattle.page_lines.proofs.lines.put_record_line.Goals as goal

pub bounds-out-at-2 : goal.bounds-out-at-2
bounds-out-at-2 c = simp length-set (omega (arith, c.put_record.auto.out, c.requires.2))

pub put_nodes-requires : goal.put_nodes-requires
put_nodes-requires c =
    (simp length-set (omega (arith, c.put_record.auto.out, c.requires.2)), c.requires.3, c.requires.4)

pub bounds-out-at-3 : goal.bounds-out-at-3
bounds-out-at-3 c =
    let o = c.put_record.new.out in
    let long = length-set (set o (c.args.at + 4) 32) (c.args.at + 5) (48 + c.args.layer) ∙ length-set o (c.args.at + 4) 32 in
    omega (arith, c.put_nodes.auto.out, long, c.put_record.auto.out, c.requires.2)

pub shape_of-out : goal.shape_of-out
shape_of-out c =
    let o = c.put_record.new.out in
    length-set c.put_nodes.new.out _ _
    ∙ c.put_nodes.auto.out
    ∙ length-set (set o (c.args.at + 4) 32) (c.args.at + 5) (48 + c.args.layer)
    ∙ length-set o (c.args.at + 4) 32
    ∙ c.put_record.auto.out

pub returns : goal.returns
returns c =
    record-stored c.args.out.now c.args.at c.args.number.0 c.args.layer c.args.row.now c.requires.0 c.requires.3 c.put_record.ensures
    c.put_nodes.ensures
