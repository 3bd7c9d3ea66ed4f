-- `page_code::write_accepted` meets its contract: too short an output is refused, and in any other stand the lines and the last
-- one. Assumes nothing.
use Prim.Native.Nat.{◌*◌}
use mathlib.Core.Path.{◌∙◌, ap}
use lib.Seq.{sets}
use Rattle.page.specs.Page.{last_line}
use Rattle.page.specs.Asked.{lines_at}
use Rattle.page.proofs.Joined.{sets-after}
use Rattle.page.proofs.Page.{page-refused, page-written, length-lines_at}
use native.Mathlib.Omega.{arith}
use Rattle.page_code.proofs.write_accepted.Goals as goal

pub returns-then-out-needed : goal.returns-then-out-needed
returns-then-out-needed c =
    page-refused c.args.bytes.now c.args.head c.args.layers c.args.out.now c.if-out-needed.true

pub returns : goal.returns
returns c =
    let all = lines_at c.args.bytes.now c.args.head.first c.args.head.r c.args.head.b c.args.layers in
    let last = last_line c.args.head.figure c.args.head.b in
    page-written c.args.bytes.now c.args.head c.args.layers c.args.out.now c.requires c.if-out-needed.false
    (c.put_last_line.ensures
    ∙ ap (λ out. sets out (27 * c.args.head.b) last) c.write_lines.ensures
    ∙ sets-after c.args.out.now 0 (27 * c.args.head.b) all last
    (omega (arith, length-lines_at c.args.bytes.now c.args.head c.args.layers c.args.out.now c.requires)))
