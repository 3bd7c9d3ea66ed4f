use mathlib.Core.Path.{sym, ap, ◌∙◌}
use mathlib.Core.Bool.{false}
use lib.ListN.{get_or}
use Rattle.lists.specs.Lists.{any}
use Rattle.lists.proofs.Arith.{run-end-le}
use Rattle.packing.specs.Answers.{row_found}
use Rattle.dark_code.proofs.naming.FirstFound.{found-from-start, found-at-end, found_here, found-further}
use native.Mathlib.Omega.{arith}
use borrow.Author.Rules.{rules}
use Rattle.dark_code.proofs.naming.marked_row.Goals as goal

pub loop-j-init : goal.loop-j-init
loop-j-init c =
    (search rules, omega arith, sym (found-from-start (any (λ v. get_or c.args.marks.now v false)) c.args.r c.args.c c.args.rows.now))

pub overflow_add-end : goal.overflow_add-end
overflow_add-end c = omega (arith, run-end-le c.args.r c.loop-j-test.true)

pub slice_bounds-names_marked-end : goal.slice_bounds-names_marked-end
slice_bounds-names_marked-end c = omega (arith, run-end-le c.args.r c.loop-j-test.true)

pub returns-then-names_marked : goal.returns-then-names_marked
returns-then-names_marked c =
    sym
    (ap row_found
    (c.loop-j.invariant.2
    ∙ found_here (any (λ v. get_or c.args.marks.now v false)) c.args.r c.args.c c.args.rows.now c.loop-j.j c.loop-j.at
    c.loop-j-test.true (sym c.names_marked.ensures ∙ c.if-names_marked.true)))

pub loop-j-preserved : goal.loop-j-preserved
loop-j-preserved c = (
  omega arith,
  omega arith,
  c.loop-j.invariant.2
      ∙ found-further (any (λ v. get_or c.args.marks.now v false)) c.args.r c.args.c c.args.rows.now c.loop-j.j c.loop-j.at
      c.loop-j-test.true (sym c.names_marked.ensures ∙ c.if-names_marked.false),
)

pub returns : goal.returns
returns c =
    sym
    (ap row_found
    (c.loop-j.invariant.2
    ∙ found-at-end (any (λ v. get_or c.args.marks.now v false)) c.args.r c.args.c c.args.rows.now c.loop-j.j c.loop-j.at c.loop-j-test.false))
