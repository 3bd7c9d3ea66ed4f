use mathlib.Core.Path.{refl, ◌∙◌}
use Prim.Native.Nat.{◌≤◌}
use lib.ListN.{length, length-append, length-set}
use lib.Dec.{eqb}
use Rattle.table_reader.proofs.Turns.{room-same}
use Rattle.rows_text_reader.proofs.Walking.{turn-start, turn-bad, turn-next, end_none, end-few, end-all}
use native.Mathlib.Omega.{arith}
use Rattle.std.proofs.Common.{rules, tests}
use Rattle.std.proofs.lemmas.Iterator.Consumers.{YieldsList-at}
use Rattle.std.proofs.lemmas.Iterator.Splits.{YieldsList-from_slice_split}
use Rattle.table_lines.proofs.Splitting.{line-at, lines-all, lines-count}
use Rattle.rows_text_reader.proofs.reader.read_text.Goals as goal

pub bounds-numbers-0 : goal.bounds-numbers-0
bounds-numbers-0 c = omega (arith, c.requires.for-numbers)

pub loop-bytes-init : goal.loop-bytes-init
loop-bytes-init c =
    (refl, refl, refl, turn-start c.args.text.now c.args.numbers.now c.args.rows.now c.args.lines.now c.requires refl (length-set c.args.numbers.now 0 7), refl)

pub overflow_add-line : goal.overflow_add-line
overflow_add-line c =
    let at =
    line-at c.args.text.now (YieldsList-at (cc) (YieldsList-from_slice_split {s = c.split-bytes-items.result} _ (λ b. eqb b 10) c.args.text.now c.split-bytes-items.ensures.rest c.split-bytes-items.ensures.done c.split-bytes-items.ensures.closure (λ x b q k. search (rules, tests))))
    c.loop-bytes.yielded _ c.loop-bytes.yielded_by c.loop-bytes.line c.loop-bytes.invariant.4 _ _ _ c.in-Some.is c.next.ensures.steps in
    let few : c.loop-bytes.line ≤ length c.args.text.now = omega (arith, at.more, lines-count c.args.text.now) in search (rules, few)

pub add_line-added-requires : goal.add_line-added-requires
add_line-added-requires c =
    record { kept = c.loop-bytes.invariant.3.kept; room = c.loop-bytes.invariant.3.room }

pub shape_of-numbers-in_default : goal.shape_of-numbers-in_default
shape_of-numbers-in_default c =
    c.numbers-1.given ∙ c.loop-bytes.invariant.0 ∙ length-set c.args.numbers.now 0 7

pub shape_of-rows-in_default : goal.shape_of-rows-in_default
shape_of-rows-in_default c =
    c.rows-1.given ∙ c.loop-bytes.invariant.1

pub shape_of-lines-in_default : goal.shape_of-lines-in_default
shape_of-lines-in_default c =
    c.lines-1.given ∙ c.loop-bytes.invariant.2

pub returns-in_default : goal.returns-in_default
returns-in_default c =
    let at =
    line-at c.args.text.now (YieldsList-at (cc) (YieldsList-from_slice_split {s = c.split-bytes-items.result} _ (λ b. eqb b 10) c.args.text.now c.split-bytes-items.ensures.rest c.split-bytes-items.ensures.done c.split-bytes-items.ensures.closure (λ x b q k. search (rules, tests))))
    c.loop-bytes.yielded _ c.loop-bytes.yielded_by c.loop-bytes.line c.loop-bytes.invariant.4 _ _ _ c.in-Some.is c.next.ensures.steps in
    turn-bad c.loop-bytes.invariant.3 at _ _ _ _ c.add_line-added.ensures c.in_default.is

pub loop-bytes-preserved : goal.loop-bytes-preserved
loop-bytes-preserved c =
    let at =
    line-at c.args.text.now (YieldsList-at (cc) (YieldsList-from_slice_split {s = c.split-bytes-items.result} _ (λ b. eqb b 10) c.args.text.now c.split-bytes-items.ensures.rest c.split-bytes-items.ensures.done c.split-bytes-items.ensures.closure (λ x b q k. search (rules, tests))))
    c.loop-bytes.yielded _ c.loop-bytes.yielded_by c.loop-bytes.line c.loop-bytes.invariant.4 _ _ _ c.in-Some.is c.next.ensures.steps in (
      c.numbers-1.given ∙ c.loop-bytes.invariant.0,
      c.rows-1.given ∙ c.loop-bytes.invariant.1,
      c.lines-1.given ∙ c.loop-bytes.invariant.2,
      turn-next c.loop-bytes.invariant.3 at _ _ _ _ c.add_line-added.ensures c.in-Ok.is
          (room-same c.loop-bytes.invariant.3.room c.numbers-1.given c.rows-1.given c.lines-1.given),
      rw length-append (omega (arith, c.loop-bytes.invariant.4)),
    )

pub shape_of-numbers-then-r-eq0 : goal.shape_of-numbers-then-r-eq0
shape_of-numbers-then-r-eq0 c =
    c.loop-bytes.invariant.0 ∙ length-set c.args.numbers.now 0 7

pub shape_of-rows-then-r-eq0 : goal.shape_of-rows-then-r-eq0
shape_of-rows-then-r-eq0 c = c.loop-bytes.invariant.1

pub shape_of-lines-then-r-eq0 : goal.shape_of-lines-then-r-eq0
shape_of-lines-then-r-eq0 c = c.loop-bytes.invariant.2

pub returns-then-r-eq0 : goal.returns-then-r-eq0
returns-then-r-eq0 c = end_none c.loop-bytes.invariant.3 (lines-all c.args.text.now (YieldsList-at (cc) (YieldsList-from_slice_split {s = c.split-bytes-items.result} _ (λ b. eqb b 10) c.args.text.now c.split-bytes-items.ensures.rest c.split-bytes-items.ensures.done c.split-bytes-items.ensures.closure (λ x b q k. search (rules, tests)))) c.loop-bytes.yielded _ c.loop-bytes.yielded_by c.loop-bytes.line c.loop-bytes.invariant.4 _ _ c.in-None.is c.next.ensures.steps) c.if-r-eq0.true

pub shape_of-numbers-then-blocks-eq0 : goal.shape_of-numbers-then-blocks-eq0
shape_of-numbers-then-blocks-eq0 c =
    c.loop-bytes.invariant.0 ∙ length-set c.args.numbers.now 0 7

pub shape_of-rows-then-blocks-eq0 : goal.shape_of-rows-then-blocks-eq0
shape_of-rows-then-blocks-eq0 c = c.loop-bytes.invariant.1

pub shape_of-lines-then-blocks-eq0 : goal.shape_of-lines-then-blocks-eq0
shape_of-lines-then-blocks-eq0 c = c.loop-bytes.invariant.2

pub returns-then-blocks-eq0 : goal.returns-then-blocks-eq0
returns-then-blocks-eq0 c = end-few c.loop-bytes.invariant.3 (lines-all c.args.text.now (YieldsList-at (cc) (YieldsList-from_slice_split {s = c.split-bytes-items.result} _ (λ b. eqb b 10) c.args.text.now c.split-bytes-items.ensures.rest c.split-bytes-items.ensures.done c.split-bytes-items.ensures.closure (λ x b q k. search (rules, tests)))) c.loop-bytes.yielded _ c.loop-bytes.yielded_by c.loop-bytes.line c.loop-bytes.invariant.4 _ _ c.in-None.is c.next.ensures.steps) c.if-r-eq0.false c.if-blocks-eq0.true

pub shape_of-numbers : goal.shape_of-numbers
shape_of-numbers c =
    c.loop-bytes.invariant.0 ∙ length-set c.args.numbers.now 0 7

pub shape_of-rows : goal.shape_of-rows
shape_of-rows c = c.loop-bytes.invariant.1

pub shape_of-lines : goal.shape_of-lines
shape_of-lines c = c.loop-bytes.invariant.2

pub returns : goal.returns
returns c = end-all c.loop-bytes.invariant.3 (lines-all c.args.text.now (YieldsList-at (cc) (YieldsList-from_slice_split {s = c.split-bytes-items.result} _ (λ b. eqb b 10) c.args.text.now c.split-bytes-items.ensures.rest c.split-bytes-items.ensures.done c.split-bytes-items.ensures.closure (λ x b q k. search (rules, tests)))) c.loop-bytes.yielded _ c.loop-bytes.yielded_by c.loop-bytes.line c.loop-bytes.invariant.4 _ _ c.in-None.is c.next.ensures.steps) c.if-r-eq0.false c.if-blocks-eq0.false
