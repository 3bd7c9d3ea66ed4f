use native.Mathlib.Omega.{arith}
use mathlib.Core.Path.{sym, ap, ◌∙◌}
use Rattle.refusal.specs.Checked.{verdict}
use Rattle.commit.proofs.Counting.{counted_none, counted-more, counted-unplaced, counted_next, counted-less, counted-all}
use Rattle.commit_code.proofs.counts.check_counts.Goals as goal

pub loop-x-init : goal.loop-x-init
loop-x-init c = counted_none c.args.layers c.args.s c.args.b c.args.counts

pub returns-then-left-c : goal.returns-then-left-c
returns-then-left-c c = sym (ap verdict (counted-more _ _ _ _ c.loop-x.invariant c.if-left-c.true))

pub returns-then-not-layer_takes : goal.returns-then-not-layer_takes
returns-then-not-layer_takes c =
    sym (ap verdict (counted-unplaced _ _ _ _ c.loop-x.invariant (sym c.layer_takes.ensures ∙ c.if-not-layer_takes.true)))

pub loop-x-preserved : goal.loop-x-preserved
loop-x-preserved c =
    counted_next _ _ _ _ c.loop-x.invariant c.if-left-c.false (sym c.layer_takes.ensures ∙ c.if-not-layer_takes.false)

pub returns-then-left-gt0 : goal.returns-then-left-gt0
returns-then-left-gt0 c =
    sym (ap verdict (counted-less _ _ _ _ c.loop-x.invariant (omega arith) (omega arith)))

pub returns : goal.returns
returns c =
    sym (ap verdict (counted-all _ _ _ _ c.loop-x.invariant (omega arith) c.if-left-gt0.false))
