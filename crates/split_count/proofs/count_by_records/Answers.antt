use Prim.Native.Nat.{◌+◌, ◌*◌, ◌-◌}
use native.Mathlib.Nat.{sub-zero}
use mathlib.Core.Path.{◌≡◌, ap, ◌∙◌}
use mathlib.Core.Logic.{inl, inr}
use Rattle.split.specs.Splits.{last_least}
use Rattle.split.specs.Table.{sum_at}
use Rattle.split_count.proofs.Scans.{scan-none, scan-more}
use native.Mathlib.Omega.{arith}
use Rattle.split_count.proofs.count_by_records.Goals as goal
use Rattle.split_count.proofs.count_by_records.Goals.{then-loss-least, else-loss-least}

pub loop-c-init : goal.loop-c-init
loop-c-init c =
    (omega arith, scan-none (sum_at (λ n. n * c.args.each) c.args.below.now c.args.left) (c.from-least.ensures ∙ rw (sub-zero c.args.left) (omega arith)))

pub loop-c-preserved : goal.loop-c-preserved
loop-c-preserved c =
    let e : c.loop-c.c + 1 - 1 ≡ c.loop-c.c = omega arith in (
      omega arith,
      scan-more (sum_at (λ n. n * c.args.each) c.args.below.now c.args.left) (rw e c.loop-c.invariant.1) (omega arith)
          (ap (λ m. (c.loop-c.c + 1) * c.args.each + m) c.from.ensures)
          (elim c.if-loss-least.branch [ then-loss-least w ↦ inl (w.if-loss-least.true, w.best-is, w.least-is) | else-loss-least w ↦ inr (omega arith, w.best-is, w.least-is) ]),
    )

pub returns : goal.returns
returns c =
    let e : c.loop-c.c ≡ c.args.left = omega arith in
    c.loop-c.invariant.1.last-least ∙ ap (last_least (sum_at (λ n. n * c.args.each) c.args.below.now c.args.left)) e
