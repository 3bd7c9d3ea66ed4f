use Prim.Native.Nat.{◌+◌, ◌*◌, ◌-◌, ◌/◌, ◌≤◌, min}
use native.Mathlib.Omega.{arith}
use mathlib.Core.Path.{◌≡◌, sym, ◌∙◌, ap}
use lib.Dec.{leb}
use Rattle.binomial.specs.Choose.{choose}
use Rattle.binomial.proofs.Laws.{choose-zero}
use Rattle.worst.proofs.Binomials.{choose-smaller, product-step, past-limit, product-fits, total-fits}
use Rattle.worst_code.proofs.limit.few_sets.Goals as goal

pub overflow_sub-n : goal.overflow_sub-n
overflow_sub-n c = omega (arith, c.requires.0)

pub loop-i-init : goal.loop-i-init
loop-i-init c = (sym (choose-zero c.args.n), omega arith)

pub overflow_sub-sets : goal.overflow_sub-sets
overflow_sub-sets c = omega (arith, (let below-here : c.loop-i.i + 1 ≤ c.args.n = omega (arith, c.min-end.ensures, c.loop-i-test.true, c.requires.0) in below-here))

pub overflow_mul-sets : goal.overflow_mul-sets
overflow_mul-sets c =
    omega (arith, product-fits c.loop-i.sets c.args.n c.loop-i.i c.loop-i.invariant.1 c.requires.1)

pub returns-then-sets-gt-MOST_SETS : goal.returns-then-sets-gt-MOST_SETS
returns-then-sets-gt-MOST_SETS c =
    sym
    (past-limit c.args.n (c.loop-i.i + 1) c.args.k c.args.b c.requires.0 (omega (arith, c.min-end.ensures, c.loop-i-test.true)) c.requires.2 ((let next-here : let n = c.args.n in
    c.loop-i.sets * (n - c.loop-i.i) / (c.loop-i.i + 1) ≡ choose n (c.loop-i.i + 1) = product-step c.args.n c.loop-i.i (omega (arith, (let below-here : c.loop-i.i + 1 ≤ c.args.n = omega (arith, c.min-end.ensures, c.loop-i-test.true, c.requires.0) in below-here))) c.loop-i.invariant.0 in next-here))
    c.if-sets-gt-MOST_SETS.true)

pub loop-i-preserved : goal.loop-i-preserved
loop-i-preserved c = (
  (let next-here : let n = c.args.n in
      c.loop-i.sets * (n - c.loop-i.i) / (c.loop-i.i + 1) ≡ choose n (c.loop-i.i + 1) = product-step c.args.n c.loop-i.i (omega (arith, (let below-here : c.loop-i.i + 1 ≤ c.args.n = omega (arith, c.min-end.ensures, c.loop-i-test.true, c.requires.0) in below-here))) c.loop-i.invariant.0 in next-here),
  omega (arith, c.if-sets-gt-MOST_SETS.false),
)

pub overflow_mul-result : goal.overflow_mul-result
overflow_mul-result c =
    omega (arith, total-fits c.loop-i.sets c.args.b c.loop-i.invariant.1 c.requires.3)

pub returns : goal.returns
returns c =
    let n = c.args.n in
    let k = c.args.k in
    let all : c.loop-i.i ≡ min k (n - k) = omega (arith, c.min-end.ensures, c.loop-i.auto.i-end, c.loop-i-test.false) in
    let sets : c.loop-i.sets ≡ choose n k = c.loop-i.invariant.0 ∙ ap (choose n) all ∙ sym (choose-smaller n k c.requires.0) in
    ap (λ m. leb (m * c.args.b) 16_777_216) sets
