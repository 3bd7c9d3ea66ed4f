use mathlib.Core.Path.{sym, ◌∙◌, ap}
use Rattle.refusal.proofs.Answered.{passed-on}
use Rattle.number.specs.Numbers.{read_within}
use Rattle.number.proofs.Within.{was_read, was-refused}
use Rattle.layers.specs.Answers.{layers_read}
use Rattle.layers_reader.proofs.ReadLoop.{layers-hold, layers-done, layers-no-bound, layers-no-size, layers-fit, layers-again}
use Rattle.layers_reader.proofs.read_layers.Goals as goal

pub loop-x-init : goal.loop-x-init
loop-x-init c =
    layers-hold _ _ _ _ _

pub returns-in_err-bound : goal.returns-in_err-bound
returns-in_err-bound c =
    let no-bound = was-refused (read_within _ _ c.args.bytes.now c.loop-x.next) c.read_within.ensures c.in_err-bound.was in
    passed-on _ c.from_residual.ensures.1
    ∙ sym (ap layers_read (layers-no-bound _ _ _ _ _ _ _ _ _ c.loop-x.invariant c.loop-x-test.true no-bound))

pub returns-in_err-size : goal.returns-in_err-size
returns-in_err-size c =
    let bytes = c.args.bytes.now in
    let bound = was_read (read_within _ _ bytes c.loop-x.next) c.read_within.ensures c.in_ok-bound.was in
    let no-size = was-refused (read_within _ _ bytes _) c.read_within-in-loop-x.ensures c.in_err-size.was in
    passed-on _ c.from_residual-in_err-size.ensures.1
    ∙ sym
    (ap layers_read
    (layers-no-size _ _ _ _ _ _ _ _ _ c.loop-x.invariant c.loop-x-test.true bound c.least_size-least.ensures no-size))

pub overflow_sub-rest : goal.overflow_sub-rest
overflow_sub-rest c =
    let bytes = c.args.bytes.now in
    let bound = was_read (read_within _ _ bytes c.loop-x.next) c.read_within.ensures c.in_ok-bound.was in
    let size = was_read (read_within _ _ bytes _) c.read_within-in-loop-x.ensures c.in_ok-size.was in
    layers-fit _ _ _ _ _ _ _ _ _ c.loop-x.invariant c.loop-x-test.true bound c.least_size-least.ensures size

pub loop-x-preserved : goal.loop-x-preserved
loop-x-preserved c =
    let bytes = c.args.bytes.now in
    let bound = was_read (read_within _ _ bytes c.loop-x.next) c.read_within.ensures c.in_ok-bound.was in
    let size = was_read (read_within _ _ bytes _) c.read_within-in-loop-x.ensures c.in_ok-size.was in
    layers-again _ _ _ _ _ _ _ _ _ c.loop-x.invariant c.loop-x-test.true bound c.least_size-least.ensures size c.requires

pub returns : goal.returns
returns c =
    layers-done _ _ _ _ _ _ _ _ _ c.loop-x.invariant c.loop-x-test.false
