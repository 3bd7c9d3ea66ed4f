-- `certify_reader::order::read_order` meets its contract: each return is a case of `read_order`, over what the readings of the
-- numbers ensure. Assumes nothing.
use Prim.Native.Nat.{◌-◌}
use mathlib.Core.Path.{sym, ◌∙◌, ap}
use Rattle.refusal.proofs.Answered.{passed-on}
use Rattle.number.specs.Numbers.{read_within}
use Rattle.number.proofs.Within.{was_read, was-refused}
use Rattle.layers.specs.Answers.{site_of}
use Rattle.certify.specs.Answers.{order_read}
use Rattle.certify_reader.proofs.order.Ordered.{no-s, no-k, no-b, all_read}
use Rattle.certify_reader.proofs.order.read_order.Goals as goal

pub returns-in_err-s : goal.returns-in_err-s
returns-in_err-s c =
    let a = c.args in
    let none = was-refused (read_within 1 a.base.r a.bytes.now a.at) c.read_within.ensures c.in_err-s.was in
    passed-on _ c.from_residual.ensures.1 ∙ sym (ap order_read (no-s (site_of a.base) a.bytes.now a.at none))

pub returns-in_err-k : goal.returns-in_err-k
returns-in_err-k c =
    let a = c.args in
    let s = was_read _ c.read_within.ensures c.in_ok-s.was in
    let none = was-refused (read_within _ (a.base.n - 1) a.bytes.now _) c.read_within-2.ensures c.in_err-k.was in
    passed-on _ c.from_residual-in_err-k.ensures.1 ∙ sym (ap order_read (no-k (site_of a.base) a.bytes.now a.at s none))

pub returns-in_err-b : goal.returns-in_err-b
returns-in_err-b c =
    let a = c.args in
    let s = was_read _ c.read_within.ensures c.in_ok-s.was in
    let k = was_read _ c.read_within-2.ensures c.in_ok-k.was in
    let none = was-refused (read_within 1 4_096 a.bytes.now _) c.read_within-3.ensures c.in_err-b.was in
    passed-on _ c.from_residual-in_err-b.ensures.1 ∙ sym (ap order_read (no-b (site_of a.base) a.bytes.now a.at s k none))

pub returns : goal.returns
returns c =
    let a = c.args in
    let s = was_read _ c.read_within.ensures c.in_ok-s.was in
    let k = was_read _ c.read_within-2.ensures c.in_ok-k.was in
    let b = was_read (read_within 1 4_096 a.bytes.now _) c.read_within-3.ensures c.in_ok-b.was in
    sym (ap order_read (all_read (site_of a.base) a.bytes.now a.at s k b))
