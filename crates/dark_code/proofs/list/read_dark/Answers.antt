-- `dark_code::list::read_dark` meets its contract: each return is a case of `read_dark`, over what the reading of the count and of
-- the nodes ensures. Assumes nothing.
use mathlib.Core.Path.{sym, ◌∙◌, ap}
use Rattle.refusal.proofs.Answered.{passed-on}
use Rattle.number.specs.Numbers.{read_within}
use Rattle.number.proofs.Within.{was_read, was-refused, read-of-read_within}
use Rattle.layers.specs.Answers.{dark_read}
use Rattle.layers.proofs.Listing.{nodes_array-nil}
use Rattle.dark_code.proofs.list.NodesLoop.{dark-none, dark-no-count, dark-counted}
use native.Mathlib.Omega.{arith}
use Rattle.dark_code.proofs.list.read_dark.Goals as goal

pub returns-then-not-is_listed : goal.returns-then-not-is_listed
returns-then-not-is_listed c =
    rw nodes_array-nil (sym (ap dark_read (dark-none _ _ _ _ (sym c.is_listed.ensures ∙ c.if-not-is_listed.true))))

pub returns-in_err-count : goal.returns-in_err-count
returns-in_err-count c =
    let no-count = was-refused (read_within 0 _ _ _) c.read_within.ensures c.in_err-count.was in
    passed-on _ c.from_residual.ensures.1
    ∙ sym (ap dark_read (dark-no-count _ _ _ _ (sym c.is_listed.ensures ∙ c.if-not-is_listed.false) no-count))

pub read_nodes-requires : goal.read_nodes-requires
read_nodes-requires c =
    let p = c.requires in
    let count = was_read (read_within 0 _ _ _) c.read_within.ensures c.in_ok-count.was in
    (p.0, p.1, omega (arith, (read-of-read_within 0 _ _ _ count).2, p.1))

pub returns : goal.returns
returns c =
    let count = was_read (read_within 0 _ _ _) c.read_within.ensures c.in_ok-count.was in
    c.read_nodes.ensures
    ∙ sym (ap dark_read (dark-counted _ _ _ _ (sym c.is_listed.ensures ∙ c.if-not-is_listed.false) count))
