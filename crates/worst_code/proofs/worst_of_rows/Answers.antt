-- `worst_code::worst_of_rows` meets its contract: 17, then 11, then the search. Assumes nothing.
use mathlib.Core.Path.{sym, ◌∙◌}
use Rattle.worst.proofs.Call.{many-refused, short-refused, set-written}
use Rattle.worst_code.proofs.worst_of_rows.Goals as goal

pub few_sets-requires : goal.few_sets-requires
few_sets-requires c =
    let p = c.requires in
    (p.k-most, p.n-most, p.b-least, p.b-most)

pub returns-then-not-few_sets : goal.returns-then-not-few_sets
returns-then-not-few_sets c =
    many-refused c.args.shape c.args.order c.args.rows.now c.args.out.now (sym c.few_sets.ensures ∙ c.if-not-few_sets.true)

pub returns-then-out-k : goal.returns-then-out-k
returns-then-out-k c =
    short-refused c.args.shape c.args.order c.args.rows.now c.args.out.now (sym c.few_sets.ensures ∙ c.if-not-few_sets.false) c.if-out-k.true

pub fewest_usable-requires : goal.fewest_usable-requires
fewest_usable-requires c = record { rows_asked = c.requires; k_in_bounds = c.if-out-k.false }

pub returns : goal.returns
returns c =
    set-written c.args.shape c.args.order c.args.rows.now c.args.out.now (sym c.few_sets.ensures ∙ c.if-not-few_sets.false) c.if-out-k.false
    c.fewest_usable.ensures
