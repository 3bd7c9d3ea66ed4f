-- `rounds_code::tables::put_states` meets its contract. The loop's invariant: the usable records of the states before `state` are
-- stored. Assumes nothing.
use mathlib.Core.Path.{◌≡◌}
use Rattle.lists.proofs.Stores.{stored_to}
use Rattle.packing.specs.Rows.{rows_at}
use Rattle.packing.specs.Failures.{usable as usable_of}
use Rattle.rounds.specs.States.{down_in}
use Rattle.rounds_code.proofs.tables.put_states.Given as goal

abbrev pub invariant-loop-state : goal.invariant-loop-state
invariant-loop-state l =
    l.table ≡ stored_to 0 l.initial.table (λ i. usable_of l.s (rows_at l.r l.b l.rows) (down_in i)) l.state
