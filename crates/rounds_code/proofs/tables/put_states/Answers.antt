use Prim.Native.Nat.{ℕ, ◌*◌, ◌%◌, ◌^◌, ◌≤◌}
use native.Mathlib.Omega.{arith}
use native.Mathlib.Nat.{zero-add, one-mul}
use mathlib.Core.Path.{◌≡◌, ◌∙◌, ap}
use lib.Dec.{lit<}
use lib.Pow.{shl_exact}
use Rattle.lists.proofs.Stores.{stored_to, stored-none, stored_next}
use Rattle.packing.specs.Rows.{rows_at}
use Rattle.packing.specs.Failures.{usable as usable_of}
use Rattle.packing.proofs.RowsAt.{length-rows_at}
use Rattle.rounds.specs.States.{down_in}
use Rattle.rounds.proofs.States.{states-few}
use Rattle.rounds.proofs.Number.{usable-most}
use Rattle.rounds_code.proofs.tables.put_states.Goals as goal

-- there are so many states of n nodes
states-are : (n : ℕ) → n ≤ 10 → (1 * 2 ^ n) % 2 ^ 64 ≡ 2 ^ n
states-are n h = shl_exact 1 n 64 (lit< tt) (omega arith) ∙ one-mul _

pub loop-state-init : goal.loop-state-init
loop-state-init c = stored-none 0 _ _

pub overflow_cast-table : goal.overflow_cast-table
overflow_cast-table c =
    let rows = rows_at c.args.r c.args.b c.args.rows.now in
    omega (
      arith,
      usable-most c.args.s rows (down_in c.loop-state.state),
      length-rows_at c.args.r c.args.b c.args.rows.now,
    )

pub bounds-table-state : goal.bounds-table-state
bounds-table-state c =
    omega (arith, states-are c.args.n c.requires.n_bound.0, states-few c.args.n c.requires.n_bound.0)

pub loop-state-preserved : goal.loop-state-preserved
loop-state-preserved c =
    let next = stored_next 0 _ (λ i. usable_of c.args.s (rows_at c.args.r c.args.b c.args.rows.now) (down_in i)) c.loop-state.state _ c.loop-state.invariant c.usable_in.ensures in
    rw zero-add at next

pub returns : goal.returns
returns c =
    let e : c.loop-state.state ≡ (1 * 2 ^ c.args.n) % 2 ^ 64 = omega arith in
    c.loop-state.invariant
    ∙ ap (stored_to 0 c.args.table.now (λ i. usable_of c.args.s (rows_at c.args.r c.args.b c.args.rows.now) (down_in i))) (e ∙ states-are c.args.n c.requires.n_bound.0)
