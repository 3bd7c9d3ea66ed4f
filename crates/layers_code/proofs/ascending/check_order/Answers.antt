-- `layers_code::ascending::check_order` meets its contract: where all rows are in order so are the first of them, and their load is
-- known. Assumes nothing.
use Prim.Native.Nat.{ℕ, ◌-◌, ◌≤◌}
use native.Mathlib.Nat.{mul-le-mul_right}
use native.Mathlib.Omega.{arith}
use mathlib.Core.Path.{◌≡◌, refl}
use mathlib.Core.Bool.{Bool, true, false, cond}
use mathlib.Core.List.{List}
use lib.Dec.{T}
use lib.ListN.{length, take, drop, length-drop}
use Rattle.lists.specs.Lists.{All}
use Rattle.lists.proofs.Writing.{take-drop-rest}
use Rattle.refusal.proofs.Checked.{verdict-good}
use Rattle.packing.specs.Rows.{is_in_order, rows_at}
use Rattle.rows_load.specs.Counts.{Ordered}
use Rattle.layers.specs.Layers.{check_ascending}
use Rattle.layers.specs.Answers.{site_of}
use Rattle.crowding_code.proofs.AllRows.{first_rows}
use Rattle.layers_code.proofs.RowsAnswers.{in_order}
use Rattle.layers_code.proofs.ascending.check_order.Goals as goal

-- the rows that were passed are some of the first, and in order
known : {n r c load : ℕ} {s : List ℕ} (good : Bool) → Ordered n r c s good load
    → (cond good c 0 ≤ c) × All (λ row. T (is_in_order n row)) (rows_at r (cond good c 0) s)
unfolding rows_at
known true first = (omega arith, first.in_order refl)
known false first = (omega arith, tt)

pub ordered_load-first-requires : goal.ordered_load-first-requires
ordered_load-first-requires c =
    rw ((let part-here : take (length c.args.bytes.now - c.args.at) (drop c.args.at c.args.bytes.now) ≡ drop c.args.at c.args.bytes.now = take-drop-rest c.args.bytes.now c.args.at in part-here), length-drop c.args.at c.args.bytes.now) (
      omega (arith, c.requires.c_le_rows.0, c.requires.c_le_rows.1),
      c.requires.c_le_rows.2,
      omega (arith, c.requires.r_in_bounds, mul-le-mul_right c.args.base.r c.requires.c_le_rows.0),
    )

pub check_ascending-verdict-requires : goal.check_ascending-verdict-requires
check_ascending-verdict-requires c =
    let rows = known c.ordered_load-first.result.good ((let pass-here : Ordered c.args.base.n c.args.base.r c.args.c (drop c.args.at c.args.bytes.now) c.ordered_load-first.result.good c.ordered_load-first.result.load = rw ((let part-here : take (length c.args.bytes.now - c.args.at) (drop c.args.at c.args.bytes.now) ≡ drop c.args.at c.args.bytes.now = take-drop-rest c.args.bytes.now c.args.at in part-here)) at c.ordered_load-first.ensures in pass-here)) in
    record { r_in_bounds = c.requires.r_in_bounds; start_le_rows = rw c.passed-start.ensures (omega (arith, rows.0, c.requires.c_le_rows.0)); all = rw c.passed-start.ensures rows.1 }

pub returns : goal.returns
returns c =
    let rows = rows_at c.args.base.r c.args.rows (drop c.args.at c.args.bytes.now) in record {
      verdict_value = c.check_ascending-verdict.ensures;
      load_value = λ good. (((let pass-here : Ordered c.args.base.n c.args.base.r c.args.c (drop c.args.at c.args.bytes.now) c.ordered_load-first.result.good c.ordered_load-first.result.load = rw ((let part-here : take (length c.args.bytes.now - c.args.at) (drop c.args.at c.args.bytes.now) ≡ drop c.args.at c.args.bytes.now = take-drop-rest c.args.bytes.now c.args.at in part-here)) at c.ordered_load-first.ensures in pass-here)).loaded
          (first_rows (λ row. T (is_in_order c.args.base.n row)) c.args.base.r c.args.c c.args.rows (drop c.args.at c.args.bytes.now) c.requires.c_le_rows.0
          (in_order (site_of c.args.base) c.args.at rows (verdict-good (check_ascending (site_of c.args.base) c.args.at rows) c.check_ascending-verdict.ensures good).1))
          ).1;
    }
