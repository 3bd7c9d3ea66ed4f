-- `vectors_test::calls::crowded_rows` is safe: the packing test is given rows in order. Assumes nothing.
use Prim.Native.Nat.{ℕ, ◌*◌, ◌≤◌, ◌<◌}
use Rattle.std.specs.Prelude.{None}
use native.Mathlib.Nat.{mul-le-mul}
use native.Mathlib.Omega.{arith}
use mathlib.Core.Path.{◌≡◌, sym, ◌∙◌}
use mathlib.Core.List.{List}
use lib.Dec.{T}
use Rattle.lists.specs.Lists.{All}
use Rattle.lists.proofs.Alls.{all-imp}
use Rattle.lists.proofs.Tests.{and_left}
use Rattle.packing.specs.Answers.{row_found}
use Rattle.packing.specs.Rows.{ascending, is_in_order, rows_at, first_bad}
use Rattle.packing.proofs.Found.{row_found-nothing}
use Rattle.packing.proofs.Test.{good-iff-in-order}
use borrow.Author.Rules.{rules}
use Rattle.vectors_test.proofs.calls.crowded_rows.Goals as goal

-- the rows' bytes are few
few : {c r x : ℕ} → (c ≤ 4_096) × (r ≤ 5) × (x < r) → c * r ≤ 20_480
few h = mul-le-mul h.0 h.1

-- rows of which none is bad ascend
ascend : (r c : ℕ) (s : List ℕ) → None ≡ row_found (first_bad 256 (rows_at r c s)) → All (λ row. T (ascending 0 row)) (rows_at r c s)
ascend r c s e =
    all-imp (λ row. T (is_in_order 256 row)) (λ row. T (ascending 0 row)) (λ row t. and_left (ascending 0 row) _ t) (rows_at r c s)
    ((good-iff-in-order 256 (rows_at r c s)).0 (row_found-nothing (first_bad 256 (rows_at r c s)) e))

pub overflow_mul-end : goal.overflow_mul-end
overflow_mul-end c = omega (arith, few c.requires)

pub first_bad-bad-requires : goal.first_bad-bad-requires
unfolding rows_at
first_bad-bad-requires c = record { r_in_bounds = search rules; start_le_c = search rules; all = tt }

pub first_crowded-requires : goal.first_crowded-requires
first_crowded-requires c =
    let bad = sym c.in-None.is ∙ c.first_bad-bad.ensures in
    record { limits = (c.requires.0, c.requires.1, c.requires.2, c.if-rows-end.false); order = ascend c.args.r c.args.c c.args.rows.now bad }
