-- `crowding_code::load::first_load` meets its contract: layer 0's rows are in order, so that their bytes can be counted. Assumes nothing.
use Prim.Native.Nat.{ℕ, ◌+◌, ◌*◌, ◌-◌, ◌≤◌, ◌<◌}
use native.Mathlib.Nat.{mul-le-mul_right}
use native.Mathlib.Omega.{arith}
use mathlib.Core.Path.{◌≡◌, ap, ◌∙◌}
use lib.ListN.{length, take, drop, get_or, length-drop}
use lib.Dec.{T, lit≤}
use lib.Seq.{get_or-drop}
use Rattle.lists.proofs.Writing.{take-drop-rest}
use Rattle.packing.specs.Rows.{ascending, rows_at}
use Rattle.packing.specs.Load.{most}
use Rattle.layers.specs.Layers.{sizes}
use Rattle.layers.specs.Asked.{Ascending}
use Rattle.crowding.proofs.Crowded.{rows-in-order}
use Rattle.crowding_code.proofs.AllRows.{all_rows-layers_at, first_rows}
use Rattle.crowding_code.proofs.load.first_load.Goals as goal

pub slice_bounds-most_load-count : goal.slice_bounds-most_load-count
slice_bounds-most_load-count c = omega (
  arith,
  (let first-here : let size = c.first_size-c.result in
      (c.args.at + size * c.args.r ≤ length c.args.bytes.now) × Ascending (rows_at c.args.r size (drop c.args.at c.args.bytes.now)) = let asked = c.requires in
      let heads = take c.args.layers c.args.heads in (
        omega (arith, asked.within, mul-le-mul_right c.args.r c.first_size-c.ensures.1),
        first_rows (λ row. T (ascending 0 row)) c.args.r c.first_size-c.result (sizes heads) (drop c.args.at c.args.bytes.now) c.first_size-c.ensures.1
            (rw (all_rows-layers_at c.args.r heads (drop c.args.at c.args.bytes.now)) at asked.ordered),
      ) in first-here),
)

pub slice_bounds-most_load-start : goal.slice_bounds-most_load-start
slice_bounds-most_load-start c = omega (
  arith,
  (let first-here : let size = c.first_size-c.result in
      (c.args.at + size * c.args.r ≤ length c.args.bytes.now) × Ascending (rows_at c.args.r size (drop c.args.at c.args.bytes.now)) = let asked = c.requires in
      let heads = take c.args.layers c.args.heads in (
        omega (arith, asked.within, mul-le-mul_right c.args.r c.first_size-c.ensures.1),
        first_rows (λ row. T (ascending 0 row)) c.args.r c.first_size-c.result (sizes heads) (drop c.args.at c.args.bytes.now) c.first_size-c.ensures.1
            (rw (all_rows-layers_at c.args.r heads (drop c.args.at c.args.bytes.now)) at asked.ordered),
      ) in first-here),
)

pub most_load-requires : goal.most_load-requires
most_load-requires c =
    let asked = c.requires in
    let size = c.first_size-c.result in
    let heads = take c.args.layers c.args.heads in
    let bytes : (i : ℕ) → get_or (drop c.args.at c.args.bytes.now) i 0 < 256 =
    λ i. rw (get_or-drop c.args.at c.args.bytes.now i 0) (c.type_inv.bytes (c.args.at + i)).fits in
    let part : take (length c.args.bytes.now - c.args.at) (drop c.args.at c.args.bytes.now) ≡ drop c.args.at c.args.bytes.now =
    take-drop-rest c.args.bytes.now c.args.at in
    let first : (c.args.at + size * c.args.r ≤ length c.args.bytes.now) × Ascending (rows_at c.args.r size (drop c.args.at c.args.bytes.now)) = (
      omega (arith, asked.within, mul-le-mul_right c.args.r c.first_size-c.ensures.1),
      first_rows (λ row. T (ascending 0 row)) c.args.r c.first_size-c.result (sizes heads) (drop c.args.at c.args.bytes.now) c.first_size-c.ensures.1
          (rw (all_rows-layers_at c.args.r heads (drop c.args.at c.args.bytes.now)) at asked.ordered),
    ) in
    record {
      c_bound = rw (part, length-drop c.args.at c.args.bytes.now)
          (omega (arith, c.first_size-c.ensures.1, asked.rows-most), asked.r-most, omega (arith, first));
      n_bound = lit≤ tt;
      all = rw part (rows-in-order c.args.r size (drop c.args.at c.args.bytes.now) bytes first.1);
    }

pub returns : goal.returns
returns c lt =
    (rw ((let part-here : take (length c.args.bytes.now - c.args.at) (drop c.args.at c.args.bytes.now) ≡ drop c.args.at c.args.bytes.now = take-drop-rest c.args.bytes.now c.args.at in part-here)) at c.most_load.ensures) ∙ ap (λ size. most 256 (rows_at c.args.r size (drop c.args.at c.args.bytes.now))) (c.first_size-c.ensures.0 lt)
