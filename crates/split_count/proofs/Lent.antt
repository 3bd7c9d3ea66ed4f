-- The line below a layer, lent from a slice that has the whole table. Assumes nothing.
use Prim.Native.Nat.{ℕ, ◌+◌, ◌*◌, ◌-◌, ◌≤◌, ◌<◌}
use native.Mathlib.Numerals.{add-one}
use native.Mathlib.Omega.{arith}
use mathlib.Core.Path.{◌≡◌, ap, ◌∙◌}
use mathlib.Core.List.{List}
use lib.ListN.{length}
use Rattle.layers.specs.declared.LayerHead.{LayerHead}
use Rattle.placement.specs.declared.Order.{Order}
use Rattle.placement.specs.declared.Rule.TheVariants.{NestedFloors}
use Rattle.split.specs.declared.Steps.{Steps}
use Rattle.split.specs.Splits.{last_least, best_count}
use Rattle.split.specs.Table.{sum_at, steps_of, step_loss, table_line}
use Rattle.split.specs.Working.{part, Tabled, Countable}
use Rattle.split.proofs.TableLines.{length-table_line, rising-table_line, best-table_line}
use Rattle.split.proofs.LineSteps.{last_least-steps}
use Rattle.split.proofs.LayerSteps.{loss_of-steps, steps-limits}
use Rattle.split.proofs.Filling.{line-end}

module _ {layers : List LayerHead} {order : Order} {work : List ℕ} (t : Tabled layers order work) {x : ℕ} (below : x < order.s) where
  abbrev w : ℕ
  w = order.b + 1

  abbrev from : ℕ
  from = x * w

  -- the line ends within the slice
  pub lent-within : from + w ≤ length work
  lent-within =
      let h = line-end order.s w x below in
      let g : order.s * w ≤ length work = rw (add-one order.b) t.fits in
      omega arith

  -- as it is lent
  abbrev lent : List ℕ
  lent = part from (from + w - from) work

  lent-eq : lent ≡ table_line layers order.s order.k w x
  lent-eq =
      let e : from + w - from ≡ w = omega arith in
      rw (e, add-one order.b) (t.lines x below)

  module _ {u : Steps} {left : ℕ} (e : u ≡ steps_of layers order.s order.k x) (few : left ≤ order.b) where
    pub countable-lent : Countable u lent left
    countable-lent =
        let n : length lent ≡ w = ap length lent-eq ∙ length-table_line layers order.s order.k w x in
        record {
          steps = rw e (steps-limits layers order x t.limits below);
          rising = rw lent-eq (rising-table_line layers order.s order.k w x);
          within = omega arith;
          small = let h = t.limits.b-le in omega arith;
        }

    -- the count is the definition's
    pub best-lent : last_least (sum_at (step_loss u) lent left) left ≡ best_count NestedFloors layers order.s order.k x left
    best-lent =
        let h = t.limits.b-le in
        rw (e, lent-eq)
        (last_least-steps _ (steps_of layers order.s order.k x) (loss_of-steps layers order.s order.k x below t.limits.s-le)
        (table_line layers order.s order.k w x) left (omega arith)
        ∙ best-table_line layers order.s order.k w x left (omega arith))
