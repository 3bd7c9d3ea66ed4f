-- Document 01, "Row walk and programs": what `plan` writes for any input. Assumes nothing.
use Rattle.std.specs.Prelude.{ℕ, List, drop}
use Rattle.refusal.specs.declared.Refusal.TheVariants.{BadOrder}
use Rattle.refusal.specs.Checked.{Checked, accepted, refused, ◌>>=◌, map_accepted}
use Rattle.number.specs.Numbers.{read_number}
use Rattle.number.specs.declared.Reading.{Reading}
use Rattle.placement.specs.Placement.{Placement, placement_bytes}
use Rattle.placement.specs.declared.Order.{Order}
use Rattle.planner.specs.Planning.{plan, work_most, output_most}
use Rattle.report.specs.Programs.{or_refused_line}

-- one of the three numbers: those "that can't be read give 12 and the first bad one's index"
abbrev pub order_number : (index : ℕ) → Checked Reading → Checked Reading
order_number index (accepted number) = accepted number
order_number index (refused e) = refused (BadOrder index)

-- the order that is read, and the place of the pack after it
pub record OrderReading : Type 0 where
  pub order : Order
  pub at : ℕ

-- "`plan` reads s, k, b as numbers"
unfoldable pub read_order : (input : List ℕ) → Checked OrderReading
read_order input = do
  s ← order_number 0 (read_number input 0)
  k ← order_number 1 (read_number input s.next)
  b ← order_number 2 (read_number input k.next)
  accepted (record { order = record { s = s.value; k = k.value; b = b.value }; at = b.next })

-- "then a pack ..; places counted from the pack's first byte": planned with slices that no order needs more of
unfoldable pub plan_input : (input : List ℕ) → Checked Placement
plan_input input = do
  read ← read_order input
  plan (drop read.at input) read.order work_most output_most

-- "and writes the placement or the refused line"
unfoldable pub planned_reply : Checked Placement → List ℕ
planned_reply planned = or_refused_line (map_accepted placement_bytes planned)

-- what it writes
unfoldable pub plan_reply : (input : List ℕ) → List ℕ
plan_reply input = planned_reply (plan_input input)
