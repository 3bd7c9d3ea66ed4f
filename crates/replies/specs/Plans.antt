-- What `plan` writes for its arguments and its input. Assumes nothing.
use Rattle.std.specs.Prelude.{ℕ, List, get_or}
use Rattle.refusal.specs.declared.Refusal.TheVariants.{BadOrder}
use Rattle.placement.specs.declared.Order.{Order}
use Rattle.planner.specs.Planning.{plan, work_most, output_most}
use Rattle.replies.specs.Programs.{planned_reply}
use Rattle.replies.specs.Replying.{with_numbers}

-- the order: s, k, b
abbrev pub order_of : (numbers : List ℕ) → Order
order_of numbers = record { s = get_or numbers 0 0; k = get_or numbers 1 0; b = get_or numbers 2 0 }

-- "and writes the placement or the refused line", with slices that no order needs more of
unfoldable pub plan_text : Order → (pack : List ℕ) → List ℕ
plan_text order pack = planned_reply (plan pack order work_most output_most)

-- "three numbers that can't be read give 12 and the first bad one's index"
abbrev pub plan_program : (arguments input : List ℕ) → List ℕ
plan_program arguments input = with_numbers 3 BadOrder (λ numbers pack. plan_text (order_of numbers) pack) arguments input
