-- What `operator` writes for one of two operators. Assumes nothing.
use Rattle.std.specs.Prelude.{ℕ, cond, List, get_or, ltb}
use Rattle.refusal.specs.declared.Refusal.{Refusal}
use Rattle.refusal.specs.declared.Refusal.TheVariants.{BadOrder, BadWish}
use Rattle.planner.specs.Planning.{work_most, output_most}
use Rattle.operators.specs.Operators.{plan_operator}
use Rattle.operators.specs.declared.SharedOrder.{SharedOrder}
use Rattle.replies.specs.Programs.{planned_reply}
use Rattle.replies.specs.Replying.{with_numbers}

-- "a pack, s, k, one operator's wish and the other's"
abbrev pub shared_of : (numbers : List ℕ) → SharedOrder
shared_of numbers =
    record { s = get_or numbers 0 0; k = get_or numbers 1 0; wish = get_or numbers 2 0; other = get_or numbers 3 0 }

unfoldable pub operator_text : SharedOrder → (pack : List ℕ) → List ℕ
operator_text order pack = planned_reply (plan_operator pack order work_most output_most)

-- s and k as in `plan`; a wish that can't be read is refused as one outside its limits
abbrev pub operator_bad : (index : ℕ) → Refusal
operator_bad index = cond (ltb index 2) (BadOrder index) BadWish

abbrev pub operator_reply : (arguments input : List ℕ) → List ℕ
operator_reply arguments input =
    with_numbers 4 operator_bad (λ numbers pack. operator_text (shared_of numbers) pack) arguments input
