-- `plan` with no argument is document 01's program. Assumes nothing.
use Prim.Native.Nat.{ℕ}
use mathlib.Core.Path.{◌≡◌, refl}
use mathlib.Core.List.{List, []}
use Rattle.refusal.specs.Checked.{Checked, accepted, refused}
use Rattle.number.specs.declared.Reading.{Reading}
use Rattle.number.specs.Numbers.{read_number}
use Rattle.text.specs.Numbers.{take_numbers, given}
use Rattle.replies.specs.Programs.{read_order, plan_input, planned_reply, plan_reply}
use Rattle.replies.specs.Replying.{with_numbers}
use Rattle.replies.specs.Plans.{plan_text, plan_program}

pub plan-as-before : (input : List ℕ) → plan_program [] input ≡ plan_reply input
unfolding plan_reply plan_input planned_reply read_order plan_text with_numbers given take_numbers
plan-as-before input = first (read_number input 0) refl
  where
    third : (s k : Reading) (o : Checked Reading) → read_number input 0 ≡ accepted s → read_number input s.next ≡ accepted k
        → read_number input k.next ≡ o → plan_program [] input ≡ plan_reply input
    third s k (accepted b) e₁ e₂ e₃ = rw (e₁, e₂, e₃)
    third s k (refused why) e₁ e₂ e₃ = rw (e₁, e₂, e₃)

    second : (s : Reading) (o : Checked Reading) → read_number input 0 ≡ accepted s → read_number input s.next ≡ o
        → plan_program [] input ≡ plan_reply input
    second s (accepted k) e₁ e₂ = third s k (read_number input k.next) e₁ e₂ refl
    second s (refused why) e₁ e₂ = rw (e₁, e₂)

    first : (o : Checked Reading) → read_number input 0 ≡ o → plan_program [] input ≡ plan_reply input
    first (accepted s) e₁ = second s (read_number input s.next) e₁ refl
    first (refused why) e₁ = rw e₁
