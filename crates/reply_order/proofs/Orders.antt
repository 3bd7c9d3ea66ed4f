-- The numbers of an accepted placement, from the answer of its check. Assumes nothing.
use Prim.Native.Nat.{ℕ}
use Rattle.std.specs.Prelude.{Ok, Err}
use mathlib.Core.Path.{◌≡◌, sym, ◌∙◌, ap}
use mathlib.Core.List.{List}
use Rattle.refusal.specs.declared.Refusal.{Refusal}
use Rattle.refusal.specs.Checked.{map_accepted}
use Rattle.refusal.proofs.Checked.{accepted-injective, refused-not-accepted}
use Rattle.placement.specs.Placement.{read_placement, check_placement}
use Rattle.placement.specs.Answers.{placement_checked}
use Rattle.placement.specs.declared.Order.{Order}
use Rattle.placement.specs.declared.PlacementHead.{PlacementHead}
use Rattle.placement.specs.declared.PlacementCheck.{PlacementCheck}
use Rattle.placement.proofs.Answered.{check-refused, check-accepted}
use Rattle.call_replies.specs.Orders.{OrderOf}

module _ (bytes : List ℕ) {check : PlacementCheck} (is : check ≡ placement_checked (read_placement bytes)) where
  pub order-refused : {why : Refusal} → check.answer ≡ Err why → (order : Order) → OrderOf bytes order
  unfolding check_placement
  order-refused a order p e =
      let none = check-refused (read_placement bytes) is a in
      absurd (refused-not-accepted (sym (ap (map_accepted (λ file. file.content)) none) ∙ e))

  pub order-accepted : {head : PlacementHead} → check.answer ≡ Ok head
      → OrderOf bytes (record { s = head.s; k = head.k; b = head.b })
  unfolding check_placement
  order-accepted {head} a p e =
      let o = check-accepted (read_placement bytes) is a in
      let same : o.file.content ≡ p =
      accepted-injective (sym (ap (map_accepted (λ file. file.content)) o.is-accepted) ∙ e) in
      rw (o.head-is, ← same)
