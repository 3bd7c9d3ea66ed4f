-- No order needs more of its slices than the programs lend, so with as much or more the calls answer the same. Assumes nothing.
use Prim.Native.Nat.{ℕ, ◌≤◌}
use native.Mathlib.Omega.{arith}
use mathlib.Core.Path.{◌≡◌, refl}
use mathlib.Core.List.{List}
use Rattle.refusal.proofs.Checked.{bind_congr}
use Rattle.pack.specs.Pack.{check_pack}
use Rattle.placement.specs.declared.Order.{Order}
use Rattle.planner.specs.Planning.{work_most, output_most, check_order}
use Rattle.planner.proofs.Checks.{order-within, work-good, output-good}
use Rattle.commit.specs.Asking.{ask_layers, ask}
use Rattle.commit.specs.Committing.{commit_pack, commit}
use Rattle.operators.specs.Operators.{granted_order, plan_operator}
use Rattle.operators.specs.declared.SharedOrder.{SharedOrder}
use Rattle.replies.proofs.Slices.{pack-r, work-most, output-most, plan-most}

module _ (bytes : List ℕ) (order : Order) where
  pub ask-most : (work : ℕ) → work_most ≤ work → ask bytes order work ≡ ask bytes order work_most
  unfolding ask ask_layers
  ask-most work entries =
      bind_congr (check_pack bytes) _ _ _ refl λ pack e₁.
      bind_congr (check_order pack.n pack.r order) _ _ _ refl λ u e₂.
      let o = order-within pack.n pack.r order e₂ in
      let w = work-most pack.n pack.r order o (pack-r bytes pack e₁) in
      rw (work-good order work (omega (arith, w)), work-good order work_most w)

  pub commit-most : (counts : List ℕ) (output : ℕ) → output_most ≤ output
      → commit bytes order counts output ≡ commit bytes order counts output_most
  unfolding commit commit_pack
  commit-most counts output room =
      bind_congr (check_pack bytes) _ _ _ refl λ pack e₁.
      bind_congr (check_order pack.n pack.r order) _ _ _ refl λ u e₂.
      let o = order-within pack.n pack.r order e₂ in
      let b = output-most pack.n pack.r order o (pack-r bytes pack e₁) in
      rw (output-good order.b pack.r output (omega (arith, b)), output-good order.b pack.r output_most b)

pub operator-most : (bytes : List ℕ) (order : SharedOrder) (work output : ℕ) → work_most ≤ work → output_most ≤ output
    → plan_operator bytes order work output ≡ plan_operator bytes order work_most output_most
unfolding plan_operator
operator-most bytes order work output entries room = rw (plan-most bytes (granted_order order) work output entries room)
