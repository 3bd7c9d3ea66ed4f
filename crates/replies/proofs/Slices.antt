-- No order needs more of its slices than `plan` asks for, so with as much or more it plans the same. Assumes nothing.
use Prim.Native.Nat.{ℕ, ◌*◌, ◌≤◌, suc-le-suc}
use native.Mathlib.Omega.{arith}
use native.Mathlib.Nat.{mul-le-mul}
use mathlib.Core.Path.{◌≡◌, refl}
use mathlib.Core.List.{List}
use Rattle.refusal.specs.Checked.{accepted}
use Rattle.refusal.proofs.Checked.{bind_congr, map_accepted-accepted}
use Rattle.layers.specs.Layers.{heads_of}
use Rattle.pack.specs.Pack.{Pack, read_pack, check_pack}
use Rattle.pack.proofs.Accepted.{read-of-pack}
use Rattle.placement.specs.Placement.{OrderLimits}
use Rattle.placement.specs.declared.Order.{Order}
use Rattle.planner.specs.Planning.{work_needed, output_needed, work_most, output_most, check_order, check_blocks, plan_pack, plan}
use Rattle.planner.proofs.Checks.{order-within, work-good, output-good}

-- "r 2..5"
pub pack-r : (bytes : List ℕ) (pack : Pack) → check_pack bytes ≡ accepted pack → pack.r ≤ 5
unfolding check_pack
pack-r bytes pack e =
    let (file, read, same) = map_accepted-accepted (λ file. file.content) (read_pack bytes) e in
    let r-most = (read-of-pack bytes file.content file.first read).1.limits.base.r-most in
    rw (← same) r-most

module _ (n r : ℕ) (order : Order) (o : OrderLimits n r order) (r-most : r ≤ 5) where
  pub work-most : work_needed order.s order.b ≤ work_most
  work-most = let s-most : order.s ≤ 5 = omega (arith, o.s-most) in mul-le-mul s-most (suc-le-suc o.b-most)

  pub output-most : output_needed order.b r ≤ output_most
  output-most = let rows : order.b * r ≤ 4_096 * 5 = mul-le-mul o.b-most r-most in omega arith

pub plan-most : (bytes : List ℕ) (order : Order) (work output : ℕ) → work_most ≤ work → output_most ≤ output
    → plan bytes order work output ≡ plan bytes order work_most output_most
unfolding plan plan_pack
plan-most bytes order work output entries room =
    bind_congr (check_pack bytes) _ _ _ refl λ pack e₁.
    bind_congr (check_order pack.n pack.r order) _ _ _ refl λ u e₂.
    bind_congr (check_blocks (heads_of pack.layers) order.s) _ _ _ refl λ v e₃.
    let o = order-within pack.n pack.r order e₂ in
    let r-most = pack-r bytes pack e₁ in
    let w = work-most pack.n pack.r order o r-most in
    let b = output-most pack.n pack.r order o r-most in
    rw (
      work-good order work (omega (arith, w)),
      work-good order work_most w,
      output-good order.b pack.r output (omega (arith, b)),
      output-good order.b pack.r output_most b,
    )
