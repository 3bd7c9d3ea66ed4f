-- The check of the wishes: when it refuses, and what is planned where it does not. Assumes nothing.
use Prim.Native.Nat.{ℕ, ◌<◌}
use native.Mathlib.Omega.{arith}
use mathlib.Core.Path.{◌≡◌, refl}
use mathlib.Core.Bool.{Bool, true, false, and-eq-true_iff}
use mathlib.Core.List.{List}
use mathlib.Core.Logic.{◌⊎◌, inl, inr}
use lib.Dec.{leb}
use borrow.Author.Tests.{le-leb, lt-leb, leb-true}
use Rattle.refusal.specs.declared.Refusal.TheVariants.{BadWish}
use Rattle.refusal.specs.Checked.{refused}
use Rattle.planner.specs.Planning.{plan}
use Rattle.operators.specs.declared.SharedOrder.{SharedOrder}
use Rattle.operators.specs.Operators.{Wish, wish_taken, check_wish, granted_order, plan_operator}

pub wish-taken : (w : ℕ) → Wish w → wish_taken w ≡ true
wish-taken w h = rw (le-leb 1 w h.0, le-leb w 4_096 h.1)

pub taken-wish : (w : ℕ) → wish_taken w ≡ true → Wish w
taken-wish w e =
    let both = (and-eq-true_iff (leb 1 w) (leb w 4_096)).0 e in
    (leb-true 1 w both.0, leb-true w 4_096 both.1)

-- "if either wish is 0 or above 4,096"
pub wish-outside : (w : ℕ) → (w ≡ 0) ⊎ (4_096 < w) → wish_taken w ≡ false
wish-outside w (inl e) = rw e
wish-outside w (inr h) = rw (le-leb 1 w (omega arith), lt-leb w 4_096 h)

module _ (bytes : List ℕ) (order : SharedOrder) (work output : ℕ) where
  pub own-refused : wish_taken order.wish ≡ false → plan_operator bytes order work output ≡ refused BadWish
  unfolding plan_operator check_wish
  own-refused e = rw e

  pub other-refused : wish_taken order.other ≡ false → plan_operator bytes order work output ≡ refused BadWish
  unfolding plan_operator check_wish
  other-refused e = go (wish_taken order.wish) refl
    where
      go : (b : Bool) → wish_taken order.wish ≡ b → plan_operator bytes order work output ≡ refused BadWish
      go true t = rw (t, e)
      go false t = own-refused t

  -- where both are taken it is planning with the grant as b
  pub both-taken : wish_taken order.wish ≡ true → wish_taken order.other ≡ true
      → plan_operator bytes order work output ≡ plan bytes (granted_order order) work output
  unfolding plan_operator check_wish
  both-taken e f = rw (e, f)
