-- Document 02, (g): "A bus operator on the same cabinets". What an operator is granted, and the call that plans for it. Assumes
-- nothing.
use Rattle.std.specs.Prelude.{ℕ, ◌-◌, min, max, ◌≤◌, Bool, ◌&&◌, List, leb}
use Rattle.refusal.specs.declared.Refusal.TheVariants.{BadWish}
use Rattle.refusal.specs.Checked.{Checked, ◌>>=◌, require}
use Rattle.placement.specs.Placement.{Placement}
use Rattle.placement.specs.declared.Order.{Order}
use Rattle.planner.specs.Planning.{plan}
use Rattle.operators.specs.declared.SharedOrder.{SharedOrder}

-- "The two share 4,096 records. An operator who wants w while the other wants v is granted the smaller of w and the larger of
-- 2,048 and 4,096 - v."
unfoldable pub grant : (w v : ℕ) → ℕ
grant w v = min w (max 2_048 (4_096 - v))

-- "if either wish is 0 or above 4,096": a wish that is neither
abbrev pub Wish : (w : ℕ) → Type 0
Wish w = (1 ≤ w) × (w ≤ 4_096)

-- the same as a test
abbrev pub wish_taken : (w : ℕ) → Bool
wish_taken w = leb 1 w && leb w 4_096

-- "It refuses with 14"
unfoldable pub check_wish : (w : ℕ) → Checked Unit
check_wish w = require (wish_taken w) BadWish

-- what is planned: "that operator alone .. with the grant as b"
abbrev pub granted_order : SharedOrder → Order
granted_order order = record { s = order.s; k = order.k; b = grant order.wish order.other }

-- "A call takes a pack, s, k, one operator's wish and the other's, and plans that operator alone, from block 0, with the grant
-- as b, answer and refusals as in planning"; 14 "before the pack is checked"
unfoldable pub plan_operator : (bytes : List ℕ) → SharedOrder → (work output : ℕ) → Checked Placement
plan_operator bytes order work output = do
  _ ← check_wish order.wish
  _ ← check_wish order.other
  plan bytes (granted_order order) work output
