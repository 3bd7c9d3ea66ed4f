-- Request (b): planning from packs that differ only in padding gives the same placement, or refusals with the same number.
-- Assumes nothing.
use Prim.Native.Nat.{ℕ, ◌+◌, ◌*◌, ◌≤◌}
use mathlib.Core.Path.{◌≡◌, ap}
use mathlib.Core.List.{List}
use lib.ListN.{length, get_or}
use Rattle.refusal.specs.Agree.{Agree}
use Rattle.refusal.proofs.Agree.{agree-bind, agree_same}
use Rattle.layers.specs.Layers.{list_size}
use Rattle.layers.proofs.Padding.{Padded}
use Rattle.pack.proofs.Padding.{check_pack-padded}
use Rattle.placement.specs.declared.Order.{Order}
use Rattle.planner.specs.Planning.{plan_pack, plan}

pub plan-padded : (vs s s' : List ℕ) → length vs ≤ 3 + list_size vs + 2 * get_or vs 2 0 → Padded vs s s' 0 0
    → (order : Order) (work output : ℕ)
    → Agree (λ placement placement'. placement ≡ placement') (plan s order work output) (plan s' order work output)
unfolding plan
plan-padded vs s s' most p order work output =
    agree-bind _ _ (check_pack-padded vs s s' most p) λ pack pack' same.
    agree_same (ap (λ pack. plan_pack pack order work output) same)
