-- What telling a check asks of it: its lists fit the answer slice. Every check's answer does. Assumes nothing.
use Rattle.std.specs.Prelude.{◌≤◌, ◌≡◌, Ok}
use Rattle.placement.specs.declared.PlacementHead.{PlacementHead}
use Rattle.placement.specs.declared.PlacementCheck.{PlacementCheck}

pub record CheckFits (check : PlacementCheck) : Type 0 where
  pub few : check.dark.count ≤ 255
  pub nodes : (head : PlacementHead) → check.answer ≡ Ok head → head.n ≤ 255
