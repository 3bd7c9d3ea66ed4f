-- The s, k and b that a placement has. Assumes nothing.
use Rattle.std.specs.Prelude.{ℕ, ◌≡◌, List}
use Rattle.refusal.specs.Checked.{accepted}
use Rattle.placement.specs.Placement.{Placement, check_placement}
use Rattle.placement.specs.declared.Order.{Order}

-- where the placement is accepted, these are its numbers
abbrev pub OrderOf : (placement : List ℕ) → Order → Type 0
OrderOf placement order =
    (p : Placement) → check_placement placement ≡ accepted p → order ≡ record { s = p.s; k = p.k; b = p.b }
