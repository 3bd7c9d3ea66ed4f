-- What choosing a layer and writing ask of the rows and the numbers, as the code has them. Assumes nothing.
use Rattle.std.specs.Prelude.{ℕ, ◌*◌, ◌≤◌, ◌≡◌, T, length}
use mathlib.Core.List.{List, flatten}
use Rattle.lists.specs.Lists.{All}
use Rattle.packing.specs.Rows.{ascending, rows_at}
use Rattle.layers.specs.Answers.{dark_of, dark_list, site_of}
use Rattle.layers.specs.declared.Base.{Base}
use Rattle.placement.specs.declared.Order.{Order}
use Rattle.certify.specs.Bare.{Bare, GoodBare}

-- c rows of r bytes that ascend
pub record RowsAsked (r c : ℕ) (bytes : List ℕ) : Type 0 where
  pub few : c ≤ 4_096
  pub r-most : r ≤ 5
  pub within : c * r ≤ length bytes
  pub ordered : All (λ row. T (ascending 0 row)) (rows_at r c bytes)

-- and s, k and b within their limits
pub record OrderAsked (r : ℕ) (order : Order) : Type 0 where
  pub s-least : 1 ≤ order.s
  pub s-most : order.s ≤ r
  pub k-least : order.s ≤ order.k
  pub k-most : order.k ≤ 255

-- the bare rows whose rows the bytes begin with
abbrev pub held_bare : Base → Order → List ℕ → Bare
held_bare base order bytes = record { base = site_of base; order = order; rows = rows_at base.r order.b bytes }

-- they are good, and the bytes have nothing else
pub record BareHeld (base : Base) (order : Order) (bytes : List ℕ) : Type 0 where
  pub good : GoodBare (held_bare base order bytes)
  pub array : base.dark ≡ dark_of (dark_list base.dark)
  pub whole : flatten (rows_at base.r order.b bytes) ≡ bytes
