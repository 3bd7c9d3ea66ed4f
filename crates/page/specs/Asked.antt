-- What the inner functions of the page ask and give. Assumes nothing.
use Rattle.std.specs.Prelude.{ℕ, ◌+◌, ◌*◌, ◌%◌, ◌≤◌, ◌<◌, ◌≡◌, cond, length, leb, eqb}
use mathlib.Core.List.{List, ◌++◌, map, flatten}
use Rattle.lists.specs.Lists.{All, up_to}
use Rattle.refusal.specs.declared.Refusal.TheVariants.{ShortOutput}
use Rattle.refusal.specs.Checked.{Checked, accepted, ◌>>=◌, require}
use Rattle.packing.specs.Rows.{record_at}
use Rattle.layers.specs.declared.LayerHead.{LayerHead}
use Rattle.placement.specs.declared.PlacementHead.{PlacementHead}
use Rattle.page.specs.Field.{blank, digit}
use Rattle.page.specs.Page.{record_line, last_line, layer_of, page_length}

-- a field's character before the last one, from the tenths of the number: a blank where there are none
abbrev pub lead : (tenths : ℕ) → ℕ
lead tenths = cond (eqb tenths 0) blank (digit (tenths % 10))

-- the line of record i of a file whose first row starts at `first`
abbrev pub line_at : (bytes : List ℕ) (first r : ℕ) (layers : List LayerHead) (i : ℕ) → List ℕ
line_at bytes first r layers i = record_line i (layer_of 0 layers i) (record_at bytes first r i)

abbrev pub lines_at : (bytes : List ℕ) (first r b : ℕ) (layers : List LayerHead) → List ℕ
lines_at bytes first r b layers = flatten (map (line_at bytes first r layers) (up_to b))

-- the numbers of an accepted placement, and its rows in the bytes
pub record PageAsked (bytes : List ℕ) (head : PlacementHead) (layers : List LayerHead) : Type 0 where
  pub b-most : head.b ≤ 4_096
  pub figure-most : head.figure ≤ head.b
  pub five : length layers ≡ 5
  pub nodes : (i : ℕ) → i < head.b → All (λ v. v < 10_000) (record_at bytes head.first head.r i)
  pub rows : head.first + head.b * head.r ≤ length bytes

-- what is left to do once the placement is accepted
unfoldable pub page_from : (bytes : List ℕ) → PlacementHead → List LayerHead → (output : ℕ) → Checked (List ℕ)
page_from bytes head layers output = do
  _ ← require (leb (page_length head.b) output) (ShortOutput (page_length head.b))
  accepted (lines_at bytes head.first head.r head.b layers ++ last_line head.figure head.b)
