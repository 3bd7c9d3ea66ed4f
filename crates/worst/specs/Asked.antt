-- What the call asks and gives once the placement is accepted: of the rows in bytes, whatever can fail in them. Assumes nothing.
use Rattle.std.specs.Prelude.{ℕ, ◌*◌, ◌≤◌, ◌<◌, ◌≡◌, List, length, T, leb}
use Rattle.lists.specs.Lists.{All, over_start}
use Rattle.refusal.specs.declared.Refusal.TheVariants.{ShortOutput, TooManySets}
use Rattle.refusal.specs.Checked.{Checked, accepted, ◌>>=◌, require}
use Rattle.packing.specs.Rows.{distinct, rows_at}
use Rattle.worst.specs.declared.Shape.{Shape}
use Rattle.placement.specs.declared.Order.{Order}
use Rattle.placement.specs.declared.FeederTable.{FeederTable}
use Rattle.placement.specs.Answers.{rows_by_table}
use Rattle.worst.specs.Worst.{Worst, worst_over, few_sets}

-- b rows of r bytes, no row with a byte twice, and numbers within limits
pub record RowsAsked (shape : Shape) (order : Order) (rows : List ℕ) : Type 0 where
  pub whole : length rows ≡ order.b * shape.r
  pub r-least : 1 ≤ shape.r
  pub r-most : shape.r ≤ 5
  pub n-most : shape.n ≤ 255
  pub s-least : 1 ≤ order.s
  pub k-least : 1 ≤ order.k
  pub k-most : order.k ≤ shape.n
  pub b-least : 1 ≤ order.b
  pub b-most : order.b ≤ 4_096
  pub apart : All (λ row. T (distinct row)) (rows_at shape.r order.b rows)

-- (n) "exact count .. read[s] feeders for nodes, g for n": rows of nodes below 255 whose rows of feeders are such rows
pub record FeedersAsked (table : FeederTable) (r : ℕ) (order : Order) (rows : List ℕ) : Type 0 where
  pub below : All (λ v. v < 255) rows
  pub entries : length table.each ≡ 255
  pub inside : length rows ≡ order.b * r
  pub asked : RowsAsked (record { n = table.number; r = r }) order (rows_by_table table.each r order.b rows)

-- the fewest usable records and the first such set of these rows
abbrev pub worst_rows : Shape → Order → (rows : List ℕ) → Worst
worst_rows shape order rows = worst_over shape.n order.s order.k order.b (rows_at shape.r order.b rows)

-- where the output has room for the set: the number, and the set at the output's start
pub record RowsDone (shape : Shape) (order : Order) (rows out out-left : List ℕ) (number : ℕ) : Type 0 where
  pub number_is : number ≡ (worst_rows shape order rows).fewest
  pub output-after : out-left ≡ over_start (worst_rows shape order rows).set out

-- what is left to do once the placement is accepted
unfoldable pub worst_from : Shape → Order → (rows : List ℕ) (output : ℕ) → Checked Worst
worst_from shape order rows output = do
  _ ← require (few_sets shape.n order.k order.b) TooManySets
  _ ← require (leb order.k output) (ShortOutput order.k)
  accepted (worst_rows shape order rows)
