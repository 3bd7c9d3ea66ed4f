-- What the functions that check a placement's rows ask and give. Assumes nothing.
use Rattle.std.specs.Prelude.{ℕ, ◌+◌, ◌*◌, ◌≤◌, ◌<◌, ◌≡◌, List, ◌++◌, length, take, drop}
use Rattle.std.proofs.Math.Option.{some}
use Rattle.lists.specs.Lists.{All}
use Rattle.refusal.specs.declared.Refusal.TheVariants.{SharedFeeder}
use Rattle.refusal.specs.Checked.{Checked, ◌>>=◌}
use Rattle.packing.specs.Rows.{Row, first_bad}
use Rattle.layers.specs.Layers.{Layer, Site, sizes, all_rows, layers_at, refuse_row, check_ascending, check_service, check_packings}
use Rattle.layers.specs.Answers.{DarkFits}
use Rattle.layers.specs.declared.Base.{Base}
use Rattle.layers.specs.declared.LayerHead.{LayerHead}
use Rattle.placement.specs.Feeders.{Feeders, FeederLimits, unit_layers, check_apart}
use Rattle.placement.specs.Answers.{table_of, rows_by_table}
use Rattle.placement.specs.declared.FeederTable.{FeederTable}
use Rattle.placement.specs.declared.Terms.{Terms}

-- few rows, which start after at most 1,092 bytes of numbers
pub record RowsAsked (r layers : ℕ) (heads : List LayerHead) (at : ℕ) : Type 0 where
  pub few : layers ≤ r
  pub r-most : r ≤ 5
  pub rows-most : sizes (take layers heads) ≤ 4_096
  pub start-most : at ≤ 1_092

-- what the head says
pub record RecordsAsked (base : Base) (terms : Terms) (heads : List LayerHead) (s : List ℕ) (at : ℕ) : Type 0 where
  pub rows : RowsAsked base.r terms.s heads at
  pub inside : at ≤ length s
  pub dark : DarkFits base.dark
  pub k-most : terms.k < base.n
  pub r-nodes : base.r ≤ base.n
  pub n-most : base.n ≤ 255

-- the code's table of feeders within their limits
pub record TableFits (n r k : ℕ) (table : FeederTable) : Type 0 where
  pub feeders : Feeders
  pub is : table ≡ table_of (some feeders)
  pub limits : FeederLimits n r k feeders

-- the same, as feeders: 0 for a node past the last
abbrev pub table_feeders : FeederTable → Feeders
table_feeders table = record { number = table.number; each = table.each }

-- rows in order, and the feeders of their nodes
pub record FeedersAsked (r layers : ℕ) (heads : List LayerHead) (table : FeederTable) (s : List ℕ) (at : ℕ) : Type 0 where
  pub rows : RowsAsked r layers heads at
  pub inside : at + sizes (take layers heads) * r ≤ length s
  pub n : ℕ
  pub k : ℕ
  pub n-most : n ≤ 255
  pub fits : TableFits n r k table
  pub are : All (Row n r) (all_rows (layers_at r (take layers heads) (drop at s)))

-- rows within the bytes, and the feeders of n nodes
pub record FedAsked (base : Base) (layers : ℕ) (heads : List LayerHead) (table : FeederTable) (s : List ℕ) (at : ℕ) : Type 0 where
  pub rows : RowsAsked base.r layers heads at
  pub inside : at + sizes (take layers heads) * base.r ≤ length s
  pub dark : DarkFits base.dark
  pub k : ℕ
  pub n-most : base.n ≤ 255
  pub fits : TableFits base.n base.r k table

-- the rows of feeders, put where the rows stand
pub record FeedersPut (bytes : List ℕ) (at r rows : ℕ) (each before fed : List ℕ) : Type 0 where
  pub after : List ℕ
  pub stands : drop at fed ≡ rows_by_table each r rows (drop at bytes) ++ after
  pub long : length fed ≡ length before

-- 21 and 7 over rows of feeders, each in order but for a feeder that comes twice
unfoldable pub units_checked : (number r at : ℕ) → List Layer → Checked Unit
units_checked number r at layers = do
  _ ← refuse_row SharedFeeder r at (first_bad number (all_rows layers))
  check_packings r at layers

-- 21, 7
unfoldable pub feeders_checked : (r at : ℕ) → Feeders → List Layer → Checked Unit
feeders_checked r at feeders layers = do
  _ ← check_apart (some feeders) r at (all_rows layers)
  check_packings r at (unit_layers (some feeders) layers)

-- 6, 15, 21, 7
unfoldable pub fed_rows_checked : Site → (at : ℕ) → Feeders → List Layer → Checked Unit
fed_rows_checked base at feeders layers = do
  _ ← check_ascending base at (all_rows layers)
  _ ← check_service base at (all_rows layers)
  feeders_checked base.r at feeders layers
