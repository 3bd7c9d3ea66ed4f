-- What can fail in a placement, and the figure for any number of failures. All that speaks of failures on a placement goes
-- through `units` and `unit_rows`. Assumes nothing.
use Rattle.std.specs.Prelude.{ℕ, List}
use Rattle.layers.specs.Layers.{all_rows, heads_of}
use Rattle.placement.specs.Feeders.{unit_layers, units_of}
use Rattle.placement.specs.Figure.{rule_of, figure_of}
use Rattle.placement.specs.Placement.{Placement}

-- how many units can fail: the nodes, (h) "The guarantee is over failures among all n"; (n) in kind 6 "read feeders for nodes, g for
-- n"
abbrev pub units : Placement → ℕ
units p = units_of p.n p.feeders

-- its rows as lists of units
abbrev pub unit_rows : Placement → List (List ℕ)
unit_rows p = all_rows (unit_layers p.feeders p.layers)

-- Document 02, (c): "the figure for each k' .., by the same formula with its own lambdas and counts"; (d): "The curve follows
-- the file's kind"
unfoldable pub figure_at : Placement → (k : ℕ) → ℕ
figure_at p k = figure_of (rule_of p.kind) p.s k p.b (heads_of p.layers)
