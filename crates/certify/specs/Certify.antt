-- Certifying bare rows: the layer with the highest figure, the placement that is written, and the whole answer. Assumes nothing.
use Rattle.std.specs.Prelude.{ℕ, zero, suc, ◌-◌, ◌<◌, ◌≡◌, cond, length, replicate, set, T, leb}
use mathlib.Core.List.{List, [], map, flatten}
use Rattle.std.proofs.Math.Option.{none}
use Rattle.lists.specs.Lists.{largest}
use Rattle.refusal.specs.Checked.{Checked, accepted, ◌>>=◌}
use Rattle.packing.specs.Rows.{distinct, together, subsets}
use Rattle.layers.specs.Layers.{Layer, blocks_at, all_rows}
use Rattle.placement.specs.Figure.{loss}
use Rattle.placement.specs.Placement.{Placement}
use Rattle.placement.specs.declared.Rule.TheVariants.{NestedFloors}
use Rattle.placement.specs.declared.Order.{Order}
use Rattle.planner.specs.Planning.{check_output, output_after}
use Rattle.planner.specs.Answers.{plan_answer}
use Rattle.planner.specs.declared.PlanResult.{PlanResult}
use Rattle.certify.specs.Bare.{Bare, check_bare}

-- "the largest number of rows that hold one set of x+1 nodes": over the sets of x+1 nodes of every row, any other set being in none
unfoldable pub most_together : (x : ℕ) (rows : List (List ℕ)) → ℕ
most_together x rows = largest (map (together rows) (flatten (map (subsets (suc x)) rows)))

-- some x+1 nodes stand together in just m of the rows
pub record Reached (x m : ℕ) (rows : List (List ℕ)) : Type 0 where
  pub nodes : List ℕ
  pub size : length nodes ≡ suc x
  pub apart : T (distinct nodes)
  pub number : together rows nodes ≡ m

-- the figure "by nested floors" with all rows in layer x at "the least lambda that holds": b less that layer's loss
unfoldable pub figure_in : Order → (rows : List (List ℕ)) (x : ℕ) → ℕ
figure_in order rows x =
    order.b - loss NestedFloors order.s order.k x (record { bound = most_together x rows; size = order.b })

-- of the numbers below s the one with the highest f, "of equal ones the highest"
unfoldable pub last_highest : (ℕ → ℕ) → (s : ℕ) → ℕ
last_highest f zero = 0
last_highest f (suc x) = cond (leb (f (last_highest f x)) (f x)) x (last_highest f x)

-- "the layer taken is the one with the highest figure by nested floors, of equal ones the highest x"
abbrev pub layer_taken : Bare → ℕ
layer_taken q = last_highest (figure_in q.order q.rows) q.order.s

-- "all in one layer": s layers, layer x with the rows and their lambda, the others with none
abbrev pub one_layer : (s x lambda : ℕ) (rows : List (List ℕ)) → List Layer
one_layer s x lambda rows = set (replicate s (record { bound = 0; rows = [] })) x (record { bound = lambda; rows = rows })

-- "all of them in one layer": of any layers, those but layer x have no rows
pub record OnlyIn (x : ℕ) (layers : List Layer) : Type 0 where
  pub inside : x < length layers
  pub others : (y : ℕ) → (y ≡ x → ⊥) → (blocks_at layers y).rows ≡ []

-- "a placement of kind 5 with the same rows in the same order, all in" layer x
unfoldable pub placed_in : Bare → (x : ℕ) → Placement
placed_in q x =
    record {
      kind = 5;
      n = q.base.n;
      r = q.base.r;
      dark = q.base.dark;
      s = q.order.s;
      k = q.order.k;
      b = q.order.b;
      figure = figure_in q.order q.rows x;
      layers = one_layer q.order.s x (most_together x q.rows) q.rows;
      feeders = none;
    }

-- what is written
unfoldable pub certified : Bare → Placement
certified q = placed_in q (layer_taken q)

-- "Output at least 448 + b × r bytes, else 11": certifying bare rows that were accepted
unfoldable pub certify_bare : Bare → (output : ℕ) → Checked Placement
certify_bare q output = do
  _ ← check_output q.order.b q.base.r output
  accepted (certified q)

-- "for bare rows and an output it writes a placement": the refusals of the file come first
unfoldable pub certify : (bytes : List ℕ) (output : ℕ) → Checked Placement
certify bytes output = do
  q ← check_bare bytes
  certify_bare q output

-- the bare rows of a placement: its numbers without figure and layers, and its rows
abbrev pub bare_of : Placement → Bare
bare_of p =
    record {
      base = record { n = p.n; r = p.r; dark = p.dark };
      order = record { s = p.s; k = p.k; b = p.b };
      rows = all_rows p.layers;
    }

-- "answers as planning does"; "bytes past the length don't change, a refusal leaves it as it was": what a call gives, and leaves in
-- the output
pub record CertifyDone (wrote : Checked Placement) (out out-left : List ℕ) (given : PlanResult) : Type 0 where
  pub answer : given ≡ plan_answer wrote
  pub output-after : out-left ≡ output_after wrote out
