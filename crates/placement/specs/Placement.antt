-- Document 01, "Placement". Assumes nothing.
use Rattle.std.specs.Prelude.{ℕ, ◌+◌, ◌*◌, ◌-◌, ◌≤◌, ◌<◌, ◌≡◌, true, length, drop, T, eqb}
use mathlib.Core.List.{List, ◌∷◌, ◌++◌, flatten}
use Rattle.std.proofs.Math.Option.{Option}
use Rattle.lists.specs.Lists.{All}
use Rattle.refusal.specs.declared.Refusal.TheVariants.{WrongFigure}
use Rattle.refusal.specs.Checked.{Checked, accepted, ◌>>=◌, require, map_accepted}
use Rattle.number.specs.Numbers.{forms_of, read_within}
use Rattle.packing.specs.Rows.{Row}
use Rattle.layers.specs.Layers.{Layer, all_rows, Packings, heads_of, head_numbers, sizes, File, FileAt, Located, Site, BaseLimits, DarkLimits, InService, is_kind, list_numbers, layers_at, read_base, read_layers, check_length, check_end, check_ascending, check_service, check_packings}
use Rattle.layers.specs.declared.FileKind.TheVariants.{Placement as PlacementKind}
use Rattle.layers.specs.declared.LayerHead.{LayerHead}
use Rattle.layers.specs.declared.LayerLimits.{LayerLimits}
use Rattle.placement.specs.Figure.{rule_of, figure_of}
use Rattle.placement.specs.Feeders.{Feeders, FeedersFit, Apart, feeder_numbers, unit_layers, read_feeders, check_apart}
use Rattle.placement.specs.declared.Rule.{Rule}
use Rattle.placement.specs.declared.Order.{Order}
use Rattle.placement.specs.declared.Terms.{Terms}

-- the file's kind, n nodes, r replicas, the nodes out of service, the threshold s, k failures, b records, the figure F, for each x
-- from 0 to s-1 a layer of rows with its lambda, and in kind 6 the feeders
pub record Placement : Type 0 where
  pub kind : ℕ
  pub n : ℕ
  pub r : ℕ
  pub dark : List ℕ
  pub s : ℕ
  pub k : ℕ
  pub b : ℕ
  pub figure : ℕ
  pub layers : List Layer
  pub feeders : Option Feeders

-- "The number 2; n; r; s; k; b; the figure F (0..b); for each x from 0 to s-1 the numbers lambda .. and c"; the number 3 in a
-- placement of kind 3; request (h): in "placements of kind 5 .., after r, a count .. and then their numbers"; (n) in kind 6 too
abbrev pub placement_numbers : Placement → List ℕ
placement_numbers p =
    p.kind ∷ p.n ∷ p.r
    ∷ (list_numbers p.kind p.dark ++ (p.s ∷ p.k ∷ p.b ∷ p.figure ∷ head_numbers (heads_of p.layers)))

-- "then b rows, layer by layer; then the end"; (n) "after its rows, the number g of feeders .. and a feeder .. for each node"
abbrev pub PlacementFile : Placement → List ℕ → Type 0
PlacementFile p bytes = File (placement_numbers p) p.layers (feeder_numbers p.feeders) bytes

-- the same, the first row being at this place
abbrev pub PlacementFileAt : Located Placement → List ℕ → Type 0
PlacementFileAt file bytes =
    let p = file.content in
    FileAt (placement_numbers p) p.layers (feeder_numbers p.feeders) file.first bytes

-- "s 1..r; k s..n-1; b 1..4,096"
pub record OrderLimits (n r : ℕ) (order : Order) : Type 0 where
  pub s-least : 1 ≤ order.s
  pub s-most : order.s ≤ r
  pub k-least : order.s ≤ order.k
  pub k-most : order.k < n
  pub b-least : 1 ≤ order.b
  pub b-most : order.b ≤ 4_096

-- "Limits: n 2..255; r 2..5 and at most n; s 1..r; k s..n-1; b 1..4,096"; (h) the list's; "lambda (0..16,777,216) and c (0 up to b less
-- the c's before; the last must equal what is left)"
pub record PlacementLimits (p : Placement) : Type 0 where
  pub kind : T (is_kind PlacementKind p.kind)
  pub base : BaseLimits p.n p.r
  pub dark : DarkLimits p.kind p.n p.dark
  pub order : OrderLimits p.n p.r (record { s = p.s; k = p.k; b = p.b })
  pub layer-each : length p.layers ≡ p.s
  pub lambda-most : All (λ layer. layer.bound ≤ 16_777_216) p.layers
  pub records-all : sizes (heads_of p.layers) ≡ p.b
  pub feeders : FeedersFit p.kind p.n p.r p.k p.feeders

-- Demand 2: what an accepted placement is. (h) "No row may name" a node out of service. "In layer x every set of x+1 nodes stands in
-- at most lambda of its c rows." "F must equal b less the losses of all layers", by the rule of the file's kind. (n) No row has "two
-- nodes on one feeder", and the packing test is "over feeder numbers in place of nodes".
pub record GoodPlacement (p : Placement) : Type 0 where
  pub limits : PlacementLimits p
  pub rows : All (Row p.n p.r) (all_rows p.layers)
  pub in-service : InService p.dark (all_rows p.layers)
  pub apart : Apart p.feeders (all_rows p.layers)
  pub packings : Packings 0 (unit_layers p.feeders p.layers)
  pub formula : p.figure ≡ figure_of (rule_of p.kind) p.s p.k p.b (heads_of p.layers)

abbrev pub placement_layer_limits : LayerLimits
placement_layer_limits = record { lo = 0; hi = 16_777_216; full = true }

-- s, k, b and F, and the next place
pub record TermsReading : Type 0 where
  pub terms : Terms
  pub next : ℕ

-- "s; k; b; the figure F (0..b)": the numbers from `at` on, where n and r are known
unfoldable pub read_terms : Site → List ℕ → (at : ℕ) → Checked TermsReading
read_terms base bytes at = do
  s ← read_within 1 base.r bytes at
  k ← read_within s.value (base.n - 1) bytes s.next
  b ← read_within 1 4_096 bytes k.next
  figure ← read_within 0 b.value bytes b.next
  accepted
      (record {
        terms = record { s = s.value; k = k.value; b = b.value; figure = figure.value; place = b.next };
        next = figure.next;
      })

-- refusal 8: "F differs from the formula", at "F's start"
unfoldable pub check_figure : Rule → Terms → List LayerHead → Checked Unit
check_figure rule terms heads =
    require (eqb terms.figure (figure_of rule terms.s terms.k terms.b heads)) (WrongFigure terms.place)

-- the layers, and in kind 6 the feeders
pub record Rows : Type 0 where
  pub layers : List Layer
  pub feeders : Option Feeders

-- "Then 1 .. for the rows' total length", (n) "these numbers are read after the rows' length. .. Refusal 5 is checked after the last
-- feeder, then 6", 15, 21, "after 15 and before 7", 7: the rows start at `at`, k feeders fail
unfoldable pub check_records : (kind : ℕ) → Site → (k : ℕ) → List LayerHead → List ℕ → (at : ℕ) → Checked Rows
check_records kind base k heads s at =
    let end = at + sizes heads * base.r in
    let layers = layers_at base.r heads (drop at s) in
    do
      _ ← check_length s end
      after ← read_feeders kind base.n base.r k s end
      _ ← check_end s after.next
      _ ← check_ascending base at (all_rows layers)
      _ ← check_service base at (all_rows layers)
      _ ← check_apart after.feeders base.r at (all_rows layers)
      _ ← check_packings base.r at (unit_layers after.feeders layers)
      accepted (record { layers = layers; feeders = after.feeders })

-- what the numbers and the rows say
abbrev pub placement_of : (kind : ℕ) → Site → Terms → Rows → Placement
placement_of kind base terms rows =
    record {
      kind = kind;
      n = base.n;
      r = base.r;
      dark = base.dark;
      s = terms.s;
      k = terms.k;
      b = terms.b;
      figure = terms.figure;
      layers = rows.layers;
      feeders = rows.feeders;
    }

-- "Head numbers are checked in file order", then the rows, "then 8": the placement with the place of its first row, or the
-- refusal
unfoldable pub read_placement : List ℕ → Checked (Located Placement)
read_placement bytes = do
  head ← read_base PlacementKind bytes
  order ← read_terms head.base bytes head.next
  numbers ← read_layers placement_layer_limits order.terms.s order.terms.b bytes order.next
  rows ← check_records head.kind head.base order.terms.k numbers.heads bytes numbers.next
  _ ← check_figure (rule_of head.kind) order.terms (heads_of rows.layers)
  accepted (record { content = placement_of head.kind head.base order.terms rows; first = numbers.next })

-- the placement, or the refusal
unfoldable pub check_placement : List ℕ → Checked Placement
check_placement bytes = map_accepted (λ file. file.content) (read_placement bytes)

-- a placement without feeders, as the planner's are, as a file: each number in its shortest form, then the rows
unfoldable pub placement_bytes : Placement → List ℕ
placement_bytes p = forms_of (placement_numbers p) ++ flatten (all_rows p.layers)
