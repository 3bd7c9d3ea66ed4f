-- Document 01, "Planning": the placement that is written, and the whole answer. Assumes nothing.
use Rattle.std.specs.Prelude.{ℕ, suc, ◌+◌, ◌*◌, ◌≤◌, ◌≡◌, ◌&&◌, List, map, length, drop, T, leb, ltb}
use Rattle.std.proofs.Math.Option.{none}
use Rattle.lists.specs.Lists.{up_to}
use Rattle.refusal.specs.declared.Refusal.TheVariants.{BadOrder, NoBlock, ShortWork, ShortOutput}
use Rattle.refusal.specs.Checked.{Checked, accepted, refused, ◌>>=◌, require, map_accepted, written}
use Rattle.packing.specs.Rows.{repeated}
use Rattle.layers.specs.Layers.{Layer, blocks_at, heads_of}
use Rattle.layers.specs.declared.LayerHead.{LayerHead}
use Rattle.pack.specs.Pack.{Pack, check_pack}
use Rattle.placement.specs.Placement.{Placement, OrderLimits, placement_bytes}
use Rattle.placement.specs.declared.Rule.TheVariants.{NestedFloors}
use Rattle.placement.specs.declared.Order.{Order}
use Rattle.split.specs.Splits.{Share, split_figure, has_block, named_split}

-- one layer of a split's placement: "its lambda is d × mu"
abbrev pub placed : Layer → Share → Layer
placed blocks share =
    record { bound = share.copies * blocks.bound; rows = repeated blocks.rows share.count }

-- the placement of a split; request (h): "The planner copies the list and writes kind 5, whose figure is that of kind 3", by the
-- nested floors of request (d)
unfoldable pub split_placement : Pack → (s k b : ℕ) → (ℕ → Share) → Placement
split_placement pack s k b split =
    record {
      kind = 5;
      n = pack.n;
      r = pack.r;
      dark = pack.dark;
      s = s;
      k = k;
      b = b;
      figure = split_figure NestedFloors (heads_of pack.layers) s k b split;
      layers = map (λ x. placed (blocks_at pack.layers x) (split x)) (up_to s);
      feeders = none;
    }

-- demand 2: "the one placement that 01 names"; request (d): it "is judged best by this figure", that of the nested floors
unfoldable pub named_placement : Pack → (s k b : ℕ) → Placement
named_placement pack s k b = split_placement pack s k b (named_split NestedFloors (heads_of pack.layers) s k b)

-- "s 1..r; k s..n-1; b 1..4,096"; "s, k or b outside limits": refusal 12, place "0, 1 or 2 in that order"
unfoldable pub check_order : (n r : ℕ) → Order → Checked Unit
check_order n r order = do
  _ ← require (leb 1 order.s && leb order.s r) (BadOrder 0)
  _ ← require (leb order.s order.k && ltb order.k n) (BadOrder 1)
  require (leb 1 order.b && leb order.b 4_096) (BadOrder 2)

-- "no block in any layer below s": refusal 9
unfoldable pub check_blocks : List LayerHead → (s : ℕ) → Checked Unit
check_blocks layers s = require (has_block layers s) NoBlock

-- "the working slice of 16-bit numbers at least s × (b+1) entries"
abbrev pub work_needed : (s b : ℕ) → ℕ
work_needed s b = s * suc b

-- "working slice too short": refusal 10, place "entries needed"
unfoldable pub check_work : Order → (work : ℕ) → Checked Unit
check_work order work =
    require (leb (work_needed order.s order.b) work) (ShortWork (work_needed order.s order.b))

-- (h) "its output must now have at least 448 + b × r bytes"
abbrev pub output_needed : (b r : ℕ) → ℕ
output_needed b r = 448 + b * r

-- "output too short": refusal 11, place "bytes needed"
unfoldable pub check_output : (b r output : ℕ) → Checked Unit
check_output b r output = require (leb (output_needed b r) output) (ShortOutput (output_needed b r))

-- "then 12, 9, 10, 11": planning on an accepted pack, with slices of these lengths
unfoldable pub plan_pack : Pack → Order → (work output : ℕ) → Checked Placement
plan_pack pack order work output = do
  _ ← check_order pack.n pack.r order
  _ ← check_blocks (heads_of pack.layers) order.s
  _ ← check_work order work
  _ ← check_output order.b pack.r output
  accepted (named_placement pack order.s order.k order.b)

-- an order that passes the four checks
pub record Fits (pack : Pack) (order : Order) (work output : ℕ) : Type 0 where
  pub within : OrderLimits pack.n pack.r order
  pub block : T (has_block (heads_of pack.layers) order.s)
  pub work-fits : work_needed order.s order.b ≤ work
  pub output-fits : output_needed order.b pack.r ≤ output

-- "Planning checks the pack", then the rest
unfoldable pub plan : (bytes : List ℕ) → Order → (work output : ℕ) → Checked Placement
plan bytes order work output = do
  pack ← check_pack bytes
  plan_pack pack order work output

-- the entries and the bytes that no order needs more of: s 5 and b 4,096, with r 5
abbrev pub work_most : ℕ
work_most = work_needed 5 4_096

abbrev pub output_most : ℕ
output_most = output_needed 4_096 5

-- the output slice afterwards
abbrev pub output_after : Checked Placement → List ℕ → List ℕ
output_after answer output = written (map_accepted placement_bytes answer) output

-- the working slice afterwards: "After success the working slice's contents are free", and "entries past the written
-- length don't change"
abbrev pub WorkAfter : Checked Placement → (before after : List ℕ) → Type 0
WorkAfter (accepted p) before after =
    (length after ≡ length before) × (drop (work_needed p.s p.b) after ≡ drop (work_needed p.s p.b) before)
WorkAfter (refused e) before after = after ≡ before
