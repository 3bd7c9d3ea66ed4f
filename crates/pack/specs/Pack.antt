-- Document 01, "Pack". Assumes nothing.
use Rattle.std.specs.Prelude.{ℕ, ◌≤◌, ◌≡◌, false, length, T}
use mathlib.Core.List.{List, [], ◌∷◌, ◌++◌, flatten}
use Rattle.lists.specs.Lists.{All}
use Rattle.refusal.specs.Checked.{Checked, accepted, ◌>>=◌, map_accepted}
use Rattle.number.specs.Numbers.{forms_of}
use Rattle.packing.specs.Rows.{is_in_order, Row}
use Rattle.layers.specs.Layers.{Layer, all_rows, Packings, heads_of, head_numbers, sizes, File, Located, BaseLimits, InService, is_kind, listed, list_numbers, read_base, read_layers, check_rows}
use Rattle.layers.specs.declared.FileKind.TheVariants.{Pack as PackKind}
use Rattle.layers.specs.declared.LayerLimits.{LayerLimits}

-- n nodes, r replicas, the nodes out of service, and for each x from 0 to r-1 a layer of blocks with its mu
pub record Pack : Type 0 where
  pub n : ℕ
  pub r : ℕ
  pub dark : List ℕ
  pub layers : List Layer

-- "The number 1; n; r; for each x from 0 to r-1 the numbers mu .. and m"; request (h): in "Packs of kind 4 .., after r, a count
-- .. and then their numbers"
abbrev pub pack_numbers : (kind : ℕ) → Pack → List ℕ
pack_numbers kind p = kind ∷ p.n ∷ p.r ∷ (list_numbers kind p.dark ++ head_numbers (heads_of p.layers))

-- a pack as a file of kind 4: each number in its shortest form, then the blocks
unfoldable pub bytes_of_pack : Pack → List ℕ
bytes_of_pack p = forms_of (pack_numbers 4 p) ++ flatten (all_rows p.layers)

-- "then m rows (blocks) for x = 0, m for x = 1, and so on; then the end": a file of kind 1 or 4; "Kinds 1 to 3 count as having an
-- empty list"
pub record PackFile (p : Pack) (bytes : List ℕ) : Type 0 where
  pub kind : ℕ
  pub is-kind : T (is_kind PackKind kind)
  pub unlisted : listed kind ≡ false → p.dark ≡ []
  pub file : File (pack_numbers kind p) p.layers [] bytes

-- "Limits: n 2..255; r 2..5 and at most n"; (h) "strictly ascending and below n"; "mu (1..4,096) and m (0..4,096, the m's so far summing to at most 4,096)"
pub record PackLimits (p : Pack) : Type 0 where
  pub base : BaseLimits p.n p.r
  pub dark-order : T (is_in_order p.n p.dark)
  pub layer-each : length p.layers ≡ p.r
  pub mu-limits : All (λ layer. (1 ≤ layer.bound) × (layer.bound ≤ 4_096)) p.layers
  pub blocks-most : sizes (heads_of p.layers) ≤ 4_096

-- Demand 2: what an accepted pack is. Its rows are rows, (h) "No row may name" a node out of service, and "In layer x every set of x+1 nodes stands in at most mu rows."
pub record GoodPack (p : Pack) : Type 0 where
  pub limits : PackLimits p
  pub rows : All (Row p.n p.r) (all_rows p.layers)
  pub in-service : InService p.dark (all_rows p.layers)
  pub packings : Packings 0 p.layers

abbrev pub pack_layer_limits : LayerLimits
pack_layer_limits = record { lo = 1; hi = 4_096; full = false }

-- "Head numbers are checked in file order", then the rows: the pack with the place of its first block, or the refusal
unfoldable pub read_pack : List ℕ → Checked (Located Pack)
read_pack s = do
  head ← read_base PackKind s
  numbers ← read_layers pack_layer_limits head.base.r 4_096 s head.next
  layers ← check_rows head.base numbers.heads s numbers.next
  accepted
      (record {
        content = record { n = head.base.n; r = head.base.r; dark = head.base.dark; layers = layers };
        first = numbers.next;
      })

-- the pack, or the refusal
unfoldable pub check_pack : List ℕ → Checked Pack
check_pack s = map_accepted (λ file. file.content) (read_pack s)
