-- Document 02, request (e): "Estates made of chunks". Assumes nothing.
use Rattle.std.specs.Prelude.{ℕ, zero, suc, ◌+◌, ◌/◌, Bool, ◌&&◌, List, [], ◌∷◌, ◌++◌, map, length, leb, eqb}
use Rattle.lists.specs.Lists.{every, largest, total, up_to}
use Rattle.refusal.specs.declared.Refusal.TheVariants.{Unjoinable, ShortOutput}
use Rattle.refusal.specs.Checked.{Checked, accepted, ◌>>=◌, require}
use Rattle.layers.specs.Layers.{Layer, blocks_at, head_of, heads_of, sizes}
use Rattle.layers.specs.declared.LayerHead.{LayerHead}
use Rattle.pack.specs.Pack.{Pack, bytes_of_pack, check_pack}
use Rattle.join.specs.Lcm.{lcm}

-- what a pack brings into one layer: its nodes, and its blocks with their mu
pub record Chunk : Type 0 where
  pub nodes : ℕ
  pub layer : Layer

-- "give the second and third node numbers after the ones before": the blocks of a pack that `before` nodes come before
unfoldable pub shifted : (before : ℕ) → List (List ℕ) → List (List ℕ)
shifted before blocks = map (map (λ v. before + v)) blocks

-- "repeated, whole list after whole list"
unfoldable pub copied : (copies : ℕ) → List (List ℕ) → List (List ℕ)
copied zero blocks = []
copied (suc copies) blocks = blocks ++ copied copies blocks

-- the multiple of those after it, and of mu where there are blocks
abbrev pub with_mu : (m mu rest : ℕ) → ℕ
with_mu zero mu rest = rest
with_mu (suc m) mu rest = lcm mu rest

-- "The joined mu is the least common multiple of the mu's of the packs that have blocks in that layer, or 1 if none has."
unfoldable pub joint_mu : List LayerHead → ℕ
joint_mu [] = 1
joint_mu (head ∷ heads) = with_mu head.size head.bound (joint_mu heads)

-- "A pack without blocks in a layer adds no row to it. Each other pack's block list is repeated .. until its mu times the
-- copies is the joined mu, all of the first pack's copies before the second's."
unfoldable pub joint_rows : (mu before : ℕ) → List Chunk → List (List ℕ)
joint_rows mu before [] = []
joint_rows mu before (chunk ∷ chunks) =
    copied (mu / chunk.layer.bound) (shifted before chunk.layer.rows) ++ joint_rows mu (before + chunk.nodes) chunks

-- the mu's and m's of the chunks
abbrev pub chunk_heads : List Chunk → List LayerHead
chunk_heads chunks = map (λ chunk. head_of chunk.layer) chunks

-- one layer of the joined pack
abbrev pub joint_layer : List Chunk → Layer
joint_layer chunks =
    record { bound = joint_mu (chunk_heads chunks); rows = joint_rows (joint_mu (chunk_heads chunks)) 0 chunks }

-- "join them layer by layer": what the packs bring into layer x
abbrev pub chunks_at : (x : ℕ) → List Pack → List Chunk
chunks_at x packs = map (λ p. record { nodes = p.n; layer = blocks_at p.layers x }) packs

-- request (h): "Joining chunks shifts and joins the lists": each pack's nodes out of service, with node numbers after the ones
-- before, one list after another
unfoldable pub joint_dark : (before : ℕ) → List Pack → List ℕ
joint_dark before [] = []
joint_dark before (p ∷ packs) = map (λ v. before + v) p.dark ++ joint_dark (before + p.n) packs

-- the r of the first pack
abbrev pub first_r : List Pack → ℕ
first_r [] = 0
first_r (p ∷ packs) = p.r

unfoldable pub joined_pack : List Pack → Pack
joined_pack packs =
    record {
      n = total (map (λ p. p.n) packs);
      r = first_r packs;
      dark = joint_dark 0 packs;
      layers = map (λ x. joint_layer (chunks_at x packs)) (up_to (first_r packs));
    }

-- the joined pack is within "document 01's limits": 255 nodes, 4,096 rows of all layers together, every mu 4,096
abbrev pub within_limits : Pack → Bool
within_limits p =
    leb p.n 255
    && leb (sizes (heads_of p.layers)) 4_096
    && leb (largest (map (λ layer. layer.bound) p.layers)) 4_096

-- "13 if r differs or if joined nodes, rows or a mu pass document 01's limits"
unfoldable pub joinable : List Pack → Bool
joinable packs = every (λ p. eqb p.r (first_r packs)) packs && within_limits (joined_pack packs)

-- "The first pack that isn't accepted gives its refusal, the place counted from that pack's first byte"
unfoldable pub check_packs : List (List ℕ) → Checked (List Pack)
check_packs [] = accepted []
check_packs (file ∷ files) = do
  p ← check_pack file
  packs ← check_packs files
  accepted (p ∷ packs)

-- a joined pack for an output of this length: "11 if the output is shorter than the joined pack", its place the bytes needed
unfoldable pub write_joined : Pack → (output : ℕ) → Checked Pack
write_joined p output = do
  _ ← require (leb (length (bytes_of_pack p)) output) (ShortOutput (length (bytes_of_pack p)))
  accepted p

-- the packs' joined pack: "then 13 ..; then 11 .."
unfoldable pub join_packs : List Pack → (output : ℕ) → Checked Pack
join_packs packs output = do
  _ ← require (joinable packs) Unjoinable
  write_joined (joined_pack packs) output

-- "Take one, two or three packs": the packs are checked, then the rest
unfoldable pub join : (files : List (List ℕ)) (output : ℕ) → Checked Pack
join files output = do
  packs ← check_packs files
  join_packs packs output
