-- The joined pack of the three packs that the code goes by: its mu's and m's, and its bytes. Assumes nothing.
use Prim.Native.Nat.{ℕ, ◌+◌, ◌*◌, ◌/◌, ◌≤◌, ◌<◌, min}
use native.Mathlib.Omega.{arith}
use native.Mathlib.Nat.{zero-add}
use mathlib.Core.Path.{◌≡◌, refl, sym, ◌∙◌, ap}
use mathlib.Core.List.{List, [], ◌∷◌, ◌++◌, map, map-map, flatten, append-nil}
use lib.ListN.{length, get_or, take, drop, length-append, length-map}
use lib.Seq.{get_or-take, take-take, drop-drop}
use Rattle.lists.specs.Lists.{All, largest, up_to}
use Rattle.lists.proofs.Alls.{all_append, all-imp}
use Rattle.lists.proofs.Counts.{flatten-append}
use Rattle.lists.proofs.Largest.{largest-le}
use Rattle.lists.proofs.UpTo.{get_d-map-up_to, map-up_to-congr}
use Rattle.packing.proofs.RowsAt.{flatten-rows_at}
use Rattle.layers.specs.Layers.{Layer, blocks_at, head_of, heads_of, all_rows, sizes}
use Rattle.layers.specs.Answers.{no_head}
use Rattle.layers.specs.declared.LayerHead.{LayerHead}
use Rattle.layers.proofs.Each.{head_of-blocks_at}
use Rattle.layers.proofs.Layouts.{heads_of-layers_at, blocks_at-layers_at}
use Rattle.pack.specs.Pack.{Pack}
use Rattle.join.specs.Join.{Chunk, shifted, joint_mu, joint_rows, chunk_heads, joint_layer, chunks_at, joined_pack}
use Rattle.join.specs.Estate.{piece_pack, estate_packs, joint_size, capped_head, heads_at, capped_heads, part_bytes, layer_blocks, layer_at, layers_below}
use Rattle.join.specs.declared.Piece.{Piece}
use Rattle.join.specs.declared.Estate.{Estate}
use Rattle.join.proofs.Shifted.{all-shifted, all-copied, length-copied}
use Rattle.join.proofs.Layers.{part}
use Rattle.join.proofs.Bytes.{flatten-copied, flatten-shifted}

-- a layer's joined mu and m
abbrev pub exact_head : List LayerHead → LayerHead
exact_head heads = record { bound = joint_mu heads; size = joint_size (joint_mu heads) heads }

abbrev pub exact_heads : (r : ℕ) (a b c : List LayerHead) → List LayerHead
exact_heads r a b c = map (λ x. exact_head (heads_at x a b c)) (up_to r)

-- the rows of a joined layer are as many
pub length-joint_rows : (mu before : ℕ) (chunks : List Chunk) → length (joint_rows mu before chunks) ≡ joint_size mu (chunk_heads chunks)
unfolding joint_rows joint_size shifted
length-joint_rows mu before [] = refl
length-joint_rows mu before (chunk ∷ chunks) =
    length-append (part mu before chunk) (joint_rows mu (before + chunk.nodes) chunks)
    ∙ rw (
      length-copied (mu / chunk.layer.bound) (map (map (λ v. before + v)) chunk.layer.rows),
      length-map chunk.layer.rows (map (λ v. before + v)),
      length-joint_rows mu (before + chunk.nodes) chunks,
    )

-- Where one of the two lists of mu's is within 4,096, both are the same.
module _ (r : ℕ) (a b c : List LayerHead) where
  bounds_of : (f : ℕ → LayerHead) (x : ℕ) → x < r → (f x).bound ≤ largest (map (λ head. head.bound) (map f (up_to r)))
  bounds_of f x lt =
      let most = largest-le (map (λ y. (f y).bound) (up_to r)) x in
      rw (map-map (λ head. head.bound) f (up_to r)) (omega (arith, get_d-map-up_to (λ y. (f y).bound) r x 0 lt))

  heads-equal : ((x : ℕ) → x < r → joint_mu (heads_at x a b c) ≤ 4_096) → capped_heads r a b c ≡ exact_heads r a b c
  heads-equal few =
      map-up_to-congr (λ x. capped_head (heads_at x a b c)) (λ x. exact_head (heads_at x a b c)) r
      (λ x lt. let h = few x lt in let e : min (joint_mu (heads_at x a b c)) 4_097 ≡ joint_mu (heads_at x a b c) = omega arith in rw e)

  pub capped-exact : largest (map (λ head. head.bound) (capped_heads r a b c)) ≤ 4_096 → capped_heads r a b c ≡ exact_heads r a b c
  capped-exact few =
      heads-equal (λ x lt. let h = bounds_of (λ y. capped_head (heads_at y a b c)) x lt in omega arith)

  pub exact-capped : largest (map (λ head. head.bound) (exact_heads r a b c)) ≤ 4_096 → capped_heads r a b c ≡ exact_heads r a b c
  exact-capped few =
      heads-equal (λ x lt. let h = bounds_of (λ y. exact_head (heads_at y a b c)) x lt in omega arith)

-- A pack's layer x.
module _ (r : ℕ) (piece : Piece) (bytes : List ℕ) (x : ℕ) (lt : x < r) where
  abbrev held : List Layer
  held = (piece_pack r piece bytes).layers

  head_at : head_of (blocks_at held x) ≡ get_or piece.layers x no_head
  head_at =
      sym (head_of-blocks_at held x)
      ∙ ap (λ (l : List LayerHead). get_or l x no_head) (heads_of-layers_at r (take r piece.layers) (drop piece.place bytes))
      ∙ get_or-take r piece.layers x no_head lt

  blocks-at : flatten (blocks_at held x).rows ≡ layer_blocks r piece bytes x
  blocks-at =
      ap flatten (blocks_at-layers_at r (take r piece.layers) (drop piece.place bytes) x)
      ∙ flatten-rows_at r (get_or (take r piece.layers) x no_head).size (drop (sizes (take x (take r piece.layers)) * r) (drop piece.place bytes))
      ∙ rw (
        get_or-take r piece.layers x no_head lt,
        take-take x r piece.layers (omega arith),
        drop-drop (sizes (take x piece.layers) * r) piece.place bytes,
      )

  pub part-is : (mu before : ℕ) → flatten (part mu before (record { nodes = piece.nodes; layer = blocks_at held x }))
      ≡ part_bytes mu (get_or piece.layers x no_head).bound before (layer_blocks r piece bytes x)
  part-is mu before =
      flatten-copied (mu / (blocks_at held x).bound) (shifted before (blocks_at held x).rows)
      ∙ rw (flatten-shifted before (blocks_at held x).rows, blocks-at, ap (λ (h : LayerHead). h.bound) head_at)

-- rows of r nodes stay so
pub joint-lengths : (mu r before : ℕ) (chunks : List Chunk) → All (λ chunk. All (λ row. length row ≡ r) chunk.layer.rows) chunks
    → All (λ row. length row ≡ r) (joint_rows mu before chunks)
unfolding joint_rows
joint-lengths mu r before [] h = tt
joint-lengths mu r before (chunk ∷ chunks) h =
    all_append (λ row. length row ≡ r) (part mu before chunk) (joint_rows mu (before + chunk.nodes) chunks)
    (all-copied (λ row. length row ≡ r) (mu / chunk.layer.bound) (shifted before chunk.layer.rows)
    (all-shifted before (λ row. length row ≡ r) chunk.layer.rows
    (all-imp _ _ (λ row e. length-map row (λ v. before + v) ∙ e) chunk.layer.rows h.0)))
    (joint-lengths mu r (before + chunk.nodes) chunks h.1)

module _ (e : Estate) (f s t : List ℕ) where
  abbrev packs : List Pack
  packs = estate_packs e f s t

  -- mu and m of layer x of each
  abbrev at : (x : ℕ) → List LayerHead
  at x = heads_at x e.a.layers e.b.layers e.c.layers

  heads-at : (x : ℕ) → x < e.r → chunk_heads (chunks_at x packs) ≡ at x
  heads-at x lt = rw (head_at e.r e.a f x lt, head_at e.r e.b s x lt, head_at e.r e.c t x lt)

  exact-at : (x : ℕ) → x < e.r → head_of (joint_layer (chunks_at x packs)) ≡ exact_head (at x)
  exact-at x lt =
      ap (λ n. record { bound = joint_mu (chunk_heads (chunks_at x packs)); size = n })
      (length-joint_rows (joint_mu (chunk_heads (chunks_at x packs))) 0 (chunks_at x packs))
      ∙ ap exact_head (heads-at x lt)

  -- the joined pack's mu's and m's
  pub joined-heads : heads_of (joined_pack packs).layers ≡ exact_heads e.r e.a.layers e.b.layers e.c.layers
  unfolding joined_pack
  joined-heads =
      map-map head_of (λ x. joint_layer (chunks_at x packs)) (up_to e.r)
      ∙ map-up_to-congr (λ x. head_of (joint_layer (chunks_at x packs))) (λ x. exact_head (at x)) e.r exact-at

  -- layer x's bytes
  layer-bytes : (heads : List LayerHead) (x : ℕ) → x < e.r → (get_or heads x no_head).bound ≡ joint_mu (at x)
      → flatten (joint_layer (chunks_at x packs)).rows ≡ layer_at e heads f s t x
  unfolding joint_rows flatten
  layer-bytes heads x lt mu-is =
      let mu = joint_mu (chunk_heads (chunks_at x packs)) in
      let one = part mu 0 (record { nodes = e.a.nodes; layer = blocks_at (piece_pack e.r e.a f).layers x }) in
      let two = part mu (0 + e.a.nodes) (record { nodes = e.b.nodes; layer = blocks_at (piece_pack e.r e.b s).layers x }) in
      let three = part mu (0 + e.a.nodes + e.b.nodes) (record { nodes = e.c.nodes; layer = blocks_at (piece_pack e.r e.c t).layers x }) in
      let same : mu ≡ (get_or heads x no_head).bound = ap joint_mu (heads-at x lt) ∙ sym mu-is in
      let a-is = part-is e.r e.a f x lt mu 0 in
      let b-is = part-is e.r e.b s x lt mu (0 + e.a.nodes) in
      let c-is = part-is e.r e.c t x lt mu (0 + e.a.nodes + e.b.nodes) in
      flatten-append one (two ++ (three ++ []))
      ∙ (λ i. a-is i ++ (flatten-append two (three ++ []) ∙ (λ j. b-is j ++ (ap flatten (append-nil three) ∙ c-is) j)) i)
      ∙ rw (zero-add e.a.nodes, same)

  -- all of the joined pack's blocks
  pub joined_bytes : (heads : List LayerHead) → ((x : ℕ) → x < e.r → (get_or heads x no_head).bound ≡ joint_mu (at x))
      → flatten (all_rows (joined_pack packs).layers) ≡ layers_below e heads f s t e.r
  unfolding joined_pack flatten
  joined_bytes heads mus =
      ap (λ (l : List (List (List ℕ))). flatten (flatten l)) (map-map (λ layer. layer.rows) (λ x. joint_layer (chunks_at x packs)) (up_to e.r))
      ∙ flatten-flatten (map (λ x. (joint_layer (chunks_at x packs)).rows) (up_to e.r))
      ∙ ap flatten (map-map flatten (λ x. (joint_layer (chunks_at x packs)).rows) (up_to e.r)
      ∙ map-up_to-congr (λ x. flatten (joint_layer (chunks_at x packs)).rows) (layer_at e heads f s t) e.r (λ x lt. layer-bytes heads x lt (mus x lt)))
    where
      flatten-flatten : (l : List (List (List ℕ))) → flatten (flatten l) ≡ flatten (map flatten l)
      flatten-flatten [] = refl
      flatten-flatten (rows ∷ l) = flatten-append rows (flatten l) ∙ ap (λ (m : List ℕ). flatten rows ++ m) (flatten-flatten l)
