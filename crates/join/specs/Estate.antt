-- What the code of joining goes by: three packs as their numbers and bytes, and the joined mu's and m's. Assumes nothing.
use Rattle.std.specs.Prelude.{ℕ, zero, suc, ◌+◌, ◌*◌, ◌/◌, ◌≤◌, ◌<◌, min, ◌≡◌, Bool, true, false, length, get_or, take, drop, T, Result, Ok, Err}
use mathlib.Core.List.{List, [], ◌∷◌, ◌++◌, map, flatten}
use Rattle.lists.specs.Lists.{All, largest, over_start, up_to}
use Rattle.refusal.specs.declared.Refusal.{Refusal}
use Rattle.refusal.specs.declared.Refusal.TheVariants.{Unjoinable}
use Rattle.refusal.specs.Checked.{Checked, accepted}
use Rattle.packing.specs.Rows.{is_in_order}
use Rattle.layers.specs.Layers.{Located, layers_at, sizes, head_numbers}
use Rattle.layers.specs.Written.{start_numbers}
use Rattle.layers.specs.declared.Base.{Base}
use Rattle.layers.specs.Answers.{no_head, five_heads, dark_list}
use Rattle.layers.specs.declared.Dark.{Dark}
use Rattle.layers.specs.declared.LayerHead.{LayerHead}
use Rattle.pack.specs.Pack.{Pack, read_pack}
use Rattle.join.specs.Join.{joint_mu}
use Rattle.join.specs.declared.Piece.{Piece}
use Rattle.join.specs.declared.Estate.{Estate}
use Rattle.join.specs.declared.JointHeads.{JointHeads}
use Rattle.join.specs.declared.Layering.{Layering}
use Rattle.pack.specs.declared.PackHead.{PackHead}

-- the pack that a piece stands for: its blocks are the bytes from their place on
abbrev pub piece_pack : (r : ℕ) → Piece → (bytes : List ℕ) → Pack
piece_pack r piece bytes =
    record {
      n = piece.nodes;
      r = r;
      dark = dark_list piece.dark;
      layers = layers_at r (take r piece.layers) (drop piece.place bytes);
    }

abbrev pub estate_packs : Estate → (first second third : List ℕ) → List Pack
estate_packs e first second third =
    piece_pack e.r e.a first ∷ piece_pack e.r e.b second ∷ piece_pack e.r e.c third ∷ []

-- what is read where a pack is given, and where none is: no node, no block, its blocks' place the end
abbrev pub read_piece : (given : Bool) (r : ℕ) → List ℕ → Checked (Located Pack)
read_piece true r bytes = read_pack bytes
read_piece false r bytes =
    accepted (record { content = record { n = 0; r = r; dark = []; layers = [] }; first = length bytes })

-- the refusal of a pack that was not accepted; the code asks it of no other
abbrev pub refusal_of : Result PackHead Refusal → Refusal
refusal_of (Ok head) = Unjoinable
refusal_of (Err e) = e

-- how many rows the packs with these mu's and m's bring into a layer with the joined mu
unfoldable pub joint_size : (mu : ℕ) → List LayerHead → ℕ
joint_size mu [] = 0
joint_size mu (head ∷ heads) = mu / head.bound * head.size + joint_size mu heads

-- a layer's joined mu, 4,097 where it is above 4,096, and its rows with that mu
abbrev pub capped_head : List LayerHead → LayerHead
capped_head heads =
    record { bound = min (joint_mu heads) 4_097; size = joint_size (min (joint_mu heads) 4_097) heads }

-- mu and m of layer x of each pack
abbrev pub heads_at : (x : ℕ) (a b c : List LayerHead) → List LayerHead
heads_at x a b c = get_or a x no_head ∷ get_or b x no_head ∷ get_or c x no_head ∷ []

abbrev pub capped_heads : (r : ℕ) (a b c : List LayerHead) → List LayerHead
capped_heads r a b c = map (λ x. capped_head (heads_at x a b c)) (up_to r)

abbrev pub joint_heads : (heads : List LayerHead) → JointHeads
joint_heads heads = record { most = largest (map (λ head. head.bound) heads); rows = sizes heads; heads = five_heads heads }

-- a layer's numbers are within a pack's limits, and its mu at least 1 where it has blocks
pub record HeadFits (head : LayerHead) : Type 0 where
  pub mu-most : head.bound ≤ 4_096
  pub size-most : head.size ≤ 4_096
  pub mu-least : 0 < head.size → 1 ≤ head.bound

abbrev pub HeadsFit : List LayerHead → Type 0
HeadsFit heads = (x : ℕ) → HeadFits (get_or heads x no_head)

-- the bytes, whole list after whole list
unfoldable pub copied_bytes : (copies : ℕ) → List ℕ → List ℕ
copied_bytes zero bytes = []
copied_bytes (suc copies) bytes = bytes ++ copied_bytes copies bytes

-- a pack's part of a layer with the joined mu, from the bytes of its blocks
abbrev pub part_bytes : (mu bound before : ℕ) (blocks : List ℕ) → List ℕ
part_bytes mu bound before blocks = copied_bytes (mu / bound) (map (λ v. before + v) blocks)

-- a layer, from the bytes of each pack's blocks
abbrev pub layer_bytes : Layering → (first second third : List ℕ) → List ℕ
layer_bytes l first second third =
    part_bytes l.mu l.a 0 first
    ++ (part_bytes l.mu l.b l.second second ++ part_bytes l.mu l.c l.third third)

-- the bytes of a pack's blocks of layer x
abbrev pub layer_blocks : (r : ℕ) → Piece → (bytes : List ℕ) (x : ℕ) → List ℕ
layer_blocks r piece bytes x =
    take ((get_or piece.layers x no_head).size * r) (drop (piece.place + sizes (take x piece.layers) * r) bytes)

abbrev pub layering : Estate → (mu x : ℕ) → Layering
layering e mu x =
    record {
      mu = mu;
      a = (get_or e.a.layers x no_head).bound;
      b = (get_or e.b.layers x no_head).bound;
      c = (get_or e.c.layers x no_head).bound;
      second = e.a.nodes;
      third = e.a.nodes + e.b.nodes;
    }

module _ (e : Estate) (heads : List LayerHead) (first second third : List ℕ) where
  -- layer x of the joined pack, with the mu of these heads
  abbrev pub layer_at : (x : ℕ) → List ℕ
  layer_at x =
      layer_bytes (layering e (get_or heads x no_head).bound x) (layer_blocks e.r e.a first x)
      (layer_blocks e.r e.b second x) (layer_blocks e.r e.c third x)

  -- the layers below x
  abbrev pub layers_below : (x : ℕ) → List ℕ
  layers_below x = flatten (map layer_at (up_to x))

-- a list of nodes out of service: as many as its count, strictly ascending and below the pack's own count
pub record ListFits (nodes : ℕ) (dark : Dark) : Type 0 where
  pub counted : length (dark_list dark) ≡ dark.count
  pub ordered : T (is_in_order nodes (dark_list dark))

-- three lists joined, where so many nodes come before those of the second and of the third
abbrev pub three_lists : (a b c : Dark) (second third : ℕ) → List ℕ
three_lists a b c second third =
    dark_list a ++ (map (λ v. second + v) (dark_list b) ++ map (λ v. third + v) (dark_list c))

-- what joining them asks: together at most 255, each number a byte
pub record ListsFit (a b c : Dark) (second third : ℕ) : Type 0 where
  pub counted-a : length (dark_list a) ≡ a.count
  pub counted-b : length (dark_list b) ≡ b.count
  pub counted-c : length (dark_list c) ≡ c.count
  pub few : a.count + b.count + c.count ≤ 255
  pub bytes-b : All (λ v. v < 256) (dark_list b)
  pub bytes-c : All (λ v. v < 256) (dark_list c)
  pub before-most : (second ≤ 255) × (third ≤ 255)

-- the list that is made of them
pub record ListJoined (a b c : Dark) (second third : ℕ) (dark : Dark) : Type 0 where
  pub counted : dark.count ≡ a.count + b.count + c.count
  pub joined : dark_list dark ≡ three_lists a b c second third

-- the numbers of the joined pack's head
abbrev pub joined_numbers : Base → List LayerHead → List ℕ
joined_numbers base heads = start_numbers 4 base ++ head_numbers (take base.r heads)

-- the blocks have nodes below the pack's own count, and are within the bytes
pub record PieceFits (r : ℕ) (piece : Piece) (bytes : List ℕ) : Type 0 where
  pub list : ListFits piece.nodes piece.dark
  pub heads : HeadsFit piece.layers
  pub whole : piece.place + sizes (take r piece.layers) * r ≤ length bytes
  pub below : All (λ v. v < piece.nodes) (drop piece.place bytes)

-- three packs, each with at most 255 nodes
pub record EstateFits (e : Estate) (first second third : List ℕ) : Type 0 where
  pub r-most : e.r ≤ 5
  pub fits-a : PieceFits e.r e.a first
  pub fits-b : PieceFits e.r e.b second
  pub fits-c : PieceFits e.r e.c third
  pub nodes-most : (e.a.nodes ≤ 255) × (e.b.nodes ≤ 255) × (e.c.nodes ≤ 255)

-- what writing the joined pack asks: it is within the limits, and these are its mu's and m's
pub record JointFits (e : Estate) (joint : JointHeads) (first second third : List ℕ) : Type 0 where
  pub estate : EstateFits e first second third
  pub all-nodes : e.a.nodes + e.b.nodes + e.c.nodes ≤ 255
  pub joint-is : joint ≡ joint_heads (capped_heads e.r e.a.layers e.b.layers e.c.layers)
  pub mu-most : joint.most ≤ 4_096
  pub rows-most : joint.rows ≤ 4_096

-- the slice with this part from a place on, and the others as they were
abbrev pub put_at : (at : ℕ) (part slice : List ℕ) → List ℕ
put_at at part slice = take at slice ++ over_start part (drop at slice)

-- what writing a pack's part of a layer asks: a mu where there are blocks, and node numbers that are bytes
pub record PartFits (bound before : ℕ) (blocks : List ℕ) : Type 0 where
  pub mu-least : 0 < length blocks → 1 ≤ bound
  pub nodes-most : All (λ v. before + v < 256) blocks
  pub before-most : before < 256

pub record LayerFits (l : Layering) (first second third : List ℕ) : Type 0 where
  pub part-a : PartFits l.a 0 first
  pub part-b : PartFits l.b l.second second
  pub part_c : PartFits l.c l.third third

-- what writing all layers asks: 255 nodes at most, and room
pub record LayersFit (e : Estate) (heads : List LayerHead) (first second third out : List ℕ) : Type 0 where
  pub estate : EstateFits e first second third
  pub all-nodes : e.a.nodes + e.b.nodes + e.c.nodes ≤ 255
  pub room : length (layers_below e heads first second third e.r) ≤ length out
