-- The joined layer: its rows are a packing with the joined mu, blocks of different packs share no node, and its rows are rows
-- of the joined nodes. For any x and any list of packings. Assumes nothing.
use Prim.Native.Nat.{ℕ, ◌+◌, ◌/◌, ◌≤◌, ◌<◌}
use native.Mathlib.Omega.{arith}
use native.Mathlib.Nat.{le_trans, mul-le-mul_left, div-mul-le_self}
use mathlib.Core.Path.{◌≡◌, refl, sym, subst}
use mathlib.Core.Logic.{◌⊎◌, inl, inr}
use mathlib.Core.List.{List, [], ◌∷◌, ◌++◌, map, append_assoc}
use lib.Dec.{T}
use Rattle.lists.specs.Lists.{All, count, total}
use Rattle.lists.proofs.Arith.{le-or-lt}
use Rattle.lists.proofs.Alls.{all_append, all-imp}
use Rattle.lists.proofs.Counts.{count-append}
use Rattle.lists.proofs.DoubleCount.{count-none-all}
use Rattle.packing.specs.Rows.{Row, member, holds, together, Packing}
use Rattle.packing.proofs.Members.{member-cases, member-here, member-of-holds}
use Rattle.join.specs.Join.{Chunk, shifted, copied, joint_mu, joint_rows, chunk_heads, joint_layer}
use Rattle.join.proofs.Shifted.{shifted-packing, shifted-low, shifted-high, all-shifted, shifted_row, all-copied, count-copied}

-- a packing of nodes below the pack's own count
pub record ChunkPacking (x : ℕ) (chunk : Chunk) : Type 0 where
  pub below : All (All (λ v. v < chunk.nodes)) chunk.layer.rows
  pub packing : Packing x chunk.layer.bound chunk.layer.rows

-- what holds of a row's nodes holds of a node that stands in it
pub of-member : (P : ℕ → Type 0) (row : List ℕ) → All P row → (v : ℕ) → T (member v row) → P v
unfolding member
of-member P [] h v m = absurd m
of-member P (w ∷ row) h v m = go (member-cases v w row m) (of-member P row h.1 v)
  where
    go : (v ≡ w) ⊎ T (member v row) → (T (member v row) → P v) → P v
    go (inl e) later = subst P (sym e) h.0
    go (inr n) later = later n

none_above : (most v : ℕ) → most ≤ v → (rows : List (List ℕ)) → All (All (λ w. w < most)) rows → All (λ row. T (member v row) → ⊥) rows
none_above most v high rows h = all-imp (All (λ w. w < most)) (λ row. T (member v row) → ⊥) each rows h
  where
    each : (row : List ℕ) → All (λ w. w < most) row → T (member v row) → ⊥
    each row r m = let lt = of-member (λ w. w < most) row r v m in omega arith

none_below : (least v : ℕ) → v < least → (rows : List (List ℕ)) → All (All (λ w. least ≤ w)) rows → All (λ row. T (member v row) → ⊥) rows
none_below least v low rows h = all-imp (All (λ w. least ≤ w)) (λ row. T (member v row) → ⊥) each rows h
  where
    each : (row : List ℕ) → All (λ w. least ≤ w) row → T (member v row) → ⊥
    each row r m = let le = of-member (λ w. least ≤ w) row r v m in omega arith

-- nodes of which one stands in no row
together-none : (rows : List (List ℕ)) (v : ℕ) (nodes : List ℕ) → T (member v nodes) → All (λ row. T (member v row) → ⊥) rows
    → together rows nodes ≡ 0
unfolding together
together-none rows v nodes m h =
    count-none-all (λ row. holds row nodes) rows (all-imp _ _ (λ row none t. none (member-of-holds row nodes t v m)) rows h)

together-append : (rows more : List (List ℕ)) (nodes : List ℕ) → together (rows ++ more) nodes ≡ together rows nodes + together more nodes
unfolding together
together-append rows more nodes = count-append (λ row. holds row nodes) rows more

-- the part of a layer that comes from one pack
abbrev pub part : (mu before : ℕ) → Chunk → List (List ℕ)
part mu before chunk = copied (mu / chunk.layer.bound) (shifted before chunk.layer.rows)

module _ (mu : ℕ) where
  -- copies × its mu is at most the joined mu
  part-packing : (x before : ℕ) (chunk : Chunk) → ChunkPacking x chunk → Packing x mu (part mu before chunk)
  unfolding together
  part-packing x before chunk c nodes size apart =
      let copies = mu / chunk.layer.bound in
      let few = shifted-packing before x chunk.layer.bound chunk.layer.rows c.packing nodes size apart in
      rw (count-copied (λ row. holds row nodes) copies (shifted before chunk.layer.rows))
      (le_trans (mul-le-mul_left copies few) (div-mul-le_self mu chunk.layer.bound))

  part_low : (before : ℕ) (chunk : Chunk) → All (All (λ v. before ≤ v)) (part mu before chunk)
  part_low before chunk = all-copied _ (mu / chunk.layer.bound) _ (shifted-low before chunk.layer.rows)

  part-high : (x before : ℕ) (chunk : Chunk) → ChunkPacking x chunk → All (All (λ v. v < before + chunk.nodes)) (part mu before chunk)
  part-high x before chunk c =
      all-copied _ (mu / chunk.layer.bound) _ (shifted-high before chunk.nodes chunk.layer.rows c.below)

  -- no node of the packs from here on is below those before
  pub joint-low : (before : ℕ) (chunks : List Chunk) → All (All (λ v. before ≤ v)) (joint_rows mu before chunks)
  unfolding joint_rows
  joint-low before [] = tt
  joint-low before (chunk ∷ chunks) =
      all_append (All (λ v. before ≤ v)) (part mu before chunk) (joint_rows mu (before + chunk.nodes) chunks) (part_low before chunk)
      (all-imp (All (λ v. before + chunk.nodes ≤ v)) (All (λ v. before ≤ v)) lower (joint_rows mu (before + chunk.nodes) chunks)
      (joint-low (before + chunk.nodes) chunks))
    where
      lower : (row : List ℕ) → All (λ v. before + chunk.nodes ≤ v) row → All (λ v. before ≤ v) row
      lower row h = all-imp (λ v. before + chunk.nodes ≤ v) (λ v. before ≤ v) (λ v l. omega arith) row h

  -- a set of nodes stands in the rows of one pack alone
  pub joint-few : (x before : ℕ) (chunks : List Chunk) → All (ChunkPacking x) chunks → Packing x mu (joint_rows mu before chunks)
  unfolding joint_rows together count
  joint-few x before [] h nodes size apart = omega arith
  joint-few x before (chunk ∷ chunks) h [] size apart = absurd (omega arith)
  joint-few x before (chunk ∷ chunks) h (v ∷ nodes) size apart =
      rw (together-append (part mu before chunk) (joint_rows mu (before + chunk.nodes) chunks) (v ∷ nodes))
      (go (le-or-lt (before + chunk.nodes) v)
      (joint-few x (before + chunk.nodes) chunks h.1 (v ∷ nodes) size apart))
    where
      rest : List (List ℕ)
      rest = joint_rows mu (before + chunk.nodes) chunks

      go : (before + chunk.nodes ≤ v) ⊎ (v < before + chunk.nodes) → together rest (v ∷ nodes) ≤ mu
          → together (part mu before chunk) (v ∷ nodes) + together rest (v ∷ nodes) ≤ mu
      go (inl high) few =
          let none = together-none (part mu before chunk) v (v ∷ nodes) (member-here v v nodes refl)
          (none_above (before + chunk.nodes) v high (part mu before chunk) (part-high x before chunk h.0)) in
          omega arith
      go (inr low) few =
          let none = together-none rest v (v ∷ nodes) (member-here v v nodes refl)
          (none_below (before + chunk.nodes) v low rest (joint-low (before + chunk.nodes) chunks)) in
          omega (arith, part-packing x before chunk h.0 (v ∷ nodes) size apart)

-- The joined layer is a packing with the joined mu.
pub joint-packing : (x : ℕ) (chunks : List Chunk) → All (ChunkPacking x) chunks
    → Packing x (joint_layer chunks).bound (joint_layer chunks).rows
joint-packing x chunks h = joint-few (joint_mu (chunk_heads chunks)) x 0 chunks h

-- The rows are rows of the joined nodes.
abbrev pub nodes_of : List Chunk → ℕ
nodes_of chunks = total (map (λ chunk. chunk.nodes) chunks)

pub joint-rows : (mu r all before : ℕ) (chunks : List Chunk) → before + nodes_of chunks ≤ all
    → All (λ chunk. All (Row chunk.nodes r) chunk.layer.rows) chunks → All (Row all r) (joint_rows mu before chunks)
unfolding joint_rows total
joint-rows mu r all before [] fits h = tt
joint-rows mu r all before (chunk ∷ chunks) fits h =
    all_append (Row all r) (part mu before chunk) (joint_rows mu (before + chunk.nodes) chunks)
    (all-copied (Row all r) (mu / chunk.layer.bound) (shifted before chunk.layer.rows)
    (all-shifted before (Row all r) chunk.layer.rows
    (all-imp _ _ (shifted_row before chunk.nodes r all (omega arith)) chunk.layer.rows h.0)))
    (joint-rows mu r all (before + chunk.nodes) chunks (omega arith) h.1)

-- The rows of a pack stand after those of the packs before it.
pub joint-split : (mu before : ℕ) (first : List Chunk) (chunk : Chunk) (more : List Chunk)
    → joint_rows mu before (first ++ (chunk ∷ more))
    ≡ joint_rows mu before first ++ (part mu (before + nodes_of first) chunk ++ joint_rows mu (before + nodes_of first + chunk.nodes) more)
unfolding joint_rows total
joint-split mu before [] chunk more = let e : before + 0 ≡ before = omega arith in rw e
joint-split mu before (other ∷ first) chunk more =
    let e : before + (other.nodes + nodes_of first) ≡ before + other.nodes + nodes_of first = omega arith in
    rw (
      joint-split mu (before + other.nodes) first chunk more,
      append_assoc (part mu before other) (joint_rows mu (before + other.nodes) first),
      e,
    )

-- Blocks of different packs share no node: `before` nodes come before the one, and the other comes after it.
pub parts-apart : (mu x before after : ℕ) (chunk other : Chunk) → ChunkPacking x chunk → before + chunk.nodes ≤ after
    → All (λ a. All (λ b. (v : ℕ) → T (member v a) → T (member v b) → ⊥) (part mu after other)) (part mu before chunk)
parts-apart mu x before after chunk other c order =
    all-imp (All (λ v. v < before + chunk.nodes)) _ one (part mu before chunk) (part-high mu x before chunk c)
  where
    one : (a : List ℕ) → All (λ v. v < before + chunk.nodes) a
        → All (λ b. (v : ℕ) → T (member v a) → T (member v b) → ⊥) (part mu after other)
    one a high = all-imp (All (λ v. after ≤ v)) _ two (part mu after other) (part_low mu after other)
      where
        two : (b : List ℕ) → All (λ v. after ≤ v) b → (v : ℕ) → T (member v a) → T (member v b) → ⊥
        two b low v m n =
            let lt = of-member (λ w. w < before + chunk.nodes) a high v m in
            let le = of-member (λ w. after ≤ w) b low v n in
            omega arith
