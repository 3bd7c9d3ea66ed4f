-- One, two or three packs as three: a pack that is not there changes nothing. Assumes nothing.
use Prim.Native.Nat.{ℕ, zero, suc, ◌+◌, ◌/◌}
use native.Mathlib.Omega.{arith}
use mathlib.Core.Path.{◌≡◌, refl, ◌∙◌, ap}
use mathlib.Core.Bool.{◌&&◌}
use mathlib.Core.List.{List, [], ◌∷◌, ◌++◌, map, map-append}
use lib.Dec.{eqb}
use borrow.Author.Tests.{eq-eqb}
use Rattle.lists.specs.Lists.{every, total}
use Rattle.lists.proofs.Counts.{total-append}
use Rattle.lists.proofs.UpTo.{map-up_to-congr}
use Rattle.layers.specs.Layers.{blocks_at, head_of}
use Rattle.layers.specs.Answers.{no_head}
use Rattle.layers.specs.declared.LayerHead.{LayerHead}
use Rattle.pack.specs.Pack.{Pack}
use Rattle.join.specs.Join.{Chunk, with_mu, shifted, copied, joint_mu, joint_rows, chunk_heads, joint_layer, chunks_at, joint_dark, joined_pack, joinable, join_packs}

-- no node and no block
abbrev no_chunk : Chunk
no_chunk = record { nodes = 0; layer = record { bound = 0; rows = [] } }

copied_none : (copies : ℕ) → copied copies [] ≡ []
unfolding copied
copied_none zero = refl
copied_none (suc copies) = copied_none copies

mu-none : (heads : List LayerHead) → joint_mu (heads ++ (no_head ∷ [])) ≡ joint_mu heads
unfolding joint_mu
mu-none [] = refl
mu-none (head ∷ heads) = ap (with_mu head.size head.bound) (mu-none heads)

rows_none : (mu before : ℕ) (chunks : List Chunk) → joint_rows mu before (chunks ++ (no_chunk ∷ [])) ≡ joint_rows mu before chunks
unfolding joint_rows shifted
rows_none mu before [] = rw (copied_none (mu / 0))
rows_none mu before (chunk ∷ chunks) = rw (rows_none mu (before + chunk.nodes) chunks)

layer-none : (chunks : List Chunk) → joint_layer (chunks ++ (no_chunk ∷ [])) ≡ joint_layer chunks
layer-none chunks =
    rw (map-append (λ (chunk : Chunk). head_of chunk.layer) chunks (no_chunk ∷ []), mu-none (chunk_heads chunks), rows_none (joint_mu (chunk_heads chunks)) 0 chunks)

-- a pack without nodes, whose layers have no block, of the others' r
pub record Absent (r : ℕ) (p : Pack) : Type 0 where
  pub no-nodes : p.n ≡ 0
  pub no-list : p.dark ≡ []
  pub same-r : p.r ≡ r
  pub no_blocks : (x : ℕ) → blocks_at p.layers x ≡ record { bound = 0; rows = [] }

module _ (first : Pack) (more : List Pack) (none : Pack) (absent : Absent first.r none) where
  abbrev packs : List Pack
  packs = first ∷ more

  chunk-none : (x : ℕ) → chunks_at x (packs ++ (none ∷ [])) ≡ chunks_at x packs ++ (no_chunk ∷ [])
  chunk-none x =
      map-append (λ (p : Pack). record { nodes = p.n; layer = blocks_at p.layers x }) packs (none ∷ [])
      ∙ (λ i. chunks_at x packs ++ (record { nodes = absent.no-nodes i; layer = absent.no_blocks x i } ∷ []))

  list-none : (before : ℕ) (l : List Pack) → joint_dark before (l ++ (none ∷ [])) ≡ joint_dark before l
  unfolding joint_dark
  list-none before [] = rw absent.no-list
  list-none before (p ∷ l) = ap (λ (m : List ℕ). map (λ v. before + v) p.dark ++ m) (list-none (before + p.n) l)

  joined-none : joined_pack (packs ++ (none ∷ [])) ≡ joined_pack packs
  unfolding joined_pack total
  joined-none =
      let n-is : total (map (λ (p : Pack). p.n) (packs ++ (none ∷ []))) ≡ total (map (λ (p : Pack). p.n) packs) =
      ap total (map-append (λ (p : Pack). p.n) packs (none ∷ []))
      ∙ total-append (map (λ (p : Pack). p.n) packs) (none.n ∷ [])
      ∙ omega (arith, absent.no-nodes) in
      let layers-are =
      map-up_to-congr (λ x. joint_layer (chunks_at x (packs ++ (none ∷ [])))) (λ x. joint_layer (chunks_at x packs)) first.r
      (λ x lt. ap joint_layer (chunk-none x) ∙ layer-none (chunks_at x packs)) in
      λ i. record { n = n-is i; r = first.r; dark = list-none 0 packs i; layers = layers-are i }

  every-none : (l : List Pack) → every (λ p. eqb p.r first.r) (l ++ (none ∷ [])) ≡ every (λ p. eqb p.r first.r) l
  unfolding every
  every-none [] = rw (eq-eqb none.r first.r absent.same-r)
  every-none (p ∷ l) = ap (λ b. eqb p.r first.r && b) (every-none l)

  -- it changes nothing
  pub join-none : (output : ℕ) → join_packs (packs ++ (none ∷ [])) output ≡ join_packs packs output
  unfolding join_packs joinable
  join-none output = rw (every-none packs, joined-none)
