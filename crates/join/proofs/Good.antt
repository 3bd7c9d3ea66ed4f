-- The joined pack of good packs that can be joined is good, and its bytes are accepted as it. Assumes nothing.
use Prim.Native.Nat.{ℕ, ◌+◌, ◌≤◌, ◌<◌}
use native.Mathlib.Omega.{arith}
use native.Mathlib.Nat.{zero-add}
use mathlib.Core.Path.{◌≡◌, sym, ap, subst}
use mathlib.Core.Bool.{◌&&◌}
use mathlib.Core.List.{List, [], ◌∷◌, map, map-map}
use lib.ListN.{length}
use lib.Dec.{T, leb, eqb, leb→le, eqb→eq}
use Rattle.lists.specs.Lists.{All, every, largest, total, up_to}
use Rattle.lists.proofs.Tests.{and_left, and_right}
use Rattle.lists.proofs.Alls.{all_map, all_of_map, all-imp, all-flatten, all_both, every-all, all-get_d-default}
use Rattle.lists.proofs.UpTo.{length-map-up_to, all-up_to, get_d-map-up_to}
use Rattle.refusal.specs.Checked.{accepted}
use Rattle.packing.specs.Rows.{Row, Packing}
use Rattle.layers.specs.Layers.{Layer, BaseLimits, Names, InService, blocks_at, head_of, heads_of, sizes, all_rows, Packings}
use Rattle.layers.proofs.Each.{row_below, layer-rows, packing-at, packings-from}
use Rattle.pack.specs.Pack.{Pack, GoodPack, bytes_of_pack, check_pack}
use Rattle.pack.proofs.Written.{pack-written-accepted}
use Rattle.join.specs.Join.{Chunk, joint_mu, chunk_heads, joint_layer, chunks_at, joint_dark, first_r, joined_pack, within_limits, joinable}
use Rattle.join.proofs.Mu.{MuLeast, joint_mu-least}
use Rattle.join.proofs.Layers.{ChunkPacking, joint-packing, joint-rows, nodes_of}
use Rattle.join.proofs.Listed.{Serves, joint-ordered, joint-service}

-- every number is at most what the largest is at most
pub all-le-largest : (l : List ℕ) (m : ℕ) → largest l ≤ m → All (λ v. v ≤ m) l
unfolding largest
all-le-largest [] m h = tt
all-le-largest (n ∷ l) m h = (omega arith, all-le-largest l m (omega arith))

-- what 13 leaves
pub record Joins (packs : List Pack) : Type 0 where
  pub same-r : All (λ p. p.r ≡ first_r packs) packs
  pub n-most : (joined_pack packs).n ≤ 255
  pub rows-most : sizes (heads_of (joined_pack packs).layers) ≤ 4_096
  pub mu-most : All (λ layer. layer.bound ≤ 4_096) (joined_pack packs).layers

pub joins_of : (packs : List Pack) → T (joinable packs) → Joins packs
unfolding joinable
joins_of packs t =
    let p = joined_pack packs in
    let r = and_left (every (λ p. eqb p.r (first_r packs)) packs) (within_limits p) t in
    let within = and_right (every (λ p. eqb p.r (first_r packs)) packs) (within_limits p) t in
    let nodes-rows = leb p.n 255 && leb (sizes (heads_of p.layers)) 4_096 in
    let mu = leb (largest (map (λ layer. layer.bound) p.layers)) 4_096 in
    let first = and_left nodes-rows mu within in
    record {
      same-r = all-imp _ _ (λ q e. eqb→eq q.r (first_r packs) e) packs (every-all _ packs r);
      n-most = leb→le p.n 255 (and_left (leb p.n 255) (leb (sizes (heads_of p.layers)) 4_096) first);
      rows-most = leb→le (sizes (heads_of p.layers)) 4_096 (and_right (leb p.n 255) (leb (sizes (heads_of p.layers)) 4_096) first);
      mu-most =
          all_of_map _ _ p.layers
          (all-le-largest (map (λ layer. layer.bound) p.layers) 4_096 (leb→le (largest (map (λ layer. layer.bound) p.layers)) 4_096 (and_right nodes-rows mu within)));
    }

abbrev joint_at : (packs : List Pack) → ℕ → Layer
joint_at packs x = joint_layer (chunks_at x packs)

chunks-nodes : (x : ℕ) (packs : List Pack) → nodes_of (chunks_at x packs) ≡ total (map (λ p. p.n) packs)
chunks-nodes x packs = ap total (map-map (λ (chunk : Chunk). chunk.nodes) (λ p. record { nodes = p.n; layer = blocks_at p.layers x }) packs)

-- where a layer has blocks its mu is at least 1
mu-least-at : (p : Pack) (x : ℕ) → GoodPack p → MuLeast (head_of (blocks_at p.layers x))
mu-least-at p x g =
    all-get_d-default (λ layer. 0 < length layer.rows → 1 ≤ layer.bound) p.layers x (record { bound = 0; rows = [] })
    (λ some. absurd (omega arith))
    (all-imp _ _ (λ layer h some. h.0) p.layers g.limits.mu-limits)

pub mu-least : (x : ℕ) (packs : List Pack) → All GoodPack packs → All MuLeast (chunk_heads (chunks_at x packs))
mu-least x packs g =
    all_map _ _ (chunks_at x packs) (all_map _ _ packs (all-imp GoodPack _ (λ p h. mu-least-at p x h) packs g))

module _ (packs : List Pack) (good : All GoodPack packs) (joins : Joins packs) where
  chunk-packings : (x : ℕ) → x < first_r packs → All (ChunkPacking x) (chunks_at x packs)
  chunk-packings x lt = all_map (ChunkPacking x) _ packs (all-imp _ _ each packs (all_both _ _ packs good joins.same-r))
    where
      each : (p : Pack) → GoodPack p × (p.r ≡ first_r packs) → ChunkPacking x (record { nodes = p.n; layer = blocks_at p.layers x })
      each p (g, r) =
          record {
            below =
                all-imp (Row p.n p.r) _ (row_below p.n p.r) (blocks_at p.layers x).rows
                (layer-rows (Row p.n p.r) p.layers x g.rows);
            packing = rw (zero-add x) at (packing-at 0 p.layers x (omega (arith, g.limits.layer-each)) g.packings);
          }

  chunk-rows : (x : ℕ) → All (λ chunk. All (Row chunk.nodes (first_r packs)) chunk.layer.rows) (chunks_at x packs)
  chunk-rows x = all_map _ _ packs (all-imp _ _ each packs (all_both _ _ packs good joins.same-r))
    where
      each : (p : Pack) → GoodPack p × (p.r ≡ first_r packs) → All (Row p.n (first_r packs)) (blocks_at p.layers x).rows
      each p (g, r) = layer-rows (Row p.n (first_r packs)) p.layers x (subst (λ r. All (Row p.n r) (all_rows p.layers)) r g.rows)

  joined-rows : All (Row (joined_pack packs).n (first_r packs)) (all_rows (joined_pack packs).layers)
  unfolding joined_pack
  joined-rows =
      all-flatten (Row (joined_pack packs).n (first_r packs)) (map (λ layer. layer.rows) (map (joint_at packs) (up_to (first_r packs))))
      (rw (map-map (λ layer. layer.rows) (joint_at packs) (up_to (first_r packs)))
      (all_map _ (λ x. (joint_at packs x).rows) (up_to (first_r packs)) (all-up_to _ (first_r packs) each)))
    where
      each : (x : ℕ) → x < first_r packs → All (Row (joined_pack packs).n (first_r packs)) (joint_at packs x).rows
      each x lt =
          joint-rows (joint_mu (chunk_heads (chunks_at x packs))) (first_r packs) (joined_pack packs).n 0 (chunks_at x packs)
          (omega (arith, chunks-nodes x packs)) (chunk-rows x)

  chunk-serves : (x : ℕ) → All (Serves x) packs
  chunk-serves x = all-imp GoodPack (Serves x) each packs good
    where
      each : (p : Pack) → GoodPack p → Serves x p
      each p g =
          record {
            below =
                all-imp (Row p.n p.r) _ (row_below p.n p.r) (blocks_at p.layers x).rows
                (layer-rows (Row p.n p.r) p.layers x g.rows);
            in-service = layer-rows (λ row. Names p.dark row → ⊥) p.layers x g.in-service;
            ordered = g.limits.dark-order;
          }

  joined-service : InService (joined_pack packs).dark (all_rows (joined_pack packs).layers)
  unfolding joined_pack
  joined-service =
      all-flatten (λ row. Names (joint_dark 0 packs) row → ⊥) (map (λ layer. layer.rows) (map (joint_at packs) (up_to (first_r packs))))
      (rw (map-map (λ layer. layer.rows) (joint_at packs) (up_to (first_r packs)))
      (all_map _ (λ x. (joint_at packs x).rows) (up_to (first_r packs))
      (all-up_to _ (first_r packs) (λ x lt. joint-service x (joint_mu (chunk_heads (chunks_at x packs))) 0 packs (chunk-serves x)))))

  joined-packings : Packings 0 (joined_pack packs).layers
  unfolding joined_pack
  joined-packings = packings-from 0 (map (joint_at packs) (up_to (first_r packs))) each
    where
      each : (x : ℕ) → x < length (map (joint_at packs) (up_to (first_r packs)))
          → Packing (0 + x) (blocks_at (map (joint_at packs) (up_to (first_r packs))) x).bound (blocks_at (map (joint_at packs) (up_to (first_r packs))) x).rows
      each x lt =
          let below : x < first_r packs = subst (λ (m : ℕ). x < m) (length-map-up_to (joint_at packs) (first_r packs)) lt in
          subst (λ (layer : Layer). Packing (0 + x) layer.bound layer.rows)
          (sym (get_d-map-up_to (joint_at packs) (first_r packs) x (record { bound = 0; rows = [] }) below))
          (rw (zero-add x) (joint-packing x (chunks_at x packs) (chunk-packings x below)))

  joined-mu : All (λ layer. (1 ≤ layer.bound) × (layer.bound ≤ 4_096)) (joined_pack packs).layers
  unfolding joined_pack
  joined-mu = all_both (λ layer. 1 ≤ layer.bound) (λ layer. layer.bound ≤ 4_096) (joined_pack packs).layers least joins.mu-most
    where
      least : All (λ layer. 1 ≤ layer.bound) (joined_pack packs).layers
      least = all_map _ (joint_at packs) (up_to (first_r packs)) (all-up_to _ (first_r packs) (λ x lt. joint_mu-least _ (mu-least x packs good)))

joined-base : (packs : List Pack) → 0 < length packs → All GoodPack packs → Joins packs
    → BaseLimits (joined_pack packs).n (joined_pack packs).r
unfolding joined_pack total
joined-base [] some good joins = absurd (omega arith)
joined-base (p ∷ packs) some good joins =
    let b = good.0.limits.base in
    record {
      n-least = omega arith;
      n-most = joins.n-most;
      r-least = b.r-least;
      r-most = b.r-most;
      r-nodes = omega arith;
    }

pub joined-good : (packs : List Pack) → 0 < length packs → All GoodPack packs → Joins packs → GoodPack (joined_pack packs)
unfolding joined_pack
joined-good packs some good joins =
    record {
      limits =
          record {
            base = joined-base packs some good joins;
            dark-order = joint-ordered packs (all-imp GoodPack _ (λ p g. g.limits.dark-order) packs good);
            layer-each = length-map-up_to (joint_at packs) (first_r packs);
            mu-limits = joined-mu packs good joins;
            blocks-most = joins.rows-most;
          };
      rows = joined-rows packs good joins;
      in-service = joined-service packs good joins;
      packings = joined-packings packs good joins;
    }

-- "The joined pack is accepted by the pack checker"
pub joined-accepted : (packs : List Pack) → 0 < length packs → All GoodPack packs → Joins packs
    → check_pack (bytes_of_pack (joined_pack packs)) ≡ accepted (joined_pack packs)
joined-accepted packs some good joins = pack-written-accepted (joined_pack packs) (joined-good packs some good joins)
