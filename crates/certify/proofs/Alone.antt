-- A list of m layers of which one has rows: its rows, its numbers, its packings and its loss. Assumes nothing.
use Prim.Native.Nat.{ℕ, zero, suc, ◌+◌, ◌≤◌, ◌<◌, zero-le}
use native.Mathlib.Omega.{arith}
use native.Mathlib.Nat.{le_of_suc-le-suc, not-suc-le-zero, zero-add, add-zero, suc-add, add-suc}
use mathlib.Core.Path.{◌≡◌, refl, sym, ◌∙◌, ap, subst}
use mathlib.Core.Logic.{◌⊎◌, inl, inr}
use mathlib.Core.Bool.{Bool, true, false}
use mathlib.Core.List.{List, [], ◌∷◌, map, flatten, append-nil}
use lib.ListN.{length, get_or, take, replicate, set, length-set, length-replicate, get_or-replicate}
use lib.Seq.{get_or-set_same, get_or-set_other}
use lib.Dec.{eqb}
use borrow.Author.Tests.{eqb-true, eqb-false}
use Rattle.lists.specs.Lists.{All, count, total}
use Rattle.packing.specs.Rows.{Packing, together}
use Rattle.layers.specs.Layers.{Layer, blocks_at, all_rows, head_of, heads_of, sizes, Packings}
use Rattle.layers.specs.declared.LayerHead.{LayerHead}
use Rattle.layers.proofs.Each.{packings-from}
use Rattle.placement.specs.Figure.{loss, losses}
use Rattle.placement.specs.declared.Rule.{Rule}

-- m layers, all without rows but layer x
abbrev pub empty_layer : (bound : ℕ) → Layer
empty_layer bound = record { bound = bound; rows = [] }

abbrev pub alone : (m other x : ℕ) → Layer → List Layer
alone m other x layer = set (replicate m (empty_layer other)) x layer

-- the same of their two numbers
abbrev pub alone_heads : (m other x : ℕ) → LayerHead → List LayerHead
alone_heads m other x head = set (replicate m (record { bound = other; size = 0 })) x head

module _ {A : Type 0} where
  -- what holds of all elements and of the one that is stored holds of all afterwards
  pub all_set : (P : A → Type 0) (l : List A) (i : ℕ) (a : A) → All P l → P a → All P (set l i a)
  all_set P [] i a h p = tt
  all_set P (b ∷ l) zero a h p = (p, h.1)
  all_set P (b ∷ l) (suc i) a h p = (h.0, all_set P l i a h.1 p)

  pub all_replicate : (P : A → Type 0) (n : ℕ) (a : A) → P a → All P (replicate n a)
  all_replicate P zero a p = tt
  all_replicate P (suc n) a p = (p, all_replicate P n a p)

  -- the first of them
  pub take-replicate-le : (m n : ℕ) (a : A) → m ≤ n → take m (replicate n a) ≡ replicate m a
  take-replicate-le zero n a h = refl
  take-replicate-le (suc m) zero a h = absurd (not-suc-le-zero h)
  take-replicate-le (suc m) (suc n) a h = ap (λ l. a ∷ l) (take-replicate-le m n a (le_of_suc-le-suc h))

  pub map-set : {B : Type 0} (f : A → B) (l : List A) (i : ℕ) (a : A) → map f (set l i a) ≡ set (map f l) i (f a)
  map-set f [] i a = refl
  map-set f (b ∷ l) zero a = refl
  map-set f (b ∷ l) (suc i) a = ap (λ l. f b ∷ l) (map-set f l i a)

  pub map-replicate : {B : Type 0} (f : A → B) (n : ℕ) (a : A) → map f (replicate n a) ≡ replicate n (f a)
  map-replicate f zero a = refl
  map-replicate f (suc n) a = ap (λ l. f a ∷ l) (map-replicate f n a)

  -- the element at a place: the one stored, or the others
  pub at_same : (m x : ℕ) (other a d : A) → x < m → get_or (set (replicate m other) x a) x d ≡ a
  at_same m x other a d h = get_or-set_same (replicate m other) x a d (rw (length-replicate m other) h)

  pub at_other : (m x y : ℕ) (other a d : A) → y < m → (y ≡ x → ⊥) → get_or (set (replicate m other) x a) y d ≡ other
  at_other m x y other a d h ne = get_or-set_other (replicate m other) x y a d ne ∙ get_or-replicate m y other d h

  pub length-alone : (m x : ℕ) (other a : A) → length (set (replicate m other) x a) ≡ m
  length-alone m x other a = length-set (replicate m other) x a ∙ length-replicate m other

-- a place is x or another
pub same-or-other : (x y : ℕ) → (y ≡ x) ⊎ (y ≡ x → ⊥)
same-or-other x y = go (eqb y x) refl
  where
    go : (b : Bool) → eqb y x ≡ b → (y ≡ x) ⊎ (y ≡ x → ⊥)
    go true e = inl (eqb-true y x e)
    go false e = inr (eqb-false y x e)

no_rows : (m other : ℕ) → all_rows (replicate m (empty_layer other)) ≡ []
unfolding flatten
no_rows zero other = refl
no_rows (suc m) other = no_rows m other

-- the rows of all layers are those of the one
pub rows-alone : (m other x : ℕ) (layer : Layer) → x < m → all_rows (alone m other x layer) ≡ layer.rows
unfolding flatten
rows-alone zero other x layer h = absurd (not-suc-le-zero h)
rows-alone (suc m) other zero layer h = rw (no_rows m other) (append-nil layer.rows)
rows-alone (suc m) other (suc x) layer h = rows-alone m other x layer (le_of_suc-le-suc h)

no-sizes : (m other : ℕ) → sizes (replicate m (record { bound = other; size = 0 })) ≡ 0
unfolding total
no-sizes zero other = refl
no-sizes (suc m) other = rw (no-sizes m other) (omega arith)

-- and so are their number
pub sizes-alone : (m other x : ℕ) (head : LayerHead) → x < m → sizes (alone_heads m other x head) ≡ head.size
unfolding total
sizes-alone zero other x head h = absurd (not-suc-le-zero h)
sizes-alone (suc m) other zero head h = rw (no-sizes m other) (omega arith)
sizes-alone (suc m) other (suc x) head h = rw (sizes-alone m other x head (le_of_suc-le-suc h)) (omega arith)

pub heads-alone : (m other x : ℕ) (layer : Layer) → heads_of (alone m other x layer) ≡ alone_heads m other x (head_of layer)
heads-alone m other x layer =
    map-set head_of (replicate m (empty_layer other)) x layer
    ∙ ap (λ l. set l x (head_of layer)) (map-replicate head_of m (empty_layer other))

-- layers without rows are packings with any bound
empty-packing : (y bound : ℕ) → Packing y bound []
unfolding together count
empty-packing y bound nodes size apart = zero-le

pub packings-alone : (m other x : ℕ) (layer : Layer) → Packing x layer.bound layer.rows → Packings 0 (alone m other x layer)
packings-alone m other x layer p = packings-from 0 (alone m other x layer) each
  where
    each : (y : ℕ) → y < length (alone m other x layer)
        → Packing (0 + y) (blocks_at (alone m other x layer) y).bound (blocks_at (alone m other x layer) y).rows
    each y lt =
        let below : y < m = subst (λ (n : ℕ). y < n) (length-alone m x (empty_layer other) layer) lt in
        rw (zero-add y) (go below (same-or-other x y))
      where
        go : y < m → (y ≡ x) ⊎ (y ≡ x → ⊥) → Packing y (blocks_at (alone m other x layer) y).bound (blocks_at (alone m other x layer) y).rows
        go below (inl e) =
            rw e
            (subst (λ (l : Layer). Packing x l.bound l.rows)
            (sym (at_same m x (empty_layer other) layer (empty_layer 0) (rw e at below))) p)
        go below (inr ne) =
            subst (λ (l : Layer). Packing y l.bound l.rows)
            (sym (at_other m x y (empty_layer other) layer (empty_layer 0) below ne)) (empty-packing y other)

-- no row is lost in the others
loss-none : (rule : Rule) (s k o other : ℕ) → loss rule s k o (record { bound = other; size = 0 }) ≡ 0
unfolding loss
loss-none rule s k o other = omega arith

no-losses : (rule : Rule) (s k o m other : ℕ) → losses rule s k o (replicate m (record { bound = other; size = 0 })) ≡ 0
unfolding losses
no-losses rule s k o zero other = refl
no-losses rule s k o (suc m) other = rw (loss-none rule s k o other, no-losses rule s k (suc o) m other)

losses-from : (rule : Rule) (s k o m other x : ℕ) (head : LayerHead) → x < m
    → losses rule s k o (alone_heads m other x head) ≡ loss rule s k (o + x) head
unfolding losses
losses-from rule s k o zero other x head h = absurd (not-suc-le-zero h)
losses-from rule s k o (suc m) other zero head h = rw (no-losses rule s k (suc o) m other, add-zero o) (omega arith)
losses-from rule s k o (suc m) other (suc x) head h =
    rw (loss-none rule s k o other, losses-from rule s k (suc o) m other x head (le_of_suc-le-suc h), add-suc o x, suc-add o x) (zero-add _)

pub losses-alone : (rule : Rule) (s k m other x : ℕ) (head : LayerHead) → x < m
    → losses rule s k 0 (alone_heads m other x head) ≡ loss rule s k x head
losses-alone rule s k m other x head h = losses-from rule s k 0 m other x head h ∙ ap (λ y. loss rule s k y head) (zero-add x)
