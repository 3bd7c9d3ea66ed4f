-- Nodes as members: what a row holds, rows in order have no node twice, and a node taken out. Assumes nothing.
use Prim.Native.Nat.{ℕ, suc, ◌≤◌}
use native.Mathlib.Omega.{arith}
use mathlib.Core.Path.{◌≡◌, refl, subst, ap}
use mathlib.Core.Logic.{◌⊎◌, inl, inr}
use mathlib.Core.Bool.{Bool, true, false, not, cond, ◌||◌}
use mathlib.Core.List.{List, [], ◌∷◌}
use lib.ListN.{length}
use lib.Dec.{T, leb, eqb, leb→le, eqb→eq, eqb_refl, T_not, not_T}
use Rattle.lists.specs.Lists.{All, every}
use Rattle.lists.proofs.Tests.{T_true, false-T, and_left, and_right, and_both, or_left, or_right, or_cases}
use Rattle.lists.proofs.Alls.{all-imp}
use Rattle.packing.specs.Rows.{ascending, Row, member, distinct, holds}

-- a member is the first node or one of the others
pub member-cases : (v w : ℕ) (nodes : List ℕ) → T (member v (w ∷ nodes)) → (v ≡ w) ⊎ T (member v nodes)
unfolding member
member-cases v w nodes t = go (or_cases (eqb v w) (member v nodes) t)
  where
    go : T (eqb v w) ⊎ T (member v nodes) → (v ≡ w) ⊎ T (member v nodes)
    go (inl e) = inl (eqb→eq v w e)
    go (inr m) = inr m

pub member-here : (v w : ℕ) (nodes : List ℕ) → v ≡ w → T (member v (w ∷ nodes))
unfolding member
member-here v w nodes e = or_left (eqb v w) (member v nodes) (subst (λ u. T (eqb v u)) e (eqb_refl v))

pub member-later : (v w : ℕ) (nodes : List ℕ) → T (member v nodes) → T (member v (w ∷ nodes))
unfolding member
member-later v w nodes m = or_right (eqb v w) (member v nodes) m

-- a row holds nodes exactly where each member of them is a member of it
pub member-of-holds : (row nodes : List ℕ) → T (holds row nodes) → (v : ℕ) → T (member v nodes) → T (member v row)
unfolding holds every member
member-of-holds row [] h v m = absurd m
member-of-holds row (w ∷ nodes) h v m = go (member-cases v w nodes m)
    (member-of-holds row nodes (and_right (member w row) (every (λ u. member u row) nodes) h) v)
  where
    go : (v ≡ w) ⊎ T (member v nodes) → (T (member v nodes) → T (member v row)) → T (member v row)
    go (inl e) ih = rw e (and_left (member w row) (every (λ u. member u row) nodes) h)
    go (inr n) ih = ih n

pub holds-of-member : (row nodes : List ℕ) → ((v : ℕ) → T (member v nodes) → T (member v row)) → T (holds row nodes)
unfolding holds every
holds-of-member row [] h = tt
holds-of-member row (w ∷ nodes) h =
    and_both (member w row) (every (λ u. member u row) nodes) (h w (member-here w w nodes refl))
    (holds-of-member row nodes (λ v m. h v (member-later v w nodes m)))

-- the first of distinct nodes is none of the others
pub distinct_head : (v : ℕ) (nodes : List ℕ) → T (distinct (v ∷ nodes)) → T (member v nodes) → ⊥
unfolding distinct
distinct_head v nodes d = T_not (member v nodes) (and_left (not (member v nodes)) (distinct nodes) d)

pub distinct_tail : (v : ℕ) (nodes : List ℕ) → T (distinct (v ∷ nodes)) → T (distinct nodes)
unfolding distinct
distinct_tail v nodes d = and_right (not (member v nodes)) (distinct nodes) d

pub distinct_cons : (v : ℕ) (nodes : List ℕ) → (T (member v nodes) → ⊥) → T (distinct nodes) → T (distinct (v ∷ nodes))
unfolding distinct
distinct_cons v nodes n d = and_both (not (member v nodes)) (distinct nodes) (not_T (member v nodes) n) d

-- the nodes of an ascending row are at least its bound, and distinct
pub ascending-head : (lo v : ℕ) (row : List ℕ) → T (ascending lo (v ∷ row)) → lo ≤ v
unfolding ascending
ascending-head lo v row a = leb→le lo v (and_left (leb lo v) (ascending (suc v) row) a)

pub ascending-tail : (lo v : ℕ) (row : List ℕ) → T (ascending lo (v ∷ row)) → T (ascending (suc v) row)
unfolding ascending
ascending-tail lo v row a = and_right (leb lo v) (ascending (suc v) row) a

pub le-of-member : (lo : ℕ) (row : List ℕ) → T (ascending lo row) → (v : ℕ) → T (member v row) → lo ≤ v
unfolding member
le-of-member lo [] a v m = absurd m
le-of-member lo (w ∷ row) a v m =
    go (member-cases v w row m) (ascending-head lo w row a) (le-of-member (suc w) row (ascending-tail lo w row a) v)
  where
    go : (v ≡ w) ⊎ T (member v row) → lo ≤ w → (T (member v row) → suc w ≤ v) → lo ≤ v
    go (inl e) h ih = omega arith
    go (inr n) h ih = let g = ih n in omega arith

pub ascending-distinct : (lo : ℕ) (row : List ℕ) → T (ascending lo row) → T (distinct row)
unfolding distinct
ascending-distinct lo [] a = tt
ascending-distinct lo (v ∷ row) a =
    let b = ascending-tail lo v row a in
    distinct_cons v row (λ m. let h = le-of-member (suc v) row b v m in omega arith) (ascending-distinct (suc v) row b)

pub row-distinct : (n r : ℕ) (row : List ℕ) → Row n r row → T (distinct row)
row-distinct n r row h = ascending-distinct 0 row (and_left (ascending 0 row) _ h.1)

pub rows-distinct : (n r : ℕ) (rows : List (List ℕ)) → All (Row n r) rows → All (λ row. T (distinct row)) rows
rows-distinct n r rows h = all-imp (Row n r) (λ row. T (distinct row)) (row-distinct n r) rows h

-- the nodes without v, where it comes first
unfoldable pub without : ℕ → List ℕ → List ℕ
without v [] = []
without v (w ∷ nodes) = cond (eqb v w) nodes (w ∷ without v nodes)

pub member-of-without : (v u : ℕ) (nodes : List ℕ) → T (member u (without v nodes)) → T (member u nodes)
unfolding without
member-of-without v u [] m = m
member-of-without v u (w ∷ nodes) m = go (eqb v w) m (member-of-without v u nodes)
  where
    tail : T (member u (w ∷ without v nodes)) → (T (member u (without v nodes)) → T (member u nodes))
        → (u ≡ w) ⊎ T (member u (without v nodes)) → T (member u (w ∷ nodes))
    tail t ih (inl e) = member-here u w nodes e
    tail t ih (inr n) = member-later u w nodes (ih n)

    go : (b : Bool) → T (member u (cond b nodes (w ∷ without v nodes))) → (T (member u (without v nodes)) → T (member u nodes))
        → T (member u (w ∷ nodes))
    go true t ih = member-later u w nodes t
    go false t ih = tail t ih (member-cases u w (without v nodes) t)

-- every other member is still there
pub member-without : (v u : ℕ) (nodes : List ℕ) → T (member u nodes) → (u ≡ v) ⊎ T (member u (without v nodes))
unfolding without
member-without v u [] m = inr m
member-without v u (w ∷ nodes) m = go (eqb v w) refl (member-cases u w nodes m) (member-without v u nodes)
  where
    later : (u ≡ v) ⊎ T (member u (without v nodes)) → (u ≡ v) ⊎ T (member u (w ∷ without v nodes))
    later (inl e) = inl e
    later (inr n) = inr (member-later u w (without v nodes) n)

    go : (b : Bool) → eqb v w ≡ b → (u ≡ w) ⊎ T (member u nodes) → (T (member u nodes) → (u ≡ v) ⊎ T (member u (without v nodes)))
        → (u ≡ v) ⊎ T (member u (cond b nodes (w ∷ without v nodes)))
    go true p (inl e) ih = let h = eqb→eq v w (T_true p) in inl cc
    go true p (inr n) ih = inr n
    go false p (inl e) ih = inr (member-here u w (without v nodes) e)
    go false p (inr n) ih = later (ih n)

-- of distinct nodes v is gone, the others are distinct, and one is gone
pub not-member-without : (v : ℕ) (nodes : List ℕ) → T (distinct nodes) → T (member v (without v nodes)) → ⊥
unfolding without member
not-member-without v [] d m = m
not-member-without v (w ∷ nodes) d m = go (eqb v w) refl m (not-member-without v nodes (distinct_tail w nodes d))
  where
    here : eqb v w ≡ false → v ≡ w → ⊥
    here p e = false-T p (subst (λ u. T (eqb v u)) e (eqb_refl v))

    split : eqb v w ≡ false → (T (member v (without v nodes)) → ⊥) → (v ≡ w) ⊎ T (member v (without v nodes)) → ⊥
    split p ih (inl e) = here p e
    split p ih (inr n) = ih n

    go : (b : Bool) → eqb v w ≡ b → T (member v (cond b nodes (w ∷ without v nodes))) → (T (member v (without v nodes)) → ⊥) → ⊥
    go true p t ih = distinct_head w nodes d (subst (λ u. T (member u nodes)) (eqb→eq v w (T_true p)) t)
    go false p t ih = split p ih (member-cases v w (without v nodes) t)

pub distinct_without : (v : ℕ) (nodes : List ℕ) → T (distinct nodes) → T (distinct (without v nodes))
unfolding without
distinct_without v [] d = d
distinct_without v (w ∷ nodes) d = go (eqb v w) (distinct_without v nodes (distinct_tail w nodes d))
  where
    go : (b : Bool) → T (distinct (without v nodes)) → T (distinct (cond b nodes (w ∷ without v nodes)))
    go true ih = distinct_tail w nodes d
    go false ih = distinct_cons w (without v nodes) (λ m. distinct_head w nodes d (member-of-without v w nodes m)) ih

pub length_without : (v : ℕ) (nodes : List ℕ) → T (member v nodes) → suc (length (without v nodes)) ≡ length nodes
unfolding without member
length_without v [] m = absurd m
length_without v (w ∷ nodes) m = go (eqb v w) m (length_without v nodes)
  where
    go : (b : Bool) → T (b || member v nodes) → (T (member v nodes) → suc (length (without v nodes)) ≡ length nodes)
        → suc (length (cond b nodes (w ∷ without v nodes))) ≡ suc (length nodes)
    go true t ih = refl
    go false t ih = ap suc (ih t)
