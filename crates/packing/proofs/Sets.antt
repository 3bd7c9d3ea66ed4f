-- The sets of a row's nodes: each is a set of the row, and each set of the row is one of them up to order. Assumes nothing.
use Prim.Native.Nat.{ℕ, zero, suc}
use native.Mathlib.Nat.{suc_inj, suc-ne-zero}
use mathlib.Core.Path.{◌≡◌, refl, sym, ◌∙◌, subst, ap}
use mathlib.Core.Logic.{◌⊎◌, inl, inr}
use mathlib.Core.Bool.{Bool, true, false}
use mathlib.Core.List.Memᴰ
use mathlib.Core.List.{List, [], ◌∷◌, map, Memᴰ}
use lib.Dec.{T}
use Rattle.lists.specs.Lists.{All, every}
use Rattle.lists.proofs.Tests.{T_true, false-T, bool-ext}
use Rattle.lists.proofs.Alls.{all_append, all-imp, all_map}
use Rattle.lists.proofs.Counts.{count-congr}
use Rattle.packing.specs.Rows.{member, distinct, holds, together, subsets, SetIn}
use Rattle.packing.proofs.Members.{member-cases, member-here, member-later, member-of-holds, holds-of-member, distinct_head, distinct_tail, distinct_cons, without, member-of-without, member-without, not-member-without, distinct_without, length_without}

-- the same members
abbrev pub Same : List ℕ → List ℕ → Type 0
Same nodes others = (v : ℕ) → member v nodes ≡ member v others

-- nodes with the same members stand in the same rows, and together in as many
pub holds_same : (row nodes others : List ℕ) → Same nodes others → holds row nodes ≡ holds row others
holds_same row nodes others s =
    bool-ext
    (holds row nodes)
    (holds row others)
    (λ h. holds-of-member row others (λ v m. member-of-holds row nodes h v (subst T (sym (s v)) m)))
    (λ h. holds-of-member row nodes (λ v m. member-of-holds row others h v (subst T (s v) m)))

pub together-same : (rows : List (List ℕ)) (nodes others : List ℕ) → Same nodes others → together rows nodes ≡ together rows others
unfolding together
together-same rows nodes others s =
    count-congr (λ row. holds row nodes) (λ row. holds row others) (λ row. holds_same row nodes others s) rows

-- a set of the row is one of a longer row
set-in-later : (j v : ℕ) (row nodes : List ℕ) → SetIn j row nodes → SetIn j (v ∷ row) nodes
set-in-later j v row nodes s =
    record {
      size = s.size;
      apart = s.apart;
      held = holds-of-member (v ∷ row) nodes (λ u m. member-later u v row (member-of-holds row nodes s.held u m));
    }

-- with a node in front of the row and of the set
set-in-cons : (j v : ℕ) (row nodes : List ℕ) → (T (member v row) → ⊥) → SetIn j row nodes → SetIn (suc j) (v ∷ row) (v ∷ nodes)
set-in-cons j v row nodes n s =
    record {
      size = ap suc s.size;
      apart = distinct_cons v nodes (λ m. n (member-of-holds row nodes s.held v m)) s.apart;
      held = holds-of-member (v ∷ row) (v ∷ nodes) (λ u m. here u (member-cases u v nodes m));
    }
  where
    here : (u : ℕ) → (u ≡ v) ⊎ T (member u nodes) → T (member u (v ∷ row))
    here u (inl e) = member-here u v row e
    here u (inr m) = member-later u v row (member-of-holds row nodes s.held u m)

-- each of a distinct row's sets of j nodes is a set of j nodes that the row holds
pub subsets-in : (j : ℕ) (row : List ℕ) → T (distinct row) → All (SetIn j row) (subsets j row)
unfolding subsets distinct holds every
subsets-in zero row d = (record { size = refl; apart = tt; held = tt }, tt)
subsets-in (suc j) [] d = tt
subsets-in (suc j) (v ∷ row) d =
    let e = distinct_tail v row d in
    all_append
    (SetIn (suc j) (v ∷ row))
    (map (λ set. v ∷ set) (subsets j row))
    (subsets (suc j) row)
    (all_map (SetIn (suc j) (v ∷ row)) (λ set. v ∷ set) (subsets j row)
    (all-imp (SetIn j row) (λ set. SetIn (suc j) (v ∷ row) (v ∷ set)) (λ set. set-in-cons j v row set (distinct_head v row d))
    (subsets j row) (subsets-in j row e)))
    (all-imp (SetIn (suc j) row) (SetIn (suc j) (v ∷ row)) (set-in-later (suc j) v row) (subsets (suc j) row) (subsets-in (suc j) row e))

-- one of the row's sets of j nodes has the same members
pub record ListedSet (j : ℕ) (row nodes : List ℕ) : Type 0 where
  pub set : List ℕ
  pub listed : Memᴰ set (subsets j row)
  pub same : Same set nodes

-- where the row's first node is one of the nodes, the others are a set of the others
set-in-without : (j v : ℕ) (row nodes : List ℕ) → T (member v nodes) → SetIn (suc j) (v ∷ row) nodes → SetIn j row (without v nodes)
set-in-without j v row nodes i s =
    record {
      size = suc_inj (length_without v nodes i ∙ s.size);
      apart = distinct_without v nodes s.apart;
      held = holds-of-member row (without v nodes)
          (λ u m. other u m (member-cases u v row (member-of-holds (v ∷ row) nodes s.held u (member-of-without v u nodes m))));
    }
  where
    other : (u : ℕ) → T (member u (without v nodes)) → (u ≡ v) ⊎ T (member u row) → T (member u row)
    other u m (inl e) = absurd (not-member-without v nodes s.apart (subst (λ w. T (member w (without v nodes))) e m))
    other u m (inr n) = n

-- where it is none of them, they are a set of the others
set-in-tail : (j v : ℕ) (row nodes : List ℕ) → member v nodes ≡ false → SetIn j (v ∷ row) nodes → SetIn j row nodes
set-in-tail j v row nodes p s =
    record {
      size = s.size;
      apart = s.apart;
      held = holds-of-member row nodes (λ u m. other u m (member-cases u v row (member-of-holds (v ∷ row) nodes s.held u m)));
    }
  where
    other : (u : ℕ) → T (member u nodes) → (u ≡ v) ⊎ T (member u row) → T (member u row)
    other u m (inl e) = absurd (false-T p (subst (λ w. T (member w nodes)) e m))
    other u m (inr n) = n

-- v and the members without it are the members
same-without : (v : ℕ) (set nodes : List ℕ) → T (member v nodes) → Same set (without v nodes) → Same (v ∷ set) nodes
same-without v set nodes i s u =
    bool-ext
    (member u (v ∷ set))
    (member u nodes)
    (λ m. back (member-cases u v set m))
    (λ m. onto (member-without v u nodes m))
  where
    back : (u ≡ v) ⊎ T (member u set) → T (member u nodes)
    back (inl e) = rw e i
    back (inr m) = member-of-without v u nodes (subst T (s u) m)

    onto : (u ≡ v) ⊎ T (member u (without v nodes)) → T (member u (v ∷ set))
    onto (inl e) = member-here u v set e
    onto (inr m) = member-later u v set (subst T (sym (s u)) m)

listed_cons : (j v : ℕ) (row nodes : List ℕ) → T (member v nodes) → ListedSet j row (without v nodes) → ListedSet (suc j) (v ∷ row) nodes
unfolding subsets
listed_cons j v row nodes i l =
    record {
      set = v ∷ l.set;
      listed = Memᴰ.append_left (subsets (suc j) row) (Memᴰ.map (λ set. v ∷ set) l.listed);
      same = same-without v l.set nodes i l.same;
    }

listed-later : (j v : ℕ) (row nodes : List ℕ) → ListedSet (suc j) row nodes → ListedSet (suc j) (v ∷ row) nodes
unfolding subsets
listed-later j v row nodes l =
    record {
      set = l.set;
      listed = Memᴰ.append_right (map (λ set. v ∷ set) (subsets j row)) l.listed;
      same = l.same;
    }

-- each set of j nodes that the row holds is, up to order, one of the row's sets of j nodes
pub listed-set : (j : ℕ) (row nodes : List ℕ) → SetIn j row nodes → ListedSet j row nodes
unfolding subsets holds every member
listed-set zero row [] s = record { set = []; listed = Memᴰ.head refl; same = λ v. refl }
listed-set zero row (w ∷ nodes) s = absurd (suc-ne-zero _ s.size)
listed-set (suc j) [] [] s = absurd (suc-ne-zero _ (sym s.size))
listed-set (suc j) [] (w ∷ nodes) s = absurd s.held
listed-set (suc j) (v ∷ row) nodes s =
    go (member v nodes) refl (listed-set j row (without v nodes)) (listed-set (suc j) row nodes)
  where
    go : (b : Bool) → member v nodes ≡ b → (SetIn j row (without v nodes) → ListedSet j row (without v nodes))
        → (SetIn (suc j) row nodes → ListedSet (suc j) row nodes) → ListedSet (suc j) (v ∷ row) nodes
    go true p with-v rest = listed_cons j v row nodes (T_true p) (with-v (set-in-without j v row nodes (T_true p) s))
    go false p with-v rest = listed-later j v row nodes (rest (set-in-tail (suc j) v row nodes p s))
