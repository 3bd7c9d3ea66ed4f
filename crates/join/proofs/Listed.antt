-- The joined list of nodes out of service: it is in order, and no joined row names one of them. Assumes nothing.
use Prim.Native.Nat.{ℕ, suc, ◌+◌, ◌-◌, ◌≤◌, ◌<◌}
use native.Mathlib.Omega.{arith}
use mathlib.Core.Path.{◌≡◌, refl, ◌∙◌, subst}
use mathlib.Core.Logic.{◌⊎◌, inl, inr}
use mathlib.Core.List.{List, [], ◌∷◌, ◌++◌, map, append_assoc}
use lib.ListN.{length, length-append, length-map}
use lib.Dec.{T, leb, ltb}
use borrow.Author.Tests.{lt-ltb}
use Rattle.lists.specs.Lists.{All, every, total}
use Rattle.lists.proofs.Tests.{T_true, and_left, and_both}
use Rattle.lists.proofs.Alls.{all_append, all_map, all-imp, all_of, all_both, all-every}
use Rattle.packing.specs.Rows.{ascending, is_in_order, member}
use Rattle.packing.proofs.Members.{member-cases, member-here, member-later, ascending-tail}
use Rattle.layers.specs.Layers.{blocks_at, Names, InService}
use Rattle.layers.proofs.Listing.{dark-below}
use Rattle.pack.specs.Pack.{Pack}
use Rattle.join.specs.Join.{Chunk, joint_rows, chunks_at, joint_dark}
use Rattle.join.proofs.Shifted.{member-up, low-of-member, ascending-up, ascending-low, all-shifted, all-copied}
use Rattle.join.proofs.Layers.{of-member, part, joint-low}

-- how many nodes the packs have
abbrev pub all_nodes : List Pack → ℕ
all_nodes packs = total (map (λ (p : Pack). p.n) packs)

-- lists that ascend, the second's nodes above the first's
ascending-join : (lo mid : ℕ) (l m : List ℕ) → lo ≤ mid → T (ascending lo l) → All (λ v. v < mid) l → T (ascending mid m)
    → T (ascending lo (l ++ m))
unfolding ascending
ascending-join lo mid [] m h a below b = ascending-low lo mid m h b
ascending-join lo mid (v ∷ l) m h a below b =
    and_both (leb lo v) (ascending (suc v) (l ++ m)) (and_left (leb lo v) (ascending (suc v) l) a)
    (ascending-join (suc v) mid l m below.0 (ascending-tail lo v l a) below.1 b)

-- a list below a pack's own count, with node numbers after the ones before
shifted-below : (before n : ℕ) (list : List ℕ) → All (λ v. v < n) list → All (λ v. v < before + n) (map (λ v. before + v) list)
shifted-below before n list h = all_map (λ v. v < before + n) (λ v. before + v) list (all-imp _ _ below list h)
  where
    below : (v : ℕ) → v < n → before + v < before + n
    below v lt = omega arith

abbrev Ordered : Pack → Type 0
Ordered p = T (is_in_order p.n p.dark)

-- "strictly ascending"
joint-ascending : (before : ℕ) (packs : List Pack) → All Ordered packs → T (ascending before (joint_dark before packs))
unfolding joint_dark ascending
joint-ascending before [] h = tt
joint-ascending before (p ∷ packs) h =
    let own = ascending-up before 0 p.dark (and_left (ascending 0 p.dark) (every (λ v. ltb v p.n) p.dark) h.0) in
    let zero-on : before + 0 ≡ before = omega arith in
    ascending-join before (before + p.n) (map (λ v. before + v) p.dark) (joint_dark (before + p.n) packs) (omega arith)
    (rw zero-on at own) (shifted-below before p.n p.dark (dark-below p.n p.dark h.0))
    (joint-ascending (before + p.n) packs h.1)

-- "and below n"
joint-below : (all before : ℕ) (packs : List Pack) → before + all_nodes packs ≤ all → All Ordered packs
    → All (λ v. v < all) (joint_dark before packs)
unfolding joint_dark total
joint-below all before [] fits h = tt
joint-below all before (p ∷ packs) fits h =
    all_append (λ v. v < all) (map (λ v. before + v) p.dark) (joint_dark (before + p.n) packs)
    (all-imp (λ v. v < before + p.n) (λ v. v < all) (λ v lt. omega arith) (map (λ v. before + v) p.dark)
    (shifted-below before p.n p.dark (dark-below p.n p.dark h.0)))
    (joint-below all (before + p.n) packs (omega arith) h.1)

pub joint-ordered : (packs : List Pack) → All Ordered packs → T (is_in_order (all_nodes packs) (joint_dark 0 packs))
joint-ordered packs h =
    and_both (ascending 0 (joint_dark 0 packs)) (every (λ v. ltb v (all_nodes packs)) (joint_dark 0 packs)) (joint-ascending 0 packs h)
    (all-every (λ v. ltb v (all_nodes packs)) (joint_dark 0 packs)
    (all-imp _ _ (λ v lt. T_true (lt-ltb v (all_nodes packs) lt)) (joint_dark 0 packs) (joint-below (all_nodes packs) 0 packs (omega arith) h)))

-- no node of the packs from here on is below those before
dark-low : (before : ℕ) (packs : List Pack) → All (λ v. before ≤ v) (joint_dark before packs)
unfolding joint_dark
dark-low before [] = tt
dark-low before (p ∷ packs) =
    all_append (λ v. before ≤ v) (map (λ v. before + v) p.dark) (joint_dark (before + p.n) packs)
    (all_map (λ v. before ≤ v) (λ v. before + v) p.dark (all_of _ (λ v. omega arith) p.dark))
    (all-imp (λ v. before + p.n ≤ v) (λ v. before ≤ v) (λ v le. omega arith) (joint_dark (before + p.n) packs)
    (dark-low (before + p.n) packs))

-- a node of two lists together is one of either
member-append : (v : ℕ) (l m : List ℕ) → T (member v (l ++ m)) → T (member v l) ⊎ T (member v m)
unfolding member
member-append v [] m h = inr h
member-append v (w ∷ l) m h = go (member-cases v w (l ++ m) h) (member-append v l m)
  where
    go : (v ≡ w) ⊎ T (member v (l ++ m)) → (T (member v (l ++ m)) → T (member v l) ⊎ T (member v m))
        → T (member v (w ∷ l)) ⊎ T (member v m)
    go (inl e) later = inl (member-here v w l e)
    go (inr n) later = inr-or (later n)
      where
        inr-or : T (member v l) ⊎ T (member v m) → T (member v (w ∷ l)) ⊎ T (member v m)
        inr-or (inl a) = inl (member-later v w l a)
        inr-or (inr b) = inr b

-- what is asked of a pack's list and of its blocks in layer x
pub record Serves (x : ℕ) (p : Pack) : Type 0 where
  pub below : All (All (λ v. v < p.n)) (blocks_at p.layers x).rows
  pub in-service : InService p.dark (blocks_at p.layers x).rows
  pub ordered : T (is_in_order p.n p.dark)

-- a row of one pack, and the lists of that pack and of those after it
module _ (before : ℕ) (p : Pack) (packs : List Pack) (ordered : T (is_in_order p.n p.dark)) where
  abbrev own : List ℕ
  own = map (λ v. before + v) p.dark

  abbrev later : List ℕ
  later = joint_dark (before + p.n) packs

  own-high : All (λ v. v < before + p.n) own
  own-high = shifted-below before p.n p.dark (dark-below p.n p.dark ordered)

  -- its own row
  own_row : (row : List ℕ) → All (λ v. v < p.n) row → (Names p.dark row → ⊥) → Names (own ++ later) (map (λ v. before + v) row) → ⊥
  own_row row below free (v, in_row, in_List) = go (member-append v own later in_List)
    where
      go : T (member v own) ⊎ T (member v later) → ⊥
      go (inl mine) =
          let low = low-of-member before v row in_row in
          let is : v ≡ before + (v - before) = omega arith in
          free (
            v - before,
            subst T (member-up before (v - before) row) (subst (λ w. T (member w (map (λ u. before + u) row))) is in_row),
            subst T (member-up before (v - before) p.dark) (subst (λ w. T (member w own)) is mine),
          )
      go (inr its) =
          let low = of-member (λ w. before + p.n ≤ w) later (dark-low (before + p.n) packs) v its in
          let high = of-member (λ w. w < before + p.n) (map (λ u. before + u) row) (shifted-below before p.n row below) v in_row in
          omega arith

  -- a row of the packs after it
  later-row : (row : List ℕ) → All (λ v. before + p.n ≤ v) row → (Names later row → ⊥) → Names (own ++ later) row → ⊥
  later-row row low free (v, in_row, in_List) = go (member-append v own later in_List)
    where
      go : T (member v own) ⊎ T (member v later) → ⊥
      go (inl mine) =
          let high = of-member (λ w. w < before + p.n) own own-high v mine in
          let le = of-member (λ w. before + p.n ≤ w) row low v in_row in
          omega arith
      go (inr its) = free (v, in_row, its)

-- "No row may name one": the joined rows of layer x, for any list of packs
pub joint-service : (x mu before : ℕ) (packs : List Pack) → All (Serves x) packs
    → InService (joint_dark before packs) (joint_rows mu before (chunks_at x packs))
unfolding joint_dark joint_rows
joint-service x mu before [] h = tt
joint-service x mu before (p ∷ packs) h =
    let chunk : Chunk = record { nodes = p.n; layer = blocks_at p.layers x } in
    let dark = own before p packs h.0.ordered ++ later before p packs h.0.ordered in
    let rest = joint_rows mu (before + p.n) (chunks_at x packs) in
    all_append (λ row. Names dark row → ⊥) (part mu before chunk) rest
    (all-copied (λ row. Names dark row → ⊥) _ _
    (all-shifted before (λ row. Names dark row → ⊥) (blocks_at p.layers x).rows
    (all-imp _ _ (λ row both. own_row before p packs h.0.ordered row both.0 both.1) (blocks_at p.layers x).rows
    (all_both _ _ (blocks_at p.layers x).rows h.0.below h.0.in-service))))
    (all-imp _ _ (λ row both. later-row before p packs h.0.ordered row both.0 both.1) rest
    (all_both _ _ rest (joint-low mu (before + p.n) (chunks_at x packs)) (joint-service x mu (before + p.n) packs h.1)))

-- Each pack's list stands after those of the packs before it, its node numbers after theirs.
pub dark-split : (before : ℕ) (first : List Pack) (p : Pack) (more : List Pack)
    → joint_dark before (first ++ (p ∷ more))
    ≡ joint_dark before first ++ (map (λ v. before + all_nodes first + v) p.dark ++ joint_dark (before + all_nodes first + p.n) more)
unfolding joint_dark total
dark-split before [] p more = let e : before + 0 ≡ before = omega arith in rw e
dark-split before (other ∷ first) p more =
    let e : before + (other.n + all_nodes first) ≡ before + other.n + all_nodes first = omega arith in
    rw (
      dark-split (before + other.n) first p more,
      append_assoc (map (λ v. before + v) other.dark) (joint_dark (before + other.n) first),
      e,
    )

-- so there are as many as all lists have
pub dark-counted : (before : ℕ) (packs : List Pack) → length (joint_dark before packs) ≡ total (map (λ (p : Pack). length p.dark) packs)
unfolding joint_dark total
dark-counted before [] = refl
dark-counted before (p ∷ packs) =
    length-append (map (λ v. before + v) p.dark) (joint_dark (before + p.n) packs)
    ∙ rw (length-map p.dark (λ v. before + v), dark-counted (before + p.n) packs)
