-- C(m,j) counts what document 01 says: the sets of j of m distinct things, each listed once. Assumes nothing.
use Prim.Native.Nat.{ℕ, zero, suc, ◌+◌}
use mathlib.Core.Path.{◌≡◌, refl, sym, ◌∙◌, ap₂}
use mathlib.Core.Logic.{◌⊎◌, inl, inr}
use mathlib.Core.List.{List, [], ◌∷◌, ◌++◌, map}
use lib.ListN.{length, length-append, length-map}
use lib.Dec.{T}
use Rattle.lists.specs.Lists.{All}
use Rattle.lists.proofs.Alls.{all_append, all-imp, all_map}
use Rattle.lists.proofs.Tests.{true-T, T_true, bool-ext}
use Rattle.binomial.specs.Choose.{choose}
use Rattle.packing.specs.Rows.{member, distinct, subsets, SetIn}
use Rattle.packing.proofs.Members.{member-cases, member-here, member-later, member-of-holds, distinct_head, distinct_tail}
use Rattle.packing.proofs.Sets.{Same, subsets-in}

-- how many there are
pub length-subsets : (j : ℕ) (things : List ℕ) → length (subsets j things) ≡ choose (length things) j
unfolding subsets choose
length-subsets zero things = refl
length-subsets (suc j) [] = refl
length-subsets (suc j) (v ∷ things) =
    length-append (map (λ set. v ∷ set) (subsets j things)) (subsets (suc j) things)
    ∙ ap₂ ◌+◌ (length-map (subsets j things) (λ set. v ∷ set) ∙ length-subsets j things) (length-subsets (suc j) things)

-- no two elements have the same members
abbrev pub AllApart : List (List ℕ) → Type 0
AllApart [] = Unit
AllApart (set ∷ sets) = All (λ other. Same set other → ⊥) sets × AllApart sets

apart-append : (sets others : List (List ℕ)) → AllApart sets → AllApart others
    → All (λ set. All (λ other. Same set other → ⊥) others) sets → AllApart (sets ++ others)
apart-append [] others a b c = b
apart-append (set ∷ sets) others a b c =
    (all_append _ sets others a.0 c.0, apart-append sets others a.1 b c.1)

-- sets that differ still differ with a thing in front that neither has
same-of-cons : (v : ℕ) (set other : List ℕ) → (T (member v set) → ⊥) → (T (member v other) → ⊥)
    → Same (v ∷ set) (v ∷ other) → Same set other
unfolding member
same-of-cons v set other n m same u =
    bool-ext (member u set) (member u other) (λ h. to set other n same h) (λ h. to other set m (λ w. sym (same w)) h)
  where
    to : (a b : List ℕ) → (T (member v a) → ⊥) → Same (v ∷ a) (v ∷ b) → T (member u a) → T (member u b)
    to a b none e h = go (member-cases u v b (T_true (sym (e u) ∙ true-T (member u (v ∷ a)) (member-later u v a h))))
      where
        go : (u ≡ v) ⊎ T (member u b) → T (member u b)
        go (inl is) = absurd (none (rw is at h))
        go (inr k) = k

-- a distinct row's sets of j things are all different
pub subsets-apart : (j : ℕ) (things : List ℕ) → T (distinct things) → AllApart (subsets j things)
unfolding subsets
subsets-apart zero things d = (tt, tt)
subsets-apart (suc j) [] d = tt
subsets-apart (suc j) (v ∷ things) d =
    let rest = distinct_tail v things d in
    let new = distinct_head v things d in
    apart-append (map (λ set. v ∷ set) (subsets j things)) (subsets (suc j) things)
    (cons-apart (subsets j things) (without-first j new rest) (subsets-apart j things rest))
    (subsets-apart (suc j) things rest)
    (all_map _ (λ set. v ∷ set) (subsets j things) (all_of (subsets j things) (λ set. none-same set (subsets (suc j) things) (without-first (suc j) new rest))))
  where
    -- the first thing is in none of the others' sets
    without-first : (i : ℕ) → (T (member v things) → ⊥) → T (distinct things) → All (λ set. T (member v set) → ⊥) (subsets i things)
    without-first i new rest =
        all-imp (SetIn i things) (λ set. T (member v set) → ⊥) (λ set s m. new (member-of-holds things set s.held v m))
        (subsets i things) (subsets-in i things rest)

    cons-apart : (sets : List (List ℕ)) → All (λ set. T (member v set) → ⊥) sets → AllApart sets → AllApart (map (λ set. v ∷ set) sets)
    cons-apart [] n a = tt
    cons-apart (set ∷ sets) n a =
        (all_map _ (λ other. v ∷ other) sets (each sets n.1 a.0), cons-apart sets n.1 a.1)
      where
        each : (others : List (List ℕ)) → All (λ other. T (member v other) → ⊥) others → All (λ other. Same set other → ⊥) others
            → All (λ other. Same (v ∷ set) (v ∷ other) → ⊥) others
        each [] k b = tt
        each (other ∷ others) k b = (λ same. b.0 (same-of-cons v set other n.0 k.0 same), each others k.1 b.1)

    -- a set with the first thing is none without it
    none-same : (set : List ℕ) (others : List (List ℕ)) → All (λ other. T (member v other) → ⊥) others
        → All (λ other. Same (v ∷ set) other → ⊥) others
    none-same set [] n = tt
    none-same set (other ∷ others) n =
        (λ same. n.0 (T_true (sym (same v) ∙ true-T (member v (v ∷ set)) (member-here v v set refl))), none-same set others n.1)

    all_of : {P : List ℕ → Type 0} (sets : List (List ℕ)) → ((set : List ℕ) → P set) → All P sets
    all_of [] f = tt
    all_of (set ∷ sets) f = (f set, all_of sets f)
