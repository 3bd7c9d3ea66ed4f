-- The sets of j nodes of an ascending row: their sizes, their order, how many there are, and that each comes once.
-- Assumes nothing.
use Prim.Native.Nat.{ℕ, zero, suc, ◌+◌, ◌≤◌, ◌<◌}
use mathlib.Core.Path.{◌≡◌, refl, sym, ap, ap₂, ◌∙◌}
use mathlib.Core.Bool.{Bool, true, false, ◌&&◌, ◌||◌}
use mathlib.Core.List.{List, [], ◌∷◌, map}
use native.Mathlib.Nat.{zero-add, add-zero}
use native.Mathlib.Omega.{arith}
use lib.ListN.{length}
use lib.Dec.{T, leb, eqb, leb→le, le→leb}
use borrow.Author.Tests.{eq-eqb, ne_eqb, eqb-true, eqb-false, leb-true, leb-false}
use Rattle.lists.specs.Lists.{All, count, every, tally}
use Rattle.lists.proofs.Tests.{and_left, and_right, and_both}
use Rattle.lists.proofs.Alls.{all_append, all-imp, all_map}
use Rattle.lists.proofs.Counts.{count-append, count_map}
use Rattle.lists.proofs.DoubleCount.{count_none}
use Rattle.packing.specs.Rows.{ascending, member, holds, subsets}

pub ascending-mono : (lo hi : ℕ) (l : List ℕ) → lo ≤ hi → T (ascending hi l) → T (ascending lo l)
unfolding ascending
ascending-mono lo hi [] h a = tt
ascending-mono lo hi (v ∷ l) h a =
    and_both (leb lo v) (ascending (suc v) l)
    (le→leb lo v (omega (arith, leb→le hi v (and_left (leb hi v) (ascending (suc v) l) a))))
    (and_right (leb hi v) (ascending (suc v) l) a)

pub subsets-ascending : (lo j : ℕ) (l : List ℕ) → T (ascending lo l) → All (λ s. T (ascending lo s)) (subsets j l)
unfolding subsets ascending
subsets-ascending lo zero l a = (tt, tt)
subsets-ascending lo (suc j) [] a = tt
subsets-ascending lo (suc j) (v ∷ l) a =
    let low = and_left (leb lo v) (ascending (suc v) l) a in
    let rest = and_right (leb lo v) (ascending (suc v) l) a in
    all_append (λ s. T (ascending lo s)) (map (λ s. v ∷ s) (subsets j l)) (subsets (suc j) l)
    (all_map (λ s. T (ascending lo s)) (λ s. v ∷ s) (subsets j l)
    (all-imp (λ s. T (ascending (suc v) s)) (λ s. T (ascending lo (v ∷ s)))
    (λ s q. and_both (leb lo v) (ascending (suc v) s) low q) (subsets j l) (subsets-ascending (suc v) j l rest)))
    (all-imp (λ s. T (ascending (suc v) s)) (λ s. T (ascending lo s))
    (λ s q. ascending-mono lo (suc v) s (omega (arith, leb→le lo v low)) q) (subsets (suc j) l)
    (subsets-ascending (suc v) (suc j) l rest))

-- what holds of a row's nodes holds of its sets' nodes
pub subsets-all : (P : ℕ → Type 0) (j : ℕ) (row : List ℕ) → All P row → All (All P) (subsets j row)
unfolding subsets
subsets-all P zero row h = (tt, tt)
subsets-all P (suc j) [] h = tt
subsets-all P (suc j) (v ∷ row) h =
    all_append (All P) (map (λ s. v ∷ s) (subsets j row)) (subsets (suc j) row)
    (all_map (All P) (λ s. v ∷ s) (subsets j row)
    (all-imp (All P) (λ s. All P (v ∷ s)) (λ s q. (h.0, q)) (subsets j row) (subsets-all P j row h.1)))
    (subsets-all P (suc j) row h.1)

-- a row of fewer nodes has no set of j
pub subsets-short : (j : ℕ) (l : List ℕ) → length l < j → subsets j l ≡ []
unfolding subsets
subsets-short zero l h = absurd (omega arith)
subsets-short (suc j) [] h = refl
subsets-short (suc j) (v ∷ l) h = rw (subsets-short j l (omega arith)) (subsets-short (suc j) l (omega arith))

-- the nodes are the same, one by one
abbrev pub same_nodes : List ℕ → List ℕ → Bool
same_nodes [] [] = true
same_nodes [] (t ∷ m) = false
same_nodes (s ∷ l) [] = false
same_nodes (s ∷ l) (t ∷ m) = eqb s t && same_nodes l m

member_below : (t v : ℕ) (row : List ℕ) → t ≤ v → T (ascending (suc v) row) → member t row ≡ false
unfolding member ascending
member_below t v [] h a = refl
member_below t v (w ∷ row) h a =
    let lt = leb→le (suc v) w (and_left (leb (suc v) w) (ascending (suc w) row) a) in
    ap₂ ◌||◌ (ne_eqb t w (λ e. omega arith))
    (member_below t w row (omega arith) (and_right (leb (suc v) w) (ascending (suc w) row) a))

pub holds-cons : (v : ℕ) (row nodes : List ℕ) → T (ascending (suc v) nodes) → holds (v ∷ row) nodes ≡ holds row nodes
unfolding holds every member ascending
holds-cons v row [] a = refl
holds-cons v row (w ∷ nodes) a =
    let lt = leb→le (suc v) w (and_left (leb (suc v) w) (ascending (suc w) nodes) a) in
    let rest = and_right (leb (suc v) w) (ascending (suc w) nodes) a in
    ap₂ ◌&&◌ (ap (λ (b : Bool). b || member w row) (ne_eqb w v (λ e. omega arith)))
    (holds-cons v row nodes (ascending-mono (suc v) (suc w) nodes (omega arith) rest))

holds-below : (t v : ℕ) (row nodes : List ℕ) → t ≤ v → T (ascending (suc v) row) → holds row (t ∷ nodes) ≡ false
unfolding holds every
holds-below t v row nodes h a = rw (member_below t v row h a)

-- the nodes t, .. in a row that begins with v: together, or in the rest of the row
module _ (t v : ℕ) (row nodes : List ℕ) (ar : T (ascending (suc v) row)) (an : T (ascending (suc t) nodes)) where
  holds-head : t ≡ v → holds (v ∷ row) (t ∷ nodes) ≡ holds row nodes
  unfolding holds every member
  holds-head e =
      ap₂ ◌&&◌ (ap (λ (b : Bool). b || member t row) (eq-eqb t v e))
      (holds-cons v row nodes (rw e at an))

  holds-tail : (t ≡ v → ⊥) → holds (v ∷ row) (t ∷ nodes) ≡ holds row (t ∷ nodes)
  unfolding ascending holds every member
  holds-tail ne = go (leb (suc v) t) refl
    where
      go : (b : Bool) → leb (suc v) t ≡ b → holds (v ∷ row) (t ∷ nodes) ≡ holds row (t ∷ nodes)
      go true e =
          holds-cons v row (t ∷ nodes)
          (and_both (leb (suc v) t) (ascending (suc t) nodes) (le→leb (suc v) t (leb-true (suc v) t e)) an)
      go false e = rw (ne_eqb t v ne, member_below t v row (omega (arith, leb-false (suc v) t e)) ar)

-- an ascending row has each set of its nodes once
pub count-subsets : (lo mo : ℕ) (row nodes : List ℕ) → T (ascending lo row) → T (ascending mo nodes)
    → count (λ s. same_nodes s nodes) (subsets (length nodes) row) ≡ tally (holds row nodes) 0
unfolding subsets count holds every member ascending
count-subsets lo mo row [] ar an = refl
count-subsets lo mo [] (t ∷ nodes) ar an = refl
count-subsets lo mo (v ∷ row) (t ∷ nodes) ar an =
    count-append (λ s. same_nodes s (t ∷ nodes)) (map (λ s. v ∷ s) (subsets (length nodes) row)) (subsets (suc (length nodes)) row)
    ∙ ap (λ (n : ℕ). n + count (λ s. same_nodes s (t ∷ nodes)) (subsets (suc (length nodes)) row))
    (count_map (λ s. same_nodes s (t ∷ nodes)) (λ s. v ∷ s) (subsets (length nodes) row))
    ∙ go (eqb v t) refl (count-subsets (suc v) (suc t) row nodes ar' an') (count-subsets (suc v) mo row (t ∷ nodes) ar' an)
  where
    ar' : T (ascending (suc v) row)
    ar' = and_right (leb lo v) (ascending (suc v) row) ar

    an' : T (ascending (suc t) nodes)
    an' = and_right (leb mo t) (ascending (suc t) nodes) an

    go : (b : Bool) → eqb v t ≡ b
        → count (λ s. same_nodes s nodes) (subsets (length nodes) row) ≡ tally (holds row nodes) 0
        → count (λ s. same_nodes s (t ∷ nodes)) (subsets (suc (length nodes)) row) ≡ tally (holds row (t ∷ nodes)) 0
        → count (λ s. b && same_nodes s nodes) (subsets (length nodes) row)
        + count (λ s. same_nodes s (t ∷ nodes)) (subsets (suc (length nodes)) row)
        ≡ tally (holds (v ∷ row) (t ∷ nodes)) 0
    go true e here there =
        let same = eqb-true v t e in
        ap₂ ◌+◌ here (there ∙ ap (λ (b : Bool). tally b 0) (holds-below t v row nodes (omega arith) ar'))
        ∙ add-zero _
        ∙ ap (λ (b : Bool). tally b 0) (sym (holds-head t v row nodes ar' an' (sym same)))
    go false e here there =
        ap₂ ◌+◌ (count_none (λ s. false) (subsets (length nodes) row) (λ s t. t)) there
        ∙ zero-add _
        ∙ ap (λ (b : Bool). tally b 0) (sym (holds-tail t v row nodes ar' an' (λ h. eqb-false v t e (sym h))))
