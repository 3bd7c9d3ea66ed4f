-- Marks of nodes: one node more, and a row looked at node by node. Assumes nothing.
use Prim.Native.Nat.{ℕ, zero, suc, ◌+◌, ◌≤◌, ◌<◌}
use native.Mathlib.Numerals.{add-one}
use mathlib.Core.Path.{◌≡◌, refl, ◌∙◌, ap}
use mathlib.Core.Bool.{Bool, true, false, ◌||◌}
use mathlib.Core.List.{List, [], ◌∷◌, ◌++◌}
use mathlib.Core.Option.{none}
use lib.Dec.{eqb}
use lib.ListN.{length, take, drop, get_or, set, replicate, drop_of_length-le}
use lib.Seq.{take-suc, drop-cons, get_or-set_same, get_or-set_other}
use borrow.Author.Tests.{eqb-true, eqb-false}
use Rattle.lists.specs.Lists.{any, first_where}
use Rattle.lists.proofs.Alls.{all_of}
use Rattle.lists.proofs.Finds.{any-congr-all, any_none, first_where-none}
use Rattle.packing.specs.Rows.{member}
use Rattle.layers.specs.Layers.{names, first_naming}

-- the marks are those of the nodes
abbrev pub Marked : (marks : List Bool) (nodes : List ℕ) → Type 0
Marked marks nodes = (v : ℕ) → get_or marks v false ≡ member v nodes

pub marked-none : (n : ℕ) → Marked (replicate n false) []
unfolding member
marked-none zero v = refl
marked-none (suc n) zero = refl
marked-none (suc n) (suc v) = marked-none n v

or_swap : (a b c : Bool) → (a || (b || c)) ≡ (b || (a || c))
or_swap true true c = refl
or_swap true false c = refl
or_swap false b c = refl

member-snoc : (v w : ℕ) (nodes : List ℕ) → member v (nodes ++ (w ∷ [])) ≡ (eqb v w || member v nodes)
unfolding member
member-snoc v w [] = refl
member-snoc v w (u ∷ nodes) =
    ap (λ b. eqb v u || b) (member-snoc v w nodes) ∙ or_swap (eqb v u) (eqb v w) (member v nodes)

-- one node more is marked
pub marked_next : (marks : List Bool) (nodes : List ℕ) (i : ℕ) → Marked marks (take i nodes) → i < length nodes
    → get_or nodes i 0 < length marks → Marked (set marks (get_or nodes i 0) true) (take (i + 1) nodes)
marked_next marks nodes i are h small v =
    let w = get_or nodes i 0 in
    rw (add-one i, take-suc nodes i 0 h, member-snoc v w (take i nodes)) (go w refl (eqb v w) refl)
  where
    go : (w : ℕ) → w ≡ get_or nodes i 0 → (b : Bool) → eqb v w ≡ b
        → get_or (set marks w true) v false ≡ (b || member v (take i nodes))
    go w is true e =
        let same = eqb-true v w e in
        rw same (get_or-set_same marks w true false (rw is small))
    go w is false e = get_or-set_other marks w v true false (eqb-false v w e) ∙ are v

-- rows by their marks, and by the nodes
pub naming-by-marks : (marks : List Bool) (dark : List ℕ) → Marked marks dark → (rows : List (List ℕ))
    → first_where (any (λ v. get_or marks v false)) rows ≡ first_naming dark rows
unfolding first_where first_naming names
naming-by-marks marks dark are [] = refl
naming-by-marks marks dark are (row ∷ rows) =
    let here : any (λ v. get_or marks v false) row ≡ any (λ v. member v dark) row =
    any-congr-all (λ v. get_or marks v false) (λ v. member v dark) row (all_of (λ v. get_or marks v false ≡ member v dark) are row) in
    rw (here, naming-by-marks marks dark are rows)

-- a row from place i on
module _ (f : ℕ → Bool) (row : List ℕ) (i : ℕ) where
  pub any_here : i < length row → f (get_or row i 0) ≡ true → any f (drop i row) ≡ true
  unfolding any
  any_here h e = rw (drop-cons row i 0 h, e)

  pub any-further : i < length row → f (get_or row i 0) ≡ false → any f (drop i row) ≡ any f (drop (i + 1) row)
  unfolding any
  any-further h e = rw (drop-cons row i 0 h, e, add-one i)

  pub any-end : length row ≤ i → any f (drop i row) ≡ false
  unfolding any
  any-end h = rw (drop_of_length-le row h)

-- with no node out of service no row names one
pub naming-none : (count : ℕ) (nodes : List ℕ) (rows : List (List ℕ)) → count ≡ 0 → first_naming (take count nodes) rows ≡ none
unfolding first_naming names member
naming-none count nodes rows e =
    rw e
    (first_where-none (names []) rows
    (all_of (λ row. names [] row ≡ false) (λ row. any_none (λ v. member v []) row (all_of (λ v. member v [] ≡ false) (λ v. refl) row)) rows))
