-- Going through the sets: what a shortage of nodes and the set found before change, and that no step raises the
-- fewest. Assumes nothing.
use Prim.Native.Nat.{ℕ, zero, suc, ◌+◌, ◌-◌, ◌≤◌, ◌<◌}
use native.Mathlib.Omega.{arith}
use native.Mathlib.Nat.{le_refl, le_trans}
use native.Mathlib.Numerals.{add-one}
use mathlib.Core.Path.{◌≡◌, refl, sym, ◌∙◌, ap}
use mathlib.Core.Logic.{◌⊎◌, inl, inr}
use mathlib.Core.Bool.{Bool, true, false}
use mathlib.Core.List.{List, [], ◌∷◌, ◌++◌, append_assoc, append-nil}
use lib.ListN.{length}
use lib.Dec.{ltb}
use borrow.Author.Tests.{ltb-true, ltb-false}
use Rattle.lists.proofs.Tests.{cond-elim}
use Rattle.worst.specs.Worst.{Worst, lower, through, nodes_from}

pub length-nodes_from : (v m : ℕ) → length (nodes_from v m) ≡ m
unfolding nodes_from
length-nodes_from v zero = refl
length-nodes_from v (suc m) = ap suc (length-nodes_from (suc v) m)

-- one set more never raises the fewest, and it is then at most the set's number
pub lower-le : (number : ℕ) (set : List ℕ) (found : Worst) → (lower number set found).fewest ≤ found.fewest
lower-le number set found =
    cond-elim (λ (w : Worst). w.fewest ≤ found.fewest) (ltb number found.fewest)
    (λ t. omega (arith, ltb-true number found.fewest t))
    (λ f. le_refl found.fewest)

pub lower-le-number : (number : ℕ) (set : List ℕ) (found : Worst) → (lower number set found).fewest ≤ number
lower-le-number number set found =
    cond-elim (λ (w : Worst). w.fewest ≤ number) (ltb number found.fewest) (λ t. le_refl number)
    (λ f. ltb-false number found.fewest f)

-- so many usable records, and a set
abbrev pub at : (least : ℕ) (set : List ℕ) → Worst
at least set = record { fewest = least; set = set }

-- both stay, or both become the same
abbrev StartOrSame : (f : Worst → Worst) (one other : Worst) → Type 0
StartOrSame f one other = ((f one ≡ one) × (f other ≡ other)) ⊎ (f one ≡ f other)

in-turn : (f g : Worst → Worst) (one other : Worst) → StartOrSame f one other → StartOrSame g one other
    → StartOrSame (λ w. g (f w)) one other
in-turn f g one other (inr e) rest = inr (ap g e)
in-turn f g one other (inl e) (inl r) = inl (ap g e.0 ∙ r.0, ap g e.1 ∙ r.1)
in-turn f g one other (inl e) (inr r) = inr (ap g e.0 ∙ r ∙ sym (ap g e.1))

module _ (value : List ℕ → ℕ) where
  -- fewer nodes than are to come make no set
  pub through-none : (chosen : List ℕ) (j : ℕ) (nodes : List ℕ) (found : Worst) → length nodes < j
      → through value chosen j nodes found ≡ found
  unfolding through
  through-none chosen zero nodes found h = absurd (omega arith)
  through-none chosen (suc j) [] found h = refl
  through-none chosen (suc j) (v ∷ nodes) found h =
      rw (through-none (chosen ++ (v ∷ [])) j nodes found (omega arith))
      (through-none chosen (suc j) nodes found (omega arith))

  -- as many nodes as are to come make one set
  pub through-all : (chosen : List ℕ) (j : ℕ) (nodes : List ℕ) (found : Worst) → length nodes ≡ j
      → through value chosen j nodes found ≡ lower (value (chosen ++ nodes)) (chosen ++ nodes) found
  unfolding through
  through-all chosen zero [] found e = rw (append-nil chosen) refl
  through-all chosen zero (v ∷ nodes) found e = absurd (omega arith)
  through-all chosen (suc j) [] found e = absurd (omega arith)
  through-all chosen (suc j) (v ∷ nodes) found e =
      through-none chosen (suc j) nodes (through value (chosen ++ (v ∷ [])) j nodes found) (omega arith)
      ∙ through-all (chosen ++ (v ∷ [])) j nodes found (omega arith)
      ∙ ap (λ whole. lower (value whole) whole found) (append_assoc chosen (v ∷ []) nodes)

  -- the fewest never rises
  pub through-le : (chosen : List ℕ) (j : ℕ) (nodes : List ℕ) (found : Worst)
      → (through value chosen j nodes found).fewest ≤ found.fewest
  unfolding through
  through-le chosen zero nodes found = lower-le (value chosen) chosen found
  through-le chosen (suc j) [] found = le_refl found.fewest
  through-le chosen (suc j) (v ∷ nodes) found =
      le_trans (through-le chosen (suc j) nodes (through value (chosen ++ (v ∷ [])) j nodes found))
      (through-le (chosen ++ (v ∷ [])) j nodes found)

  -- the set found before either stays, or is of no matter
  start-or-same : (chosen : List ℕ) (j : ℕ) (nodes : List ℕ) (least : ℕ) (a b : List ℕ)
      → StartOrSame (through value chosen j nodes) (at least a) (at least b)
  unfolding through
  start-or-same chosen zero nodes least a b = go (ltb (value chosen) least) refl
    where
      go : (t : Bool) → ltb (value chosen) least ≡ t → StartOrSame (lower (value chosen) chosen) (at least a) (at least b)
      go true e = inr (rw e)
      go false e = inl (rw e, rw e)
  start-or-same chosen (suc j) [] least a b = inl (refl, refl)
  start-or-same chosen (suc j) (v ∷ nodes) least a b =
      in-turn (through value (chosen ++ (v ∷ [])) j nodes) (through value chosen (suc j) nodes) (at least a) (at least b)
      (start-or-same (chosen ++ (v ∷ [])) j nodes least a b) (start-or-same chosen (suc j) nodes least a b)

  -- where some set is lower, the set found before is of no matter
  pub through-start : (chosen : List ℕ) (j : ℕ) (nodes : List ℕ) (least : ℕ) (a b : List ℕ)
      → (through value chosen j nodes (at least a)).fewest < least
      → through value chosen j nodes (at least a) ≡ through value chosen j nodes (at least b)
  through-start chosen j nodes least a b h = go (start-or-same chosen j nodes least a b)
    where
      go : StartOrSame (through value chosen j nodes) (at least a) (at least b)
          → through value chosen j nodes (at least a) ≡ through value chosen j nodes (at least b)
      go (inl e) = absurd (let same = ap (λ (w : Worst). w.fewest) e.0 in omega arith)
      go (inr e) = e

  -- a step of the search: the next node is chosen, and then left
  pub through-step : (chosen : List ℕ) (k done n v : ℕ) (found : Worst) → done < k → v < n
      → through value chosen (k - done) (nodes_from v (n - v)) found
      ≡ through value chosen (k - done) (nodes_from (v + 1) (n - (v + 1)))
      (through value (chosen ++ (v ∷ [])) (k - (done + 1)) (nodes_from (v + 1) (n - (v + 1))) found)
  unfolding through nodes_from
  through-step chosen k done n v found more below =
      let e : k - done ≡ suc (k - (done + 1)) = omega arith in
      let f : n - v ≡ suc (n - (v + 1)) = omega arith in
      rw (e, f, add-one v)
