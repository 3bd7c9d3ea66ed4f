-- What going through the sets gives: the fewest over all sets of j of the nodes, and the first set that has it. Assumes nothing.
use Prim.Native.Nat.{ℕ, zero, suc, ◌+◌, ◌≤◌, ◌<◌}
use native.Mathlib.Omega.{arith}
use native.Mathlib.Nat.{le_trans, lt_of_lt_of_le}
use mathlib.Core.Path.{◌≡◌, refl, sym, subst, ◌∙◌, ap}
use mathlib.Core.Logic.{◌⊎◌, inl, inr}
use mathlib.Core.Bool.{Bool, true, false}
use mathlib.Core.List.{List, [], ◌∷◌, ◌++◌, append_assoc, append-nil}
use lib.ListN.{length}
use lib.Dec.{T, ltb, leb, le→leb}
use borrow.Author.Tests.{ltb-true, ltb-false}
use Rattle.lists.specs.Lists.{All}
use Rattle.lists.proofs.Tests.{and_both}
use Rattle.packing.specs.Rows.{ascending}
use Rattle.packing.proofs.Members.{ascending-head, ascending-tail}
use Rattle.worst.specs.Worst.{Worst, lower, through, nodes_from, Before}
use Rattle.worst.proofs.Through.{at, lower-le-number, through-le}

-- the set's nodes are some of the nodes, in their order
abbrev pub Within : (nodes set : List ℕ) → Type 0
Within nodes [] = Unit
Within [] (w ∷ set) = ⊥
Within (v ∷ nodes) (w ∷ set) = ((w ≡ v) × Within nodes set) ⊎ Within nodes (w ∷ set)

-- a set of no nodes
empty : (set : List ℕ) → length set ≡ 0 → set ≡ []
empty [] e = refl
empty (w ∷ set) e = absurd (omega arith)

pub length-empty : (chosen set : List ℕ) → length set ≡ 0 → chosen ++ set ≡ chosen
length-empty chosen set e = ap (λ l. chosen ++ l) (empty set e) ∙ append-nil chosen

-- the first of such nodes is at least the first of all
within-from : (m v w : ℕ) (set : List ℕ) → Within (nodes_from v m) (w ∷ set) → v ≤ w
unfolding nodes_from
within-from zero v w set h = absurd h
within-from (suc m) v w set (inl h) = omega (arith, h.0)
within-from (suc m) v w set (inr h) = omega (arith, within-from m (suc v) w set h)

-- such nodes ascend
pub within-ascending : (m v : ℕ) (set : List ℕ) → Within (nodes_from v m) set → T (ascending v set)
unfolding nodes_from ascending
within-ascending m v [] h = tt
within-ascending zero v (w ∷ set) h = absurd h
within-ascending (suc m) v (w ∷ set) (inl h) =
    and_both (leb v w) (ascending (suc w) set) (le→leb v w (omega (arith, h.0)))
    (rw h.0 (within-ascending m (suc v) set h.1))
within-ascending (suc m) v (w ∷ set) (inr h) =
    let later = within-ascending m (suc v) (w ∷ set) h in
    and_both (leb v w) (ascending (suc w) set)
    (le→leb v w (omega (arith, within-from m (suc v) w set h)))
    (ascending-tail (suc v) w set later)

-- and are below the last of all
pub within-below : (m v : ℕ) (set : List ℕ) → Within (nodes_from v m) set → All (λ w. w < v + m) set
unfolding nodes_from
within-below m v [] h = tt
within-below zero v (w ∷ set) h = absurd h
within-below (suc m) v (w ∷ set) (inl h) =
    let e : suc v + m ≡ v + suc m = omega arith in
    (omega (arith, h.0), rw e at (within-below m (suc v) set h.1))
within-below (suc m) v (w ∷ set) (inr h) =
    let e : suc v + m ≡ v + suc m = omega arith in
    subst (λ n. All (λ u. u < n) (w ∷ set)) e (within-below m (suc v) (w ∷ set) h)

-- ascending nodes below the last of all are such nodes
pub ascending-within : (m v : ℕ) (set : List ℕ) → T (ascending v set) → All (λ w. w < v + m) set → Within (nodes_from v m) set
unfolding nodes_from ascending
ascending-within m v [] a b = tt
ascending-within zero v (w ∷ set) a b = absurd (omega (arith, ascending-head v w set a, b.0))
ascending-within (suc m) v (w ∷ set) a b =
    go (ltb v w) refl (ascending-within m (suc v) set) (ascending-within m (suc v) (w ∷ set))
  where
    e : suc v + m ≡ v + suc m
    e = omega arith

    go : (t : Bool) → ltb v w ≡ t
        → (T (ascending (suc v) set) → All (λ u. u < suc v + m) set → Within (nodes_from (suc v) m) set)
        → (T (ascending (suc v) (w ∷ set)) → All (λ u. u < suc v + m) (w ∷ set) → Within (nodes_from (suc v) m) (w ∷ set))
        → ((w ≡ v) × Within (nodes_from (suc v) m) set) ⊎ Within (nodes_from (suc v) m) (w ∷ set)
    go true q chosen left =
        let above : suc v ≤ w = ltb-true v w q in
        inr
        (left (and_both (leb (suc v) w) (ascending (suc w) set) (le→leb (suc v) w above) (ascending-tail v w set a))
        (subst (λ n. All (λ u. u < n) (w ∷ set)) (sym e) b))
    go false q chosen left =
        let same : w ≡ v = omega (arith, ascending-head v w set a, ltb-false v w q) in
        inl (same, chosen (rw same at (ascending-tail v w set a)) (rw e b.1))

module _ (value : List ℕ → ℕ) where
  -- no set has fewer
  pub through-at-most : (chosen : List ℕ) (j : ℕ) (nodes : List ℕ) (found : Worst) (set : List ℕ) → length set ≡ j → Within nodes set
      → (through value chosen j nodes found).fewest ≤ value (chosen ++ set)
  unfolding through
  through-at-most chosen zero nodes found set e h =
      rw (length-empty chosen set e) (lower-le-number (value chosen) chosen found)
  through-at-most chosen (suc j) nodes found [] e h = absurd (omega arith)
  through-at-most chosen (suc j) [] found (w ∷ set) e h = absurd h
  through-at-most chosen (suc j) (v ∷ nodes) found (w ∷ set) e (inl h) =
      let with = through value (chosen ++ (v ∷ [])) j nodes found in
      let ih = through-at-most (chosen ++ (v ∷ [])) j nodes found set (omega arith) h.1 in
      rw h.0 (le_trans (through-le value chosen (suc j) nodes with) (rw append_assoc at ih))
  through-at-most chosen (suc j) (v ∷ nodes) found (w ∷ set) e (inr h) =
      through-at-most chosen (suc j) nodes (through value (chosen ++ (v ∷ [])) j nodes found) (w ∷ set) e h

  -- a set was found that has fewer than before, and no set before it has as few
  pub record Lowered (chosen : List ℕ) (j : ℕ) (nodes : List ℕ) (found result : Worst) : Type 0 where
    pub set : List ℕ
    pub number : length set ≡ j
    pub within : Within nodes set
    pub is : result ≡ at (value (chosen ++ set)) (chosen ++ set)
    pub below : value (chosen ++ set) < found.fewest
    pub first : (other : List ℕ) → length other ≡ j → Within nodes other → Before other set
        → value (chosen ++ set) < value (chosen ++ other)

  module _ (chosen : List ℕ) (j m v : ℕ) (found : Worst) where
    abbrev with-v : Worst
    with-v = through value (chosen ++ (v ∷ [])) j (nodes_from (suc v) m) found

    abbrev without-v : Worst
    without-v = through value chosen (suc j) (nodes_from (suc v) m) with-v

    -- the set found has v: every set without v comes after it
    first-with : (set : List ℕ) → ((other : List ℕ) → length other ≡ j → Within (nodes_from (suc v) m) other → Before other set
        → value ((chosen ++ (v ∷ [])) ++ set) < value ((chosen ++ (v ∷ [])) ++ other))
        → (other : List ℕ) → length other ≡ suc j → Within (v ∷ nodes_from (suc v) m) other → Before other (v ∷ set)
        → value (chosen ++ (v ∷ set)) < value (chosen ++ other)
    first-with set first [] e h b = absurd (omega arith)
    first-with set first (w ∷ other) e (inl h) (inl b) = absurd (omega (arith, h.0))
    first-with set first (w ∷ other) e (inl h) (inr b) =
        rw h.0 (rw (append_assoc chosen (v ∷ []) set, append_assoc chosen (v ∷ []) other) at (first other (omega arith) h.1 b.1))
    first-with set first (w ∷ other) e (inr h) (inl b) = absurd (omega (arith, within-from m (suc v) w other h))
    first-with set first (w ∷ other) e (inr h) (inr b) =
        absurd (omega (arith, within-from m (suc v) w other h, b.0))

    -- the set found has no v: every set with v has more
    first-without : (set : List ℕ) → value (chosen ++ set) < with-v.fewest
        → ((other : List ℕ) → length other ≡ suc j → Within (nodes_from (suc v) m) other → Before other set
        → value (chosen ++ set) < value (chosen ++ other))
        → (other : List ℕ) → length other ≡ suc j → Within (v ∷ nodes_from (suc v) m) other → Before other set
        → value (chosen ++ set) < value (chosen ++ other)
    first-without set below first [] e h b = absurd (omega arith)
    first-without set below first (w ∷ other) e (inl h) b =
        let more = through-at-most (chosen ++ (v ∷ [])) j (nodes_from (suc v) m) found other (omega arith) h.1 in
        rw h.0 (lt_of_lt_of_le below (rw append_assoc at more))
    first-without set below first (w ∷ other) e (inr h) b = first (w ∷ other) e h b

    lowered-or-same : (with-v ≡ found) ⊎ Lowered (chosen ++ (v ∷ [])) j (nodes_from (suc v) m) found with-v
        → (without-v ≡ with-v) ⊎ Lowered chosen (suc j) (nodes_from (suc v) m) with-v without-v
        → (without-v ≡ found) ⊎ Lowered chosen (suc j) (v ∷ nodes_from (suc v) m) found without-v
    lowered-or-same (inl e) (inl f) = inl (f ∙ e)
    lowered-or-same (inr l) (inl f) =
        let e : (chosen ++ (v ∷ [])) ++ l.set ≡ chosen ++ (v ∷ l.set) = append_assoc chosen (v ∷ []) l.set in
        inr
        (record {
          set = v ∷ l.set;
          number = ap suc l.number;
          within = inl (refl, l.within);
          is = f ∙ l.is ∙ ap (λ whole. at (value whole) whole) e;
          below = rw e at l.below;
          first = first-with l.set l.first;
        })
    lowered-or-same before (inr l) =
        inr
        (record {
          set = l.set;
          number = l.number;
          within = later l.set l.within;
          is = l.is;
          below = lt_of_lt_of_le l.below (through-le value (chosen ++ (v ∷ [])) j (nodes_from (suc v) m) found);
          first = first-without l.set l.below l.first;
        })
      where
        later : (set : List ℕ) → Within (nodes_from (suc v) m) set → Within (v ∷ nodes_from (suc v) m) set
        later [] h = tt
        later (w ∷ set) h = inr h

  -- nothing is lower, or the first of the lowest is found
  pub through-lowers : (chosen : List ℕ) (j m v : ℕ) (found : Worst)
      → (through value chosen j (nodes_from v m) found ≡ found)
      ⊎ Lowered chosen j (nodes_from v m) found (through value chosen j (nodes_from v m) found)
  unfolding through nodes_from
  through-lowers chosen zero m v found = go (ltb (value chosen) found.fewest) refl
    where
      none_before : (set : List ℕ) → length set ≡ 0 → Before set [] → ⊥
      none_before [] e b = b
      none_before (w ∷ set) e b = b

      go : (t : Bool) → ltb (value chosen) found.fewest ≡ t
          → (lower (value chosen) chosen found ≡ found) ⊎ Lowered chosen 0 (nodes_from v m) found (lower (value chosen) chosen found)
      go true e =
          inr
          (record {
            set = [];
            number = refl;
            within = tt;
            is = rw (e, append-nil chosen) refl;
            below = rw (append-nil chosen) (ltb-true (value chosen) found.fewest e);
            first = λ other size h b. absurd (none_before other size b);
          })
      go false e = inl (rw e refl)
  through-lowers chosen (suc j) zero v found = inl refl
  through-lowers chosen (suc j) (suc m) v found =
      lowered-or-same chosen j m v found (through-lowers (chosen ++ (v ∷ [])) j m (suc v) found)
      (through-lowers chosen (suc j) m (suc v) (with-v chosen j m v found))
