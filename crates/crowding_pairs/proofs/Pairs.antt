-- What the counts of pairs say: rows that hold two nodes have their number, and where no number comes too often no row is crowded.
-- Assumes nothing.
use Prim.Native.Nat.{ℕ, suc, ◌+◌, ◌≤◌, ◌<◌}
use native.Mathlib.Omega.{arith}
use mathlib.Core.Path.{◌≡◌, refl, sym, ap, ◌∙◌}
use mathlib.Core.Logic.{◌⊎◌, inl, inr, ⊎_elim}
use mathlib.Core.Bool.{Bool, true, false, ◌||◌, ◌&&◌}
use mathlib.Core.List.{List, [], ◌∷◌, map}
use mathlib.Core.Option.{none}
use lib.ListN.{length}
use lib.Dec.{T, eqb, leb, ltb}
use borrow.Author.Tests.{eq-eqb, eqb-true, leb-true, le-ltb}
use Rattle.lists.specs.Lists.{All, tally, count, total, every, up_to}
use Rattle.lists.proofs.Arith.{le-or-lt}
use Rattle.lists.proofs.Tests.{T_true, true-T, false-T, and_left, and_right}
use Rattle.lists.proofs.Alls.{all-imp, all_both}
use Rattle.lists.proofs.Finds.{first_where-none, any_none}
use Rattle.lists.proofs.Largest.{largest-le}
use Rattle.lists.proofs.UpTo.{get_d-map-up_to}
use Rattle.packing.specs.Rows.{ascending, member, holds, together, subsets, SetIn, crowded, first_crowded}
use Rattle.packing.proofs.Members.{member-cases, member-here, member-later, member-of-holds, distinct_head, ascending-tail, ascending-distinct, le-of-member}
use Rattle.packing.proofs.Sets.{subsets-in, together-same}
use Rattle.crowding_pairs.proofs.Cells.{pair_fits}
use Rattle.crowding_pairs.specs.Codes.{pair_number, pair_cells, with_low, coded, coded_rows, most_coded, few_pairs}

-- what holds of all nodes holds of a member
member-all : (P : ℕ → Type 0) (v : ℕ) (nodes : List ℕ) → All P nodes → T (member v nodes) → P v
unfolding member
member-all P v [] h m = absurd m
member-all P v (w ∷ nodes) h m =
    ⊎_elim (λ e. rw e h.0) (λ n. member-all P v nodes h.1 n) (member-cases v w nodes m)

-- a member that passes is counted
count-member : (f : ℕ → Bool) (v : ℕ) (nodes : List ℕ) → f v ≡ true → T (member v nodes) → 1 ≤ count f nodes
unfolding member count
count-member f v [] e m = absurd m
count-member f v (w ∷ nodes) e m = go (f w) refl (member-cases v w nodes m) (count-member f v nodes e)
  where
    go : (b : Bool) → f w ≡ b → (v ≡ w) ⊎ T (member v nodes) → (T (member v nodes) → 1 ≤ count f nodes)
        → 1 ≤ tally (f w) (count f nodes)
    go true q c ih = rw q (omega arith)
    go false q (inl s) ih = absurd (false-T q (T_true (sym (ap f s) ∙ e)))
    go false q (inr n) ih = rw q (ih n)

-- a row that holds two nodes has their number
has-pair : (u v lo : ℕ) (row : List ℕ) → u < v → T (ascending lo row) → T (member u row) → T (member v row)
    → 1 ≤ coded (pair_number v u) row
unfolding coded member
has-pair u v lo [] lt a mu mv = absurd mu
has-pair u v lo (w ∷ row) lt a mu mv =
    let later = ascending-tail lo w row a in
    go later (member-cases u w row mu) (member-cases v w row mv) (has-pair u v (suc w) row lt later)
  where
    p : ℕ
    p = pair_number v u

    go : T (ascending (suc w) row) → (u ≡ w) ⊎ T (member u row) → (v ≡ w) ⊎ T (member v row)
        → (T (member u row) → T (member v row) → 1 ≤ coded p row) → 1 ≤ with_low p w row + coded p row
    go later (inl e) (inl f) ih = absurd (omega arith)
    go later (inl e) (inr n) ih =
        omega (arith, count-member (λ x. eqb p (pair_number x w)) v row (eq-eqb p (pair_number v w) (omega arith)) n)
    go later (inr m) (inl f) ih = absurd (omega (arith, le-of-member (suc w) row later u m))
    go later (inr m) (inr n) ih = omega (arith, ih m n)

-- so there are at most as many such rows as the number comes
held-coded : (u v : ℕ) (rows : List (List ℕ)) → u < v → All (λ row. T (ascending 0 row)) rows
    → together rows (u ∷ v ∷ []) ≤ coded_rows (pair_number v u) rows
unfolding together count total holds every
held-coded u v [] lt a = omega arith
held-coded u v (row ∷ rows) lt a =
    go (holds row (u ∷ v ∷ [])) refl (held-coded u v rows lt a.1)
  where
    p : ℕ
    p = pair_number v u

    pair : T (member u row && (member v row && true)) → 1 ≤ coded p row
    pair t =
        has-pair u v 0 row lt a.0 (and_left (member u row) (member v row && true) t)
        (and_left (member v row) true (and_right (member u row) (member v row && true) t))

    go : (b : Bool) → holds row (u ∷ v ∷ []) ≡ b → together rows (u ∷ v ∷ []) ≤ coded_rows p rows
        → tally (holds row (u ∷ v ∷ [])) (together rows (u ∷ v ∷ [])) ≤ coded p row + coded_rows p rows
    go true e ih = rw e (omega (arith, ih, pair (T_true e)))
    go false e ih = rw e (omega (arith, ih))

module _ (rows : List (List ℕ)) (up : All (λ row. T (ascending 0 row)) rows) where
  pair-le : (u v bound : ℕ) → u < v → v < 256 → most_coded rows ≤ bound → together rows (u ∷ v ∷ []) ≤ bound
  pair-le u v bound lt byte few =
      omega (
        arith,
        few,
        held-coded u v rows lt up,
        largest-le (map (λ q. coded_rows q rows) (up_to pair_cells)) (pair_number v u),
        get_d-map-up_to (λ q. coded_rows q rows) pair_cells (pair_number v u) 0 (pair_fits v u byte (omega arith)),
      )

  swapped : (a b v : ℕ) → member v (a ∷ b ∷ []) ≡ member v (b ∷ a ∷ [])
  unfolding member
  swapped a b v = go (eqb v a) (eqb v b)
    where
      go : (x y : Bool) → (x || (y || false)) ≡ (y || (x || false))
      go true true = refl
      go true false = refl
      go false true = refl
      go false false = refl

  -- a set of two bytes stands in at most `bound` rows
  set-le : (a b bound : ℕ) → (a ≡ b → ⊥) → a < 256 → b < 256 → most_coded rows ≤ bound → together rows (a ∷ b ∷ []) ≤ bound
  set-le a b bound apart la lb few =
      ⊎_elim (λ le. pair-le a b bound (omega (arith, apart)) lb few)
      (λ gt. rw (together-same rows (a ∷ b ∷ []) (b ∷ a ∷ []) (swapped a b)) (pair-le b a bound gt la few)) (le-or-lt a b)

  quiet-set : (bound : ℕ) (row s : List ℕ) → All (λ v. v < 256) row → most_coded rows ≤ bound → SetIn 2 row s
      → together rows s ≤ bound
  unfolding member
  quiet-set bound row [] bytes few set = absurd (omega (arith, set.size))
  quiet-set bound row (a ∷ []) bytes few set = absurd (omega (arith, set.size))
  quiet-set bound row (a ∷ (b ∷ [])) bytes few set =
      let inside = member-of-holds row (a ∷ b ∷ []) set.held in
      set-le a b bound (λ e. distinct_head a (b ∷ []) set.apart (member-here a b [] e))
      (member-all (λ v. v < 256) a row bytes (inside a (member-here a a (b ∷ []) refl)))
      (member-all (λ v. v < 256) b row bytes (inside b (member-later b a (b ∷ []) (member-here b b [] refl)))) few
  quiet-set bound row (a ∷ (b ∷ (d ∷ s))) bytes few set = absurd (omega (arith, set.size))

  none-of-pairs : (bound : ℕ) → All (All (λ v. v < 256)) rows → most_coded rows ≤ bound → first_crowded 1 bound rows ≡ none
  unfolding first_crowded crowded
  none-of-pairs bound bytes few =
      first_where-none (crowded 1 bound rows) rows
      (all-imp (λ row. T (ascending 0 row) × All (λ v. v < 256) row) (λ row. crowded 1 bound rows row ≡ false)
      (λ row h. any_none (λ s. ltb bound (together rows s)) (subsets 2 row)
      (all-imp (SetIn 2 row) (λ s. ltb bound (together rows s) ≡ false)
      (λ s set. le-ltb bound (together rows s) (quiet-set bound row s h.1 few set)) (subsets 2 row)
      (subsets-in 2 row (ascending-distinct 0 row h.0))))
      rows (all_both (λ row. T (ascending 0 row)) (All (λ v. v < 256)) rows up bytes))

  -- nothing is crowded where pairs are few
  pub first-none-of-pairs : (x bound : ℕ) → All (All (λ v. v < 256)) rows → T (few_pairs x bound rows)
      → first_crowded x bound rows ≡ none
  first-none-of-pairs x bound bytes t =
      let many = and_right (eqb x 1) (leb 256 (length rows) && leb (most_coded rows) bound) t in
      let few = and_right (leb 256 (length rows)) (leb (most_coded rows) bound) many in
      let two = and_left (eqb x 1) (leb 256 (length rows) && leb (most_coded rows) bound) t in
      rw (eqb-true x 1 (true-T (eqb x 1) two))
      (none-of-pairs bound bytes (leb-true (most_coded rows) bound (true-T (leb (most_coded rows) bound) few)))
