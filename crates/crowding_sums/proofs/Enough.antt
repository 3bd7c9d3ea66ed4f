-- What the counts of sums say: a row that holds a set has its sum, so that no row is crowded where none of those that are kept is.
-- Assumes nothing.
use Prim.Native.Nat.{ℕ, zero, suc, ◌+◌, ◌-◌, ◌%◌, max, ◌≤◌, ◌<◌}
use native.Mathlib.Nat.{zero-add}
use native.Mathlib.Omega.{arith}
use mathlib.Core.Path.{◌≡◌, refl, sym}
use mathlib.Core.Bool.{Bool, true, false, cond}
use mathlib.Core.List.{List, [], ◌∷◌, map}
use mathlib.Core.Option.{none}
use lib.ListN.{length, get_or}
use lib.Dec.{T, eqb, ltb}
use borrow.Author.Tests.{eq-eqb, eqb-true, lt-ltb, ltb-true, ltb-false}
use Rattle.lists.specs.Lists.{All, tally, count, total, any}
use Rattle.lists.proofs.Tests.{T_true, true-T, false-T, and_left, and_right}
use Rattle.lists.proofs.Alls.{all-imp, all_both}
use Rattle.lists.proofs.Counts.{tally-add, count-mono}
use Rattle.lists.proofs.Finds.{first_where-none, none-first_where, any_none, none_any}
use Rattle.packing.specs.Rows.{ascending, holds, together, subsets, SetIn, crowded, first_crowded}
use Rattle.packing.proofs.Members.{ascending-distinct}
use Rattle.packing.proofs.Sets.{subsets-in}
use Rattle.crowding.proofs.Sets.{subsets-ascending, same_nodes, count-subsets}
use Rattle.crowding_sums.specs.Sums.{weigh, leaving, leaving_row, most_left, most_of, in_cell, is_kept, kept_of}
use Rattle.crowding_sums.proofs.Leaving.{leaving-row}

-- the same nodes weigh the same
same-weigh : (weights s nodes : List ℕ) → T (same_nodes s nodes) → weigh weights s ≡ weigh weights nodes
unfolding weigh
same-weigh weights [] [] t = refl
same-weigh weights [] (v ∷ nodes) t = absurd t
same-weigh weights (u ∷ s) [] t = absurd t
same-weigh weights (u ∷ s) (v ∷ nodes) t =
    let here : u ≡ v = eqb-true u v (true-T (eqb u v) (and_left (eqb u v) (same_nodes s nodes) t)) in
    rw (here, same-weigh weights s nodes (and_right (eqb u v) (same_nodes s nodes) t))

-- what holds of the rows that are kept, and of a row that passes
kept-all : (P : List ℕ → Type 0) (f : List ℕ → Bool) (rows : List (List ℕ)) → All P (kept_of f rows) → All (λ row. T (f row) → P row) rows
unfolding kept_of
kept-all P f [] h = tt
kept-all P f (row ∷ rows) h = go (f row) refl h (kept-all P f rows)
  where
    go : (b : Bool) → f row ≡ b → All P (cond b (row ∷ kept_of f rows) (kept_of f rows))
        → (All P (kept_of f rows) → All (λ row. T (f row) → P row) rows) → All (λ row. T (f row) → P row) (row ∷ rows)
    go true e g ih = ((λ t. g.0), ih g.1)
    go false e g ih = ((λ t. absurd (false-T e t)), ih g)

pub all-kept : (P : List ℕ → Type 0) (f : List ℕ → Bool) (rows : List (List ℕ)) → All P rows → All P (kept_of f rows)
unfolding kept_of
all-kept P f [] h = tt
all-kept P f (row ∷ rows) h = go (f row) (all-kept P f rows h.1)
  where
    go : (b : Bool) → All P (kept_of f rows) → All P (cond b (row ∷ kept_of f rows) (kept_of f rows))
    go true rest = (h.0, rest)
    go false rest = rest

-- a set stands in as many of the rows that are kept where all that hold it are
together-kept : (f : List ℕ → Bool) (nodes : List ℕ) (rows : List (List ℕ)) → All (λ row. T (holds row nodes) → T (f row)) rows
    → together (kept_of f rows) nodes ≡ together rows nodes
unfolding kept_of together count
together-kept f nodes [] h = refl
together-kept f nodes (row ∷ rows) h = go (f row) refl (holds row nodes) refl (together-kept f nodes rows h.1)
  where
    go : (b : Bool) → f row ≡ b → (held : Bool) → holds row nodes ≡ held → count (λ row. holds row nodes) (kept_of f rows) ≡ together rows nodes
        → count (λ row. holds row nodes) (cond b (row ∷ kept_of f rows) (kept_of f rows)) ≡ tally held (together rows nodes)
    go true e held g rest = rw (g, rest)
    go false e true g rest = absurd (false-T e (h.0 (T_true g)))
    go false e false g rest = rest

-- a sum comes more than `bound` times
abbrev is_over : (table : List ℕ) (bound sum : ℕ) → Bool
is_over table bound sum = ltb bound (get_or table (sum % 65536) 0)

over-sum : {bound m n : ℕ} (a b : ℕ) → 1 ≤ a + b → (1 ≤ a → bound < m) → (1 ≤ b → bound < n) → bound < max m n
over-sum zero b one f g = omega (arith, g (omega arith))
over-sum (suc a) b one f g = omega (arith, f (omega arith))

-- where one of the sums that are left comes too often, the one that comes most often does
over-most : (weights table : List ℕ) (bound d sum : ℕ) (nodes : List ℕ) → 1 ≤ leaving weights (is_over table bound) d sum nodes
    → bound < most_left weights table d sum nodes
unfolding leaving most_left
over-most weights table bound zero sum nodes one = go (ltb bound (get_or table (sum % 65536) 0)) refl one
  where
    go : (b : Bool) → ltb bound (get_or table (sum % 65536) 0) ≡ b → 1 ≤ tally b 0 → bound < get_or table (sum % 65536) 0
    go true e h = ltb-true bound (get_or table (sum % 65536) 0) e
    go false e h = absurd (omega arith)
over-most weights table bound (suc d) sum [] one = absurd (omega arith)
over-most weights table bound (suc d) sum (v ∷ nodes) one =
    over-sum (leaving weights (is_over table bound) d (sum - get_or weights v 0) nodes)
    (leaving weights (is_over table bound) (suc d) sum nodes) one
    (over-most weights table bound d (sum - get_or weights v 0) nodes) (over-most weights table bound (suc d) sum nodes)

module _ (weights : List ℕ) (d size : ℕ) (nodes : List ℕ) (len : length nodes ≡ size) (a : T (ascending 0 nodes)) where
  -- a row that holds a set of nodes has its sum
  held-passes : (f : ℕ → Bool) (row : List ℕ) → T (f (weigh weights nodes)) → length row ≡ size + d → T (ascending 0 row)
      → tally (holds row nodes) 0 ≤ leaving_row weights f d row
  held-passes f row t e up =
      omega (
        arith,
        leaving-row weights f d size row e,
        rw len at (count-subsets 0 0 row nodes up a),
        count-mono (λ s. same_nodes s nodes) (λ s. f (weigh weights s)) (λ s g. rw (same-weigh weights s nodes g) t) (subsets size row),
      )

  held-le : (f : ℕ → Bool) (rows : List (List ℕ)) → T (f (weigh weights nodes)) → All (λ row. length row ≡ size + d) rows
      → All (λ row. T (ascending 0 row)) rows → together rows nodes ≤ total (map (leaving_row weights f d) rows)
  unfolding together count total
  held-le f [] t e up = omega arith
  held-le f (row ∷ rows) t e up =
      let first : together (row ∷ rows) nodes ≡ tally (holds row nodes) 0 + together rows nodes =
      rw zero-add at (sym (tally-add (holds row nodes) 0 (together rows nodes))) in
      omega (arith, first, held-passes f row t e.0 up.0, held-le f rows t e.1 up.1)

module _ (weights table : List ℕ) (d size bound : ℕ) (rows : List (List ℕ)) (lengths : All (λ row. length row ≡ size + d) rows)
    (up : All (λ row. T (ascending 0 row)) rows)
    (counted : (p : ℕ) → get_or table p 0 ≡ total (map (leaving_row weights (in_cell p) d) rows)) where
  abbrev kept : List (List ℕ)
  kept = kept_of (is_kept weights table bound d) rows

  -- a set that stands in more than `bound` rows has a sum that comes too often
  crowded-over : (nodes : List ℕ) → length nodes ≡ size → T (ascending 0 nodes) → bound < together rows nodes
      → T (is_over table bound (weigh weights nodes))
  crowded-over nodes len a lt =
      let p = weigh weights nodes % 65536 in
      T_true (lt-ltb bound (get_or table p 0)
      (omega (arith, lt, counted p, held-le weights d size nodes len a (in_cell p) rows (T_true (eq-eqb p p refl)) lengths up)))

  -- so that each row that holds it is kept
  crowded-keeps : (nodes : List ℕ) → length nodes ≡ size → T (ascending 0 nodes) → bound < together rows nodes → (row : List ℕ)
      → (length row ≡ size + d) × T (ascending 0 row) → T (holds row nodes) → T (is_kept weights table bound d row)
  crowded-keeps nodes len a lt row h t =
      let one : 1 ≤ leaving_row weights (is_over table bound) d row =
      rw (true-T (holds row nodes) t) at
      (held-passes weights d size nodes len a (is_over table bound) row (crowded-over nodes len a lt) h.0 h.1) in
      T_true (lt-ltb bound (most_of weights table d row) (over-most weights table bound d (weigh weights row) row one))

  good : All (λ row. (length row ≡ size + d) × T (ascending 0 row)) rows
  good = all_both (λ row. length row ≡ size + d) (λ row. T (ascending 0 row)) rows lengths up

  -- and it stands in as many of those that are kept
  crowded-together : (nodes : List ℕ) → length nodes ≡ size → T (ascending 0 nodes) → bound < together rows nodes
      → together kept nodes ≡ together rows nodes
  crowded-together nodes len a lt =
      together-kept (is_kept weights table bound d) nodes rows
      (all-imp (λ row. (length row ≡ size + d) × T (ascending 0 row)) (λ row. T (holds row nodes) → T (is_kept weights table bound d row))
      (crowded-keeps nodes len a lt) rows good)

  -- a row that is not crowded in what is kept, if it is kept, is not crowded
  quiet : (row : List ℕ) → (length row ≡ size + d) × T (ascending 0 row)
      → (T (is_kept weights table bound d row) → any (λ s. ltb bound (together kept s)) (subsets size row) ≡ false)
      → any (λ s. ltb bound (together rows s)) (subsets size row) ≡ false
  quiet row h told = go (is_kept weights table bound d row) refl
    where
      sets : All (λ s. SetIn size row s × T (ascending 0 s)) (subsets size row)
      sets =
          all_both (SetIn size row) (λ s. T (ascending 0 s)) (subsets size row) (subsets-in size row (ascending-distinct 0 row h.1))
          (subsets-ascending 0 size row h.1)

      -- a crowded set would be crowded in what is kept, and the row would be kept
      few : (s : List ℕ) → SetIn size row s × T (ascending 0 s) → (T (is_kept weights table bound d row) → ltb bound (together kept s) ≡ false)
          → (b : Bool) → ltb bound (together rows s) ≡ b → ltb bound (together rows s) ≡ false
      few s i out false e = e
      few s i out true e =
          let lt : bound < together rows s = ltb-true bound (together rows s) e in
          let in_kept : ltb bound (together kept s) ≡ false = out (crowded-keeps s i.0.size i.1 lt row h i.0.held) in
          absurd (omega (
            arith,
            lt,
            ltb-false bound (together kept s) in_kept,
            crowded-together s i.0.size i.1 lt,
          ))

      go : (b : Bool) → is_kept weights table bound d row ≡ b → any (λ s. ltb bound (together rows s)) (subsets size row) ≡ false
      go true e =
          any_none (λ s. ltb bound (together rows s)) (subsets size row)
          (all-imp (λ s. (SetIn size row s × T (ascending 0 s)) × (ltb bound (together kept s) ≡ false)) (λ s. ltb bound (together rows s) ≡ false)
          (λ s i. few s i.0 (λ t. i.1) (ltb bound (together rows s)) refl) (subsets size row)
          (all_both (λ s. SetIn size row s × T (ascending 0 s)) (λ s. ltb bound (together kept s) ≡ false) (subsets size row) sets
          (none_any (λ s. ltb bound (together kept s)) (subsets size row) (told (T_true e)))))
      go false e =
          any_none (λ s. ltb bound (together rows s)) (subsets size row)
          (all-imp (λ s. SetIn size row s × T (ascending 0 s)) (λ s. ltb bound (together rows s) ≡ false)
          (λ s i. few s i (λ t. absurd (false-T e t)) (ltb bound (together rows s)) refl) (subsets size row) sets)

  pub kept-enough : (x : ℕ) → size ≡ suc x → first_crowded x bound kept ≡ none → first_crowded x bound rows ≡ none
  unfolding first_crowded crowded
  kept-enough x e none_kept =
      first_where-none (crowded x bound rows) rows
      (all-imp
      (λ row. ((length row ≡ size + d) × T (ascending 0 row)) × (T (is_kept weights table bound d row) → crowded x bound kept row ≡ false))
      (λ row. crowded x bound rows row ≡ false) (λ row h. rw (← e) (quiet row h.0 (rw (← e) at h.1))) rows
      (all_both (λ row. (length row ≡ size + d) × T (ascending 0 row)) (λ row. T (is_kept weights table bound d row) → crowded x bound kept row ≡ false)
      rows good
      (kept-all (λ row. crowded x bound kept row ≡ false) (is_kept weights table bound d) rows
      (none-first_where (crowded x bound kept) kept none_kept))))
