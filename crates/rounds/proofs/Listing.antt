-- The table of all states: usable records counted row by row, and what the table then lists. Assumes nothing.
use Prim.Native.Nat.{ℕ, ◌+◌, ◌*◌, ◌-◌, ◌/◌, ◌%◌, ◌^◌, ◌≤◌, ◌<◌}
use native.Mathlib.Omega.{arith}
use native.Mathlib.Nat.{le_trans}
use native.Mathlib.Numerals.{add-one}
use mathlib.Core.Path.{◌≡◌, refl, sym, ◌∙◌, ap}
use mathlib.Core.Bool.{Bool}
use mathlib.Core.List.{List, [], ◌∷◌, map}
use lib.ListN.{length, get_or, take, drop, get_or-append, length-take}
use lib.Seq.{sets, take-suc, take-length}
use lib.Dec.{ltb}
use Rattle.lists.specs.Lists.{All, tally, count, up_to}
use Rattle.lists.proofs.Alls.{all_get_d}
use Rattle.lists.proofs.Counts.{count-append, count-le-length}
use Rattle.lists.proofs.CountUpTo.{count-up_to-suc, count-up_to-congr, count-get_d}
use Rattle.lists.proofs.Stores.{sets-start}
use Rattle.lists.proofs.UpTo.{length-up_to, length-map-up_to, get_d-map-up_to}
use Rattle.packing.specs.Rows.{rows_at}
use Rattle.packing.specs.Failures.{hits, usable}
use Rattle.packing.proofs.RowsAt.{length-rows_at, get_d-rows_at}
use Rattle.rounds.specs.Game.{none_failed, storm, rounds}
use Rattle.rounds.specs.States.{down_in, Lists, StormGives}
use Rattle.rounds.specs.Asked.{RowsAsked}
use Rattle.rounds.proofs.States.{bit-number, state-none, states-few}

-- the replicas on failed nodes, a node at a time
module _ (state : ℕ) (row : List ℕ) where
  abbrev pub hits_to : (i : ℕ) → ℕ
  hits_to i = hits (down_in state) (take i row)

  pub hits-none : 0 ≡ hits_to 0
  unfolding count
  hits-none = refl

  pub hits_next : (i : ℕ) → i < length row → hits_to (i + 1) ≡ hits_to i + state / 2 ^ get_or row i 0 % 2
  unfolding count
  hits_next i h =
      rw (add-one i, take-suc row i 0 h, count-append (down_in state) (take i row) (get_or row i 0 ∷ []), bit-number state (get_or row i 0)) refl

  pub hits-all : (i : ℕ) → i ≡ length row → hits_to i ≡ hits (down_in state) row
  hits-all i e = ap (hits (down_in state)) (rw e (take-length row))

  pub hits-le : (i : ℕ) → hits_to i ≤ length row
  hits-le i = le_trans (count-le-length (down_in state) (take i row)) (omega (arith, length-take i row))

-- the usable records, a row at a time
module _ (rows : List ℕ) (r s state : ℕ) where
  abbrev pub row_usable : (j : ℕ) → Bool
  row_usable j = ltb (hits (down_in state) (take r (drop (j * r) rows))) s

  abbrev pub usable_to : (j : ℕ) → ℕ
  usable_to j = count row_usable (up_to j)

  pub usable-none : usable_to 0 ≡ 0
  unfolding up_to count
  usable-none = refl

  pub usable-next : (j : ℕ) → usable_to (j + 1) ≡ usable_to j + tally (row_usable j) 0
  usable-next j = rw (add-one j) (count-up_to-suc row_usable j)

  pub usable-le : (j : ℕ) → usable_to j ≤ j
  usable-le j = le_trans (count-le-length row_usable (up_to j)) (omega (arith, length-up_to j))

  pub usable-all : (b j : ℕ) → j ≡ b → usable_to j ≡ usable s (rows_at r b rows) (down_in state)
  unfolding usable
  usable-all b j e =
      rw e (sym (count-get_d (λ row. ltb (hits (down_in state) row) s) [] (rows_at r b rows)
      ∙ rw (length-rows_at r b rows)
      (count-up_to-congr (λ i. ltb (hits (down_in state) (get_or (rows_at r b rows) i [])) s) row_usable b
      (λ i lt. ap (λ row. ltb (hits (down_in state) row) s) (get_d-rows_at r b rows i lt)))))

-- the nodes of a row are below ten
pub row-nodes : (rows : List ℕ) (r b j : ℕ) → RowsAsked rows r b → j < b → All (λ v. v < 10) (take r (drop (j * r) rows))
row-nodes rows r b j asked h =
    rw (← get_d-rows_at r b rows j h)
    (all_get_d (All (λ v. v < 10)) (rows_at r b rows) j [] asked.nodes (omega (arith, length-rows_at r b rows)))

-- what stands in a table that was filled so
pub filled-lists : (n : ℕ) (f : (ℕ → Bool) → ℕ) (entry exit : List ℕ) → n ≤ 10 → length entry ≡ 1_024
    → exit ≡ sets entry 0 (map (λ state. f (down_in state)) (up_to (2 ^ n))) → Lists n exit f
filled-lists n f entry exit few size is state inside =
    let g : ℕ → ℕ = λ i. f (down_in i) in
    let long = length-map-up_to g (2 ^ n) in
    rw (is, sets-start entry (map g (up_to (2 ^ n))) (omega (arith, states-few n few)))
    (get_or-append (map g (up_to (2 ^ n))) (drop (length (map g (up_to (2 ^ n)))) entry) 0 state (omega arith)
    ∙ get_d-map-up_to g (2 ^ n) state 0 inside)

-- the storm's turn on such a table, with all nodes working, is the game
pub played : (n s r b q : ℕ) (bytes entry exit : List ℕ) (given : ℕ) → n ≤ 10 → length entry ≡ 1_024
    → exit ≡ sets entry 0 (map (λ state. usable s (rows_at r b bytes) (down_in state)) (up_to (2 ^ n)))
    → StormGives exit n b (q - 1) 0 given → given ≡ rounds n s (rows_at r b bytes) q
unfolding rounds
played n s r b q bytes entry exit given few size is gives =
    let value = usable s (rows_at r b bytes) in
    gives value (filled-lists n value entry exit few size is)
    ∙ ap (storm n b value (q - 1)) state-none
    ∙ ap (λ c. storm n c value (q - 1) none_failed) (sym (length-rows_at r b bytes))
