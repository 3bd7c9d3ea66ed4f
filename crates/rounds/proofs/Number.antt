-- The number of document 02's (k) for rows of nodes below n: it is the fewest usable records over all sets of q+1 nodes, and all
-- records where q+1 is below s. Assumes nothing.
use Prim.Native.Nat.{ℕ, suc, ◌-◌, ◌≤◌, ◌<◌}
use native.Mathlib.Omega.{arith}
use native.Mathlib.Nat.{le_trans, le_of_eq}
use mathlib.Core.Path.{◌≡◌, refl, sym, ◌∙◌, ap}
use mathlib.Core.Bool.{Bool, ◌&&◌}
use mathlib.Core.List.{List, [], ◌∷◌}
use lib.ListN.{length}
use lib.Dec.{T, ltb, ltb→lt}
use borrow.Author.Tests.{lt-ltb}
use Rattle.lists.specs.Lists.{All, count, every, up_to}
use Rattle.lists.proofs.Tests.{and_left, and_right}
use Rattle.lists.proofs.Alls.{all-imp, every-all}
use Rattle.lists.proofs.Counts.{count-le-length, count-mono, count-congr-all}
use Rattle.packing.specs.Rows.{ascending, Row, member}
use Rattle.packing.specs.Failures.{Failure, hits, usable}
use Rattle.packing.proofs.Hits.{hits-le-count}
use Rattle.rounds.specs.Game.{none_failed, rounds}
use Rattle.rounds.proofs.Counts.{count-none_failed}
use Rattle.rounds.proofs.Fewest.{storm-le-all, storm-le, Final, storm-final}

-- rows of nodes below n
abbrev pub RowsBelow : (n : ℕ) (rows : List (List ℕ)) → Type 0
RowsBelow n rows = All (All (λ v. v < n)) rows

pub rows-below : (n r : ℕ) (rows : List (List ℕ)) → All (Row n r) rows → RowsBelow n rows
rows-below n r rows h = all-imp (Row n r) (All (λ v. v < n)) below rows h
  where
    below : (row : List ℕ) → Row n r row → All (λ v. v < n) row
    below row o =
        all-imp (λ v. T (ltb v n)) (λ v. v < n) (λ v. ltb→lt v n) row
        (every-all (λ v. ltb v n) row (and_right (ascending 0 row) (every (λ v. ltb v n) row) o.1))

pub usable-most : (s : ℕ) (rows : List (List ℕ)) (failed : ℕ → Bool) → usable s rows failed ≤ length rows
unfolding usable
usable-most s rows failed = count-le-length (λ row. ltb (hits failed row) s) rows

-- only the nodes below n count
pub usable-alike : (n s : ℕ) (rows : List (List ℕ)) → RowsBelow n rows → (f g : ℕ → Bool)
    → ((w : ℕ) → w < n → f w ≡ g w) → usable s rows f ≡ usable s rows g
unfolding usable
usable-alike n s rows below f g same =
    count-congr-all (λ row. ltb (hits f row) s) (λ row. ltb (hits g row) s) rows
    (all-imp (All (λ v. v < n)) (λ row. ltb (hits f row) s ≡ ltb (hits g row) s)
    (λ row h. ap (λ c. ltb c s) (count-congr-all f g row (all-imp (λ v. v < n) (λ v. f v ≡ g v) same row h))) rows below)

module _ (n s : ℕ) (rows : List (List ℕ)) (q : ℕ) (least : 1 ≤ q) where
  pub rounds-most : rounds n s rows q ≤ length rows
  unfolding rounds
  rounds-most = storm-le-all _ _ _ _ _

  -- the storm can settle on any set of q+1 nodes
  pub rounds-le : RowsBelow n rows → (failed : ℕ → Bool) → Failure n (suc q) failed → rounds n s rows q ≤ usable s rows failed
  unfolding rounds
  rounds-le below failed number =
      let none = count-none_failed n in
      storm-le n (length rows) (usable s rows) (usable-alike n s rows below) failed (q - 1) none_failed (λ w lt t. absurd t)
      (omega arith)

  -- and the play ends in one
  pub rounds-final : suc q ≤ n → Final n (length rows) (usable s rows) (suc q) (rounds n s rows q)
  unfolding rounds
  rounds-final room =
      let none = count-none_failed n in
      let end = storm-final n (length rows) (usable s rows) (usable-most s rows) (q - 1) none_failed (omega arith) in
      record { set = end.set; number = end.number ∙ omega arith; gives = end.gives }

  -- so what holds of every set of q+1 nodes holds of the number
  pub rounds-ge : suc q ≤ n → (x : ℕ) → ((failed : ℕ → Bool) → Failure n (suc q) failed → x ≤ usable s rows failed)
      → x ≤ rounds n s rows q
  rounds-ge room x h =
      let end = rounds-final room in
      le_trans (h end.set end.number) (le_of_eq end.gives)

-- with fewer failed nodes than s every record is usable
pub usable-whole : (n r s k : ℕ) (rows : List (List ℕ)) (failed : ℕ → Bool) → All (Row n r) rows → Failure n k failed → k < s
    → usable s rows failed ≡ length rows
unfolding usable count
usable-whole n r s k [] failed o e few = refl
usable-whole n r s k (row ∷ rows) failed o e few =
    let hit = hits-le-count n r failed row o.0 in
    let some = count-mono (λ v. failed v && member v row) failed (λ v. and_left (failed v) (member v row)) (up_to n) in
    rw (lt-ltb (hits failed row) s (omega arith)) (ap suc (usable-whole n r s k rows failed o.1 e few))

-- "If q+1 is below s it is b."
pub rounds-whole : (n r s : ℕ) (rows : List (List ℕ)) (q : ℕ) → All (Row n r) rows → 1 ≤ q → suc q ≤ n → suc q < s
    → rounds n s rows q ≡ length rows
rounds-whole n r s rows q o least room few =
    let most = rounds-most n s rows q least in
    let all = rounds-ge n s rows q least room (length rows)
    (λ failed e. le_of_eq (sym (usable-whole n r s (suc q) rows failed o e few))) in
    omega arith
