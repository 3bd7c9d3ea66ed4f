-- Functions on lists that the definitions of document 01 are written with. Assumes nothing.
use Rattle.std.specs.Prelude.{ℕ, zero, suc, ◌+◌, max, Bool, true, false, cond, ◌&&◌, ◌||◌, List, [], ◌∷◌, ◌++◌, length, drop}
use Rattle.std.proofs.Math.Option.{Option, none, some}

-- one more than n where the test passed
abbrev pub tally : Bool → ℕ → ℕ
tally true n = suc n
tally false n = n

-- one place further on
abbrev pub later : Option ℕ → Option ℕ
later none = none
later (some i) = some (suc i)

module _ {A : Type 0} where
  -- P holds of every element
  abbrev pub All : (A → Type 0) → List A → Type 0
  All P [] = Unit
  All P (a ∷ l) = P a × All P l

  -- how many elements pass the test
  unfoldable pub count : (A → Bool) → List A → ℕ
  count f [] = 0
  count f (a ∷ l) = tally (f a) (count f l)

  -- every element passes the test
  unfoldable pub every : (A → Bool) → List A → Bool
  every f [] = true
  every f (a ∷ l) = f a && every f l

  -- some element passes the test
  unfoldable pub any : (A → Bool) → List A → Bool
  any f [] = false
  any f (a ∷ l) = f a || any f l

  -- the place of the first element that passes the test
  unfoldable pub first_where : (A → Bool) → List A → Option ℕ
  first_where f [] = none
  first_where f (a ∷ l) = cond (f a) (some 0) (later (first_where f l))

  -- the slice with these elements at its start, and the others as they were
  abbrev pub over_start : (elements slice : List A) → List A
  over_start elements slice = elements ++ drop (length elements) slice

-- the sum
unfoldable pub total : List ℕ → ℕ
total [] = 0
total (n ∷ l) = n + total l

-- the largest, 0 where there is none
unfoldable pub largest : List ℕ → ℕ
largest [] = 0
largest (n ∷ l) = max n (largest l)

-- the numbers below n, in order
unfoldable pub up_to : ℕ → List ℕ
up_to zero = []
up_to (suc n) = up_to n ++ (n ∷ [])
