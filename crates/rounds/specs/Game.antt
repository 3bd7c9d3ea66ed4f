-- Document 02, (k): "Cuts and repairs in turn". The game itself, over sets of failed nodes; which nodes are failed is a test of a
-- node. Assumes nothing.
use Rattle.std.specs.Prelude.{ℕ, zero, suc, ◌-◌, min, max, Bool, false, not, cond, ◌&&◌, ◌||◌, List, [], ◌∷◌, ◌++◌, map, length, eqb}
use Rattle.lists.specs.Lists.{up_to}
use Rattle.packing.specs.Failures.{usable}

module _ {A : Type 0} where
  -- "wants the fewest": the least value of a move that may be made; `all`, which no value passes, where there is none
  unfoldable pub least_over : (all : ℕ) (may : A → Bool) (value : A → ℕ) → List A → ℕ
  least_over all may value [] = all
  least_over all may value (a ∷ moves) =
      cond (may a) (min (value a) (least_over all may value moves)) (least_over all may value moves)

  -- "the most"
  unfoldable pub most_over : (may : A → Bool) (value : A → ℕ) → List A → ℕ
  most_over may value [] = 0
  most_over may value (a ∷ moves) = cond (may a) (max (value a) (most_over may value moves)) (most_over may value moves)

-- "All nodes work at the start."
abbrev pub none_failed : ℕ → Bool
none_failed v = false

-- node v down, and those that were
abbrev pub down : (v : ℕ) (failed : ℕ → Bool) → ℕ → Bool
down v failed = λ w. eqb v w || failed w

-- "the crew brings one back"
abbrev pub mended : (v : ℕ) (failed : ℕ → Bool) → ℕ → Bool
mended v failed = λ w. failed w && not (eqb v w)

-- the sets of two nodes below n, each once: a node and a larger one
unfoldable pub pairs : (n : ℕ) → List (ℕ × ℕ)
pairs zero = []
pairs (suc n) = pairs n ++ map (λ u. (u, n)) (up_to n)

-- "takes two working nodes down": both work, and both are down afterwards
abbrev pub both_work : (failed : ℕ → Bool) (pair : ℕ × ℕ) → Bool
both_work failed pair = not (failed pair.0) && not (failed pair.1)

abbrev pub cut : (pair : ℕ × ℕ) (failed : ℕ → Bool) → ℕ → Bool
cut pair failed = down pair.0 (down pair.1 failed)

-- The storm's best cut, where `next` says what comes of each state: "The storm wants the fewest".
unfoldable pub best_cut : (n all : ℕ) (next : (ℕ → Bool) → ℕ) (failed : ℕ → Bool) → ℕ
best_cut n all next failed = least_over all (both_work failed) (λ pair. next (cut pair failed)) (pairs n)

-- What comes of a state after a cut, with so many repairs to come: after the last cut there is none, and the records are
-- counted; before that the crew brings back the failed node after which the storm's best cut leaves "the most".
unfoldable pub crew : (n all : ℕ) (value : (ℕ → Bool) → ℕ) (repairs : ℕ) (failed : ℕ → Bool) → ℕ
crew n all value zero failed = value failed
crew n all value (suc repairs) failed =
    most_over failed (λ v. best_cut n all (crew n all value repairs) (mended v failed)) (up_to n)

-- the storm's turn, with so many repairs to come: "each side answers the other's best move"
abbrev pub storm : (n all : ℕ) (value : (ℕ → Bool) → ℕ) (repairs : ℕ) (failed : ℕ → Bool) → ℕ
storm n all value repairs failed = best_cut n all (crew n all value repairs) failed

-- "In each of q rounds .. between rounds the crew brings one back": q cuts, with q - 1 repairs between them; the usable records
-- "after the last cut". Of the records that there are none is more usable than all.
unfoldable pub rounds : (n s : ℕ) (rows : List (List ℕ)) (q : ℕ) → ℕ
rounds n s rows q = storm n (length rows) (usable s rows) (q - 1) none_failed
