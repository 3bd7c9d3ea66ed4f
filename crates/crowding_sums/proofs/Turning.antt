-- The sums of a row's sets, and of all rows. Assumes nothing.
use Prim.Native.Nat.{ℕ, ◌+◌, ◌*◌, ◌-◌, ◌%◌, ◌≤◌, ◌<◌}
use native.Mathlib.Omega.{arith}
use mathlib.Core.Path.{◌≡◌, refl, ◌∙◌}
use mathlib.Core.List.{List}
use lib.ListN.{get_or, take, drop}
use Rattle.lists.specs.Lists.{tally}
use Rattle.crowding_pairs.specs.Codes.{Raised}
use Rattle.crowding_pairs.proofs.Turns.{Turns, bytes-five, turn-few}
use Rattle.crowding_sums.specs.Sums.{weigh, leaving, most_left, in_cell, Room, ToCount, ToKeep}

-- with no node left out the whole sum is looked at
pub most-whole : (weights table : List ℕ) (d sum : ℕ) (nodes : List ℕ) → d ≡ 0 → get_or table (sum % 65536) 0 ≡ most_left weights table d sum nodes
unfolding most_left
most-whole weights table d sum nodes e = rw e refl

pub whole-raised : (weights : List ℕ) (d sum : ℕ) (nodes : List ℕ) {table table' : List ℕ} → d ≡ 0
    → Raised (λ p. tally (in_cell p sum) 0) table table' → Raised (λ p. leaving weights (in_cell p) d sum nodes) table table'
unfolding leaving
whole-raised weights d sum nodes e raised = rw e raised

-- more room
pub roomier : {weights : List ℕ} {sum base most : ℕ} {nodes table : List ℕ} → base ≤ most → Room weights sum base nodes table
    → Room weights sum most nodes table
roomier le room = record { look = room.look; few = λ p. omega (arith, room.few p, le) }

-- the table has room for a row more
pub turn-room : {rows : List ℕ} {c r d : ℕ} {weights table₀ table : List ℕ} {by : ℕ → List ℕ → ℕ} {i : ℕ}
    → Turns by rows c r table₀ table i → ToCount rows c r d weights table₀ → i < c
    → let bytes = take (i * r + r - i * r) (drop (i * r) rows) in Room weights (weigh weights bytes) 60000 bytes table
turn-room t given h = record {
  look = record {
    short = bytes-five t given.look.fit h;
    known = given.look.known;
    held = omega arith;
    cells = t.same ∙ given.look.cells;
  };
  few = turn-few t given.look.fit h;
}

-- r and d as numbers
pub count-numbers : {rows : List ℕ} {c r d q m : ℕ} {weights table : List ℕ} → r ≡ q → d ≡ m → ToCount rows c r d weights table
    → ToCount rows c q m weights table
count-numbers e f given = rw (e, f) at given

pub keep-numbers : {rows : List ℕ} {c r d q m : ℕ} {weights table kept : List ℕ} → r ≡ q → d ≡ m → ToKeep rows c r d weights table kept
    → ToKeep rows c q m weights table kept
keep-numbers e f given = rw (e, f) at given
