-- The states as the code has them, and what its inner functions ask and give. Assumes nothing.
use Rattle.std.specs.Prelude.{ℕ, zero, suc, ◌/◌, ◌%◌, ◌^◌, ◌≤◌, ◌<◌, ◌≡◌, Bool, List, length, get_or, eqb}
use Rattle.rounds.specs.Game.{storm, crew}

-- a state is a number: node v is failed where bit v is set
unfoldable pub down_in : (state v : ℕ) → Bool
down_in state zero = eqb (state % 2) 1
down_in state (suc v) = down_in (state / 2) v

-- the table lists the value of every state of n nodes
abbrev pub Lists : (n : ℕ) (table : List ℕ) (value : (ℕ → Bool) → ℕ) → Type 0
Lists n table value = (state : ℕ) → state < 2 ^ n → get_or table state 0 ≡ value (down_in state)

-- a state of at most ten nodes, and a table with room for all states of ten
pub record StateAsked (table : List ℕ) (n state : ℕ) : Type 0 where
  pub few : n ≤ 10
  pub inside : state < 2 ^ n
  pub held : length table ≡ 1_024

-- whatever the table lists, this is what the storm leaves, or the crew
abbrev pub StormGives : (table : List ℕ) (n b repairs state given : ℕ) → Type 0
StormGives table n b repairs state given =
    (value : (ℕ → Bool) → ℕ) → Lists n table value → given ≡ storm n b value repairs (down_in state)

abbrev pub CrewGives : (table : List ℕ) (n b repairs state given : ℕ) → Type 0
CrewGives table n b repairs state given =
    (value : (ℕ → Bool) → ℕ) → Lists n table value → given ≡ crew n b value repairs (down_in state)
