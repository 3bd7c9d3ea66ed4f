-- Document 01, "Refusals by number". Assumes nothing.
use Rattle.std.specs.Prelude.{ℕ, List}
use Rattle.refusal.specs.declared.Refusal.{Refusal}
use Rattle.refusal.specs.declared.Refusal.TheVariants.{Ended, Malformed, WrongKind, OutsideLimits, Trailing, BadRow, Crowded, WrongFigure, NoBlock, ShortWork, ShortOutput, BadOrder, Unjoinable, BadWish, OutOfService, BadCounts, TooManySets, BadRounds, EarlierEvent, BadEvent, SharedFeeder}

-- the table's column "returned"
abbrev pub number_of : Refusal → ℕ
number_of (Ended p) = 1
number_of (Malformed p) = 2
number_of WrongKind = 3
number_of (OutsideLimits p) = 4
number_of (Trailing p) = 5
number_of (BadRow p) = 6
number_of (Crowded p) = 7
number_of (WrongFigure p) = 8
number_of NoBlock = 9
number_of (ShortWork p) = 10
number_of (ShortOutput p) = 11
number_of (BadOrder p) = 12
-- request (e): "13 if r differs or if joined nodes, rows or a mu pass document 01's limits"
number_of Unjoinable = 13
-- request (g): "It refuses with 14 .. if either wish is 0 or above 4,096"
number_of BadWish = 14
-- request (h): "It refuses with 15, at the row's start, a row naming such a node"
number_of (OutOfService p) = 15
-- request (i): "refuses with 16 .. counts that don't sum to b or that put records in a layer without blocks or not below s"
number_of BadCounts = 16
-- request (j): "It refuses with 17 .. if C(n,k) × b is above 16,777,216"
number_of TooManySets = 17
-- request (k): "It refuses with 18 .. if q is outside 1 to 3, n is above 10 or below q+2, or b is above 256"
number_of BadRounds = 18
-- request (l): "It refuses with 19 an event earlier than the one before"
number_of (EarlierEvent p) = 19
-- request (l): "and with 20 a node not below n or a change to the state it is already in"
number_of (BadEvent p) = 20
-- request (n): "It refuses with 21 .. a row with two nodes on one feeder"
number_of (SharedFeeder p) = 21

-- the table's column "place"
abbrev pub place_of : Refusal → ℕ
place_of (Ended p) = p
place_of (Malformed p) = p
place_of WrongKind = 0
place_of (OutsideLimits p) = p
place_of (Trailing p) = p
place_of (BadRow p) = p
place_of (Crowded p) = p
place_of (WrongFigure p) = p
place_of NoBlock = 0
place_of (ShortWork p) = p
place_of (ShortOutput p) = p
place_of (BadOrder p) = p
-- "A later refusal for which no place is named gives 0."
place_of Unjoinable = 0
place_of BadWish = 0
place_of (OutOfService p) = p
place_of BadCounts = 0
place_of TooManySets = 0
place_of BadRounds = 0
place_of (EarlierEvent p) = p
place_of (BadEvent p) = p
place_of (SharedFeeder p) = p

-- What an answer says in document 01's terms: a result with its values, or a refusal's number and place. "For each answer
-- that is an enum, a definition gives this paper's number and values for every case of that enum."
pub data Outcome : Type 0 where
  result : List ℕ → Outcome
  refusal : ℕ → ℕ → Outcome

abbrev pub refusal_outcome : Refusal → Outcome
refusal_outcome e = refusal (number_of e) (place_of e)
