-- Document 02, (k): the call. Assumes nothing.
use Rattle.std.specs.Prelude.{ℕ, ◌+◌, Bool, ◌&&◌, List, leb}
use Rattle.refusal.specs.declared.Refusal.TheVariants.{BadRounds}
use Rattle.refusal.specs.Checked.{Checked, accepted, ◌>>=◌, require}
use Rattle.placement.specs.Placement.{Placement, check_placement}
use Rattle.placement.specs.Units.{units, unit_rows}
use Rattle.rounds.specs.Game.{rounds}

-- "if q is outside 1 to 3, n is above 10 or below q+2, or b is above 256": where it is not so
abbrev pub rounds_taken : (n b q : ℕ) → Bool
rounds_taken n b q = leb 1 q && leb q 3 && leb n 10 && leb (q + 2) n && leb b 256

-- "Give that number.": the units that can fail, and the rows as lists of them
unfoldable pub rounds_of : Placement → (q : ℕ) → ℕ
rounds_of p q = rounds (units p) p.s (unit_rows p) q

-- "It refuses with 18, after the placement is accepted"
unfoldable pub check_rounds : (bytes : List ℕ) (q : ℕ) → Checked ℕ
check_rounds bytes q = do
  p ← check_placement bytes
  _ ← require (rounds_taken (units p) p.b q) BadRounds
  accepted (rounds_of p q)
