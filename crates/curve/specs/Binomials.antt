-- A row of the binomials' table, as the code carries it. Assumes nothing.
use Rattle.std.specs.Prelude.{ℕ, List, [], ◌∷◌}
use Rattle.binomial.specs.Choose.{choose}

-- C(m,0) to C(m,5)
abbrev pub binomial_row : ℕ → List ℕ
binomial_row m = choose m 0 ∷ choose m 1 ∷ choose m 2 ∷ choose m 3 ∷ choose m 4 ∷ choose m 5 ∷ []
