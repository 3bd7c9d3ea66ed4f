-- The numbers that a file with a list of nodes begins with, from the code's struct. Assumes nothing.
use Rattle.std.specs.Prelude.{ℕ, List, ◌∷◌}
use Rattle.layers.specs.Answers.{dark_list}
use Rattle.layers.specs.declared.Base.{Base}

-- the kind, n, r; (h) "after r, a count .. of such nodes and then their numbers"
abbrev pub start_numbers : (kind : ℕ) → Base → List ℕ
start_numbers kind base = kind ∷ base.n ∷ base.r ∷ base.dark.count ∷ dark_list base.dark
