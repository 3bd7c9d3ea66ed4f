-- Document 01, "Seven cabinets": the rows. Assumes nothing.
use Rattle.std.specs.Prelude.{ℕ, List, [], ◌∷◌}

-- "rows 012 345"
abbrev pub rows0 : List (List ℕ)
rows0 = (0 ∷ 1 ∷ 2 ∷ []) ∷ (3 ∷ 4 ∷ 5 ∷ []) ∷ []

-- "then 012 034 056 135 146 236 245", with another last row where one is given
abbrev pub rows1 : (last : List ℕ) → List (List ℕ)
rows1 last =
    (0 ∷ 1 ∷ 2 ∷ []) ∷ (0 ∷ 3 ∷ 4 ∷ []) ∷ (0 ∷ 5 ∷ 6 ∷ []) ∷ (1 ∷ 3 ∷ 5 ∷ []) ∷ (1 ∷ 4 ∷ 6 ∷ []) ∷ (2 ∷ 3 ∷ 6 ∷ [])
    ∷ last
    ∷ []

-- row 245
abbrev pub row245 : List ℕ
row245 = 2 ∷ 4 ∷ 5 ∷ []
