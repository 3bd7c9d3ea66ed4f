-- What the code that prints an offer goes by. Assumes nothing.
use Rattle.std.specs.Prelude.{ℕ, List, [], ◌∷◌, get_or}

-- the figure, five counts and five copies
abbrev pub eleven_of : (figure : ℕ) (counts copies : List ℕ) → List ℕ
eleven_of figure counts copies =
    figure ∷ get_or counts 0 0 ∷ get_or counts 1 0 ∷ get_or counts 2 0 ∷ get_or counts 3 0 ∷ get_or counts 4 0
    ∷ get_or copies 0 0 ∷ get_or copies 1 0 ∷ get_or copies 2 0 ∷ get_or copies 3 0 ∷ get_or copies 4 0 ∷ []
