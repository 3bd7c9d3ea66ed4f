-- Lines that the programs print besides those of document 01. Assumes nothing.
use Rattle.std.specs.Prelude.{ℕ, suc, List, [], ◌∷◌, ◌++◌}
use Rattle.report.specs.Programs.{decimal, rest, refused_word}
use Rattle.text.specs.declared.TextRefusal.{TextRefusal}
use Rattle.text.specs.Refusals.{text_number, text_place}

-- a line of numbers alone: "one space between its parts" and "one newline"
abbrev pub numbers_line : (first : ℕ) (others : List ℕ) → List ℕ
numbers_line first others = decimal first ++ rest others

-- a line `k figure` for each figure, the first for k failures
unfoldable pub figure_lines : (k : ℕ) (figures : List ℕ) → List ℕ
figure_lines k [] = []
figure_lines k (figure ∷ figures) = numbers_line k (figure ∷ []) ++ figure_lines (suc k) figures

-- a refusal of text: "the line `refused number place`"
abbrev pub text_line : TextRefusal → List ℕ
text_line e = refused_word ++ rest (text_number e ∷ text_place e ∷ [])
