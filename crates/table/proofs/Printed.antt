-- Reading what was printed, line by line. Assumes nothing.
use Prim.Native.Nat.{ℕ, suc, ◌≤◌}
use native.Mathlib.Omega.{arith}
use mathlib.Core.Path.{◌≡◌, refl, sym, ◌∙◌, ap}
use mathlib.Core.List.{List, [], ◌∷◌, ◌++◌, append_assoc}
use lib.ListN.{length}
use Rattle.lists.specs.Lists.{All}
use Rattle.lists.proofs.Alls.{all_append}
use Rattle.table.specs.declared.Word.{Word}
use Rattle.table.specs.declared.Word.TheVariants.{Table, Out, Mu, Plain}
use Rattle.table.specs.Told.{◌>>=◌}
use Rattle.table.specs.Lines.{lines_of, begins, letters, word_of, numbers_after, read_numbers}
use Rattle.table.specs.Reading.{Draft, add_numbers, add_content, add_line, read_lines}
use Rattle.table.specs.Printing.{text_line}
use Rattle.table.proofs.Lines.{Inside, lines-line, before-all}
use Rattle.table.proofs.Numbers.{Short, spaced, rest-spaced, spaced-inside, read-spaced}

-- a printed line without its newline
abbrev printed : Word → List ℕ → List ℕ
printed word numbers = letters word ++ spaced numbers

word-of : (word : Word) (numbers : List ℕ) → word_of (printed word numbers) ≡ word
unfolding word_of begins spaced
word-of Table numbers = refl
word-of Out numbers = refl
word-of Mu numbers = refl
word-of Plain [] = refl
word-of Plain (n ∷ numbers) = refl

after-word : (word : Word) (numbers : List ℕ) → numbers_after word (printed word numbers) ≡ read_numbers (spaced numbers) 0 0 []
after-word Table numbers = refl
after-word Out numbers = refl
after-word Mu numbers = refl
after-word Plain numbers = refl

letters-inside : (word : Word) → All Inside (letters word)
letters-inside Table = ((refl, refl), ((refl, refl), ((refl, refl), ((refl, refl), ((refl, refl), tt)))))
letters-inside Out = ((refl, refl), ((refl, refl), ((refl, refl), tt)))
letters-inside Mu = ((refl, refl), ((refl, refl), tt))
letters-inside Plain = tt

module _ (word : Word) (numbers : List ℕ) where
  line-inside : All Inside (printed word numbers)
  line-inside = all_append Inside (letters word) (spaced numbers) (letters-inside word) (spaced-inside numbers)

  module _ (small : All Short numbers) (few : length numbers ≤ 255) where
    line-added : (line : ℕ) (d : Draft) → add_line line (printed word numbers) d ≡ add_numbers line word numbers d
    unfolding add_line add_content
    line-added line d =
        rw (
          before-all (printed word numbers) line-inside,
          word-of word numbers,
          after-word word numbers,
          read-spaced numbers 0 0 [] small (omega arith),
        )

    -- a printed line adds its numbers, and what follows is read from the next line on
    pub read-line : (line : ℕ) (more : List ℕ) (d : Draft)
        → read_lines line (lines_of (text_line word numbers ++ more)) d ≡ (add_numbers line word numbers d >>= read_lines (suc line) (lines_of more))
    unfolding read_lines
    read-line line more d =
        let whole : text_line word numbers ++ more ≡ printed word numbers ++ (10 ∷ more) =
        rw (rest-spaced numbers) (ap (λ l. l ++ more) (sym (append_assoc (letters word) (spaced numbers) (10 ∷ []))) ∙ append_assoc (printed word numbers) (10 ∷ []) more) in
        rw (whole, lines-line (printed word numbers) more line-inside, line-added line d)
