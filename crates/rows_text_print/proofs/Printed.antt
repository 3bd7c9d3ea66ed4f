-- Reading what was printed, line by line. Assumes nothing.
use Prim.Native.Nat.{ℕ, suc, ◌≤◌}
use native.Mathlib.Omega.{arith}
use mathlib.Core.Path.{◌≡◌, refl, sym, ◌∙◌, ap}
use mathlib.Core.List.{List, [], ◌∷◌, ◌++◌, append_assoc}
use lib.ListN.{length}
use Rattle.lists.specs.Lists.{All}
use Rattle.lists.proofs.Alls.{all_append}
use Rattle.table.specs.Told.{◌>>=◌}
use Rattle.table.specs.Lines.{lines_of, begins, read_numbers}
use Rattle.table.specs.Reading.{Draft}
use Rattle.table.proofs.Lines.{Inside, lines-line, before-all}
use Rattle.rows_text.specs.declared.RowsWord.{RowsWord}
use Rattle.rows_text.specs.declared.RowsWord.TheVariants.{Rows, Out, Order, Plain}
use Rattle.rows_text.specs.Words.{letters, word_of, numbers_after}
use Rattle.rows_text.specs.Reading.{add_numbers, add_content, add_line, read_lines}
use Rattle.rows_text_print.specs.Printing.{text_line}
use Rattle.table.proofs.Numbers.{Short, spaced, rest-spaced, spaced-inside, read-spaced}

-- a printed line without its newline
abbrev printed : RowsWord → List ℕ → List ℕ
printed word numbers = letters word ++ spaced numbers

word-of : (word : RowsWord) (numbers : List ℕ) → word_of (printed word numbers) ≡ word
unfolding word_of begins spaced
word-of Rows numbers = refl
word-of Out numbers = refl
word-of Order numbers = refl
word-of Plain [] = refl
word-of Plain (n ∷ numbers) = refl

after-word : (word : RowsWord) (numbers : List ℕ) → numbers_after word (printed word numbers) ≡ read_numbers (spaced numbers) 0 0 []
after-word Rows numbers = refl
after-word Out numbers = refl
after-word Order numbers = refl
after-word Plain numbers = refl

letters-inside : (word : RowsWord) → All Inside (letters word)
letters-inside Rows = ((refl, refl), ((refl, refl), ((refl, refl), ((refl, refl), tt))))
letters-inside Out = ((refl, refl), ((refl, refl), ((refl, refl), tt)))
letters-inside Order = ((refl, refl), ((refl, refl), ((refl, refl), ((refl, refl), ((refl, refl), tt)))))
letters-inside Plain = tt

module _ (word : RowsWord) (numbers : List ℕ) where
  line-inside : All Inside (printed word numbers)
  line-inside = all_append Inside (letters word) (spaced numbers) (letters-inside word) (spaced-inside numbers)

  module _ (small : All Short numbers) (few : length numbers ≤ 255) where
    line-added : (line : ℕ) (d : Draft) → add_line line (printed word numbers) d ≡ add_numbers line word numbers d
    unfolding add_line add_content
    line-added line d =
        rw (
          before-all (printed word numbers) line-inside,
          word-of word numbers,
          after-word word numbers,
          read-spaced numbers 0 0 [] small (omega arith),
        )

    -- a printed line adds its numbers, and what follows is read from the next line on
    pub read-line : (line : ℕ) (more : List ℕ) (d : Draft)
        → read_lines line (lines_of (text_line word numbers ++ more)) d ≡ (add_numbers line word numbers d >>= read_lines (suc line) (lines_of more))
    unfolding read_lines
    read-line line more d =
        let whole : text_line word numbers ++ more ≡ printed word numbers ++ (10 ∷ more) =
        rw (rest-spaced numbers) (ap (λ l. l ++ more) (sym (append_assoc (letters word) (spaced numbers) (10 ∷ []))) ∙ append_assoc (printed word numbers) (10 ∷ []) more) in
        rw (whole, lines-line (printed word numbers) more line-inside, line-added line d)
