-- What a line adds, from its word and the numbers that were read after the head's. Assumes nothing.
use Prim.Native.Nat.{ℕ, ◌-◌, ◌≤◌}
use Rattle.std.specs.Prelude.{Option, Some, None, Result, Ok, Err}
use native.Mathlib.Omega.{arith}
use mathlib.Core.Path.{◌≡◌, refl, sym, ◌∙◌}
use mathlib.Core.List.{List, [], ◌∷◌, ◌++◌}
use lib.ListN.{length, take, drop}
use Rattle.lists.proofs.Writing.{take-drop-rest}
use Rattle.lists.proofs.Tests.{cond-elim}
use Rattle.table.specs.declared.Word.{Word}
use Rattle.table.specs.declared.Word.TheVariants.{Table, Out, Mu, Plain}
use Rattle.table.specs.declared.Progress.{Progress}
use Rattle.table.specs.declared.Fault.{Fault}
use Rattle.table.specs.Told.{unreadable}
use Rattle.table.specs.Lines.{begins, letters, word_of, numbers_after, read_numbers, before}
use Rattle.table.specs.Reading.{Draft, add_table, add_out, add_layer, add_block, add_numbers, add_content, add_line}
use Rattle.table.specs.Progress.{Kept, Finds, Grown, Adds, NumbersIn, draft_of, found_in}
use Rattle.table.proofs.Lines.{begins-length}
use Rattle.table_reader.proofs.Found.{uncommented-is, draft-same, found-finds, found-is, none_found, found-length}

-- a line is as long as the word that it begins with
abbrev Fits : List ℕ → Word → Type 0
Fits line word = length (letters word) ≤ length line

pub word-inside : (line : List ℕ) → length (letters (word_of line)) ≤ length line
unfolding word_of
word-inside line =
    cond-elim (Fits line) (begins (letters Table) line) (begins-length (letters Table) line) λ _.
    cond-elim (Fits line) (begins (letters Out) line) (begins-length (letters Out) line) λ _.
    cond-elim (Fits line) (begins (letters Mu) line) (begins-length (letters Mu) line) λ _. omega arith

-- a line without its comment
pub line-grown : (line : ℕ) (bytes : List ℕ) (d : Draft) {end : ℕ} → end ≡ length (before 35 bytes) → (added : Result Progress Fault) (numbers rows lines : List ℕ)
    → Grown (add_content line (take (end - 0) (drop 0 bytes)) d) added numbers rows lines → Grown (add_line line bytes d) added numbers rows lines
unfolding add_line
line-grown line bytes d is added numbers rows lines grown = rw (uncommented-is bytes is) at grown

-- a line's numbers begin after its word
module _ (content : List ℕ) {word : Word} {start : ℕ} (word-is : word ≡ word_of content) (start_is : start ≡ length (letters word)) where
  pub start-inside : start ≤ length content
  start-inside = rw (start_is, word-is) (word-inside content)

  pub numbers-in : (read : Option ℕ) (part : List ℕ) → NumbersIn (read_numbers (take (length content - start) (drop start content)) 0 0 []) read part
      → NumbersIn (numbers_after (word_of content) content) read part
  numbers-in read part h =
      let whole : take (length content - start) (drop start content) ≡ drop (length (letters (word_of content))) content =
      take-drop-rest content start ∙ rw (start_is, word-is) refl in
      rw whole at h

-- what the line adds, where these numbers were read into the slice's part after the head's
module _ (p : Progress) (numbers part after : List ℕ) (room : p.count ≤ length numbers) (is : after ≡ take p.count numbers ++ part)
    (line : ℕ) (content rows lines : List ℕ) {read : Option ℕ}
    (found-in : NumbersIn (numbers_after (word_of content) content) read part) where
  pub content-unread : read ≡ None → Grown (add_content line content (draft_of p numbers rows lines)) (Err (unreadable line)) after rows lines
  unfolding add_content
  content-unread e = rw (none_found (numbers_after (word_of content) content) part found-in e) refl

  pub content-finds : {found : ℕ} → read ≡ Some found → Kept p (take p.count numbers) → 600 ≤ length after → Finds p found after
  content-finds e kept long = found-finds p numbers part after room is (numbers_after (word_of content) content) found-in e kept long

  pub content-read : {found : ℕ} → read ≡ Some found → {word : Word} → word ≡ word_of content → (added : Result Progress Fault) (numbers' rows' lines' : List ℕ)
      → Grown (add_numbers line word (found_in p found after) (draft_of p after rows lines)) added numbers' rows' lines'
      → Grown (add_content line content (draft_of p numbers rows lines)) added numbers' rows' lines'
  unfolding add_content
  content-read e word-is added numbers' rows' lines' grown =
      rw (found-is p numbers part after room is (numbers_after (word_of content) content) found-in e) (rw (word-is, draft-same p numbers part after room is rows lines) at grown)

-- a line by its word
module _ (p : Progress) (found : ℕ) (numbers rows lines : List ℕ) (line : ℕ) (word : Word) where
  abbrev ByWord : Result Progress Fault → (numbers' rows' lines' : List ℕ) → Type 0
  ByWord added numbers' rows' lines' =
      Grown (add_numbers line word (found_in p found numbers) (draft_of p numbers rows lines)) added numbers' rows' lines'

  module _ (added : Result Progress Fault) (after : List ℕ) where
    pub by-table : word ≡ Table → Adds (add_table line (found_in p found numbers)) p numbers added after → ByWord added after rows lines
    unfolding add_numbers
    by-table is adds = rw is (adds rows lines)

    pub by_out : word ≡ Out → Adds (add_out line (found_in p found numbers)) p numbers added after → ByWord added after rows lines
    unfolding add_numbers
    by_out is adds = rw is (adds rows lines)

    pub by-mu : word ≡ Mu → Adds (add_layer line (found_in p found numbers)) p numbers added after → ByWord added after rows lines
    unfolding add_numbers
    by-mu is adds = rw is (adds rows lines)

  -- without a word: nothing where it has no number, else a block
  module _ (is : word ≡ Plain) (finds : Finds p found numbers) where
    pub plain-none : found ≡ 0 → ByWord (Ok p) numbers rows lines
    unfolding add_numbers
    plain-none z = rw (is, z) (refl, finds.kept)

    pub plain-some : (found ≡ 0 → ⊥) → (added : Result Progress Fault) (numbers' rows' lines' : List ℕ)
        → Grown (add_block line (found_in p found numbers) (draft_of p numbers rows lines)) added numbers' rows' lines' → ByWord added numbers' rows' lines'
    unfolding add_numbers
    plain-some h added numbers' rows' lines' grown = rw is (go (found_in p found numbers) (found-length p found numbers finds) grown)
      where
        go : (ns : List ℕ) → length ns ≡ found → Grown (add_block line ns (draft_of p numbers rows lines)) added numbers' rows' lines'
            → Grown (add_numbers line Plain ns (draft_of p numbers rows lines)) added numbers' rows' lines'
        go [] e g = absurd (h (sym e))
        go (n ∷ ns) e g = g
