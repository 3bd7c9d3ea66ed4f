-- The bytes that `rows` reads are enough. Assumes nothing.
use Prim.Native.Nat.{ℕ}
use mathlib.Core.Path.{◌≡◌, refl}
use mathlib.Core.List.{List}
use lib.ListN.{length, take}
use lib.Seq.{length-take-le}
use borrow.Author.Tests.{le-ltb}
use Rattle.lists.proofs.Prefixes.{take-elim}
use Rattle.table.specs.Reading.{text_most}
use Rattle.rows_text.specs.Making.{rows_input, rows_reply}

-- A program reads so many bytes: the rest of its input changes nothing.
pub rows-buffer : (input : List ℕ) → rows_reply (take text_most input) ≡ rows_reply input
unfolding rows_reply rows_input
rows-buffer input = take-elim rows_reply text_most input λ long.
    let size = length-take-le text_most input long in
    rw (size, le-ltb (length input) text_most long) refl
