-- A line is its word and then its numbers, at the start of a lent slice. Assumes nothing.
use Prim.Native.Nat.{ℕ, ◌+◌, ◌*◌, ◌≤◌}
use native.Mathlib.Omega.{arith}
use native.Mathlib.Nat.{zero-add}
use mathlib.Core.Path.{◌≡◌, sym, ◌∙◌}
use mathlib.Core.List.{List, ◌++◌}
use lib.ListN.{length, length-append}
use lib.Seq.{sets}
use Rattle.lists.specs.Lists.{over_start}
use Rattle.lists.proofs.Stores.{sets-append, sets-start}
use Rattle.report.specs.Programs.{rest}
use Rattle.report.specs.Replies.{Replied}
use Rattle.report.proofs.Replies.{replied-of}
use Rattle.report_lines.specs.Put.{Put}
use Rattle.report_lines.proofs.numbers.Turns.{rest-length-le}

-- The line: its word from the start, then its numbers.
pub line-replied : (word numbers before between after : List ℕ) (next : ℕ)
    → length word + 21 * length numbers + 1 ≤ length before → between ≡ over_start word before
    → Put (rest numbers) between (length word) next after → Replied (word ++ rest numbers) next before after
line-replied word numbers before between after next h e put =
    let all = length-append word (rest numbers) in
    let stored : between ≡ sets before 0 word = e ∙ sym (sets-start before word (omega arith)) in
    let whole : after ≡ sets before 0 (word ++ rest numbers) =
    rw (put.stored, stored) (sym (sets-append before 0 word (rest numbers) ∙ rw zero-add)) in
    replied-of (word ++ rest numbers) next before after (put.ends ∙ sym all)
    (whole ∙ sets-start before (word ++ rest numbers) (omega (arith, rest-length-le numbers)))
