-- Bytes put one after another into a lent slice. Assumes nothing.
use Prim.Native.Nat.{ℕ, ◌+◌, ◌*◌, ◌≤◌}
use native.Mathlib.Omega.{arith}
use mathlib.Core.Path.{◌≡◌, refl, sym, ◌∙◌}
use mathlib.Core.List.{List, [], ◌++◌}
use lib.ListN.{length, length-append}
use Rattle.lists.proofs.Stores.{sets-append, sets-start}
use Rattle.report.specs.Programs.{decimal, rest}
use Rattle.report.specs.Replies.{Replied}
use Rattle.report.proofs.Replies.{replied-of}
use Rattle.report_lines.specs.Put.{Put}
use Rattle.report_lines.proofs.Lengths.{decimal-most, rest-most}
use Rattle.replies.specs.Lines.{numbers_line}

-- a part after a part
pub put-append : {first second before between after : List ℕ} {at mid next : ℕ} → Put first before at mid between
    → Put second between mid next after → Put (first ++ second) before at next after
put-append {first} {second} {before} {at = at} p q =
    record {
      ends = omega (arith, p.ends, q.ends, length-append first second);
      stored = q.stored ∙ rw (p.stored, p.ends) (sym (sets-append before at first second));
    }

-- nothing
pub put-none : (before : List ℕ) (at : ℕ) {none : List ℕ} → none ≡ [] → Put none before at at before
put-none before at e = rw e (record { ends = omega arith; stored = refl })

-- what is put at the start is a reply
pub put-replied : {bytes before after : List ℕ} {next : ℕ} → Put bytes before 0 next after → next ≤ length before
    → Replied bytes next before after
put-replied {bytes} {before} {after} {next} p inside =
    let is : next ≡ length bytes = p.ends ∙ omega arith in
    replied-of bytes next before after is (p.stored ∙ sets-start before bytes (omega arith))

-- a line of numbers has at most 21 bytes for each
pub numbers-length-le : (first : ℕ) (others : List ℕ) → length (numbers_line first others) ≤ 21 * length others + 21
numbers-length-le first others =
    rw (length-append (decimal first) (rest others)) (omega (arith, decimal-most first, rest-most others))

-- and at the start it is a reply
pub numbers-replied : (first : ℕ) (others before after : List ℕ) (next : ℕ) → 21 * length others + 21 ≤ length before
    → Put (numbers_line first others) before 0 next after → Replied (numbers_line first others) next before after
numbers-replied first others before after next room p =
    put-replied p (omega (arith, p.ends, numbers-length-le first others))
