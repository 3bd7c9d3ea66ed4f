-- `page_code::write_lines` meets its contract. The loop's invariant: the first i lines stand at the front, and all else is as it
-- was. Assumes nothing.
use mathlib.Core.Path.{◌≡◌}
use lib.Seq.{sets}
use Rattle.page.specs.Asked.{line_at}
use Rattle.page.proofs.Joined.{joined}
use Rattle.page_code.proofs.write_lines.Given as goal

abbrev pub invariant-loop-i : goal.invariant-loop-i
invariant-loop-i l =
    l.out ≡ sets l.initial.out 0 (joined (line_at l.bytes l.first l.r l.layers) l.i)
