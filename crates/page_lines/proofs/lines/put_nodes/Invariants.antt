-- `page_lines::lines::put_nodes` meets its contract. The loop's invariant: j fields stand from `at` on, and all else is as it was.
-- Assumes nothing.
use mathlib.Core.Path.{◌≡◌}
use lib.Seq.{sets}
use Rattle.page.specs.Page.{node_field}
use Rattle.page.proofs.Joined.{joined}
use Rattle.page_lines.proofs.lines.put_nodes.Given as goal

abbrev pub invariant-loop-j : goal.invariant-loop-j
invariant-loop-j l = l.out ≡ sets l.initial.out l.at (joined (node_field l.row) l.j)
