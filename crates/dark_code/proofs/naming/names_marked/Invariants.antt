-- `dark_code::naming::names_marked` meets its contract. The loop's invariant: the row names a marked node exactly where the
-- nodes not yet looked at do. Assumes nothing.
use mathlib.Core.Path.{◌≡◌}
use mathlib.Core.Bool.{false}
use lib.ListN.{drop, get_or}
use Rattle.lists.specs.Lists.{any}
use Rattle.dark_code.proofs.naming.names_marked.Given as goal

abbrev pub invariant-loop-place : goal.invariant-loop-place
invariant-loop-place l = any (λ v. get_or l.marks v false) l.row ≡ any (λ v. get_or l.marks v false) (drop l.place l.row)
