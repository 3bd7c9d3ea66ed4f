-- `worst_hits::raise` meets its contract. The loop's invariant: the hits of the first `raised` records are raised. Assumes nothing.
use mathlib.Core.Path.{◌≡◌}
use Rattle.worst.specs.Records.{few, raised_to}
use Rattle.worst_hits.proofs.raise.Given as goal

abbrev pub invariant-loop-raised : goal.invariant-loop-raised
invariant-loop-raised l =
    (l.hits ≡ raised_to l.index l.initial.hits l.from l.raised) × (l.left ≡ few l.s l.hits)
