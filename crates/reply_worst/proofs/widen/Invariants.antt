-- `reply_worst::widen` meets its contract. The loop's invariant: the nodes so far stand at the start. Assumes nothing.
use mathlib.Core.Path.{◌≡◌}
use mathlib.Core.List.{◌++◌}
use lib.ListN.{length, take, drop}
use Rattle.reply_worst.proofs.widen.Given as goal

abbrev pub invariant-loop-i : goal.invariant-loop-i
invariant-loop-i l =
    (length l.numbers ≡ length l.initial.numbers) × (l.numbers ≡ take l.i l.nodes ++ drop l.i l.initial.numbers)
