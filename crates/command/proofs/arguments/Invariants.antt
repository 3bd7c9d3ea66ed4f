-- The arguments stand within the text.
use Rattle.std.proofs.Common.{◌≤◌, length}
use Rattle.command.proofs.arguments.Given as goal

abbrev pub invariant-loop-i : goal.invariant-loop-i
invariant-loop-i l = l.at ≤ length l.text
