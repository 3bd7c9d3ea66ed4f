-- `export_answers::put_bytes` meets its contract. The loop's invariant: the bytes before `place` stand at the front, and what
-- follows them is as it was. Assumes nothing.
use mathlib.Core.Path.{◌≡◌}
use mathlib.Core.List.{◌++◌}
use lib.ListN.{length, take, drop}
use Rattle.export_answers.proofs.put_bytes.Given as goal

abbrev pub invariant-loop-place : goal.invariant-loop-place
invariant-loop-place l =
    (length l.answer ≡ length l.initial.answer) × (l.answer ≡ take l.place l.bytes ++ drop l.place l.initial.answer)
