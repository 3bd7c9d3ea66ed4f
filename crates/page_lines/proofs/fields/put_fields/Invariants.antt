-- `page_lines::fields::put_fields` meets its contract. The loop's invariant: the fields before that of v stand at the front. Assumes nothing.
use mathlib.Core.Path.{◌≡◌}
use lib.Seq.{sets}
use Rattle.page.specs.Field.{field}
use Rattle.page.proofs.Joined.{joined}
use Rattle.page_lines.proofs.fields.put_fields.Given as goal

abbrev pub invariant-loop-v : goal.invariant-loop-v
invariant-loop-v l = l.fields ≡ sets l.initial.fields 0 (joined field l.v)
