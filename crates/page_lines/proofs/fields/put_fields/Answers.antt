use native.Mathlib.Nat.{zero-add}
use mathlib.Core.Path.{◌≡◌, ◌∙◌, ap}
use lib.Seq.{sets}
use Rattle.page.specs.Field.{field}
use Rattle.page.proofs.Joined.{joined, joined-none, joined-next}
use Rattle.page.proofs.Fields.{length-field}
use Rattle.page_lines.proofs.ByteFields.{fields-all}
use native.Mathlib.Omega.{arith}
use Rattle.page_lines.proofs.fields.put_fields.Goals as goal

pub loop-v-init : goal.loop-v-init
loop-v-init c = joined-none field c.args.fields.now 0

pub loop-v-preserved : goal.loop-v-preserved
loop-v-preserved c =
    c.put_right.ensures
    ∙ (rw (zero-add) at (joined-next field 4 c.args.fields.now 0 c.loop-v.v (λ j less. length-field j (omega (arith, c.loop-v-test.true))) c.loop-v.invariant))

pub returns : goal.returns
returns c =
    let all : c.loop-v.v ≡ 256 = omega arith in
    c.loop-v.invariant ∙ ap (λ n. sets c.args.fields.now 0 (joined field n)) all ∙ fields-all c.args.fields.now c.requires
