-- `curve_code::curve` meets its contract: the refusal of the placement's check, or the curve from its numbers. Assumes nothing.
use mathlib.Core.Path.{refl}
use Rattle.refusal.proofs.Answered.{passed-on}
use Rattle.curve.proofs.Curve.{curve-asked, curve-of-check, curve-of-refused}
use Rattle.curve_code.proofs.curve.Goals as goal

pub write_accepted-requires : goal.write_accepted-requires
write_accepted-requires c =
    rw c.units_of-units.ensures (curve-asked _ c.check_placement-check.ensures c.in_ok-head.was)

pub returns-in_err-head : goal.returns-in_err-head
returns-in_err-head c =
    rw (passed-on _ c.from_residual.ensures.1, curve-of-refused _ c.check_placement-check.ensures c.in_err-head.was _)
    (record { answer = refl; output-after = refl })

pub returns : goal.returns
returns c =
    rw (curve-of-check _ c.check_placement-check.ensures c.in_ok-head.was _, ← c.units_of-units.ensures)
    c.write_accepted.ensures
