-- `report_lines::lines::refused_line` meets its contract: the line's numbers are the refusal's number and place. Assumes nothing.
use Rattle.report_lines.proofs.lines.refused_line.Goals as goal

pub returns : goal.returns
returns c =
    rw (← c.number-number.ensures, ← c.place-place.ensures) c.line.ensures
