-- The proof of `report_lines::decimal::put_decimal`, which calls itself at a tenth: the measure is the number. Assumes nothing.
use Rattle.report_lines.proofs.decimal.+put_decimal.Given as goal

abbrev pub decreases-put_decimal : goal.decreases-put_decimal
decreases-put_decimal l = l.n
