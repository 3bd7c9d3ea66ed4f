-- How long the parts of a line are. Assumes nothing.
use Prim.Native.Nat.{ℕ, ◌+◌, ◌*◌, ◌≤◌}
use mathlib.Core.List.{List}
use lib.ListN.{length}
use Rattle.report.specs.Programs.{decimal, rest}
use Rattle.report_lines.proofs.decimal.Decimal.{decimal-length-le}
use Rattle.report_lines.proofs.numbers.Turns.{rest-length-le}

pub decimal-most : (n : ℕ) → length (decimal n) ≤ 20
decimal-most n = decimal-length-le n

pub rest-most : (numbers : List ℕ) → length (rest numbers) ≤ 21 * length numbers + 1
rest-most numbers = rest-length-le numbers
