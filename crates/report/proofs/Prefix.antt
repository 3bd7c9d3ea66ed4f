-- What `check` writes is the same for the first 32,768 bytes of the input, which is what it reads. Assumes nothing.
use Prim.Native.Nat.{ℕ}
use mathlib.Core.Path.{◌≡◌}
use mathlib.Core.List.{List}
use lib.ListN.{take}
use Rattle.placement.proofs.Prefix.{check_placement-buffer}
use Rattle.report.specs.Programs.{check_line}

-- No byte after the first 32,768 changes what `check` writes.
pub check_line-buffer : (input : List ℕ) → check_line (take 32_768 input) ≡ check_line input
unfolding check_line
check_line-buffer input = rw (check_placement-buffer input)
