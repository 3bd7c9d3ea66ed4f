-- Bytes at the start of a buffer, counted. Assumes nothing.
use Prim.Native.Nat.{ℕ, ◌≤◌}
use mathlib.Core.Path.{sym}
use mathlib.Core.List.{List}
use lib.ListN.{length}
use lib.Seq.{length-take-le}
use Rattle.console.specs.Counts.{IsPrefixLen}

pub counts-of : (n : ℕ) (buffer : List ℕ) → n ≤ length buffer → IsPrefixLen n buffer
counts-of n buffer h = (h, sym (length-take-le n buffer h))
