-- Bytes put at a place of a lent slice. Assumes nothing.
use Rattle.std.specs.Prelude.{ℕ, ◌+◌, ◌≡◌, List, length}
use Rattle.std.proofs.lemmas.List.Edits.{sets}

-- the answer is the place after the bytes, and the slice has them from `at` on
pub record Put (bytes : List ℕ) (before : List ℕ) (at next : ℕ) (after : List ℕ) : Type 0 where
  pub ends : next ≡ at + length bytes
  pub stored : after ≡ sets before at bytes
