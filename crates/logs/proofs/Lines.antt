-- Words of a line, from place to place. Assumes nothing.
use Prim.Native.Nat.{ℕ, suc, ◌+◌, ◌≤◌}
use native.Mathlib.Omega.{arith}
use mathlib.Core.Path.{◌≡◌, sym}
use mathlib.Core.Bool.{Bool}
use mathlib.Core.List.{List, [], ◌∷◌}
use lib.ListN.{length, drop}
use lib.Seq.{drop-drop}
use Rattle.lists.proofs.Tests.{cond-elim}
use Rattle.logs.specs.Lines.{leading, blanks, solid, after_word}

-- no more than there are
pub leading_le : (test : ℕ → Bool) (bytes : List ℕ) → leading test bytes ≤ length bytes
unfolding leading
leading_le test [] = omega arith
leading_le test (byte ∷ bytes) =
    cond-elim (λ n. n ≤ length (byte ∷ bytes)) (test byte) {x = suc (leading test bytes)} {y = 0}
    (λ _. let h = leading_le test bytes in omega arith) (λ _. omega arith)

-- the word after the first, by its place
pub after-word : (bytes : List ℕ) {n : ℕ} → n ≡ solid bytes + blanks (drop (solid bytes) bytes) → drop n bytes ≡ after_word bytes
after-word bytes e = rw e (sym (drop-drop (blanks (drop (solid bytes) bytes)) (solid bytes) bytes))
