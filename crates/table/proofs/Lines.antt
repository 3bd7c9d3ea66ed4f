-- A text's lines, one by one. Assumes nothing.
use Prim.Native.Nat.{ℕ, ◌≤◌}
use native.Mathlib.Omega.{arith}
use mathlib.Core.Path.{◌≡◌, refl, ap}
use mathlib.Core.Bool.{true, false}
use mathlib.Core.List.{List, [], ◌∷◌, ◌++◌}
use lib.ListN.{length}
use lib.Dec.{eqb}
use Rattle.lists.specs.Lists.{All}
use Rattle.lists.proofs.Tests.{T_true, true-T, and_right}
use Rattle.table.specs.Lines.{lines_of, before, begins}

-- a byte that ends neither a line nor what is read of it
abbrev pub Inside : ℕ → Type 0
Inside byte = (eqb byte 10 ≡ false) × (eqb byte 35 ≡ false)

-- bytes up to a newline are a line
pub lines-line : (line more : List ℕ) → All Inside line → lines_of (line ++ (10 ∷ more)) ≡ line ∷ lines_of more
unfolding lines_of
lines-line [] more h = refl
lines-line (byte ∷ line) more h = rw (h.0.0, lines-line line more h.1)

-- without a `#` all of a line is read
pub before-all : (line : List ℕ) → All Inside line → before 35 line ≡ line
unfolding before
before-all [] h = refl
before-all (byte ∷ line) h = rw h.0.1 (ap (λ l. byte ∷ l) (before-all line h.1))

-- a line is as long as the word that it begins with
pub begins-length : (word line : List ℕ) → begins word line ≡ true → length word ≤ length line
unfolding begins
begins-length [] line e = omega arith
begins-length (w ∷ word) [] e = absurd (let z : ◌≡◌ {A = ℕ} 0 1 = cc in omega arith)
begins-length (w ∷ word) (b ∷ line) e =
    let tail = begins-length word line (true-T (begins word line) (and_right (eqb w b) (begins word line) (T_true e))) in omega arith
