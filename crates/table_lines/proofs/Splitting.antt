-- A text's lines are its parts between newlines, and at most one more than it has bytes. Assumes nothing.
use Prim.Native.Nat.{ℕ, ◌+◌, ◌≤◌, ◌<◌}
use native.Mathlib.Omega.{arith}
use mathlib.Core.Path.{◌≡◌, refl, ap, ◌∙◌}
use mathlib.Core.Bool.{cond}
use mathlib.Core.List.{List, [], ◌∷◌}
use lib.ListN.{length, get_or}
use lib.Dec.{eqb}
use Rattle.lists.proofs.Tests.{cond-elim}
use Rattle.std.proofs.Common.{Option, Some, None}
use Rattle.std.specs.List.{slice_split, onto_first}
use Rattle.std.specs.Iterator.{Yields}
use Rattle.std.proofs.lemmas.Iterator.{YieldsList}
use Rattle.std.proofs.lemmas.Iterator.Consumers.{YieldsList-turn, YieldsList-end}
use Rattle.table.specs.Lines.{start_line, lines_of}

onto-start : (byte : ℕ) (parts : List (List ℕ)) → onto_first byte parts ≡ start_line byte parts
onto-start byte [] = refl
onto-start byte (part ∷ parts) = refl

pub lines-split : (text : List ℕ) → slice_split (λ b. eqb b 10) text ≡ lines_of text
unfolding lines_of
lines-split [] = refl
lines-split (byte ∷ text) =
    rw (lines-split text) (ap (λ l. cond (eqb byte 10) ([] ∷ lines_of text) l) (onto-start byte (lines_of text)))

start-count : (byte : ℕ) (parts : List (List ℕ)) (n : ℕ) → length parts ≤ n + 1 → length (start_line byte parts) ≤ n + 1 + 1
start-count byte [] n h = omega arith
start-count byte (part ∷ parts) n h = omega arith

pub lines-count : (text : List ℕ) → length (lines_of text) ≤ length text + 1
unfolding lines_of
lines-count [] = omega arith
lines-count (byte ∷ text) =
    cond-elim (λ l. length l ≤ length (byte ∷ text) + 1) (eqb byte 10) {x = [] ∷ lines_of text} {y = start_line byte (lines_of text)}
    (λ _. let h = lines-count text in omega arith) (λ _. let h = start-count byte (lines_of text) (length text) (lines-count text) in omega arith)

-- The line that a turn over the parts reads, after n others.
pub record LineAt (text bytes : List ℕ) (n : ℕ) : Type 0 where
  pub more : n < length (lines_of text)
  pub is : bytes ≡ get_or (lines_of text) n bytes

module _ (text : List ℕ) {S A : Type 0} {steps : S → Option A → S → Type 0} {v : A → List ℕ} {s : S}
    (road : YieldsList steps v s (slice_split (λ b. eqb b 10) text)) (xs : List A) (t : S) (y : Yields steps s xs t) (n : ℕ) (so-far : n ≡ length xs)
    (r : Option A) (u : S) where
  pub line-at : (x : A) → r ≡ Some x → steps t r u → LineAt text (v x) n
  line-at x is step =
      let turn = YieldsList-turn road xs t y r u x is step in
      record { more = rw (so-far, ← lines-split text) turn.0; is = rw (so-far, ← lines-split text) turn.1 }

  -- all are read
  pub lines-all : r ≡ None → steps t r u → n ≡ length (lines_of text)
  lines-all is step = so-far ∙ rw (← lines-split text) (YieldsList-end road xs t y r u is step).1
