-- A text's lines, from place to place. Assumes nothing.
use Prim.Native.Nat.{ℕ, suc, ◌+◌, ◌≤◌}
use native.Mathlib.Omega.{arith}
use mathlib.Core.Path.{◌≡◌, refl, ◌∙◌, ap}
use mathlib.Core.Bool.{Bool, true, false, cond}
use mathlib.Core.List.{List, [], ◌∷◌}
use lib.ListN.{length, take, drop, length-drop}
use lib.Seq.{drop-drop}
use lib.Dec.{leb, ltb, eqb, leb-suc-suc}
use borrow.Author.Tests.{le-leb, lt-ltb, le-ltb, leb-true, leb-false}
use Rattle.lists.proofs.Tests.{cond-elim}
use Rattle.table.specs.Lines.{start_line, lines_of, before}

-- what is before a byte is the start of the bytes
pub before-length : (byte : ℕ) (bytes : List ℕ) → length (before byte bytes) ≤ length bytes
unfolding before
before-length byte [] = omega arith
before-length byte (b ∷ bytes) =
    cond-elim (λ l. length l ≤ length (b ∷ bytes)) (eqb b byte) {x = []} {y = b ∷ before byte bytes} (λ _. omega arith)
    (λ _. let h = before-length byte bytes in omega arith)

pub before-take : (byte : ℕ) (bytes : List ℕ) → take (length (before byte bytes)) bytes ≡ before byte bytes
unfolding before
before-take byte [] = refl
before-take byte (b ∷ bytes) =
    cond-elim (λ l. take (length l) (b ∷ bytes) ≡ l) (eqb b byte) {x = []} {y = b ∷ before byte bytes} (λ _. refl)
    (λ _. ap (λ l. b ∷ l) (before-take byte bytes))

-- the lines after the first
abbrev others_of : List ℕ → List (List ℕ)
others_of text =
    cond (ltb (length (before 10 text)) (length text)) (lines_of (drop (suc (length (before 10 text))) text)) []

-- a text is its first line, up to a newline or the end, and the others
lines-first : (text : List ℕ) → lines_of text ≡ before 10 text ∷ others_of text
unfolding lines_of before
lines-first [] = refl
lines-first (byte ∷ text) = go (eqb byte 10) refl (lines-first text)
  where
    go : (b : Bool) → eqb byte 10 ≡ b → lines_of text ≡ before 10 text ∷ others_of text
        → cond b ([] ∷ lines_of text) (start_line byte (lines_of text))
        ≡ cond b [] (byte ∷ before 10 text)
        ∷ cond (ltb (length (cond b [] (byte ∷ before 10 text))) (suc (length text)))
        (lines_of (drop (suc (length (cond b [] (byte ∷ before 10 text)))) (byte ∷ text))) []
    go true e ih = rw (lt-ltb 0 (suc (length text)) (omega arith))
    go false e ih = rw (ih, leb-suc-suc (suc (length (before 10 text))) (length text)) refl

-- the lines from a place on; none past the end
abbrev pub lines_from : (at : ℕ) (text : List ℕ) → List (List ℕ)
lines_from at text = cond (leb at (length text)) (lines_of (drop at text)) []

module _ (text : List ℕ) (at : ℕ) (more : at ≤ length text) where
  abbrev size : ℕ
  size = length (before 10 (drop at text))

  pub line-within : at + size ≤ length text
  line-within = omega (arith, before-length 10 (drop at text), length-drop at text)

  -- the line at this place, and those after its newline
  pub lines-at : lines_from at text ≡ before 10 (drop at text) ∷ lines_from (at + size + 1) text
  lines-at = rw (le-leb at (length text) more) (lines-first (drop at text) ∙ ap (λ l. before 10 (drop at text) ∷ l) after)
    where
      after : others_of (drop at text) ≡ lines_from (at + size + 1) text
      after = go (leb (at + size + 1) (length text)) refl
        where
          go : (b : Bool) → leb (at + size + 1) (length text) ≡ b → others_of (drop at text) ≡ cond b (lines_of (drop (at + size + 1) text)) []
          go true e =
              let inside = leb-true (at + size + 1) (length text) e in
              let same : at + suc size ≡ at + size + 1 = omega arith in
              rw (lt-ltb size (length (drop at text)) (omega (arith, length-drop at text)), drop-drop (suc size) at text, same) refl
          go false e =
              let outside = leb-false (at + size + 1) (length text) e in
              rw (le-ltb size (length (drop at text)) (omega (arith, length-drop at text))) refl
