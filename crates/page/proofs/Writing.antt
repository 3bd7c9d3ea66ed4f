-- The stores of fields and lines, one after another, make the whole. Assumes nothing.
use Prim.Native.Nat.{ℕ, suc, ◌+◌, ◌/◌, ◌%◌, ◌≤◌, ◌<◌}
use native.Mathlib.Omega.{arith}
use mathlib.Core.Path.{◌≡◌, refl, ◌∙◌}
use mathlib.Core.List.{List, [], ◌∷◌, ◌++◌}
use lib.ListN.{length, get_or, set, length-append}
use lib.Seq.{sets}
use borrow.Author.Tests.{lt-ltb, le-ltb}
use Rattle.page.specs.Field.{newline, digit, blanks, field}
use Rattle.page.specs.Page.{node_field, node_fields, record_line, kept_word, of_word, last_line}
use Rattle.page.specs.Asked.{lead}
use Rattle.page.proofs.Fields.{field-characters, length-field}
use Rattle.page.proofs.Joined.{sets-after}
use Rattle.page.proofs.Lines.{Fit, length-node_fields, last-parts}

module _ (out : List ℕ) (at : ℕ) where
  -- a field's four stores
  pub field_stored : (v : ℕ) {a b c : ℕ} → v < 10_000
      → a ≡ lead (v / 10 / 10 / 10) → b ≡ lead (v / 10 / 10) → c ≡ lead (v / 10)
      → set (set (set (set out at a) (at + 1) b) (at + 2) c) (at + 3) (digit (v % 10)) ≡ sets out at (field v)
  field_stored v most a b c =
      let e : at + 1 ≡ suc at = omega arith in
      let f : at + 2 ≡ suc (suc at) = omega arith in
      let g : at + 3 ≡ suc (suc (suc at)) = omega arith in
      rw (a, b, c, field-characters v most, e, f, g) refl

  -- a record's line: its number, the space, the layer's digit, the nodes, the newline
  pub record-stored : (i x : ℕ) (row : List ℕ) {a b : List ℕ} → i < 10_000 → Fit row
      → a ≡ sets out at (field i)
      → b ≡ sets (set (set a (at + 4) 32) (at + 5) (digit x)) (at + 6) (node_fields row)
      → set b (at + 26) newline ≡ sets out at (record_line i x row)
  unfolding record_line
  record-stored i x row i-fits fit a b =
      let e : at + 5 ≡ suc (at + 4) = omega arith in
      let f : at + 6 ≡ suc (suc (at + 4)) = omega arith in
      let size : length (field i ++ (32 ∷ digit x ∷ node_fields row)) ≡ 26 =
      length-append (field i) (32 ∷ digit x ∷ node_fields row) ∙ omega (arith, length-field i i-fits, length-node_fields row fit) in
      let number = length-field i i-fits in
      rw (b, a, e, f, sets-after out at (at + 4) (field i) (32 ∷ digit x ∷ node_fields row) (omega arith))
      (sets-after out at (at + 26) (field i ++ (32 ∷ digit x ∷ node_fields row)) (newline ∷ []) (omega arith))

  -- the last line: `kept `, the figure, ` of `, b, nine blanks, the newline
  pub last_stored : (figure b : ℕ) {o₁ o₂ o₃ o₄ o₅ : List ℕ} → figure < 10_000 → b < 10_000
      → o₁ ≡ sets out at kept_word → o₂ ≡ sets o₁ (at + 5) (field figure) → o₃ ≡ sets o₂ (at + 9) of_word
      → o₄ ≡ sets o₃ (at + 13) (field b) → o₅ ≡ sets o₄ (at + 17) (blanks 9)
      → set o₅ (at + 26) newline ≡ sets out at (last_line figure b)
  last_stored figure b figure-fits b-fits e₁ e₂ e₃ e₄ e₅ =
      let k = kept_word in
      let f = field figure in
      let g = field b in
      let fs = length-field figure figure-fits in
      let gs = length-field b b-fits in
      let two = length-append k f in
      let three = length-append (k ++ f) of_word in
      let four = length-append (k ++ f ++ of_word) g in
      let five = length-append (k ++ f ++ of_word ++ g) (blanks 9) in
      rw (
        e₅,
        e₄,
        e₃,
        e₂,
        e₁,
        sets-after out at (at + 5) k f refl,
        sets-after out at (at + 9) (k ++ f) of_word (omega arith),
        sets-after out at (at + 13) (k ++ f ++ of_word) g (omega arith),
        sets-after out at (at + 17) (k ++ f ++ of_word ++ g) (blanks 9) (omega arith),
        last-parts figure b figure-fits b-fits,
      ) (sets-after out at (at + 26) (k ++ f ++ of_word ++ g ++ blanks 9) (newline ∷ []) (omega arith))

-- field j of a row: its node's, or blank
module _ (out row : List ℕ) (at j : ℕ) {left : List ℕ} where
  pub node-stored : j < length row → left ≡ sets out at (field (get_or row j 0)) → left ≡ sets out at (node_field row j)
  unfolding node_field
  node-stored h e = rw (lt-ltb j (length row) h) e

  pub blank-stored : length row ≤ j → left ≡ sets out at (blanks 4) → left ≡ sets out at (node_field row j)
  unfolding node_field
  blank-stored h e = rw (le-ltb j (length row) h) e
