-- The page's lines: 26 characters and a newline each, and what stands where in them. Assumes nothing.
use Prim.Native.Nat.{ℕ, ◌+◌, ◌*◌, ◌≤◌, ◌<◌}
use native.Mathlib.Omega.{arith}
use mathlib.Core.Path.{◌≡◌, refl, sym, ◌∙◌, ap}
use mathlib.Core.Bool.{true, ◌&&◌}
use mathlib.Core.List.{List, [], ◌∷◌, ◌++◌}
use mathlib.Core.Option.{some}
use lib.ListN.{length, take, drop, get_or, length-append}
use lib.Seq.{drop-drop}
use lib.Dec.{T, leb, ltb}
use borrow.Author.Tests.{leb-true, ltb-true, lt-ltb, le-ltb}
use Rattle.lists.specs.Lists.{All, every}
use Rattle.lists.proofs.Alls.{all_append, all-imp, all_get_d, every-all}
use Rattle.lists.proofs.Tests.{true-T, and_left, and_right, cond-elim}
use Rattle.page.specs.Field.{newline, digit, blanks, field, read_field}
use Rattle.page.specs.Page.{node_field, node_fields, record_line, kept_word, of_word, last_line, Printed}
use Rattle.page.proofs.Fields.{Prints, field-characters, length-field, prints-field, read-field}
use Rattle.page.proofs.Joined.{all-joined, length-joined, joined-part}

-- numbers that a field holds
abbrev pub Fit : List ℕ → Type 0
Fit row = All (λ v. v < 10_000) row

abbrev Printing : ℕ → Type 0
Printing c = (32 ≤ c) × (c ≤ 126)

-- the same by a test
prints-tested : (text : List ℕ) → T (every (λ c. leb 32 c && leb c 126) text) → Prints text
prints-tested text t =
    all-imp (λ c. T (leb 32 c && leb c 126)) Printing
    (λ c h. (
      leb-true 32 c (true-T (leb 32 c) (and_left (leb 32 c) (leb c 126) h)),
      leb-true c 126 (true-T (leb c 126) (and_right (leb 32 c) (leb c 126) h)),
    )) text (every-all (λ c. leb 32 c && leb c 126) text t)

module _ (row : List ℕ) (fit : Fit row) where
  node-fits : (j : ℕ) → ltb j (length row) ≡ true → get_or row j 0 < 10_000
  node-fits j e = all_get_d (λ v. v < 10_000) row j 0 fit (ltb-true j (length row) e)

  pub length-node_field : (j : ℕ) → length (node_field row j) ≡ 4
  unfolding node_field
  length-node_field j =
      cond-elim (λ (f : List ℕ). length f ≡ 4) (ltb j (length row)) (λ e. length-field (get_or row j 0) (node-fits j e)) (λ e. refl)

  prints-node_field : (j : ℕ) → Prints (node_field row j)
  unfolding node_field every
  prints-node_field j =
      cond-elim Prints (ltb j (length row)) (λ e. prints-field (get_or row j 0) (node-fits j e))
      (λ e. prints-tested (blanks 4) tt)

  pub length-node_fields : length (node_fields row) ≡ 20
  length-node_fields = length-joined (node_field row) 4 5 (λ j lt. length-node_field j)

  module _ (i x : ℕ) (i-fits : i < 10_000) where
    pub length-record_line : length (record_line i x row) ≡ 27
    unfolding record_line
    length-record_line = rw (field-characters i i-fits) (omega (arith, length-append (node_fields row) (newline ∷ []), length-node_fields))

    -- "26 characters and a newline"
    pub printed-record : x < 10 → Printed (record_line i x row)
    unfolding record_line
    printed-record x-small =
        record {
          characters = field i ++ (32 ∷ digit x ∷ node_fields row);
          width = rw (field-characters i i-fits) (omega (arith, length-node_fields));
          print =
              all_append Printing (field i) (32 ∷ digit x ∷ node_fields row) (prints-field i i-fits)
              ((omega arith, omega arith), ((omega arith, omega arith), all-joined (node_field row) Printing 5 (λ j lt. prints-node_field j)));
          ends = refl;
        }

    -- "record number right in 4, a space, the layer's digit"
    pub record-number : read_field (take 4 (record_line i x row)) ≡ some i
    unfolding record_line
    record-number =
        let first : take 4 (record_line i x row) ≡ field i = rw (field-characters i i-fits) in
        ap read_field first ∙ read-field i i-fits

    pub record-space : get_or (record_line i x row) 4 0 ≡ 32
    unfolding record_line
    record-space = rw (field-characters i i-fits)

    pub record-layer : get_or (record_line i x row) 5 0 ≡ digit x
    unfolding record_line
    record-layer = rw (field-characters i i-fits)

    fields-from : drop 6 (record_line i x row) ≡ node_fields row ++ (newline ∷ [])
    unfolding record_line
    fields-from = rw (field-characters i i-fits)

    -- "then five fields of 4"
    pub record-field : (j : ℕ) → j < 5 → take 4 (drop (6 + 4 * j) (record_line i x row)) ≡ node_field row j
    record-field j lt =
        ap (take 4) (sym (drop-drop (4 * j) 6 (record_line i x row)) ∙ ap (drop (4 * j)) fields-from)
        ∙ joined-part (node_field row) 4 5 j (newline ∷ []) lt (λ j less. length-node_field j)

    -- "with the node numbers right"
    pub record-node : (j : ℕ) → j < 5 → j < length row → read_field (take 4 (drop (6 + 4 * j) (record_line i x row))) ≡ some (get_or row j 0)
    unfolding node_field
    record-node j lt has =
        let t = lt-ltb j (length row) has in
        ap read_field (record-field j lt) ∙ rw t (read-field (get_or row j 0) (node-fits j t))

    -- "unused fields blank"
    pub record-unused : (j : ℕ) → j < 5 → length row ≤ j → take 4 (drop (6 + 4 * j) (record_line i x row)) ≡ blanks 4
    unfolding node_field
    record-unused j lt none = record-field j lt ∙ rw (le-ltb j (length row) none)

module _ (figure b : ℕ) (figure-fits : figure < 10_000) (b-fits : b < 10_000) where
  -- the last line in its parts, "blanks to 26" being nine
  pub last-parts : last_line figure b ≡ kept_word ++ field figure ++ of_word ++ field b ++ blanks 9 ++ (newline ∷ [])
  unfolding last_line
  last-parts = rw (field-characters figure figure-fits, field-characters b b-fits)

  pub length-last_line : length (last_line figure b) ≡ 27
  unfolding last_line
  length-last_line = rw (field-characters figure figure-fits, field-characters b b-fits)

  -- "26 characters and a newline"
  pub printed-last : Printed (last_line figure b)
  unfolding every
  printed-last =
      record {
        characters = kept_word ++ field figure ++ of_word ++ field b ++ blanks 9;
        width = rw (field-characters figure figure-fits, field-characters b b-fits);
        print =
            all_append Printing (kept_word ++ field figure ++ of_word ++ field b) (blanks 9)
            (all_append Printing (kept_word ++ field figure ++ of_word) (field b)
            (all_append Printing (kept_word ++ field figure) of_word
            (all_append Printing kept_word (field figure) (prints-tested kept_word tt) (prints-field figure figure-fits)) (prints-tested of_word tt))
            (prints-field b b-fits)) (prints-tested (blanks 9) tt);
        ends = last-parts;
      }

  pub last-kept : take 5 (last_line figure b) ≡ kept_word
  last-kept = ap (take 5) last-parts

  pub last-figure : read_field (take 4 (drop 5 (last_line figure b))) ≡ some figure
  last-figure =
      let is : take 4 (drop 5 (last_line figure b)) ≡ field figure =
      ap (λ l. take 4 (drop 5 l)) last-parts ∙ rw (field-characters figure figure-fits) refl in
      ap read_field is ∙ read-field figure figure-fits

  pub last_of : take 4 (drop 9 (last_line figure b)) ≡ of_word
  last_of = ap (λ l. take 4 (drop 9 l)) last-parts ∙ rw (field-characters figure figure-fits) refl

  pub last-b : read_field (take 4 (drop 13 (last_line figure b))) ≡ some b
  last-b =
      let is : take 4 (drop 13 (last_line figure b)) ≡ field b =
      ap (λ l. take 4 (drop 13 l)) last-parts ∙ rw (field-characters figure figure-fits, field-characters b b-fits) refl in
      ap read_field is ∙ read-field b b-fits

  pub last-blanks : take 9 (drop 17 (last_line figure b)) ≡ blanks 9
  last-blanks =
      ap (λ l. take 9 (drop 17 l)) last-parts ∙ rw (field-characters figure figure-fits, field-characters b b-fits) refl
