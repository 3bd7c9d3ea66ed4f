-- Document 02, (m): "The cabinet page", as theorems over the call's own contract: `WritingDone` of `check_page` is what
-- `page_code::page` ensures of its answer and of the slice that it was lent. Assumes nothing.
use Prim.Native.Nat.{ℕ, ◌+◌, ◌*◌, ◌≤◌, ◌<◌}
use Rattle.std.specs.Prelude.{Result}
use native.Mathlib.Omega.{arith}
use mathlib.Core.Path.{◌≡◌, refl, sym, ◌∙◌, ap, subst}
use mathlib.Core.Bool.{Bool, true, false}
use mathlib.Core.List.{List, [], ◌∷◌, ◌++◌}
use mathlib.Core.Option.{some}
use lib.ListN.{length, get_or, take, drop, length-append, length-drop}
use lib.Seq.{take_at, drop_at}
use lib.Dec.{ltb}
use borrow.Author.Tests.{le-leb, lt-leb, ltb-true, ltb-false}
use Rattle.lists.proofs.UpTo.{get_d-map-up_to}
use Rattle.refusal.specs.declared.Refusal.TheVariants.{ShortOutput}
use Rattle.refusal.specs.declared.Refusal.{Refusal}
use Rattle.refusal.specs.Refusals.{result, refusal}
use Rattle.refusal.specs.Checked.{Checked, accepted, refused, writing_outcome, WritingDone}
use Rattle.packing.specs.Rows.{record_at}
use Rattle.layers.specs.Layers.{Located, all_rows, heads_of}
use Rattle.placement.specs.Placement.{Placement, GoodPlacement, read_placement, check_placement}
use Rattle.placement.specs.Answers.{placement_checked, placement_outcome}
use Rattle.page.specs.Field.{digit, blanks, read_field}
use Rattle.page.specs.Page.{kept_word, of_word, last_line, layer_of, InLayer, line_of, page_of, page_length, check_page, Printed}
use Rattle.page.proofs.Lines.{printed-record, printed-last, record-number, record-space, record-layer, record-node, record-unused, last-kept, last-figure, last_of, last-b, last-blanks}
use Rattle.page.proofs.Layered.{layer_of-holds}
use Rattle.page.proofs.Page.{row_of, row_fits, record-fits, layer-small, figure-fits, length-page, page-line, page-last}
use Rattle.promises.proofs.Says.{not-both, says}

-- line i of what the slice begins with
abbrev pub line_in : (out : List ℕ) (i : ℕ) → List ℕ
line_in out i = take 27 (drop (27 * i) out)

-- the field of four characters from `at` on
abbrev pub field_in : (line : List ℕ) (at : ℕ) → List ℕ
field_in line at = take 4 (drop at line)

-- a line that names record i, its layer x and its r nodes
pub record Names (i x r : ℕ) (nodes line : List ℕ) : Type 0 where
  -- "record number right in 4, a space, the layer's digit"
  pub number : read_field (field_in line 0) ≡ some i
  pub space : get_or line 4 0 ≡ 32
  pub layer : get_or line 5 0 ≡ digit x
  -- "then five fields of 4 with the node numbers right, unused fields blank"
  pub node : (j : ℕ) → j < r → read_field (field_in line (6 + 4 * j)) ≡ some (get_or nodes j 0)
  pub unused : (j : ℕ) → r ≤ j → j < 5 → field_in line (6 + 4 * j) ≡ blanks 4

-- "The last line is `kept `, the figure right in 4, ` of `, b right in 4, then blanks to 26"
pub record Kept (figure b : ℕ) (line : List ℕ) : Type 0 where
  pub kept : take 5 line ≡ kept_word
  pub figure-read : read_field (field_in line 5) ≡ some figure
  pub of-word : field_in line 9 ≡ of_word
  pub b-read : read_field (field_in line 13) ≡ some b
  pub blank : take 9 (drop 17 line) ≡ blanks 9

-- What is promised of a call on an accepted placement that was lent `out`, left `out-left` in it and answered `given`.
pub record PageKept (r s b figure first : ℕ) (bytes out out-left : List ℕ) (given : Result ℕ Refusal) : Type 0 where
  -- "the total length is 27 × (b+1)"; (c) "A call that only writes answers the bytes or entries written."
  pub answered : writing_outcome given ≡ result ((27 * (b + 1)) ∷ [])
  -- the slice begins with the placement's page
  pub placement : Placement
  pub accepts : check_placement bytes ≡ accepted placement
  pub page : take (27 * (b + 1)) out-left ≡ page_of placement
  -- "Every line has that width": 26 characters that print, and a newline, in each of the b + 1 lines
  pub lines : (i : ℕ) → i ≤ b → Printed (line_in out-left i)
  -- "One line a record": record i's line names record i, its layer, in which its row stands, and the nodes of its row in the file
  pub records : (i : ℕ) → i < b
      → (x : ℕ) × (x < s) × InLayer placement.layers i x × Names i x r (record_at bytes first r i) (line_in out-left i)
  pub last : Kept figure b (line_in out-left b)
  -- bytes past the page never change
  pub rest : drop (27 * (b + 1)) out-left ≡ drop (27 * (b + 1)) out
  pub same_length : length out-left ≡ length out

names-as : {i x r r' : ℕ} {nodes nodes' line line' : List ℕ} → r' ≡ r → nodes' ≡ nodes → line ≡ line'
    → Names i x r' nodes' line' → Names i x r nodes line
names-as e f g named = rw (← e, ← f, g) named

kept-as : {figure figure' b b' : ℕ} {line line' : List ℕ} → figure' ≡ figure → b' ≡ b → line ≡ line'
    → Kept figure' b' line' → Kept figure b line
kept-as e f g keep = rw (← e, ← f, g) keep

-- the lines of a good placement's page
module _ (p : Placement) (good : GoodPlacement p) where
  b-fits : p.b < 10_000
  b-fits = omega (arith, good.limits.order.b-most)

  names : (i : ℕ) → i < p.b
      → Names i (layer_of 0 (heads_of p.layers) i) p.r (get_or (all_rows p.layers) i []) (line_of p i)
  names i lt =
      let row = get_or (all_rows p.layers) i [] in
      let x = layer_of 0 (heads_of p.layers) i in
      let fit = row_fits p good i lt in
      let few = record-fits p good i lt in
      let size = (row_of p good i lt).0 in
      record {
        number = record-number row fit i x few;
        space = record-space row fit i x few;
        layer = record-layer row fit i x few;
        node = λ j h. record-node row fit i x few j (omega (arith, good.limits.base.r-most)) (omega (arith, size));
        unused = λ j h five. record-unused row fit i x few j five (omega (arith, size));
      }

  printed : (i : ℕ) → i < p.b → Printed (line_of p i)
  printed i lt =
      printed-record (get_or (all_rows p.layers) i []) (row_fits p good i lt) i (layer_of 0 (heads_of p.layers) i) (record-fits p good i lt)
      (omega (arith, layer-small p good i lt, good.limits.order.s-most, good.limits.base.r-most))

  keeps : Kept p.figure p.b (last_line p.figure p.b)
  keeps =
      let f = figure-fits p good in
      record {
        kept = last-kept p.figure p.b f b-fits;
        figure-read = last-figure p.figure p.b f b-fits;
        of-word = last_of p.figure p.b f b-fits;
        b-read = last-b p.figure p.b f b-fits;
        blank = last-blanks p.figure p.b f b-fits;
      }

-- each of the b + 1 lines prints
each : (p : Placement) → GoodPlacement p → (i : ℕ) {line : List ℕ} → i ≤ p.b
    → (i < p.b → line ≡ line_of p i) → (i ≡ p.b → line ≡ last_line p.figure p.b) → Printed line
each p good i {line} le before last = go (ltb i p.b) refl
  where
    go : (t : Bool) → ltb i p.b ≡ t → Printed line
    go true e = let lt = ltb-true i p.b e in rw (before lt) (printed p good i lt)
    go false e =
        let g = ltb-false i p.b e in
        rw (last (omega arith)) (printed-last p.figure p.b (figure-fits p good) (b-fits p good))

-- the r of an accepting answer
r-same : (file : Located Placement) {kind n r : ℕ} {more : List ℕ}
    → placement_outcome (placement_checked (accepted file)) ≡ result (kind ∷ n ∷ r ∷ more) → file.content.r ≡ r
r-same file e = cc

module _ (bytes out out-left : List ℕ) (given : Result ℕ Refusal) (done : WritingDone (check_page bytes (length out)) out out-left given) where
  -- the same in the terms of the accepted placement
  page-done : (file : Located Placement) → read_placement bytes ≡ accepted file
      → page_length file.content.b ≤ length out
      → WritingDone (accepted (page_of file.content)) out out-left given
  unfolding check_page check_placement
  page-done file e enough =
      let p = file.content in
      let is : check_page bytes (length out) ≡ accepted (page_of p) = rw (e, le-leb (page_length p.b) (length out) enough) in
      subst (λ c. WritingDone c out out-left given) is done

  pub m-page : {kind n r s k b figure first : ℕ} {layers : List ℕ}
      → placement_outcome (placement_checked (read_placement bytes)) ≡ result (kind ∷ n ∷ r ∷ s ∷ k ∷ b ∷ figure ∷ first ∷ layers)
      → 27 * (b + 1) ≤ length out → PageKept r s b figure first bytes out out-left given
  unfolding check_placement
  m-page {kind} {n} {r} {s} {k} {b} {figure} {first} {layers} e enough =
      let y = says bytes e in
      let p = y.file.content in
      let good = y.good in
      let bs = y.b-is in
      let r-is : p.r ≡ r = r-same y.file (rw y.reads at e) in
      let d = page-done y.file y.reads (rw bs enough) in
      let past = drop (length (page_of p)) out in
      let size : length (page_of p) ≡ 27 * (b + 1) = length-page p good ∙ ap page_length bs in
      let line : (i : ℕ) → i < b → line_in out-left i ≡ line_of p i = λ i lt.
      ap (λ l. line_in l i) d.output-after ∙ page-line p good i past (rw bs lt) in
      let final : line_in out-left b ≡ last_line p.figure p.b =
      ap (λ l. line_in l b) d.output-after ∙ ap (λ c. take 27 (drop (27 * c) (page_of p ++ past))) (sym bs) ∙ page-last p good past in
      let row : (i : ℕ) → i < b → get_or (all_rows p.layers) i [] ≡ record_at bytes first r i = λ i lt.
      ap (λ rows. get_or rows i []) y.records ∙ get_d-map-up_to (record_at bytes first r) b i [] lt in
      record {
        answered = ap writing_outcome d.answer ∙ ap (λ c. result (c ∷ [])) size;
        placement = p;
        accepts = rw y.reads refl;
        page = ap (take (27 * (b + 1))) d.output-after ∙ take_at (page_of p) past (27 * (b + 1)) size;
        lines = λ i le. each p good i (rw bs le) (λ lt. line i (rw bs at lt)) (λ same. ap (line_in out-left) (same ∙ bs) ∙ final);
        records = λ i lt. (
          layer_of 0 (heads_of p.layers) i,
          omega (arith, layer-small p good i (rw bs lt), y.s-is),
          layer_of-holds p.layers i (omega (arith, good.limits.records-all)),
          names-as r-is (row i lt) (line i lt) (names p good i (rw bs lt)),
        );
        last = kept-as y.figure-is bs final (keeps p good);
        rest = ap (drop (27 * (b + 1))) d.output-after ∙ drop_at (page_of p) past (27 * (b + 1)) size ∙ ap (λ c. drop c out) size;
        same_length =
            ap length d.output-after
            ∙ omega (arith, length-append (page_of p) past, length-drop (length (page_of p)) out);
      }

  -- (c) "every later call on a placement gives the checker's refusals first"; the output is as it was
  pub m-checker-first : {number place : ℕ}
      → placement_outcome (placement_checked (read_placement bytes)) ≡ refusal number place
      → (writing_outcome given ≡ refusal number place) × (out-left ≡ out)
  unfolding check_page check_placement
  m-checker-first {number} {place} e = go (read_placement bytes) refl e
    where
      go : (c : Checked (Located Placement)) → read_placement bytes ≡ c → placement_outcome (placement_checked c) ≡ refusal number place
          → (writing_outcome given ≡ refusal number place) × (out-left ≡ out)
      go (accepted file) q p = absurd (not-both (sym p))
      go (refused why) q p =
          let d : WritingDone (refused why) out out-left given = rw q at done in
          (ap writing_outcome d.answer ∙ p, d.output-after)

  -- "An output shorter than that is refusal 11.", its place 27 × (b+1); the output is as it was
  pub m-short-output : {kind n r s k b figure first : ℕ} {layers : List ℕ}
      → placement_outcome (placement_checked (read_placement bytes)) ≡ result (kind ∷ n ∷ r ∷ s ∷ k ∷ b ∷ figure ∷ first ∷ layers)
      → length out < 27 * (b + 1) → (writing_outcome given ≡ refusal 11 (27 * (b + 1))) × (out-left ≡ out)
  unfolding check_page check_placement
  m-short-output {b = b} e short =
      let y = says bytes e in
      let p = y.file.content in
      let same : page_length p.b ≡ 27 * (b + 1) = ap page_length y.b-is in
      let is : check_page bytes (length out) ≡ refused (ShortOutput (page_length p.b)) =
      rw (y.reads, lt-leb (page_length p.b) (length out) (rw same short)) in
      let d = subst (λ c. WritingDone c out out-left given) is done in
      (ap writing_outcome d.answer ∙ ap (refusal 11) same, d.output-after)
