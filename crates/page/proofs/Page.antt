-- The page from the answer of the placement's check: its length, its lines, and what is left in the lent slice. Assumes nothing.
use Prim.Native.Nat.{ℕ, ◌+◌, ◌*◌, ◌-◌, ◌≤◌, ◌<◌}
use Rattle.std.specs.Prelude.{Ok, Err}
use native.Mathlib.Omega.{arith}
use mathlib.Core.Path.{◌≡◌, refl, sym, ◌∙◌, ap, subst}
use mathlib.Core.List.{List, [], ◌++◌, append_assoc}
use lib.ListN.{length, take, drop, get_or, length-map, length-append, length-take, length-replicate}
use lib.Seq.{sets, take_at, drop_at}
use lib.Dec.{T, ltb}
use borrow.Author.Tests.{le-leb, lt-leb, ltb-true}
use Rattle.lists.specs.Lists.{every}
use Rattle.lists.proofs.Alls.{all-imp, all_get_d, every-all}
use Rattle.lists.proofs.Tests.{true-T, and_right}
use Rattle.lists.proofs.UpTo.{get_d-map-up_to, map-up_to-congr}
use Rattle.lists.proofs.Stores.{sets-start}
use Rattle.refusal.specs.declared.Refusal.{Refusal}
use Rattle.refusal.specs.declared.Refusal.TheVariants.{ShortOutput}
use Rattle.refusal.specs.Checked.{accepted, refused, WritingDone}
use Rattle.packing.specs.Rows.{Row, ascending, record_at}
use Rattle.packing.proofs.Failed.{rows_at-records}
use Rattle.layers.specs.Layers.{Located, all_rows, head_of, heads_of}
use Rattle.layers.specs.Answers.{five_heads}
use Rattle.layers.specs.declared.LayerHead.{LayerHead}
use Rattle.layers.proofs.Lengths.{length-all_rows}
use Rattle.placement.specs.Placement.{Placement, GoodPlacement, read_placement, check_placement}
use Rattle.placement.specs.Answers.{placement_head, placement_checked}
use Rattle.placement.specs.declared.PlacementHead.{PlacementHead}
use Rattle.placement.specs.declared.PlacementCheck.{PlacementCheck}
use Rattle.placement.proofs.Losses.{figure_of-le}
use Rattle.placement.proofs.Answered.{check-refused, check-accepted}
use Rattle.placement.proofs.Rows.{RowsIn, rows_in}
use Rattle.page.specs.Page.{record_line, last_line, layer_of, line_of, page_of, page_length, check_page}
use Rattle.page.specs.Asked.{line_at, lines_at, PageAsked, page_from}
use Rattle.page.proofs.Joined.{joined, length-joined, joined-part, joined-next}
use Rattle.page.proofs.Lines.{Fit, length-record_line, length-last_line}
use Rattle.page.proofs.Layered.{layer_of-five, layer_of-holds}

-- the nodes of a row fit their fields
fit_row : (n r : ℕ) (row : List ℕ) → n ≤ 255 → Row n r row → Fit row
fit_row n r row most h =
    all-imp (λ v. T (ltb v n)) (λ v. v < 10_000) (λ v t. omega (arith, ltb-true v n (true-T (ltb v n) t))) row
    (every-all (λ v. ltb v n) row (and_right (ascending 0 row) (every (λ v. ltb v n) row) h.1))

-- a good placement's lines
module _ (p : Placement) (good : GoodPlacement p) where
  b-fits : p.b < 10_000
  b-fits = omega (arith, good.limits.order.b-most)

  pub figure-most : p.figure ≤ p.b
  figure-most = rw good.formula (figure_of-le _ p.s p.k p.b (heads_of p.layers))

  pub figure-fits : p.figure < 10_000
  figure-fits = omega (arith, figure-most, b-fits)

  count : length (all_rows p.layers) ≡ p.b
  count = length-all_rows p.layers ∙ good.limits.records-all

  module _ (i : ℕ) (lt : i < p.b) where
    pub row_of : Row p.n p.r (get_or (all_rows p.layers) i [])
    row_of = all_get_d (Row p.n p.r) (all_rows p.layers) i [] good.rows (omega (arith, count))

    pub row_fits : Fit (get_or (all_rows p.layers) i [])
    row_fits = fit_row p.n p.r (get_or (all_rows p.layers) i []) good.limits.base.n-most row_of

    pub record-fits : i < 10_000
    record-fits = omega (arith, b-fits)

    pub length-line : length (line_of p i) ≡ 27
    length-line = length-record_line (get_or (all_rows p.layers) i []) row_fits i _ record-fits

    pub layer-small : layer_of 0 (heads_of p.layers) i < p.s
    layer-small =
        omega (arith, (layer_of-holds p.layers i (omega (arith, good.limits.records-all))).there, good.limits.layer-each)

  -- "the total length is 27 × (b+1)"
  pub length-page : length (page_of p) ≡ page_length p.b
  unfolding page_of
  length-page =
      rw (length-append (joined (line_of p) p.b) (last_line p.figure p.b))
      (omega (arith, length-joined (line_of p) 27 p.b length-line, length-last_line p.figure p.b figure-fits b-fits))

  -- line i of the page, and the last
  pub page-line : (i : ℕ) (rest : List ℕ) → i < p.b → take 27 (drop (27 * i) (page_of p ++ rest)) ≡ line_of p i
  unfolding page_of
  page-line i rest lt =
      rw (append_assoc (joined (line_of p) p.b) (last_line p.figure p.b) rest)
      (joined-part (line_of p) 27 p.b i (last_line p.figure p.b ++ rest) lt length-line)

  pub page-last : (rest : List ℕ) → take 27 (drop (27 * p.b) (page_of p ++ rest)) ≡ last_line p.figure p.b
  unfolding page_of
  page-last rest =
      rw (
        append_assoc (joined (line_of p) p.b) (last_line p.figure p.b) rest,
        drop_at (joined (line_of p) p.b) (last_line p.figure p.b ++ rest) (27 * p.b) (length-joined (line_of p) 27 p.b length-line),
      )
      (take_at (last_line p.figure p.b) rest 27 (length-last_line p.figure p.b figure-fits b-fits))

module _ (bytes : List ℕ) (head : PlacementHead) (layers : List LayerHead) (out : List ℕ) where
  -- too short an output is refused, and is as it was
  pub page-refused : length out < page_length head.b
      → WritingDone (page_from bytes head layers (length out)) out out (Err (ShortOutput (page_length head.b)))
  unfolding page_from
  page-refused short =
      rw (lt-leb (page_length head.b) (length out) short) (record { answer = refl; output-after = refl })

  -- the lines' lengths
  module _ (asked : PageAsked bytes head layers) where
    pub length-line_at : (i : ℕ) → i < head.b → length (line_at bytes head.first head.r layers i) ≡ 27
    length-line_at i lt =
        length-record_line (record_at bytes head.first head.r i) (asked.nodes i lt) i (layer_of 0 layers i)
        (omega (arith, asked.b-most))

    pub length-lines_at : length (lines_at bytes head.first head.r head.b layers) ≡ 27 * head.b
    length-lines_at = length-joined (line_at bytes head.first head.r layers) 27 head.b length-line_at

    -- the page stands at the start of any other, which is else as it was
    pub page-written : {left : List ℕ} → page_length head.b ≤ length out
        → left ≡ sets out 0 (lines_at bytes head.first head.r head.b layers ++ last_line head.figure head.b)
        → WritingDone (page_from bytes head layers (length out)) out left (Ok (page_length head.b))
    unfolding page_from
    page-written enough is =
        let lines = lines_at bytes head.first head.r head.b layers in
        let last = last_line head.figure head.b in
        let size : length (lines ++ last) ≡ page_length head.b =
        length-append lines last
        ∙ omega (
          arith,
          length-lines_at,
          length-last_line head.figure head.b (omega (arith, asked.b-most, asked.figure-most)) (omega (arith, asked.b-most)),
        ) in
        rw (le-leb (page_length head.b) (length out) enough)
        (record { answer = ap Ok (sym size); output-after = is ∙ sets-start out (lines ++ last) (omega arith) })

-- the code's part of the bytes is the record
pub record-part : (bytes : List ℕ) (first r i : ℕ)
    → take (first + i * r + r - (first + i * r)) (drop (first + i * r) bytes) ≡ record_at bytes first r i
record-part bytes first r i =
    let e : first + i * r + r - (first + i * r) ≡ r = omega arith in
    ap (λ n. take n (drop (first + i * r) bytes)) e

-- one line more, from the layer that the code found and its part of the bytes
pub line-next : (bytes out₀ : List ℕ) (first r i layer : ℕ) (layers : List LayerHead) {out left : List ℕ}
    → ((j : ℕ) → j < i → length (line_at bytes first r layers j) ≡ 27)
    → out ≡ sets out₀ 0 (joined (line_at bytes first r layers) i)
    → layer ≡ layer_of 0 layers i
    → left ≡ sets out (27 * i) (record_line i layer (take (first + i * r + r - (first + i * r)) (drop (first + i * r) bytes)))
    → left ≡ sets out₀ 0 (joined (line_at bytes first r layers) (i + 1))
line-next bytes out₀ first r i layer layers {out} lengths before found is =
    let place : 27 * i ≡ 0 + 27 * i = omega arith in
    is
    ∙ ap (λ row. sets out (27 * i) (record_line i layer row)) (record-part bytes first r i)
    ∙ ap (λ x. sets out (27 * i) (record_line i x (record_at bytes first r i))) found
    ∙ ap (λ at. sets out at (line_at bytes first r layers i)) place
    ∙ joined-next (line_at bytes first r layers) 27 out₀ 0 i lengths before

length-five : (heads : List LayerHead) → length (five_heads heads) ≡ 5
length-five heads = simp (length-take, length-append, length-replicate) (omega arith)

-- an accepted placement's numbers, and the page from them
module _ (bytes : List ℕ) (file : Located Placement) (e : read_placement bytes ≡ accepted file) where
  stands : RowsIn bytes file.first file.content
  stands = rows_in bytes file e

  heads-few : length (heads_of file.content.layers) ≤ 5
  heads-few =
      let l = stands.good.limits in
      omega (arith, length-map file.content.layers head_of, l.layer-each, l.order.s-most, l.base.r-most)

  record_same : (i : ℕ) → i < file.content.b
      → get_or (all_rows file.content.layers) i [] ≡ record_at bytes file.first file.content.r i
  record_same i lt =
      ap (λ rows. get_or rows i []) (sym stands.rows ∙ rows_at-records bytes file.first file.content.r file.content.b)
      ∙ get_d-map-up_to (record_at bytes file.first file.content.r) file.content.b i [] lt

  line_same : (i : ℕ) → i < file.content.b
      → line_of file.content i ≡ line_at bytes file.first file.content.r (five_heads (heads_of file.content.layers)) i
  line_same i lt =
      rw (
        record_same i lt,
        layer_of-five (heads_of file.content.layers) i heads-few (omega (arith, stands.good.limits.records-all)),
      ) refl

  asked : PageAsked bytes (placement_head file) (five_heads (heads_of file.content.layers))
  asked =
      let good = stands.good in
      record {
        b-most = good.limits.order.b-most;
        figure-most = figure-most file.content good;
        five = length-five (heads_of file.content.layers);
        nodes = λ i lt. subst Fit (record_same i lt) (row_fits file.content good i lt);
        rows = stands.ends;
      }

  same-page : (output : ℕ)
      → check_page bytes output ≡ page_from bytes (placement_head file) (five_heads (heads_of file.content.layers)) output
  unfolding check_page check_placement page_from page_of
  same-page output =
      rw (
        e,
        map-up_to-congr (line_of file.content) (line_at bytes file.first file.content.r (five_heads (heads_of file.content.layers))) file.content.b line_same,
      )

asked-as : (bytes : List ℕ) {head head' : PlacementHead} {layers layers' : List LayerHead} → head ≡ head' → layers ≡ layers'
    → PageAsked bytes head' layers' → PageAsked bytes head layers
asked-as bytes e f asked = rw (e, f) asked

-- what the answer of the check says
module _ (bytes : List ℕ) {check : PlacementCheck} (is : check ≡ placement_checked (read_placement bytes)) where
  pub page-asked : {head : PlacementHead} → check.answer ≡ Ok head → PageAsked bytes head check.layers
  page-asked {head} a =
      let o = check-accepted (read_placement bytes) is a in
      asked-as bytes o.head-is o.layers-are (asked bytes o.file o.is-accepted)

  pub page-of-check : {head : PlacementHead} → check.answer ≡ Ok head
      → (output : ℕ) → check_page bytes output ≡ page_from bytes head check.layers output
  page-of-check {head} a output =
      let o = check-accepted (read_placement bytes) is a in
      same-page bytes o.file o.is-accepted output ∙ sym (λ i. page_from bytes (o.head-is i) (o.layers-are i) output)

  pub page-of-refused : {why : Refusal} → check.answer ≡ Err why → (output : ℕ) → check_page bytes output ≡ refused why
  unfolding check_page check_placement
  page-of-refused a output = rw (check-refused (read_placement bytes) is a)
