-- "Reading what was printed gives the pack back." Assumes nothing.
use Prim.Native.Nat.{ℕ, suc, ◌+◌, ◌≤◌, ◌<◌}
use native.Mathlib.Omega.{arith}
use mathlib.Core.Path.{◌≡◌, refl, sym, ◌∙◌, ap, subst}
use mathlib.Core.List.{List, [], ◌∷◌, ◌++◌, map, flatten, append_assoc, append-nil}
use lib.ListN.{length}
use borrow.Author.Tests.{lt-ltb, le-leb, eq-eqb}
use Rattle.lists.specs.Lists.{All, total}
use Rattle.lists.proofs.Alls.{all-append-left, all-append-right}
use Rattle.lists.proofs.Counts.{flatten-append}
use Rattle.refusal.proofs.Checked.{map_accepted-accepted}
use Rattle.packing.specs.Rows.{Row}
use Rattle.layers.specs.Layers.{Layer, BaseLimits, all_rows, heads_of, head_numbers, sizes, list_numbers}
use Rattle.pack.specs.Pack.{Pack, GoodPack, bytes_of_pack, read_pack, check_pack}
use Rattle.pack.proofs.Written.{pack-written-accepted}
use Rattle.report.specs.Programs.{rest}
use Rattle.table.specs.declared.Word.TheVariants.{Table, Out, Mu, Plain}
use Rattle.table.specs.Told.{Told, good, ◌>>=◌}
use Rattle.table.specs.Lines.{lines_of, begins, word_of, read_numbers, before}
use Rattle.table.specs.Reading.{Draft, start_draft, add_out, add_layer, add_block, add_numbers, add_content, add_line, read_lines, read_text, draft_bytes, pack_draft, pack_of}
use Rattle.table.specs.Printing.{text_line, out_text, layer_text, table_text}
use Rattle.table.proofs.Numbers.{Short}
use Rattle.table.proofs.Printed.{read-line}
use Rattle.table.proofs.Drafts.{LineReads, draft, head-added, read_out, read-blocks}

-- printed lines of the list and of blocks
out-read : LineReads read_lines (text_line Out) add_out
unfolding add_numbers
out-read line v nodes more d small few = read-line Out (v ∷ nodes) small few line more d

row_read : LineReads read_lines rest add_block
unfolding add_numbers
row_read line v row more d small few = read-line Plain (v ∷ row) small few line more d

-- a layer: its mu, and its blocks
module _ (n r : ℕ) (n-most : n ≤ 255) (r-least : 1 ≤ r) (r-most : r ≤ 5) where
  layer-added : (line layers blocks mu : ℕ) (numbers rows lines : List ℕ) → layers < r → 1 ≤ mu → mu ≤ 4_096
      → add_numbers line Mu (mu ∷ []) (draft n r layers blocks numbers rows lines)
      ≡ good (draft n r (suc layers) blocks ((numbers ++ (mu ∷ [])) ++ (0 ∷ [])) rows lines)
  unfolding add_numbers add_layer
  layer-added line layers blocks mu numbers rows lines below least most =
      rw (lt-ltb layers r below, le-leb 1 mu least, le-leb mu 4_096 most, append_assoc numbers (mu ∷ []) (0 ∷ []))

  read-layers : (P : Told Draft → Type 0) (ls : List Layer) (more : List ℕ) (line layers blocks : ℕ) (numbers rows lines : List ℕ)
      → All (Row n r) (all_rows ls) → All (λ layer. (1 ≤ layer.bound) × (layer.bound ≤ 4_096)) ls
      → layers + length ls ≤ r → blocks + sizes (heads_of ls) ≤ 4_096
      → ((line' : ℕ) (lines' : List ℕ)
      → P (read_lines line' (lines_of more)
      (draft n r (layers + length ls) (blocks + sizes (heads_of ls)) (numbers ++ head_numbers (heads_of ls)) (rows ++ flatten (all_rows ls)) lines')))
      → P (read_lines line (lines_of (flatten (map layer_text ls) ++ more)) (draft n r layers blocks numbers rows lines))
  unfolding flatten total head_numbers
  read-layers P [] more line layers blocks numbers rows lines all bounds fit few k =
      let a : layers + 0 ≡ layers = omega arith in
      let b : blocks + 0 ≡ blocks = omega arith in
      rw (a, b, append-nil rows, append-nil numbers) at (k line lines)
  read-layers P (layer ∷ ls) more line layers blocks numbers rows lines all bounds fit few k =
      let mu = layer.bound in
      let text = flatten (map (text_line Plain) layer.rows) in
      let others = flatten (map layer_text ls) in
      let d = draft n r layers blocks numbers rows lines in
      let own = all-append-left (Row n r) layer.rows (all_rows ls) all in
      let whole : ((text_line Mu (mu ∷ []) ++ text) ++ others) ++ more ≡ text_line Mu (mu ∷ []) ++ (text ++ (others ++ more)) =
      append_assoc (text_line Mu (mu ∷ []) ++ text) others more ∙ append_assoc (text_line Mu (mu ∷ [])) text (others ++ more) in
      let small : All Short (mu ∷ []) = (omega (arith, bounds.0.1), tt) in
      rw (
        whole,
        read-line Mu (mu ∷ []) small (omega arith) line (text ++ (others ++ more)) d,
        layer-added line layers blocks mu numbers rows lines (omega arith) bounds.0.0 bounds.0.1,
      )
      (read-blocks read_lines n r (suc layers) n-most r-least r-most (omega arith) row_read P layer.rows (others ++ more) (suc line) blocks 0
      (numbers ++ (mu ∷ [])) rows lines own (omega arith)
      λ line' lines'.
      read-layers P ls more line' (suc layers) (blocks + length layer.rows)
      ((numbers ++ (mu ∷ [])) ++ ((0 + length layer.rows) ∷ [])) (rows ++ flatten layer.rows) lines'
      (all-append-right (Row n r) layer.rows (all_rows ls) all) bounds.1 (omega arith) (omega arith)
      λ line'' lines''.
      let a : suc layers + length ls ≡ layers + suc (length ls) = omega arith in
      let b : blocks + length layer.rows + sizes (heads_of ls) ≡ blocks + (length layer.rows + sizes (heads_of ls)) = omega arith in
      let m : 0 + length layer.rows ≡ length layer.rows = omega arith in
      let ns : ((numbers ++ (mu ∷ [])) ++ (length layer.rows ∷ [])) ++ head_numbers (heads_of ls)
      ≡ numbers ++ (mu ∷ length layer.rows ∷ head_numbers (heads_of ls)) =
      append_assoc (numbers ++ (mu ∷ [])) (length layer.rows ∷ []) (head_numbers (heads_of ls))
      ∙ append_assoc numbers (mu ∷ []) (length layer.rows ∷ head_numbers (heads_of ls)) in
      let rs : (rows ++ flatten layer.rows) ++ flatten (all_rows ls) ≡ rows ++ flatten (layer.rows ++ all_rows ls) =
      append_assoc rows (flatten layer.rows) (flatten (all_rows ls)) ∙ ap (λ l. rows ++ l) (sym (flatten-append layer.rows (all_rows ls))) in
      rw (a, b, m, ns, rs) (k line'' lines''))

-- the first line
table-added : (n r : ℕ) → BaseLimits n r → add_numbers 1 Table (n ∷ r ∷ []) start_draft ≡ good (draft n r 0 0 (4 ∷ n ∷ r ∷ 0 ∷ []) [] [])
unfolding add_numbers
table-added n r limits = head-added 4 n r limits

-- after the last layer
read-end : (line n r blocks : ℕ) (numbers rows lines : List ℕ) → 1 ≤ r
    → read_lines line (lines_of []) (draft n r r blocks numbers rows lines) ≡ good (draft n r r blocks numbers rows lines)
unfolding lines_of read_lines add_line add_content before word_of begins read_numbers add_numbers
read-end line n r blocks numbers rows lines h = rw (lt-ltb 0 r h, eq-eqb r r refl)

module _ (p : Pack) (g : GoodPack p) where
  -- the check accepts the pack's bytes, so it is what is made
  pack_made : (d : Draft) → draft_bytes d ≡ bytes_of_pack p → pack_draft d ≡ good (bytes_of_pack p)
  unfolding check_pack pack_draft
  pack_made d same =
      let (file, is, content) = map_accepted-accepted (λ file. file.content) (read_pack (bytes_of_pack p)) (pack-written-accepted p g) in
      rw (same, is) (ap good same)

  -- reading on from here makes the pack
  abbrev Makes : Told Draft → Type 0
  Makes t = (t >>= pack_draft) ≡ good (bytes_of_pack p)

  -- A pack's text gives its bytes back: those of its file of kind 4, each number in its shortest form.
  pub pack-of-text : pack_of (table_text p) ≡ good (bytes_of_pack p)
  unfolding pack_of read_text table_text draft_bytes bytes_of_pack list_numbers
  pack-of-text =
      let base = g.limits.base in
      let n = p.n in
      let r = p.r in
      let layers = p.layers in
      let small : All Short (n ∷ r ∷ []) = (omega (arith, base.n-most), (omega (arith, base.r-most), tt)) in
      let each : 0 + length layers ≡ r = omega (arith, g.limits.layer-each) in
      rw (read-line Table (n ∷ r ∷ []) small (omega arith) 1 (out_text p.dark ++ flatten (map layer_text layers)) start_draft, table-added n r base)
      (read_out read_lines n r base out-read Makes 4 p.dark (flatten (map layer_text layers)) 2 g.limits.dark-order λ line.
      subst (λ text. Makes (read_lines line (lines_of text) (draft n r 0 0 (4 ∷ n ∷ r ∷ length p.dark ∷ p.dark) [] [])))
      (append-nil (flatten (map layer_text layers)))
      (read-layers n r base.n-most (omega (arith, base.r-least)) base.r-most Makes layers [] line 0 0 (4 ∷ n ∷ r ∷ length p.dark ∷ p.dark) [] []
      g.rows g.limits.mu-limits (omega (arith, g.limits.layer-each)) (omega (arith, g.limits.blocks-most))
      λ line' lines.
      rw (
        each,
        read-end line' n r (0 + sizes (heads_of layers)) ((4 ∷ n ∷ r ∷ length p.dark ∷ p.dark) ++ head_numbers (heads_of layers))
            ([] ++ flatten (all_rows layers)) lines (omega (arith, base.r-least)),
      )
      (pack_made (draft n r r (0 + sizes (heads_of layers)) ((4 ∷ n ∷ r ∷ length p.dark ∷ p.dark) ++ head_numbers (heads_of layers))
      ([] ++ flatten (all_rows layers)) lines) refl)))
