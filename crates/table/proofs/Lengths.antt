-- How long a pack's text is. Assumes nothing.
use Prim.Native.Nat.{ℕ, ◌+◌, ◌*◌, ◌≤◌, ◌<◌}
use native.Mathlib.Omega.{arith}
use mathlib.Core.List.{List, [], ◌∷◌, ◌++◌, map, flatten}
use lib.ListN.{length, length-append}
use lib.Dec.{T}
use Rattle.lists.specs.Lists.{All, total}
use Rattle.lists.proofs.Alls.{all-imp, all-append-left, all-append-right}
use Rattle.packing.specs.Rows.{Row, is_in_order}
use Rattle.layers.specs.Layers.{Layer, all_rows, heads_of, sizes}
use Rattle.layers.proofs.Listing.{dark-count, dark-below}
use Rattle.pack.specs.Pack.{Pack, GoodPack}
use Rattle.report.specs.Programs.{decimal, rest}
use Rattle.table.specs.declared.Word.TheVariants.{Table, Mu, Plain}
use Rattle.table.specs.Printing.{text_line, out_text, layer_text, table_text}
use Rattle.table.proofs.Numbers.{tens, decimal-short}

-- numbers of up to three digits, with a space each, and the newline
pub rest-nodes : (nodes : List ℕ) → All (λ v. v < 1_000) nodes → length (rest nodes) ≤ 4 * length nodes + 1
unfolding rest tens
rest-nodes [] h = omega arith
rest-nodes (v ∷ nodes) h =
    let e = length-append (decimal v) (rest nodes) in
    omega (arith, e, decimal-short v 2 h.0 (omega arith), rest-nodes nodes h.1)

module _ (n r : ℕ) (n-most : n ≤ 255) (r-most : r ≤ 5) where
  nodes-short : (nodes : List ℕ) → T (is_in_order n nodes) → All (λ v. v < 1_000) nodes
  nodes-short nodes t = all-imp (λ v. v < n) (λ v. v < 1_000) (λ v h. omega arith) nodes (dark-below n nodes t)

  pub blocks-length : (rows : List (List ℕ)) → All (Row n r) rows → length (flatten (map (text_line Plain) rows)) ≤ 21 * length rows
  unfolding flatten
  blocks-length [] h = omega arith
  blocks-length (row ∷ rows) h =
      let e = length-append (text_line Plain row) (flatten (map (text_line Plain) rows)) in
      let size = h.0.0 in
      omega (arith, e, size, rest-nodes row (nodes-short row h.0.1), blocks-length rows h.1)

  mu-length : (mu : ℕ) → mu ≤ 4_096 → length (text_line Mu (mu ∷ [])) ≤ 8
  unfolding rest tens
  mu-length mu h =
      let e = length-append (decimal mu) (10 ∷ []) in
      omega (arith, e, decimal-short mu 3 (omega arith) (omega arith))

  layers-length : (ls : List Layer) → All (Row n r) (all_rows ls) → All (λ layer. (1 ≤ layer.bound) × (layer.bound ≤ 4_096)) ls
      → length (flatten (map layer_text ls)) ≤ 8 * length ls + 21 * sizes (heads_of ls)
  unfolding flatten total
  layers-length [] rows bounds = omega arith
  layers-length (layer ∷ ls) rows bounds =
      let text = flatten (map (text_line Plain) layer.rows) in
      omega (
        arith,
        length-append (layer_text layer) (flatten (map layer_text ls)),
        length-append (text_line Mu (layer.bound ∷ [])) text,
        mu-length layer.bound bounds.0.1,
        blocks-length layer.rows (all-append-left (Row n r) layer.rows (all_rows ls) rows),
        layers-length ls (all-append-right (Row n r) layer.rows (all_rows ls) rows) bounds.1,
      )

  pub out-length : (dark : List ℕ) → T (is_in_order n dark) → length (out_text dark) ≤ 1_024
  out-length [] t = omega arith
  out-length (v ∷ dark) t =
      omega (arith, dark-count n (v ∷ dark) t, rest-nodes (v ∷ dark) (nodes-short (v ∷ dark) t))

-- A line of at most 14 bytes, one of at most 1,024, five of at most 8, and 21 bytes a block.
pub text-length : (p : Pack) → GoodPack p → length (table_text p) ≤ 87_094
unfolding table_text
text-length p g =
    let l = g.limits in
    let n-most = l.base.n-most in
    let r-most = l.base.r-most in
    let numbers : All (λ v. v < 1_000) (p.n ∷ p.r ∷ []) = (omega arith, (omega arith, tt)) in
    omega (
      arith,
      length-append (text_line Table (p.n ∷ p.r ∷ [])) (out_text p.dark ++ flatten (map layer_text p.layers)),
      length-append (out_text p.dark) (flatten (map layer_text p.layers)),
      rest-nodes (p.n ∷ p.r ∷ []) numbers,
      out-length p.n p.r n-most r-most p.dark l.dark-order,
      layers-length p.n p.r n-most r-most p.layers g.rows l.mu-limits,
      l.layer-each,
      l.blocks-most,
    )
