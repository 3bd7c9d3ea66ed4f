-- How long the text of bare rows is. Assumes nothing.
use Prim.Native.Nat.{ℕ, ◌≤◌, ◌<◌}
use native.Mathlib.Omega.{arith}
use mathlib.Core.List.{List, [], ◌∷◌, ◌++◌, map, flatten}
use lib.ListN.{length, length-append}
use Rattle.lists.specs.Lists.{All}
use Rattle.certify.specs.Bare.{Bare, GoodBare}
use Rattle.table.specs.Printing.{out_text}
use Rattle.table.proofs.Lengths.{rest-nodes, blocks-length, out-length}
use Rattle.rows_text.specs.declared.RowsWord.TheVariants.{Rows, Order, Plain}
use Rattle.rows_text_print.specs.Printing.{text_line, rows_text}

module _ (q : Bare) (g : GoodBare q) where
  abbrev first : List ℕ
  first = text_line Rows (q.base.n ∷ q.base.r ∷ [])

  abbrev third : List ℕ
  third = text_line Order (q.order.s ∷ q.order.k ∷ [])

  abbrev lines : List ℕ
  lines = flatten (map (text_line Plain) q.rows)

  -- A line of at most 13 bytes, one of at most 1,024, one of at most 14, and 21 bytes a row.
  pub text-length : length (rows_text q) ≤ 87_067
  unfolding rows_text
  text-length =
      let n-most = g.base.n-most in
      let r-most = g.base.r-most in
      let o = g.order in
      let s-most = o.s-most in
      let k-most = o.k-most in
      let numbers : All (λ v. v < 1_000) (q.base.n ∷ q.base.r ∷ []) = (omega arith, (omega arith, tt)) in
      let numbers₃ : All (λ v. v < 1_000) (q.order.s ∷ q.order.k ∷ []) = (omega arith, (omega arith, tt)) in
      omega (
        arith,
        length-append first (out_text q.base.dark ++ (third ++ lines)),
        length-append (out_text q.base.dark) (third ++ lines),
        length-append third lines,
        rest-nodes (q.base.n ∷ q.base.r ∷ []) numbers,
        out-length q.base.n q.base.r n-most r-most q.base.dark g.dark.ordered,
        rest-nodes (q.order.s ∷ q.order.k ∷ []) numbers₃,
        blocks-length q.base.n q.base.r n-most r-most q.rows g.rows,
        g.records-all,
        o.b-most,
      )
