-- A draft of bare rows after each line: nothing is read; n, r and perhaps the nodes out of service are; or `order` and perhaps rows are.
-- Every line that is taken keeps it so. Assumes nothing.
use Prim.Native.Nat.{ℕ, suc, ◌+◌, ◌≤◌, ◌<◌}
use native.Mathlib.Omega.{arith}
use mathlib.Core.Path.{◌≡◌, refl, sym, ◌∙◌, ap, subst}
use mathlib.Core.Logic.{◌⊎◌, inl, inr}
use mathlib.Core.Bool.{true, ◌&&◌}
use mathlib.Core.List.{List, [], ◌∷◌, ◌++◌, flatten, append_assoc, append-nil}
use lib.ListN.{length, get_or, length-append}
use lib.Dec.{T, leb, ltb, eqb}
use borrow.Author.Tests.{leb-true, ltb-true, eqb-true}
use Rattle.lists.specs.Lists.{All}
use Rattle.lists.proofs.Alls.{all_append}
use Rattle.lists.proofs.Counts.{flatten-append}
use Rattle.lists.proofs.Tests.{T_true}
use Rattle.packing.specs.Rows.{Row, is_in_order}
use Rattle.layers.specs.Layers.{BaseLimits, list_numbers}
use Rattle.certify.specs.Bare.{Bare, bare_numbers}
use Rattle.table.specs.Told.{good}
use Rattle.table.specs.Reading.{Draft, add_table, add_out, add_block, one_more}
use Rattle.table.proofs.Made.{bad-not-good, good-injective, unless-good}
use Rattle.table.proofs.Drafts.{draft, one-more}
use Rattle.table.proofs.Headed.{Headed, headed, both, table-held, table-once, out-due, out-held}
use Rattle.rows_text.specs.declared.RowsWord.{RowsWord}
use Rattle.rows_text.specs.declared.RowsWord.TheVariants.{Rows, Out, Order, Plain}
use Rattle.rows_text.specs.Reading.{start_draft, order_taken, add_order, add_numbers}

-- `order` is read, and perhaps rows
pub record Filled (d : Draft) : Type 0 where
  pub q : Bare
  pub lines : List ℕ
  pub base : BaseLimits q.base.n q.base.r
  pub ordered : T (is_in_order q.base.n q.base.dark)
  pub s-least : 1 ≤ q.order.s
  pub s-most : q.order.s ≤ q.base.r
  pub k-least : q.order.s ≤ q.order.k
  pub k-most : q.order.k < q.base.n
  pub b-most : q.order.b ≤ 4_096
  pub records-all : length q.rows ≡ q.order.b
  pub rows : All (Row q.base.n q.base.r) q.rows
  pub is : d ≡ draft q.base.n q.base.r 1 q.order.b (bare_numbers q) (flatten q.rows) lines

-- what holds of the draft after every line
abbrev pub Held : Draft → Type 0
Held d = (d ≡ start_draft) ⊎ (Headed 7 d ⊎ Filled d)

module _ (n r : ℕ) (dark : List ℕ) (base : BaseLimits n r) (ordered : T (is_in_order n dark)) where
  order-held : (line : ℕ) (numbers : List ℕ) {made : Draft} → add_order line numbers (headed 7 n r dark) ≡ good made → Filled made
  unfolding add_order order_taken list_numbers flatten
  order-held line numbers {made} e =
      let (due, e₁) = unless-good (ltb 0 r && (eqb 0 0 && eqb (length numbers) 2)) _ _ e in
      let (taken, e₂) = unless-good (order_taken n r (length (headed 7 n r dark).numbers) (get_or numbers 0 0) (get_or numbers 1 0)) _ _ e₁ in
      go numbers (eqb-true (length numbers) 2 (both (eqb 0 0) (eqb (length numbers) 2) (both (ltb 0 r) (eqb 0 0 && eqb (length numbers) 2) due).1).1) taken e₂
    where
      go : (numbers : List ℕ) → length numbers ≡ 2 → order_taken n r (length (headed 7 n r dark).numbers) (get_or numbers 0 0) (get_or numbers 1 0) ≡ true
          → good (draft n r 1 0 ((headed 7 n r dark).numbers ++ (numbers ++ (0 ∷ []))) [] []) ≡ good made → Filled made
      go [] l t h = absurd (omega arith)
      go (s ∷ []) l t h = absurd (omega arith)
      go (s ∷ k ∷ []) l t h =
          let t₁ = (both (ltb (length (headed 7 n r dark).numbers) (4 + n)) (leb 1 s && (leb s r && (leb s k && ltb k n))) t).1 in
          let (least, t₂) = both (leb 1 s) (leb s r && (leb s k && ltb k n)) t₁ in
          let (most, t₃) = both (leb s r) (leb s k && ltb k n) t₂ in
          let (above, below) = both (leb s k) (ltb k n) t₃ in
          record {
            q = record { base = record { n = n; r = r; dark = dark }; order = record { s = s; k = k; b = 0 }; rows = [] };
            lines = [];
            base = base;
            ordered = ordered;
            s-least = leb-true 1 s least;
            s-most = leb-true s r most;
            k-least = leb-true s k above;
            k-most = ltb-true k n below;
            b-most = omega arith;
            records-all = refl;
            rows = tt;
            is = sym (good-injective h);
          }
      go (s ∷ k ∷ m ∷ more) l t h = absurd (omega arith)

  headed-step : (line : ℕ) (word : RowsWord) (numbers : List ℕ) {made : Draft} → add_numbers line word numbers (headed 7 n r dark) ≡ good made → Held made
  unfolding add_numbers add_table add_block
  headed-step line Rows numbers e = absurd (table-once line numbers (headed 7 n r dark) base.r-least e)
  headed-step line Out numbers e = inr (inl (out-held 7 n r dark base line numbers e))
  headed-step line Order numbers e = inr (inr (order-held line numbers e))
  headed-step line Plain [] e =
      inr (inl (record { n = n; r = r; dark = dark; base = base; ordered = ordered; is = sym (good-injective e) }))
  headed-step line Plain (v ∷ numbers) e = absurd (bad-not-good e)

fresh_step : (line : ℕ) (word : RowsWord) (numbers : List ℕ) {made : Draft} → add_numbers line word numbers start_draft ≡ good made → Held made
unfolding add_numbers add_out add_order add_block
fresh_step line Rows numbers e = inr (inl (table-held 7 line numbers e))
fresh_step line Out numbers e = absurd (bad-not-good e)
fresh_step line Order numbers e = absurd (bad-not-good e)
fresh_step line Plain [] e = inl (sym (good-injective e))
fresh_step line Plain (v ∷ numbers) e = absurd (bad-not-good e)

-- one row more
abbrev with_row : Bare → List ℕ → Bare
with_row q row =
    record {
      base = q.base;
      order = record { s = q.order.s; k = q.order.k; b = suc q.order.b };
      rows = q.rows ++ (row ∷ []);
    }

numbers-with : (q : Bare) (row : List ℕ) → one_more (bare_numbers q) ≡ bare_numbers (with_row q row)
unfolding list_numbers
numbers-with q row =
    let dark = q.base.dark in
    let head : List ℕ = 7 ∷ q.base.n ∷ q.base.r ∷ length dark ∷ dark in
    let two : List ℕ = q.order.s ∷ q.order.k ∷ [] in
    ap one_more (sym (append_assoc head two (q.order.b ∷ []))) ∙ (one-more (head ++ two) q.order.b ∙ append_assoc head two (suc q.order.b ∷ []))

rows-with : (q : Bare) (row : List ℕ) → flatten q.rows ++ row ≡ flatten (q.rows ++ (row ∷ []))
unfolding flatten
rows-with q row = sym (flatten-append q.rows (row ∷ []) ∙ ap (λ l. flatten q.rows ++ l) (append-nil row))

module _ (d : Draft) (f : Filled d) where
  abbrev filled : Draft
  filled = draft f.q.base.n f.q.base.r 1 f.q.order.b (bare_numbers f.q) (flatten f.q.rows) f.lines

  row-held : (line : ℕ) (row : List ℕ) {made : Draft} → add_block line row filled ≡ good made → Filled made
  unfolding add_block
  row-held line row {made} e =
      let q = f.q in
      let n = q.base.n in
      let r = q.base.r in
      let b = q.order.b in
      let (due, e₁) = unless-good (ltb 0 1 && eqb (length row) r) _ _ e in
      let (few, e₂) = unless-good (ltb b 4_096) _ _ e₁ in
      let (inside, e₃) = unless-good (is_in_order n row) _ _ e₂ in
      let long = eqb-true (length row) r (both (ltb 0 1) (eqb (length row) r) due).1 in
      let all = f.records-all in
      record {
        q = with_row q row;
        lines = f.lines ++ (line ∷ []);
        base = f.base;
        ordered = f.ordered;
        s-least = f.s-least;
        s-most = f.s-most;
        k-least = f.k-least;
        k-most = f.k-most;
        b-most = omega (arith, ltb-true b 4_096 few);
        records-all = omega (arith, length-append q.rows (row ∷ []));
        rows = all_append (Row n r) q.rows (row ∷ []) f.rows ((long, T_true inside), tt);
        is = sym (good-injective e₃) ∙ λ i. draft n r 1 (suc b) (numbers-with q row i) (rows-with q row i) (f.lines ++ (line ∷ []));
      }

  filled-step : (line : ℕ) (word : RowsWord) (numbers : List ℕ) {made : Draft} → add_numbers line word numbers filled ≡ good made → Held made
  unfolding add_numbers add_table add_out add_order list_numbers
  filled-step line Rows numbers e = absurd (table-once line numbers filled f.base.r-least e)
  filled-step line Out numbers e =
      let size = out-due line numbers filled e in
      let o = f.q.order in
      absurd (omega (arith, length-append f.q.base.dark (o.s ∷ o.k ∷ o.b ∷ [])))
  filled-step line Order numbers e =
      let r = f.q.base.r in
      let (due, e₁) = unless-good (ltb 0 r && (eqb 1 0 && eqb (length numbers) 2)) _ _ e in
      let zero_one = eqb-true 1 0 (both (eqb 1 0) (eqb (length numbers) 2) (both (ltb 0 r) (eqb 1 0 && eqb (length numbers) 2) due).1).0 in
      absurd (omega arith)
  filled-step line Plain [] e = inr (inr (subst Filled (f.is ∙ good-injective e) f))
  filled-step line Plain (v ∷ row) e = inr (inr (row-held line (v ∷ row) e))

pub step : (line : ℕ) (word : RowsWord) (numbers : List ℕ) (d : Draft) {made : Draft} → Held d → add_numbers line word numbers d ≡ good made → Held made
step line word numbers d {made} (inl is) e = fresh_step line word numbers (subst (λ x. add_numbers line word numbers x ≡ good made) is e)
step line word numbers d {made} (inr (inl h)) e =
    headed-step h.n h.r h.dark h.base h.ordered line word numbers (subst (λ x. add_numbers line word numbers x ≡ good made) h.is e)
step line word numbers d {made} (inr (inr f)) e =
    filled-step d f line word numbers (subst (λ x. add_numbers line word numbers x ≡ good made) f.is e)
