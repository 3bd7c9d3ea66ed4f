-- A draft of a table after each line: nothing is read; n, r and perhaps the nodes out of service are; or layers are. Every line that is
-- taken keeps it so. Assumes nothing.
use Prim.Native.Nat.{ℕ, suc, ◌+◌, ◌≤◌, ◌<◌}
use native.Mathlib.Omega.{arith}
use mathlib.Core.Path.{◌≡◌, refl, sym, ◌∙◌, ap, subst}
use mathlib.Core.Logic.{◌⊎◌, inl, inr}
use mathlib.Core.Bool.{◌&&◌}
use mathlib.Core.List.{List, [], ◌∷◌, ◌++◌, flatten, append_assoc, append-nil}
use lib.ListN.{length, get_or, length-append}
use lib.Dec.{T, leb, ltb, eqb}
use borrow.Author.Tests.{leb-true, ltb-true, eqb-true}
use Rattle.lists.specs.Lists.{All, total}
use Rattle.lists.proofs.Alls.{all_append, all-append-left, all-append-right}
use Rattle.lists.proofs.Counts.{flatten-append}
use Rattle.lists.proofs.Tests.{T_true}
use Rattle.packing.specs.Rows.{Row, is_in_order}
use Rattle.layers.specs.Layers.{Layer, BaseLimits, all_rows, heads_of, head_numbers, sizes}
use Rattle.table.specs.declared.Word.{Word}
use Rattle.table.specs.declared.Word.TheVariants.{Table, Out, Mu, Plain}
use Rattle.table.specs.Told.{good}
use Rattle.table.specs.Reading.{Draft, start_draft, add_out, add_layer, add_block, add_numbers, one_more}
use Rattle.table.proofs.Made.{bad-not-good, good-injective, unless-good}
use Rattle.table.proofs.Drafts.{draft, one-more}
use Rattle.table.proofs.Headed.{Headed, headed, both, table-held, table-once, out-due, out-held}

-- one layer more
pub more_numbers : (done : List Layer) (layer : Layer)
    → head_numbers (heads_of (done ++ (layer ∷ []))) ≡ head_numbers (heads_of done) ++ (layer.bound ∷ length layer.rows ∷ [])
unfolding head_numbers
more_numbers [] layer = refl
more_numbers (first ∷ done) layer = ap (λ l. first.bound ∷ length first.rows ∷ l) (more_numbers done layer)

pub more_rows : (done : List Layer) (layer : Layer) → all_rows (done ++ (layer ∷ [])) ≡ all_rows done ++ layer.rows
unfolding flatten
more_rows [] layer = append-nil layer.rows
more_rows (first ∷ done) layer = ap (λ l. first.rows ++ l) (more_rows done layer) ∙ sym (append_assoc first.rows (all_rows done) layer.rows)

pub more-sizes : (done : List Layer) (layer : Layer) → sizes (heads_of (done ++ (layer ∷ []))) ≡ sizes (heads_of done) + length layer.rows
unfolding total
more-sizes [] layer = omega arith
more-sizes (first ∷ done) layer = let e = more-sizes done layer in omega arith

abbrev pub Bounded : Layer → Type 0
Bounded layer = (1 ≤ layer.bound) × (layer.bound ≤ 4_096)

abbrev layer : (mu : ℕ) (rows : List (List ℕ)) → Layer
layer mu rows = record { bound = mu; rows = rows }

-- the layers that are done, and the one that blocks are added to
abbrev filled : (n r : ℕ) (dark : List ℕ) (done : List Layer) (last : Layer) (lines : List ℕ) → Draft
filled n r dark done last lines =
    draft n r (suc (length done)) (sizes (heads_of done) + length last.rows)
    ((4 ∷ n ∷ r ∷ length dark ∷ dark) ++ (head_numbers (heads_of done) ++ (last.bound ∷ length last.rows ∷ [])))
    (flatten (all_rows done ++ last.rows))
    lines

pub record Filled (d : Draft) : Type 0 where
  pub n : ℕ
  pub r : ℕ
  pub dark : List ℕ
  pub done : List Layer
  pub last : Layer
  pub lines : List ℕ
  pub base : BaseLimits n r
  pub ordered : T (is_in_order n dark)
  pub each : length done < r
  pub bounds : All Bounded (done ++ (last ∷ []))
  pub blocks-most : sizes (heads_of done) + length last.rows ≤ 4_096
  pub rows : All (Row n r) (all_rows done ++ last.rows)
  pub is : d ≡ filled n r dark done last lines

-- what holds of the draft after every line
abbrev pub Held : Draft → Type 0
Held d = (d ≡ start_draft) ⊎ (Headed 4 d ⊎ Filled d)

-- what a layer's line says: there are fewer than r yet, and its mu is within limits
mu-taken : (line : ℕ) (numbers : List ℕ) (d : Draft) {made : Draft} → add_layer line numbers d ≡ good made
    → (mu : ℕ) × (1 ≤ mu) × (mu ≤ 4_096) × (d.layers < d.r)
    × (draft d.n d.r (suc d.layers) d.blocks (d.numbers ++ (mu ∷ 0 ∷ [])) d.rows d.lines ≡ made)
unfolding add_layer
mu-taken line numbers d {made} e =
    let (due, e₁) = unless-good (ltb d.layers d.r && eqb (length numbers) 1) _ _ e in
    let (taken, e₂) = unless-good (leb 1 (get_or numbers 0 0) && leb (get_or numbers 0 0) 4_096) _ _ e₁ in
    let (fewer, one) = both (ltb d.layers d.r) (eqb (length numbers) 1) due in
    let (least, most) = both (leb 1 (get_or numbers 0 0)) (leb (get_or numbers 0 0) 4_096) taken in
    let (mu, is, same) = go numbers (eqb-true (length numbers) 1 one) e₂ in (
      mu,
      rw is at (leb-true 1 (get_or numbers 0 0) least),
      rw is at (leb-true (get_or numbers 0 0) 4_096 most),
      ltb-true d.layers d.r fewer,
      same,
    )
  where
    go : (numbers : List ℕ) → length numbers ≡ 1
        → good (draft d.n d.r (suc d.layers) d.blocks (d.numbers ++ (numbers ++ (0 ∷ []))) d.rows d.lines) ≡ good made
        → (mu : ℕ) × (get_or numbers 0 0 ≡ mu)
        × (draft d.n d.r (suc d.layers) d.blocks (d.numbers ++ (mu ∷ 0 ∷ [])) d.rows d.lines ≡ made)
    go [] l h = absurd (omega arith)
    go (mu ∷ []) l h = (mu, refl, good-injective h)
    go (mu ∷ m ∷ more) l h = absurd (omega arith)

module _ (n r : ℕ) (dark : List ℕ) (base : BaseLimits n r) (ordered : T (is_in_order n dark)) where
  first-layer : (line : ℕ) (numbers : List ℕ) {made : Draft} → add_layer line numbers (headed 4 n r dark) ≡ good made → Filled made
  unfolding head_numbers flatten total
  first-layer line numbers e =
      let (mu, least, most, fewer, same) = mu-taken line numbers (headed 4 n r dark) e in
      record {
        n = n;
        r = r;
        dark = dark;
        done = [];
        last = layer mu [];
        lines = [];
        base = base;
        ordered = ordered;
        each = fewer;
        bounds = ((least, most), tt);
        blocks-most = omega arith;
        rows = tt;
        is = sym same;
      }

  headed-step : (line : ℕ) (word : Word) (numbers : List ℕ) {made : Draft} → add_numbers line word numbers (headed 4 n r dark) ≡ good made → Held made
  unfolding add_numbers add_block
  headed-step line Table numbers e = absurd (table-once line numbers (headed 4 n r dark) base.r-least e)
  headed-step line Out numbers e = inr (inl (out-held 4 n r dark base line numbers e))
  headed-step line Mu numbers e = inr (inr (first-layer line numbers e))
  headed-step line Plain [] e =
      inr (inl (record { n = n; r = r; dark = dark; base = base; ordered = ordered; is = sym (good-injective e) }))
  headed-step line Plain (v ∷ numbers) e = absurd (bad-not-good e)

fresh_step : (line : ℕ) (word : Word) (numbers : List ℕ) {made : Draft} → add_numbers line word numbers start_draft ≡ good made → Held made
unfolding add_numbers add_out add_layer add_block
fresh_step line Table numbers e = inr (inl (table-held 4 line numbers e))
fresh_step line Out numbers e = absurd (bad-not-good e)
fresh_step line Mu numbers e = absurd (bad-not-good e)
fresh_step line Plain [] e = inl (sym (good-injective e))
fresh_step line Plain (v ∷ numbers) e = absurd (bad-not-good e)

-- one block more in the last layer's number ..
numbers-with : (head done : List ℕ) (mu m : ℕ) → one_more (head ++ (done ++ (mu ∷ m ∷ []))) ≡ head ++ (done ++ (mu ∷ suc m ∷ []))
numbers-with head done mu m = ap one_more (ends m) ∙ (one-more ((head ++ done) ++ (mu ∷ [])) m ∙ sym (ends (suc m)))
  where
    ends : (m : ℕ) → head ++ (done ++ (mu ∷ m ∷ [])) ≡ ((head ++ done) ++ (mu ∷ [])) ++ (m ∷ [])
    ends m = sym (append_assoc head done (mu ∷ m ∷ [])) ∙ sym (append_assoc (head ++ done) (mu ∷ []) (m ∷ []))

-- .. and after the rows
rows-with : (before rows : List (List ℕ)) (row : List ℕ) → flatten (before ++ rows) ++ row ≡ flatten (before ++ (rows ++ (row ∷ [])))
unfolding flatten
rows-with before rows row =
    sym (ap flatten (sym (append_assoc before rows (row ∷ [])))
    ∙ (flatten-append (before ++ rows) (row ∷ []) ∙ ap (λ l. flatten (before ++ rows) ++ l) (append-nil row)))

module _ (d : Draft) (f : Filled d) where
  abbrev now : Draft
  now = filled f.n f.r f.dark f.done f.last f.lines

  block_held : (line : ℕ) (row : List ℕ) {made : Draft} → add_block line row now ≡ good made → Filled made
  unfolding add_block
  block_held line row e =
      let n = f.n in
      let r = f.r in
      let done = f.done in
      let rows = f.last.rows in
      let mu = f.last.bound in
      let (due, e₁) = unless-good (ltb 0 (suc (length done)) && eqb (length row) r) _ _ e in
      let (few, e₂) = unless-good (ltb now.blocks 4_096) _ _ e₁ in
      let (inside, e₃) = unless-good (is_in_order n row) _ _ e₂ in
      let long = eqb-true (length row) r (both (ltb 0 (suc (length done))) (eqb (length row) r) due).1 in
      let one : suc (length rows) ≡ length (rows ++ (row ∷ [])) = omega (arith, length-append rows (row ∷ [])) in
      let blocks : suc (sizes (heads_of done) + length rows) ≡ sizes (heads_of done) + length (rows ++ (row ∷ [])) = omega arith in
      let head : List ℕ = 4 ∷ n ∷ r ∷ length f.dark ∷ f.dark in
      let numbers : one_more now.numbers ≡ head ++ (head_numbers (heads_of done) ++ (mu ∷ length (rows ++ (row ∷ [])) ∷ [])) =
      numbers-with head (head_numbers (heads_of done)) mu (length rows) ∙ ap (λ m. head ++ (head_numbers (heads_of done) ++ (mu ∷ m ∷ []))) one in
      record {
        n = n;
        r = r;
        dark = f.dark;
        done = done;
        last = layer mu (rows ++ (row ∷ []));
        lines = f.lines ++ (line ∷ []);
        base = f.base;
        ordered = f.ordered;
        each = f.each;
        bounds = all_append Bounded done (layer mu (rows ++ (row ∷ [])) ∷ []) (all-append-left Bounded done (f.last ∷ []) f.bounds)
            (all-append-right Bounded done (f.last ∷ []) f.bounds);
        blocks-most = omega (arith, ltb-true now.blocks 4_096 few);
        rows = rw (← append_assoc (all_rows done) rows (row ∷ [])) (all_append (Row n r) (all_rows done ++ rows) (row ∷ []) f.rows ((long, T_true inside), tt));
        is = sym (good-injective e₃) ∙ λ i. draft n r (suc (length done)) (blocks i) (numbers i) (rows-with (all_rows done) rows row i) (f.lines ++ (line ∷ []));
      }

  layer-held : (line : ℕ) (numbers : List ℕ) {made : Draft} → add_layer line numbers now ≡ good made → Filled made
  layer-held line numbers e =
      let (mu, least, most, fewer, same) = mu-taken line numbers now e in
      let n = f.n in
      let r = f.r in
      let done = f.done ++ (f.last ∷ []) in
      let head : List ℕ = 4 ∷ n ∷ r ∷ length f.dark ∷ f.dark in
      let size = length-append f.done (f.last ∷ []) in
      let layers : suc (suc (length f.done)) ≡ suc (length done) = omega arith in
      let blocks : now.blocks ≡ sizes (heads_of done) + 0 = omega (arith, more-sizes f.done f.last) in
      let heads : now.numbers ++ (mu ∷ 0 ∷ []) ≡ head ++ (head_numbers (heads_of done) ++ (mu ∷ 0 ∷ [])) =
      rw (more_numbers f.done f.last) (append_assoc head _ (mu ∷ 0 ∷ [])) in
      let rows : all_rows f.done ++ f.last.rows ≡ all_rows done ++ [] = sym (append-nil (all_rows done) ∙ more_rows f.done f.last) in
      record {
        n = n;
        r = r;
        dark = f.dark;
        done = done;
        last = layer mu [];
        lines = f.lines;
        base = f.base;
        ordered = f.ordered;
        each = omega arith;
        bounds = all_append Bounded done (layer mu [] ∷ []) f.bounds ((least, most), tt);
        blocks-most = omega (arith, f.blocks-most);
        rows = subst (All (Row n r)) rows f.rows;
        is = sym same ∙ λ i. draft n r (layers i) (blocks i) (heads i) (flatten (rows i)) f.lines;
      }

  filled-step : (line : ℕ) (word : Word) (numbers : List ℕ) {made : Draft} → add_numbers line word numbers now ≡ good made → Held made
  unfolding add_numbers
  filled-step line Table numbers e = absurd (table-once line numbers now f.base.r-least e)
  filled-step line Out numbers e =
      let size = out-due line numbers now e in
      let last : List ℕ = f.last.bound ∷ length f.last.rows ∷ [] in
      absurd (omega (
        arith,
        length-append f.dark (head_numbers (heads_of f.done) ++ last),
        length-append (head_numbers (heads_of f.done)) last,
      ))
  filled-step line Mu numbers e = inr (inr (layer-held line numbers e))
  filled-step line Plain [] e = inr (inr (subst Filled (f.is ∙ good-injective e) f))
  filled-step line Plain (v ∷ row) e = inr (inr (block_held line (v ∷ row) e))

pub step : (line : ℕ) (word : Word) (numbers : List ℕ) (d : Draft) {made : Draft} → Held d → add_numbers line word numbers d ≡ good made → Held made
step line word numbers d {made} (inl is) e = fresh_step line word numbers (subst (λ x. add_numbers line word numbers x ≡ good made) is e)
step line word numbers d {made} (inr (inl h)) e =
    headed-step h.n h.r h.dark h.base h.ordered line word numbers (subst (λ x. add_numbers line word numbers x ≡ good made) h.is e)
step line word numbers d {made} (inr (inr f)) e =
    filled-step d f line word numbers (subst (λ x. add_numbers line word numbers x ≡ good made) f.is e)
