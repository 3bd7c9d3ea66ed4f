-- A draft of which n and r are read, and perhaps the nodes out of service, of a table and of bare rows alike. Assumes nothing.
use Prim.Native.Nat.{ℕ, ◌≤◌}
use native.Mathlib.Omega.{arith}
use mathlib.Core.Path.{◌≡◌, sym}
use mathlib.Core.Bool.{Bool, true, ◌&&◌}
use mathlib.Core.List.{List, [], ◌∷◌, ◌++◌}
use lib.ListN.{length, get_or}
use lib.Dec.{T, leb, eqb}
use borrow.Author.Tests.{leb-true, eqb-true}
use Rattle.lists.specs.Lists.{every}
use Rattle.lists.proofs.Tests.{T_true, true-T, and_left, and_right}
use Rattle.packing.specs.Rows.{ascending, is_in_order}
use Rattle.layers.specs.Layers.{BaseLimits}
use Rattle.table.specs.Told.{good}
use Rattle.table.specs.Reading.{Draft, head_taken, add_table, add_out}
use Rattle.table.proofs.Made.{good-injective, unless-good}
use Rattle.table.proofs.Drafts.{draft}

-- its head's numbers so far
abbrev pub headed : (kind n r : ℕ) (dark : List ℕ) → Draft
headed kind n r dark = draft n r 0 0 (kind ∷ n ∷ r ∷ length dark ∷ dark) [] []

pub record Headed (kind : ℕ) (d : Draft) : Type 0 where
  pub n : ℕ
  pub r : ℕ
  pub dark : List ℕ
  pub base : BaseLimits n r
  pub ordered : T (is_in_order n dark)
  pub is : d ≡ headed kind n r dark

-- a test of two parts that passed
pub both : (a b : Bool) → (a && b) ≡ true → (a ≡ true) × (b ≡ true)
both a b e = (true-T a (and_left a b (T_true e)), true-T b (and_right a b (T_true e)))

taken-limits : (n r : ℕ) → head_taken n r ≡ true → BaseLimits n r
unfolding head_taken
taken-limits n r e =
    let (a, e₁) = both (leb 2 n) (leb n 255 && (leb 2 r && (leb r 5 && leb r n))) e in
    let (b, e₂) = both (leb n 255) (leb 2 r && (leb r 5 && leb r n)) e₁ in
    let (c, e₃) = both (leb 2 r) (leb r 5 && leb r n) e₂ in
    let (d, f) = both (leb r 5) (leb r n) e₃ in
    record {
      n-least = leb-true 2 n a;
      n-most = leb-true n 255 b;
      r-least = leb-true 2 r c;
      r-most = leb-true r 5 d;
      r-nodes = leb-true r n f;
    }

-- n and r, in the first line
pub table-held : (kind line : ℕ) (numbers : List ℕ) {made : Draft} → add_table line numbers (draft 0 0 0 0 (kind ∷ []) [] []) ≡ good made → Headed kind made
unfolding add_table ascending every
table-held kind line numbers {made} e =
    let (two, e₁) = unless-good (eqb 0 0 && eqb (length numbers) 2) _ _ e in
    let (taken, e₂) = unless-good (head_taken (get_or numbers 0 0) (get_or numbers 1 0)) _ _ e₁ in
    go numbers (eqb-true (length numbers) 2 two) taken e₂
  where
    go : (numbers : List ℕ) → length numbers ≡ 2 → head_taken (get_or numbers 0 0) (get_or numbers 1 0) ≡ true
        → good (draft (get_or numbers 0 0) (get_or numbers 1 0) 0 0 ((kind ∷ []) ++ (numbers ++ (0 ∷ []))) [] []) ≡ good made → Headed kind made
    go [] l t h = absurd (omega arith)
    go (n ∷ []) l t h = absurd (omega arith)
    go (n ∷ r ∷ []) l t h =
        record { n = n; r = r; dark = []; base = taken-limits n r t; ordered = tt; is = sym (good-injective h) }
    go (n ∷ r ∷ m ∷ more) l t h = absurd (omega arith)

-- and only there
pub table-once : (line : ℕ) (numbers : List ℕ) (d : Draft) {made : Draft} → 2 ≤ d.r → add_table line numbers d ≡ good made → ⊥
unfolding add_table
table-once line numbers d two e =
    let (due, e₁) = unless-good (eqb d.r 0 && eqb (length numbers) 2) _ _ e in
    let zero-r = eqb-true d.r 0 (both (eqb d.r 0) (eqb (length numbers) 2) due).0 in
    omega arith

-- the nodes out of service, where no other number follows r
pub out-due : (line : ℕ) (numbers : List ℕ) (d : Draft) {made : Draft} → add_out line numbers d ≡ good made → length d.numbers ≡ 4
unfolding add_out
out-due line numbers d e =
    eqb-true (length d.numbers) 4 (unless-good (eqb (length d.numbers) 4) _ _ e).0

pub out-held : (kind n r : ℕ) (dark : List ℕ) → BaseLimits n r → (line : ℕ) (numbers : List ℕ) {made : Draft}
    → add_out line numbers (headed kind n r dark) ≡ good made → Headed kind made
unfolding add_out
out-held kind n r dark base line numbers {made} e =
    let (four, e₁) = unless-good (eqb (length (headed kind n r dark).numbers) 4) _ _ e in
    let (inside, e₂) = unless-good (is_in_order n numbers) _ _ e₁ in
    go dark (eqb-true (length (headed kind n r dark).numbers) 4 four) (T_true inside) e₂
  where
    go : (dark : List ℕ) → length (kind ∷ n ∷ r ∷ 0 ∷ dark) ≡ 4 → T (is_in_order n numbers)
        → good (draft n r 0 0 ((kind ∷ n ∷ r ∷ length numbers ∷ dark) ++ numbers) [] []) ≡ good made → Headed kind made
    go [] l t h = record { n = n; r = r; dark = numbers; base = base; ordered = t; is = sym (good-injective h) }
    go (v ∷ dark) l t h = absurd (omega arith)
