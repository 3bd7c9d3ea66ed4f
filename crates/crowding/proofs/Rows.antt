-- Positions of one row linked: each node of the row comes to its chain at most once, and the chain's tails are those after
-- that node. Assumes nothing.
use Prim.Native.Nat.{ℕ, zero, suc, ◌+◌, ◌-◌, ◌*◌, ◌/◌, ◌≤◌, ◌<◌}
use mathlib.Core.Path.{◌≡◌, refl, sym, ap, ◌∙◌}
use mathlib.Core.Bool.{Bool, true, false, cond, ◌&&◌, ◌||◌}
use mathlib.Core.List.{List, [], ◌∷◌}
use native.Mathlib.Nat.{div-eq_of_lt-le}
use native.Mathlib.Numerals.{add-one}
use native.Mathlib.Omega.{arith}
use lib.ListN.{length, get_or, take, drop, length-take, length-drop}
use lib.Seq.{drop-cons}
use lib.Dec.{leb, eqb}
use borrow.Author.Tests.{eqb-true, eq-eqb, ne_eqb, le-leb, lt-leb}
use Rattle.packing.specs.Rows.{member}
use Rattle.crowding.specs.Tails.{Tail, past, leaves}
use Rattle.crowding.specs.Chains.{row_end, tail_at, tails_at, linked, Ascends}

-- the n nodes from position f on
abbrev pub nodes_from : (rows : List ℕ) (f n : ℕ) → List ℕ
nodes_from rows f n = take n (drop f rows)

nodes-next : (rows : List ℕ) (f n : ℕ) → f < length rows → nodes_from rows f (suc n) ≡ get_or rows f 0 ∷ nodes_from rows (suc f) n
nodes-next rows f n h = rw (drop-cons rows f 0 h)

length-nodes : (rows : List ℕ) (f n : ℕ) → f + n ≤ length rows → length (nodes_from rows f n) ≡ n
length-nodes rows f n h = omega (arith, length-take n (drop f rows), length-drop f rows)

-- none of the n positions from f on has node u
abbrev None : (rows : List ℕ) (u f n : ℕ) → Type 0
None rows u f n = (q : ℕ) → f ≤ q → q < f + n → u ≡ get_or rows q 0 → ⊥

none_rest : (rows : List ℕ) (u f n : ℕ) → None rows u f (suc n) → None rows u (suc f) n
none_rest rows u f n h q le lt = h q (omega arith) (omega arith)

none_first : (rows : List ℕ) (u f n : ℕ) → None rows u f (suc n) → eqb u (get_or rows f 0) ≡ false
none_first rows u f n h = ne_eqb u (get_or rows f 0) (h f (omega arith) (omega arith))

linked-none : (rows : List ℕ) (u f n : ℕ) (found : List ℕ) → None rows u f n → linked rows u f n found ≡ found
unfolding linked
linked-none rows u f zero found none = refl
linked-none rows u f (suc n) found none =
    rw (none_first rows u f n none) (linked-none rows u (suc f) n found (none_rest rows u f n none))

-- of at most w nodes none leaves w nodes
leaves-few : (w v : ℕ) (nodes : List ℕ) → length nodes ≤ w → leaves w v nodes ≡ false
unfolding member past
leaves-few w v [] h = refl
leaves-few w v (u ∷ nodes) h = go (eqb v u) (leaves-few w v nodes (omega arith))
  where
    go : (b : Bool) → leaves w v nodes ≡ false → (b || member v nodes) && leb w (length (cond b nodes (past v nodes))) ≡ false
    go true ih = lt-leb w (length nodes) h
    go false ih = ih

-- the tail after u of a tail, where it leaves w nodes, and then `found`
abbrev pub step : (w u i : ℕ) (nodes : List ℕ) (found : List Tail) → List Tail
step w u i nodes found = cond (leaves w u nodes) (record { row = i; nodes = past u nodes } ∷ found) found

step-here : (w u i : ℕ) (nodes : List ℕ) (found : List Tail) → w ≤ length nodes
    → step w u i (u ∷ nodes) found ≡ record { row = i; nodes = nodes } ∷ found
unfolding member past
step-here w u i nodes found h = rw (eq-eqb u u refl, le-leb w (length nodes) h)

step_other : (w u a i : ℕ) (nodes : List ℕ) (found : List Tail) → eqb u a ≡ false → step w u i (a ∷ nodes) found ≡ step w u i nodes found
unfolding member past
step_other w u a i nodes found e = rw e

-- the row with number i
module _ (rows : List ℕ) (r i : ℕ) (whole : (i + 1) * r ≤ length rows) (order : Ascends r rows) where
  pub in_row : (q : ℕ) → i * r ≤ q → q < (i + 1) * r → q / r ≡ i
  in_row q le lt = div-eq_of_lt-le r le lt

  pub row-end : (q : ℕ) → i * r ≤ q → q < (i + 1) * r → row_end r q ≡ (i + 1) * r
  row-end q le lt = ap (λ (j : ℕ). (j + 1) * r) (in_row q le lt)

  pub rising : (p q : ℕ) → i * r ≤ p → p < q → q < (i + 1) * r → get_or rows p 0 < get_or rows q 0
  rising p q le lt h =
      let e = row-end p le (omega arith) in
      order p q lt (omega arith) (omega arith)

  none_after : (f n : ℕ) → i * r ≤ f → suc f + n ≤ (i + 1) * r → (u : ℕ) → u ≡ get_or rows f 0 → None rows u (suc f) n
  none_after f n le h u e q fq qn eq = omega (arith, rising f q le fq (omega arith))

  tail-here : (f : ℕ) → i * r ≤ f → f < (i + 1) * r
      → tail_at r rows f ≡ record { row = i; nodes = nodes_from rows (suc f) ((i + 1) * r - suc f) }
  tail-here f le lt = rw (in_row f le lt, add-one f)

  -- at most one of the positions is linked to a chain
  pub linked-elim : (P : List ℕ → Type 0) (u : ℕ) (found : List ℕ) (n f : ℕ) → i * r ≤ f → f + n ≤ (i + 1) * r → P found
      → ((q : ℕ) → f ≤ q → q < f + n → get_or rows q 0 ≡ u → P (q ∷ found)) → P (linked rows u f n found)
  unfolding linked
  linked-elim P u found zero f le h none one = none
  linked-elim P u found (suc n) f le h none one =
      go (eqb u (get_or rows f 0)) refl (linked-elim P u found n (suc f) (omega arith) (omega arith) none
      (λ q fq qn e. one q (omega arith) (omega arith) e))
    where
      go : (b : Bool) → eqb u (get_or rows f 0) ≡ b → P (linked rows u (suc f) n found)
          → P (linked rows u (suc f) n (cond b (f ∷ found) found))
      go true e ih =
          let same = eqb-true u (get_or rows f 0) e in
          rw (linked-none rows u (suc f) n (f ∷ found) (none_after f n le (omega arith) u same))
          (one f (omega arith) (omega arith) (sym same))
      go false e ih = ih

  -- the tails of the chain of u, after the positions from f on that leave w nodes are linked
  pub tails-linked : (w u : ℕ) (found : List ℕ) (n f : ℕ) → i * r ≤ f → f ≤ (i + 1) * r → n ≡ (i + 1) * r - w - f
      → tails_at r rows (linked rows u f n found) ≡ step w u i (nodes_from rows f ((i + 1) * r - f)) (tails_at r rows found)
  unfolding linked
  tails-linked w u found zero f le h e =
      rw (leaves-few w u (nodes_from rows f ((i + 1) * r - f))
      (omega (arith, length-nodes rows f ((i + 1) * r - f) (omega arith))))
  tails-linked w u found (suc n) f le h e =
      let one : (i + 1) * r - f ≡ suc ((i + 1) * r - suc f) = omega arith in
      rw (one, nodes-next rows f ((i + 1) * r - suc f) (omega arith))
      (go (eqb u (get_or rows f 0)) refl (tails-linked w u found n (suc f) (omega arith) (omega arith) (omega arith)))
    where
      go : (b : Bool) → eqb u (get_or rows f 0) ≡ b
          → tails_at r rows (linked rows u (suc f) n found)
          ≡ step w u i (nodes_from rows (suc f) ((i + 1) * r - suc f)) (tails_at r rows found)
          → tails_at r rows (linked rows u (suc f) n (cond b (f ∷ found) found))
          ≡ step w u i (get_or rows f 0 ∷ nodes_from rows (suc f) ((i + 1) * r - suc f)) (tails_at r rows found)
      go true b ih =
          let same = eqb-true u (get_or rows f 0) b in
          ap (tails_at r rows) (linked-none rows u (suc f) n (f ∷ found) (none_after f n le (omega arith) u same))
          ∙ ap (λ (t : Tail). t ∷ tails_at r rows found) (tail-here f le (omega arith))
          ∙ sym (step-here w u i (nodes_from rows (suc f) ((i + 1) * r - suc f)) (tails_at r rows found)
          (omega (arith, length-nodes rows (suc f) ((i + 1) * r - suc f) (omega arith))))
          ∙ ap (λ (a : ℕ). step w u i (a ∷ nodes_from rows (suc f) ((i + 1) * r - suc f)) (tails_at r rows found)) same
      go false b ih =
          ih
          ∙ sym (step_other w u (get_or rows f 0) i (nodes_from rows (suc f) ((i + 1) * r - suc f)) (tails_at r rows found) b)
