-- A walk through the rows that links what leaves w nodes in each: the chains of the first level. Assumes nothing.
use Prim.Native.Nat.{ℕ, suc, ◌+◌, ◌-◌, ◌*◌, ◌/◌, ◌≤◌, ◌<◌}
use mathlib.Core.Path.{◌≡◌, sym, ap, ◌∙◌}
use mathlib.Core.List.{List, [], ◌∷◌}
use native.Mathlib.Nat.{mul-le-mul_right, sub-zero, div-lt_iff_lt-mul}
use native.Mathlib.Numerals.{add-one}
use native.Mathlib.Omega.{arith}
use lib.ListN.{length, take, drop}
use lib.Seq.{drop-drop}
use Rattle.lists.specs.Lists.{All}
use Rattle.lists.proofs.Alls.{all-imp}
use Rattle.packing.specs.Rows.{rows_at}
use Rattle.crowding.specs.Tails.{Tail, tails_after, row_tails}
use Rattle.crowding.specs.Chains.{tails_at, chain, Outside, Apart, Ascends, AtMost, Fresh, AllChained, Linked}
use Rattle.crowding.proofs.Follow.{chain-empty}
use Rattle.crowding.proofs.Rows.{in_row, nodes_from, step}
use Rattle.crowding.proofs.RowLinks.{RowLinked, chain-elim, chain-tails, chain-placed, chain-longer}

-- the tails of the rows from row i on, which begins at `start`
abbrev tails_from : (rows : List ℕ) (r c i start : ℕ) → List Tail
tails_from rows r c i start = row_tails i (rows_at r (c - i) (drop start rows))

-- the level when the rows before row i are linked; `goal` is what comes of it
pub record Root (r w c : ℕ) (rows : List ℕ) (goal : ℕ → List Tail) (heads counts next : List ℕ) (i start : ℕ) : Type 0 where
  pub chained : AllChained r rows heads counts next
  pub earlier : (u : ℕ) → All (λ q. q < start) (chain heads counts next u)
  pub grown : (u : ℕ) → tails_after w u (tails_from rows r c i start) (tails_at r rows (chain heads counts next u)) ≡ goal u

tails-from-next : (rows : List ℕ) (r c i start : ℕ) → i < c
    → tails_from rows r c i start ≡ record { row = i; nodes = take r (drop start rows) } ∷ tails_from rows r c (i + 1) (start + r)
unfolding rows_at row_tails
tails-from-next rows r c i start lt =
    let e : c - i ≡ suc (c - (i + 1)) = omega arith in
    rw (e, add-one i, ← drop-drop r start rows)

-- row i of c is whole
pub row-whole : (r c : ℕ) (rows : List ℕ) (i : ℕ) → length rows ≡ c * r → i < c → (i + 1) * r ≤ length rows
row-whole r c rows i all lt = omega (arith, mul-le-mul_right {m = i + 1} {n = c} r (omega arith))

pub root-start : {r w c : ℕ} {rows heads counts next : List ℕ} → AtMost 0 counts
    → Root r w c rows (λ u. tails_after w u (row_tails 0 (rows_at r c rows)) []) heads counts next 0 0
root-start {c = c} {heads = heads} {counts = counts} {next = next} none = record {
  chained = λ u. rw (chain-empty heads counts next u (none u)) (tt, tt);
  earlier = λ u. rw (chain-empty heads counts next u (none u)) tt;
  grown = λ u. rw (chain-empty heads counts next u (none u), sub-zero c);
}

module _ {r w c : ℕ} {rows : List ℕ} {goal : ℕ → List Tail} {heads counts next : List ℕ} {i start : ℕ}
    (root : Root r w c rows goal heads counts next i start) where
  pub root-end : c ≤ i → (u : ℕ) → tails_at r rows (chain heads counts next u) ≡ goal u
  unfolding rows_at row_tails tails_after
  root-end h u =
      let e : c - i ≡ 0 = omega arith in
      rw e at (root.grown u)

  pub root-fresh : Fresh start (start + r - w) heads counts next
  root-fresh u =
      all-imp (λ q. q < start) (Outside start (start + r - w)) (λ q lt le. absurd (omega arith)) (chain heads counts next u)
      (root.earlier u)

  -- row i is linked
  module _ (pos : 0 < r) (order : Ascends r rows) (all : length rows ≡ c * r) (more : i < c) (at : start ≡ i * r)
      (heads' counts' next' : List ℕ) (link : Linked rows start (start + r - w - start) heads counts next heads' counts' next') where
    linked : RowLinked rows r w i start heads counts next heads' counts' next'
    linked = record {
      whole = row-whole r c rows i all more;
      order = order;
      after = omega arith;
      within = omega arith;
      link =
          let e : start + r ≡ (i + 1) * r = omega arith in
          rw e at link;
    }

    -- a position before the row is in another row
    apart : (q s : ℕ) → start ≤ q → q < (i + 1) * r → s < start → s / r ≡ q / r → ⊥
    apart q s le lt before e =
        let row = in_row rows r i linked.whole order q (omega arith) lt in
        let less : s / r < i = (div-lt_iff_lt-mul {k = r} {x = s} {y = i} pos).1 (omega arith) in
        omega arith

    on : (u : ℕ) → All (λ q. q < start + r) (chain heads counts next u)
    on u = all-imp (λ q. q < start) (λ q. q < start + r) (λ q lt. omega arith) (chain heads counts next u) (root.earlier u)

    same : (u : ℕ) → step w u i (nodes_from rows start ((i + 1) * r - start)) (tails_at r rows (chain heads counts next u))
        ≡ step w u i (take r (drop start rows)) (tails_at r rows (chain heads counts next u))
    same u =
        let e : (i + 1) * r - start ≡ r = omega arith in
        rw e

    pub root-next : Root r w c rows goal heads' counts' next' (i + 1) (start + r)
    unfolding tails_after
    root-next = record {
      chained = λ u. (
        chain-placed linked u (root.chained u).0,
        chain-elim linked (Apart r) u (root.chained u).1
            (λ q le lt e.
            (all-imp (λ s. s < start) (λ s. s / r ≡ q / r → ⊥) (λ s. apart q s le lt) (chain heads counts next u) (root.earlier u), (root.chained u).1)),
      );
      earlier = λ u. chain-elim linked (All (λ q. q < start + r)) u (on u) (λ q le lt e. (omega arith, on u));
      grown = λ u. ap (tails_after w u (tails_from rows r c (i + 1) (start + r))) (chain-tails linked u ∙ same u)
          ∙ ap (λ (ts : List Tail). tails_after w u ts (tails_at r rows (chain heads counts next u))) (sym (tails-from-next rows r c i start more))
          ∙ root.grown u;
    }

    pub root-longer : (k : ℕ) → AtMost k counts → AtMost (k + 1) counts'
    root-longer = chain-longer linked
