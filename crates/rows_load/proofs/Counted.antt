-- Counts of the bytes of rows as their load, and rows that are not in order. Assumes nothing.
use Prim.Native.Nat.{ℕ, ◌*◌, ◌≤◌}
use native.Mathlib.Nat.{sub-zero}
use native.Mathlib.Omega.{arith}
use mathlib.Core.Path.{◌≡◌, refl, ap, ◌∙◌}
use mathlib.Core.Bool.{true, false}
use mathlib.Core.List.{List}
use mathlib.Core.Option.{none, some}
use lib.Dec.{T}
use lib.ListN.{length, take}
use Rattle.lists.specs.Lists.{All, largest}
use Rattle.packing.specs.Rows.{is_in_order, rows_at, first_bad}
use Rattle.packing.specs.Load.{most}
use Rattle.packing.proofs.Load.{rows-ascend, take-node_counts, counts-of-nodes}
use Rattle.packing.proofs.Test.{good-iff-in-order}
use Rattle.rows_load.specs.Counts.{Counted, Ordered}

-- in rows in order each node is once in a row: the largest count of the first m nodes is their load
pub counted-load : (n m r c : ℕ) (rows counts : List ℕ) → length counts ≡ 256 → m ≤ 256 → All (λ row. T (is_in_order n row)) (rows_at r c rows)
    → Counted rows (c * r) counts → largest (take m counts) ≡ most m (rows_at r c rows)
counted-load n m r c rows counts len few good cs =
    ap (λ all. largest (take m all)) (counts-of-nodes rows c r counts len (rows-ascend n (rows_at r c rows) good) (rw (sub-zero (c * r)) cs))
    ∙ ap largest (take-node_counts r c m rows few)

module _ {n r c : ℕ} {rows : List ℕ} where
  -- a bad row was found
  pub unordered : {j load : ℕ} → first_bad n (rows_at r c rows) ≡ some j → Ordered n r c rows false load
  unordered bad =
      record {
        in_order = λ e. absurd (let z : ◌≡◌ {A = ℕ} 0 1 = cc in omega arith);
        loaded = λ all. absurd (let is = (good-iff-in-order n (rows_at r c rows)).1 all in let z : ◌≡◌ {A = ℕ} 0 1 = cc in omega arith);
      }

  -- none was found
  pub ordered : {load : ℕ} → first_bad n (rows_at r c rows) ≡ none
      → (All (λ row. T (is_in_order n row)) (rows_at r c rows) → load ≡ most 256 (rows_at r c rows)) → Ordered n r c rows true load
  ordered bad is = record { in_order = λ e. (good-iff-in-order n (rows_at r c rows)).0 bad; loaded = λ all. (refl, is all) }
