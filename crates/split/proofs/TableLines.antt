-- The table's lines: they rise, and each makes the next. Assumes nothing.
use Prim.Native.Nat.{ℕ, suc, ◌+◌, ◌-◌, ◌≤◌, ◌<◌, zero-le}
use native.Mathlib.Nat.{le_of_eq}
use native.Mathlib.Omega.{arith}
use mathlib.Core.Path.{◌≡◌, refl, ap}
use mathlib.Core.Bool.{Bool, true, false}
use mathlib.Core.List.{List}
use lib.ListN.{length, get_or, get_or-eq_default}
use lib.Dec.{ltb}
use borrow.Author.Tests.{ltb-true, ltb-false}
use Rattle.lists.proofs.UpTo.{get_d-map-up_to, length-map-up_to, map-up_to-congr}
use Rattle.layers.specs.declared.LayerHead.{LayerHead}
use Rattle.placement.specs.declared.Rule.TheVariants.{NestedFloors}
use Rattle.split.specs.Splits.{no_split, loss_of, least_loss, last_least, best_count}
use Rattle.split.specs.Table.{sum_at, line_above, table_line, Rising}
use Rattle.split.proofs.Congruence.{least-congr, last_least-congr}
use Rattle.split.proofs.LeastLoss.{loss_at, least_loss-no-records}
use Rattle.split.proofs.Bounds.{least_loss-le-no_split, least_loss-mono}

module _ (layers : List LayerHead) (s k w : ℕ) where
  pub length-table_line : (x : ℕ) → length (table_line layers s k w x) ≡ w
  length-table_line x = length-map-up_to (least_loss NestedFloors layers s k x) w

  pub get_d-table_line : (x i : ℕ) → i < w → get_or (table_line layers s k w x) i 0 ≡ least_loss NestedFloors layers s k x i
  get_d-table_line x i h = get_d-map-up_to (least_loss NestedFloors layers s k x) w i 0 h

  -- past the line's end too
  table_line-le : (x i n : ℕ) → least_loss NestedFloors layers s k x i ≤ n → get_or (table_line layers s k w x) i 0 ≤ n
  table_line-le x i n l = go (ltb i w) refl
    where
      go : (t : Bool) → ltb i w ≡ t → get_or (table_line layers s k w x) i 0 ≤ n
      go true h = rw (get_d-table_line x i (ltb-true i w h)) l
      go false h =
          let g = ltb-false i w h in
          let e = length-table_line x in
          rw (get_or-eq_default (table_line layers s k w x) 0 {n = i} (omega arith)) zero-le

  pub rising-table_line : (x : ℕ) → Rising (table_line layers s k w x)
  rising-table_line x =
      record {
        first = let h = table_line-le x 0 0 (le_of_eq (least_loss-no-records NestedFloors layers s k x)) in omega arith;
        marked = λ i. table_line-le x i no_split (least_loss-le-no_split NestedFloors layers s k x i);
        rising = λ i j h l.
            let e = length-table_line x in
            rw (get_d-table_line x i (omega arith), get_d-table_line x j (omega arith)) (least_loss-mono NestedFloors layers s k x i j h);
      }

  -- the sums of which an entry is the least
  sum_at-table_line : (x b c : ℕ) → b < w → sum_at (loss_of NestedFloors layers s k x) (table_line layers s k w x) b c ≡ loss_at NestedFloors layers s k x b c
  sum_at-table_line x b c h = ap (λ n. loss_of NestedFloors layers s k x c + n) (get_d-table_line x (b - c) (omega arith))

  pub line_above-table_line : (x : ℕ) → line_above (loss_of NestedFloors layers s k x) (table_line layers s k w x) ≡ table_line layers s k w (suc x)
  unfolding least_loss
  line_above-table_line x =
      rw (length-table_line x)
      (map-up_to-congr _ _ w (λ b h. least-congr _ _ b (λ c l. sum_at-table_line x b c h)))

  -- "the largest c": the count of layer x
  pub best-table_line : (x left : ℕ) → left < w
      → last_least (sum_at (loss_of NestedFloors layers s k x) (table_line layers s k w x) left) left ≡ best_count NestedFloors layers s k x left
  unfolding best_count
  best-table_line x left h = last_least-congr _ _ left (λ c l. sum_at-table_line x left c h)
