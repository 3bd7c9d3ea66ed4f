-- The rows of feeders in their buffer: its first b × r bytes. Assumes nothing.
use Prim.Native.Nat.{ℕ, ◌*◌, ◌-◌, ◌≤◌, ◌<◌}
use native.Mathlib.Omega.{arith}
use mathlib.Core.Path.{◌≡◌, ◌∙◌, ap, subst}
use mathlib.Core.List.{List, ◌++◌}
use lib.ListN.{length, take}
use lib.Seq.{take_all, take-append_seam}
use Rattle.lists.specs.Lists.{All}
use Rattle.packing.specs.Rows.{rows_at}
use Rattle.placement.specs.declared.FeederTable.{FeederTable}
use Rattle.placement.specs.declared.Order.{Order}
use Rattle.placement.specs.Answers.{rows_by_table}
use Rattle.worst.specs.Records.{IndexOf}
use Rattle.worst.specs.Asked.{FeedersAsked}
use Rattle.worst.proofs.Filling.{bytes_most}

module _ {table : FeederTable} {r : ℕ} {order : Order} {rows : List ℕ} (p : FeedersAsked table r order rows) where
  pub few_bytes : order.b * r ≤ 20_480
  few_bytes = bytes_most order.b r p.asked.b-most p.asked.r-most

  pub rows-below : All (λ v. v < 255) (take (order.b * r) rows)
  rows-below = rw (take_all (order.b * r) rows (omega (arith, p.inside))) p.below

  module _ {fed : List ℕ} (after : List ℕ) (is : fed ≡ rows_by_table table.each r order.b rows ++ after) where
    fed-part : take (order.b * r - 0) fed ≡ rows_by_table table.each r order.b rows
    fed-part =
        let fed_rows = rows_by_table table.each r order.b rows in
        let same : order.b * r - 0 ≡ length fed_rows = omega (arith, p.asked.whole) in
        rw is (ap (λ n. take n (fed_rows ++ after)) same ∙ take-append_seam fed_rows after)

    pub fed-long : length (take (order.b * r - 0) fed) ≡ order.b * r
    fed-long = ap length fed-part ∙ p.asked.whole

    pub fed-index : {index : List ℕ} → IndexOf (rows_at r order.b (take (order.b * r - 0) fed)) index
        → IndexOf (rows_at r order.b (rows_by_table table.each r order.b rows)) index
    fed-index {index} h = subst (λ l. IndexOf (rows_at r order.b l) index) fed-part h
