-- `worst_code::rows::fewest_usable` meets its contract. Assumes nothing.
use Prim.Native.Nat.{ℕ}
use native.Mathlib.Omega.{arith}
use mathlib.Core.Path.{◌∙◌, ap}
use lib.ListN.{length, length-replicate}
use Rattle.worst.proofs.Filling.{bytes_most}
use Rattle.worst.proofs.Whole.{zeros-part, to_start, searched-rows}
use Rattle.worst_code.proofs.rows.fewest_usable.Goals as goal

pub list_records-requires : goal.list_records-requires
list_records-requires c =
    record { rows_len = (c.requires.rows_asked.whole, c.requires.rows_asked.r-most, c.requires.rows_asked.b-most); rows_in_bounds = omega (arith, length-replicate {A = ℕ} 20_737 0, c.requires.rows_asked.whole, bytes_most c.args.order.b c.args.shape.r c.requires.rows_asked.b-most c.requires.rows_asked.r-most) }

pub most_records-most-requires : goal.most_records-most-requires
most_records-most-requires c =
    record { in_bounds = c.list_records.ensures.all-nodes; by_index = c.list_records.ensures.ordered }

pub search-requires : goal.search-requires
search-requires c =
    record {
      searching = to_start c.requires.rows_asked c.list_records.ensures (zeros-part c.args.order.b 4_096 c.requires.rows_asked.b-most)
          (omega (arith, length-replicate {A = ℕ} 256 0, c.requires.rows_asked.k-most, c.requires.rows_asked.n-most)) c.requires.k_in_bounds;
      light = c.most_records-most.ensures;
    }

pub returns : goal.returns
returns c =
    searched-rows c.requires.rows_asked c.list_records.ensures
    (ap length (zeros-part c.args.order.b 4_096 c.requires.rows_asked.b-most) ∙ length-replicate {A = ℕ} c.args.order.b 0)
    c.search.auto.out c.requires.k_in_bounds c.search.ensures
