-- `crowding_pairs::rows::most_pairs` meets its contract: the largest cell of a table that was all zeros. Assumes nothing.
use Prim.Native.Nat.{ℕ}
use native.Mathlib.Omega.{arith}
use mathlib.Core.Path.{◌∙◌}
use lib.ListN.{length-replicate}
use borrow.Author.Rules.{rules}
use Rattle.packing.specs.Rows.{rows_at}
use Rattle.crowding.proofs.Follow.{at-most-zero}
use Rattle.crowding_pairs.specs.Codes.{coded_rows}
use Rattle.crowding_pairs.proofs.Turns.{most-is}
use Rattle.crowding_pairs.proofs.rows.most_pairs.Goals as goal

pub count_all-requires : goal.count_all-requires
count_all-requires c =
    record {
      fit = c.requires;
      empty = record {
        cells = search rules;
        none = at-most-zero 32896;
      };
    }

pub returns : goal.returns
returns c =
    let a = c.args in
    c.from.ensures
    ∙ c.most_of.ensures
    ∙ most-is (λ p. coded_rows p (rows_at a.r a.c a.rows.now)) 32896 c.count_all.new.table (c.count_all.ensures.same ∙ length-replicate {A = ℕ} 32896 0)
    (λ p. omega (arith, c.count_all.ensures.cell p, at-most-zero 32896 p))
