-- `placement_code::records::check_records` meets its contract: kind 6 is checked apart, and every other kind as its rows are. Assumes nothing.
use mathlib.Core.Path.{◌∙◌}
use borrow.Author.Tests.{ne_eqb}
use Rattle.placement_code.proofs.Unfed.{unfed-answer, unfed-good}
use Rattle.placement_code.proofs.records.check_records.Goals as goal

pub check_fed-records-requires : goal.check_fed-records-requires
check_fed-records-requires c = c.requires

pub returns-then-kind-eq6 : goal.returns-then-kind-eq6
returns-then-kind-eq6 c = record { records_value = rw c.if-kind-eq6.true c.check_fed-records.ensures; load_value = λ good unfed some. absurd (unfed c.if-kind-eq6.true) }

pub check_rows-rows-requires : goal.check_rows-rows-requires
check_rows-rows-requires c =
    let p = c.requires in
    record { layers_le_r = (p.rows.few, p.rows.r-most, p.inside); heads_bound = p.rows.rows-most; dark_fits = p.dark }

pub returns : goal.returns
returns c =
    record {
      records_value =
          c.without_feeders.ensures ∙ unfed-answer _ _ _ _ _ _ (ne_eqb _ 6 c.if-kind-eq6.false) c.check_rows-rows.ensures.verdict_value;
      load_value = λ good unfed. c.check_rows-rows.ensures.loaded (unfed-good _ (rw c.without_feeders.ensures at good));
    }
