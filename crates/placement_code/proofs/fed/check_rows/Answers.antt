-- `placement_code::fed::check_rows` meets its contract: each return is a case of `fed_rows_checked`. Assumes nothing.
use Prim.Native.Nat.{◌+◌, ◌*◌, ◌≤◌}
use native.Mathlib.Omega.{arith}
use mathlib.Core.Path.{◌∙◌, ap}
use Rattle.refusal.proofs.Answered.{passed-on}
use lib.ListN.{length}
use Rattle.packing.specs.Rows.{rows_at}
use Rattle.placement.specs.Asked.{table_feeders}
use Rattle.placement_code.proofs.FedAnswers.{fed-unordered, fed-rows, fed-dark, fed-left}
use borrow.Author.Rules.{rules}
use Rattle.placement_code.proofs.fed.check_rows.Goals as goal

pub count_rows-rows-requires : goal.count_rows-rows-requires
count_rows-rows-requires c =
    let p = c.requires.rows in
    (omega (arith, p.few, p.r-most), p.rows-most)

pub check_ascending-requires : goal.check_ascending-requires
unfolding rows_at
check_ascending-requires c = record {
  r_in_bounds = (let fits-here : c.args.at + c.count_rows-rows.result * c.args.base.r ≤ length c.args.bytes.now = let bytes = ap (λ rows. rows * c.args.base.r) c.count_rows-rows.ensures in
      omega (arith, c.requires.inside) in fits-here);
  start_le_rows = search rules;
  all = tt;
}

pub returns-in_err-check_ascending : goal.returns-in_err-check_ascending
returns-in_err-check_ascending c =
    passed-on _ c.from_residual.ensures.1
    ∙ fed-unordered _ _ _ _ _ c.count_rows-rows.ensures (table_feeders c.args.table) _ c.check_ascending.ensures c.in_err-check_ascending.was

pub check_service-requires : goal.check_service-requires
check_service-requires c =
    record {
      r_in_bounds = (let fits-here : c.args.at + c.count_rows-rows.result * c.args.base.r ≤ length c.args.bytes.now = let bytes = ap (λ rows. rows * c.args.base.r) c.count_rows-rows.ensures in
          omega (arith, c.requires.inside) in fits-here);
      dark_fits = c.requires.dark;
    }

pub returns-in_err-check_service : goal.returns-in_err-check_service
returns-in_err-check_service c =
    passed-on _ c.from_residual-in_err-check_service.ensures.1
    ∙ fed-dark _ _ _ _ _ c.count_rows-rows.ensures (table_feeders c.args.table) _ c.check_ascending.ensures c.in_ok-check_ascending.was _
    c.check_service.ensures c.in_err-check_service.was

pub check_feeders-requires : goal.check_feeders-requires
check_feeders-requires c =
    let p = c.requires in
    record {
      rows = p.rows;
      inside = p.inside;
      n = c.args.base.n;
      k = p.k;
      n-most = p.n-most;
      fits = p.fits;
      are =
          fed-rows _ _ _ _ _ c.count_rows-rows.ensures (table_feeders c.args.table) _ c.check_ascending.ensures c.in_ok-check_ascending.was p.inside;
    }

pub returns : goal.returns
returns c =
    fed-left _ _ _ _ _ c.count_rows-rows.ensures (table_feeders c.args.table) _ c.check_ascending.ensures c.in_ok-check_ascending.was _
    c.check_service.ensures c.in_ok-check_service.was c.check_feeders.ensures
