-- `feeders_packings::check_feeders` meets its contract, over the rows of feeders that are put into the buffer and their tests. Assumes
-- nothing.
use Prim.Native.Nat.{ℕ, ◌+◌, ◌*◌, ◌≤◌}
use native.Mathlib.Omega.{arith}
use mathlib.Core.Path.{sym, ◌∙◌, ap}
use lib.ListN.{length, length-replicate}
use Rattle.layers.proofs.Listing.{length-nodes_array}
use Rattle.crowding_code.proofs.AllRows.{rows-small}
use Rattle.feeders_packings.proofs.UnitAnswers.{feeders-checked, nodes-below-255}
use Rattle.feeders_packings.proofs.check_feeders.Goals as goal

pub count_rows-rows-requires : goal.count_rows-rows-requires
count_rows-rows-requires c =
    let p = c.requires.rows in
    (omega (arith, p.few, p.r-most), p.rows-most)

pub put_feeders-requires : goal.put_feeders-requires
put_feeders-requires c =
    let p = c.requires in
    let entries = ap (λ t. length t.each) p.fits.is ∙ length-nodes_array p.fits.feeders.each in
    record {
      r_in_bounds = (
        ((let fits-here : (c.count_rows-rows.result * c.args.r ≤ 20480) × (c.args.at + c.count_rows-rows.result * c.args.r ≤ length c.args.bytes.now) × (c.args.at ≤ 1092) = let p = c.requires in
            let few = p.rows.rows-most in
            let bytes = ap (λ rows. rows * c.args.r) c.count_rows-rows.ensures in
            (rows-small (omega arith) p.rows.r-most, omega (arith, p.inside), p.rows.start-most) in fits-here)).1,
        omega (
          arith,
          (let fits-here : (c.count_rows-rows.result * c.args.r ≤ 20480) × (c.args.at + c.count_rows-rows.result * c.args.r ≤ length c.args.bytes.now) × (c.args.at ≤ 1092) = let p = c.requires in
              let few = p.rows.rows-most in
              let bytes = ap (λ rows. rows * c.args.r) c.count_rows-rows.ensures in
              (rows-small (omega arith) p.rows.r-most, omega (arith, p.inside), p.rows.start-most) in fits-here),
          length-replicate {A = ℕ} 21_572 0,
        ),
        entries,
      );
      all = nodes-below-255 p c.count_rows-rows.ensures;
    }

pub slice_bounds-check_units-end : goal.slice_bounds-check_units-end
slice_bounds-check_units-end c = sym (c.put_feeders.ensures.long ∙ length-replicate {A = ℕ} 21_572 0)

pub check_units-requires : goal.check_units-requires
check_units-requires c =
    let p = c.requires in
    let bytes = rows-small p.rows.rows-most p.rows.r-most in
    let long = c.put_feeders.ensures.long ∙ length-replicate {A = ℕ} 21_572 0 in
    record { rows_asked = p.rows; r_in_bounds = omega (arith, p.rows.start-most) }

pub returns : goal.returns
returns c =
    let p = c.requires in
    feeders-checked p c.count_rows-rows.ensures c.put_feeders.new.fed c.put_feeders.ensures.after c.put_feeders.ensures.stands
    c.check_units.ensures
