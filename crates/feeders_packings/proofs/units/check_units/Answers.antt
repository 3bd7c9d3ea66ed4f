-- `feeders_packings::units::check_units` meets its contract, over the first row that does not ascend and the packing test. Assumes nothing.
use Prim.Native.Nat.{◌+◌, ◌*◌, ◌-◌, ◌≤◌}
use Rattle.std.specs.Prelude.{Err}
use native.Mathlib.Omega.{arith}
use mathlib.Core.Path.{◌≡◌, ◌∙◌, ap}
use lib.ListN.{length, take, drop, length-drop}
use Rattle.lists.proofs.Writing.{take-drop-rest}
use Rattle.refusal.specs.declared.Refusal.TheVariants.{SharedFeeder}
use Rattle.packing.specs.Rows.{rows_at}
use Rattle.crowding_code.proofs.AllRows.{rows-small}
use Rattle.feeders_packings.proofs.UnitAnswers.{shared-place, shared-refused, units-ascend, units-left}
use borrow.Author.Rules.{rules}
use Rattle.feeders_packings.proofs.units.check_units.Goals as goal

pub count_rows-rows-requires : goal.count_rows-rows-requires
count_rows-rows-requires c =
    (omega (arith, c.requires.rows_asked.few, c.requires.rows_asked.r-most), c.requires.rows_asked.rows-most)

pub slice_bounds-first_bad-count : goal.slice_bounds-first_bad-count
slice_bounds-first_bad-count c = omega (
  arith,
  (let fits-here : (c.count_rows-rows.result * c.args.r ≤ 20480) × (c.args.at + c.count_rows-rows.result * c.args.r ≤ length c.args.fed.now) × (c.args.at ≤ 1092) = let few = c.requires.rows_asked.rows-most in
      let bytes = ap (λ rows. rows * c.args.r) c.count_rows-rows.ensures in
      (rows-small (omega arith) c.requires.rows_asked.r-most, omega (arith, c.requires.r_in_bounds), c.requires.rows_asked.start-most) in fits-here),
)

pub first_bad-shared-requires : goal.first_bad-shared-requires
unfolding rows_at
first_bad-shared-requires c =
    record {
      r_in_bounds = rw ((let part-here : take (length c.args.fed.now - c.args.at) (drop c.args.at c.args.fed.now) ≡ drop c.args.at c.args.fed.now = take-drop-rest c.args.fed.now c.args.at in part-here), length-drop c.args.at c.args.fed.now) (omega (
        arith,
        (let fits-here : (c.count_rows-rows.result * c.args.r ≤ 20480) × (c.args.at + c.count_rows-rows.result * c.args.r ≤ length c.args.fed.now) × (c.args.at ≤ 1092) = let few = c.requires.rows_asked.rows-most in
            let bytes = ap (λ rows. rows * c.args.r) c.count_rows-rows.ensures in
            (rows-small (omega arith) c.requires.rows_asked.r-most, omega (arith, c.requires.r_in_bounds), c.requires.rows_asked.start-most) in fits-here),
      ));
      start_le_c = search rules;
      all = tt;
    }

pub row_start-requires : goal.row_start-requires
row_start-requires c =
    let place = shared-place c.args.number c.args.r c.args.at _ (take c.args.layers c.args.heads) c.args.fed.now _ ((let part-here : take (length c.args.fed.now - c.args.at) (drop c.args.at c.args.fed.now) ≡ drop c.args.at c.args.fed.now = take-drop-rest c.args.fed.now c.args.at in part-here)) c.count_rows-rows.ensures _ c.first_bad-shared.ensures
    c.in-Some.is in
    omega (
      arith,
      (let fits-here : (c.count_rows-rows.result * c.args.r ≤ 20480) × (c.args.at + c.count_rows-rows.result * c.args.r ≤ length c.args.fed.now) × (c.args.at ≤ 1092) = let few = c.requires.rows_asked.rows-most in
          let bytes = ap (λ rows. rows * c.args.r) c.count_rows-rows.ensures in
          (rows-small (omega arith) c.requires.rows_asked.r-most, omega (arith, c.requires.r_in_bounds), c.requires.rows_asked.start-most) in fits-here),
    )

pub returns-in-Some : goal.returns-in-Some
returns-in-Some c =
    ap (λ place. Err (SharedFeeder place)) c.row_start.ensures
    ∙ shared-refused c.args.number c.args.r c.args.at _ (take c.args.layers c.args.heads) c.args.fed.now _ ((let part-here : take (length c.args.fed.now - c.args.at) (drop c.args.at c.args.fed.now) ≡ drop c.args.at c.args.fed.now = take-drop-rest c.args.fed.now c.args.at in part-here)) c.count_rows-rows.ensures _ c.first_bad-shared.ensures
    c.in-Some.is

pub first_load-load-requires : goal.first_load-load-requires
first_load-load-requires c =
    record {
      few = c.requires.rows_asked.few;
      r-most = c.requires.rows_asked.r-most;
      rows-most = c.requires.rows_asked.rows-most;
      within = c.requires.r_in_bounds;
      ordered = units-ascend c.args.number c.args.r c.args.at _ (take c.args.layers c.args.heads) c.args.fed.now _ ((let part-here : take (length c.args.fed.now - c.args.at) (drop c.args.at c.args.fed.now) ≡ drop c.args.at c.args.fed.now = take-drop-rest c.args.fed.now c.args.at in part-here)) c.count_rows-rows.ensures _ c.first_bad-shared.ensures c.in_default.is;
    }

pub check_packings-requires : goal.check_packings-requires
check_packings-requires c = record {
  packings_asked = record {
    few = c.requires.rows_asked.few;
    r-most = c.requires.rows_asked.r-most;
    rows-most = c.requires.rows_asked.rows-most;
    within = c.requires.r_in_bounds;
    ordered = units-ascend c.args.number c.args.r c.args.at _ (take c.args.layers c.args.heads) c.args.fed.now _ ((let part-here : take (length c.args.fed.now - c.args.at) (drop c.args.at c.args.fed.now) ≡ drop c.args.at c.args.fed.now = take-drop-rest c.args.fed.now c.args.at in part-here)) c.count_rows-rows.ensures _ c.first_bad-shared.ensures c.in_default.is;
  };
  counted = c.first_load-load.ensures;
}

pub returns : goal.returns
returns c =
    units-left c.args.number c.args.r c.args.at _ (take c.args.layers c.args.heads) c.args.fed.now _ ((let part-here : take (length c.args.fed.now - c.args.at) (drop c.args.at c.args.fed.now) ≡ drop c.args.at c.args.fed.now = take-drop-rest c.args.fed.now c.args.at in part-here)) c.count_rows-rows.ensures _ c.first_bad-shared.ensures c.in_default.is
    c.check_packings.ensures
