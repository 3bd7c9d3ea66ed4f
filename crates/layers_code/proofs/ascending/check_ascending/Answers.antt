-- `layers_code::ascending::check_ascending` meets its contract, over the first bad row that is found. Assumes nothing.
use Prim.Native.Nat.{◌-◌}
use Rattle.std.specs.Prelude.{Err}
use native.Mathlib.Omega.{arith}
use mathlib.Core.Path.{◌≡◌, ◌∙◌, ap}
use mathlib.Core.Bool.{not}
use lib.ListN.{length, take, drop, length-drop}
use Rattle.lists.proofs.Writing.{take-drop-rest}
use Rattle.refusal.specs.declared.Refusal.TheVariants.{BadRow}
use Rattle.packing.specs.Rows.{is_in_order, first_bad}
use Rattle.layers.specs.Layers.{check_ascending}
use Rattle.layers_code.proofs.FirstRow.{row-place, row-refused, no_row}
use Rattle.layers_code.proofs.ascending.check_ascending.Goals as goal

pub first_bad-bad-requires : goal.first_bad-bad-requires
first_bad-bad-requires c =
    let a = c.args in
    let part : take (length a.bytes.now - a.at) (drop a.at a.bytes.now) ≡ drop a.at a.bytes.now = take-drop-rest a.bytes.now a.at in
    record {
      r_in_bounds = rw (part, length-drop a.at a.bytes.now) (omega (arith, c.requires.r_in_bounds));
      start_le_c = c.requires.start_le_rows;
      all = rw part c.requires.all;
    }

pub row_start-requires : goal.row_start-requires
unfolding first_bad
row_start-requires c =
    let place = row-place BadRow (λ row. not (is_in_order c.args.base.n row)) c.args.base.r c.args.bytes.now c.args.at c.args.rows _ ((let part-here : take (length c.args.bytes.now - c.args.at) (drop c.args.at c.args.bytes.now) ≡ drop c.args.at c.args.bytes.now = take-drop-rest c.args.bytes.now c.args.at in part-here)) _ c.first_bad-bad.ensures
    c.in-Some.is in
    omega (arith, c.requires.r_in_bounds, c.well_formed.0)

pub returns-in-Some : goal.returns-in-Some
unfolding first_bad check_ascending
returns-in-Some c =
    ap (λ place. Err (BadRow place)) c.row_start.ensures
    ∙ row-refused BadRow (λ row. not (is_in_order c.args.base.n row)) c.args.base.r c.args.bytes.now c.args.at c.args.rows _ ((let part-here : take (length c.args.bytes.now - c.args.at) (drop c.args.at c.args.bytes.now) ≡ drop c.args.at c.args.bytes.now = take-drop-rest c.args.bytes.now c.args.at in part-here)) _ c.first_bad-bad.ensures
    c.in-Some.is

pub returns : goal.returns
unfolding first_bad check_ascending
returns c =
    no_row BadRow (λ row. not (is_in_order c.args.base.n row)) c.args.base.r c.args.bytes.now c.args.at c.args.rows _ ((let part-here : take (length c.args.bytes.now - c.args.at) (drop c.args.at c.args.bytes.now) ≡ drop c.args.at c.args.bytes.now = take-drop-rest c.args.bytes.now c.args.at in part-here)) _ c.first_bad-bad.ensures c.in_default.is
