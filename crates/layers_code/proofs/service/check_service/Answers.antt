-- `layers_code::service::check_service` meets its contract, over the first row that names a node out of service. Assumes nothing.
use Prim.Native.Nat.{◌-◌}
use Rattle.std.specs.Prelude.{Err}
use native.Mathlib.Omega.{arith}
use mathlib.Core.Path.{◌≡◌, ◌∙◌, ap}
use lib.ListN.{length, take, drop}
use Rattle.lists.proofs.Writing.{take-drop-rest}
use Rattle.refusal.specs.declared.Refusal.TheVariants.{OutOfService}
use Rattle.layers.specs.Layers.{names, first_naming, check_service}
use Rattle.layers.specs.Answers.{dark_list}
use Rattle.layers_code.proofs.FirstRow.{row-place, row-refused, no_row}
use Rattle.layers_code.proofs.service.check_service.Goals as goal

pub row_start-requires : goal.row_start-requires
unfolding first_naming
row_start-requires c =
    let place = row-place OutOfService (names (dark_list c.args.base.dark)) c.args.base.r c.args.bytes.now c.args.at c.args.rows _ ((let part-here : take (length c.args.bytes.now - c.args.at) (drop c.args.at c.args.bytes.now) ≡ drop c.args.at c.args.bytes.now = take-drop-rest c.args.bytes.now c.args.at in part-here)) _ c.first_naming-naming.ensures
    c.in-Some.is in
    omega (arith, c.requires.r_in_bounds, c.well_formed.0)

pub returns-in-Some : goal.returns-in-Some
unfolding first_naming check_service
returns-in-Some c =
    ap (λ place. Err (OutOfService place)) c.row_start.ensures
    ∙ row-refused OutOfService (names (dark_list c.args.base.dark)) c.args.base.r c.args.bytes.now c.args.at c.args.rows _ ((let part-here : take (length c.args.bytes.now - c.args.at) (drop c.args.at c.args.bytes.now) ≡ drop c.args.at c.args.bytes.now = take-drop-rest c.args.bytes.now c.args.at in part-here)) _ c.first_naming-naming.ensures
    c.in-Some.is

pub returns : goal.returns
unfolding first_naming check_service
returns c =
    no_row OutOfService (names (dark_list c.args.base.dark)) c.args.base.r c.args.bytes.now c.args.at c.args.rows _ ((let part-here : take (length c.args.bytes.now - c.args.at) (drop c.args.at c.args.bytes.now) ≡ drop c.args.at c.args.bytes.now = take-drop-rest c.args.bytes.now c.args.at in part-here)) _ c.first_naming-naming.ensures c.in_default.is
