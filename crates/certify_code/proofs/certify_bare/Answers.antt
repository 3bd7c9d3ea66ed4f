-- `certify_code::certify_bare` meets its contract: 11, or the placement in the layer that is chosen. Assumes nothing.
use mathlib.Core.Path.{◌≡◌}
use lib.ListN.{length}
use Rattle.refusal.specs.Checked.{accepted}
use Rattle.refusal.proofs.Checked.{verdict-refused}
use Rattle.planner.specs.Planning.{check_output}
use Rattle.planner.proofs.Checks.{passed, output-long}
use Rattle.certify.specs.Asked.{held_bare}
use Rattle.certify.specs.Bare.{Bare}
use Rattle.certify.proofs.Writing.{rows-asked, order-asked, taken-below, refused-done, output-refused, certified-done, choice-layer}
use Rattle.certify_code.proofs.certify_bare.Goals as goal

pub check_output-bytes-requires : goal.check_output-bytes-requires
check_output-bytes-requires c =
    let p = c.requires in
    ((rows-asked p).few, (rows-asked p).r-most)

pub returns-in-Err : goal.returns-in-Err
returns-in-Err c =
    refused-done _ (output-refused _ _ (verdict-refused _ c.check_output-bytes.ensures c.in-Err.is)) c.refuse.ensures

pub choose_layer-choice-requires : goal.choose_layer-choice-requires
choose_layer-choice-requires c = let p = c.requires in record { rows_asked = rows-asked p; order_asked = order-asked p }

pub write_in-requires : goal.write_in-requires
write_in-requires c =
    let p = c.requires in
    let (layer, lambda) = choice-layer ((let bare_of-here : Bare = held_bare c.args.base c.args.order c.args.rows.now in bare_of-here)) c.choose_layer-choice.ensures in
    record { bare_held = p; layer_lt_s = (rw layer (taken-below p), lambda); r_in_bounds = output-long _ _ _ ((let enough-here : check_output c.args.order.b c.args.base.r (length c.args.out.now) ≡ accepted tt = passed _ c.check_output-bytes.ensures c.in_default.is in enough-here)) }

pub returns : goal.returns
returns c =
    let (layer, lambda) = choice-layer ((let bare_of-here : Bare = held_bare c.args.base c.args.order c.args.rows.now in bare_of-here)) c.choose_layer-choice.ensures in
    certified-done ((let bare_of-here : Bare = held_bare c.args.base c.args.order c.args.rows.now in bare_of-here)) ((let enough-here : check_output c.args.order.b c.args.base.r (length c.args.out.now) ≡ accepted tt = passed _ c.check_output-bytes.ensures c.in_default.is in enough-here)) layer c.write_in.ensures
