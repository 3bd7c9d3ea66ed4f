-- `pack_code::check_pack` meets its contract: each return is a case of `read_pack`, over what reading the numbers and checking
-- the blocks ensure. Assumes nothing.
use native.Mathlib.Omega.{arith}
use mathlib.Core.Path.{◌∙◌}
use Rattle.pack_code.proofs.Checking.{pack-base, blocks-asked, pack-no-base, pack-no-layers, pack-no-rows, pack-good}
use Rattle.pack_code.proofs.check_pack.Goals as goal

pub returns-in-Err : goal.returns-in-Err
returns-in-Err c = c.refuse.ensures ∙ pack-no-base _ c.read_base.ensures c.in-Err.is

pub read_layers-requires : goal.read_layers-requires
read_layers-requires c = (pack-base _ c.read_base.ensures c.in-Ok.is).held.limits.r-most

pub returns-in-Err-read_layers : goal.returns-in-Err-read_layers
returns-in-Err-read_layers c =
    c.refuse-in-Err-read_layers.ensures
    ∙ pack-no-layers _ c.read_base.ensures c.in-Ok.is c.read_layers.ensures c.in-Err-read_layers.is

pub check_rows-rows-requires : goal.check_rows-rows-requires
check_rows-rows-requires c =
    let base = pack-base _ c.read_base.ensures c.in-Ok.is in
    let asked = blocks-asked _ c.read_base.ensures c.in-Ok.is c.read_layers.ensures c.in-Ok-read_layers.is in
    record { layers_le_r = (omega arith, base.held.limits.r-most, asked.0); heads_bound = asked.1; dark_fits = base.fits }

pub returns-in-Err-rows_verdict : goal.returns-in-Err-rows_verdict
returns-in-Err-rows_verdict c =
    c.refuse-in-Err-rows_verdict.ensures
    ∙ pack-no-rows _ c.read_base.ensures c.in-Ok.is c.read_layers.ensures c.in-Ok-read_layers.is _ c.check_rows-rows.ensures.verdict_value
    c.in-Err-rows_verdict.is

pub returns : goal.returns
returns c =
    pack-good _ c.read_base.ensures c.in-Ok.is c.read_layers.ensures c.in-Ok-read_layers.is _ c.check_rows-rows.ensures.verdict_value
    c.in_default.is
