-- `table_code::maker::check_made` meets its contract. Assumes nothing.
use lib.ListN.{length}
use Rattle.pack.specs.Pack.{read_pack}
use Rattle.table_code.proofs.Making.{made-accepted, made_told}
use Rattle.table_code.proofs.maker.check_made.Goals as goal

pub returns-in-Ok : goal.returns-in-Ok
returns-in-Ok c =
    made-accepted (read_pack c.args.pack.now) c.check_pack-check.ensures (length c.args.pack.now) c.args.lines.now c.args.first c.args.r c.in-Ok.is

pub returns-in-Err : goal.returns-in-Err
returns-in-Err c =
    made_told (read_pack c.args.pack.now) c.check_pack-check.ensures (length c.args.pack.now) c.args.lines.now c.args.first c.args.r
    c.in-Err.is c.number-number.ensures c.place.ensures c.line_at-place.ensures
