-- `reply_certify::certify_text` meets its contract: the placement that the call wrote, or the line of its refusal. Assumes nothing.
use Rattle.reply_certify.proofs.Certified.{certify-planned, certify-refused}
use Rattle.reply_certify.proofs.certify_text.Goals as goal

pub returns-in-Ok : goal.returns-in-Ok
returns-in-Ok c =
    certify-planned c.args.bare.now c.requires c.certify-result.ensures c.in-Ok.is

pub returns-in-Err : goal.returns-in-Err
returns-in-Err c =
    certify-refused c.args.bare.now c.requires c.certify-result.ensures c.in-Err.is
    c.refused_line.ensures
