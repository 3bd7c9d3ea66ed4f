-- `reply_commit::commit_text` meets its contract: the placement that the call wrote, or the line of its refusal. Assumes nothing.
use Rattle.reply_commit.proofs.Plans.{commit-planned, commit-refused}
use Rattle.reply_commit.proofs.commit_text.Goals as goal

pub returns-in-Ok : goal.returns-in-Ok
returns-in-Ok c =
    commit-planned c.args.pack.now c.args.order _ c.requires c.commit-result.ensures c.in-Ok.is

pub returns-in-Err : goal.returns-in-Err
returns-in-Err c =
    commit-refused c.args.pack.now c.args.order _ c.requires c.commit-result.ensures c.in-Err.is
    c.refused_line.ensures
