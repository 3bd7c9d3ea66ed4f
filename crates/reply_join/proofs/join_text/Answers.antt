-- `reply_join::join_text` meets its contract: by how many files are named. Assumes nothing.
use Rattle.reply_join.proofs.Joins.{joins-many, joins-one, joins-two, joins-three}
use Rattle.reply_join.proofs.join_text.Goals as goal

pub returns-then-named-gt3 : goal.returns-then-named-gt3
returns-then-named-gt3 c =
    rw (joins-many c.args.named c.args.first.now c.args.second.now c.args.third.now _ c.if-named-gt3.true) c.text_line.ensures

pub returns-then-named-lt2 : goal.returns-then-named-lt2
returns-then-named-lt2 c =
    rw (joins-one c.args.named c.args.first.now c.args.second.now c.args.third.now _ c.if-named-gt3.false c.if-named-lt2.true) c.one_text.ensures

pub returns-then-named-eq2 : goal.returns-then-named-eq2
returns-then-named-eq2 c =
    rw (joins-two c.args.named c.args.first.now c.args.second.now c.args.third.now _ c.if-named-gt3.false c.if-named-lt2.false c.if-named-eq2.true)
    c.two_text.ensures

pub returns : goal.returns
returns c =
    rw (joins-three c.args.named c.args.first.now c.args.second.now c.args.third.now _ c.if-named-gt3.false c.if-named-lt2.false c.if-named-eq2.false)
    c.three_text.ensures
