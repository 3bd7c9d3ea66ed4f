-- `join_code::join_packs` meets its contract: each return is a case of `join`. Assumes nothing.
use Rattle.join.proofs.Checking.{first_found, second-found, third-found, differs-b, differs-c, estate-fits, found-done}
use Rattle.join_code.proofs.join_packs.Goals as goal

pub returns-in_default : goal.returns-in_default
returns-in_default c =
    first_found c.args.first.now c.args.second.now c.args.third.now c.args.out.now c.args.packs c.requires.le_packs c.requires.packs_bound c.check_piece-a.ensures c.in_default.is c.refuse.ensures

pub returns-in_default-b_answer : goal.returns-in_default-b_answer
returns-in_default-b_answer c =
    second-found c.args.first.now c.args.second.now c.args.third.now c.args.out.now c.args.packs c.requires.le_packs c.requires.packs_bound c.check_piece-a.ensures c.in-Ok.is c.check_piece-b.ensures c.in_default-b_answer.is c.refuse-in_default-b_answer.ensures

pub returns-in_default-c_answer : goal.returns-in_default-c_answer
returns-in_default-c_answer c =
    third-found c.args.first.now c.args.second.now c.args.third.now c.args.out.now c.args.packs c.requires.le_packs c.requires.packs_bound c.check_piece-a.ensures c.in-Ok.is c.check_piece-b.ensures c.in-Ok-b_answer.is c.check_piece-c.ensures c.in_default-c_answer.is c.refuse-in_default-c_answer.ensures

pub returns-then-b_head-r : goal.returns-then-b_head-r
returns-then-b_head-r c =
    differs-b c.args.first.now c.args.second.now c.args.third.now c.args.out.now c.args.packs c.requires.le_packs c.requires.packs_bound c.check_piece-a.ensures c.in-Ok.is c.check_piece-b.ensures c.in-Ok-b_answer.is c.check_piece-c.ensures c.in-Ok-c_answer.is c.if-b_head-r.true

pub returns-then-c_head-r : goal.returns-then-c_head-r
returns-then-c_head-r c =
    differs-c c.args.first.now c.args.second.now c.args.third.now c.args.out.now c.args.packs c.requires.le_packs c.requires.packs_bound c.check_piece-a.ensures c.in-Ok.is c.check_piece-b.ensures c.in-Ok-b_answer.is c.check_piece-c.ensures c.in-Ok-c_answer.is c.if-b_head-r.false c.if-c_head-r.true

pub join_estate-requires : goal.join_estate-requires
join_estate-requires c =
    estate-fits c.args.first.now c.args.second.now c.args.third.now c.args.out.now c.args.packs c.requires.le_packs c.requires.packs_bound c.check_piece-a.ensures c.in-Ok.is c.check_piece-b.ensures c.in-Ok-b_answer.is c.check_piece-c.ensures c.in-Ok-c_answer.is c.if-b_head-r.false c.if-c_head-r.false

pub returns : goal.returns
returns c =
    found-done c.args.first.now c.args.second.now c.args.third.now c.args.out.now c.args.packs c.requires.le_packs c.requires.packs_bound c.check_piece-a.ensures c.in-Ok.is c.check_piece-b.ensures c.in-Ok-b_answer.is c.check_piece-c.ensures c.in-Ok-c_answer.is c.if-b_head-r.false c.if-c_head-r.false
    c.join_estate.new.out c.join_estate.result c.join_estate.ensures
