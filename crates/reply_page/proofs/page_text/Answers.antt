-- `reply_page::page_text` meets its contract: the page that the call wrote, or the line of its refusal. Assumes nothing.
use Rattle.reply_page.proofs.Pages.{page-written, page-refused}
use Rattle.reply_page.proofs.page_text.Goals as goal

pub returns-in-Err : goal.returns-in-Err
returns-in-Err c =
    page-refused c.args.placement.now c.args.out.now c.requires c.page-writing.ensures c.in-Err.is c.refused_line.ensures

pub returns-in-Ok : goal.returns-in-Ok
returns-in-Ok c =
    page-written c.args.placement.now c.args.out.now c.requires c.page-writing.ensures c.in-Ok.is
