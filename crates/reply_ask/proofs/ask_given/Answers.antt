-- `reply_ask::ask_given` meets its contract: a line where a number can't be read or an argument is left, else the reply to the file. Assumes nothing.
use Rattle.replies.proofs.Replying.{unread-replied, extra-replied, file-replied, file-inside}
use Rattle.reply_ask.proofs.ask_given.Goals as goal

pub slice_bounds-ask_text-count : goal.slice_bounds-ask_text-count
slice_bounds-ask_text-count c =
    file-inside 3 c.args.arguments.now c.args.input.now c.read_given-given.ensures c.in-File.is

pub slice_bounds-ask_text-start : goal.slice_bounds-ask_text-start
slice_bounds-ask_text-start c = (slice_bounds-ask_text-count c)

pub returns-in-Unread : goal.returns-in-Unread
returns-in-Unread c =
    unread-replied _ _ _ _ _ c.read_given-given.ensures c.in-Unread.is
    c.refused_line.ensures

pub returns-in-Extra : goal.returns-in-Extra
returns-in-Extra c =
    extra-replied _ _ _ _ _ c.read_given-given.ensures c.in-Extra.is c.text_line.ensures

pub returns-in-File : goal.returns-in-File
returns-in-File c =
    file-replied _ _ _ _ _ c.read_given-given.ensures c.in-File.is c.ask_text.ensures
