-- `reply_worst::worst_text` meets its contract: the line of the call's number and set, or of its refusal. Assumes nothing.
use Rattle.reply_worst.proofs.Sets.{worst-refused, worst-found}
use Rattle.reply_worst.proofs.worst_text.Goals as goal

pub slice_bounds-put_set-end : goal.slice_bounds-put_set-end
slice_bounds-put_set-end c =
    (worst-found _ _ c.worst_case-answer.ensures c.order_of-order.ensures c.in-Ok.is).inside

pub put_set-requires : goal.put_set-requires
put_set-requires c =
    let found = worst-found _ _ c.worst_case-answer.ensures c.order_of-order.ensures c.in-Ok.is in
    record { nodes_len_bound = found.few; worst_needed_in_bounds = c.requires }

pub returns-in-Err : goal.returns-in-Err
returns-in-Err c =
    rw (worst-refused _ _ c.worst_case-answer.ensures c.in-Err.is) c.refused_line.ensures

pub returns-in-Ok : goal.returns-in-Ok
returns-in-Ok c =
    rw (worst-found _ _ c.worst_case-answer.ensures c.order_of-order.ensures c.in-Ok.is).text c.put_set.ensures
