-- `reply_order::order_of` meets its contract. Assumes nothing.
use Rattle.reply_order.proofs.Orders.{order-refused, order-accepted}
use Rattle.reply_order.proofs.order_of.Goals as goal

pub returns-in-Err : goal.returns-in-Err
returns-in-Err c = order-refused _ c.check_placement-check.ensures c.in-Err.is _

pub returns-in-Ok : goal.returns-in-Ok
returns-in-Ok c = order-accepted _ c.check_placement-check.ensures c.in-Ok.is
