-- `certify_most::choice_in` meets its contract. Assumes nothing.
use native.Mathlib.Omega.{arith}
use Rattle.certify_most.proofs.Choices.{lambda-fits, choice-made}
use Rattle.certify_most.proofs.choice_in.Goals as goal

pub most_together-lambda-requires : goal.most_together-lambda-requires
most_together-lambda-requires c =
    record { rows_asked = c.requires.rows_asked; x_lt_r = omega (arith, c.requires.order_asked.1, c.requires.order_asked.0.s-most) }

pub floors_down-requires : goal.floors_down-requires
floors_down-requires c =
    let order = c.requires.order_asked.0 in (
      c.requires.order_asked.1,
      omega (arith, order.s-most, c.requires.rows_asked.r-most),
      order.k-least,
      order.k-most,
      lambda-fits _ _ _ _ c.requires.rows_asked c.most_together-lambda.ensures,
    )

pub overflow_sub-result : goal.overflow_sub-result
overflow_sub-result c = omega (arith, c.min-lost.ensures)

pub returns : goal.returns
returns c =
    choice-made _ _ _ c.most_together-lambda.ensures c.floors_down.ensures c.min-lost.ensures
