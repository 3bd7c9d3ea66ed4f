-- The answers of reading bare rows and of choosing a layer as values of the code's types. Assumes nothing.
use Rattle.std.specs.Prelude.{ℕ, List, Result}
use Rattle.refusal.specs.declared.Refusal.{Refusal}
use Rattle.refusal.specs.Checked.{Checked, answered}
use Rattle.layers.specs.Layers.{Located}
use Rattle.layers.specs.Answers.{base_of}
use Rattle.placement.specs.declared.Order.{Order}
use Rattle.certify.specs.Bare.{Bare, OrderReading}
use Rattle.certify.specs.Certify.{most_together, figure_in, last_highest}
use Rattle.certify.specs.declared.OrderRead.{OrderRead}
use Rattle.certify.specs.declared.BareRead.{BareRead}
use Rattle.certify.specs.declared.Choice.{Choice}

abbrev pub order_read : Checked OrderReading → Result OrderRead Refusal
order_read = answered (λ o. record { order = o.order; next = o.next })

abbrev pub bare_read : Checked (Located Bare) → Result BareRead Refusal
bare_read =
    answered (λ file. record { base = base_of file.content.base; order = file.content.order; first = file.first })

-- layer x for all rows
abbrev pub choice_in : Order → (rows : List (List ℕ)) (x : ℕ) → Choice
choice_in order rows x = record { layer = x; lambda = most_together x rows; figure = figure_in order rows x }

-- the one that is taken of the layers below x
abbrev pub choice_below : Order → (rows : List (List ℕ)) (x : ℕ) → Choice
choice_below order rows x = choice_in order rows (last_highest (figure_in order rows) x)
