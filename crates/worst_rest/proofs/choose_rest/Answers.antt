-- `worst_rest::choose_rest` meets its contract. Assumes nothing.
use native.Mathlib.Nat.{sub-zero}
use mathlib.Core.Path.{◌∙◌, ap}
use lib.ListN.{take}
use Rattle.lists.specs.Lists.{over_start}
use Rattle.worst.proofs.Rest.{rest-asked, rest-same, rest_lower, rest-counted}
use Rattle.worst_rest.proofs.choose_rest.Goals as goal

pub raise_rest-number-requires : goal.raise_rest-number-requires
raise_rest-number-requires c =
    rest-asked c.requires.searching c.requires.next_value

pub lower_rest-requires : goal.lower_rest-requires
lower_rest-requires c = let w = rest-counted c.requires.searching c.raise_rest-number.ensures c.raise_rest-number.auto.hits c.raise_rest-number.auto.set in record { index = w.0; chosen_le_k = w.1 }

pub returns-then-least-number : goal.returns-then-least-number
returns-then-least-number c =
    rest-same c.requires.searching c.requires.next_value c.raise_rest-number.ensures c.raise_rest-number.auto.set _ c.raise_rest-number.auto.hits c.lower_rest.ensures c.if-least-number.true

pub returns : goal.returns
returns c =
    rest_lower c.requires.searching c.requires.next_value c.raise_rest-number.ensures c.raise_rest-number.auto.set _ c.raise_rest-number.auto.hits c.lower_rest.ensures
    (c.copy_bytes.ensures ∙ ap (λ k. over_start (take k c.raise_rest-number.new.set) c.args.out.now) (sub-zero c.args.search.k))
    c.if-least-number.false
