-- `ask_code::copies_of` meets its contract. Assumes nothing.
use mathlib.Core.List.{[], ◌∷◌}
use Rattle.lists.specs.Lists.{up_to}
use Rattle.ask_code.proofs.copies_of.Goals as goal

pub copies_for-requires : goal.copies_for-requires
copies_for-requires c = c.requires.fits 0

pub copies_for-requires-2 : goal.copies_for-requires-2
copies_for-requires-2 c = c.requires.fits 1

pub copies_for-requires-3 : goal.copies_for-requires-3
copies_for-requires-3 c = c.requires.fits 2

pub copies_for-requires-4 : goal.copies_for-requires-4
copies_for-requires-4 c = c.requires.fits 3

pub copies_for-requires-5 : goal.copies_for-requires-5
copies_for-requires-5 c = c.requires.fits 4

pub returns : goal.returns
unfolding up_to
returns c =
    λ i. c.copies_for.ensures i ∷ c.copies_for-2.ensures i ∷ c.copies_for-3.ensures i ∷ c.copies_for-4.ensures i ∷ c.copies_for-5.ensures i ∷ []
