-- `worst_two::choose_two` meets its contract. Assumes nothing.
use Prim.Native.Nat.{◌+◌, ◌<◌}
use native.Mathlib.Omega.{arith}
use mathlib.Core.Path.{refl, ◌∙◌}
use lib.ListN.{length-set}
use Rattle.worst.proofs.Steps.{next-ordered, to-raise, usable-few, to-search, to-lower, chosen_more}
use Rattle.worst_two.proofs.choose_two.Goals as goal

pub entries_of-entries-requires : goal.entries_of-entries-requires
entries_of-entries-requires c = let w = next-ordered c.requires.searching in record { in_bounds = w.0; node_bound = w.1 }

pub raise-usable-requires : goal.raise-usable-requires
raise-usable-requires c =
    record { raising = to-raise c.requires.searching c.entries_of-entries.ensures; usable_value = usable-few c.requires.searching }

pub bounds-set-place : goal.bounds-set-place
bounds-set-place c = omega (arith, c.requires.searching.more, c.requires.searching.set_room)

pub overflow_add-next : goal.overflow_add-next
overflow_add-next c = omega (arith, c.requires.searching.below, c.requires.searching.n-most)

pub last_node-least-requires : goal.last_node-least-requires
last_node-least-requires c =
    record { searching = to-search c.requires.searching c.entries_of-entries.ensures c.raise-usable.ensures ((let more-here : c.args.search.chosen + 1 < c.args.search.k = omega (arith, c.requires.chosen_value) in more-here)); chosen_value = omega (arith, c.requires.chosen_value) }

pub lower-requires : goal.lower-requires
lower-requires c =
    to-lower c.requires.searching c.entries_of-entries.ensures c.raise-usable.ensures c.last_node-least.ensures refl

pub shape_of-set : goal.shape_of-set
shape_of-set c =
    c.last_node-least.auto.set ∙ length-set c.args.set.now c.args.search.chosen c.args.search.next.0

pub returns : goal.returns
returns c =
    chosen_more c.requires.searching c.entries_of-entries.ensures c.raise-usable.ensures c.last_node-least.ensures refl
    c.lower.ensures
