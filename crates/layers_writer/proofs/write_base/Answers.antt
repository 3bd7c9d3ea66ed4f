-- `layers_writer::write_base` meets its contract: four numbers, and the nodes after them. Assumes nothing.
use Prim.Native.Nat.{ℕ}
use native.Mathlib.Omega.{arith}
use mathlib.Core.List.{List, [], ◌∷◌}
use Rattle.layers.specs.Answers.{dark_list}
use Rattle.layers.specs.declared.Base.{Base}
use Rattle.layers.proofs.TwoParts.{first-asked, second_fits, second-asked, both-fit, both-written}
use Rattle.layers_writer.proofs.write_base.Goals as goal

-- the two parts
abbrev four : ℕ → Base → List ℕ
four kind base = kind ∷ base.n ∷ base.r ∷ base.dark.count ∷ []

abbrev nodes : Base → List ℕ
nodes base = dark_list base.dark

pub write_four-at-requires : goal.write_four-at-requires
write_four-at-requires c = let w = first-asked (four c.args.kind c.args.base) (nodes c.args.base) c.args.out.now c.requires.all c.requires.base_in_bounds in record { all = w.0; numbers_in_bounds = w.1 }

pub slice_bounds-write_nodes-count : goal.slice_bounds-write_nodes-count
slice_bounds-write_nodes-count c =
    omega (arith, second_fits (four c.args.kind c.args.base) (nodes c.args.base) c.args.out.now c.requires.all c.requires.base_in_bounds c.write_four-at.ensures)

pub slice_bounds-write_nodes-start : goal.slice_bounds-write_nodes-start
slice_bounds-write_nodes-start c =
    omega (arith, second_fits (four c.args.kind c.args.base) (nodes c.args.base) c.args.out.now c.requires.all c.requires.base_in_bounds c.write_four-at.ensures)

pub write_nodes-more-requires : goal.write_nodes-more-requires
write_nodes-more-requires c =
    let w = second-asked (four c.args.kind c.args.base) (nodes c.args.base) c.args.out.now c.requires.all c.requires.base_in_bounds c.write_four-at.ensures in record { count_bound = c.requires.count_bound; all = w.0; nodes_in_bounds = w.1 }

pub overflow_add-result : goal.overflow_add-result
overflow_add-result c =
    omega (arith, both-fit (four c.args.kind c.args.base) (nodes c.args.base) c.args.out.now c.requires.all c.requires.base_in_bounds c.write_four-at.ensures c.write_nodes-more.ensures, c.well_formed)

pub returns : goal.returns
returns c =
    both-written (four c.args.kind c.args.base) (nodes c.args.base) c.args.out.now c.requires.all c.requires.base_in_bounds c.write_four-at.ensures c.write_nodes-more.ensures
