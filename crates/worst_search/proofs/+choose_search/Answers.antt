use Rattle.worst.proofs.Going.{going_start, going_end, going_next}
use Rattle.worst.proofs.Kept.{next-kept}
use Rattle.worst.proofs.Steps.{next-ordered, to-raise, usable-few, to-search, to-lower, chosen_more}
use lib.ListN.{length-set}
use mathlib.Core.Path.{◌≡◌, refl, ◌∙◌}
use Prim.Native.Nat.{◌-◌}
use native.Mathlib.Omega.{arith}
use Rattle.worst_search.proofs.+choose_search.Goals as goal

pub choose-keeps-requires : goal.choose-keeps-requires
choose-keeps-requires t c =
    record { index = (c.requires.searching.is-index, c.requires.light); next_bound = (omega (arith, c.requires.searching.below, c.requires.searching.n-most), c.requires.searching.more, c.requires.searching.k-most) }

-- no set leaves fewer
pub choose-returns-then-keeps : goal.choose-returns-then-keeps
choose-returns-then-keeps t c =
    next-kept c.requires.searching c.requires.light (c.keeps.ensures c.if-keeps.true)

pub choose-entries_of-entries-requires : goal.choose-entries_of-entries-requires
choose-entries_of-entries-requires t c = let w = next-ordered c.requires.searching in record { in_bounds = w.0; node_bound = w.1 }

pub choose-raise-usable-requires : goal.choose-raise-usable-requires
choose-raise-usable-requires t c =
    record { raising = to-raise c.requires.searching c.entries_of-entries.ensures; usable_value = usable-few c.requires.searching }

pub choose-bounds-set-place : goal.choose-bounds-set-place
choose-bounds-set-place t c =
    let p = c.requires.searching in
    omega (arith, p.more, p.set_room)

pub choose-overflow_add-next : goal.choose-overflow_add-next
choose-overflow_add-next t c =
    let p = c.requires.searching in
    omega (arith, p.below, p.n-most)

pub choose-search-least-requires : goal.choose-search-least-requires
choose-search-least-requires t c = (
  omega (arith, c.decreases, c.requires.searching.below),
  (to-search c.requires.searching c.entries_of-entries.ensures c.raise-usable.ensures c.requires.chosen_bound, c.requires.light),
)

pub choose-lower-requires : goal.choose-lower-requires
choose-lower-requires t c =
    to-lower c.requires.searching c.entries_of-entries.ensures c.raise-usable.ensures c.search-least.ensures c.search-least.auto.hits

pub choose-shape_of-set : goal.choose-shape_of-set
choose-shape_of-set t c =
    let a = c.args in
    c.search-least.auto.set ∙ length-set a.set.now a.search.chosen a.search.next.0

pub choose-returns : goal.choose-returns
choose-returns t c =
    chosen_more c.requires.searching c.entries_of-entries.ensures c.raise-usable.ensures c.search-least.ensures c.search-least.auto.hits
    c.lower.ensures

pub search-last_node-requires : goal.search-last_node-requires
search-last_node-requires t c =
    record { searching = c.requires.searching; chosen_value = omega (arith, c.if-more-eq1.true, c.requires.searching.more) }

pub search-returns-then-more-eq1 : goal.search-returns-then-more-eq1
search-returns-then-more-eq1 t c = c.last_node.ensures

pub search-last_two-requires : goal.search-last_two-requires
search-last_two-requires t c =
    record { searching = c.requires.searching; chosen_value = omega (arith, c.if-more-eq2.true, c.requires.searching.more) }

pub search-returns-then-more-eq2 : goal.search-returns-then-more-eq2
search-returns-then-more-eq2 t c = c.last_two.ensures

pub search-overflow_cast-last : goal.search-overflow_cast-last
search-overflow_cast-last t c = omega (arith, c.requires.searching.n-most)

pub search-loop-v-init : goal.search-loop-v-init
search-loop-v-init t c = going_start c.requires.searching

pub search-choose-least-requires : goal.search-choose-least-requires
search-choose-least-requires t c =
    let p = c.loop-v.invariant.here in
    (omega (arith, c.decreases, p.below), (p, (c.requires.light, omega (arith, p.more, c.if-more-eq1.false, c.if-more-eq2.false))))

pub search-loop-v-preserved : goal.search-loop-v-preserved
search-loop-v-preserved t c =
    let one = c.choose-least in
    going_next c.loop-v.invariant one.ensures one.auto.hits one.auto.set one.auto.out (λ e. omega (arith, c.loop-v.invariant.here.more))

pub search-keeps-requires : goal.search-keeps-requires
search-keeps-requires t c =
    let e : c.loop-v.v ≡ c.args.search.n - (c.args.search.k - c.args.search.chosen) = omega (arith, c.requires.searching.enough, c.requires.searching.more) in
    let g = rw e at c.loop-v.invariant in
    record { index = (g.here.is-index, c.requires.light); next_bound = (omega (arith, g.here.below, g.here.n-most), g.here.more, g.here.k-most) }

-- the one set that is left leaves no fewer
pub search-returns-then-keeps : goal.search-returns-then-keeps
search-returns-then-keeps t c =
    let e : c.loop-v.v ≡ c.args.search.n - (c.args.search.k - c.args.search.chosen) = omega (arith, c.requires.searching.enough, c.requires.searching.more) in
    let g = rw e at c.loop-v.invariant in
    going_end g (next-kept g.here c.requires.light (c.keeps.ensures c.if-keeps.true)) refl (omega (arith, g.here.more, g.here.enough))

pub search-choose_rest-requires : goal.search-choose_rest-requires
search-choose_rest-requires t c =
    let e : c.loop-v.v ≡ c.args.search.n - (c.args.search.k - c.args.search.chosen) = omega (arith, c.requires.searching.enough, c.requires.searching.more) in
    let g = rw e at c.loop-v.invariant in
    record { searching = g.here; next_value = omega (arith, g.here.more, g.here.enough) }

pub search-returns : goal.search-returns
search-returns t c =
    let e : c.loop-v.v ≡ c.args.search.n - (c.args.search.k - c.args.search.chosen) = omega (arith, c.requires.searching.enough, c.requires.searching.more) in
    let g = rw e at c.loop-v.invariant in
    g.onward _ _ _ _ c.choose_rest.ensures
