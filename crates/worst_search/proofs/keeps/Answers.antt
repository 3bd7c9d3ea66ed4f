-- `worst_search::keeps` meets its contract: a yes is given only where what the node and those after it lose leaves enough. Assumes nothing.
use Prim.Native.Nat.{◌+◌, ◌*◌, ◌-◌, ◌≤◌}
use native.Mathlib.Omega.{arith}
use native.Mathlib.Nat.{mul-le-mul}
use mathlib.Core.Path.{◌≡◌, sym, ◌∙◌, ap}
use borrow.Author.Tests.{leb-true}
use Rattle.lists.proofs.Tests.{false-T}
use Rattle.worst.specs.Records.{begin, size, lost_to}
use Rattle.worst.specs.declared.Entries.{Entries}
use Rattle.worst.proofs.Hits.{node-entries}
use Rattle.worst.proofs.Turns.{lost_to-le}
use Rattle.worst_search.proofs.keeps.Goals as goal

pub overflow_mul-loss : goal.overflow_mul-loss
overflow_mul-loss c = omega (
  arith,
  (let small-here : (c.args.search.k - c.args.search.chosen - 1) * c.args.most ≤ 255 * 65_535 = let few : c.args.search.k - c.args.search.chosen - 1 ≤ 255 = omega (arith, c.requires.next_bound.2) in
      mul-le-mul few c.requires.index.1.small in small-here),
)

pub entries_of-entries-requires : goal.entries_of-entries-requires
entries_of-entries-requires c =
    record { in_bounds = c.requires.index.0.all-nodes; node_bound = c.requires.index.0.ordered _ (omega (arith, c.requires.next_bound.0)) }

pub lose-requires : goal.lose-requires
lose-requires c =
    node-entries c.requires.index.0 _ (omega (arith, c.requires.next_bound.0)) c.entries_of-entries.ensures

pub overflow_add-lose : goal.overflow_add-lose
overflow_add-lose c =
    let v = c.args.search.next.0 in
    let index = c.args.index.now in
    omega (
      arith,
      (let small-here : (c.args.search.k - c.args.search.chosen - 1) * c.args.most ≤ 255 * 65_535 = let few : c.args.search.k - c.args.search.chosen - 1 ≤ 255 = omega (arith, c.requires.next_bound.2) in
          mul-le-mul few c.requires.index.1.small in small-here),
      (let loses-here : c.lose.result ≡ lost_to c.args.search.s c.args.index.now c.args.hits.now (begin c.args.index.now c.args.search.next.0) (size c.args.index.now c.args.search.next.0) = c.lose.ensures ∙ ap (λ (e : Entries). lost_to c.args.search.s c.args.index.now c.args.hits.now e.from e.count) c.entries_of-entries.ensures in loses-here),
      lost_to-le c.args.search.s index c.args.hits.now (begin index v) (size index v),
      c.requires.index.1.each v (omega (arith, c.requires.next_bound.0)),
      c.requires.index.1.small,
    )

pub returns-then-leaves : goal.returns-then-leaves
returns-then-leaves c kept =
    let g = c.args.search in
    let left = g.usable - (c.lose.result + (g.k - g.chosen - 1) * c.args.most) in
    let enough : g.least ≤ left = leb-true g.least left (sym c.leaves-then-leaves.ensures ∙ kept) in
    let same : g.k - g.chosen - 1 ≡ g.k - (g.chosen + 1) = omega arith in
    rw (← (let loses-here : c.lose.result ≡ lost_to c.args.search.s c.args.index.now c.args.hits.now (begin c.args.index.now c.args.search.next.0) (size c.args.index.now c.args.search.next.0) = c.lose.ensures ∙ ap (λ (e : Entries). lost_to c.args.search.s c.args.index.now c.args.hits.now e.from e.count) c.entries_of-entries.ensures in loses-here), ← same) enough

pub returns : goal.returns
returns c kept = absurd (false-T (sym kept) tt)
