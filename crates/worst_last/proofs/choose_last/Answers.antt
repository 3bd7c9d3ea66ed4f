-- `worst_last::choose_last` meets its contract. Assumes nothing.
use native.Mathlib.Omega.{arith}
use native.Mathlib.Nat.{sub-zero}
use mathlib.Core.Path.{◌≡◌, refl, ◌∙◌, ap}
use lib.ListN.{take, set}
use Prim.Native.Nat.{◌-◌}
use Rattle.lists.specs.Lists.{over_start}
use Rattle.worst.specs.Records.{begin, size, lost_to}
use Rattle.worst.specs.declared.Entries.{Entries}
use Rattle.worst.proofs.Turns.{lost_to-le}
use Rattle.worst.proofs.Steps.{next-ordered, to-lose, lost-le, last-lower, last-same}
use Rattle.worst_last.proofs.choose_last.Goals as goal

pub entries_of-entries-requires : goal.entries_of-entries-requires
entries_of-entries-requires c = let w = next-ordered c.requires.searching in record { in_bounds = w.0; node_bound = w.1 }

-- no more are lost than are on the node
pub returns-then-least-usable : goal.returns-then-least-usable
returns-then-least-usable c =
    let index = c.args.index.now in
    let count = ap (λ (e : Entries). e.count) c.entries_of-entries.ensures in
    let le = lost_to-le c.args.search.s index c.args.hits.now (begin index c.args.search.next.0) (size index c.args.search.next.0) in
    last-same c.requires.searching _ refl c.requires.chosen_value (omega (arith, c.if-least-usable.true, c.min-most.ensures, count, le))

pub lose-requires : goal.lose-requires
lose-requires c = to-lose c.requires.searching c.entries_of-entries.ensures

pub overflow_sub-number : goal.overflow_sub-number
overflow_sub-number c = omega (arith, (let loses-here : c.lose.result ≡ lost_to c.args.search.s c.args.index.now c.args.hits.now (begin c.args.index.now c.args.search.next.0) (size c.args.index.now c.args.search.next.0) = c.lose.ensures ∙ ap (λ (e : Entries). lost_to c.args.search.s c.args.index.now c.args.hits.now e.from e.count) c.entries_of-entries.ensures in loses-here), lost-le c.requires.searching)

pub returns-then-least-number : goal.returns-then-least-number
returns-then-least-number c =
    last-same c.requires.searching _ (ap (λ lost. c.args.search.usable - lost) ((let loses-here : c.lose.result ≡ lost_to c.args.search.s c.args.index.now c.args.hits.now (begin c.args.index.now c.args.search.next.0) (size c.args.index.now c.args.search.next.0) = c.lose.ensures ∙ ap (λ (e : Entries). lost_to c.args.search.s c.args.index.now c.args.hits.now e.from e.count) c.entries_of-entries.ensures in loses-here))) c.requires.chosen_value c.if-least-number.true

pub returns : goal.returns
returns c =
    last-lower c.requires.searching _ (ap (λ lost-bound. c.args.search.usable - lost-bound) ((let loses-here : c.lose.result ≡ lost_to c.args.search.s c.args.index.now c.args.hits.now (begin c.args.index.now c.args.search.next.0) (size c.args.index.now c.args.search.next.0) = c.lose.ensures ∙ ap (λ (e : Entries). lost_to c.args.search.s c.args.index.now c.args.hits.now e.from e.count) c.entries_of-entries.ensures in loses-here))) c.requires.chosen_value
    (c.copy_bytes.ensures ∙ ap (λ k. over_start (take k (set c.args.set.now c.args.search.chosen c.args.search.next.0)) c.args.out.now) (sub-zero c.args.search.k))
    c.if-least-number.false
