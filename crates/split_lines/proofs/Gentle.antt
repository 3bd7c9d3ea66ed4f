-- A line in which no entry is far above the one before it: no record in the layer above is worth its cost. Assumes nothing.
use Prim.Native.Nat.{ℕ, zero, suc, ◌+◌, ◌-◌, ◌≤◌, ◌<◌}
use native.Mathlib.Omega.{arith}
use mathlib.Core.Path.{◌≡◌, sym, ap, ◌∙◌}
use mathlib.Core.Bool.{Bool, true}
use mathlib.Core.List.{List}
use lib.ListN.{length, get_or}
use lib.Seq.{sets}
use lib.Dec.{eqb}
use borrow.Author.Tests.{eqb-true, ltb-false}
use Rattle.lists.specs.Lists.{count, up_to}
use Rattle.lists.proofs.UpTo.{map-up_to-congr}
use Rattle.lists.proofs.Stores.{stored_to}
use Rattle.split.specs.Splits.{no_split}
use Rattle.split.specs.Table.{Rising, stepped}
use Rattle.split.specs.Working.{LineBelow, Lowerable, climbs}
use Rattle.split.proofs.Stepped.{stepped-zero, stepped-step}
use Rattle.split_lines.proofs.Raising.{line_under, lent, lent-eq, length-lent}
use Rattle.split_lines.proofs.Climbing.{none-count}

-- the entries beside their next ones can be looked at
pub gentle-climbable : {line : List ℕ} {each : ℕ} → Rising line → each ≤ no_split → 0 < length line → Lowerable 1 (length line - 1) each line line
gentle-climbable rising le some =
    record {
      fits = omega arith;
      beside = omega arith;
      small = λ i h. let m = rising.marked i in omega arith;
    }

-- where no entry climbs, steps of one record leave the line as it is
pub stepped-gentle : (each : ℕ) (line : List ℕ) (w : ℕ) → Rising line → count (climbs 1 each line) (up_to (w - 1)) ≡ 0
    → (i : ℕ) → i < w → stepped 1 each line i ≡ get_or line i 0
stepped-gentle each line w rising none zero h = stepped-zero 1 each line (omega arith) rising ∙ sym rising.first
stepped-gentle each line w rising none (suc i) h =
    let e = stepped-step 1 each line (omega arith) (suc i) in
    let p : suc i - 1 ≡ i = omega arith in
    let q : 1 + i ≡ suc i = omega arith in
    let before = stepped-gentle each line w rising none i (omega arith) in
    let low : get_or line (1 + i) 0 ≤ each + get_or line i 0 = ltb-false _ _ (none-count (climbs 1 each line) (w - 1) none i (omega arith)) in
    omega (arith, rw p at e, rw q at low)

-- so the line below again is the line by records
pub raised-gentle : (each : ℕ) {at w : ℕ} {before after : List ℕ} {gentle : Bool} → LineBelow at w before
    → gentle ≡ eqb (count (climbs 1 each (lent at w before)) (up_to (length (lent at w before) - 1))) 0 → gentle ≡ true
    → after ≡ stored_to at before (λ j. get_or (line_under at w before) j 0) w
    → after ≡ stored_to at before (stepped 1 each (line_under at w before)) w
raised-gentle each {at} {w} {before} below found is e =
    let here : count (climbs 1 each (lent at w before)) (up_to (length (lent at w before) - 1)) ≡ 0 = eqb-true _ 0 (sym found ∙ is) in
    let none = rw (length-lent below, lent-eq below) at here in
    e ∙ ap (sets before at) (map-up_to-congr _ _ w (λ i h. sym (stepped-gentle each _ w below.rising none i h)))
