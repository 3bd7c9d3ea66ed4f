-- A line of the table with more and more copies: a pass over it entry by entry, and the passes one after another. Assumes nothing.
use Prim.Native.Nat.{ℕ, suc, ◌+◌, ◌*◌, ◌-◌, ◌≤◌, ◌<◌, min}
use native.Mathlib.Nat.{le_of_lt, suc-mul}
use native.Mathlib.Omega.{arith}
use mathlib.Core.Path.{◌≡◌, refl, sym, ap, ap₂, ◌∙◌}
use mathlib.Core.List.{List, map}
use lib.ListN.{length, get_or, set, length-set}
use lib.Seq.{sets}
use borrow.Author.Tests.{ltb-false}
use Rattle.lists.specs.Lists.{count, up_to}
use Rattle.lists.proofs.UpTo.{map-up_to-congr}
use Rattle.lists.proofs.Stores.{stored_to, stored-none, stored_next, length-stored}
use Rattle.split.specs.declared.Steps.{Steps}
use Rattle.split.specs.Splits.{no_split}
use Rattle.split.specs.Table.{StepLimits, by_periods, copies_up_to, line_entry}
use Rattle.split.specs.Working.{part, LineBelow, Lowerable, lowered, climbs, ByPeriods}
use Rattle.split.proofs.Parts.{get_d-next, get_d-stored, stored_same, stored-tail}
use Rattle.split.proofs.Passes.{copies-next, copies-past, copies-all-past, copies-all-steep}
use Rattle.split.proofs.Stepped.{stepped-le-mark}
use Rattle.split_lines.proofs.Raising.{whole_pos}
use Rattle.split_lines.proofs.Climbing.{none-count}

-- the entries before place i of the run are lowered
pub record LoweredTo (at n cost : ℕ) (before line : List ℕ) (i : ℕ) (work : List ℕ) : Type 0 where
  pub within : i ≤ n
  pub same : length work ≡ length before
  pub written : work ≡ stored_to at before (lowered at cost before line) i

module _ {at n cost : ℕ} {before line : List ℕ} where
  pub lowered_none : LoweredTo at n cost before line 0 before
  lowered_none = record { within = omega arith; same = refl; written = stored-none at before (lowered at cost before line) }

  module _ {i : ℕ} {work : List ℕ} (r : LoweredTo at n cost before line i work) where
    pub lowered-next : {entry : ℕ} → i < n → entry ≡ min (get_or work (at + i) 0) (cost + get_or line i 0)
        → LoweredTo at n cost before line (i + 1) (set work (at + i) entry)
    lowered-next {entry} turn e =
        let f = lowered at cost before line in
        let q : entry ≡ lowered at cost before line i = e ∙ ap (λ a. min a (cost + get_or line i 0)) (get_d-next at before f i r.written) in
        record {
          within = omega arith;
          same = length-set work (at + i) entry ∙ r.same;
          written = stored_next at before f i entry r.written q;
        }

    pub lowered-all : n ≤ i → work ≡ stored_to at before (lowered at cost before line) n
    lowered-all h =
        let e : i ≡ n = let g = r.within in omega arith in
        r.written ∙ ap (stored_to at before (lowered at cost before line)) e

-- d copies were looked at
pub record CopiedTo (u : Steps) (under : List ℕ) (at w : ℕ) (before : List ℕ) (d back : ℕ) (work : List ℕ) : Type 0 where
  pub few : d < u.period
  pub at_copies : back ≡ d * u.size
  pub back-le : back ≤ 491_520
  pub same : length work ≡ length before
  pub written : work ≡ stored_to at before (copies_up_to u under d) w

module _ {u : Steps} {at w : ℕ} {before periods : List ℕ} (limits : StepLimits u) (below : LineBelow at w before)
    (aside : ByPeriods u (part (at - w) w before) at w before periods) where
  abbrev under : List ℕ
  under = part (at - w) w before

  pub copied_none : CopiedTo u under at w before 0 0 before
  copied_none =
      record {
        few = limits.period-pos;
        at_copies = omega arith;
        back-le = omega arith;
        same = refl;
        written = stored_same at before (copies_up_to u under 0) w below.fits aside.written;
      }

  -- no entry by whole periods is above the mark
  pub aside-le : (i : ℕ) → i < w + u.size → get_or periods i 0 ≤ no_split
  aside-le i h =
      rw (aside.entries i h)
      (stepped-le-mark (u.period * u.size) (get_or u.costs u.period 0) under (whole_pos limits) below.rising (i - u.size))

  module _ {d back : ℕ} {work : List ℕ} (r : CopiedTo u under at w before d back work) where
    pub lowerable : {cost : ℕ} → back < w → cost ≤ no_split → Lowerable (at + back) (w - back) cost work periods
    lowerable {cost} turn small =
        record {
          fits = let s = r.same in let f = below.fits in omega arith;
          beside = let f = aside.room in omega arith;
          small = λ i h. let l = aside-le i (omega arith) in omega arith;
        }

    -- the entries a copy more further on
    pub climbable : {cost : ℕ} → back < w → cost ≤ no_split → Lowerable (back + u.size) (w - back) cost periods periods
    climbable {cost} turn small =
        record {
          fits = let f = aside.room in omega arith;
          beside = let f = aside.room in omega arith;
          small = λ i h. let l = aside-le i (omega arith) in omega arith;
        }

    -- one copy more
    copied_next : {cost : ℕ} {after : List ℕ} → suc d < u.period → back < w → cost ≡ min (get_or u.costs (suc d) 0) no_split
        → after ≡ stored_to (at + back) work (lowered (at + back) cost work periods) (w - back)
        → CopiedTo u under at w before (suc d) (back + u.size) after
    copied_next {cost} {after} more turn e q =
        let m = suc-mul d u.size in
        let a = r.at_copies in
        let l = r.same in
        let fit = below.fits in
        let whole : back + (w - back) ≡ w = omega arith in
        record {
          few = more;
          at_copies = omega arith;
          back-le = let s = limits.size-le in omega arith;
          same = length-stored (at + back) work (lowered (at + back) cost work periods) (w - back) q ∙ r.same;
          written = q ∙ rw whole at (passed (rw whole fit) (rw whole r.written));
        }
      where
        -- from place `back` on each entry has one copy more, and the entries before it are as if they had
        passed : at + (back + (w - back)) ≤ length before → work ≡ stored_to at before (copies_up_to u under d) (back + (w - back))
            → stored_to (at + back) work (lowered (at + back) cost work periods) (w - back)
            ≡ stored_to at before (copies_up_to u under (suc d)) (back + (w - back))
        passed fits was =
            let a = r.at_copies in
            ap (λ (z : List ℕ). sets z (at + back) (map (lowered (at + back) cost work periods) (up_to (w - back)))) was
            ∙ stored-tail at before (copies_up_to u under d) (copies_up_to u under (suc d)) (lowered (at + back) cost work periods) back (w - back) fits
            (λ i h. sym (copies-past u under limits d i (le_of_lt more) (omega arith)))
            (λ i h. anew i h fits was)
          where
            anew : (i : ℕ) → i < w - back → at + (back + (w - back)) ≤ length before
                → work ≡ stored_to at before (copies_up_to u under d) (back + (w - back))
                → lowered (at + back) cost work periods i ≡ copies_up_to u under (suc d) (back + i)
            anew i h fits was =
                let a = r.at_copies in
                let m = suc-mul d u.size in
                let p : at + back + i ≡ at + (back + i) = omega arith in
                let b : i - u.size ≡ back + i - suc d * u.size = omega arith in
                let here : get_or work (at + back + i) 0 ≡ copies_up_to u under d (back + i) =
                rw (p, was) (get_d-stored at before (copies_up_to u under d) (back + (w - back)) (back + i) fits (omega arith)) in
                ap₂ (λ x y. min x (cost + y)) here (aside.entries i (omega arith))
                ∙ copies-next u under below.rising d (back + i) e b

    pub copied_more : {e cost : ℕ} {after : List ℕ} → e ≡ suc d → e < u.period → back < w → cost ≡ min (get_or u.costs e 0) no_split
        → after ≡ stored_to (at + back) work (lowered (at + back) cost work periods) (w - back)
        → CopiedTo u under at w before e (back + u.size) after
    copied_more one more turn c q = rw one (copied_next (rw one at more) turn (rw one at c) q)

    -- all copies were looked at
    pub copied_all : u.period ≤ d + 1 → work ≡ stored_to at before (line_entry u under) w
    copied_all h =
        let e : d ≡ u.period - 1 = let f = r.few in omega arith in
        r.written ∙ ap (λ c. stored_to at before (copies_up_to u under c) w) e

    -- one copy more costs, at every entry, all that its records add: it and more are of no use
    pub copied-enough : {e cost : ℕ} → e ≡ suc d → e < u.period → cost ≡ min (get_or u.costs e 0) no_split
        → count (climbs (back + u.size) cost periods) (up_to (w - back)) ≡ 0 → work ≡ stored_to at before (line_entry u under) w
    copied-enough {cost = cost} one more c none =
        let a = r.at_copies in
        let q : d + (u.period - 1 - d) ≡ u.period - 1 = omega arith in
        r.written
        ∙ ap (sets before at) (map-up_to-congr _ _ w (λ b l.
        sym (rw q at (copies-all-steep u under limits w d steep (u.period - 1 - d) b l (omega arith)))))
      where
        steep : (i : ℕ) → i < w - d * u.size
            → by_periods u under (suc d * u.size + i - u.size) ≤ get_or u.costs (suc d) 0 + by_periods u under (i - u.size)
        steep i h =
            let a = r.at_copies in
            let m = suc-mul d u.size in
            let p : back + u.size + i ≡ suc d * u.size + i = omega arith in
            let low : get_or periods (back + u.size + i) 0 ≤ cost + get_or periods i 0 =
            ltb-false _ _ (none-count (climbs (back + u.size) cost periods) (w - back) none i (omega arith)) in
            let k = rw one at c in
            let x = aside.entries i (omega arith) in
            let y = aside.entries (suc d * u.size + i) (omega arith) in
            omega (arith, x, y, rw p at low)

    -- copies past the line's start cost no less
    pub copied-past : w ≤ back → work ≡ stored_to at before (line_entry u under) w
    copied-past h =
        let f = r.few in
        let a = r.at_copies in
        let e : d + (u.period - 1 - d) ≡ u.period - 1 = omega arith in
        r.written
        ∙ ap (sets before at) (map-up_to-congr _ _ w (λ b l.
        sym (rw e at (copies-all-past u under limits d b (u.period - 1 - d) (omega arith) (omega arith)))))
