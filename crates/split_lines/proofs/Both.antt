-- A line by records, by whole periods of copies and by fewer copies beside them: what one part leaves for the next. Assumes nothing.
use Prim.Native.Nat.{ℕ, ◌+◌, ◌*◌, ◌-◌, ◌<◌, min}
use native.Mathlib.Omega.{arith}
use mathlib.Core.Path.{◌≡◌, sym, ap, ◌∙◌}
use mathlib.Core.List.{List, map}
use lib.ListN.{length, get_or, take, drop}
use lib.Seq.{sets, get_or-take, get_or-drop}
use Rattle.lists.specs.Lists.{up_to}
use Rattle.lists.proofs.UpTo.{map-up_to-congr, length-map-up_to}
use Rattle.lists.proofs.Stores.{stored_to, length-stored}
use Rattle.split.specs.declared.Steps.{Steps}
use Rattle.split.specs.Splits.{no_split}
use Rattle.split.specs.Table.{StepLimits, stepped, by_periods, copies_up_to, line_entry}
use Rattle.split.specs.Working.{part, LineBelow, Lowerable, lowered, Stepping, Periods, ByPeriods}
use Rattle.split.proofs.Parts.{part-sets-before, part-stored, get_d-stored, sets-sets}
use Rattle.split.proofs.Passes.{copies-none}
use Rattle.split.proofs.Stepped.{stepped-le-mark, stepped-capped}
use Rattle.split_lines.proofs.Raising.{line_under, length_part, lent, lent-eq, length-lent, whole_pos, whole_le}

module _ {u : Steps} {at w : ℕ} {before : List ℕ} (limits : StepLimits u) (below : LineBelow at w before) where
  module _ {cost : ℕ} (capped : cost ≡ min (get_or u.costs u.period 0) no_split) where
    pub both-stepping : Stepping u.size (u.period * u.size) cost (lent at w before)
    both-stepping =
        record {
          size-le = limits.size-le;
          step-pos = whole_pos limits;
          step-le = whole_le limits;
          cost-le = omega arith;
          rising = rw (lent-eq below) below.rising;
          small = rw (length-lent below) below.small;
        }

    module _ {periods : List ℕ} (p : Periods u.size (u.period * u.size) cost (lent at w before) (length (lent at w before)) periods) where
      abbrev under : List ℕ
      under = line_under at w before

      -- the entries by whole periods
      by-periods : (j : ℕ) → j < w + u.size → get_or periods j 0 ≡ by_periods u under (j - u.size)
      by-periods j h =
          p.entries j (rw (length-lent below) (omega arith))
          ∙ rw (lent-eq below, capped) (stepped-capped (u.period * u.size) (get_or u.costs u.period 0) under (whole_pos limits) below.rising (j - u.size))

      -- those of the line alone
      abbrev aside : List ℕ
      aside = take (u.size + w - u.size) (drop u.size periods)

      get_d-aside : (i : ℕ) → i < w → get_or aside i 0 ≡ by_periods u under i
      get_d-aside i h =
          let e : u.size + w - u.size ≡ w = omega arith in
          let q : u.size + i - u.size ≡ i = omega arith in
          rw e (get_or-take w (drop u.size periods) i 0 h)
          ∙ get_or-drop u.size periods i 0
          ∙ (rw q at (by-periods (u.size + i) (omega arith)))

      module _ {one : List ℕ} (by-records : one ≡ stored_to at before (stepped 1 u.each under) w) where
        length-one : length one ≡ length before
        length-one = length-stored at before (stepped 1 u.each under) w by-records

        pub both-lowerable : Lowerable at w 0 one aside
        both-lowerable =
            record {
              fits = rw length-one below.fits;
              beside =
                  let r = p.room in
                  let s = limits.size-le in
                  let n = below.small in
                  let e : u.size + w - u.size ≡ w = omega arith in
                  rw (e, length_part u.size w periods (omega arith)) (omega arith);
              small = λ i h.
                  let e = get_d-aside i h in
                  let l = stepped-le-mark (u.period * u.size) (get_or u.costs u.period 0) under (whole_pos limits) below.rising i in
                  omega arith;
            }

        module _ {two : List ℕ} (by_whole : two ≡ stored_to at one (lowered at 0 one aside) w) where
          abbrev first : ℕ → ℕ
          first = copies_up_to u under 0

          all : two ≡ stored_to at before first w
          all =
              let a = length-map-up_to (stepped 1 u.each under) w in
              let b = length-map-up_to (lowered at 0 one aside) w in
              by_whole
              ∙ ap (λ (z : List ℕ). sets z at (map (lowered at 0 one aside) (up_to w))) by-records
              ∙ sets-sets before at (map (stepped 1 u.each under) (up_to w)) (map (lowered at 0 one aside) (up_to w)) (a ∙ sym b) (rw b below.fits)
              ∙ ap (sets before at) (map-up_to-congr _ _ w entry)
            where
              entry : (i : ℕ) → i < w → lowered at 0 one aside i ≡ first i
              entry i h =
                  let e : get_or one (at + i) 0 ≡ stepped 1 u.each under i =
                  rw by-records (get_d-stored at before (stepped 1 u.each under) w i below.fits h) in
                  let q = get_d-aside i h in
                  let n = copies-none u under limits i in
                  omega arith

          same-under : part (at - w) w two ≡ part (at - w) w before
          same-under = let b = below.back in rw all (part-sets-before (map first (up_to w)) before at (at - w) w (omega arith))

          length_two : length two ≡ length before
          length_two = length-stored at before first w all

          pub both_below : LineBelow at w two
          both_below =
              record {
                small = below.small;
                back = below.back;
                fits = rw length_two below.fits;
                rising = rw same-under below.rising;
              }

          pub both-aside : ByPeriods u (part (at - w) w two) at w two periods
          both-aside =
              rw same-under
              (record {
                written = ap (part at w) all ∙ part-stored at before first w below.fits;
                room = let r = p.room in let s = limits.size-le in let n = below.small in omega arith;
                entries = by-periods;
              })

          module _ {exit : List ℕ} (e : exit ≡ stored_to at two (line_entry u (part (at - w) w two)) w) where
            pub both-same : length exit ≡ length before
            both-same = length-stored at two (line_entry u (part (at - w) w two)) w e ∙ length_two

            -- the passes store over it
            pub both-written : exit ≡ stored_to at before (line_entry u under) w
            both-written =
                let a = length-map-up_to first w in
                let b = length-map-up_to (line_entry u under) w in
                e
                ∙ ap (λ (z : List ℕ). stored_to at two (line_entry u z) w) same-under
                ∙ ap (λ (z : List ℕ). stored_to at z (line_entry u under) w) all
                ∙ sets-sets before at (map first (up_to w)) (map (line_entry u under) (up_to w)) (a ∙ sym b) (rw b below.fits)
