-- The entries of a line by steps of so many records at one cost, laid down one after another. Assumes nothing.
use Prim.Native.Nat.{ℕ, ◌+◌, ◌-◌, ◌≤◌, ◌<◌, min}
use native.Mathlib.Nat.{eq-or-lt_of_le}
use native.Mathlib.Omega.{arith}
use mathlib.Core.Path.{◌≡◌, refl, sym, ◌∙◌}
use mathlib.Core.Logic.{◌⊎◌, inl, inr}
use mathlib.Core.List.{List}
use lib.ListN.{length, get_or, set, replicate, length-set}
use lib.Seq.{get_or-set_same, get_or-set_other}
use Rattle.lists.proofs.Parts.{get_d-zeros}
use Rattle.split.specs.Splits.{no_split}
use Rattle.split.specs.Table.{stepped}
use Rattle.split.specs.Working.{Stepping, Periods}
use Rattle.split.proofs.Stepped.{stepped-zero, stepped-le-mark, stepped-step}

module _ {size step cost : ℕ} {line : List ℕ} (s : Stepping size step cost line) where
  zero : stepped step cost line 0 ≡ 0
  zero = stepped-zero step cost line s.step-pos s.rising

  pub periods-none : Periods size step cost line 0 (replicate 8_193 0)
  periods-none =
      record {
        room = refl;
        entries = λ j h. let e : j - size ≡ 0 = omega arith in get_d-zeros 8_193 j ∙ rw e (sym zero);
      }

  -- an entry of the first period, and one of a later
  pub first_entry : (i : ℕ) {entry : ℕ} → i < step → entry ≡ min (get_or line i 0) cost → entry ≡ stepped step cost line i
  first_entry i h e =
      let q : i - step ≡ 0 = omega arith in
      let l = rw q at (stepped-step step cost line s.step-pos i) in
      omega (arith, zero)

  module _ {i : ℕ} {periods : List ℕ} (p : Periods size step cost line i periods) where
    pub entry-le : (j : ℕ) → j < size + i → get_or periods j 0 ≤ no_split
    entry-le j h = rw (p.entries j h) (stepped-le-mark step cost line s.step-pos s.rising (j - size))

    pub next-entry : {entry : ℕ} → step ≤ i → entry ≡ min (get_or line i 0) (cost + get_or periods (size + i - step) 0)
        → entry ≡ stepped step cost line i
    next-entry h e =
        let pos = s.step-pos in
        let q : size + i - step - size ≡ i - step = omega arith in
        let earlier = rw q at (p.entries (size + i - step) (omega arith)) in
        let l = stepped-step step cost line pos i in
        omega arith

    -- one entry more
    pub periods-more : (entry : ℕ) → i < length line → entry ≡ stepped step cost line i
        → Periods size step cost line (i + 1) (set periods (size + i) entry)
    periods-more entry turn e =
        record {
          room = length-set periods (size + i) entry ∙ p.room;
          entries = λ j g. let q : size + (i + 1) ≡ 1 + (size + i) = omega arith in stored j (eq-or-lt_of_le (omega arith));
        }
      where
        stored : (j : ℕ) → (j ≡ size + i) ⊎ (j < size + i) → get_or (set periods (size + i) entry) j 0 ≡ stepped step cost line (j - size)
        stored j (inl q) =
            let l = p.room in
            let m = s.size-le in
            let n = s.small in
            let b : size + i - size ≡ i = omega arith in
            rw (q, b) (get_or-set_same periods (size + i) entry 0 (omega arith) ∙ e)
        stored j (inr g) = get_or-set_other periods (size + i) j entry 0 (λ q. omega arith) ∙ p.entries j g

    -- those of no more records than there are
    pub periods-of : {n : ℕ} → i ≡ n → Periods size step cost line n periods
    periods-of e = rw (sym e) p
