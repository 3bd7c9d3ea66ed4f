-- One pass over the log gives what checking the whole log and then counting gives. Assumes nothing.
use Prim.Native.Nat.{ℕ, zero, suc, ◌+◌, ◌≤◌, ◌<◌}
use native.Mathlib.Omega.{arith}
use native.Mathlib.Nat.{eq-or-lt_of_le}
use mathlib.Core.Logic.{⊎_elim}
use mathlib.Core.Path.{◌≡◌, refl, sym, ◌∙◌, ap, ap₂}
use mathlib.Core.Bool.{Bool, true, false, cond, ◌&&◌}
use mathlib.Core.List.{List, [], ◌∷◌}
use mathlib.Core.Option.{Option, none, some}
use lib.ListN.{length, get_or}
use lib.Dec.{ltb, eqb}
use borrow.Author.Tests.{lt-ltb, le-ltb, eqb-true, eqb-false}
use Rattle.lists.specs.Lists.{All, tally, count}
use Rattle.lists.proofs.Arith.{le-or-lt}
use Rattle.lists.proofs.Alls.{all-imp, all-get_d-default}
use Rattle.lists.proofs.Counts.{count-congr-all}
use Rattle.lists.proofs.CountUpTo.{count-up_to-congr, count-get_d}
use Rattle.refusal.specs.Checked.{Checked, accepted, refused, ◌>>=◌}
use Rattle.packing.specs.Failures.{usable, hits}
use Rattle.worst.specs.Records.{IndexOf}
use Rattle.replay.specs.declared.Event.{Event}
use Rattle.replay.specs.declared.Replayed.TheVariants.{Lowest as Lows}
use Rattle.replay.specs.Log.{down_after, check_event, check_events}
use Rattle.replay.specs.Replays.{Lowest, lowered, lowest_from}
use Rattle.replay.specs.Answers.{lowest_answer, replay_answer}
use Rattle.replay.specs.Board.{lowered_to, onward, one_pass, on_down, value_by}

-- the answer after one event more, as an answer and as what it says
lowered-at : (number i low : ℕ) (at : Option ℕ) → let found : Lowest = record { number = low; event = at } in
    lowered_to number i (lowest_answer low at) ≡ lowest_answer (lowered number i found).number (lowered number i found).event
lowered-at number i low none = refl
lowered-at number i low (some j) = two (ltb number low)
  where
    two : (t : Bool) → let after : Lowest = cond t (record { number = number; event = some i }) (record { number = low; event = some j }) in
        cond t (Lows number i) (Lows low j) ≡ lowest_answer after.number after.event
    two true = refl
    two false = refl

lowered-same : (number i : ℕ) (found : Lowest)
    → lowered_to number i (lowest_answer found.number found.event)
    ≡ lowest_answer (lowered number i found).number (lowered number i found).event
lowered-same number i found = lowered-at number i found.number found.event

pub pass_same : (n : ℕ) (value : (ℕ → Bool) → ℕ) (i time : ℕ) (down : ℕ → Bool) (log : List Event) (found : Lowest)
    → one_pass n value i time down log (lowest_answer found.number found.event)
    ≡ replay_answer (check_events n i time down log >>= λ _. accepted (lowest_from value i down log found))
unfolding one_pass check_events lowest_from
pass_same n value i time down [] found = refl
pass_same n value i time down (e ∷ log) found =
    go (check_event n i time down e)
    (ap (one_pass n value (suc i) e.time (down_after down e) log) (lowered-same (value (down_after down e)) i found)
    ∙ pass_same n value (suc i) e.time (down_after down e) log (lowered (value (down_after down e)) i found))
  where
    go : (m : Checked Unit)
        → one_pass n value (suc i) e.time (down_after down e) log (lowered_to (value (down_after down e)) i (lowest_answer found.number found.event))
        ≡ replay_answer (check_events n (suc i) e.time (down_after down e) log >>= λ _. accepted (lowest_from value (suc i) (down_after down e) log (lowered (value (down_after down e)) i found)))
        → onward m (one_pass n value (suc i) e.time (down_after down e) log (lowered_to (value (down_after down e)) i (lowest_answer found.number found.event)))
        ≡ replay_answer ((m >>= λ _. check_events n (suc i) e.time (down_after down e) log) >>= λ _. accepted (lowest_from value (suc i) (down_after down e) log (lowered (value (down_after down e)) i found)))
    go (accepted x) ih = ih
    go (refused why) ih = refl

-- a row's nodes below m that are down
count-below : (down : ℕ → Bool) (m : ℕ) (row : List ℕ)
    → count (λ u. ltb u (suc m) && down u) row ≡ cond (down m) (count (eqb m) row) 0 + count (λ u. ltb u m && down u) row
unfolding count
count-below down m [] = none_of (down m)
  where
    none_of : (t : Bool) → 0 ≡ cond t 0 0 + 0
    none_of true = refl
    none_of false = refl
count-below down m (u ∷ row) = go (eqb m u) refl (count-below down m row)
  where
    go : (t : Bool) → eqb m u ≡ t
        → count (λ u. ltb u (suc m) && down u) row ≡ cond (down m) (count (eqb m) row) 0 + count (λ u. ltb u m && down u) row
        → tally (ltb u (suc m) && down u) (count (λ u. ltb u (suc m) && down u) row)
        ≡ cond (down m) (tally t (count (eqb m) row)) 0 + tally (ltb u m && down u) (count (λ u. ltb u m && down u) row)
    go true e ih =
        let same : u ≡ m = sym (eqb-true m u e) in
        rw (same, lt-ltb m (suc m) (omega arith), le-ltb m m (omega arith), ih) (one (down m) (count (eqb m) row) (count (λ u. ltb u m && down u) row))
      where
        one : (d : Bool) (a b : ℕ) → tally d (cond d a 0 + b) ≡ cond d (suc a) 0 + b
        one true a b = omega arith
        one false a b = refl
    go false e ih =
        let apart = eqb-false m u e in
        rw (below u m apart, ih) (one (ltb u m && down u) (cond (down m) (count (eqb m) row) 0) (count (λ u. ltb u m && down u) row))
      where
        one : (t : Bool) (a b : ℕ) → tally t (a + b) ≡ a + tally t b
        one true a b = omega arith
        one false a b = refl

        below : (u m : ℕ) → (m ≡ u → ⊥) → ltb u (suc m) ≡ ltb u m
        below u m apart =
            ⊎_elim (λ h. rw (lt-ltb u m h, lt-ltb u (suc m) (omega arith)) refl)
            (λ h. ⊎_elim (λ e. absurd (apart e)) (λ more. rw (le-ltb u m (omega arith), le-ltb u (suc m) more) refl) (eq-or-lt_of_le {n = m} {m = u} (omega arith)))
            (le-or-lt (suc u) m)

-- by the index and in the row
on_down-count : {rows : List (List ℕ)} {index : List ℕ} → IndexOf rows index → (down : ℕ → Bool) (i m : ℕ) → m ≤ 256
    → on_down index down i m ≡ count (λ u. ltb u m && down u) (get_or rows i [])
unfolding on_down count
on_down-count {rows} {index} is down i zero h = sym (nothing (get_or rows i []))
  where
    nothing : (row : List ℕ) → count (λ u. ltb u 0 && down u) row ≡ 0
    nothing [] = refl
    nothing (u ∷ row) = rw (le-ltb u 0 (omega arith)) (nothing row)
on_down-count {rows} {index} is down i (suc m) h =
    ap₂ (λ c n. cond (down m) c 0 + n) (is.on-node m i (omega arith)) (on_down-count is down i m (omega arith))
    ∙ sym (count-below down m (get_or rows i []))

-- so the usable records by the index are those of the rows, whichever nodes are down
pub value-usable : {rows : List (List ℕ)} {index : List ℕ} (s : ℕ) → IndexOf rows index → All (All (λ v. v < 256)) rows
    → (down : ℕ → Bool) → value_by index s (length rows) down ≡ usable s rows down
unfolding usable
value-usable {rows} {index} s is small down =
    count-up_to-congr (λ i. ltb (on_down index down i 256) s) (λ i. ltb (hits down (get_or rows i [])) s) (length rows)
    (λ i lt. ap (λ n. ltb n s)
    (on_down-count is down i 256 (omega arith)
    ∙ count-congr-all (λ u. ltb u 256 && down u) down (get_or rows i [])
    (all-imp (λ v. v < 256) (λ u. ltb u 256 && down u ≡ down u) (λ u less. rw (lt-ltb u 256 less) refl) (get_or rows i [])
    (all-get_d-default (All (λ v. v < 256)) rows i [] tt small))))
    ∙ sym (count-get_d (λ row. ltb (hits down row) s) [] rows)
