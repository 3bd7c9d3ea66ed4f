-- What a replay's answer means: the lowest number over all events, and the first event after which it stood. Assumes nothing.
use Prim.Native.Nat.{ℕ, zero, suc, ◌+◌, ◌≤◌, ◌<◌}
use native.Mathlib.Omega.{arith}
use native.Mathlib.Nat.{add-zero}
use mathlib.Core.Path.{◌≡◌, refl, ◌∙◌}
use mathlib.Core.Logic.{◌⊎◌, inl, inr, ⊎_elim}
use mathlib.Core.Bool.{Bool, true, false, cond}
use mathlib.Core.List.{List, [], ◌∷◌}
use mathlib.Core.Option.{none, some}
use lib.ListN.{length, take}
use lib.Dec.{ltb}
use borrow.Author.Tests.{ltb-true, ltb-false}
use Rattle.replay.specs.declared.Event.{Event}
use Rattle.replay.specs.Log.{down_after, down_by}
use Rattle.replay.specs.Replays.{Lowest, lowest_from}

-- how many records are usable after event t
abbrev pub usable_after : (value : (ℕ → Bool) → ℕ) (down : ℕ → Bool) (log : List Event) (t : ℕ) → ℕ
usable_after value down log t = value (down_by down (take (suc t) log))

-- event t is the first after which the lowest number stood
pub record FirstLow (value : (ℕ → Bool) → ℕ) (down : ℕ → Bool) (log : List Event) (t : ℕ) : Type 0 where
  pub inside : t < length log
  pub least : (u : ℕ) → u < length log → usable_after value down log t ≤ usable_after value down log u
  pub first : (u : ℕ) → u < t → usable_after value down log t < usable_after value down log u

-- nothing lower than what was found before; or something lower, and where it first stood
pub record Lower (value : (ℕ → Bool) → ℕ) (i : ℕ) (down : ℕ → Bool) (log : List Event) (found res : Lowest) : Type 0 where
  pub at : ℕ
  pub low : FirstLow value down log at
  pub less : usable_after value down log at < found.number
  pub is : res ≡ record { number = usable_after value down log at; event = some (i + at) }

pub record Stays (value : (ℕ → Bool) → ℕ) (down : ℕ → Bool) (log : List Event) (found res : Lowest) : Type 0 where
  pub same : res ≡ found
  pub least : (u : ℕ) → u < length log → found.number ≤ usable_after value down log u

module _ (value : (ℕ → Bool) → ℕ) where
  -- an event put in front
  module _ (down : ℕ → Bool) (e : Event) (log : List Event) where
    first-value : usable_after value down (e ∷ log) 0 ≡ value (down_after down e)
    unfolding down_by
    first-value = refl

    next-value : (u : ℕ) → usable_after value down (e ∷ log) (suc u) ≡ usable_after value (down_after down e) log u
    unfolding down_by
    next-value u = refl

    -- the first one is low
    here : ((u : ℕ) → u < length log → value (down_after down e) ≤ usable_after value (down_after down e) log u) → FirstLow value down (e ∷ log) 0
    unfolding down_by
    here h = record { inside = omega arith; least = least; first = λ u lt. absurd (omega arith) }
      where
        least : (u : ℕ) → u < suc (length log) → usable_after value down (e ∷ log) 0 ≤ usable_after value down (e ∷ log) u
        least zero lt = omega arith
        least (suc u) lt = h u (omega arith)

    -- a later one is
    further : (t : ℕ) → FirstLow value (down_after down e) log t → usable_after value (down_after down e) log t < value (down_after down e)
        → FirstLow value down (e ∷ log) (suc t)
    unfolding down_by
    further t low less = record { inside = omega (arith, low.inside); least = least; first = first }
      where
        least : (u : ℕ) → u < suc (length log) → usable_after value down (e ∷ log) (suc t) ≤ usable_after value down (e ∷ log) u
        least zero lt = omega arith
        least (suc u) lt = low.least u (omega arith)

        first : (u : ℕ) → u < suc t → usable_after value down (e ∷ log) (suc t) < usable_after value down (e ∷ log) u
        first zero lt = less
        first (suc u) lt = low.first u (omega arith)

  pub lowest-found : (i : ℕ) (down : ℕ → Bool) (log : List Event) (number j : ℕ) → let found : Lowest = record { number = number; event = some j } in
      Stays value down log found (lowest_from value i down log found) ⊎ Lower value i down log found (lowest_from value i down log found)
  unfolding lowest_from
  lowest-found i down [] number j = inl (record { same = refl; least = λ u lt. absurd (omega arith) })
  lowest-found i down (e ∷ log) number j =
      go (ltb (value (down_after down e)) number) refl (λ m k. lowest-found (suc i) (down_after down e) log m k)
    where
      next-is : (t : ℕ) → let res : Lowest = record { number = usable_after value (down_after down e) log t; event = some (suc i + t) } in
          res ≡ record { number = usable_after value down (e ∷ log) (suc t); event = some (i + suc t) }
      next-is t =
          let q : suc i + t ≡ i + suc t = omega arith in
          rw (q, next-value down e log t) refl

      go : (t : Bool) → ltb (value (down_after down e)) number ≡ t
          → ((m k : ℕ) → let found : Lowest = record { number = m; event = some k } in
          Stays value (down_after down e) log found (lowest_from value (suc i) (down_after down e) log found)
          ⊎ Lower value (suc i) (down_after down e) log found (lowest_from value (suc i) (down_after down e) log found))
          → let found : Lowest = record { number = number; event = some j } in
          let res : Lowest = lowest_from value (suc i) (down_after down e) log (cond t (record { number = value (down_after down e); event = some i }) found) in
          Stays value down (e ∷ log) found res ⊎ Lower value i down (e ∷ log) found res
      go true q ih =
          ⊎_elim
          (λ s. inr
          (record {
            at = 0;
            low = here down e log s.least;
            less = rw (first-value down e log) (ltb-true (value (down_after down e)) number q);
            is = s.same ∙ rw (first-value down e log, add-zero i) refl;
          }))
          (λ l. inr
          (record {
            at = suc l.at;
            low = further down e log l.at l.low l.less;
            less = rw (next-value down e log l.at) (omega (arith, l.less, ltb-true (value (down_after down e)) number q));
            is = l.is ∙ next-is l.at;
          }))
          (ih (value (down_after down e)) i)
      go false q ih =
          ⊎_elim
          (λ s. inl (record { same = s.same; least = stays s.least }))
          (λ l. inr
          (record {
            at = suc l.at;
            low = further down e log l.at l.low (omega (arith, l.less, ltb-false (value (down_after down e)) number q));
            less = rw (next-value down e log l.at) l.less;
            is = l.is ∙ next-is l.at;
          }))
          (ih number j)
        where
          stays : ((u : ℕ) → u < length log → number ≤ usable_after value (down_after down e) log u)
              → (u : ℕ) → u < suc (length log) → number ≤ usable_after value down (e ∷ log) u
          stays h zero lt = rw (first-value down e log) (ltb-false (value (down_after down e)) number q)
          stays h (suc u) lt = rw (next-value down e log u) (h u (omega arith))

  -- "the lowest number of usable records and the first event after which it stood"
  pub lowest-first : (b : ℕ) (down : ℕ → Bool) (log : List Event) → 1 ≤ length log
      → (t : ℕ) × (FirstLow value down log t × (lowest_from value 0 down log (record { number = b; event = none }) ≡ record { number = usable_after value down log t; event = some t }))
  unfolding lowest_from
  lowest-first b down [] h = absurd (omega arith)
  lowest-first b down (e ∷ log) h =
      ⊎_elim
      (λ s. (0, (here down e log s.least, s.same ∙ rw (first-value down e log) refl)))
      (λ l.
      let q : 1 + l.at ≡ suc l.at = omega arith in
      (suc l.at, (further down e log l.at l.low l.less, l.is ∙ rw (q, next-value down e log l.at) refl)))
      (lowest-found 1 (down_after down e) log (value (down_after down e)) 0)
