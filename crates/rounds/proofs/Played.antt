-- What the code's loops hold: the least over the pairs gone through, and the most over the nodes gone through, whatever the table
-- lists. Assumes nothing.
use Prim.Native.Nat.{ℕ, zero, suc, ◌+◌, ◌-◌, ◌^◌, min, max, ◌<◌}
use native.Mathlib.Omega.{arith}
use mathlib.Core.Path.{◌≡◌, refl, sym, ◌∙◌, ap, ap₂, subst}
use mathlib.Core.Bool.{Bool, true, false, not, cond, ◌&&◌}
use mathlib.Core.List.{List, [], ◌∷◌, ◌++◌}
use lib.ListN.{length, get_or}
use Rattle.lists.specs.Lists.{up_to}
use Rattle.rounds.specs.Game.{least_over, most_over, down, mended, pairs, both_work, cut, best_cut, crew, storm}
use Rattle.rounds.specs.States.{down_in, Lists, StormGives, CrewGives, StateAsked}
use Rattle.rounds.proofs.Moves.{least-snoc, most-snoc, pairs_to, pairs_to-none, pairs_to-all, pairs_to-next}
use Rattle.rounds.proofs.Counts.{down-other}
use Rattle.rounds.proofs.States.{state-down, down-inside, state-mended, states-few}

module _ (table : List ℕ) (n b repairs state : ℕ) where
  -- the storm's least over these pairs
  abbrev pub StormOver : List (ℕ × ℕ) → (fewest : ℕ) → Type 0
  StormOver moves fewest =
      (value : (ℕ → Bool) → ℕ) → Lists n table value
      → fewest ≡ least_over b (both_work (down_in state)) (λ pair. crew n b value repairs (cut pair (down_in state))) moves

  pub storm-start : StormOver (pairs 0) b
  unfolding pairs least_over
  storm-start value l = refl

  -- a pair that may not be cut
  storm-pass : (moves : List (ℕ × ℕ)) (pair : ℕ × ℕ) (fewest : ℕ) → both_work (down_in state) pair ≡ false
      → StormOver moves fewest → StormOver (moves ++ (pair ∷ [])) fewest
  storm-pass moves pair fewest e h value l =
      h value l
      ∙ sym (least-snoc (both_work (down_in state)) (λ p. crew n b value repairs (cut p (down_in state))) b moves pair ∙ rw e)

  pub storm-down : (v u fewest : ℕ) → down_in state u ≡ true → StormOver (pairs_to v u) fewest → StormOver (pairs_to v (suc u)) fewest
  storm-down v u fewest e h =
      subst (λ moves. StormOver moves fewest) (sym (pairs_to-next v u)) (storm-pass (pairs_to v u) (u, v) fewest (rw e) h)

  pub storm-inner : (v fewest : ℕ) → StormOver (pairs v) fewest → StormOver (pairs_to v 0) fewest
  storm-inner v fewest h = subst (λ moves. StormOver moves fewest) (sym (pairs_to-none v)) h

  pub storm-outer : (v u fewest : ℕ) → u ≡ v → StormOver (pairs_to v u) fewest → StormOver (pairs (v + 1)) fewest
  storm-outer v u fewest e h =
      let next : suc v ≡ v + 1 = omega arith in
      subst (λ moves. StormOver moves fewest) (ap (pairs_to v) e ∙ pairs_to-all v ∙ ap pairs next) h

  -- a failed node is in no cut
  pub storm-skip : (v fewest : ℕ) → down_in state v ≡ true → StormOver (pairs v) fewest → StormOver (pairs (v + 1)) fewest
  storm-skip v fewest e h = storm-outer v v fewest refl (go v)
    where
      absent : (u : Bool) → (not u && not (down_in state v)) ≡ false
      absent true = refl
      absent false = rw e

      go : (u : ℕ) → StormOver (pairs_to v u) fewest
      go zero = storm-inner v fewest h
      go (suc u) =
          subst (λ moves. StormOver moves fewest) (sym (pairs_to-next v u))
          (storm-pass (pairs_to v u) (u, v) fewest (absent (down_in state u)) (go u))

  -- two working nodes go down
  both-down : (v u : ℕ) → u < v → down_in state v ≡ false → down_in state u ≡ false
      → down_in (state + 2 ^ v + 2 ^ u) ≡ cut (u, v) (down_in state)
  both-down v u h e d =
      let one = state-down state v e in
      state-down (state + 2 ^ v) u (ap (λ f. f u) one ∙ down-other u v (down_in state) h ∙ d) ∙ ap (down u) one

  pub both-inside : (v u : ℕ) → u < v → v < n → state < 2 ^ n → down_in state v ≡ false → down_in state u ≡ false
      → state + 2 ^ v + 2 ^ u < 2 ^ n
  both-inside v u h g i e d =
      down-inside n (state + 2 ^ v) u (omega arith) (down-inside n state v g i e)
      (ap (λ f. f u) (state-down state v e) ∙ down-other u v (down_in state) h ∙ d)

  pub storm-cut : (v u fewest given : ℕ) → u < v → down_in state v ≡ false → down_in state u ≡ false
      → CrewGives table n b repairs (state + 2 ^ v + 2 ^ u) given → StormOver (pairs_to v u) fewest
      → StormOver (pairs_to v (suc u)) (min fewest given)
  storm-cut v u fewest given less e d made h = λ value l.
      rw (pairs_to-next v u, least-snoc (both_work (down_in state)) (λ p. crew n b value repairs (cut p (down_in state))) b (pairs_to v u) (u, v), e, d)
      (ap₂ min (h value l) (made value l ∙ ap (crew n b value repairs) (both-down v u less e d)))

  pub storm-done : (v fewest : ℕ) → v ≡ n → StormOver (pairs v) fewest → StormGives table n b repairs state fewest
  unfolding best_cut
  storm-done v fewest e h value l =
      h value l
      ∙ ap (λ m. least_over b (both_work (down_in state)) (λ pair. crew n b value repairs (cut pair (down_in state))) (pairs m)) e

  -- the crew's most over the nodes below v, with so many repairs to come after this one
  abbrev pub CrewOver : (v most : ℕ) → Type 0
  CrewOver v most =
      (value : (ℕ → Bool) → ℕ) → Lists n table value
      → most ≡ most_over (down_in state) (λ w. storm n b value repairs (mended w (down_in state))) (up_to v)

  pub crew-start : CrewOver 0 0
  unfolding most_over up_to
  crew-start value l = refl

  -- one node more
  crew-next : (v : ℕ) (gives : ℕ → ℕ) → most_over (down_in state) gives (up_to (v + 1))
      ≡ cond (down_in state v) (max (most_over (down_in state) gives (up_to v)) (gives v)) (most_over (down_in state) gives (up_to v))
  unfolding up_to
  crew-next v gives =
      let next : v + 1 ≡ suc v = omega arith in
      ap (λ m. most_over (down_in state) gives (up_to m)) next ∙ most-snoc (down_in state) gives (up_to v) v

  pub crew-pass : (v most : ℕ) → down_in state v ≡ false → CrewOver v most → CrewOver (v + 1) most
  crew-pass v most e h value l =
      h value l ∙ sym (crew-next v (λ w. storm n b value repairs (mended w (down_in state))) ∙ rw e)

  -- a failed node works again
  pub crew-mend : (v most given : ℕ) → down_in state v ≡ true → StormGives table n b repairs (state - 2 ^ v) given
      → CrewOver v most → CrewOver (v + 1) (max most given)
  crew-mend v most given e made h value l =
      rw (crew-next v (λ w. storm n b value repairs (mended w (down_in state))), e)
      (ap₂ max (h value l) (made value l ∙ ap (storm n b value repairs) (state-mended state v e)))

module _ (table : List ℕ) (n b repairs state : ℕ) where
  pub crew-done : (v most : ℕ) → v ≡ n → 0 < repairs → CrewOver table n b (repairs - 1) state v most
      → CrewGives table n b repairs state most
  unfolding crew
  crew-done v most e some h value l =
      let more : suc (repairs - 1) ≡ repairs = omega arith in
      h value l
      ∙ ap (λ m. most_over (down_in state) (λ w. storm n b value (repairs - 1) (mended w (down_in state))) (up_to m)) e
      ∙ ap (λ c. crew n b value c (down_in state)) more

  -- after the last cut the records are counted
  pub crew-last : repairs ≡ 0 → state < 2 ^ n → CrewGives table n b repairs state (get_or table state 0)
  unfolding crew
  crew-last e inside value l = l state inside ∙ ap (λ c. crew n b value c (down_in state)) (sym e)

  -- what is asked of the states that the two hand on
  pub held : StateAsked table n state → state < length table
  held a = omega (arith, a.inside, a.held, states-few n a.few)

  pub asked-both : (v u : ℕ) → StateAsked table n state → u < v → v < n → down_in state v ≡ false → down_in state u ≡ false
      → StateAsked table n (state + 2 ^ v + 2 ^ u)
  asked-both v u a h g e d =
      record { few = a.few; inside = both-inside table n b repairs state v u h g a.inside e d; held = a.held }

  pub asked-back : (v : ℕ) → StateAsked table n state → StateAsked table n (state - 2 ^ v)
  asked-back v a = record { few = a.few; inside = omega (arith, a.inside); held = a.held }
