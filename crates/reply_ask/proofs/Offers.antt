-- What `ask` prints, from the answer of the call. Assumes nothing.
use Prim.Native.Nat.{ℕ, ◌≤◌}
use Rattle.std.specs.Prelude.{Ok, Err}
use native.Mathlib.Omega.{arith}
use mathlib.Core.Path.{◌≡◌, refl, ◌∙◌, ap}
use mathlib.Core.List.{List, [], ◌∷◌, ◌++◌}
use lib.ListN.{length, get_or}
use Rattle.refusal.specs.declared.Refusal.{Refusal}
use Rattle.refusal.specs.Checked.{Checked, accepted, refused, map_accepted}
use Rattle.layers.specs.Answers.{five}
use Rattle.placement.specs.declared.Order.{Order}
use Rattle.planner.specs.Planning.{work_most}
use Rattle.commit.specs.Asking.{Offer, offer_values, ask, ask_answer, AskDone}
use Rattle.commit.specs.declared.AskResult.{AskResult}
use Rattle.report.specs.Programs.{rest, refused_line, or_refused_line}
use Rattle.call_replies.specs.Committing.{offered_word, offered_line, ask_text}
use Rattle.call_replies.specs.Offers.{eleven_of}
use Rattle.call_replies.proofs.Slices.{ask-most}

-- the five elements of an array of five
abbrev elements : List ℕ → List ℕ
elements l = get_or l 0 0 ∷ get_or l 1 0 ∷ get_or l 2 0 ∷ get_or l 3 0 ∷ get_or l 4 0 ∷ []

five-elements : (l : List ℕ) → five 0 l ≡ elements (five 0 l)
five-elements [] = refl
five-elements (a ∷ []) = refl
five-elements (a ∷ b ∷ []) = refl
five-elements (a ∷ b ∷ c ∷ []) = refl
five-elements (a ∷ b ∷ c ∷ d ∷ []) = refl
five-elements (a ∷ b ∷ c ∷ d ∷ e ∷ l) = refl

offer-elements : (offer : Offer) → offer_values offer ≡ eleven_of offer.figure (five 0 offer.counts) (five 0 offer.copies)
offer-elements offer =
    ap (λ l. offer.figure ∷ (l ++ five 0 offer.copies)) (five-elements offer.counts)
    ∙ ap (λ l. offer.figure ∷ (elements (five 0 offer.counts) ++ l)) (five-elements offer.copies)

module _ (pack : List ℕ) (order : Order) {work worked : List ℕ} {result : AskResult} (entries : work_most ≤ length work)
    (done : AskDone order (ask pack order (length work)) work worked result) where
  answered : result ≡ ask_answer (ask pack order work_most)
  answered = done.answer ∙ ap ask_answer (ask-most pack order (length work) entries)

  pub ask-offered : {figure : ℕ} → result.answer ≡ Ok figure
      → ask_text order pack ≡ offered_word ++ rest (eleven_of figure result.counts result.copies)
  unfolding ask_text
  ask-offered {figure} a = go (ask pack order work_most) answered
    where
      go : (o : Checked Offer) → result ≡ ask_answer o
          → or_refused_line (map_accepted offered_line o) ≡ offered_word ++ rest (eleven_of figure result.counts result.copies)
      go (accepted offer) e =
          let told = ap (λ r. r.answer) e in
          let same : offer.figure ≡ figure = cc in
          rw (e, ← same) (ap (λ numbers. offered_word ++ rest numbers) (offer-elements offer))
      go (refused why) e = let told = ap (λ r. r.answer) e in absurd (let z : ◌≡◌ {A = ℕ} 0 1 = cc in omega arith)

  pub ask-refused : {why : Refusal} → result.answer ≡ Err why → ask_text order pack ≡ refused_line why
  unfolding ask_text
  ask-refused {why} a = go (ask pack order work_most) (ap (λ r. r.answer) answered)
    where
      go : (o : Checked Offer) → result.answer ≡ (ask_answer o).answer → or_refused_line (map_accepted offered_line o) ≡ refused_line why
      go (accepted offer) e = absurd (let z : ◌≡◌ {A = ℕ} 0 1 = cc in omega arith)
      go (refused other) e = let same : other ≡ why = cc in rw same
