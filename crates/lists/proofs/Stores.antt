-- Runs of stores: one after another, what they leave, and where they stand. Assumes nothing.
use Prim.Native.Nat.{ℕ, suc, ◌+◌, ◌≤◌, ◌<◌}
use native.Mathlib.Omega.{arith}
use native.Mathlib.Nat.{add-zero, zero-add, le_of_lt}
use mathlib.Core.Path.{◌≡◌, refl, ◌∙◌}
use mathlib.Core.List.{List, [], ◌∷◌, ◌++◌, map}
use lib.ListN.{length, take, drop, set, length-append}
use native.Mathlib.Numerals.{add-one}
use Rattle.lists.specs.Lists.{up_to}
use Rattle.lists.proofs.UpTo.{map-up_to-suc, length-map-up_to}
use lib.Seq.{sets, length-sets, sets-eq, set_split, take_at, drop_at, take-set-le, drop-set-lt, drop-append-le, length-take-le}

module _ {A : Type 0} where
  -- a list from a place on where an element was stored
  pub drop-set-same : (l : List A) (i : ℕ) (a : A) → i < length l → drop i (set l i a) ≡ a ∷ drop (suc i) l
  drop-set-same l i a h =
      rw (set_split l i a h) (drop_at (take i l) (a ∷ drop (suc i) l) i (length-take-le i l (le_of_lt h)))

  -- two runs, the second where the first ends, are one run
  pub sets-append : (l : List A) (i : ℕ) (vs ws : List A) → sets l i (vs ++ ws) ≡ sets (sets l i vs) (i + length vs) ws
  sets-append l i [] ws = rw add-zero
  sets-append l i (a ∷ vs) ws =
      let e : i + suc (length vs) ≡ suc i + length vs = omega arith in
      rw e (sets-append (set l i a) (suc i) vs ws)

  -- a run from the start, and the rest as it was
  pub sets-start : (l vs : List A) → length vs ≤ length l → sets l 0 vs ≡ vs ++ drop (length vs) l
  sets-start l vs h = sets-eq vs l 0 (rw zero-add h) ∙ rw zero-add

  -- a run leaves what stands before it, and what stands after it
  pub take-sets-le : (vs l : List A) (i n : ℕ) → n ≤ i → take n (sets l i vs) ≡ take n l
  take-sets-le [] l i n h = refl
  take-sets-le (a ∷ vs) l i n h = take-sets-le vs (set l i a) (suc i) n (omega arith) ∙ take-set-le n l i a h

  pub drop-sets-ge : (vs l : List A) (i n : ℕ) → i + length vs ≤ n → drop n (sets l i vs) ≡ drop n l
  drop-sets-ge [] l i n h = refl
  drop-sets-ge (a ∷ vs) l i n h = drop-sets-ge vs (set l i a) (suc i) n (omega arith) ∙ drop-set-lt n l i a (omega arith)

  -- a run that fits stands in its place
  pub take-drop-sets : (vs l : List A) (i : ℕ) → i + length vs ≤ length l → take (length vs) (drop i (sets l i vs)) ≡ vs
  take-drop-sets vs l i h =
      let e = length-take-le i l (omega arith) in
      rw (
        sets-eq vs l i h,
        drop-append-le i (take i l ++ vs) (drop (i + length vs) l) (omega (arith, length-append (take i l) vs)),
        drop_at (take i l) vs i e,
      )
      (take_at vs (drop (i + length vs) l) (length vs) refl)

  -- the elements f 0, f 1, .. stored from place `at` on
  module _ (at : ℕ) (l : List A) (f : ℕ → A) where
    abbrev pub stored_to : (i : ℕ) → List A
    stored_to i = sets l at (map f (up_to i))

    pub stored-none : l ≡ stored_to 0
    unfolding up_to
    stored-none = refl

    pub length-stored : (i : ℕ) {work : List A} → work ≡ stored_to i → length work ≡ length l
    length-stored i e = rw e (length-sets l at (map f (up_to i)))

    pub stored_next : (i : ℕ) (v : A) {work : List A} → work ≡ stored_to i → v ≡ f i → set work (at + i) v ≡ stored_to (i + 1)
    stored_next i v e q =
        rw (e, q, add-one i, map-up_to-suc f i, sets-append l at (map f (up_to i)) (f i ∷ []), length-map-up_to f i) refl
