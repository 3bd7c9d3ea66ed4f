-- Lists that are written: from the front, element by element, and a part at a place. Assumes nothing.
use Prim.Native.Nat.{ℕ, suc, ◌+◌, ◌-◌, ◌<◌}
use native.Mathlib.Nat.{le_of_lt, le_of_eq}
use native.Mathlib.Numerals.{add-one}
use native.Mathlib.Omega.{arith}
use mathlib.Core.Path.{◌≡◌, sym, ap, ◌∙◌}
use mathlib.Core.List.{List, ◌∷◌, ◌++◌, append_assoc, append-nil}
use lib.ListN.{length, get_or, take, drop, set, length-drop, drop_of_length-le}
use lib.Seq.{set_at, append_snoc, take-suc, take-suc-set, take_all, take_at, drop_at, drop-cons, drop-drop, length-take-le}
use Rattle.lists.specs.Lists.{over_start}

module _ {A : Type 0} where
  -- the next element stored: what is written and what is left make the same list
  pub put_next : (l : List A) (k k' : ℕ) (a : A) {m rest whole : List A} → k < length l → k' ≡ suc k → m ≡ a ∷ rest
      → take k l ++ m ≡ whole → take k' (set l k a) ++ rest ≡ whole
  put_next l k k' a {m} {rest} h k≡ m≡ e =
      rw (k≡, take-suc-set l k a h) (append_snoc (take k l) a rest ∙ ap (λ (t : List A). take k l ++ t) (sym m≡) ∙ e)

  -- one element more of s is copied to the front of d
  pub set-take-append-drop : (s d : List A) (j : ℕ) (z : A) → j < length s → j < length d
      → set (take j s ++ drop j d) j (get_or s j z) ≡ take (j + 1) s ++ drop (j + 1) d
  set-take-append-drop s d j z hs hd =
      rw (add-one j, take-suc s j z hs, drop-cons d j z hd)
      (set_at (take j s) (get_or d j z) (drop (suc j) d) (get_or s j z) j (length-take-le j s (le_of_lt hs))
      ∙ sym (append_snoc (take j s) (get_or s j z) (drop (suc j) d)))

  -- all of s is copied
  pub take-append-drop-all : (s d : List A) (j : ℕ) → j ≡ length s → take j s ++ drop j d ≡ over_start s d
  take-append-drop-all s d j e = rw e (ap (λ (l : List A). l ++ drop (length s) d) (take_all (length s) s (omega arith)))

  -- what a list is after its part from place `at` on was lent and given back as `last`
  abbrev pub given_back : (l : List A) (at : ℕ) (last : List A) → List A
  given_back l at last = take at l ++ (last ++ drop (length l - at) (drop at l))

  -- the part that is lent
  pub take-drop-rest : (l : List A) (at : ℕ) → take (length l - at) (drop at l) ≡ drop at l
  take-drop-rest l at = take_all (length l - at) (drop at l) (le_of_eq (length-drop at l))

  pub append-rest : (l last : List A) (at : ℕ) → given_back l at last ≡ take at l ++ last
  append-rest l last at =
      rw (drop_of_length-le (drop at l) {i = length l - at} (le_of_eq (length-drop at l)), append-nil last)

  -- to a list that begins with p and is the old one from place `at` on, `part` is written at that place
  pub write-part : (p part old l last : List A) (at : ℕ) → length p ≡ at → l ≡ p ++ drop at old
      → last ≡ over_start part (take (length l - at) (drop at l))
      → given_back l at last ≡ p ++ part ++ drop (at + length part) old
  write-part p part old l last at e l≡ last≡ =
      append-rest l last at
      ∙ rw (last≡, take-drop-rest l at, l≡, take_at p (drop at old) at e, drop_at p (drop at old) at e)
      (rw (drop-drop (length part) at old) (sym (append_assoc p part (drop (at + length part) old))))
