-- Parts of lists: from a place on, and between two places; elements of an array of zeros. Assumes nothing.
use Prim.Native.Nat.{ℕ, zero, suc, ◌+◌, ◌-◌, ◌≤◌, ◌<◌, suc-le-suc}
use native.Mathlib.Nat.{zero-lt-suc, sub-zero, zero-sub, suc-sub-suc}
use native.Mathlib.Numerals.{add-one}
use native.Mathlib.Omega.{arith}
use mathlib.Core.Path.{◌≡◌, refl, sym, ◌∙◌, ap}
use mathlib.Core.List.{List, [], ◌∷◌}
use lib.ListN.{length, get_or, take, drop, replicate, length-replicate, replicate-append-replicate}
use lib.Seq.{slice, take-nil, drop-nil, drop-cons, take_at, drop_at}

module _ {A : Type 0} where
  -- a list from place i on that has a first element: i is a place of the list, and that element stands there
  pub lt-of-drop-cons : (l : List A) (i : ℕ) {a : A} {t : List A} → drop i l ≡ a ∷ t → i < length l
  lt-of-drop-cons [] i {t = t} e =
      let none : 0 ≡ suc (length t) = ap length (sym (drop-nil i) ∙ e) in
      omega arith
  lt-of-drop-cons (b ∷ l) zero e = zero-lt-suc (length l)
  lt-of-drop-cons (b ∷ l) (suc i) e = suc-le-suc (lt-of-drop-cons l i e)

  pub get_d-of-drop-cons : (l : List A) (i : ℕ) (d : A) {a : A} {t : List A} → drop i l ≡ a ∷ t → get_or l i d ≡ a
  get_d-of-drop-cons l i d e = cc (drop-cons l i d (lt-of-drop-cons l i e))

  pub drop-suc-of-drop-cons : (l : List A) (i : ℕ) {a : A} {t : List A} → drop i l ≡ a ∷ t → drop (suc i) l ≡ t
  drop-suc-of-drop-cons l i {a = a} e = cc (drop-cons l i a (lt-of-drop-cons l i e))

  -- `drop-cons` as code counts
  pub drop-next : (l : List A) (i : ℕ) (d : A) → i < length l → drop i l ≡ get_or l i d ∷ drop (i + 1) l
  drop-next l i d h = rw add-one (drop-cons l i d h)

  pub slice-eq-take-drop : (f t : ℕ) (l : List A) → slice f t l ≡ take (t - f) (drop f l)
  slice-eq-take-drop zero t l = rw sub-zero
  slice-eq-take-drop (suc f) zero l = rw zero-sub
  slice-eq-take-drop (suc f) (suc t) [] = sym (take-nil (suc t - suc f))
  slice-eq-take-drop (suc f) (suc t) (a ∷ l) = rw suc-sub-suc (slice-eq-take-drop f t l)

  -- as many of the same elements from the front as from the back
  pub take-replicate : (n k : ℕ) (a : A) → n ≤ k → take (k - n) (replicate k a) ≡ drop n (replicate k a)
  take-replicate n k a h =
      let front : k - n + n ≡ k = omega arith in
      let back : n + (k - n) ≡ k = omega arith in
      ap (λ (l : List A). take (k - n) l) (sym (replicate-append-replicate (k - n) n a ∙ ap (λ m. replicate m a) front))
      ∙ take_at (replicate (k - n) a) (replicate n a) (k - n) (length-replicate (k - n) a)
      ∙ sym (drop_at (replicate n a) (replicate (k - n) a) n (length-replicate n a))
      ∙ ap (λ (l : List A). drop n l) (replicate-append-replicate n (k - n) a ∙ ap (λ m. replicate m a) back)

pub get_d-zeros : (n i : ℕ) → ◌≡◌ {A = ℕ} (get_or (replicate n 0) i 0) 0
get_d-zeros zero i = refl
get_d-zeros (suc n) zero = refl
get_d-zeros (suc n) (suc i) = get_d-zeros n i
