-- The numbers below n, and lists made from them. Assumes nothing.
use Prim.Native.Nat.{ℕ, zero, suc, ◌<◌, ◌≤◌}
use native.Mathlib.Omega.{arith}
use native.Mathlib.Nat.{not-suc-le-zero, le_of_suc-le-suc, le_refl, eq-or-lt_of_le}
use mathlib.Core.Path.{◌≡◌, refl, sym, ◌∙◌, ap, subst}
use mathlib.Core.Logic.{⊎_elim}
use mathlib.Core.List.{List, [], ◌∷◌, ◌++◌, map, map-append}
use lib.ListN.{length, get_or, take, length-append, length-map, get_or-append}
use lib.Seq.{get_or_at, take-suc, take-length}
use Rattle.lists.specs.Lists.{All, up_to}
use Rattle.lists.proofs.Alls.{all_append}

pub length-up_to : (n : ℕ) → length (up_to n) ≡ n
unfolding up_to
length-up_to zero = refl
length-up_to (suc n) = length-append (up_to n) (n ∷ []) ∙ rw (length-up_to n) (omega arith)

pub all-up_to : (P : ℕ → Type 0) (n : ℕ) → ((i : ℕ) → i < n → P i) → All P (up_to n)
unfolding up_to
all-up_to P zero h = tt
all-up_to P (suc n) h =
    all_append P (up_to n) (n ∷ []) (all-up_to P n (λ i lt. h i (omega arith))) (h n (omega arith), tt)

module _ {A : Type 0} where
  pub map-up_to-suc : (f : ℕ → A) (n : ℕ) → map f (up_to (suc n)) ≡ map f (up_to n) ++ (f n ∷ [])
  unfolding up_to
  map-up_to-suc f n = map-append f (up_to n) (n ∷ [])

  pub length-map-up_to : (f : ℕ → A) (n : ℕ) → length (map f (up_to n)) ≡ n
  length-map-up_to f n = length-map (up_to n) f ∙ length-up_to n

  pub get_d-map-up_to : (f : ℕ → A) (n i : ℕ) (d : A) → i < n → get_or (map f (up_to n)) i d ≡ f i
  get_d-map-up_to f zero i d lt = absurd (not-suc-le-zero lt)
  get_d-map-up_to f (suc n) i d lt =
      rw (map-up_to-suc f n) (⊎_elim last (λ h. before h (get_d-map-up_to f n i d h)) (eq-or-lt_of_le (le_of_suc-le-suc lt)))
    where
      last : i ≡ n → get_or (map f (up_to n) ++ (f n ∷ [])) i d ≡ f i
      last e = get_or_at (map f (up_to n)) (f n) [] d i (length-map-up_to f n ∙ sym e) ∙ ap f (sym e)

      before : i < n → get_or (map f (up_to n)) i d ≡ f i → get_or (map f (up_to n) ++ (f n ∷ [])) i d ≡ f i
      before h ih =
          get_or-append (map f (up_to n)) (f n ∷ []) d i (subst (λ (m : ℕ). i < m) (sym (length-map-up_to f n)) h)
          ∙ ih

  -- lists made by functions that agree below n are equal
  pub map-up_to-congr : (f g : ℕ → A) (n : ℕ) → ((i : ℕ) → i < n → f i ≡ g i) → map f (up_to n) ≡ map g (up_to n)
  unfolding up_to
  map-up_to-congr f g zero h = refl
  map-up_to-congr f g (suc n) h =
      rw (map-up_to-suc f n, map-up_to-suc g n, map-up_to-congr f g n (λ i lt. h i (omega arith)), h n (omega arith))

  -- a list whose first n elements are f's values in order
  pub take-map-up_to : (f : ℕ → A) (l : List A) (d : A) (n : ℕ) → n ≤ length l → ((i : ℕ) → i < n → get_or l i d ≡ f i)
      → take n l ≡ map f (up_to n)
  unfolding up_to
  take-map-up_to f l d zero h e = refl
  take-map-up_to f l d (suc n) h e =
      rw (
        take-suc l n d h,
        take-map-up_to f l d n (omega arith) (λ i lt. e i (omega arith)),
        e n (omega arith),
        map-up_to-suc f n,
      )

  -- a list's elements in order are the list
  pub map-get_d-up_to : (l : List A) (d : A) (n : ℕ) → length l ≡ n → map (λ i. get_or l i d) (up_to n) ≡ l
  map-get_d-up_to l d n e =
      rw (← e) (sym (take-map-up_to (λ i. get_or l i d) l d (length l) (le_refl _) (λ i lt. refl)) ∙ take-length l)
