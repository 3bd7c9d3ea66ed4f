-- Texts of one length, joined: their length, each of them as its part, and storing one after another. Assumes nothing.
use Prim.Native.Nat.{ℕ, zero, suc, ◌+◌, ◌*◌, ◌<◌}
use native.Mathlib.Omega.{arith}
use native.Mathlib.Numerals.{add-one}
use native.Mathlib.Nat.{le_refl, not-suc-le-zero}
use mathlib.Core.Path.{◌≡◌, refl, sym, ◌∙◌, ap}
use mathlib.Core.Bool.{Bool, true, false}
use mathlib.Core.List.{List, [], ◌∷◌, ◌++◌, map, flatten, append_assoc, append-nil}
use lib.ListN.{length, take, drop, length-append}
use lib.Seq.{sets, take_at, drop_at}
use lib.Dec.{ltb}
use borrow.Author.Tests.{ltb-true, ltb-false}
use Rattle.lists.specs.Lists.{All, up_to}
use Rattle.lists.proofs.Alls.{all_append}
use Rattle.lists.proofs.Counts.{flatten-append}
use Rattle.lists.proofs.Stores.{sets-append}
use Rattle.lists.proofs.UpTo.{map-up_to-suc}

-- what is stored right after what was stored
pub sets-after : (l : List ℕ) (at next : ℕ) (a b : List ℕ) → next ≡ at + length a
    → sets (sets l at a) next b ≡ sets l at (a ++ b)
sets-after l at next a b e = rw e (sym (sets-append l at a b))

module _ (f : ℕ → List ℕ) where
  -- the first n texts
  abbrev pub joined : ℕ → List ℕ
  joined n = flatten (map f (up_to n))

  pub joined-suc : (n : ℕ) → joined (suc n) ≡ joined n ++ f n
  unfolding flatten
  joined-suc n =
      ap flatten (map-up_to-suc f n) ∙ flatten-append (map f (up_to n)) (f n ∷ [])
      ∙ ap (λ (l : List ℕ). joined n ++ l) (append-nil (f n))

  pub all-joined : (P : ℕ → Type 0) (n : ℕ) → ((i : ℕ) → i < n → All P (f i)) → All P (joined n)
  unfolding flatten up_to
  all-joined P zero h = tt
  all-joined P (suc n) h =
      rw (joined-suc n) (all_append P (joined n) (f n) (all-joined P n (λ i lt. h i (omega arith))) (h n (le_refl (suc n))))

  module _ (w : ℕ) where
    pub length-joined : (n : ℕ) → ((i : ℕ) → i < n → length (f i) ≡ w) → length (joined n) ≡ w * n
    unfolding flatten up_to
    length-joined zero h = omega arith
    length-joined (suc n) h =
        rw (joined-suc n, length-append (joined n) (f n))
        (omega (arith, length-joined n (λ i lt. h i (omega arith)), h n (le_refl (suc n))))

    -- text i is the part from w × i on
    pub joined-part : (n i : ℕ) (rest : List ℕ) → i < n → ((i : ℕ) → i < n → length (f i) ≡ w)
        → take w (drop (w * i) (joined n ++ rest)) ≡ f i
    joined-part zero i rest lt h = absurd (not-suc-le-zero lt)
    joined-part (suc n) i rest lt h =
        rw (joined-suc n, append_assoc (joined n) (f n) rest)
        (go (ltb i n) refl (λ less. joined-part n i (f n ++ rest) less (λ j few. h j (omega arith))))
      where
        go : (t : Bool) → ltb i n ≡ t → (i < n → take w (drop (w * i) (joined n ++ (f n ++ rest))) ≡ f i)
            → take w (drop (w * i) (joined n ++ (f n ++ rest))) ≡ f i
        go true e before = before (ltb-true i n e)
        go false e before =
            let same : i ≡ n = let g = ltb-false i n e in omega arith in
            rw (same, drop_at (joined n) (f n ++ rest) (w * n) (length-joined n (λ j less. h j (omega arith))))
            (take_at (f n) rest w (h n (le_refl (suc n))))

    -- the texts before i are stored from `at` on: one more
    pub joined-next : (out₀ : List ℕ) (at i : ℕ) {out : List ℕ} → ((j : ℕ) → j < i → length (f j) ≡ w)
        → out ≡ sets out₀ at (joined i) → sets out (at + w * i) (f i) ≡ sets out₀ at (joined (i + 1))
    joined-next out₀ at i h e =
        rw (e, add-one i, joined-suc i)
        (sets-after out₀ at (at + w * i) (joined i) (f i) (omega (arith, length-joined i h)))

  pub joined-none : (out₀ : List ℕ) (at : ℕ) → out₀ ≡ sets out₀ at (joined 0)
  unfolding flatten up_to
  joined-none out₀ at = refl
