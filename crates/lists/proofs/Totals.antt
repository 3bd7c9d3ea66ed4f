-- Sums of counts: numbers below n are counted once each. Assumes nothing.
use Prim.Native.Nat.{ℕ, ◌+◌, ◌<◌}
use native.Mathlib.Omega.{arith}
use mathlib.Core.Path.{◌≡◌, refl, ◌∙◌}
use mathlib.Core.Bool.{Bool, true, false}
use mathlib.Core.List.{List, [], ◌∷◌, map}
use lib.ListN.{length}
use lib.Dec.{T, eqb, eqb→eq, eqb_refl}
use Rattle.lists.specs.Lists.{All, tally, count, total, up_to}
use Rattle.lists.proofs.Tests.{bool-ext}
use Rattle.lists.proofs.Counts.{count-congr}
use Rattle.lists.proofs.DoubleCount.{count-eqb-up_to}

module _ {A : Type 0} where
  -- one more wherever a test passes adds as much as the test counts
  total-map-tally : (f : A → Bool) (g : A → ℕ) (l : List A)
      → total (map (λ a. tally (f a) (g a)) l) ≡ count f l + total (map g l)
  unfolding total count
  total-map-tally f g [] = refl
  total-map-tally f g (a ∷ l) = rw (total-map-tally f g l) (go (f a))
    where
      go : (b : Bool) → tally b (g a) + (count f l + total (map g l)) ≡ tally b (count f l) + (g a + total (map g l))
      go true = omega arith
      go false = omega arith

  total-map-zero : (l : List A) → total (map (λ a. 0) l) ≡ 0
  unfolding total
  total-map-zero [] = refl
  total-map-zero (a ∷ l) = rw (total-map-zero l)

eqb_comm : (v w : ℕ) → eqb v w ≡ eqb w v
eqb_comm v w = bool-ext (eqb v w) (eqb w v) (turn v w) (turn w v)
  where
    turn : (v w : ℕ) → T (eqb v w) → T (eqb w v)
    turn v w t = rw (eqb→eq v w t) (eqb_refl w)

-- numbers that are all below n are counted once each
pub total-count-eqb : (n : ℕ) (l : List ℕ) → All (λ v. v < n) l → total (map (λ v. count (eqb v) l) (up_to n)) ≡ length l
unfolding count
total-count-eqb n [] h = total-map-zero (up_to n)
total-count-eqb n (w ∷ l) h =
    total-map-tally (λ v. eqb v w) (λ v. count (eqb v) l) (up_to n)
    ∙ rw (
      count-congr (λ v. eqb v w) (eqb w) (λ v. eqb_comm v w) (up_to n),
      count-eqb-up_to w n h.0,
      total-count-eqb n l h.1,
    )
    (omega arith)
