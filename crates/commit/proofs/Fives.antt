-- The code's arrays of five counts, of which those from s on are 0. Assumes nothing.
use Prim.Native.Nat.{ℕ, ◌≤◌, ◌<◌}
use native.Mathlib.Omega.{arith}
use mathlib.Core.Path.{◌≡◌, sym, ◌∙◌}
use mathlib.Core.Logic.{◌⊎◌, inl, inr}
use mathlib.Core.List.{List, map}
use lib.ListN.{length, get_or, length-append, length-take, length-replicate, get_or-eq_default}
use lib.Seq.{ext_get_or}
use Rattle.lists.specs.Lists.{up_to}
use Rattle.lists.proofs.Arith.{le-or-lt}
use Rattle.lists.proofs.UpTo.{length-map-up_to, get_d-map-up_to, map-get_d-up_to}
use Rattle.layers.specs.Answers.{five}
use Rattle.layers.proofs.Arrays.{get_d-five}

length-five : (l : List ℕ) → length (five 0 l) ≡ 5
length-five l = simp (length-take, length-append, length-replicate) (omega arith)

module _ (f : ℕ → ℕ) (s : ℕ) where
  -- entry x of the five: f x below s, and then 0
  pub get_d-five-up_to : (x : ℕ) → x < s → s ≤ 5 → get_or (five 0 (map f (up_to s))) x 0 ≡ f x
  get_d-five-up_to x h most = get_d-five 0 (map f (up_to s)) x (omega arith) ∙ get_d-map-up_to f s x 0 h

  pub get_d-five-past : (x : ℕ) → s ≤ x → get_or (five 0 (map f (up_to s))) x 0 ≡ 0
  get_d-five-past x h = go (le-or-lt 5 x)
    where
      go : (5 ≤ x) ⊎ (x < 5) → get_or (five 0 (map f (up_to s))) x 0 ≡ 0
      go (inl g) =
          let e = length-five (map f (up_to s)) in
          get_or-eq_default (five 0 (map f (up_to s))) 0 {n = x} (omega arith)
      go (inr g) =
          let e = length-map-up_to f s in
          get_d-five 0 (map f (up_to s)) x g ∙ get_or-eq_default (map f (up_to s)) 0 {n = x} (omega arith)

  -- five entries, of which those from s on are 0
  pub five-up_to : s ≤ 5 → ((x : ℕ) → s ≤ x → f x ≡ 0) → map f (up_to 5) ≡ five 0 (map f (up_to s))
  five-up_to most none =
      let long = length-map-up_to f 5 in
      ext_get_or 0 (map f (up_to 5)) (five 0 (map f (up_to s))) (long ∙ sym (length-five (map f (up_to s)))) (λ x h. at x (omega arith) (le-or-lt s x))
    where
      at : (x : ℕ) → x < 5 → (s ≤ x) ⊎ (x < s) → get_or (map f (up_to 5)) x 0 ≡ get_or (five 0 (map f (up_to s))) x 0
      at x h (inl g) = get_d-map-up_to f 5 x 0 h ∙ none x g ∙ sym (get_d-five-past x g)
      at x h (inr g) = get_d-map-up_to f 5 x 0 h ∙ sym (get_d-five-up_to x g most)

-- an array of five counts
pub five-counts : (counts : List ℕ) (s : ℕ) → length counts ≡ 5 → s ≤ 5 → ((x : ℕ) → s ≤ x → get_or counts x 0 ≡ 0)
    → counts ≡ five 0 (map (λ x. get_or counts x 0) (up_to s))
five-counts counts s long most none =
    sym (map-get_d-up_to counts 0 5 long) ∙ five-up_to (λ x. get_or counts x 0) s most none
