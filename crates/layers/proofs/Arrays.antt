-- The code's arrays of five, and the layers' numbers that they hold. Assumes nothing.
use Prim.Native.Nat.{ℕ, zero, suc, ◌+◌, ◌-◌, ◌≤◌, ◌<◌}
use native.Mathlib.Omega.{arith}
use native.Mathlib.Numerals.{add-one}
use mathlib.Core.Path.{◌≡◌, refl, sym, ◌∙◌, ap}
use mathlib.Core.Bool.{Bool, true, false}
use mathlib.Core.List.{List, [], ◌∷◌, ◌++◌, append_assoc}
use lib.ListN.{length, take, get_or, set, replicate, length-append, get_or-replicate, get_or-append, get_or-eq_default}
use lib.Seq.{take-append-le, take-set-lt, set-append_seam, take-take, take_all, get_or-take, get_or-append-add}
use lib.Dec.{ltb}
use borrow.Author.Tests.{ltb-true, ltb-false}
use Rattle.lists.specs.Lists.{total}
use Rattle.layers.specs.Layers.{sizes}
use Rattle.layers.specs.declared.LayerHead.{LayerHead}
use Rattle.layers.specs.Answers.{five, no_head}

module _ {A : Type 0} (none : A) where
  -- an entry of an array of five
  pub get_d-five : (l : List A) (x : ℕ) → x < 5 → get_or (five none l) x none ≡ get_or l x none
  get_d-five l x h = get_or-take 5 (l ++ replicate 5 none) x none h ∙ go (ltb x (length l)) refl
    where
      go : (t : Bool) → ltb x (length l) ≡ t → get_or (l ++ replicate 5 none) x none ≡ get_or l x none
      go true e = get_or-append l (replicate 5 none) none x (ltb-true x (length l) e)
      go false e =
          let g = ltb-false x (length l) e in
          let q : length l + (x - length l) ≡ x = omega arith in
          ap (λ i. get_or (l ++ replicate 5 none) i none) (sym q)
          ∙ get_or-append-add l (replicate 5 none) (x - length l) none
          ∙ get_or-replicate 5 (x - length l) none none (omega arith)
          ∙ sym (get_or-eq_default l none {n = x} g)

  -- up to five elements are the array's first
  pub take-five : (l : List A) (n : ℕ) → length l ≡ n → n ≤ 5 → take n (five none l) ≡ l
  take-five l n e h =
      take-take n 5 (l ++ replicate 5 none) h
      ∙ take-append-le n l (replicate 5 none) (omega arith)
      ∙ take_all n l (omega arith)

  -- one element more in the array
  pub five-snoc : (l : List A) (x : ℕ) (v : A) → length l ≡ x → x < 5 → set (five none l) x v ≡ five none (l ++ (v ∷ []))
  five-snoc l x v e h =
      let long : 5 ≤ length (l ++ (v ∷ replicate 4 none)) = omega (arith, length-append l (v ∷ replicate 4 none)) in
      sym (take-set-lt 5 (l ++ replicate 5 none) x v h)
      ∙ ap (take 5) (ap (λ i. set (l ++ replicate 5 none) i v) (sym e) ∙ set-append_seam l none (replicate 4 none) v)
      ∙ sym (take-append-le 5 (l ++ (v ∷ replicate 4 none)) (none ∷ []) long)
      ∙ ap (take 5) (append_assoc l (v ∷ replicate 4 none) (none ∷ []) ∙ sym (append_assoc l (v ∷ []) (replicate 5 none)))

-- how many rows the layers below x have, one layer further on, also past the array's end
pub sizes-take-suc : (heads : List LayerHead) (x : ℕ) → sizes (take (x + 1) heads) ≡ sizes (take x heads) + (get_or heads x no_head).size
unfolding total
sizes-take-suc heads x = rw (add-one x) (go heads x)
  where
    go : (l : List LayerHead) (y : ℕ) → sizes (take (suc y) l) ≡ sizes (take y l) + (get_or l y no_head).size
    go [] zero = refl
    go [] (suc y) = refl
    go (head ∷ l) zero = omega arith
    go (head ∷ l) (suc y) = let rest = go l y in omega arith

pub sizes-take-le : (heads : List LayerHead) (m n : ℕ) → m ≤ n → sizes (take m heads) ≤ sizes (take n heads)
unfolding total
sizes-take-le heads zero n h = omega arith
sizes-take-le [] (suc m) n h = omega arith
sizes-take-le (head ∷ heads) (suc m) zero h = absurd (omega arith)
sizes-take-le (head ∷ heads) (suc m) (suc n) h = omega (arith, sizes-take-le heads m n (omega arith))
