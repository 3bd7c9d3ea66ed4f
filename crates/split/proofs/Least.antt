-- The least of f 0, .., f top, and the largest place where it is taken. Assumes nothing.
use Prim.Native.Nat.{ℕ, zero, suc, ◌≤◌, ◌<◌, min, zero-le}
use native.Mathlib.Nat.{le_refl, le-suc_iff}
use native.Mathlib.Omega.{arith}
use mathlib.Core.Path.{◌≡◌, refl, ◌∙◌, ap}
use mathlib.Core.Logic.{◌⊎◌, inl, inr}
use mathlib.Core.Bool.{cond}
use borrow.Author.Tests.{le-leb, lt-leb}
use Rattle.lists.proofs.Arith.{le-or-lt}
use Rattle.split.specs.Splits.{least, last_least}

module _ (f : ℕ → ℕ) where
  pub least-le : (top c : ℕ) → c ≤ top → least f top ≤ f c
  unfolding least
  least-le zero c h = let e : c ≡ 0 = omega arith in rw e (le_refl _)
  least-le (suc top) c h = go (le-suc_iff.0 h) (least-le top c)
    where
      go : (c ≤ top) ⊎ (c ≡ suc top) → (c ≤ top → least f top ≤ f c) → min (f (suc top)) (least f top) ≤ f c
      go (inl g) ih = let k = ih g in omega arith
      go (inr e) ih = rw e (omega arith)

  pub le-least : (n top : ℕ) → ((c : ℕ) → c ≤ top → n ≤ f c) → n ≤ least f top
  unfolding least
  le-least n zero h = h zero zero-le
  le-least n (suc top) h =
      let last = h (suc top) (le_refl _) in
      let rest = le-least n top (λ c g. h c (omega arith)) in
      omega arith

  -- one place more: it is taken where f is no larger there
  pub least-suc : (top : ℕ) → least f (suc top) ≡ min (f (suc top)) (least f top)
  unfolding least
  least-suc top = refl

  pub last_least-suc-le : (top : ℕ) → f (suc top) ≤ least f top → last_least f (suc top) ≡ suc top
  unfolding last_least
  last_least-suc-le top h = ap (λ t. cond t (suc top) (last_least f top)) (le-leb (f (suc top)) (least f top) h)

  pub last_least-suc-lt : (top : ℕ) → least f top < f (suc top) → last_least f (suc top) ≡ last_least f top
  unfolding last_least
  last_least-suc-lt top h = ap (λ t. cond t (suc top) (last_least f top)) (lt-leb (f (suc top)) (least f top) h)

  -- it is the largest place
  pub le-last_least : (top c : ℕ) → c ≤ top → f c ≤ least f top → c ≤ last_least f top
  unfolding least last_least
  le-last_least zero c h g = h
  le-last_least (suc top) c h g = go (le-or-lt (f (suc top)) (least f top)) (le-suc_iff.0 h) (le-last_least top c)
    where
      go : (f (suc top) ≤ least f top) ⊎ (least f top < f (suc top)) → (c ≤ top) ⊎ (c ≡ suc top)
          → (c ≤ top → f c ≤ least f top → c ≤ last_least f top) → c ≤ last_least f (suc top)
      go (inl e) p ih = rw (last_least-suc-le top e) h
      go (inr e) (inl p) ih = rw (last_least-suc-lt top e) (ih p (omega arith))
      go (inr e) (inr p) ih =
          let q : f (suc top) ≤ min (f (suc top)) (least f top) = rw p at g in
          absurd (omega arith)

  pub last_least-eq : (top : ℕ) → f (last_least f top) ≡ least f top
  unfolding least last_least
  last_least-eq zero = refl
  last_least-eq (suc top) = go (le-or-lt (f (suc top)) (least f top)) (last_least-eq top)
    where
      go : (f (suc top) ≤ least f top) ⊎ (least f top < f (suc top)) → f (last_least f top) ≡ least f top
          → f (last_least f (suc top)) ≡ min (f (suc top)) (least f top)
      go (inl e) ih = ap f (last_least-suc-le top e) ∙ omega arith
      go (inr e) ih = ap f (last_least-suc-lt top e) ∙ omega arith

  pub last_least-le : (top : ℕ) → last_least f top ≤ top
  unfolding last_least
  last_least-le zero = zero-le
  last_least-le (suc top) = go (le-or-lt (f (suc top)) (least f top)) (last_least-le top)
    where
      go : (f (suc top) ≤ least f top) ⊎ (least f top < f (suc top)) → last_least f top ≤ top → last_least f (suc top) ≤ suc top
      go (inl e) ih = let p = last_least-suc-le top e in omega arith
      go (inr e) ih = let p = last_least-suc-lt top e in omega arith
