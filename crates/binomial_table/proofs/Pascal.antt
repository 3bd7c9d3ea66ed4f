-- Pascal's rule, tested over a whole table of binomials by one computation, and carried to each entry, for any number of
-- columns. Assumes nothing.
use mathlib.Core.Path.{◌≡◌, sym, ◌∙◌}
use mathlib.Core.Bool.{Bool, true, false, ◌&&◌, and-eq-true_iff}
use mathlib.Core.List.{List, [], ◌∷◌, ◌++◌}
use Prim.Native.Nat.{ℕ, zero, suc, ◌+◌, ◌*◌, ◌%◌, ◌<◌}
use native.Mathlib.Nat.{add-zero, zero-add, suc-add, add-suc, mul-add-mod_self_right, mod-eq_of_lt}
use native.Mathlib.Omega.{arith}
use borrow.Author.Tests.{eqb-true}
use lib.Dec.{eqb}
use lib.ListN.{length, get_or, replicate, length-replicate, get_or-replicate, get_or-append}
use lib.Seq.{get_or-append-add}
use Rattle.binomial.specs.Choose.{choose}
use Rattle.binomial.proofs.Laws.{choose-zero, zero-choose, pascal}

-- the entry of a column, from the row above: l to the left of it and a straight above
abbrev entry : ℕ → ℕ → ℕ → ℕ
entry zero l a = 1
entry (suc j) l a = l + a

-- each entry of t, the first at place i of a table of w columns, is right for the two above it; l is left of the first
abbrev follows : ℕ → ℕ → ℕ → List ℕ → List ℕ → Bool
follows w i l above [] = true
follows w i l [] (b ∷ t) = false
follows w i l (a ∷ above) (b ∷ t) = eqb b (entry (i % w) l a) && follows w (suc i) a above t

follows-at : (w i l : ℕ) (above t : List ℕ) → follows w i l above t ≡ true → (k : ℕ) → k < length t →
    get_or t k 0 ≡ entry ((i + k) % w) (get_or (l ∷ above) k 0) (get_or above k 0)
follows-at w i l above [] h k lt = absurd (omega arith)
follows-at w i l [] (b ∷ t) h k lt = cc
follows-at w i l (a ∷ above) (b ∷ t) h zero lt = rw add-zero (eqb-true _ _ ((and-eq-true_iff _ _).0 h).0)
follows-at w i l (a ∷ above) (b ∷ t) h (suc k) lt =
    rw (add-suc, ← suc-add)
    (follows-at w (suc i) a above t ((and-eq-true_iff (eqb b (entry (i % w) l a)) _).0 h).1 k (omega arith))

-- the table one row earlier: each entry of t has the one above it at its own place. Above the first row are zeros, from
-- which the rule makes C(0,0) = 1 and C(0,j) = 0 for j above 0
abbrev earlier : ℕ → List ℕ → List ℕ
earlier w t = replicate w 0 ++ t

-- the table t of w columns has Pascal's rule: "C(m,0) = 1, C(0,j) = 0 for j above 0, and C(m+1,j+1) = C(m,j) + C(m,j+1)"
abbrev pub pascal-test : ℕ → List ℕ → Bool
pascal-test w t = follows w 0 0 (earlier w t) t

earlier-first : (w : ℕ) (t : List ℕ) (j : ℕ) → j < w → get_or (earlier w t) (0 * w + j) 0 ≡ 0
earlier-first w t j hj =
    let e : 0 * w + j ≡ j = omega arith in
    rw e (get_or-append (replicate w 0) t 0 j (rw length-replicate hj) ∙ get_or-replicate w j 0 0 hj)

earlier-next : (w : ℕ) (t : List ℕ) (m j : ℕ) → get_or (earlier w t) (suc m * w + j) 0 ≡ get_or t (m * w + j) 0
earlier-next w t m j =
    let e : suc m * w + j ≡ length {A = ℕ} (replicate w 0) + (m * w + j) = rw length-replicate (omega arith) in
    rw e (get_or-append-add (replicate w 0) t (m * w + j) 0)

module _ (w : ℕ) (t : List ℕ) (h : pascal-test w t ≡ true) where
  rule : (m j : ℕ) → j < w → m * w + j < length t →
      get_or t (m * w + j) 0 ≡ entry j (get_or (0 ∷ earlier w t) (m * w + j) 0) (get_or (earlier w t) (m * w + j) 0)
  rule m j hj hl =
      let e : (0 + (m * w + j)) % w ≡ j = rw zero-add (mul-add-mod_self_right m w j ∙ mod-eq_of_lt hj) in
      rw e at (follows-at w 0 0 (earlier w t) t h (m * w + j) hl)

  -- the entry in row m and column j is C(m,j)
  pub table-entry : (m j : ℕ) → j < w → m * w + j < length t → get_or t (m * w + j) 0 ≡ choose m j
  table-entry m zero hj hl = rule m 0 hj hl ∙ sym (choose-zero m)
  table-entry zero (suc j) hj hl =
      rule 0 (suc j) hj hl ∙
      rw (earlier-first w t (suc j) hj, add-suc, earlier-first w t j (omega arith)) (sym (zero-choose j))
  table-entry (suc m) (suc j) hj hl =
      rule (suc m) (suc j) hj hl ∙
      rw (earlier-next w t m (suc j), add-suc (suc m * w) j, earlier-next w t m j)
      (rw (table-entry m j (omega arith) (omega arith), table-entry m (suc j) hj (omega arith)) (sym (pascal m j)))
