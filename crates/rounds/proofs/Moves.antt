-- The least and the most over moves: bounds, that one is reached, and one move more. Assumes nothing.
use Prim.Native.Nat.{ℕ, zero, suc, min, max, ◌≤◌, ◌<◌, zero-le}
use native.Mathlib.Omega.{arith}
use native.Mathlib.Nat.{le_refl, not-suc-le-zero, eq-or-lt_of_le, le_of_suc-le-suc}
use mathlib.Core.Path.{◌≡◌, refl, sym, ap, subst}
use mathlib.Core.Logic.{◌⊎◌, inl, inr}
use mathlib.Core.Bool.{Bool, true, false, cond}
use mathlib.Core.List.Memᴰ
use mathlib.Core.List.{List, [], ◌∷◌, ◌++◌, map, Memᴰ, append-nil, append_assoc}
use lib.Dec.{T}
use Rattle.lists.specs.Lists.{All, up_to}
use Rattle.lists.proofs.Arith.{le-or-lt}
use Rattle.lists.proofs.Tests.{T_true, true-T, cond-elim}
use Rattle.lists.proofs.Alls.{all_append, all-imp, all_map}
use Rattle.lists.proofs.Listed.{Passing}
use Rattle.lists.proofs.UpTo.{all-up_to, map-up_to-suc}
use Rattle.rounds.specs.Game.{least_over, most_over, pairs}

-- a move that may be made and gives x
pub record Reached {A : Type 0} (may : A → Bool) (value : A → ℕ) (moves : List A) (x : ℕ) : Type 0 where
  pub move : A
  pub listed : Memᴰ move moves
  pub made : T (may move)
  pub gives : value move ≡ x

module _ {A : Type 0} (may : A → Bool) (value : A → ℕ) where
  reached-here : (a : A) (moves : List A) (x : ℕ) → may a ≡ true → value a ≡ x → Reached may value (a ∷ moves) x
  reached-here a moves x t e = record { move = a; listed = Memᴰ.head refl; made = T_true t; gives = e }

  reached-later : (a : A) (moves : List A) {x y : ℕ} → x ≡ y → Reached may value moves x → Reached may value (a ∷ moves) y
  reached-later a moves e h =
      record { move = h.move; listed = Memᴰ.tail h.listed; made = h.made; gives = rw (← e) h.gives }

  -- the most: at least every move's value, at most what bounds them all, and reached where a move may be made
  pub le-most : {a : A} {moves : List A} → Memᴰ a moves → T (may a) → value a ≤ most_over may value moves
  unfolding most_over
  le-most (Memᴰ.head {x = b} {xs = moves} e) t =
      rw (true-T (may b) (subst (λ c. T (may c)) e t)) (omega (arith, ap value e))
  le-most {a} (Memᴰ.tail {x = b} {xs = moves} m) t =
      let ih = le-most m t in
      cond-elim (λ x. value a ≤ x) (may b) (λ _. omega arith) (λ _. ih)

  pub most-le : (x : ℕ) (moves : List A) → All (λ a. T (may a) → value a ≤ x) moves → most_over may value moves ≤ x
  unfolding most_over
  most-le x [] h = zero-le
  most-le x (a ∷ moves) h =
      let ih = most-le x moves h.1 in
      cond-elim (λ y. y ≤ x) (may a) (λ t. omega (arith, h.0 (T_true t))) (λ _. ih)

  most-positive : (moves : List A) → 0 < most_over may value moves → Reached may value moves (most_over may value moves)
  unfolding most_over
  most-positive [] h = absurd (not-suc-le-zero h)
  most-positive (a ∷ moves) h = go (may a) refl h (most-positive moves)
    where
      rest : ℕ
      rest = most_over may value moves

      larger : may a ≡ true → 0 < max (value a) rest → (0 < rest → Reached may value moves rest)
          → (rest ≤ value a) ⊎ (value a < rest) → Reached may value (a ∷ moves) (max (value a) rest)
      larger t p ih (inl le) = reached-here a moves (max (value a) rest) t (omega arith)
      larger t p ih (inr lt) = reached-later a moves (omega arith) (ih (omega arith))

      go : (b : Bool) → may a ≡ b → 0 < cond b (max (value a) rest) rest → (0 < rest → Reached may value moves rest)
          → Reached may value (a ∷ moves) (cond b (max (value a) rest) rest)
      go true t p ih = larger t p ih (le-or-lt rest (value a))
      go false t p ih = reached-later a moves refl (ih p)

  pub most-reached : (moves : List A) → Passing may moves → Reached may value moves (most_over may value moves)
  most-reached moves p = go (le-or-lt (most_over may value moves) 0)
    where
      go : (most_over may value moves ≤ 0) ⊎ (0 < most_over may value moves) → Reached may value moves (most_over may value moves)
      go (inl none) =
          let h = le-most p.listed p.passes in
          record { move = p.element; listed = p.listed; made = p.passes; gives = omega arith }
      go (inr some) = most-positive moves some

  pub most-snoc : (moves : List A) (a : A)
      → most_over may value (moves ++ (a ∷ [])) ≡ cond (may a) (max (most_over may value moves) (value a)) (most_over may value moves)
  unfolding most_over
  most-snoc [] a = go (may a)
    where
      go : (b : Bool) → cond b (max (value a) 0) 0 ≡ cond b (max 0 (value a)) 0
      go true = omega arith
      go false = refl
  most-snoc (c ∷ moves) a = rw (most-snoc moves a) (go (may c) (may a))
    where
      go : (b d : Bool) → let rest = most_over may value moves in
          cond b (max (value c) (cond d (max rest (value a)) rest)) (cond d (max rest (value a)) rest)
          ≡ cond d (max (cond b (max (value c) rest) rest) (value a)) (cond b (max (value c) rest) rest)
      go true true = omega arith
      go true false = refl
      go false true = refl
      go false false = refl

  module _ (all : ℕ) where
    -- the least: at most `all` and every move's value, and reached where a move may be made
    pub least-le-all : (moves : List A) → least_over all may value moves ≤ all
    unfolding least_over
    least-le-all [] = le_refl all
    least-le-all (a ∷ moves) =
        let ih = least-le-all moves in
        cond-elim (λ x. x ≤ all) (may a) (λ _. omega arith) (λ _. ih)

    pub least-le : {a : A} {moves : List A} → Memᴰ a moves → T (may a) → least_over all may value moves ≤ value a
    unfolding least_over
    least-le (Memᴰ.head {x = b} {xs = moves} e) t =
        rw (true-T (may b) (subst (λ c. T (may c)) e t)) (omega (arith, ap value e))
    least-le {a} (Memᴰ.tail {x = b} {xs = moves} m) t =
        let ih = least-le m t in
        cond-elim (λ x. x ≤ value a) (may b) (λ _. omega arith) (λ _. ih)

    least-below : (moves : List A) → least_over all may value moves < all → Reached may value moves (least_over all may value moves)
    unfolding least_over
    least-below [] h = absurd (omega arith)
    least-below (a ∷ moves) h = go (may a) refl h (least-below moves)
      where
        rest : ℕ
        rest = least_over all may value moves

        smaller : may a ≡ true → min (value a) rest < all → (rest < all → Reached may value moves rest)
            → (value a ≤ rest) ⊎ (rest < value a) → Reached may value (a ∷ moves) (min (value a) rest)
        smaller t p ih (inl le) = reached-here a moves (min (value a) rest) t (omega arith)
        smaller t p ih (inr lt) = reached-later a moves (omega arith) (ih (omega arith))

        go : (b : Bool) → may a ≡ b → cond b (min (value a) rest) rest < all → (rest < all → Reached may value moves rest)
            → Reached may value (a ∷ moves) (cond b (min (value a) rest) rest)
        go true t p ih = smaller t p ih (le-or-lt (value a) rest)
        go false t p ih = reached-later a moves refl (ih p)

    pub least-reached : (moves : List A) → ((a : A) → value a ≤ all) → Passing may moves
        → Reached may value moves (least_over all may value moves)
    least-reached moves most p = go (le-or-lt all (least_over all may value moves))
      where
        go : (all ≤ least_over all may value moves) ⊎ (least_over all may value moves < all)
            → Reached may value moves (least_over all may value moves)
        go (inl full) =
            let h = least-le p.listed p.passes in
            let g = most p.element in
            let f = least-le-all moves in
            record { move = p.element; listed = p.listed; made = p.passes; gives = omega arith }
        go (inr some) = least-below moves some

    pub least-snoc : (moves : List A) (a : A)
        → least_over all may value (moves ++ (a ∷ []))
        ≡ cond (may a) (min (least_over all may value moves) (value a)) (least_over all may value moves)
    unfolding least_over
    least-snoc [] a = go (may a)
      where
        go : (b : Bool) → cond b (min (value a) all) all ≡ cond b (min all (value a)) all
        go true = omega arith
        go false = refl
    least-snoc (c ∷ moves) a = rw (least-snoc moves a) (go (may c) (may a))
      where
        go : (b d : Bool) → let rest = least_over all may value moves in
            cond b (min (value c) (cond d (min rest (value a)) rest)) (cond d (min rest (value a)) rest)
            ≡ cond d (min (cond b (min (value c) rest) rest) (value a)) (cond b (min (value c) rest) rest)
        go true true = omega arith
        go true false = refl
        go false true = refl
        go false false = refl

-- the numbers below n are listed, and so are a node and a larger one
pub up_to-listed : (v n : ℕ) → v < n → Memᴰ v (up_to n)
unfolding up_to
up_to-listed v zero h = absurd (not-suc-le-zero h)
up_to-listed v (suc n) h = go (eq-or-lt_of_le (le_of_suc-le-suc h)) (up_to-listed v n)
  where
    go : (v ≡ n) ⊎ (v < n) → (v < n → Memᴰ v (up_to n)) → Memᴰ v (up_to n ++ (n ∷ []))
    go (inl e) ih = Memᴰ.append_right (up_to n) (Memᴰ.head e)
    go (inr lt) ih = Memᴰ.append_left (n ∷ []) (ih lt)

pub pair-listed : (u v n : ℕ) → u < v → v < n → Memᴰ {A = ℕ × ℕ} (u, v) (pairs n)
unfolding pairs
pair-listed u v zero h g = absurd (not-suc-le-zero g)
pair-listed u v (suc n) h g = go (eq-or-lt_of_le (le_of_suc-le-suc g)) (pair-listed u v n h)
  where
    go : (v ≡ n) ⊎ (v < n) → (v < n → Memᴰ {A = ℕ × ℕ} (u, v) (pairs n)) → Memᴰ {A = ℕ × ℕ} (u, v) (pairs n ++ map (λ w. (w, n)) (up_to n))
    go (inl e) ih =
        Memᴰ.append_right (pairs n)
        (subst (λ c. Memᴰ {A = ℕ × ℕ} (u, c) (map (λ w. (w, n)) (up_to n))) (sym e)
        (Memᴰ.map {B = ℕ × ℕ} (λ w. (w, n)) (up_to-listed u n (subst (λ c. u < c) e h))))
    go (inr lt) ih = Memᴰ.append_left (map (λ w. (w, n)) (up_to n)) (ih lt)

pub pairs_below : (n : ℕ) → All (λ pair. (pair.0 < pair.1) × (pair.1 < n)) (pairs n)
unfolding pairs
pairs_below zero = tt
pairs_below (suc n) =
    all_append (λ pair. (pair.0 < pair.1) × (pair.1 < suc n)) (pairs n) (map (λ u. (u, n)) (up_to n))
    (all-imp (λ pair. (pair.0 < pair.1) × (pair.1 < n)) (λ pair. (pair.0 < pair.1) × (pair.1 < suc n))
    (λ pair h. (h.0, omega arith)) (pairs n) (pairs_below n))
    (all_map (λ pair. (pair.0 < pair.1) × (pair.1 < suc n)) (λ u. (u, n)) (up_to n)
    (all-up_to (λ u. (u < n) × (n < suc n)) n (λ u h. (h, omega arith))))

-- the pairs as they are gone through: those with a larger node below v, then those of v and a node below u
abbrev pub pairs_to : (v u : ℕ) → List (ℕ × ℕ)
pairs_to v u = pairs v ++ map (λ w. (w, v)) (up_to u)

pub pairs_to-none : (v : ℕ) → pairs_to v 0 ≡ pairs v
unfolding up_to
pairs_to-none v = append-nil (pairs v)

pub pairs_to-all : (v : ℕ) → pairs_to v v ≡ pairs (suc v)
unfolding pairs
pairs_to-all v = refl

pub pairs_to-next : (v u : ℕ) → pairs_to v (suc u) ≡ pairs_to v u ++ ((u, v) ∷ [])
pairs_to-next v u = rw (map-up_to-suc {A = ℕ × ℕ} (λ w. (w, v)) u) (sym (append_assoc (pairs v) (map (λ w. (w, v)) (up_to u)) ((u, v) ∷ [])))
