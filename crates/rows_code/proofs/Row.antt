-- The order of a row, node by node: what is left to test from place i on, after the node before it. Assumes nothing.
use Prim.Native.Nat.{ℕ, suc, ◌+◌, ◌≤◌, ◌<◌}
use native.Mathlib.Numerals.{add-one}
use native.Mathlib.Omega.{arith}
use mathlib.Core.Path.{◌≡◌, refl}
use mathlib.Core.Bool.{Bool, true, false, ◌&&◌, and_comm}
use mathlib.Core.List.{List, [], ◌∷◌}
use lib.Dec.{T, ltb, leb→le}
use lib.ListN.{length, drop, get_or, drop_of_length-le}
use lib.Seq.{drop-cons}
use borrow.Author.Tests.{le-leb, lt-ltb, ltb-true}
use Rattle.lists.specs.Lists.{every}
use Rattle.packing.specs.Rows.{ascending, is_in_order}

-- the nodes are above `last`, strictly ascending and below n, and `last` is below n
abbrev pub order_after : (n last : ℕ) → List ℕ → Bool
order_after n last row = (ascending (suc last) row && every (λ v. ltb v n) row) && ltb last n

-- a test among others goes last, and one that another implies is left out
test-last : (a b c : Bool) → (a && (b && c)) ≡ ((a && c) && b)
test-last true b c = and_comm b c
test-last false b c = refl

test-implied : (a b c : Bool) → (T b → c ≡ true) → ((a && b) && c) ≡ (a && b)
test-implied true true c h = h tt
test-implied true false c h = refl
test-implied false b c h = refl

pub order-of-none : (row : List ℕ) (n : ℕ) → length row ≤ 0 → is_in_order n row ≡ true
unfolding ascending every
order-of-none row n h = let none : drop 0 row ≡ [] = drop_of_length-le row h in rw none

-- the first node is above none
pub order-of-first : (row rest : List ℕ) (n v : ℕ) → row ≡ v ∷ rest → is_in_order n row ≡ order_after n v rest
unfolding ascending every
order-of-first row rest n v e =
    rw (e, le-leb 0 v (omega arith)) (test-last (ascending (suc v) rest) (ltb v n) (every (λ w. ltb w n) rest))

module _ (row : List ℕ) (n last i : ℕ) (h : i < length row) where
  pub order-of-low : ltb last (get_or row i 0) ≡ false → order_after n last (drop i row) ≡ false
  unfolding ascending
  order-of-low e = rw (drop-cons row i 0 h, e)

  pub order-of-next : ltb last (get_or row i 0) ≡ true
      → order_after n last (drop i row) ≡ order_after n (get_or row i 0) (drop (i + 1) row)
  unfolding ascending every
  order-of-next e =
      let v = get_or row i 0 in
      let rest = drop (suc i) row in
      let a = ascending (suc v) rest in
      let b = every (λ w. ltb w n) rest in
      let implied : T (ltb v n) → ltb last n ≡ true =
      λ t. lt-ltb last n (omega (arith, ltb-true last v e, leb→le (suc v) n t))
      in
      rw (add-one i, drop-cons row i 0 h, e, test-last a (ltb v n) b) (test-implied (a && b) (ltb v n) (ltb last n) implied)

pub order-of-end : (row : List ℕ) (n last i : ℕ) → length row ≤ i → order_after n last (drop i row) ≡ ltb last n
unfolding ascending every
order-of-end row n last i h = rw (drop_of_length-le row h)
