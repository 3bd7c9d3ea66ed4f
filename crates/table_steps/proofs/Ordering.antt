-- The order of a line's nodes, node by node, and the limits of n and r. Assumes nothing.
use Prim.Native.Nat.{ℕ, suc, ◌+◌, ◌≤◌, ◌<◌}
use native.Mathlib.Numerals.{add-one}
use mathlib.Core.Path.{◌≡◌, refl}
use mathlib.Core.Bool.{Bool, true, false, ◌&&◌}
use mathlib.Core.List.{List}
use lib.ListN.{length, drop, get_or, drop_of_length-le}
use lib.Seq.{drop-cons}
use lib.Dec.{T, leb, ltb}
use borrow.Author.Tests.{le-leb, lt-leb, lt-ltb, le-ltb, leb-true, ltb-true}
use Rattle.lists.specs.Lists.{All, every}
use Rattle.lists.proofs.Alls.{all-imp, every-all}
use Rattle.lists.proofs.Tests.{T_true, true-T, and_left, and_right}
use Rattle.packing.specs.Rows.{ascending, is_in_order}
use Rattle.layers.specs.Layers.{BaseLimits}
use Rattle.table.specs.Reading.{head_taken}

-- the numbers are at least `least`, strictly ascending and below n
abbrev pub order_from : (n least : ℕ) → List ℕ → Bool
order_from n least numbers = ascending least numbers && every (λ v. ltb v n) numbers

and-false : (a : Bool) → (a && false) ≡ false
and-false true = refl
and-false false = refl

module _ (n least : ℕ) (numbers : List ℕ) (i : ℕ) where
  pub order-end : length numbers ≤ i → order_from n least (drop i numbers) ≡ true
  unfolding ascending every
  order-end h = rw (drop_of_length-le numbers h)

  module _ (more : i < length numbers) where
    pub order-low : get_or numbers i 0 < least → order_from n least (drop i numbers) ≡ false
    unfolding ascending every
    order-low h = rw (drop-cons numbers i 0 more, lt-leb least (get_or numbers i 0) h)

    pub order-high : n ≤ get_or numbers i 0 → order_from n least (drop i numbers) ≡ false
    unfolding ascending every
    order-high h =
        rw (drop-cons numbers i 0 more, le-ltb (get_or numbers i 0) n h)
        (and-false (leb least (get_or numbers i 0) && ascending (suc (get_or numbers i 0)) (drop (suc i) numbers)))

    pub order-next : least ≤ get_or numbers i 0 → get_or numbers i 0 < n
        → order_from n least (drop i numbers) ≡ order_from n (get_or numbers i 0 + 1) (drop (i + 1) numbers)
    unfolding ascending every
    order-next low high =
        rw (drop-cons numbers i 0 more, le-leb least (get_or numbers i 0) low, lt-ltb (get_or numbers i 0) n high, add-one (get_or numbers i 0), add-one i)

-- nodes in order are below n
pub order_below : (n : ℕ) (numbers : List ℕ) → is_in_order n numbers ≡ true → All (λ v. v < n) numbers
order_below n numbers e =
    all-imp (λ v. T (ltb v n)) (λ v. v < n) (λ v t. ltb-true v n (true-T (ltb v n) t)) numbers
    (every-all (λ v. ltb v n) numbers (and_right (ascending 0 numbers) (every (λ v. ltb v n) numbers) (T_true e)))

module _ (n r : ℕ) where
  pub taken-limits : head_taken n r ≡ true → BaseLimits n r
  unfolding head_taken
  taken-limits e =
      let t₀ = T_true e in
      let t₁ = and_right (leb 2 n) (leb n 255 && (leb 2 r && (leb r 5 && leb r n))) t₀ in
      let t₂ = and_right (leb n 255) (leb 2 r && (leb r 5 && leb r n)) t₁ in
      let t₃ = and_right (leb 2 r) (leb r 5 && leb r n) t₂ in
      record {
        n-least = leb-true 2 n (true-T (leb 2 n) (and_left (leb 2 n) (leb n 255 && (leb 2 r && (leb r 5 && leb r n))) t₀));
        n-most = leb-true n 255 (true-T (leb n 255) (and_left (leb n 255) (leb 2 r && (leb r 5 && leb r n)) t₁));
        r-least = leb-true 2 r (true-T (leb 2 r) (and_left (leb 2 r) (leb r 5 && leb r n) t₂));
        r-most = leb-true r 5 (true-T (leb r 5) (and_left (leb r 5) (leb r n) t₃));
        r-nodes = leb-true r n (true-T (leb r n) (and_right (leb r 5) (leb r n) t₃));
      }
