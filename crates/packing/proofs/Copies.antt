-- Rows that repeat the blocks of a packing: "Row j (from 0) of a layer is its block j mod m". Where c is at most d × m, c rows
-- are a packing with d times the bound. Assumes nothing.
use Prim.Native.Nat.{ℕ, zero, suc, ◌+◌, ◌*◌, ◌%◌, ◌≤◌, ◌<◌}
use native.Mathlib.Omega.{arith}
use native.Mathlib.Nat.{le_trans, zero-mul, suc-mul, mod-lt, mod-eq_of_lt, mul-add-mod_self_right, mul-le-mul_left}
use mathlib.Core.Path.{◌≡◌, sym, ◌∙◌}
use mathlib.Core.Bool.{Bool}
use mathlib.Core.List.{List, []}
use lib.ListN.{length, get_or}
use Rattle.lists.specs.Lists.{All, count, up_to}
use Rattle.lists.proofs.Arith.{pos-of-le-mul}
use Rattle.lists.proofs.Alls.{all_map, all_get_d}
use Rattle.lists.proofs.Counts.{count_map}
use Rattle.lists.proofs.UpTo.{all-up_to, length-map-up_to}
use Rattle.packing.specs.Rows.{repeated, holds, together, Packing}
use Rattle.lists.proofs.CountUpTo.{count-up_to-add, count-up_to-mono, count-up_to-congr, count-get_d}

-- row j's block
abbrev block_of : List (List ℕ) → ℕ → List ℕ
block_of blocks j = get_or blocks (j % length blocks) []

pub length-repeated : (blocks : List (List ℕ)) (c : ℕ) → length (repeated blocks c) ≡ c
unfolding repeated
length-repeated blocks c = length-map-up_to (block_of blocks) c

-- each row is one of the blocks
pub repeated-rows : (P : List ℕ → Type 0) (d c : ℕ) (blocks : List (List ℕ)) → c ≤ d * length blocks → All P blocks → All P (repeated blocks c)
unfolding repeated
repeated-rows P d c blocks h a = all_map P (block_of blocks) (up_to c) (all-up_to (λ j. P (block_of blocks j)) c each)
  where
    each : (j : ℕ) → j < c → P (block_of blocks j)
    each j lt = all_get_d P blocks (j % length blocks) [] a (mod-lt j (pos-of-le-mul c d (length blocks) h (omega arith)))

module _ (f : List ℕ → Bool) (blocks : List (List ℕ)) where
  -- the test of row j
  abbrev test : ℕ → Bool
  test j = f (block_of blocks j)

  count-repeated : (c : ℕ) → count f (repeated blocks c) ≡ count test (up_to c)
  unfolding repeated
  count-repeated c = count_map f (block_of blocks) (up_to c)

  -- m rows from a multiple of m on are the blocks
  count-round : (d : ℕ) → count (λ j. test (d * length blocks + j)) (up_to (length blocks)) ≡ count f blocks
  count-round d =
      count-up_to-congr (λ j. test (d * length blocks + j)) (λ j. f (get_or blocks j [])) (length blocks) same ∙ sym (count-get_d f [] blocks)
    where
      same : (j : ℕ) → j < length blocks → test (d * length blocks + j) ≡ f (get_or blocks j [])
      same j lt = rw (mul-add-mod_self_right d (length blocks) j, mod-eq_of_lt lt)

  count-rounds : (d : ℕ) → count test (up_to (d * length blocks)) ≡ d * count f blocks
  unfolding count up_to
  count-rounds zero = rw (zero-mul (length blocks), zero-mul (count f blocks))
  count-rounds (suc d) = rw (suc-mul d (length blocks), count-up_to-add, count-rounds d, count-round d) (omega arith)

  -- d rounds of the blocks pass d times as often, and fewer rows no more often
  pub count-repeated-le : (d c : ℕ) → c ≤ d * length blocks → count f (repeated blocks c) ≤ d * count f blocks
  count-repeated-le d c h =
      let m = count-up_to-mono test c (d * length blocks) h in
      let e = count-repeated c in
      let g = count-rounds d in
      omega arith

-- "with c at most d × m .. its lambda is d × mu": the rows laid down are a packing with that bound
pub copies-packing : (x mu d c : ℕ) (blocks : List (List ℕ)) → c ≤ d * length blocks → Packing x mu blocks → Packing x (d * mu) (repeated blocks c)
unfolding together
copies-packing x mu d c blocks h p nodes s a =
    le_trans (count-repeated-le (λ row. holds row nodes) blocks d c h) (mul-le-mul_left d (p nodes s a))
