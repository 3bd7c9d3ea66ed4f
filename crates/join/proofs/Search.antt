-- The search for the least common multiple among the multiples of the larger number, and the mu's up to 4,096. Assumes nothing.
use Prim.Native.Nat.{ℕ, zero, suc, ◌+◌, ◌*◌, ◌/◌, ◌%◌, ◌≤◌, ◌<◌, ◌∣◌, min, max}
use native.Mathlib.Omega.{arith}
use native.Mathlib.Nat.{dvd_refl, dvd-add, dvd_of_mod-eq-zero, mod-eq-zero_of_dvd, le_of_dvd, mul-le-mul, div-le_self, le_refl}
use mathlib.Core.Path.{◌≡◌}
use mathlib.Core.Logic.{◌⊎◌, inl, inr}
use Rattle.lists.proofs.Arith.{le-or-lt}
use Rattle.layers.specs.declared.LayerHead.{LayerHead}
use Rattle.join.specs.Lcm.{lcm}
use Rattle.join.specs.Join.{with_mu}
use Rattle.join.specs.Estate.{HeadFits}
use Rattle.join.proofs.Lcm.{lcm-left, lcm-right, lcm-ge, lcm-least, multiple-step}

pub lcm-ge-right : (a b : ℕ) → 0 < a → 0 < b → b ≤ lcm a b
lcm-ge-right a b pa pb = le_of_dvd {m = b} {n = lcm a b} (omega (arith, lcm-ge a b)) (lcm-right a b pb)

-- multiples of the larger and of the smaller are multiples of both, and so the other way
each-dvd : (a b m : ℕ) → max a b ∣ m → min a b ∣ m → (a ∣ m) × (b ∣ m)
each-dvd a b m hi lo = go (le-or-lt a b)
  where
    go : (a ≤ b) ⊎ (b < a) → (a ∣ m) × (b ∣ m)
    go (inl le) = let e : max a b ≡ b = omega arith in let g : min a b ≡ a = omega arith in (rw g at lo, rw e at hi)
    go (inr gt) = let e : max a b ≡ a = omega arith in let g : min a b ≡ b = omega arith in (rw e at hi, rw g at lo)

min-max-dvd : (a b m : ℕ) → a ∣ m → b ∣ m → (max a b ∣ m) × (min a b ∣ m)
min-max-dvd a b m ha hb = go (le-or-lt a b)
  where
    go : (a ≤ b) ⊎ (b < a) → (max a b ∣ m) × (min a b ∣ m)
    go (inl le) = let e : max a b ≡ b = omega arith in let g : min a b ≡ a = omega arith in (rw e hb, rw g ha)
    go (inr gt) = let e : max a b ≡ a = omega arith in let g : min a b ≡ b = omega arith in (rw e ha, rw g hb)

-- m is a multiple of the larger, and no common multiple comes before it
pub record Searching (a b m : ℕ) : Type 0 where
  pub some : 0 < m
  pub multiple : max a b ∣ m
  pub least : m ≤ lcm a b

module _ (a b : ℕ) (pa : 1 ≤ a) (pb : 1 ≤ b) where
  pub search-first : Searching a b (max a b)
  search-first =
      record {
        some = omega arith;
        multiple = dvd_refl (max a b);
        least = omega (arith, lcm-ge a b, lcm-ge-right a b pa pb);
      }

  pub search-found : (m : ℕ) → Searching a b m → m % min a b ≡ 0 → m ≤ 4_096 → m ≡ min (lcm a b) 4_097
  search-found m s none few =
      let (ha, hb) = each-dvd a b m s.multiple (dvd_of_mod-eq-zero (min a b) none) in
      omega (arith, lcm-least a b m s.some ha hb, s.least)

  pub search-next : (m : ℕ) → Searching a b m → (m % min a b ≡ 0 → ⊥) → Searching a b (m + max a b)
  search-next m s other =
      let (hi, lo) = min-max-dvd a b (lcm a b) (lcm-left a b) (lcm-right a b pb) in
      record {
        some = omega (arith, s.some);
        multiple = dvd-add (max a b) s.multiple (dvd_refl (max a b));
        least = multiple-step (max a b) m (lcm a b) s.multiple hi (below lo (le-or-lt (lcm a b) m));
      }
    where
      below : min a b ∣ lcm a b → (lcm a b ≤ m) ⊎ (m < lcm a b) → m < lcm a b
      below lo (inl le) =
          let same : lcm a b ≡ m = omega (arith, s.least) in
          absurd (other (mod-eq-zero_of_dvd (min a b) (rw same at lo)))
      below lo (inr lt) = lt

  pub search-past : (m : ℕ) → Searching a b m → 4_096 < m → 4_097 ≡ min (lcm a b) 4_097
  search-past m s past = omega (arith, s.least)

-- the multiple of the rest, whether or not the rest was above 4,096
pub capped-with_mu : (head : LayerHead) (rest : ℕ) → HeadFits head → 1 ≤ rest
    → min (with_mu head.size head.bound (min rest 4_097)) 4_097 ≡ min (with_mu head.size head.bound rest) 4_097
capped-with_mu head rest fits some = go head.size fits.mu-least (le-or-lt rest 4_096)
  where
    go : (m : ℕ) → (0 < m → 1 ≤ head.bound) → (rest ≤ 4_096) ⊎ (4_096 < rest)
        → min (with_mu m head.bound (min rest 4_097)) 4_097 ≡ min (with_mu m head.bound rest) 4_097
    go zero least s = omega arith
    go (suc m) least (inl few) = let e : min rest 4_097 ≡ rest = omega arith in rw e
    go (suc m) least (inr many) =
        let e : min rest 4_097 ≡ 4_097 = omega arith in
        rw e (omega (
          arith,
          lcm-ge-right head.bound rest (least (omega arith)) some,
          lcm-ge-right head.bound 4_097 (least (omega arith)) (omega arith),
        ))

-- one pack's rows
pub part-most : (mu : ℕ) (head : LayerHead) → mu ≤ 4_097 → HeadFits head → mu / head.bound * head.size ≤ 16_781_312
part-most mu head few fits =
    omega (arith, mul-le-mul (div-le_self mu head.bound) fits.size-most, mul-le-mul few (le_refl 4_096))
