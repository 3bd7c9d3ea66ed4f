-- What the groups of a number are: their count, their bytes, what they count up to. Assumes nothing.
use Prim.Native.Nat.{ℕ, zero, suc, ◌+◌, ◌*◌, ◌/◌, ◌%◌, ◌≤◌, ◌<◌}
use native.Mathlib.Omega.{arith}
use native.Mathlib.Nat.{le_refl}
use mathlib.Core.Path.{◌≡◌, refl}
use mathlib.Core.List.{List, [], ◌∷◌}
use lib.ListN.{length}
use lib.Dec.{ltb}
use borrow.Author.Tests.{ltb-true, ltb-false, lt-ltb, le-ltb}
use Rattle.number.specs.Numbers.{groups, Bytes, Grouped, count_up}
use Rattle.lists.proofs.Tests.{cond-elim}

-- how many numbers n groups of seven bits hold
abbrev pub capacity : ℕ → ℕ
capacity zero = 1
capacity (suc n) = 128 * capacity n

pub capacity-pos : (n : ℕ) → 0 < capacity n
capacity-pos zero = le_refl 1
capacity-pos (suc n) = omega (arith, capacity-pos n)

-- a number below 128 is its own group
pub groups-small : (more v : ℕ) → v < 128 → groups more v ≡ v ∷ []
unfolding groups
groups-small zero v h = refl
groups-small (suc more) v h = rw (lt-ltb v 128 h)

-- a larger one has a group with the top bit, then the groups of what is left
pub groups-large : (more v : ℕ) → 128 ≤ v → groups (suc more) v ≡ (128 + v % 128) ∷ groups more (v / 128)
unfolding groups
groups-large more v h = rw (le-ltb v 128 h)

-- what holds in these two cases holds of the groups
pub groups-elim : (P : List ℕ → Type 0) (more v : ℕ) → (v < 128 → P (v ∷ []))
    → (128 ≤ v → P ((128 + v % 128) ∷ groups more (v / 128))) → P (groups (suc more) v)
unfolding groups
groups-elim P more v small large =
    cond-elim P (ltb v 128) (λ e. small (ltb-true v 128 e)) (λ e. large (ltb-false v 128 e))

-- at least one group
pub groups-length-pos : (more v : ℕ) → 1 ≤ length (groups more v)
unfolding groups
groups-length-pos zero v = le_refl 1
groups-length-pos (suc more) v = groups-elim (λ g. 1 ≤ length g) more v (λ h. omega arith) (λ h. omega arith)

-- as many as have room for v suffice
pub groups-length-le : (n more v : ℕ) → v < capacity (suc n) → n ≤ more → length (groups more v) ≤ suc n
unfolding groups
groups-length-le zero more v h le = let small : v < 128 = omega arith in rw groups-small (le_refl 1)
groups-length-le (suc n) zero v h le = omega arith
groups-length-le (suc n) (suc more) v h le =
    groups-elim
    (λ g. length g ≤ suc (suc n))
    more
    v
    (λ small. omega arith)
    (λ large. omega (arith, groups-length-le n more (v / 128) (omega arith) (omega arith)))

-- and no fewer
pub groups-length-gt : (n more v : ℕ) → capacity n ≤ v → n ≤ more → n < length (groups more v)
unfolding groups
groups-length-gt zero more v h le = groups-length-pos more v
groups-length-gt (suc n) zero v h le = omega arith
groups-length-gt (suc n) (suc more) v h le =
    groups-elim
    (λ g. suc n < length g)
    more
    v
    (λ small. omega (arith, capacity-pos n))
    (λ large. omega (arith, groups-length-gt n more (v / 128) (omega arith) (omega arith)))

-- however large v is
pub groups-length-le-more : (more v : ℕ) → length (groups more v) ≤ suc more
unfolding groups
groups-length-le-more zero v = le_refl 1
groups-length-le-more (suc more) v =
    groups-elim
    (λ g. length g ≤ suc (suc more))
    more
    v
    (λ small. omega arith)
    (λ large. omega (arith, groups-length-le-more more (v / 128)))

-- a group with the top bit set, before others
pub grouped-cons : (byte : ℕ) (f : List ℕ) → 128 ≤ byte → byte < 256 → Grouped f → Grouped (byte ∷ f)
grouped-cons byte [] top small h = absurd h
grouped-cons byte (next ∷ f) top small h = (top, small, h)

-- where v fits, the groups are groups, and count up to v
pub groups-grouped : (more v : ℕ) → v < capacity (suc more) → Grouped (groups more v)
unfolding groups
groups-grouped zero v h = omega arith
groups-grouped (suc more) v h =
    groups-elim
    Grouped
    more
    v
    (λ small. small)
    (λ large. grouped-cons (128 + v % 128) (groups more (v / 128)) (omega arith) (omega arith) (groups-grouped more (v / 128) (omega arith)))

pub groups-count_up : (more v : ℕ) → v < capacity (suc more) → count_up (groups more v) ≡ v
unfolding groups count_up
groups-count_up zero v h = omega arith
groups-count_up (suc more) v h =
    groups-elim
    (λ g. count_up g ≡ v)
    more
    v
    (λ small. omega arith)
    (λ large. let rest = groups-count_up more (v / 128) (omega arith) in omega arith)

-- n groups count up to less than what they hold
pub count_up-lt : (f : List ℕ) (n : ℕ) → length f ≤ n → count_up f < capacity n
unfolding count_up
count_up-lt [] n h = capacity-pos n
count_up-lt (byte ∷ f) zero h = absurd (omega arith)
count_up-lt (byte ∷ f) (suc n) h = let rest = count_up-lt f n (omega arith) in omega arith

-- groups are at least one, and bytes
pub grouped-length-pos : (f : List ℕ) → Grouped f → 1 ≤ length f
grouped-length-pos [] h = absurd h
grouped-length-pos (byte ∷ f) h = omega arith

pub grouped-bytes : (f : List ℕ) → Grouped f → Bytes f
grouped-bytes [] h = tt
grouped-bytes (byte ∷ []) h = (omega arith, tt)
grouped-bytes (byte ∷ next ∷ f) (top, small, h) = (small, grouped-bytes (next ∷ f) h)
