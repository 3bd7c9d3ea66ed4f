-- A scan for the largest place where a function is least. Assumes nothing.
use Prim.Native.Nat.{ℕ, zero, suc, ◌+◌, ◌-◌, ◌≤◌, ◌<◌}
use native.Mathlib.Nat.{le_refl, le_antisymm, add-zero, add-suc}
use native.Mathlib.Omega.{arith}
use mathlib.Core.Path.{◌≡◌, refl, sym, ◌∙◌}
use mathlib.Core.Logic.{◌⊎◌, inl, inr}
use Rattle.lists.proofs.Arith.{le-or-lt}
use Rattle.split.specs.Splits.{least, last_least}
use Rattle.split.proofs.Least.{least-le, le-least, least-suc, last_least-suc-lt, le-last_least, last_least-le}

-- where a scan is: the places up to c were looked at
pub record ScanTo (f : ℕ → ℕ) (c best low : ℕ) : Type 0 where
  pub last-least : best ≡ last_least f c
  pub low-least : low ≡ least f c

pub scan-none : (f : ℕ → ℕ) {low : ℕ} → low ≡ f 0 → ScanTo f 0 0 low
unfolding least last_least
scan-none f e = record { last-least = refl; low-least = e }

module _ (f : ℕ → ℕ) {c best low : ℕ} (s : ScanTo f c best low) where
  -- places that are above the least are passed over
  pub scan-over : (n : ℕ) → ((i : ℕ) → c < i → i ≤ c + n → low < f i) → ScanTo f (c + n) best low
  scan-over zero h = rw (add-zero c) s
  scan-over (suc n) h =
      let before = scan-over n (λ i l g. h i l (omega arith)) in
      let here : low < f (suc (c + n)) = h (suc (c + n)) (omega arith) (omega arith) in
      let g = before.low-least in
      let l = least-suc f (c + n) in
      rw (add-suc c n)
      (record { last-least = before.last-least ∙ sym (last_least-suc-lt f (c + n) (omega arith)); low-least = omega arith })

  -- the next place that is looked at, where f is no more than at those between
  module _ {next now : ℕ} (after : c < next) (e : now ≡ f next) (between : (i : ℕ) → c < i → i ≤ next → now ≤ f i) where
    pub scan-taken : now ≤ low → ScanTo f next next now
    scan-taken h =
        record {
          last-least = le_antisymm (le-last_least f next next (le_refl next) (omega (arith, low-next))) (last_least-le f next);
          low-least = let l = least-le f next next (le_refl next) in omega (arith, low-next);
        }
      where
        go : (i : ℕ) → i ≤ next → (i ≤ c) ⊎ (c < i) → now ≤ f i
        go i l (inl g) = let m = least-le f c i g in let q = s.low-least in omega arith
        go i l (inr g) = between i g l

        low-next : now ≤ least f next
        low-next = le-least f now next (λ i l. go i l (le-or-lt i c))

    pub scan-left : low < now → ScanTo f next best low
    scan-left h =
        let q : c + (next - c) ≡ next = omega arith in
        rw q at (scan-over (next - c) (λ i l g. let b = between i l (omega arith) in omega arith))

-- the place after, whether it is taken or not
pub scan-more : (f : ℕ → ℕ) {c best low now best2 low2 : ℕ} → ScanTo f (c - 1) best low → 1 ≤ c → now ≡ f c
    → ((now ≤ low) × (best2 ≡ c) × (low2 ≡ now)) ⊎ ((low < now) × (best2 ≡ best) × (low2 ≡ low)) → ScanTo f c best2 low2
scan-more f {c} {best} {low} {now} s pos e chosen = go chosen
  where
    same : (i : ℕ) → c - 1 < i → i ≤ c → now ≤ f i
    same i l g = let q : i ≡ c = omega arith in rw q (omega (arith, e))

    go : {best2 low2 : ℕ} → ((now ≤ low) × (best2 ≡ c) × (low2 ≡ now)) ⊎ ((low < now) × (best2 ≡ best) × (low2 ≡ low))
        → ScanTo f c best2 low2
    go (inl (h, b, l)) = rw (b, l) (scan-taken f s (omega arith) e same h)
    go (inr (h, b, l)) = rw (b, l) (scan-left f s (omega arith) e same h)
