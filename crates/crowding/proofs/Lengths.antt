-- New slices, and slices that keep their lengths when they are lent. Assumes nothing.
use mathlib.Core.Path.{◌≡◌, ◌∙◌}
use mathlib.Core.List.{List}
use Prim.Native.Nat.{ℕ}
use native.Mathlib.Omega.{arith}
use lib.ListN.{length, replicate}
use Rattle.crowding.specs.Linking.{Slices}

abbrev pub zeros : (n : ℕ) → List ℕ
zeros n = replicate n 0

pub slices-kept : {rows heads counts next heads' counts' next' : List ℕ} → Slices rows heads counts next
    → length heads' ≡ length heads → length counts' ≡ length counts → length next' ≡ length next
    → Slices rows heads' counts' next'
slices-kept s eh ec en = record {
  all-heads = eh ∙ s.all-heads;
  all-counts = ec ∙ s.all-counts;
  entries = omega (arith, s.entries);
  short = s.short;
}
