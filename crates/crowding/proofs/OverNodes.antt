-- A step for each node, the largest first: where it changes nothing, and where two steps are the same. Assumes nothing.
use Prim.Native.Nat.{ℕ, zero, suc, ◌-◌, ◌≤◌, ◌<◌}
use mathlib.Core.Path.{◌≡◌, refl, sym, ap, ◌∙◌}
use mathlib.Core.Bool.{Bool, true, false}
use native.Mathlib.Omega.{arith}
use lib.Dec.{leb}
use borrow.Author.Tests.{leb-true, leb-false}
use Rattle.crowding.specs.Tails.{over_nodes}

pub over-next : (f : ℕ → ℕ → ℕ) (v least : ℕ) → 0 < v → over_nodes f (v - 1) (f (v - 1) least) ≡ over_nodes f v least
unfolding over_nodes
over-next f zero least pos = absurd (omega arith)
over-next f (suc v) least pos =
    let e : suc v - 1 ≡ v = omega arith in
    rw e

pub over-from : (f : ℕ → ℕ → ℕ) (m n least : ℕ) → m ≤ n → ((v : ℕ) → m ≤ v → v < n → f v least ≡ least)
    → over_nodes f n least ≡ over_nodes f m least
unfolding over_nodes
over-from f m zero least le same =
    let e : m ≡ 0 = omega arith in
    rw e
over-from f m (suc v) least le same = go (leb m v) refl (λ le. over-from f m v least le (λ u mu uv. same u mu (omega arith)))
  where
    go : (b : Bool) → leb m v ≡ b → (m ≤ v → over_nodes f v least ≡ over_nodes f m least) → over_nodes f v (f v least) ≡ over_nodes f m least
    go true e ih = ap (over_nodes f v) (same v (leb-true m v e) (omega arith)) ∙ ih (leb-true m v e)
    go false e ih =
        let all : m ≡ suc v = omega (arith, leb-false m v e) in
        rw all

-- node n is next where the steps between n and m change nothing
pub over-down : (f : ℕ → ℕ → ℕ) (n m least : ℕ) → n < m → ((v : ℕ) → n < v → v < m → f v least ≡ least)
    → over_nodes f n (f n least) ≡ over_nodes f m least
unfolding over_nodes
over-down f n m least lt same = sym (over-from f (suc n) m least lt same)

pub over-same : (f : ℕ → ℕ → ℕ) (n least : ℕ) → ((v : ℕ) → v < n → f v least ≡ least) → over_nodes f n least ≡ least
unfolding over_nodes
over-same f n least same = over-from f 0 n least (omega arith) (λ v le lt. same v lt)

pub over-congr : (f g : ℕ → ℕ → ℕ) → ((v least : ℕ) → f v least ≡ g v least) → (n least : ℕ) → over_nodes f n least ≡ over_nodes g n least
unfolding over_nodes
over-congr f g same zero least = refl
over-congr f g same (suc v) least = over-congr f g same v (f v least) ∙ ap (over_nodes g v) (same v least)
