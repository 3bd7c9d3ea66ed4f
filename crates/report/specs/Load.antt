-- Document 01, "Row walk and programs", and document 02, (a): the mean load of the nodes. Assumes nothing.
use Rattle.std.specs.Prelude.{ℕ, suc, ◌+◌, ◌*◌, ◌/◌, ◌%◌, ◌≤◌, ◌≡◌, cond, ltb}

-- (a) "rounds all site averages half to even": total / n to the nearest whole, a half going to the even one
unfoldable pub half_to_even : (total n : ℕ) → ℕ
half_to_even total n =
    let whole = total / n in
    let twice = 2 * (total % n) in
    cond (ltb twice n) whole (cond (ltb n twice) (suc whole) (whole + whole % 2))

-- "mean is b × r / n", rounded so
abbrev pub mean : (b r n : ℕ) → ℕ
mean b r n = half_to_even (b * r) n

-- What the rule means: m is within a half of total / n, and where it is just a half away it is even.
pub record Rounded (total n m : ℕ) : Type 0 where
  pub not-far-below : 2 * total ≤ 2 * (m * n) + n
  pub not-far-above : 2 * (m * n) ≤ 2 * total + n
  pub even-below : 2 * total ≡ 2 * (m * n) + n → m % 2 ≡ 0
  pub even-above : 2 * (m * n) ≡ 2 * total + n → m % 2 ≡ 0
