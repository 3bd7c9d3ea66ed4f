-- Document 01's binomials, by computation. Assumes nothing.
use mathlib.Core.Path.{◌≡◌, refl}
use Rattle.binomial.specs.Choose.{choose}

-- "C(5,2) = 10; C(2,3) = 0; C(254,5) = 8,468,125,050."
pub binomials : (choose 5 2 ≡ 10) × (choose 2 3 ≡ 0) × (choose 254 5 ≡ 8_468_125_050)
unfolding choose
binomials = (refl, refl, refl)
