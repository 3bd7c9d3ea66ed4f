-- Document 01, "Terms": binomial coefficients. Assumes nothing.
use Rattle.std.specs.Prelude.{ℕ, zero, suc, ◌+◌}

-- "C(m,j) is the number of j-element subsets of m things": "C(m,0) = 1, C(0,j) = 0 for j above 0, and
-- C(m+1,j+1) = C(m,j) + C(m,j+1)".
unfoldable pub choose : ℕ → ℕ → ℕ
choose m zero = 1
choose zero (suc j) = 0
choose (suc m) (suc j) = choose m j + choose m (suc j)
