-- The least common multiple of two numbers. Assumes nothing.
use Rattle.std.specs.Prelude.{ℕ, zero, suc, ◌+◌, ◌%◌, cond, eqb}

-- the first of m, m + a, m + 2 × a, .. that b divides; `left` of them are looked at
unfoldable pub first_common : (left m a b : ℕ) → ℕ
first_common zero m a b = m
first_common (suc left) m a b = cond (eqb (m % b) 0) m (first_common left (m + a) a b)

-- the first of the multiples a, 2 × a, .., b × a that is one of b too: a × b is
unfoldable pub lcm : (a b : ℕ) → ℕ
lcm a b = first_common b a a b
