-- Document 02, request (d): the nested floors of Johnson's bound. Assumes nothing.
use Rattle.std.specs.Prelude.{ℕ, zero, suc, ◌*◌, ◌-◌, ◌/◌}

-- from i down to 0: "multiply by (k-i) and take the floor after dividing by (s-i)". From i = x on lambda it is the whole rule:
-- "start with floor(lambda × (k-x) / (s-x)), then for i = x-1 down to 0 multiply by (k-i) and take the floor after dividing by
-- (s-i)"
unfoldable pub floors_down : (k s i lambda : ℕ) → ℕ
floors_down k s zero lambda = lambda * k / s
floors_down k s (suc i) lambda = floors_down k s i (lambda * (k - suc i) / (s - suc i))

-- s × (s-1) × .. × (s-x): whole steps of it in lambda leave whole steps in every floor
unfoldable pub falling : (s x : ℕ) → ℕ
falling s zero = s
falling s (suc x) = falling s x * (s - suc x)
