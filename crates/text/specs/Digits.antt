-- What the code that reads decimal numbers goes by. Assumes nothing.
use Rattle.std.specs.Prelude.{ℕ, ◌-◌, cond, List, get_or}
use Rattle.text.specs.Decimal.{is_digit}

-- the digit at a place, 10 where there is none
abbrev pub digit_at : List ℕ → (at : ℕ) → ℕ
digit_at text at = cond (is_digit (get_or text at 0)) (get_or text at 0 - 48) 10
