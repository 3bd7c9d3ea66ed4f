-- Arguments by hand, by computation. Assumes nothing.
use mathlib.Core.Path.{◌≡◌, refl}
use mathlib.Core.List.{[], ◌∷◌}
use Rattle.refusal.specs.declared.Refusal.TheVariants.{Malformed}
use Rattle.refusal.specs.Checked.{accepted, refused}
use Rattle.number.specs.Numbers.{read_groups, read_number}
use Rattle.text.specs.declared.GivenEnd.TheVariants.{File, Unread, Extra}
use Rattle.text.specs.Decimal.{read_digits, read_decimal}
use Rattle.text.specs.Numbers.{take_numbers, given}

-- `12`; `007`; nine digits; ten digits, a sign, no digit and no end can't be read
pub decimals : (read_decimal (49 ∷ 50 ∷ 0 ∷ []) 0 ≡ accepted (record { value = 12; next = 3 }))
    × (read_decimal (48 ∷ 48 ∷ 55 ∷ 0 ∷ []) 0 ≡ accepted (record { value = 7; next = 4 }))
    × (read_decimal (57 ∷ 57 ∷ 57 ∷ 57 ∷ 57 ∷ 57 ∷ 57 ∷ 57 ∷ 57 ∷ 0 ∷ []) 0 ≡ accepted (record { value = 999_999_999; next = 10 }))
    × (read_decimal (48 ∷ 48 ∷ 48 ∷ 48 ∷ 48 ∷ 48 ∷ 48 ∷ 48 ∷ 48 ∷ 49 ∷ 0 ∷ []) 0 ≡ refused (Malformed 0))
    × (read_decimal (43 ∷ 49 ∷ 0 ∷ []) 0 ≡ refused (Malformed 0))
    × (read_decimal (49 ∷ 58 ∷ 0 ∷ []) 0 ≡ refused (Malformed 0))
    × (read_decimal (0 ∷ 49 ∷ 0 ∷ []) 0 ≡ refused (Malformed 0))
    × (read_decimal (49 ∷ 50 ∷ []) 0 ≡ refused (Malformed 0))
    × (read_decimal (49 ∷ 0 ∷ 50 ∷ 0 ∷ []) 2 ≡ accepted (record { value = 2; next = 4 }))
unfolding read_digits read_decimal
decimals = (refl, refl, refl, refl, refl, refl, refl, refl, refl)

-- `2 3` before a file of one byte; one argument too many; the second can't be read; and the same numbers in the file's own form
pub givens : (given 2 (50 ∷ 0 ∷ 51 ∷ 0 ∷ []) (9 ∷ []) ≡ record { end = File 0; values = 2 ∷ 3 ∷ 0 ∷ 0 ∷ 0 ∷ 0 ∷ 0 ∷ 0 ∷ [] })
    × (given 1 (50 ∷ 0 ∷ 51 ∷ 0 ∷ []) (9 ∷ []) ≡ record { end = Extra; values = 2 ∷ 0 ∷ 0 ∷ 0 ∷ 0 ∷ 0 ∷ 0 ∷ 0 ∷ [] })
    × (given 2 (50 ∷ 0 ∷ 120 ∷ 0 ∷ []) (9 ∷ []) ≡ record { end = Unread 1; values = 2 ∷ 0 ∷ 0 ∷ 0 ∷ 0 ∷ 0 ∷ 0 ∷ 0 ∷ [] })
    × (given 2 (50 ∷ 0 ∷ []) (9 ∷ []) ≡ record { end = Unread 1; values = 2 ∷ 0 ∷ 0 ∷ 0 ∷ 0 ∷ 0 ∷ 0 ∷ 0 ∷ [] })
    × (given 0 (50 ∷ 0 ∷ []) (9 ∷ []) ≡ record { end = Extra; values = 0 ∷ 0 ∷ 0 ∷ 0 ∷ 0 ∷ 0 ∷ 0 ∷ 0 ∷ [] })
    × (given 0 [] (9 ∷ []) ≡ record { end = File 0; values = 0 ∷ 0 ∷ 0 ∷ 0 ∷ 0 ∷ 0 ∷ 0 ∷ 0 ∷ [] })
    × (given 2 [] (2 ∷ 3 ∷ 9 ∷ []) ≡ record { end = File 2; values = 2 ∷ 3 ∷ 0 ∷ 0 ∷ 0 ∷ 0 ∷ 0 ∷ 0 ∷ [] })
    × (given 2 [] (2 ∷ []) ≡ record { end = Unread 1; values = 2 ∷ 0 ∷ 0 ∷ 0 ∷ 0 ∷ 0 ∷ 0 ∷ 0 ∷ [] })
unfolding read_digits read_decimal read_groups read_number take_numbers given
givens = (refl, refl, refl, refl, refl, refl, refl, refl)
