-- What reading a text gives: a result, or the first fault that is met. Assumes nothing.
use Rattle.std.specs.Prelude.{ℕ, Bool, true, false}
use Rattle.table.specs.declared.Fault.{Fault}

pub data Told (A : Type 0) : Type 0 where
  good : A → Told A
  bad : Fault → Told A

infixl 10 ◌>>=◌
-- `do a ← m; f a`: what follows only where m is good
abbrev pub ◌>>=◌ : {A B : Type 0} → Told A → (A → Told B) → Told B
good a >>= f = f a
bad e >>= f = bad e

-- the fault unless the test passes
abbrev pub unless : Bool → Fault → Told Unit
unless true e = good tt
unless false e = bad e

-- the faults of a text, each with a line as its place. Refusal 23: a line that can't be read: a byte that is no part of a number, more
-- than eight digits or 255 numbers, another count of numbers than is due, or a line that is not due there
abbrev pub unreadable : (line : ℕ) → Fault
unreadable line = record { number = 23; place = line }

-- refusal 1: the text ends before the last layer
abbrev pub ends_early : (line : ℕ) → Fault
ends_early line = record { number = 1; place = line }

-- refusal 4: a number outside its limits
abbrev pub outside : (line : ℕ) → Fault
outside line = record { number = 4; place = line }

-- refusal 6: a block not ascending or with a node at or above n
abbrev pub bad_block : (line : ℕ) → Fault
bad_block line = record { number = 6; place = line }

-- refusal 24: a text longer than the program holds, with how many bytes it may not reach
abbrev pub too_long : (most : ℕ) → Fault
too_long most = record { number = 24; place = most }
