-- The refusals of text: numbers from 22 on, after those of documents 01 and 02. Assumes nothing.
use Rattle.std.specs.Prelude.{ℕ}
use Rattle.text.specs.declared.TextRefusal.{TextRefusal}
use Rattle.text.specs.declared.TextRefusal.TheVariants.{Arguments, Unreadable, TooLong}

-- a refusal's number
abbrev pub text_number : TextRefusal → ℕ
text_number (Arguments p) = 22
text_number (Unreadable p) = 23
text_number (TooLong p) = 24

-- its place: how many arguments the program takes, the line, what the program holds
abbrev pub text_place : TextRefusal → ℕ
text_place (Arguments p) = p
text_place (Unreadable p) = p
text_place (TooLong p) = p
