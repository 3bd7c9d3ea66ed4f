-- "Reading what was printed gives the bare rows back", of the programs `listing` and `rows`. Assumes nothing.
use Prim.Native.Nat.{ℕ}
use native.Mathlib.Omega.{arith}
use mathlib.Core.Path.{◌≡◌, refl, sym, ◌∙◌}
use mathlib.Core.List.{List}
use lib.ListN.{length, take}
use lib.Dec.{ltb}
use borrow.Author.Tests.{lt-ltb}
use Rattle.refusal.specs.Checked.{accepted}
use Rattle.certify.specs.Bare.{Bare, GoodBare, check_bare, bare_bytes}
use Rattle.certify.proofs.Accepted.{checked-good}
use Rattle.certify.proofs.Prefix.{check_bare-buffer}
use Rattle.table.specs.Told.{good}
use Rattle.table.specs.Reading.{text_most}
use Rattle.table.proofs.Made.{unless-good}
use Rattle.rows_text.specs.Making.{rows_input, rows_reply}
use Rattle.rows_text.proofs.Drafted.{made_bytes}
use Rattle.rows_text_print.specs.Printing.{rows_text, listing_reply}
use Rattle.rows_text_print.proofs.RoundTrip.{rows-of-text}
use Rattle.rows_text_print.proofs.Lengths.{text-length}

-- no text that is printed is longer than `rows` holds
pub input-of-text : (q : Bare) → GoodBare q → rows_input (rows_text q) ≡ good (bare_bytes q)
unfolding rows_input
input-of-text q g = rw (lt-ltb (length (rows_text q)) text_most (omega (arith, text-length q g))) (rows-of-text q g)

-- Of accepted bare rows `listing` prints a text of which `rows` makes them again: their file in shortest forms.
pub printed-made : (input : List ℕ) (q : Bare) → check_bare input ≡ accepted q → rows_reply (listing_reply input) ≡ bare_bytes q
unfolding listing_reply rows_reply
printed-made input q e = rw (e, input-of-text q (checked-good input q e)) refl

-- A file that has that form already comes back byte for byte.
pub same-bytes : (input : List ℕ) (q : Bare) → check_bare input ≡ accepted q → input ≡ bare_bytes q → rows_reply (listing_reply input) ≡ input
same-bytes input q e is = printed-made input q e ∙ sym is

-- So does every file that `rows` writes.
pub made_again : (text : List ℕ) {bytes : List ℕ} → rows_input text ≡ good bytes → rows_reply (listing_reply bytes) ≡ bytes
unfolding rows_input
made_again text {bytes} e =
    let (short, made) = unless-good (ltb (length text) text_most) _ _ e in
    let (q, checked, is) = made_bytes text made in
    same-bytes bytes q checked is

-- A program reads so many bytes: the rest of its input changes nothing.
pub listing-buffer : (input : List ℕ) → listing_reply (take 32_768 input) ≡ listing_reply input
unfolding listing_reply
listing-buffer input = rw (check_bare-buffer input) refl
