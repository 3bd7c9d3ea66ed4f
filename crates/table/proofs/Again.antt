-- "Reading what was printed gives the pack back", of the programs `table` and `pack`. Assumes nothing.
use Prim.Native.Nat.{ℕ}
use native.Mathlib.Omega.{arith}
use mathlib.Core.Path.{◌≡◌, refl, sym, ◌∙◌}
use mathlib.Core.List.{List}
use lib.ListN.{length, take}
use lib.Seq.{length-take-le}
use lib.Dec.{ltb}
use borrow.Author.Tests.{lt-ltb, le-ltb}
use Rattle.lists.proofs.Prefixes.{take-elim}
use Rattle.refusal.specs.Checked.{accepted}
use Rattle.refusal.proofs.Checked.{map_accepted-accepted}
use Rattle.layers.specs.Layers.{Located}
use Rattle.pack.specs.Pack.{Pack, GoodPack, bytes_of_pack, read_pack, check_pack}
use Rattle.pack.proofs.Accepted.{read-of-pack}
use Rattle.pack.proofs.Prefix.{check_pack-buffer}
use Rattle.table.specs.Told.{good}
use Rattle.table.specs.Reading.{pack_input, pack_reply, text_most}
use Rattle.table.specs.Printing.{table_text, table_reply}
use Rattle.table.proofs.Made.{unless-good}
use Rattle.table.proofs.Drafted.{made_bytes}
use Rattle.table.proofs.RoundTrip.{pack-of-text}
use Rattle.table.proofs.Lengths.{text-length}

-- the check accepts good packs only
accepted-good : (input : List ℕ) (p : Pack) → check_pack input ≡ accepted p → GoodPack p
unfolding check_pack
accepted-good input p e =
    let (file, is, content) = map_accepted-accepted (λ (file : Located Pack). file.content) (read_pack input) e in
    rw content at (read-of-pack input file.content file.first is).1

-- no text that is printed is longer than `pack` holds
pub input-of-text : (p : Pack) → GoodPack p → pack_input (table_text p) ≡ good (bytes_of_pack p)
unfolding pack_input
input-of-text p g = rw (lt-ltb (length (table_text p)) text_most (omega (arith, text-length p g))) (pack-of-text p g)

-- Of an accepted pack `table` prints a text of which `pack` makes the pack again: its file of kind 4 in shortest forms.
pub printed-packed : (input : List ℕ) (p : Pack) → check_pack input ≡ accepted p → pack_reply (table_reply input) ≡ bytes_of_pack p
unfolding table_reply pack_reply
printed-packed input p e = rw (e, input-of-text p (accepted-good input p e)) refl

-- A file that has that form already comes back byte for byte.
pub same-bytes : (input : List ℕ) (p : Pack) → check_pack input ≡ accepted p → input ≡ bytes_of_pack p → pack_reply (table_reply input) ≡ input
same-bytes input p e is = printed-packed input p e ∙ sym is

-- So does every pack that `pack` writes.
pub made_again : (text : List ℕ) {bytes : List ℕ} → pack_input text ≡ good bytes → pack_reply (table_reply bytes) ≡ bytes
unfolding pack_input
made_again text {bytes} e =
    let (short, made) = unless-good (ltb (length text) text_most) _ _ e in
    let (p, checked, is) = made_bytes text made in
    same-bytes bytes p checked is

-- A program reads so many bytes: the rest of its input changes nothing.
pub pack-buffer : (input : List ℕ) → pack_reply (take text_most input) ≡ pack_reply input
unfolding pack_reply pack_input
pack-buffer input = take-elim pack_reply text_most input λ long.
    let size = length-take-le text_most input long in
    rw (size, le-ltb (length input) text_most long) refl

pub table-buffer : (input : List ℕ) → table_reply (take 32_768 input) ≡ table_reply input
unfolding table_reply
table-buffer input = rw (check_pack-buffer input) refl
