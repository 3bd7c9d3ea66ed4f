-- What `pack` puts into the slice that it is lent. Assumes nothing.
use Prim.Native.Nat.{ℕ, ◌-◌, ◌≤◌, ◌<◌}
use Rattle.std.specs.Prelude.{Result, Ok, Err}
use native.Mathlib.Omega.{arith}
use mathlib.Core.Path.{◌≡◌, refl, sym, ap}
use mathlib.Core.List.{List}
use lib.ListN.{length, take, drop, length-append}
use lib.Seq.{take_at}
use borrow.Author.Tests.{lt-ltb, le-ltb}
use Rattle.lists.specs.Lists.{over_start}
use Rattle.report.specs.Replies.{Replied}
use Rattle.report.proofs.Replies.{replied-of}
use Rattle.table.specs.declared.Fault.{Fault}
use Rattle.table.specs.Told.{Told, good, bad, too_long}
use Rattle.table.specs.Reading.{pack_of, pack_input, pack_reply, or_fault_line, fault_line, text_most}
use Rattle.table.specs.Progress.{PackedIn}

-- too long a text, and any other
module _ (input : List ℕ) where
  pub input-long : text_most ≤ length input → (before after : List ℕ) → PackedIn (pack_input input) (Err (too_long text_most)) before after
  unfolding pack_input
  input-long h before after = rw (le-ltb (length input) text_most h) refl

  pub input-held : length input < text_most → (packed : Result ℕ Fault) (before after : List ℕ)
      → PackedIn (pack_of input) packed before after → PackedIn (pack_input input) packed before after
  unfolding pack_input
  input-held h packed before after is = rw (lt-ltb (length input) text_most h) is

-- what is made in a slice of its own, as the reply
module _ (input : List ℕ) (packed : Result ℕ Fault) (before after : List ℕ) (is-in : PackedIn (pack_input input) packed before after) where
  module _ {size : ℕ} (is : packed ≡ Ok size) where
    pub packed-inside : size ≤ length after
    packed-inside = go (pack_input input) (rw is at is-in)
      where
        go : (told : Told (List ℕ)) → PackedIn told (Ok size) before after → size ≤ length after
        go (good bytes) h = omega (arith, h.0, ap length h.1, length-append bytes (drop (length bytes) before))
        go (bad e) h = absurd h

    pub packed-replied : {out₀ out : List ℕ} → out ≡ over_start (take (size - 0) (drop 0 after)) out₀ → Replied (pack_reply input) size out₀ out
    unfolding pack_reply
    packed-replied {out₀} {out} out-is = go (pack_input input) (rw is at is-in)
      where
        go : (told : Told (List ℕ)) → PackedIn told (Ok size) before after → Replied (or_fault_line told) size out₀ out
        go (good bytes) h =
            let zero : size - 0 ≡ size = omega arith in
            let whole : take (size - 0) (drop 0 after) ≡ bytes = rw (zero, h.1) (take_at bytes (drop (length bytes) before) size (sym h.0)) in
            replied-of bytes size out₀ out h.0 (rw whole at out-is)
        go (bad e) h = absurd h

  pub fault-replied : {e : Fault} → packed ≡ Err e → {n : ℕ} {out₀ out : List ℕ} → Replied (fault_line e) n out₀ out
      → Replied (pack_reply input) n out₀ out
  unfolding pack_reply
  fault-replied {e} is {n} {out₀} {out} replied = go (pack_input input) (rw is at is-in)
    where
      go : (told : Told (List ℕ)) → PackedIn told (Err e) before after → Replied (or_fault_line told) n out₀ out
      go (good bytes) h = absurd h
      go (bad f) h = rw (← h) replied
