-- A text put piece by piece at places of a lent slice. Assumes nothing.
use Prim.Native.Nat.{ℕ, ◌+◌, ◌-◌, ◌≤◌}
use native.Mathlib.Omega.{arith}
use native.Mathlib.Nat.{zero-add}
use mathlib.Core.Path.{◌≡◌, refl, sym, ◌∙◌, ap}
use mathlib.Core.List.{List, [], ◌++◌, append_assoc}
use lib.ListN.{length, take, drop, length-append}
use lib.Seq.{sets, sets-eq, length-sets, drop-drop}
use Rattle.lists.specs.Lists.{over_start}
use Rattle.lists.proofs.Stores.{sets-append, sets-start}
use Rattle.lists.proofs.Writing.{given_back, append-rest, take-drop-rest}
use Rattle.report.specs.Replies.{Replied}
use Rattle.report.proofs.Replies.{replied-of}
use Rattle.report_lines.specs.Put.{Put}

-- bytes copied into the part of the slice from `at` on
pub put-copied : (word out : List ℕ) (at : ℕ) {last : List ℕ} → at + length word ≤ length out
    → last ≡ over_start word (take (length out - at) (drop at out)) → Put word out at (at + length word) (given_back out at last)
put-copied word out at {last} room is =
    record {
      ends = refl;
      stored =
          append-rest out last at
          ∙ ap (λ l. take at out ++ l) (is ∙ ap (λ l. word ++ drop (length word) l) (take-drop-rest out at) ∙ ap (λ l. word ++ l) (drop-drop (length word) at out))
          ∙ sym (append_assoc (take at out) word (drop (at + length word) out))
          ∙ sym (sets-eq word out at room);
    }

-- one piece after another
pub put_both : {one two before between after : List ℕ} {at middle next : ℕ} → Put one before at middle between → Put two between middle next after
    → Put (one ++ two) before at next after
put_both {one} {two} {before} {between} {after} {at} {middle} {next} p q =
    record {
      ends = q.ends ∙ rw (p.ends, length-append one two) (omega arith);
      stored = q.stored ∙ rw (p.stored, p.ends) (sym (sets-append before at one two));
    }

-- what was put from the start on is a reply
pub put-replied : (whole before : List ℕ) {after : List ℕ} {next : ℕ} → length whole ≤ length before → Put whole before 0 next after
    → Replied whole next before after
put-replied whole before {after} {next} fits put =
    replied-of whole next before after (put.ends ∙ zero-add (length whole)) (put.stored ∙ sets-start before whole fits)

-- What is left, stored from `place` on, makes the whole of it from `at` on.
pub record Stored (whole before : List ℕ) (at : ℕ) (left after : List ℕ) (place : ℕ) : Type 0 where
  pub ends : place + length left ≡ at + length whole
  pub same_length : length after ≡ length before
  pub same : sets after place left ≡ sets before at whole

pub stored-none : (whole before : List ℕ) (at : ℕ) → Stored whole before at whole before at
stored-none whole before at = record { ends = refl; same_length = refl; same = refl }

pub stored_next : {whole before part left after after' : List ℕ} {at place next : ℕ} → Stored whole before at (part ++ left) after place
    → Put part after place next after' → Stored whole before at left after' next
stored_next {whole} {before} {part} {left} {after} {after'} {at} {place} {next} s p =
    record {
      ends = omega (arith, s.ends, p.ends, length-append part left);
      same_length = rw p.stored (length-sets after place part ∙ s.same_length);
      same = rw (p.stored, p.ends) (sym (sets-append after place part left) ∙ s.same);
    }

pub stored-all : {whole before after : List ℕ} {at place : ℕ} → Stored whole before at [] after place → Put whole before at place after
stored-all {whole} {before} {after} {at} {place} s = record { ends = omega (arith, s.ends); stored = s.same }
