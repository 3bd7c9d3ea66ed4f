-- Slices with the lengths that a call states, and others. Assumes nothing.
use Prim.Native.Nat.{ℕ, ◌≤◌, ◌<◌}
use Rattle.std.specs.Prelude.{Result}
use mathlib.Core.Path.{◌≡◌, refl}
use mathlib.Core.Bool.{Bool, true, false}
use mathlib.Core.List.{List}
use lib.ListN.{length}
use borrow.Author.Tests.{le-leb, lt-leb}
use Rattle.refusal.specs.Refusals.{Outcome}
use Rattle.refusal.specs.Checked.{Checked, writing, writing_outcome, WritingDone}
use Rattle.exports.specs.Exports.{fits, bad_length, Put, Told, WritingExported}
use Rattle.refusal.specs.declared.Refusal.{Refusal}

pub fits-long : (needed : ℕ) (answer : List ℕ) → needed ≤ length answer → fits needed answer ≡ true
fits-long needed answer long = le-leb needed (length answer) long

pub fits-short : (needed : ℕ) (answer : List ℕ) → length answer < needed → fits needed answer ≡ false
fits-short needed answer short = lt-leb needed (length answer) short

-- as stated: what the call's own answer says
pub stated-told : {X : Type 0} (says : X → Outcome) (given_is x : X) (stated : Bool) (answer answer-left : List ℕ) (given : ℕ)
    → stated ≡ true → given_is ≡ x → Put (says given_is) answer answer-left given → Told stated (says x) answer answer-left given
stated-told says given_is x stated answer answer-left given long e put =
    record { answer-after = rw (long, ← e) put.answer-after; returned = rw (long, ← e) put.returned }

-- else nothing is put
pub unstated-told : (said : Outcome) (stated : Bool) (answer : List ℕ) → stated ≡ false → Told stated said answer answer bad_length
unstated-told said stated answer short = record { answer-after = rw short refl; returned = rw short refl }

-- the same, where only the answer slice has a length to keep
pub put-told : {X : Type 0} (says : X → Outcome) (given_is x : X) (needed : ℕ) (answer answer-left : List ℕ) (given : ℕ)
    → needed ≤ length answer → given_is ≡ x → Put (says given_is) answer answer-left given
    → Told (fits needed answer) (says x) answer answer-left given
put-told says given_is x needed answer answer-left given long e put =
    stated-told says given_is x (fits needed answer) answer answer-left given (fits-long needed answer long) e put

pub short-told : (said : Outcome) (needed : ℕ) (answer : List ℕ) → length answer < needed
    → Told (fits needed answer) said answer answer bad_length
short-told said needed answer short = unstated-told said (fits needed answer) answer (fits-short needed answer short)

-- a call that only writes, by its own contract and what was put
pub writing-told : (wrote : Checked (List ℕ)) (out out-left answer answer-left : List ℕ) (given : ℕ) (w : Result ℕ Refusal) → 2 ≤ length answer
    → WritingDone wrote out out-left w → Put (writing_outcome w) answer answer-left given
    → WritingExported wrote out out-left answer answer-left given
writing-told wrote out out-left answer answer-left given w long done put =
    record {
      told = put-told writing_outcome w (writing wrote) 2 answer answer-left given long done.answer put;
      output-after = rw (fits-long 2 answer long) done.output-after;
    }

pub writing-short : (wrote : Checked (List ℕ)) (out answer : List ℕ) → length answer < 2
    → WritingExported wrote out out answer answer bad_length
writing-short wrote out answer short =
    record {
      told = short-told (writing_outcome (writing wrote)) 2 answer short;
      output-after = rw (fits-short 2 answer short) refl;
    }
