-- The replies are refused exactly where a lent slice is too short, and stand within it otherwise. Assumes nothing.
use Prim.Native.Nat.{ℕ, ◌≤◌, ◌<◌}
use Rattle.std.specs.Prelude.{Result, Ok, Err}
use native.Mathlib.Omega.{arith}
use mathlib.Core.Path.{◌≡◌, refl, ap}
use mathlib.Core.List.{List}
use lib.ListN.{length, drop, length-append}
use borrow.Author.Tests.{le-leb, lt-leb}
use Rattle.lists.specs.Lists.{over_start}
use Rattle.refusal.specs.declared.Refusal.{Refusal}
use Rattle.refusal.specs.declared.Refusal.TheVariants.{ShortOutput}
use Rattle.refusal.specs.Checked.{Checked, accepted, refused}
use Rattle.report.specs.Programs.{check_line}
use Rattle.report.specs.Answers.{ReplyDone}
use Rattle.report.specs.Replies.{Replied, line_needed, check_into}

module _ (input : List ℕ) (output : ℕ) where
  pub check_into-short : output < line_needed → check_into input output ≡ refused (ShortOutput line_needed)
  unfolding check_into
  check_into-short short = rw (lt-leb line_needed output short)

  -- In a slice as long as that of the program `check`, its line is never refused.
  pub check_into-enough : line_needed ≤ output → check_into input output ≡ accepted (check_line input)
  unfolding check_into
  check_into-enough enough = rw (le-leb line_needed output enough)

-- A reply at the slice's start is within it.
pub replied-of : (reply : List ℕ) (answer : ℕ) (before after : List ℕ) → answer ≡ length reply
    → after ≡ over_start reply before → Replied reply answer before after
replied-of reply answer before after e w =
    record {
      answered = e;
      inside = omega (arith, ap length w, length-append reply (drop (length reply) before));
      written = w;
    }

-- What an answer says of the slice that was lent.
module _ (o : Checked (List ℕ)) {before after : List ℕ} {answer : Result ℕ Refusal} (done : ReplyDone o before after answer) where
  pub reply-not-refused : {bytes : List ℕ} {why : Refusal} → o ≡ accepted bytes → answer ≡ Err why → ⊥
  reply-not-refused e a = let is = done.answer in let z : ◌≡◌ {A = ℕ} 0 1 = cc in omega arith

  -- the reply itself
  pub reply-written : {bytes : List ℕ} {n : ℕ} → o ≡ accepted bytes → answer ≡ Ok n → Replied bytes n before after
  reply-written {bytes} {n} e a =
      let is = done.answer in
      let same : n ≡ length bytes = cc in
      replied-of bytes n before after same (rw e at done.output-after)

-- a reply that was written is within the slice
pub reply-inside : (o : Checked (List ℕ)) {before after : List ℕ} {answer : Result ℕ Refusal} {n : ℕ} → ReplyDone o before after answer
    → answer ≡ Ok n → n ≤ length after
reply-inside (accepted bytes) done a = (reply-written (accepted bytes) done refl a).inside
reply-inside (refused e) done a = let is = done.answer in absurd (let z : ◌≡◌ {A = ℕ} 0 1 = cc in omega arith)
