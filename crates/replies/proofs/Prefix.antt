-- What a program writes is the same for the first 32,768 bytes of the input, which is what it reads. Assumes nothing.
use Prim.Native.Nat.{ℕ, ◌-◌, ◌≤◌, ◌<◌}
use native.Mathlib.Omega.{arith}
use mathlib.Core.Path.{◌≡◌, refl, ◌∙◌, ap}
use mathlib.Core.List.{List}
use lib.ListN.{length, take, drop}
use Rattle.lists.proofs.Parts.{slice-eq-take-drop}
use Rattle.lists.proofs.Prefixes.{take-elim}
use Rattle.refusal.specs.declared.Refusal.{Refusal}
use Rattle.pack.proofs.Prefix.{check_pack-take}
use Rattle.planner.specs.Planning.{plan}
use Rattle.text.specs.declared.GivenEnd.{GivenEnd}
use Rattle.text.specs.declared.GivenEnd.TheVariants.{File, Unread, Extra}
use Rattle.text.specs.Numbers.{given}
use Rattle.text.proofs.Numbers.{given-place, given-take}
use Rattle.replies.specs.Replying.{reply_after, with_numbers}
use Rattle.replies.specs.Plans.{plan_text, plan_program}

-- A reply that needs 22,596 bytes of its file at most, and four for each number before it.
module _ (count : ℕ) (bad : ℕ → Refusal) (reply : (numbers file : List ℕ) → List ℕ) (few : count ≤ 8)
    (enough : (m : ℕ) (numbers file : List ℕ) → 22_596 < m → reply numbers (take m file) ≡ reply numbers file)
    (arguments input : List ℕ) where
  within-reach : 32_768 ≤ length input
      → with_numbers count bad reply arguments (take 32_768 input) ≡ with_numbers count bad reply arguments input
  unfolding with_numbers
  within-reach long =
      let same = given-take 32_768 count arguments input (omega arith) long in
      rw same (go (given count arguments input).end refl)
    where
      go : (end : GivenEnd) → (given count arguments input).end ≡ end
          → reply_after count bad reply (take 32_768 input) (given count arguments input).values end
          ≡ reply_after count bad reply input (given count arguments input).values end
      go (File place) e =
          let early = (given-place count arguments input e).0 in
          ap (reply (given count arguments input).values) (slice-eq-take-drop place 32_768 input)
          ∙ enough (32_768 - place) (given count arguments input).values (drop place input) (omega arith)
      go (Unread i) e = refl
      go Extra e = refl

  pub numbers-buffer : with_numbers count bad reply arguments (take 32_768 input) ≡ with_numbers count bad reply arguments input
  numbers-buffer = take-elim (with_numbers count bad reply arguments) 32_768 input within-reach

-- No byte after the first 32,768 changes what `plan` writes.
pub plan-buffer : (arguments input : List ℕ) → plan_program arguments (take 32_768 input) ≡ plan_program arguments input
unfolding plan_text plan
plan-buffer arguments input = numbers-buffer 3 _ _ (omega arith) (λ m numbers file h. rw (check_pack-take m file (omega arith))) arguments input
