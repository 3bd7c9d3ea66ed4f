-- What the programs write is the same for the first 32,768 bytes of the input, which is what they read. Assumes nothing.
use Prim.Native.Nat.{ℕ}
use native.Mathlib.Omega.{arith}
use mathlib.Core.Path.{◌≡◌}
use mathlib.Core.List.{List}
use lib.ListN.{take}
use Rattle.pack.proofs.Prefix.{check_pack-take}
use Rattle.placement.proofs.Prefix.{check_placement-take}
use Rattle.planner.specs.Planning.{plan}
use Rattle.worst.specs.Worst.{check_worst}
use Rattle.rounds.specs.Rounds.{check_rounds}
use Rattle.commit.specs.Asking.{ask}
use Rattle.commit.specs.Committing.{commit}
use Rattle.operators.specs.Operators.{plan_operator}
use Rattle.join.specs.Join.{check_packs, join}
use Rattle.replies.proofs.Prefix.{numbers-buffer}
use Rattle.call_replies.specs.Curve.{curve_text, curve_reply}
use Rattle.call_replies.specs.Worst.{worst_text, worst_reply}
use Rattle.call_replies.specs.Rounds.{rounds_text, rounds_reply}
use Rattle.call_replies.specs.Page.{page_text, page_reply}
use Rattle.call_replies.specs.Committing.{ask_text, ask_reply, commit_text, commit_reply}
use Rattle.call_replies.specs.Operators.{operator_text, operator_reply}
use Rattle.call_replies.specs.Join.{join_reply}

module _ (arguments input : List ℕ) where
  pub curve-buffer : curve_reply arguments (take 32_768 input) ≡ curve_reply arguments input
  unfolding curve_text
  curve-buffer =
      numbers-buffer 0 _ (λ _ placement. curve_text placement) (omega arith)
      (λ m numbers file h. rw (check_placement-take m file h)) arguments input

  pub worst-buffer : worst_reply arguments (take 32_768 input) ≡ worst_reply arguments input
  unfolding worst_text check_worst
  worst-buffer =
      numbers-buffer 0 _ (λ _ placement. worst_text placement) (omega arith)
      (λ m numbers file h. rw (check_placement-take m file h)) arguments input

  pub page-buffer : page_reply arguments (take 32_768 input) ≡ page_reply arguments input
  unfolding page_text
  page-buffer =
      numbers-buffer 0 _ (λ _ placement. page_text placement) (omega arith)
      (λ m numbers file h. rw (check_placement-take m file h)) arguments input

  pub rounds-buffer : rounds_reply arguments (take 32_768 input) ≡ rounds_reply arguments input
  unfolding rounds_text check_rounds
  rounds-buffer = numbers-buffer 1 _ _ (omega arith) (λ m numbers file h. rw (check_placement-take m file h)) arguments input

  pub ask-buffer : ask_reply arguments (take 32_768 input) ≡ ask_reply arguments input
  unfolding ask_text ask
  ask-buffer = numbers-buffer 3 _ _ (omega arith) (λ m numbers file h. rw (check_pack-take m file (omega arith))) arguments input

  pub commit-buffer : commit_reply arguments (take 32_768 input) ≡ commit_reply arguments input
  unfolding commit_text commit
  commit-buffer = numbers-buffer 8 _ _ (omega arith) (λ m numbers file h. rw (check_pack-take m file (omega arith))) arguments input

  pub operator-buffer : operator_reply arguments (take 32_768 input) ≡ operator_reply arguments input
  unfolding operator_text plan_operator plan
  operator-buffer = numbers-buffer 4 _ _ (omega arith) (λ m numbers file h. rw (check_pack-take m file (omega arith))) arguments input

-- no byte of a file after the first 32,768 changes what `join` writes
pub join-buffer : (named : ℕ) (first second third : List ℕ) (output : ℕ)
    → join_reply named (take 32_768 first) (take 32_768 second) (take 32_768 third) output ≡ join_reply named first second third output
unfolding join_reply join check_packs
join-buffer named first second third output =
    rw (
      check_pack-take 32_768 first (omega arith),
      check_pack-take 32_768 second (omega arith),
      check_pack-take 32_768 third (omega arith),
    )
