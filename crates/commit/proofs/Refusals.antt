-- Asking and committing refuse as planning does: asking without 11, committing without 10 and with 16. Assumes nothing.
use Prim.Native.Nat.{ℕ, ◌≤◌}
use native.Mathlib.Nat.{le_trans}
use mathlib.Core.Path.{◌≡◌, refl, sym}
use mathlib.Core.List.{List}
use lib.Dec.{T, leb}
use Rattle.lists.proofs.Tests.{true-T}
use Rattle.refusal.specs.declared.Refusal.{Refusal}
use Rattle.refusal.specs.declared.Refusal.TheVariants.{BadCounts}
use Rattle.refusal.specs.Refusals.{refusal}
use Rattle.refusal.specs.Checked.{Checked, accepted, refused, ◌>>=◌}
use Rattle.refusal.proofs.Checked.{refused-not-accepted}
use Rattle.layers.specs.Layers.{heads_of}
use Rattle.pack.specs.Pack.{Pack, check_pack}
use Rattle.placement.specs.Placement.{OrderLimits}
use Rattle.placement.specs.declared.Order.{Order}
use Rattle.split.specs.Splits.{has_block}
use Rattle.planner.specs.Planning.{check_order, check_blocks, check_work, check_output, plan_pack, plan, output_needed, work_most, output_most}
use Rattle.planner.specs.Answers.{plan_answer, plan_outcome}
use Rattle.planner.specs.Writing.{counts_placement}
use Rattle.planner.proofs.Checks.{order-within, order-good, blocks-good, work-good, output-good}
use Rattle.planner.proofs.Planned.{accepted-good, entries-most, bytes_most}
use Rattle.commit.specs.Asking.{ask_layers, ask}
use Rattle.commit.specs.Committing.{Taken, commit_pack, commit}
use Rattle.commit.proofs.Answers.{not-sixteen}
use Rattle.commit.proofs.Checks.{counts-good, counts-bad}

-- a refusal of one chain of checks is one of another that begins alike
bind-refused : {A B C : Type 0} (m : Checked A) (f : A → Checked B) (g : A → Checked C) {e : Refusal}
    → ((a : A) → m ≡ accepted a → f a ≡ refused e → g a ≡ refused e) → (m >>= f) ≡ refused e → (m >>= g) ≡ refused e
bind-refused (accepted a) f g h e = h a refl e
bind-refused (refused why) f g h e = cc

not-refused : {A B : Type 0} {m : Checked B} {a : A} {e : Refusal} → accepted a ≡ refused e → m ≡ refused e
not-refused e = absurd (refused-not-accepted (sym e))

module _ (bytes : List ℕ) (order : Order) where
  -- what asking refuses, planning refuses, whatever its output
  pub ask-refused-plan : (work output : ℕ) {e : Refusal} → ask bytes order work ≡ refused e → plan bytes order work output ≡ refused e
  unfolding ask ask_layers plan plan_pack
  ask-refused-plan work output =
      bind-refused (check_pack bytes) _ _ λ pack _.
      bind-refused (check_order pack.n pack.r order) _ _ λ _ _.
      bind-refused (check_blocks (heads_of pack.layers) order.s) _ _ λ _ _.
      bind-refused (check_work order work) _ _ λ _ _. not-refused

  -- and what planning refuses that has room for any placement, asking refuses
  pub plan-refused-ask : (work output : ℕ) {e : Refusal} → output_most ≤ output → plan bytes order work output ≡ refused e
      → ask bytes order work ≡ refused e
  unfolding ask ask_layers plan plan_pack
  plan-refused-ask work output room =
      bind-refused (check_pack bytes) _ _ λ pack e.
      bind-refused (check_order pack.n pack.r order) _ _ λ _ e₁.
      bind-refused (check_blocks (heads_of pack.layers) order.s) _ _ λ _ _.
      bind-refused (check_work order work) _ _ λ _ _.
      let most = bytes_most pack (accepted-good bytes pack e) order (order-within pack.n pack.r order e₁) in
      rw (output-good order.b pack.r output (le_trans most room)) not-refused

  -- the pack, 12 and 9 come before 16: what planning refuses that has room for everything, committing refuses, whatever the counts
  pub plan-refused-commit : (counts : List ℕ) (output : ℕ) {e : Refusal} → plan bytes order work_most output_most ≡ refused e
      → commit bytes order counts output ≡ refused e
  unfolding plan plan_pack commit commit_pack
  plan-refused-commit counts output =
      bind-refused (check_pack bytes) _ _ λ pack e.
      bind-refused (check_order pack.n pack.r order) _ _ λ _ e₁.
      bind-refused (check_blocks (heads_of pack.layers) order.s) _ _ λ _ _.
      let good = accepted-good bytes pack e in
      let within = order-within pack.n pack.r order e₁ in
      rw (
        work-good order work_most (entries-most pack good order within),
        output-good order.b pack.r output_most (bytes_most pack good order within),
      )
      not-refused

  -- counts that are taken on the pack, where it is accepted
  module _ (counts : List ℕ) (output : ℕ)
      (taken : (pack : Pack) → check_pack bytes ≡ accepted pack → Taken (heads_of pack.layers) order.s order.b counts) where
    pub taken-refused-plan : {e : Refusal} → commit bytes order counts output ≡ refused e → plan bytes order work_most output ≡ refused e
    unfolding plan plan_pack commit commit_pack
    taken-refused-plan =
        bind-refused (check_pack bytes) _ _ λ pack e.
        bind-refused (check_order pack.n pack.r order) _ _ λ _ e₁.
        bind-refused (check_blocks (heads_of pack.layers) order.s) _ _ λ _ _.
        let within = order-within pack.n pack.r order e₁ in
        rw (
          counts-good (heads_of pack.layers) order.s order.b counts (taken pack e),
          work-good order work_most (entries-most pack (accepted-good bytes pack e) order within),
        )
        (bind-refused (check_output order.b pack.r output) _ _ λ _ _. not-refused)

    pub plan-refused-taken : {e : Refusal} → plan bytes order work_most output ≡ refused e → commit bytes order counts output ≡ refused e
    unfolding plan plan_pack commit commit_pack
    plan-refused-taken =
        bind-refused (check_pack bytes) _ _ λ pack e.
        bind-refused (check_order pack.n pack.r order) _ _ λ _ e₁.
        bind-refused (check_blocks (heads_of pack.layers) order.s) _ _ λ _ _.
        let within = order-within pack.n pack.r order e₁ in
        rw (
          counts-good (heads_of pack.layers) order.s order.b counts (taken pack e),
          work-good order work_most (entries-most pack (accepted-good bytes pack e) order within),
        )
        (bind-refused (check_output order.b pack.r output) _ _ λ _ _. not-refused)

  -- an accepted pack, an order within limits and a block below s: 16 is next, whatever the output
  module _ (pack : Pack) (is-pack : check_pack bytes ≡ accepted pack) (within : OrderLimits pack.n pack.r order)
      (block : T (has_block (heads_of pack.layers) order.s)) (counts : List ℕ) (output : ℕ) where
    pub commit-sixteen : (Taken (heads_of pack.layers) order.s order.b counts → ⊥) → commit bytes order counts output ≡ refused BadCounts
    unfolding commit commit_pack
    commit-sixteen none =
        rw (
          is-pack,
          order-good pack.n pack.r order within,
          blocks-good (heads_of pack.layers) order.s (true-T (has_block (heads_of pack.layers) order.s) block),
          counts-bad (heads_of pack.layers) order.s order.b counts none,
        )

    -- which counts that are taken never meet
    pub taken-not-sixteen : Taken (heads_of pack.layers) order.s order.b counts
        → plan_outcome (plan_answer (commit bytes order counts output)) ≡ refusal 16 0 → ⊥
    unfolding commit commit_pack check_output
    taken-not-sixteen taken =
        rw (
          is-pack,
          order-good pack.n pack.r order within,
          blocks-good (heads_of pack.layers) order.s (true-T (has_block (heads_of pack.layers) order.s) block),
          counts-good (heads_of pack.layers) order.s order.b counts taken,
        )
        (not-sixteen (leb (output_needed order.b pack.r) output) (output_needed order.b pack.r) (counts_placement pack order counts))
