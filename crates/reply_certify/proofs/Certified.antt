-- What `certify` writes, from the answer of the call. Assumes nothing.
use Prim.Native.Nat.{ℕ, ◌*◌, ◌≤◌}
use Rattle.std.specs.Prelude.{Ok, Err}
use native.Mathlib.Omega.{arith}
use native.Mathlib.Nat.{mul-le-mul}
use mathlib.Core.Path.{◌≡◌, refl}
use mathlib.Core.List.{List}
use lib.ListN.{length}
use Rattle.refusal.specs.declared.Refusal.{Refusal}
use Rattle.refusal.proofs.Checked.{bind_congr}
use Rattle.planner.specs.Planning.{output_needed, output_most}
use Rattle.planner.specs.declared.PlannedFile.{PlannedFile}
use Rattle.planner.specs.declared.PlanResult.{PlanResult}
use Rattle.planner.proofs.Checks.{output-good}
use Rattle.certify.specs.Bare.{check_bare}
use Rattle.certify.specs.Certify.{certify_bare, certify, CertifyDone}
use Rattle.certify.proofs.Accepted.{checked-good}
use Rattle.report.specs.Programs.{refused_line}
use Rattle.report.specs.Replies.{Replied}
use Rattle.replies.proofs.Planned.{planned-text, refused-text}
use Rattle.reply_certify.specs.Certify.{certify_text}

-- no bare rows need more of the output than `output_most`
pub certify-most : (bare : List ℕ) (output : ℕ) → output_most ≤ output → certify bare output ≡ certify bare output_most
unfolding certify certify_bare
certify-most bare output room =
    bind_congr (check_bare bare) _ _ _ refl λ q e.
    let good = checked-good bare q e in
    let rows : q.order.b * q.base.r ≤ 4_096 * 5 = mul-le-mul good.order.b-most good.base.r-most in
    let b : output_needed q.order.b q.base.r ≤ output_most = omega arith in
    rw (output-good q.order.b q.base.r output (omega (arith, b)), output-good q.order.b q.base.r output_most b)

module _ (bare : List ℕ) {before between : List ℕ} {result : PlanResult} (room : output_most ≤ length before)
    (done : CertifyDone (certify bare (length before)) before between result) where
  pub certify-planned : {made : PlannedFile} → result.answer ≡ Ok made → Replied (certify_text bare) made.length before between
  unfolding certify_text
  certify-planned a =
      rw (← certify-most bare (length before) room)
      (planned-text (certify bare (length before)) before done.answer done.output-after a)

  pub certify-refused : {why : Refusal} {after : List ℕ} {next : ℕ} → result.answer ≡ Err why
      → Replied (refused_line why) next between after → Replied (certify_text bare) next before after
  unfolding certify_text
  certify-refused a line =
      rw (← certify-most bare (length before) room)
      (refused-text (certify bare (length before)) before done.answer done.output-after a line)
