-- Document 02, (i): "See the plan, then commit it". Committing: which counts are taken, and what is written. Assumes nothing.
use Rattle.std.specs.Prelude.{ℕ, ◌<◌, ◌≡◌, Bool, ◌&&◌, ◌||◌, List, length, get_or, eqb, ltb}
use Rattle.lists.specs.Lists.{every, total, up_to}
use Rattle.refusal.specs.declared.Refusal.TheVariants.{BadCounts}
use Rattle.refusal.specs.Checked.{Checked, accepted, ◌>>=◌, require}
use Rattle.layers.specs.Layers.{heads_of}
use Rattle.layers.specs.declared.LayerHead.{LayerHead}
use Rattle.pack.specs.Pack.{Pack, check_pack}
use Rattle.placement.specs.Placement.{Placement}
use Rattle.placement.specs.declared.Order.{Order}
use Rattle.split.specs.Splits.{layer_at}
use Rattle.planner.specs.Planning.{check_order, check_blocks, check_output, output_after}
use Rattle.planner.specs.Answers.{plan_answer}
use Rattle.planner.specs.Writing.{counts_placement}
use Rattle.planner.specs.declared.PlanResult.{PlanResult}

-- "counts that don't sum to b or that put records in a layer without blocks or not below s": counts that do neither
pub record Taken (layers : List LayerHead) (s b : ℕ) (counts : List ℕ) : Type 0 where
  pub sum : total counts ≡ b
  pub placed : (x : ℕ) → 0 < get_or counts x 0 → (x < s) × (0 < (layer_at layers x).size)

-- the same as a test: layer x has no record, or is below s and has blocks
abbrev pub layer_takes : List LayerHead → (s x c : ℕ) → Bool
layer_takes layers s x c = eqb c 0 || (ltb x s && ltb 0 (layer_at layers x).size)

unfoldable pub counts_taken : List LayerHead → (s b : ℕ) (counts : List ℕ) → Bool
counts_taken layers s b counts =
    eqb (total counts) b && every (λ x. layer_takes layers s x (get_or counts x 0)) (up_to (length counts))

-- "Committing refuses with 16"
unfoldable pub check_counts : List LayerHead → (s b : ℕ) (counts : List ℕ) → Checked Unit
check_counts layers s b counts = require (counts_taken layers s b counts) BadCounts

-- "refuses with 16, after 9"; "committing no 10": 12, 9, 16, 11. It "writes that split's placement with least copies".
unfoldable pub commit_pack : Pack → Order → (counts : List ℕ) (output : ℕ) → Checked Placement
commit_pack pack order counts output = do
  _ ← check_order pack.n pack.r order
  _ ← check_blocks (heads_of pack.layers) order.s
  _ ← check_counts (heads_of pack.layers) order.s order.b counts
  _ ← check_output order.b pack.r output
  accepted (counts_placement pack order counts)

-- "Committing takes a pack, s, k, b and the counts": the pack's refusals come first
unfoldable pub commit : (bytes : List ℕ) → Order → (counts : List ℕ) (output : ℕ) → Checked Placement
commit bytes order counts output = do
  pack ← check_pack bytes
  commit_pack pack order counts output

-- "Committing answers as planning does": what a call gives, and leaves in the output
pub record CommitDone (committed : Checked Placement) (out out-left : List ℕ) (given : PlanResult) : Type 0 where
  pub answer : given ≡ plan_answer committed
  pub output-after : out-left ≡ output_after committed out
