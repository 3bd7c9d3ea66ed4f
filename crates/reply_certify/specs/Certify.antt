-- What `certify` prints. Assumes nothing.
use Rattle.std.specs.Prelude.{ℕ, List}
use Rattle.refusal.specs.declared.Refusal.TheVariants.{BadOrder}
use Rattle.planner.specs.Planning.{output_most}
use Rattle.certify.specs.Certify.{certify}
use Rattle.replies.specs.Programs.{planned_reply}
use Rattle.replies.specs.Replying.{with_numbers}

-- the placement of these rows, or the line of the refusal, with an output that no bare rows need more of
unfoldable pub certify_text : (bare : List ℕ) → List ℕ
certify_text bare = planned_reply (certify bare output_most)

-- "A program `certify`": bare rows on standard input; it takes no number
abbrev pub certify_reply : (arguments input : List ℕ) → List ℕ
certify_reply arguments input = with_numbers 0 BadOrder (λ _ bare. certify_text bare) arguments input
