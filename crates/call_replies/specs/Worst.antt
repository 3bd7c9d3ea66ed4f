-- What `worst` prints. Assumes nothing.
use Rattle.std.specs.Prelude.{ℕ, List}
use Rattle.refusal.specs.declared.Refusal.TheVariants.{BadOrder}
use Rattle.refusal.specs.Checked.{map_accepted}
use Rattle.worst.specs.Worst.{Worst, check_worst}
use Rattle.report.specs.Programs.{or_refused_line}
use Rattle.replies.specs.Lines.{numbers_line}
use Rattle.replies.specs.Replying.{with_numbers}

-- "a line with the number and the set": the fewest usable records, then the nodes
abbrev pub worst_line : Worst → List ℕ
worst_line worst = numbers_line worst.fewest worst.set

-- with an output of 255 bytes, which no set passes
unfoldable pub worst_text : (placement : List ℕ) → List ℕ
worst_text placement = or_refused_line (map_accepted worst_line (check_worst placement 255))

abbrev pub worst_reply : (arguments input : List ℕ) → List ℕ
worst_reply arguments input = with_numbers 0 BadOrder (λ _ placement. worst_text placement) arguments input

-- the bytes that it asks for: at most 256 numbers of at most 20 digits
abbrev pub worst_needed : ℕ
worst_needed = 5_376
