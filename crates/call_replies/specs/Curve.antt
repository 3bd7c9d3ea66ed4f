-- What `curve` prints. Assumes nothing.
use Rattle.std.specs.Prelude.{ℕ, List}
use Rattle.refusal.specs.declared.Refusal.TheVariants.{BadOrder}
use Rattle.refusal.specs.Checked.{map_accepted}
use Rattle.placement.specs.Placement.{Placement, check_placement}
use Rattle.curve.specs.Curve.{curve_of}
use Rattle.report.specs.Programs.{or_refused_line}
use Rattle.replies.specs.Lines.{figure_lines}
use Rattle.replies.specs.Replying.{with_numbers}

-- "a line `k figure` for each k'", from s on
abbrev pub curve_lines : Placement → List ℕ
curve_lines p = figure_lines p.s (curve_of p)

unfoldable pub curve_text : (placement : List ℕ) → List ℕ
curve_text placement = or_refused_line (map_accepted curve_lines (check_placement placement))

-- "`curve` (placement on standard input ..)": it takes no number
abbrev pub curve_reply : (arguments input : List ℕ) → List ℕ
curve_reply arguments input = with_numbers 0 BadOrder (λ _ placement. curve_text placement) arguments input

-- the bytes that it asks for: at most 254 lines, each of two numbers of at most 20 digits
abbrev pub curve_needed : ℕ
curve_needed = 10_668
