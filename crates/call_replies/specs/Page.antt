-- What `page` prints. Assumes nothing.
use Rattle.std.specs.Prelude.{ℕ, List}
use Rattle.refusal.specs.declared.Refusal.TheVariants.{BadOrder}
use Rattle.refusal.specs.Checked.{map_accepted}
use Rattle.placement.specs.Placement.{check_placement}
use Rattle.page.specs.Page.{page_of}
use Rattle.report.specs.Programs.{or_refused_line}
use Rattle.replies.specs.Replying.{with_numbers}

-- "`page` (placement; the page)", or the line of the refusal
unfoldable pub page_text : (placement : List ℕ) → List ℕ
page_text placement = or_refused_line (map_accepted page_of (check_placement placement))

abbrev pub page_reply : (arguments input : List ℕ) → List ℕ
page_reply arguments input = with_numbers 0 BadOrder (λ _ placement. page_text placement) arguments input

-- the bytes that it asks for: 27 × (b+1) of the largest b
abbrev pub page_needed : ℕ
page_needed = 110_619
