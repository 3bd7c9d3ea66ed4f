-- What `rounds` prints. Assumes nothing.
use Rattle.std.specs.Prelude.{ℕ, List, [], get_or}
use Rattle.refusal.specs.declared.Refusal.TheVariants.{BadRounds}
use Rattle.refusal.specs.Checked.{map_accepted}
use Rattle.rounds.specs.Rounds.{check_rounds}
use Rattle.report.specs.Programs.{or_refused_line}
use Rattle.replies.specs.Lines.{numbers_line}
use Rattle.replies.specs.Replying.{with_numbers}

-- the line of the number, or of the refusal
unfoldable pub rounds_text : (q : ℕ) (placement : List ℕ) → List ℕ
rounds_text q placement = or_refused_line (map_accepted (λ number. numbers_line number []) (check_rounds placement q))

-- "`rounds` (q, then a placement)"; "A q that can't be read gives 18, place 0."
abbrev pub rounds_reply : (arguments input : List ℕ) → List ℕ
rounds_reply arguments input =
    with_numbers 1 (λ _. BadRounds) (λ numbers placement. rounds_text (get_or numbers 0 0) placement) arguments input
