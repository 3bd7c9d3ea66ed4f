-- What `ask` and `commit` print. Assumes nothing.
use Rattle.std.specs.Prelude.{ℕ, cond, List, [], ◌∷◌, ◌++◌, get_or, ltb}
use Rattle.refusal.specs.declared.Refusal.{Refusal}
use Rattle.refusal.specs.declared.Refusal.TheVariants.{BadOrder, BadCounts}
use Rattle.refusal.specs.Checked.{map_accepted}
use Rattle.placement.specs.declared.Order.{Order}
use Rattle.planner.specs.Planning.{work_most, output_most}
use Rattle.commit.specs.Asking.{Offer, offer_values, ask}
use Rattle.commit.specs.Committing.{commit}
use Rattle.report.specs.Programs.{rest, or_refused_line}
use Rattle.replies.specs.Programs.{planned_reply}
use Rattle.replies.specs.Replying.{with_numbers}
use Rattle.replies.specs.Plans.{order_of}

-- `offered`
abbrev pub offered_word : List ℕ
offered_word = 111 ∷ 102 ∷ 102 ∷ 101 ∷ 114 ∷ 101 ∷ 100 ∷ []

-- `offered F c0 .. c4 d0 .. d4`: the figure, the counts of five layers and their copies, 0 from layer s on
abbrev pub offered_line : Offer → List ℕ
offered_line offer = offered_word ++ rest (offer_values offer)

unfoldable pub ask_text : Order → (pack : List ℕ) → List ℕ
ask_text order pack = or_refused_line (map_accepted offered_line (ask pack order work_most))

-- "`ask` and `commit` (the order as `plan` takes it ..)"
abbrev pub ask_reply : (arguments input : List ℕ) → List ℕ
ask_reply arguments input = with_numbers 3 BadOrder (λ numbers pack. ask_text (order_of numbers) pack) arguments input

-- the bytes that it asks for: the word and eleven numbers of at most 20 digits
abbrev pub ask_needed : ℕ
ask_needed = 256

-- "commit takes the counts after b": five
abbrev pub counts_given : (numbers : List ℕ) → List ℕ
counts_given numbers =
    get_or numbers 3 0 ∷ get_or numbers 4 0 ∷ get_or numbers 5 0 ∷ get_or numbers 6 0 ∷ get_or numbers 7 0 ∷ []

unfoldable pub commit_text : Order → (counts pack : List ℕ) → List ℕ
commit_text order counts pack = planned_reply (commit pack order counts output_most)

-- "`commit` reads five counts; one that can't be read gives 16, place 0."
abbrev pub commit_bad : (index : ℕ) → Refusal
commit_bad index = cond (ltb index 3) (BadOrder index) BadCounts

abbrev pub commit_reply : (arguments input : List ℕ) → List ℕ
commit_reply arguments input =
    with_numbers 8 commit_bad (λ numbers pack. commit_text (order_of numbers) (counts_given numbers) pack) arguments input
