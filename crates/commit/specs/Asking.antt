-- Document 02, (i): "See the plan, then commit it". Asking: what it gives, and what it leaves. Assumes nothing.
use Rattle.std.specs.Prelude.{ℕ, ◌≡◌, List, [], ◌∷◌, ◌++◌, map, length, drop, Result, Ok, Err}
use Rattle.lists.specs.Lists.{up_to}
use Rattle.refusal.specs.Refusals.{Outcome, result, refusal_outcome}
use Rattle.refusal.specs.Checked.{Checked, accepted, refused, ◌>>=◌}
use Rattle.layers.specs.Layers.{heads_of}
use Rattle.layers.specs.Answers.{five}
use Rattle.layers.specs.declared.LayerHead.{LayerHead}
use Rattle.pack.specs.Pack.{check_pack}
use Rattle.placement.specs.declared.Order.{Order}
use Rattle.placement.specs.declared.Rule.TheVariants.{NestedFloors}
use Rattle.split.specs.Splits.{Share, split_figure, named_split}
use Rattle.planner.specs.Planning.{check_order, check_blocks, check_work, work_needed}
use Rattle.commit.specs.declared.AskResult.{AskResult}
use Rattle.refusal.specs.declared.Refusal.{Refusal}

-- "Asking gives the figure, counts and copies": of a split, the counts and copies of the layers below s in order
pub record Offer : Type 0 where
  pub figure : ℕ
  pub counts : List ℕ
  pub copies : List ℕ

abbrev pub split_offer : List LayerHead → Order → (ℕ → Share) → Offer
split_offer layers order split =
    record {
      figure = split_figure NestedFloors layers order.s order.k order.b split;
      counts = map (λ x. (split x).count) (up_to order.s);
      copies = map (λ x. (split x).copies) (up_to order.s);
    }

-- "see the plan": of the split that planning takes
unfoldable pub named_offer : List LayerHead → Order → Offer
named_offer layers order = split_offer layers order (named_split NestedFloors layers order.s order.k order.b)

-- "Both refuse as planning does, but asking has no 11": 12, 9, 10, on a pack with this n and r and these layers
unfoldable pub ask_layers : (n r : ℕ) → List LayerHead → Order → (work : ℕ) → Checked Offer
ask_layers n r layers order work = do
  _ ← check_order n r order
  _ ← check_blocks layers order.s
  _ ← check_work order work
  accepted (named_offer layers order)

-- and the pack's refusals before them
unfoldable pub ask : (bytes : List ℕ) → Order → (work : ℕ) → Checked Offer
ask bytes order work = do
  pack ← check_pack bytes
  ask_layers pack.n pack.r (heads_of pack.layers) order work

-- the answer as a value of the code's types
abbrev pub ask_answer : Checked Offer → AskResult
ask_answer (accepted offer) =
    record { answer = Ok offer.figure; counts = five 0 offer.counts; copies = five 0 offer.copies }
ask_answer (refused e) = record { answer = Err e; counts = five 0 []; copies = five 0 [] }

-- an offer's values: F, the counts of five layers, 0 from s on, and their copies
abbrev pub offer_values : Offer → List ℕ
offer_values offer = offer.figure ∷ (five 0 offer.counts ++ five 0 offer.copies)

-- what the answer says, with the counts and the copies beside it
abbrev pub ask_says : Result ℕ Refusal → (counts copies : List ℕ) → Outcome
ask_says (Ok figure) counts copies = result (figure ∷ (counts ++ copies))
ask_says (Err e) counts copies = refusal_outcome e

abbrev pub ask_outcome : AskResult → Outcome
ask_outcome given = ask_says given.answer given.counts given.copies

-- the working slice afterwards, as in planning: the entries that the order needs are free, the others are as they were
abbrev pub AskedWork : Order → Checked Offer → (before after : List ℕ) → Type 0
AskedWork order (accepted offer) before after =
    (length after ≡ length before)
    × (drop (work_needed order.s order.b) after ≡ drop (work_needed order.s order.b) before)
AskedWork order (refused e) before after = after ≡ before

-- what a call of asking gives, and leaves in the working slice, the only one that it is lent: it "leaves the output as found"
pub record AskDone (order : Order) (asked : Checked Offer) (work work-left : List ℕ) (given : AskResult) : Type 0 where
  pub answer : given ≡ ask_answer asked
  pub work-after : AskedWork order asked work work-left
