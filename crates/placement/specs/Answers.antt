-- The answers of reading and checking a placement as values of the code's types, and what each case says. Assumes nothing.
use Rattle.std.specs.Prelude.{ℕ, cond, length, take, get_or, eqb, Result, Ok, Err}
use mathlib.Core.List.{List, [], ◌∷◌, ◌++◌, map, flatten}
use Rattle.std.proofs.Math.Option.{Option, none, some}
use Rattle.refusal.specs.Refusals.{Outcome, result, refusal_outcome}
use Rattle.refusal.specs.Checked.{Checked, accepted, refused, answered}
use Rattle.packing.specs.Rows.{rows_at}
use Rattle.layers.specs.Layers.{Located, heads_of, head_numbers}
use Rattle.layers.specs.declared.LayerHead.{LayerHead}
use Rattle.layers.specs.declared.Dark.{Dark}
use Rattle.layers.specs.Answers.{five_heads, nodes_array, dark_of, dark_values}
use Rattle.placement.specs.Feeders.{Feeders, FeedersReading, ordered, feeder_numbers}
use Rattle.placement.specs.Placement.{Placement, TermsReading, Rows}
use Rattle.placement.specs.declared.FeederTable.{FeederTable}
use Rattle.placement.specs.declared.FeedersRead.{FeedersRead}
use Rattle.placement.specs.declared.TermsRead.{TermsRead}
use Rattle.placement.specs.declared.PlacementHead.{PlacementHead}
use Rattle.placement.specs.declared.PlacementCheck.{PlacementCheck}
use Rattle.refusal.specs.declared.Refusal.{Refusal}

abbrev pub terms_read : Checked TermsReading → Result TermsRead Refusal
terms_read = answered (λ order. record { terms = order.terms; next = order.next })

-- the feeders as the code has them: 0 of them where there are none
abbrev pub table_of : Option Feeders → FeederTable
table_of none = record { number = 0; each = nodes_array [] }
table_of (some feeders) = record { number = feeders.number; each = nodes_array feeders.each }

-- how many can fail, by the code's number of feeders
abbrev pub units_by : (n number : ℕ) → ℕ
units_by n number = cond (eqb number 0) n number

-- the feeders of a row's nodes in order, by the code's table, and the bytes of b rows so
abbrev pub row_by_table : (each row : List ℕ) → List ℕ
row_by_table each row = ordered (map (λ v. get_or each v 0) row)

abbrev pub rows_by_table : (each : List ℕ) (r b : ℕ) (rows : List ℕ) → List ℕ
rows_by_table each r b rows = flatten (map (row_by_table each) (rows_at r b rows))

-- what the code's table says in a placement of n nodes: g, and the feeder of each node
abbrev pub table_values : (n : ℕ) → FeederTable → List ℕ
table_values n table = cond (eqb table.number 0) [] (table.number ∷ take n table.each)

abbrev pub feeders_read : Checked FeedersReading → Result FeedersRead Refusal
feeders_read = answered (λ after. record { table = table_of after.feeders; next = after.next })

abbrev pub records_check : Checked Rows → Result FeederTable Refusal
records_check = answered (λ rows. table_of rows.feeders)

-- the numbers of an accepted placement
abbrev pub placement_head : Located Placement → PlacementHead
placement_head file =
    let p = file.content in
    record {
      kind = p.kind;
      n = p.n;
      r = p.r;
      s = p.s;
      k = p.k;
      b = p.b;
      figure = p.figure;
      first = file.first;
    }

abbrev pub placement_checked : Checked (Located Placement) → PlacementCheck
placement_checked (accepted file) =
    record {
      answer = Ok (placement_head file);
      layers = five_heads (heads_of file.content.layers);
      dark = dark_of file.content.dark;
      feeders = table_of file.content.feeders;
    }
placement_checked (refused e) =
    record { answer = Err e; layers = five_heads []; dark = dark_of []; feeders = table_of none }

-- an accepted placement's values: its kind, n, r, s, k, b, F, the place of its first row, lambda and c of each of five layers, 0
-- and 0 from s on, how many nodes are out of service, and these; in kind 6 then g, and the feeder of each node
abbrev pub head_values : PlacementHead → List LayerHead → (list feeders : List ℕ) → List ℕ
head_values h layers list feeders =
    h.kind ∷ h.n ∷ h.r ∷ h.s ∷ h.k ∷ h.b ∷ h.figure ∷ h.first ∷ (head_numbers layers ++ (list ++ feeders))

abbrev pub placement_values : Located Placement → List ℕ
placement_values file =
    head_values (placement_head file) (five_heads (heads_of file.content.layers))
    (length file.content.dark ∷ file.content.dark) (feeder_numbers file.content.feeders)

-- what the answer says, with the layers, the list and the feeders beside it
abbrev pub placement_says : Result PlacementHead Refusal → List LayerHead → Dark → FeederTable → Outcome
placement_says (Ok head) layers dark feeders = result (head_values head layers (dark_values dark) (table_values head.n feeders))
placement_says (Err e) layers dark feeders = refusal_outcome e

abbrev pub placement_outcome : PlacementCheck → Outcome
placement_outcome check = placement_says check.answer check.layers check.dark check.feeders
