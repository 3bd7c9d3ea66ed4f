-- The feeders of the table that was read are checked as those of the file. Assumes nothing.
use Prim.Native.Nat.{ℕ, ◌≤◌}
use mathlib.Core.Path.{◌≡◌, refl, sym, ◌∙◌, ap}
use mathlib.Core.Bool.{not}
use mathlib.Core.List.{List, map}
use mathlib.Core.Option.{some}
use lib.ListN.{length}
use Rattle.lists.specs.Lists.{first_where}
use Rattle.refusal.specs.declared.Refusal.TheVariants.{SharedFeeder}
use Rattle.refusal.specs.Checked.{Checked, ◌>>=◌}
use Rattle.packing.specs.Rows.{distinct}
use Rattle.layers.specs.Layers.{Layer, all_rows, refuse_row, check_packings}
use Rattle.placement.specs.Feeders.{Feeders, feeder_of, ordered, shares, check_apart}
use Rattle.placement.specs.Answers.{table_of}
use Rattle.placement.specs.Asked.{table_feeders, feeders_checked}
use Rattle.placement.proofs.TableRows.{get_d-nodes_array}

-- 21 and 7 look at the nodes' feeders alone
checked_by : (r at : ℕ) (layers : List Layer) (feeder : ℕ → ℕ) → Checked Unit
checked_by r at layers feeder =
    refuse_row SharedFeeder r at (first_where (λ row. not (distinct (map feeder row))) (all_rows layers))
    >>= λ u. check_packings r at (map (λ layer. record { bound = layer.bound; rows = map (λ row. ordered (map feeder row)) layer.rows }) layers)

by-feeder : (r at : ℕ) (feeders : Feeders) (layers : List Layer) → feeders_checked r at feeders layers ≡ checked_by r at layers (feeder_of feeders)
unfolding checked_by feeders_checked check_apart shares
by-feeder r at feeders layers = refl

pub same-feeders : (r at : ℕ) (feeders : Feeders) (layers : List Layer) → length feeders.each ≤ 255
    → feeders_checked r at (table_feeders (table_of (some feeders))) layers ≡ feeders_checked r at feeders layers
same-feeders r at feeders layers few =
    by-feeder r at (table_feeders (table_of (some feeders))) layers
    ∙ ap (checked_by r at layers) (λ i v. get_d-nodes_array feeders.each few v i)
    ∙ sym (by-feeder r at feeders layers)
