-- Document 02, (n): the calls on four nodes and three feeders, worked by hand. Rows 01 and 23, s 2, k 2; nodes 0 and 2 hang on feeder 0, node 1 on
-- feeder 1 and node 3 on feeder 2, so the records are on feeders 0, 1 and 0, 2. Assumes nothing.
use Prim.Native.Nat.{ℕ}
use mathlib.Core.Path.{◌≡◌, refl}
use mathlib.Core.Bool.{true}
use mathlib.Core.List.{List, [], ◌∷◌, flatten}
use mathlib.Core.Option.{some}
use Rattle.lists.specs.Lists.{count, every, any, first_where, up_to, total}
use Rattle.refusal.specs.declared.Refusal.TheVariants.{ShortOutput, BadRounds, BadEvent}
use Rattle.refusal.specs.Checked.{accepted, refused}
use Rattle.binomial.specs.Choose.{choose}
use Rattle.number.specs.Numbers.{read_groups, read_number, read_within}
use Rattle.packing.specs.Floors.{floors_down}
use Rattle.packing.specs.Failures.{usable}
use Rattle.packing.specs.Rows.{ascending, rows_at, member, distinct, holds, together, subsets, crowded, first_crowded, first_bad}
use Rattle.layers.specs.Layers.{read_kind, read_layers, layers_at, first_crowded_of, names, first_naming, read_nodes, read_list, read_dark, read_base, check_length, check_end, check_ascending, check_service, check_packings, head_numbers}
use Rattle.placement.specs.Feeders.{insert, ordered, shares, read_each, read_numbered, read_feeders, check_apart}
use Rattle.placement.specs.Figure.{lost_by, loss, losses, figure_of}
use Rattle.placement.specs.Placement.{Placement, check_records, read_terms, check_figure, read_placement, check_placement}
use Rattle.placement.specs.Units.{figure_at}
use Rattle.curve.specs.Curve.{curve_of, check_curve}
use Rattle.worst.specs.Worst.{through, nodes_from, worst_of, check_worst}
use Rattle.rounds.specs.Game.{least_over, most_over, pairs, best_cut, crew, rounds}
use Rattle.rounds.specs.Rounds.{rounds_of, check_rounds}
use Rattle.replay.specs.declared.Event.{Event}
use Rattle.replay.specs.Log.{check_events}
use Rattle.replay.specs.Replays.{lowest_from, lowest_of, check_replay}

-- kind 6, n, r, an empty list, s, k, b, F; layer 0 has no row, layer 1 lambda 1 and two rows; then g and the feeders
abbrev pub four_file : List ℕ
four_file = 6 ∷ 4 ∷ 2 ∷ 0 ∷ 2 ∷ 2 ∷ 2 ∷ 1 ∷ 0 ∷ 0 ∷ 1 ∷ 2 ∷ 0 ∷ 1 ∷ 2 ∷ 3 ∷ 3 ∷ 0 ∷ 1 ∷ 0 ∷ 2 ∷ []

unfoldable four : Placement
four =
    record {
      kind = 6;
      n = 4;
      r = 2;
      dark = [];
      s = 2;
      k = 2;
      b = 2;
      figure = 1;
      layers = record { bound = 0; rows = [] } ∷ record { bound = 1; rows = (0 ∷ 1 ∷ []) ∷ (2 ∷ 3 ∷ []) ∷ [] } ∷ [];
      feeders = some (record { number = 3; each = 0 ∷ 1 ∷ 0 ∷ 2 ∷ [] });
    }

four-accepted : check_placement four_file ≡ accepted four
unfolding count every any first_where total flatten choose floors_down read_groups read_number read_within ascending rows_at member distinct holds together subsets crowded first_crowded first_bad read_kind read_layers layers_at first_crowded_of names first_naming read_nodes read_list read_dark read_base check_length check_end check_ascending check_service check_packings insert ordered shares read_each read_numbered read_feeders check_apart check_records lost_by loss losses figure_of read_terms check_figure read_placement check_placement head_numbers four
four-accepted = refl

abbrev goes : (time feeder : ℕ) → Event
goes time feeder = record { time = time; node = record { 0 = feeder }; down = true }

-- The curve has g - s = 1 number, not n - s = 2. Feeders 0 and 1 leave one record, the first set that does. In one round too; two rounds ask
-- for four feeders, and there are four nodes but three feeders. With feeders 2 and 0 down, in turn, one record is left after event 1.
-- Number 3 is a node's and no feeder's: refusal 20.
pub four-called : (check_curve four_file 1 ≡ accepted (1 ∷ []))
    × (check_curve four_file 0 ≡ refused (ShortOutput 1))
    × (check_worst four_file 2 ≡ accepted (record { fewest = 1; set = 0 ∷ 1 ∷ [] }))
    × (check_rounds four_file 1 ≡ accepted 1)
    × (check_rounds four_file 2 ≡ refused BadRounds)
    × (check_replay four_file (goes 1 2 ∷ goes 1 0 ∷ goes 2 1 ∷ []) ≡ accepted (record { number = 0; event = some 2 }))
    × (check_replay four_file (goes 1 2 ∷ goes 1 0 ∷ []) ≡ accepted (record { number = 1; event = some 1 }))
    × (check_replay four_file (goes 1 3 ∷ []) ≡ refused (BadEvent 0))
unfolding up_to count usable flatten member choose floors_down lost_by loss losses figure_of figure_at curve_of check_curve through nodes_from worst_of check_worst least_over most_over pairs best_cut crew rounds rounds_of check_rounds check_events lowest_from lowest_of check_replay insert ordered four
four-called = (
  rw four-accepted refl,
  rw four-accepted refl,
  rw four-accepted refl,
  rw four-accepted refl,
  rw four-accepted refl,
  rw four-accepted refl,
  rw four-accepted refl,
  rw four-accepted refl,
)
