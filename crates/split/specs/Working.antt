-- The working slice: its parts, and the lines of the planner's table that stand in it. Assumes nothing.
use Rattle.std.specs.Prelude.{ℕ, suc, ◌+◌, ◌*◌, ◌-◌, ◌^◌, ◌≤◌, ◌<◌, min, ◌≡◌, Bool, List, map, length, get_or, take, drop, ltb}
use Rattle.lists.specs.Lists.{up_to}
use Rattle.layers.specs.Answers.{five}
use Rattle.layers.specs.declared.LayerHead.{LayerHead}
use Rattle.placement.specs.declared.Order.{Order}
use Rattle.placement.specs.declared.Rule.TheVariants.{NestedFloors}
use Rattle.split.specs.declared.Steps.{Steps}
use Rattle.split.specs.Splits.{no_split, named_counts}
use Rattle.split.specs.Table.{Limits, StepLimits, Rising, table_line, stepped, by_periods, copies_up_to}

-- the k entries of l from place a on
abbrev pub part : (a k : ℕ) → List ℕ → List ℕ
part a k l = take k (drop a l)

-- what b records lose below layer 0
abbrev pub loss_below : (b : ℕ) → ℕ
loss_below b = min (b * no_split) no_split

-- place `at` has room for a line of w entries, and the line below it stands just before
pub record LineBelow (at w : ℕ) (work : List ℕ) : Type 0 where
  pub small : w ≤ 4_097
  pub back : w ≤ at
  pub fits : at + w ≤ length work
  pub rising : Rising (part (at - w) w work)

-- place i of a run from place `at` on: the smaller of the entry there and `cost` above the entry of `line`
abbrev pub lowered : (at cost : ℕ) (work line : List ℕ) → (i : ℕ) → ℕ
lowered at cost work line i = min (get_or work (at + i) 0) (cost + get_or line i 0)

-- there are n entries from place `at` on and as many in `line`, and sums fit
pub record Lowerable (at n cost : ℕ) (work line : List ℕ) : Type 0 where
  pub fits : at + n ≤ length work
  pub beside : n ≤ length line
  pub small : (i : ℕ) → i < n → cost + get_or line i 0 < 2 ^ 16

-- entry `shift + i` of a line is more than `cost` above entry i
abbrev pub climbs : (shift cost : ℕ) (line : List ℕ) → (i : ℕ) → Bool
climbs shift cost line i = ltb (cost + get_or line i 0) (get_or line (shift + i) 0)

-- a line, and steps of `step` records at `cost` each, whose entries are to stand `size` places further on
pub record Stepping (size step cost : ℕ) (line : List ℕ) : Type 0 where
  pub size-le : size ≤ 4_096
  pub step-pos : 0 < step
  pub step-le : step ≤ 491_520
  pub cost-le : cost ≤ no_split
  pub rising : Rising line
  pub small : length line ≤ 4_097

-- `periods` has the entries by such steps of fewer than i records
pub record Periods (size step cost : ℕ) (line : List ℕ) (i : ℕ) (periods : List ℕ) : Type 0 where
  pub room : length periods ≡ 8_193
  pub entries : (j : ℕ) → j < size + i → get_or periods j 0 ≡ stepped step cost line (j - size)

-- the line at place `at` has the losses by records or by whole periods of copies; `periods` has those by whole periods, each
-- a copy's records further on
pub record ByPeriods (u : Steps) (under : List ℕ) (at w : ℕ) (work periods : List ℕ) : Type 0 where
  pub written : part at w work ≡ map (copies_up_to u under 0) (up_to w)
  pub room : w + u.size ≤ length periods
  pub entries : (i : ℕ) → i < w + u.size → get_or periods i 0 ≡ by_periods u under (i - u.size)

-- a layer's steps, and the line below it, which has an entry for `left` records
pub record Countable (u : Steps) (below : List ℕ) (left : ℕ) : Type 0 where
  pub steps : StepLimits u
  pub rising : Rising below
  pub within : left < length below
  pub small : length below ≤ 4_097

-- the first x lines stand in the slice, one after another
abbrev pub Lines : List LayerHead → (s k w x : ℕ) (work : List ℕ) → Type 0
Lines layers s k w x work = (y : ℕ) → y < x → part (y * w) w work ≡ table_line layers s k w y

-- the first x lines were written, and the entries past s lines are as they were
pub record Filled (layers : List LayerHead) (s k w x : ℕ) (before after : List ℕ) : Type 0 where
  pub same_length : length after ≡ length before
  pub lines : Lines layers s k w x after
  pub rest : drop (s * w) after ≡ drop (s * w) before

-- an order within the limits, and a slice that has its whole table
pub record Tabled (layers : List LayerHead) (order : Order) (work : List ℕ) : Type 0 where
  pub limits : Limits layers order
  pub fits : order.s * suc order.b ≤ length work
  pub lines : Lines layers order.s order.k (suc order.b) order.s work

-- the counts that are chosen, layer 0 first, and the working slice: only the entries of s lines are free
pub record Chosen (layers : List LayerHead) (order : Order) (before after r : List ℕ) : Type 0 where
  pub counts : r ≡ five 0 (named_counts NestedFloors layers order.s order.k order.s order.b)
  pub same_length : length after ≡ length before
  pub rest : drop (order.s * suc order.b) after ≡ drop (order.s * suc order.b) before
