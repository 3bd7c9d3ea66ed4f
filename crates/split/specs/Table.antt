-- The planner's table as the code computes it: a layer's losses in steps, and one line from the line below it, by its
-- definition and by rules that look at a few earlier entries. Its losses are those of the nested floors. Assumes nothing.
use Rattle.std.specs.Prelude.{ℕ, suc, ◌+◌, ◌*◌, ◌-◌, ◌/◌, ◌%◌, ◌^◌, ◌≤◌, ◌<◌, min, ◌≡◌, cond, List, map, length, get_or, replicate, eqb}
use Rattle.std.proofs.lemmas.List.Edits.{sets}
use Rattle.lists.specs.Lists.{up_to}
use Rattle.packing.specs.Floors.{falling}
use Rattle.layers.specs.declared.LayerHead.{LayerHead}
use Rattle.placement.specs.declared.Order.{Order}
use Rattle.placement.specs.declared.Rule.TheVariants.{NestedFloors}
use Rattle.placement.specs.Figure.{lost_by}
use Rattle.split.specs.declared.Steps.{Steps}
use Rattle.split.specs.Splits.{layer_at, copies_for, no_split, least, least_loss}

-- the loss of b records, c of them in a layer where they lose `loss` c, and the others in the layers below it
abbrev pub sum_at : (loss : ℕ → ℕ) (below : List ℕ) → (b c : ℕ) → ℕ
sum_at loss below b c = loss c + get_or below (b - c) 0

-- the line above `below`
abbrev pub line_above : (loss : ℕ → ℕ) (below : List ℕ) → List ℕ
line_above loss below = map (λ b. least (sum_at loss below b) b) (up_to (length below))

-- the limits within which the code chooses counts
pub record Limits (layers : List LayerHead) (order : Order) : Type 0 where
  pub s-pos : 1 ≤ order.s
  pub s-le : order.s ≤ 5
  pub s-le-k : order.s ≤ order.k
  pub k-le : order.k ≤ 254
  pub b-le : order.b ≤ 4_096
  pub mu-le : (x : ℕ) → (layer_at layers x).bound ≤ 4_096
  pub m-le : (x : ℕ) → (layer_at layers x).size ≤ 4_096

-- a line: no record loses nothing, no entry is above the mark, and none is above a later one
pub record Rising (line : List ℕ) : Type 0 where
  pub first : get_or line 0 0 ≡ 0
  pub marked : (i : ℕ) → get_or line i 0 ≤ no_split
  pub rising : (i j : ℕ) → i ≤ j → j < length line → get_or line i 0 ≤ get_or line j 0

-- line x of the table: the least losses of 0, .., w - 1 records in the layers below x
abbrev pub table_line : List LayerHead → (s k w x : ℕ) → List ℕ
table_line layers s k w x = map (least_loss NestedFloors layers s k x) (up_to w)

-- what 0, .., `period` copies cost
abbrev pub costs_of : (cost : ℕ → ℕ) (period : ℕ) → List ℕ
costs_of cost period = sets (replicate 121 0) 0 (map cost (up_to (suc period)))

abbrev pub steps_by : (size each : ℕ) (cost : ℕ → ℕ) (period : ℕ) → Steps
steps_by size each cost period = record { size = size; each = each; period = period; costs = costs_of cost period }

-- what d copies of layer x lose, by the nested floors: "its lambda is d × mu"
abbrev pub copies_lose : (s k x bound : ℕ) → (d : ℕ) → ℕ
copies_lose s k x bound d = lost_by NestedFloors s k x (d * bound)

-- the losses of layer x in steps; in a layer without a block each record and each copy costs the mark
unfoldable pub steps_of : List LayerHead → (s k x : ℕ) → Steps
steps_of layers s k x =
    let layer = layer_at layers x in
    cond (eqb layer.size 0)
    (steps_by 4_096 no_split (λ d. d * no_split) 1)
    (steps_by layer.size 1 (copies_lose s k x layer.bound) (falling s x))

-- what d copies cost: whole periods of them, and those that are left
abbrev pub copies_cost : Steps → (d : ℕ) → ℕ
copies_cost u d = d / u.period * get_or u.costs u.period 0 + get_or u.costs (d % u.period) 0

-- what c records lose, as `loss_of`
abbrev pub step_loss : Steps → (c : ℕ) → ℕ
step_loss u c = min (c * u.each) (copies_cost u (copies_for c u.size))

-- what the code asks of steps: costs that begin at 0 and never fall, of which one copy's is the least a copy, of copies together
-- no less than apart, and sums and products that fit
pub record StepLimits (u : Steps) : Type 0 where
  pub size-pos : 0 < u.size
  pub size-le : u.size ≤ 4_096
  pub each-le : u.each ≤ no_split
  pub period-pos : 0 < u.period
  pub period-le : u.period ≤ 120
  pub room : length u.costs ≡ 121
  pub none : get_or u.costs 0 0 ≡ 0
  pub rising : (i j : ℕ) → i ≤ j → j ≤ u.period → get_or u.costs i 0 ≤ get_or u.costs j 0
  pub single : (d : ℕ) → d * get_or u.costs 1 0 ≤ copies_cost u d
  pub together : (i j : ℕ) → i + j ≤ u.period → get_or u.costs i 0 + get_or u.costs j 0 ≤ get_or u.costs (i + j) 0
  pub small : get_or u.costs u.period 0 < 2 ^ 60
  pub fits : (d : ℕ) → d ≤ 4_096 → copies_cost u d < 2 ^ 64

-- the loss of b records where the layer takes them `size` at a time, d times at `cost`, and the least
abbrev pub with_steps : (size cost : ℕ) (below : List ℕ) → (b d : ℕ) → ℕ
with_steps size cost below b d = get_or below (b - d * size) 0 + d * cost

unfoldable pub stepped : (size cost : ℕ) (below : List ℕ) → (b : ℕ) → ℕ
stepped size cost below b = least (with_steps size cost below b) b

-- by whole periods of copies
abbrev pub by_periods : Steps → (below : List ℕ) → (b : ℕ) → ℕ
by_periods u below b = stepped (u.period * u.size) (get_or u.costs u.period 0) below b

-- by any number of copies: fewer than a period, beside whole periods
abbrev pub by_copies : Steps → (below : List ℕ) → (b : ℕ) → ℕ
by_copies u below b = least (λ d. get_or u.costs d 0 + by_periods u below (b - d * u.size)) (u.period - 1)

-- an entry of the line above `below`: the layer's records cost one by one, or its copies do
abbrev pub line_entry : Steps → (below : List ℕ) → (b : ℕ) → ℕ
line_entry u below b = min (stepped 1 u.each below b) (by_copies u below b)

-- the same with no more than d copies beside whole periods
abbrev pub copies_up_to : Steps → (below : List ℕ) → (d j : ℕ) → ℕ
copies_up_to u below d j =
    min (stepped 1 u.each below j) (least (λ c. get_or u.costs c 0 + by_periods u below (j - c * u.size)) d)
