-- A layer's losses in steps: they are those of the definition, and within the limits. Assumes nothing.
use Prim.Native.Nat.{ℕ, suc, ◌+◌, ◌*◌, ◌%◌, ◌≤◌, ◌<◌, ◌^◌, min}
use native.Mathlib.Nat.{le_refl, le_trans, lt_of_le_of_lt, mul-le-mul, mul-le-mul_right, mul-one, mod-lt, eq-zero-or-pos, pow-le-pow_left, pow-le-pow_right}
use native.Mathlib.Omega.{arith}
use mathlib.Core.Path.{◌≡◌, refl, sym, ap, ap₂, ◌∙◌}
use mathlib.Core.Logic.{◌⊎◌, inl, inr}
use mathlib.Core.List.{List, map}
use lib.ListN.{get_or, replicate, get_or-append}
use lib.Seq.{length-sets}
use lib.Dec.{lit<}
use borrow.Author.Tests.{eq-eqb, ne_eqb}
use Rattle.lists.specs.Lists.{up_to}
use Rattle.lists.proofs.Stores.{sets-start}
use Rattle.lists.proofs.UpTo.{length-map-up_to, get_d-map-up_to}
use Rattle.packing.specs.Floors.{falling}
use Rattle.packing.proofs.Growth.{floors_down-zero, floors_down-mono, floors_down-add-le, floors_down-mul-le, floors_down-period, floors_down-le, falling-pos, falling-le-120}
use Rattle.layers.specs.declared.LayerHead.{LayerHead}
use Rattle.placement.specs.Figure.{lost_by, loss}
use Rattle.placement.specs.declared.Order.{Order}
use Rattle.placement.specs.declared.Rule.TheVariants.{NestedFloors}
use Rattle.split.specs.declared.Steps.{Steps}
use Rattle.split.specs.Splits.{layer_at, copies_for, no_split, loss_of}
use Rattle.split.specs.Table.{costs_of, steps_by, copies_lose, steps_of, copies_cost, step_loss, StepLimits, Limits}
use Rattle.split.proofs.LossOf.{loss_of-zero, loss_of-blocks, loss_of-no-blocks}
use Rattle.split.proofs.Periods.{Repeating, cost-parts}

-- the array has the costs up to the period
get_d-costs_of : (cost : ℕ → ℕ) (period d : ℕ) → period ≤ 120 → d ≤ period → get_or (costs_of cost period) d 0 ≡ cost d
get_d-costs_of cost period d h l =
    let n = length-map-up_to cost (suc period) in
    ap (λ (c : List ℕ). get_or c d 0) (sets-start (replicate 121 0) (map cost (up_to (suc period))) (rw n (omega arith)))
    ∙ get_or-append (map cost (up_to (suc period))) _ 0 d (rw n (omega arith))
    ∙ get_d-map-up_to cost (suc period) d 0 (omega arith)

module _ {cost : ℕ → ℕ} {period : ℕ} (r : Repeating cost period) (few : period ≤ 120) (size each : ℕ) where
  copies_cost-steps_by : (d : ℕ) → copies_cost (steps_by size each cost period) d ≡ cost d
  copies_cost-steps_by d =
      let l = mod-lt d r.some in
      rw (get_d-costs_of cost period period few (le_refl period), get_d-costs_of cost period (d % period) few (omega arith))
      (sym (cost-parts r d))

  limits-steps_by : 0 < size → size ≤ 4_096 → each ≤ no_split → ((d : ℕ) → d * cost 1 ≤ cost d)
      → ((i j : ℕ) → cost i + cost j ≤ cost (i + j)) → cost period < 2 ^ 60
      → ((d : ℕ) → d ≤ 4_096 → cost d < 2 ^ 64) → StepLimits (steps_by size each cost period)
  limits-steps_by pos most each-le single together small fits =
      record {
        size-pos = pos;
        size-le = most;
        each-le = each-le;
        period-pos = r.some;
        period-le = few;
        room = length-sets (replicate 121 0) 0 (map cost (up_to (suc period)));
        none = get_d-costs_of cost period 0 few (omega arith) ∙ r.none;
        rising = λ i j h l.
            rw (get_d-costs_of cost period i few (le_trans h l), get_d-costs_of cost period j few l) (r.rising i j h);
        single = λ d. rw (get_d-costs_of cost period 1 few r.some, copies_cost-steps_by d) (single d);
        together = λ i j h.
            rw (get_d-costs_of cost period i few (omega arith), get_d-costs_of cost period j few (omega arith), get_d-costs_of cost period (i + j) few h)
            (together i j);
        small = rw (get_d-costs_of cost period period few (le_refl period)) small;
        fits = λ d h. rw (copies_cost-steps_by d) (fits d h);
      }

-- the mark a copy
marks-repeat : Repeating (λ d. d * no_split) 1
marks-repeat =
    record {
      some = omega arith;
      none = omega arith;
      rising = λ a b h. mul-le-mul_right no_split h;
      repeats = λ d. omega arith;
    }

-- the losses of copies, by the nested floors
module _ (s k x bound : ℕ) where
  lose-repeat : x < s → Repeating (copies_lose s k x bound) (falling s x)
  unfolding lost_by
  lose-repeat h =
      record {
        some = falling-pos s x h;
        none = let e : 0 * bound ≡ 0 = omega arith in rw e (floors_down-zero k s x);
        rising = λ a b l. floors_down-mono k s x _ _ (mul-le-mul_right bound l);
        repeats = λ d.
            let e : (d + falling s x) * bound ≡ d * bound + bound * falling s x = omega arith in
            let q : falling s x * bound ≡ 0 + bound * falling s x = omega arith in
            let z = floors_down-zero k s x in
            rw (e, q, floors_down-period k s x (d * bound) bound h, floors_down-period k s x 0 bound h) (omega arith);
      }

  lose-single : (d : ℕ) → d * copies_lose s k x bound 1 ≤ copies_lose s k x bound d
  unfolding lost_by
  lose-single d = let e : 1 * bound ≡ bound = omega arith in rw e (floors_down-mul-le k s x bound d)

  lose-together : (i j : ℕ) → copies_lose s k x bound i + copies_lose s k x bound j ≤ copies_lose s k x bound (i + j)
  unfolding lost_by
  lose-together i j =
      let e : (i + j) * bound ≡ i * bound + j * bound = omega arith in
      rw e (floors_down-add-le k s x (i * bound) (j * bound))

  -- d copies lose less than 64 bits hold
  lose-le : (d most : ℕ) → x < 5 → k ≤ 254 → bound ≤ 4_096 → d ≤ most → copies_lose s k x bound d ≤ most * 4_096 * 254 ^ 5
  unfolding lost_by
  lose-le d most few h g l =
      let p = le_trans (pow-le-pow_left h (suc x)) (pow-le-pow_right {n = 254} (omega arith) few) in
      le_trans (floors_down-le k s x (d * bound)) (mul-le-mul (mul-le-mul l g) p)

module _ (layers : List LayerHead) (s k x : ℕ) where
  -- the steps of layer x, without a block and with blocks
  pub steps-no-blocks : (layer_at layers x).size ≡ 0 → steps_of layers s k x ≡ steps_by 4_096 no_split (λ d. d * no_split) 1
  unfolding steps_of
  steps-no-blocks e = rw (eq-eqb (layer_at layers x).size 0 e) refl

  pub steps-blocks : 0 < (layer_at layers x).size
      → steps_of layers s k x ≡ steps_by (layer_at layers x).size 1 (copies_lose s k x (layer_at layers x).bound) (falling s x)
  unfolding steps_of
  steps-blocks p = rw (ne_eqb (layer_at layers x).size 0 (λ z. omega arith)) refl

  -- what c records lose
  pub loss_of-steps : x < s → s ≤ 5 → (c : ℕ) → c ≤ 4_096 → loss_of NestedFloors layers s k x c ≡ step_loss (steps_of layers s k x) c
  unfolding loss
  loss_of-steps below few c h = go (eq-zero-or-pos (layer_at layers x).size) (eq-zero-or-pos c)
    where
      go : ((layer_at layers x).size ≡ 0) ⊎ (0 < (layer_at layers x).size) → (c ≡ 0) ⊎ (0 < c)
          → loss_of NestedFloors layers s k x c ≡ step_loss (steps_of layers s k x) c
      go (inr p) z =
          loss_of-blocks NestedFloors layers s k x c p
          ∙ rw (steps-blocks p)
          (ap₂ min (sym (mul-one c))
          (sym (copies_cost-steps_by (lose-repeat s k x _ below) (falling-le-120 s x few (omega arith)) (layer_at layers x).size 1 _)))
      go (inl e) (inl z) = rw (z, steps-no-blocks e) (loss_of-zero NestedFloors layers s k x ∙ omega arith)
      go (inl e) (inr p) =
          loss_of-no-blocks NestedFloors layers s k x c e p
          ∙ rw (steps-no-blocks e)
          (let q = copies_cost-steps_by marks-repeat (omega arith) 4_096 no_split (copies_for c 4_096) in omega arith)

pub steps-limits : (layers : List LayerHead) (order : Order) (x : ℕ) → Limits layers order → x < order.s
    → StepLimits (steps_of layers order.s order.k x)
steps-limits layers order x limits h = go (eq-zero-or-pos (layer_at layers x).size)
  where
    few : x < 5
    few = let g = limits.s-le in omega arith

    lose : (d most : ℕ) → d ≤ most → copies_lose order.s order.k x (layer_at layers x).bound d ≤ most * 4_096 * 254 ^ 5
    lose d most l = lose-le order.s order.k x _ d most few limits.k-le (limits.mu-le x) l

    go : ((layer_at layers x).size ≡ 0) ⊎ (0 < (layer_at layers x).size) → StepLimits (steps_of layers order.s order.k x)
    go (inl e) =
        rw (steps-no-blocks layers order.s order.k x e)
        (limits-steps_by marks-repeat (omega arith) 4_096 no_split (omega arith) (omega arith) (omega arith)
        (λ d. omega arith) (λ i j. omega arith) (lit< tt) (λ d l. omega arith))
    go (inr p) =
        let period-le = falling-le-120 order.s x limits.s-le few in
        rw (steps-blocks layers order.s order.k x p)
        (limits-steps_by (lose-repeat order.s order.k x _ h) period-le _ 1 p (limits.m-le x) (omega arith)
        (lose-single order.s order.k x _) (lose-together order.s order.k x _)
        (lt_of_le_of_lt (lose _ 120 period-le) (lit< tt))
        (λ d l. lt_of_le_of_lt (lose d 4_096 l) (lit< tt)))

-- no product of records wraps
pub records-lt : {u : Steps} → StepLimits u → (n : ℕ) → n ≤ 4_097 → n * u.each < 2 ^ 26
records-lt limits n h = lt_of_le_of_lt (mul-le-mul h limits.each-le) (lit< tt)
