-- Certifying as the code does it: what the choice of a layer and the planner's writer ask, and what is answered. Assumes nothing.
use Prim.Native.Nat.{ℕ, ◌-◌, ◌*◌, ◌<◌}
use Rattle.std.specs.Prelude.{Result}
use native.Mathlib.Omega.{arith}
use mathlib.Core.Path.{◌≡◌, refl, sym, ◌∙◌, ap, subst}
use mathlib.Core.List.{List, [], ◌++◌, flatten, append-nil}
use lib.ListN.{length, take, drop, replicate, set}
use lib.Dec.{T}
use Rattle.lists.proofs.Alls.{all-imp, length-flatten}
use Rattle.lists.proofs.Tests.{and_left}
use Rattle.lists.proofs.Writing.{take-drop-rest}
use Rattle.refusal.specs.declared.Refusal.{Refusal}
use Rattle.refusal.specs.Checked.{Checked, accepted, refused}
use Rattle.packing.specs.Rows.{Row, ascending, rows_at}
use Rattle.packing.proofs.RowsAt.{rows_at-flatten}
use Rattle.layers.specs.Answers.{dark_of, dark_list, base_of}
use Rattle.layers.specs.declared.Base.{Base}
use Rattle.layers.specs.declared.LayerHead.{LayerHead}
use Rattle.layers.proofs.Listing.{dark-count, dark_list-dark_of}
use Rattle.placement.specs.Placement.{Placement}
use Rattle.placement.specs.declared.Order.{Order}
use Rattle.planner.specs.Planning.{check_output, output_after}
use Rattle.planner.specs.Answers.{plan_answer}
use Rattle.planner.specs.Writing.{held_pack, counts_placement, Writable}
use Rattle.planner.specs.declared.PlanResult.{PlanResult}
use Rattle.planner.specs.declared.PlannedFile.{PlannedFile}
use Rattle.certify.specs.Answers.{choice_below}
use Rattle.certify.specs.Asked.{RowsAsked, OrderAsked, BareHeld, held_bare}
use Rattle.certify.specs.Bare.{Bare, GoodBare, check_bare}
use Rattle.certify.specs.Certify.{most_together, figure_in, layer_taken, placed_in, certified, certify_bare, CertifyDone}
use Rattle.certify.specs.declared.BareRead.{BareRead}
use Rattle.certify.specs.declared.Choice.{Choice}
use Rattle.certify.proofs.Alone.{alone_heads}
use Rattle.certify.proofs.Answered.{BareFound}
use Rattle.certify.proofs.Highest.{highest-below}
use Rattle.certify.proofs.Packed.{rows-writable, counts_placement-is, counts-are}

module _ {base : Base} {order : Order} {bytes : List ℕ} (held : BareHeld base order bytes) where
  abbrev q : Bare
  q = held_bare base order bytes

  -- what the choice of a layer asks
  pub rows-asked : RowsAsked base.r order.b bytes
  rows-asked =
      let g = held.good in
      let lengths = all-imp (Row base.n base.r) (λ row. length row ≡ base.r) (λ row h. h.0) q.rows g.rows in
      let len = length-flatten base.r q.rows lengths ∙ ap (λ c. c * base.r) g.records-all in
      let same = ap length held.whole in
      record {
        few = g.order.b-most;
        r-most = g.base.r-most;
        within = omega arith;
        ordered = all-imp (Row base.n base.r) (λ row. T (ascending 0 row)) (λ row h. and_left (ascending 0 row) _ h.1) q.rows g.rows;
      }

  pub order-asked : OrderAsked base.r order
  order-asked =
      let g = held.good in
      record {
        s-least = g.order.s-least;
        s-most = g.order.s-most;
        k-least = g.order.k-least;
        k-most = omega (arith, g.order.k-most, g.base.n-most);
      }

  -- and what is chosen is below s
  pub taken-below : layer_taken q < order.s
  taken-below = highest-below (figure_in order q.rows) order.s held.good.order.s-least

  base-is : base ≡ base_of q.base
  base-is = λ i. record { n = base.n; r = base.r; dark = held.array i }

  module _ {x lambda : ℕ} (below : x < order.s) (is : lambda ≡ most_together x q.rows) where
    -- the code's arrays
    abbrev heads : List LayerHead
    heads = alone_heads 5 1 x (record { bound = lambda; size = order.b })

    abbrev counts : List ℕ
    counts = set (replicate 5 0) x order.b

    -- what the planner's writer asks
    pub writes-asked : Writable base heads bytes order counts
    writes-asked =
        subst (λ (b : Base). Writable b heads bytes order counts) (sym base-is)
        (subst (λ (l : ℕ). Writable (base_of q.base) (alone_heads 5 1 x (record { bound = l; size = order.b })) bytes order counts) (sym is)
        (subst (λ (s : List ℕ). Writable (base_of q.base) (alone_heads 5 1 x (record { bound = most_together x q.rows; size = order.b })) s order counts)
        held.whole (rows-writable q held.good x below)))

    writes : counts_placement (held_pack base heads bytes) order counts ≡ placed_in q x
    writes =
        (λ i. counts_placement (held_pack (base-is i) (alone_heads 5 1 x (record { bound = is i; size = order.b })) (sym held.whole i)) order counts)
        ∙ counts_placement-is q held.good x below

    -- and what is answered
    pub writes-done : {out out-left : List ℕ} {answer : Result PlannedFile Refusal}
        → (answer ≡ (plan_answer (accepted (counts_placement (held_pack base heads bytes) order counts))).answer)
        × (out-left ≡ output_after (accepted (counts_placement (held_pack base heads bytes) order counts)) out)
        → CertifyDone (accepted (placed_in q x)) out out-left (record { answer = answer; counts = counts })
    writes-done {out} (a, o) =
        let answer-is = a ∙ ap (λ p. (plan_answer (accepted p)).answer) writes in
        record {
          answer = λ i. record { answer = answer-is i; counts = counts-are q held.good x below i };
          output-after = o ∙ ap (λ p. output_after (accepted p) out) writes;
        }

-- a refusal leaves the output as it was
pub refused-done : {wrote : Checked Placement} {e : Refusal} (out : List ℕ) {given : PlanResult}
    → wrote ≡ refused e → given ≡ plan_answer (refused e) → CertifyDone wrote out out given
refused-done out is e = rw is (record { answer = e; output-after = refl })

-- 11, or the placement
pub output-refused : (q : Bare) (output : ℕ) {e : Refusal} → check_output q.order.b q.base.r output ≡ refused e
    → certify_bare q output ≡ refused e
unfolding certify_bare
output-refused q output e = rw e

pub output-passed : (q : Bare) (output : ℕ) → check_output q.order.b q.base.r output ≡ accepted tt
    → certify_bare q output ≡ accepted (placed_in q (layer_taken q))
unfolding certify_bare certified
output-passed q output e = rw e

-- what was written in the layer that was chosen is what certifying gives
pub certified-done : (q : Bare) {x : ℕ} {out out-left : List ℕ} {given : PlanResult}
    → check_output q.order.b q.base.r (length out) ≡ accepted tt → x ≡ layer_taken q
    → CertifyDone (accepted (placed_in q x)) out out-left given → CertifyDone (certify_bare q (length out)) out out-left given
certified-done q {x} {out} {out-left} {given} enough is done =
    subst (λ wrote. CertifyDone wrote out out-left given)
    (ap (λ y. accepted (placed_in q y)) is ∙ sym (output-passed q (length out) enough)) done

-- what the choice says
pub choice-layer : (q : Bare) {choice : Choice} → choice ≡ choice_below q.order q.rows q.order.s
    → (choice.layer ≡ layer_taken q) × (choice.lambda ≡ most_together choice.layer q.rows)
choice-layer q is =
    let layer = ap (λ (c : Choice). c.layer) is in
    (layer, ap (λ (c : Choice). c.lambda) is ∙ ap (λ x. most_together x q.rows) (sym layer))

-- the rows that were read stand in the part that is lent
module _ (bytes : List ℕ) {read : BareRead} (found : BareFound bytes read) where
  abbrev bare : Bare
  bare = found.bare

  -- the part of the bytes from the first row on, as it is lent
  abbrev lent : List ℕ
  lent = take (length bytes - read.first) (drop read.first bytes)

  lent_is : lent ≡ flatten bare.rows
  lent_is = take-drop-rest bytes read.first ∙ found.rest

  list-is : dark_list (dark_of bare.base.dark) ≡ bare.base.dark
  list-is =
      let g = found.good in
      dark_list-dark_of bare.base.dark (omega (arith, dark-count bare.base.n bare.base.dark g.dark.ordered, g.base.n-most))

  rows_are : rows_at bare.base.r bare.order.b (flatten bare.rows) ≡ bare.rows
  rows_are =
      let lengths = all-imp (Row bare.base.n bare.base.r) (λ row. length row ≡ bare.base.r) (λ row h. h.0) bare.rows found.good.rows in
      ap (λ l. rows_at bare.base.r bare.order.b l) (sym (append-nil (flatten bare.rows)))
      ∙ ap (λ c. rows_at bare.base.r c (flatten bare.rows ++ [])) (sym found.good.records-all)
      ∙ rows_at-flatten bare.base.r bare.rows [] lengths

  same : held_bare (base_of bare.base) bare.order (flatten bare.rows) ≡ bare
  same = λ i. record { base = record { n = bare.base.n; r = bare.base.r; dark = list-is i }; order = bare.order; rows = rows_are i }

  held-is : held_bare read.base read.order lent ≡ bare
  held-is = (λ i. held_bare (found.base-is i) (found.order_is i) (lent_is i)) ∙ same

  pub found-is : check_bare bytes ≡ accepted (held_bare read.base read.order lent)
  found-is = found.found ∙ ap accepted (sym held-is)

  pub held-of-found : BareHeld read.base read.order lent
  held-of-found =
      rw (found.base-is, found.order_is, lent_is)
      (record { good = subst GoodBare (sym same) found.good; array = ap dark_of (sym list-is); whole = ap flatten rows_are })
