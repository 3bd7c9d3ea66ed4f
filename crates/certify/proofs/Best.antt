-- No placement of kind 2, 3 or 5 that has the rows, s and k, with all rows in one layer, has a higher figure than what certifying
-- gives. Assumes nothing.
use Prim.Native.Nat.{ℕ, zero, suc, ◌+◌, ◌≤◌, ◌<◌}
use native.Mathlib.Omega.{arith}
use native.Mathlib.Nat.{le_trans, suc_inj, suc-ne-zero, le_of_suc-le-suc, not-suc-le-zero, zero-add, add-zero, add-suc, suc-add}
use mathlib.Core.Path.{◌≡◌, refl, sym, ◌∙◌, ap, subst}
use mathlib.Core.List.{List, [], ◌∷◌, flatten, append-nil}
use mathlib.Core.Option.{Option, none, some}
use lib.ListN.{length, get_or, length-map}
use borrow.Author.Tests.{eqb-true}
use Rattle.packing.specs.Rows.{Packing}
use Rattle.layers.specs.Layers.{Layer, blocks_at, all_rows, head_of, heads_of, Packings}
use Rattle.layers.specs.Answers.{no_head}
use Rattle.layers.specs.declared.LayerHead.{LayerHead}
use Rattle.layers.proofs.Each.{head_of-blocks_at, packing-at}
use Rattle.layers.proofs.Lengths.{length-all_rows}
use Rattle.placement.specs.Feeders.{Feeders, FeedersFit, unit_layers}
use Rattle.placement.specs.Figure.{rule_of, loss, losses, figure_of}
use Rattle.placement.specs.Placement.{Placement, GoodPlacement}
use Rattle.placement.specs.declared.Rule.{Rule}
use Rattle.placement.specs.declared.Rule.TheVariants.{OneFloor, NestedFloors}
use Rattle.placement.proofs.Losses.{lost_by-mono, nested-le-one}
use Rattle.certify.specs.Bare.{Bare, GoodBare}
use Rattle.certify.specs.Certify.{OnlyIn, most_together, figure_in, placed_in, certified}
use Rattle.certify.proofs.Highest.{highest-most}
use Rattle.certify.proofs.Most.{most-least}

-- layers without rows have none together
none_rows : (layers : List Layer) → ((y : ℕ) → (blocks_at layers y).rows ≡ []) → all_rows layers ≡ []
unfolding flatten
none_rows [] h = refl
none_rows (layer ∷ layers) h = rw (h 0) (none_rows layers (λ y. h (suc y)))

-- the rows of all layers are those of the one that has rows
only-rows : (x : ℕ) (layers : List Layer) → OnlyIn x layers → all_rows layers ≡ (blocks_at layers x).rows
unfolding flatten
only-rows x [] o = absurd (not-suc-le-zero o.inside)
only-rows zero (layer ∷ layers) o =
    rw (none_rows layers (λ y. o.others (suc y) (λ e. suc-ne-zero y e))) (append-nil layer.rows)
only-rows (suc x) (layer ∷ layers) o =
    rw (o.others 0 (λ e. suc-ne-zero x (sym e)))
    (only-rows x layers (record { inside = le_of_suc-le-suc o.inside; others = λ y ne. o.others (suc y) (λ e. ne (suc_inj e)) }))

-- all layers lose at least what one does
loss-le-losses : (rule : Rule) (s k o x : ℕ) (heads : List LayerHead) → x < length heads
    → loss rule s k (o + x) (get_or heads x no_head) ≤ losses rule s k o heads
unfolding losses
loss-le-losses rule s k o x [] h = absurd (not-suc-le-zero h)
loss-le-losses rule s k o zero (head ∷ heads) h = rw (add-zero o) (omega arith)
loss-le-losses rule s k o (suc x) (head ∷ heads) h =
    let rest = loss-le-losses rule s k (suc o) x heads (le_of_suc-le-suc h) in
    let same = add-suc o x ∙ sym (suc-add o x) in
    rw same (omega arith)

-- no rule loses less than the nested floors, and a larger lambda no less than a smaller one
nested-loss-least : (rule : Rule) (s k x b small large : ℕ) → x < s → small ≤ large
    → loss NestedFloors s k x (record { bound = small; size = b }) ≤ loss rule s k x (record { bound = large; size = b })
unfolding loss
nested-loss-least OneFloor s k x b small large below h =
    let grows = lost_by-mono NestedFloors s k x small large h in
    let sharper = nested-le-one s k x large below in
    omega arith
nested-loss-least NestedFloors s k x b small large below h = let grows = lost_by-mono NestedFloors s k x small large h in omega arith

-- a placement without feeders has the packings of its own layers
own-packings : (p : Placement) → GoodPlacement p → (p.kind ≡ 6 → ⊥) → Packings 0 p.layers
own-packings p g not-six = go p.feeders g.limits.feeders g.packings
  where
    go : (f : Option Feeders) → FeedersFit p.kind p.n p.r p.k f → Packings 0 (unit_layers f p.layers) → Packings 0 p.layers
    go none fit h = h
    go (some feeders) (is, fit) h = absurd (not-six (eqb-true p.kind 6 is))

module _ (q : Bare) (good : GoodBare q) (p : Placement) (g : GoodPlacement p) (not-six : p.kind ≡ 6 → ⊥)
    (same_s : p.s ≡ q.order.s) (same-k : p.k ≡ q.order.k) (same_rows : all_rows p.layers ≡ q.rows)
    (x : ℕ) (only : OnlyIn x p.layers) where
  -- the layer that has the rows
  abbrev layer : Layer
  layer = blocks_at p.layers x

  rows_in : layer.rows ≡ q.rows
  rows_in = sym (only-rows x p.layers only) ∙ same_rows

  same-b : p.b ≡ q.order.b
  same-b = sym g.limits.records-all ∙ sym (length-all_rows p.layers) ∙ ap length same_rows ∙ good.records-all

  below : x < p.s
  below = omega (arith, only.inside, g.limits.layer-each)

  lambda-holds : most_together x q.rows ≤ layer.bound
  lambda-holds =
      let held : Packing x layer.bound layer.rows = rw zero-add at (packing-at 0 p.layers x only.inside (own-packings p g not-six)) in
      most-least x q.rows q.base.n q.base.r good.rows layer.bound (rw rows_in at held)

  head-is : get_or (heads_of p.layers) x no_head ≡ record { bound = layer.bound; size = p.b }
  head-is =
      head_of-blocks_at p.layers x
      ∙ (λ i. record { bound = layer.bound; size = (ap length rows_in ∙ good.records-all ∙ sym same-b) i })

  figure-in : p.figure ≤ figure_in q.order q.rows x
  unfolding figure_of figure_in
  figure-in =
      let all = loss-le-losses (rule_of p.kind) p.s p.k 0 x (heads_of p.layers) heads-long in
      let one = rw (zero-add x, head-is) at all in
      let least = nested-loss-least (rule_of p.kind) p.s p.k x p.b (most_together x q.rows) layer.bound below lambda-holds in
      let formula = g.formula in
      rw (← same_s, ← same-k, ← same-b) (omega arith)
    where
      heads-long : x < length (heads_of p.layers)
      heads-long = rw (length-map p.layers head_of) only.inside

  -- "no accepted placement of kind 2, 3 or 5 that has these rows, s and k with all of them in one layer has a higher F"
  pub none-higher : p.figure ≤ (certified q).figure
  unfolding certified placed_in
  none-higher =
      le_trans figure-in
      (highest-most (figure_in q.order q.rows) q.order.s x (subst (λ (s : ℕ). x < s) same_s below))
