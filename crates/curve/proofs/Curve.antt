-- The curve from the answer of the placement's check, and what is left in the lent slice. Assumes nothing.
use Prim.Native.Nat.{ℕ, ◌+◌, ◌-◌, ◌≤◌, ◌<◌}
use Rattle.std.specs.Prelude.{Ok, Err}
use native.Mathlib.Omega.{arith}
use native.Mathlib.Nat.{le_of_eq}
use mathlib.Core.Path.{◌≡◌, refl, sym, ◌∙◌, ap}
use mathlib.Core.List.{List}
use lib.ListN.{length, take, length-take, length-map}
use lib.Seq.{sets}
use borrow.Author.Tests.{le-leb, lt-leb}
use Rattle.lists.proofs.Alls.{all_map}
use Rattle.lists.proofs.UpTo.{length-map-up_to}
use Rattle.lists.proofs.Stores.{sets-start}
use Rattle.refusal.specs.declared.Refusal.{Refusal}
use Rattle.refusal.specs.declared.Refusal.TheVariants.{ShortOutput}
use Rattle.refusal.specs.Checked.{accepted, refused, WritingDone}
use Rattle.layers.specs.Layers.{Located, head_of, heads_of}
use Rattle.layers.specs.Answers.{no_head, five_heads}
use Rattle.layers.specs.declared.LayerHead.{LayerHead}
use Rattle.layers.proofs.Arrays.{take-five}
use Rattle.placement.specs.Placement.{Placement, GoodPlacement, read_placement, check_placement}
use Rattle.placement.specs.Figure.{rule_of, figure_of}
use Rattle.placement.specs.Units.{units, figure_at}
use Rattle.placement.specs.Answers.{units_by, placement_head, placement_checked}
use Rattle.placement.specs.declared.PlacementHead.{PlacementHead}
use Rattle.placement.specs.declared.PlacementCheck.{PlacementCheck}
use Rattle.placement.proofs.Accepted.{read-of-placement}
use Rattle.placement.proofs.Answered.{check-refused, check-accepted}
use Rattle.placement.proofs.TableRows.{units_by-is, units-within}
use Rattle.curve.specs.Curve.{curve_of, check_curve}
use Rattle.curve.specs.Asked.{CurveAsked, figures_from, curve_from}

module _ (head : PlacementHead) (m : ℕ) (layers : List LayerHead) (out : List ℕ) where
  -- too short an output is refused, and is as it was
  pub curve-refused : length out < m - head.s
      → WritingDone (curve_from head m layers (length out)) out out (Err (ShortOutput (m - head.s)))
  unfolding curve_from
  curve-refused short =
      rw (lt-leb (m - head.s) (length out) short) (record { answer = refl; output-after = refl })

  -- the figures stand at the start of any other, which is else as it was
  pub curve-written : {left : List ℕ} → m - head.s ≤ length out
      → left ≡ sets out 0 (figures_from (rule_of head.kind) head.s head.b layers (m - head.s))
      → WritingDone (curve_from head m layers (length out)) out left (Ok (m - head.s))
  unfolding curve_from
  curve-written enough is =
      let figures = figures_from (rule_of head.kind) head.s head.b layers (m - head.s) in
      let size = length-map-up_to (λ i. figure_of (rule_of head.kind) head.s (head.s + i) head.b (take head.s layers)) (m - head.s) in
      rw (le-leb (m - head.s) (length out) enough)
      (record { answer = ap Ok (sym size); output-after = is ∙ sets-start out figures (omega arith) })

-- an accepted placement's numbers, and the curve from them
module _ (bytes : List ℕ) (file : Located Placement) (e : read_placement bytes ≡ accepted file) where
  good : GoodPlacement file.content
  good = (read-of-placement bytes file.content file.first e).1

  heads-few : take file.content.s (five_heads (heads_of file.content.layers)) ≡ heads_of file.content.layers
  heads-few =
      let l = good.limits in
      take-five no_head (heads_of file.content.layers) file.content.s (length-map file.content.layers _ ∙ l.layer-each)
      (omega (arith, l.order.s-most, l.base.r-most))

  asked : CurveAsked (placement_head file) (units file.content) (five_heads (heads_of file.content.layers))
  asked =
      let within = units-within file.content good in
      let l = good.limits in
      let o = l.order in
      record {
        asked =
            record {
              s-most = omega (arith, o.s-most, l.base.r-most);
              held =
                  omega (
                    arith,
                    length-take file.content.s (five_heads (heads_of file.content.layers)),
                    ap length heads-few,
                    length-map file.content.layers head_of,
                    l.layer-each,
                  );
              b-most = o.b-most;
              fit = rw heads-few (le_of_eq l.records-all);
              bounds =
                  rw heads-few
                  (all_map (λ head. head.bound ≤ 16_777_216) head_of file.content.layers l.lambda-most);
            };
        s-units = omega (arith, o.s-most, within.1);
        units-most = omega (arith, within.2, l.base.n-most);
      }

  same-curve : (output : ℕ) → check_curve bytes output ≡ curve_from (placement_head file) (units file.content) (five_heads (heads_of file.content.layers)) output
  unfolding check_curve check_placement curve_from curve_of figure_at
  same-curve output = rw (e, heads-few)

asked-as : {head head' : PlacementHead} {n n' : ℕ} {layers layers' : List LayerHead} → head ≡ head' → n ≡ n' → layers ≡ layers'
    → CurveAsked head' n' layers' → CurveAsked head n layers
asked-as e d f asked = rw (e, d, f) asked

-- what the answer of the check says
module _ (bytes : List ℕ) {check : PlacementCheck} (is : check ≡ placement_checked (read_placement bytes)) where
  module _ {head : PlacementHead} (a : check.answer ≡ Ok head) where
    units-are : units_by head.n check.feeders.number ≡ units (check-accepted (read_placement bytes) is a).file.content
    units-are =
        let o = check-accepted (read_placement bytes) is a in
        let p = o.file.content in
        ap (λ h. units_by h.n check.feeders.number) o.head-is
        ∙ ap (λ t. units_by p.n t.number) o.feeders-are
        ∙ units_by-is p.kind p.n p.r p.k p.feeders (read-of-placement bytes p o.file.first o.is-accepted).1.limits.feeders

    pub curve-asked : CurveAsked head (units_by head.n check.feeders.number) check.layers
    curve-asked =
        let o = check-accepted (read_placement bytes) is a in
        asked-as o.head-is units-are o.layers-are (asked bytes o.file o.is-accepted)

    pub curve-of-check : (output : ℕ)
        → check_curve bytes output ≡ curve_from head (units_by head.n check.feeders.number) check.layers output
    curve-of-check output =
        let o = check-accepted (read_placement bytes) is a in
        same-curve bytes o.file o.is-accepted output ∙ sym (λ i. curve_from (o.head-is i) (units-are i) (o.layers-are i) output)

  pub curve-of-refused : {why : Refusal} → check.answer ≡ Err why → (output : ℕ) → check_curve bytes output ≡ refused why
  unfolding check_curve check_placement
  curve-of-refused a output = rw (check-refused (read_placement bytes) is a)
