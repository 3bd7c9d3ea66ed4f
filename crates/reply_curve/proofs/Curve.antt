-- The lines of `curve`, from the answers of the calls. Assumes nothing.
use Prim.Native.Nat.{ℕ, ◌+◌, ◌-◌, ◌≤◌}
use Rattle.std.specs.Prelude.{Result, Ok, Err}
use native.Mathlib.Nat.{sub-zero}
use native.Mathlib.Omega.{arith}
use mathlib.Core.Path.{◌≡◌, refl, sym, ◌∙◌, ap}
use mathlib.Core.List.{List}
use lib.ListN.{length, take, drop, length-append}
use lib.Dec.{leb}
use lib.Seq.{take_at}
use borrow.Author.Tests.{le-leb}
use Rattle.lists.proofs.UpTo.{length-map-up_to}
use Rattle.refusal.specs.declared.Refusal.{Refusal}
use Rattle.refusal.specs.declared.Refusal.TheVariants.{ShortOutput}
use Rattle.refusal.specs.Checked.{Checked, accepted, refused, ◌>>=◌, require, map_accepted, writing, written, WritingDone}
use Rattle.refusal.proofs.Checked.{map_accepted-accepted}
use Rattle.placement.specs.Placement.{Placement, read_placement, check_placement}
use Rattle.placement.specs.Units.{figure_at}
use Rattle.placement.specs.declared.Order.{Order}
use Rattle.placement.proofs.Accepted.{read-of-placement}
use Rattle.placement.proofs.TableRows.{units-within}
use Rattle.curve.specs.Curve.{curve_length, curve_of, check_curve}
use Rattle.report.specs.Programs.{refused_line, or_refused_line}
use Rattle.replies.specs.Lines.{figure_lines}
use Rattle.call_replies.specs.Orders.{OrderOf}
use Rattle.call_replies.specs.Curve.{curve_lines, curve_text}

-- an accepted placement's s, and how many figures it has at most
limits : (placement : List ℕ) (p : Placement) → check_placement placement ≡ accepted p → (p.s ≤ 5) × (curve_length p ≤ 254)
unfolding check_placement
limits placement p e =
    let (file, read, same) = map_accepted-accepted (λ file. file.content) (read_placement placement) e in
    let good = (read-of-placement placement file.content file.first read).1 in
    let l = good.limits in
    let few = (units-within file.content good).2 in
    rw (← same) (omega (arith, l.order.s-most, l.base.r-most), omega (arith, l.order.s-least, l.base.n-most, few))

-- 254 entries are enough
curve-is : (placement : List ℕ) → check_curve placement 254 ≡ map_accepted curve_of (check_placement placement)
unfolding check_curve
curve-is placement = go (check_placement placement) (limits placement)
  where
    go : (o : Checked Placement) → ((p : Placement) → o ≡ accepted p → (p.s ≤ 5) × (curve_length p ≤ 254))
        → (o >>= λ p. require (leb (curve_length p) 254) (ShortOutput (curve_length p)) >>= λ _. accepted (curve_of p)) ≡ map_accepted curve_of o
    go (accepted p) l = rw (le-leb (curve_length p) 254 (l p refl).1)
    go (refused why) l = refl

length-curve : (p : Placement) → length (curve_of p) ≡ curve_length p
unfolding curve_of
length-curve p = length-map-up_to (λ i. figure_at p (p.s + i)) (curve_length p)

-- what was written
pub record CurveFound (placement : List ℕ) (order : Order) (figures : List ℕ) (entries : ℕ) : Type 0 where
  pub inside : entries ≤ length figures
  pub few : length (take (entries - 0) (drop 0 figures)) ≤ 254
  pub s-most : order.s ≤ 255
  pub text : curve_text placement ≡ figure_lines order.s (take (entries - 0) (drop 0 figures))

module _ (placement : List ℕ) {before after : List ℕ} {given : Result ℕ Refusal}
    (done : WritingDone (check_curve placement 254) before after given) where
  answered : given ≡ writing (map_accepted curve_of (check_placement placement))
  answered = done.answer ∙ ap writing (curve-is placement)

  pub curve-refused : {why : Refusal} → given ≡ Err why → curve_text placement ≡ refused_line why
  unfolding curve_text
  curve-refused {why} e = go (check_placement placement) (sym e ∙ answered)
    where
      go : (o : Checked Placement) → Err why ≡ writing (map_accepted curve_of o)
          → or_refused_line (map_accepted curve_lines o) ≡ refused_line why
      go (accepted p) e = absurd (let z : ◌≡◌ {A = ℕ} 0 1 = cc in omega arith)
      go (refused other) e = let same : other ≡ why = cc in rw same

  pub curve-found : {entries : ℕ} {order : Order} → OrderOf placement order → length before ≡ 254 → given ≡ Ok entries
      → CurveFound placement order after entries
  unfolding curve_text
  curve-found {entries} {order} is long e = go (check_placement placement) refl (sym e ∙ answered) (done.output-after ∙ ap (λ c. written c before) (curve-is placement))
    where
      go : (o : Checked Placement) → check_placement placement ≡ o → Ok entries ≡ writing (map_accepted curve_of o)
          → after ≡ written (map_accepted curve_of o) before → CurveFound placement order after entries
      go (accepted p) c e w =
          let size : entries ≡ length (curve_of p) = cc in
          let l = limits placement p c in
          let order_is = is p c in
          let s-is : order.s ≡ p.s = ap (λ order. order.s) order_is in
          let few : length (curve_of p) ≤ 254 = rw (length-curve p) l.1 in
          let start : take (entries - 0) after ≡ curve_of p =
          rw (w, sub-zero entries) (take_at (curve_of p) (drop (length (curve_of p)) before) entries (sym size)) in
          record {
            few = rw start few;
            inside = rw w (rw (length-append (curve_of p) (drop (length (curve_of p)) before)) (omega arith));
            s-most = omega (arith, l.0);
            text = rw (c, s-is, start);
          }
      go (refused other) c e w = absurd (let z : ◌≡◌ {A = ℕ} 0 1 = cc in omega arith)
