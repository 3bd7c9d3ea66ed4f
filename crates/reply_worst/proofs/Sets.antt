-- The line of `worst`, from the answers of the calls. Assumes nothing.
use Prim.Native.Nat.{ℕ, ◌-◌, ◌≤◌}
use Rattle.std.specs.Prelude.{Result, Ok, Err}
use native.Mathlib.Omega.{arith}
use native.Mathlib.Nat.{sub-zero}
use mathlib.Core.Path.{◌≡◌, refl, sym, ◌∙◌, ap, subst}
use mathlib.Core.List.{List}
use lib.ListN.{length, take, drop, length-append}
use lib.Seq.{take_at}
use lib.Dec.{leb}
use Rattle.lists.specs.Lists.{over_start}
use Rattle.refusal.specs.declared.Refusal.{Refusal}
use Rattle.refusal.specs.declared.Refusal.TheVariants.{ShortOutput, TooManySets}
use Rattle.refusal.specs.Checked.{Checked, accepted, refused, ◌>>=◌, require, map_accepted, written}
use Rattle.refusal.proofs.Checked.{accepted-injective, bind-elim, require-bind-accepted, map_accepted-accepted}
use Rattle.placement.specs.Units.{units}
use Rattle.placement.specs.Placement.{Placement, GoodPlacement, read_placement, check_placement}
use Rattle.placement.specs.declared.Order.{Order}
use Rattle.placement.proofs.Accepted.{read-of-placement}
use Rattle.worst.specs.Worst.{Worst, few_sets, worst_of, check_worst}
use Rattle.worst.specs.Answers.{worst_answer, WorstDone}
use Rattle.worst.proofs.Good.{worst-of-good}
use Rattle.report.specs.Programs.{refused_line, or_refused_line}
use Rattle.report.specs.Replies.{Replied}
use Rattle.report_lines.specs.Put.{Put}
use Rattle.replies.specs.Lines.{numbers_line}
use Rattle.call_replies.specs.Orders.{OrderOf}
use Rattle.call_replies.specs.Worst.{worst_line, worst_text, worst_needed}
use Rattle.reply_lines.proofs.Puts.{numbers-replied}

good_of : (placement : List ℕ) (p : Placement) → check_placement placement ≡ accepted p → GoodPlacement p
unfolding check_placement
good_of placement p e =
    let (file, read, same) = map_accepted-accepted (λ file. file.content) (read_placement placement) e in
    rw (← same) (read-of-placement placement file.content file.first read).1

-- the set that is found is that of the placement's k
found-size : (placement : List ℕ) {order : Order} {worst : Worst} → OrderOf placement order → check_worst placement 255 ≡ accepted worst
    → (length worst.set ≡ order.k) × (order.k ≤ 255)
unfolding check_worst
found-size placement {order} {worst} is e =
    bind-elim (check_placement placement) _ e λ p e₁ r₁.
    let r₂ =
    (require-bind-accepted (few_sets (units p) p.k p.b) TooManySets
    (λ _. require (leb p.k 255) (ShortOutput p.k) >>= λ _. accepted (worst_of p)) r₁).1 in
    let r₃ = (require-bind-accepted (leb p.k 255) (ShortOutput p.k) (λ _. accepted (worst_of p)) r₂).1 in
    let worst-is : worst_of p ≡ worst = accepted-injective r₃ in
    let k-is : order.k ≡ p.k = ap (λ order. order.k) (is p e₁) in
    let good = good_of placement p e₁ in
    (rw (← worst-is, k-is) (worst-of-good p good).nodes.number, omega (arith, good.limits.order.k-most, good.limits.base.n-most))

-- the line of a number and of nodes that stand at the start of an array, as the code lends them
pub set-replied : (number : ℕ) (nodes old : List ℕ) {numbers before after : List ℕ} {next : ℕ} → numbers ≡ over_start nodes old
    → length nodes ≤ 255 → worst_needed ≤ length before
    → Put (numbers_line number (take (length nodes - 0) (drop 0 numbers))) before 0 next after
    → Replied (numbers_line number nodes) next before after
set-replied number nodes old {numbers} {before} {after} {next} e few room put =
    let same : take (length nodes - 0) (drop 0 numbers) ≡ nodes =
    rw (e, sub-zero (length nodes)) (take_at nodes (drop (length nodes) old) (length nodes) refl) in
    let line = subst (λ (set : List ℕ). Put (numbers_line number set) before 0 next after) same put in
    numbers-replied number nodes before after next (omega (arith, few, room)) line

-- what was found
pub record SetFound (placement : List ℕ) (order : Order) (nodes : List ℕ) (number : ℕ) : Type 0 where
  pub inside : order.k ≤ length nodes
  pub few : length (take (order.k - 0) (drop 0 nodes)) ≤ 255
  pub text : worst_text placement ≡ numbers_line number (take (order.k - 0) (drop 0 nodes))

module _ (placement : List ℕ) (before : List ℕ) {after : List ℕ} {given : Result ℕ Refusal}
    (done : WorstDone (check_worst placement 255) before after given) where
  pub worst-refused : {why : Refusal} → given ≡ Err why → worst_text placement ≡ refused_line why
  unfolding worst_text
  worst-refused {why} e = go (check_worst placement 255) (sym e ∙ done.answer)
    where
      go : (o : Checked Worst) → Err why ≡ worst_answer o → or_refused_line (map_accepted worst_line o) ≡ refused_line why
      go (accepted worst) e = absurd (let z : ◌≡◌ {A = ℕ} 0 1 = cc in omega arith)
      go (refused other) e = let same : other ≡ why = cc in rw same

  pub worst-found : {number : ℕ} {order : Order} → OrderOf placement order → given ≡ Ok number → SetFound placement order after number
  unfolding worst_text
  worst-found {number} {order} is e = go (check_worst placement 255) refl (sym e ∙ done.answer) done.output-after
    where
      go : (o : Checked Worst) → check_worst placement 255 ≡ o → Ok number ≡ worst_answer o
          → after ≡ written (map_accepted (λ worst. worst.set) o) before → SetFound placement order after number
      go (accepted worst) c e w =
          let number_is : number ≡ worst.fewest = cc in
          let size = found-size placement is c in
          let start : take (order.k - 0) after ≡ worst.set =
          rw (w, sub-zero order.k) (take_at worst.set (drop (length worst.set) before) order.k size.0) in
          record {
            few = rw start (omega (arith, size.0, size.1));
            inside = rw w (rw (length-append worst.set (drop (length worst.set) before)) (omega (arith, size.0)));
            text = rw (c, start, number_is);
          }
      go (refused other) c e w = absurd (let z : ◌≡◌ {A = ℕ} 0 1 = cc in omega arith)
