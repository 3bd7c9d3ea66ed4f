-- The working slice, filled line by line. Assumes nothing.
use Prim.Native.Nat.{ℕ, zero, suc, ◌+◌, ◌*◌, ◌-◌, ◌≤◌, ◌<◌}
use native.Mathlib.Nat.{suc-mul, zero-mul, mul-le-mul_right, not-suc-le-zero, eq-or-lt_of_le, le_of_suc-le-suc}
use native.Mathlib.Numerals.{add-one}
use native.Mathlib.Omega.{arith}
use mathlib.Core.Path.{◌≡◌, refl, sym, ap, ◌∙◌}
use mathlib.Core.Logic.{◌⊎◌, inl, inr}
use mathlib.Core.List.{List, map}
use lib.ListN.{length}
use lib.Seq.{sets, length-sets}
use Rattle.lists.specs.Lists.{up_to}
use Rattle.lists.proofs.Stores.{drop-sets-ge, take-drop-sets}
use Rattle.lists.proofs.UpTo.{map-up_to-congr}
use Rattle.layers.specs.declared.LayerHead.{LayerHead}
use Rattle.placement.specs.declared.Order.{Order}
use Rattle.placement.specs.declared.Rule.TheVariants.{NestedFloors}
use Rattle.split.specs.declared.Steps.{Steps}
use Rattle.split.specs.Splits.{least_loss}
use Rattle.split.specs.Table.{Limits, steps_of, line_entry, table_line}
use Rattle.split.proofs.LeastLoss.{least_loss-zero-zero}
use Rattle.split.proofs.Bounds.{least_loss-zero-pos}
use Rattle.split.proofs.TableLines.{length-table_line, rising-table_line, line_above-table_line}
use Rattle.split.proofs.LayerSteps.{loss_of-steps, steps-limits}
use Rattle.split.proofs.LineSteps.{line_above-steps}
use Rattle.split.specs.Working.{part, loss_below, LineBelow, Filled, Tabled}
use Rattle.split.proofs.Parts.{part-sets-before}

-- line x ends within the s lines
pub line-end : (s w x : ℕ) → x < s → x * w + w ≤ s * w
line-end s w x h = let g = mul-le-mul_right w h in let q = suc-mul x w in omega arith

-- s lines of b + 1 entries fit, so one does
pub lines_fit : (s b n : ℕ) → s * suc b ≤ n → s * (b + 1) ≤ n
lines_fit s b n h = rw add-one h

pub line-fits : (s b n : ℕ) → 1 ≤ s → s * suc b ≤ n → b + 1 ≤ n
line-fits s b n h g = let e = line-end s (b + 1) 0 h in let q = lines_fit s b n g in omega arith

-- the line before line x
line_before : (w x : ℕ) → 1 ≤ x → x * w - w ≡ (x - 1) * w
line_before w zero h = absurd (omega arith)
line_before w (suc x) h = let q = suc-mul x w in let e : suc x - 1 ≡ x = omega arith in rw e (omega arith)

module _ (layers : List LayerHead) (s k w : ℕ) where
  -- one line more
  filled_more : (x : ℕ) (before work line : List ℕ) → s * w ≤ length before → x < s → line ≡ table_line layers s k w x
      → Filled layers s k w x before work → Filled layers s k w (suc x) before (sets work (x * w) line)
  filled_more x before work line fits below e f =
      record {
        same_length = length-sets work (x * w) line ∙ f.same_length;
        lines = λ y h. go y (eq-or-lt_of_le (le_of_suc-le-suc h));
        rest = drop-sets-ge line work (x * w) (s * w) (rw n (line-end s w x below)) ∙ f.rest;
      }
    where
      n : length line ≡ w
      n = ap length e ∙ length-table_line layers s k w x

      within : x * w + w ≤ length work
      within = let h = f.same_length in let g = line-end s w x below in omega arith

      go : (y : ℕ) → (y ≡ x) ⊎ (y < x) → part (y * w) w (sets work (x * w) line) ≡ table_line layers s k w y
      go y (inl q) = rw q ((rw n at (take-drop-sets line work (x * w) (rw n within))) ∙ e)
      go y (inr l) = part-sets-before line work (x * w) (y * w) w (line-end x w y l) ∙ f.lines y l

  -- line 0
  loss_below-eq : (b : ℕ) → loss_below b ≡ least_loss NestedFloors layers s k 0 b
  loss_below-eq zero = sym (least_loss-zero-zero NestedFloors layers s k)
  loss_below-eq (suc b) = let e = least_loss-zero-pos NestedFloors layers s k (suc b) (omega arith) in omega arith

  filled_none : (work : List ℕ) → Filled layers s k w 0 work work
  filled_none work = record { same_length = refl; lines = λ y h. absurd (not-suc-le-zero h); rest = refl }

  pub filled-base : {work after : List ℕ} → s * w ≤ length work → 1 ≤ s → after ≡ sets work 0 (map loss_below (up_to w))
      → Filled layers s k w 1 work after
  filled-base {work} fits some e =
      rw e
      (rw zero-mul at (filled_more 0 work work _ fits some (map-up_to-congr _ _ w (λ b h. loss_below-eq b)) (filled_none work)))

  -- what was filled stays
  pub filled-here : {x : ℕ} {before work : List ℕ} → Filled layers s k w x before work → Filled layers s k w x work work
  filled-here f = record { same_length = refl; lines = f.lines; rest = refl }

  pub filled-since : {x y : ℕ} {before middle work : List ℕ} → s ≤ y → Filled layers s k w x before middle
      → Filled layers s k w y middle work → Filled layers s k w s before work
  filled-since h f g =
      record {
        same_length = g.same_length ∙ f.same_length;
        lines = λ i l. g.lines i (omega arith);
        rest = g.rest ∙ f.rest;
      }

-- the lines before line x are filled, of those of an order
pub record Filling (layers : List LayerHead) (order : Order) (x : ℕ) (before work : List ℕ) : Type 0 where
  pub some : 1 ≤ x
  pub within : x ≤ order.s
  pub fits : order.s * (order.b + 1) ≤ length before
  pub filled : Filled layers order.s order.k (order.b + 1) x before work

module _ {layers : List LayerHead} {order : Order} (limits : Limits layers order) {x : ℕ} {before work : List ℕ}
    (f : Filling layers order x before work) (turn : x < order.s) where
  abbrev w : ℕ
  w = order.b + 1

  -- line x is made from the one before it
  line-under : part (x * w - w) w work ≡ table_line layers order.s order.k w (x - 1)
  line-under = rw (line_before w x f.some) (f.filled.lines (x - 1) (omega arith))

  -- it ends within the slice
  pub line-within : x * w + w ≤ length work
  line-within =
      let h = line-end order.s w x turn in
      let g = f.filled.same_length in
      let l = f.fits in
      omega arith

  pub line-below : LineBelow (x * w) w work
  line-below =
      record {
        small = let h = limits.b-le in omega arith;
        back = let h = line-end x w 0 f.some in omega arith;
        fits = line-within;
        rising = rw line-under (rising-table_line layers order.s order.k w (x - 1));
      }

  pub filling-next : {u : Steps} {after : List ℕ} → u ≡ steps_of layers order.s order.k (x - 1)
      → after ≡ sets work (x * w) (map (line_entry u (part (x * w - w) w work)) (up_to w))
      → Filling layers order (x + 1) before after
  filling-next {u} e written =
      record {
        some = omega arith;
        within = omega arith;
        fits = f.fits;
        filled = rw (written, add-one x) (filled_more layers order.s order.k w x before work _ f.fits turn made f.filled);
      }
    where
      below : List ℕ
      below = table_line layers order.s order.k w (x - 1)

      made : map (line_entry u (part (x * w - w) w work)) (up_to w) ≡ table_line layers order.s order.k w x
      made =
          let q : suc (x - 1) ≡ x = let h = f.some in omega arith in
          let n = length-table_line layers order.s order.k w (x - 1) in
          let small : length below ≤ 4_097 = let h = limits.b-le in omega arith in
          let rises = rising-table_line layers order.s order.k w (x - 1) in
          let agree = loss_of-steps layers order.s order.k (x - 1) (omega arith) limits.s-le in
          let steps = line_above-steps _ _ agree below (steps-limits layers order (x - 1) limits (omega arith)) rises small in
          let next = line_above-table_line layers order.s order.k w (x - 1) in
          rw (e, line-under) ((rw n at (sym steps ∙ next)) ∙ ap (table_line layers order.s order.k w) q)

-- a slice that was filled has the whole table
pub tabled : {layers : List LayerHead} {order : Order} {before work : List ℕ} → Limits layers order
    → order.s * suc order.b ≤ length before
    → Filled layers order.s order.k (suc order.b) order.s before work → Tabled layers order work
tabled limits fits f = record { limits = limits; fits = let e = f.same_length in omega arith; lines = f.lines }
