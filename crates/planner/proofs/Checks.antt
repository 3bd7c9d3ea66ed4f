-- The checks of planning: when each refuses, what each accepts, and what follows for planning on a pack. Assumes nothing.
use Prim.Native.Nat.{ℕ, ◌≤◌, ◌<◌}
use Rattle.std.specs.Prelude.{⊤, Result, Ok}
use mathlib.Core.Path.{◌≡◌}
use mathlib.Core.Bool.{◌&&◌, true, false, and-eq-true_iff}
use mathlib.Core.List.{List}
use lib.Dec.{T, leb, ltb}
use borrow.Author.Tests.{le-leb, lt-leb, lt-ltb, le-ltb, leb-true, ltb-true}
use Rattle.lists.proofs.Tests.{T_true, true-T}
use Rattle.refusal.specs.declared.Refusal.{Refusal}
use Rattle.refusal.specs.declared.Refusal.TheVariants.{BadOrder, NoBlock, ShortWork, ShortOutput}
use Rattle.refusal.specs.Checked.{Checked, accepted, refused, verdict}
use Rattle.refusal.proofs.Checked.{verdict-good, bind-elim, require-accepted, require-bind-accepted}
use Rattle.layers.specs.Layers.{heads_of}
use Rattle.layers.specs.declared.LayerHead.{LayerHead}
use Rattle.pack.specs.Pack.{Pack}
use Rattle.placement.specs.Placement.{Placement, OrderLimits}
use Rattle.placement.specs.declared.Order.{Order}
use Rattle.split.specs.Splits.{has_block}
use Rattle.planner.specs.Planning.{check_order, check_blocks, check_work, check_output, named_placement, plan_pack, Fits, work_needed, output_needed}

-- a check that the code's verdict calls good is passed
pub passed : (m : Checked Unit) {v : Result ⊤ Refusal} → v ≡ verdict m → v ≡ Ok tt → m ≡ accepted tt
passed m is good = (verdict-good m is good).1

-- refusal 12: the first of s, k and b that is outside its limits
module _ (n r : ℕ) (order : Order) where
  pub s-low : order.s < 1 → check_order n r order ≡ refused (BadOrder 0)
  unfolding check_order
  s-low h = rw (lt-leb 1 order.s h)

  module _ (s-least : 1 ≤ order.s) where
    pub s-high : r < order.s → check_order n r order ≡ refused (BadOrder 0)
    unfolding check_order
    s-high h = rw (le-leb 1 order.s s-least, lt-leb order.s r h)

    module _ (s-most : order.s ≤ r) where
      s-good : (leb 1 order.s && leb order.s r) ≡ true
      s-good = rw (le-leb 1 order.s s-least, le-leb order.s r s-most)

      pub k-low : order.k < order.s → check_order n r order ≡ refused (BadOrder 1)
      unfolding check_order
      k-low h = rw (s-good, lt-leb order.s order.k h)

      module _ (k-least : order.s ≤ order.k) where
        pub k-high : n ≤ order.k → check_order n r order ≡ refused (BadOrder 1)
        unfolding check_order
        k-high h = rw (s-good, le-leb order.s order.k k-least, le-ltb order.k n h)

        module _ (k-most : order.k < n) where
          k-good : (leb order.s order.k && ltb order.k n) ≡ true
          k-good = rw (le-leb order.s order.k k-least, lt-ltb order.k n k-most)

          pub b-low : order.b < 1 → check_order n r order ≡ refused (BadOrder 2)
          unfolding check_order
          b-low h = rw (s-good, k-good, lt-leb 1 order.b h)

          pub b-high : 1 ≤ order.b → 4_096 < order.b → check_order n r order ≡ refused (BadOrder 2)
          unfolding check_order
          b-high g h = rw (s-good, k-good, le-leb 1 order.b g, lt-leb order.b 4_096 h)

  -- what is accepted is within limits, and what is within limits is accepted
  pub order-within : {u : Unit} → check_order n r order ≡ accepted u → OrderLimits n r order
  unfolding check_order
  order-within e =
      let first = require-bind-accepted (leb 1 order.s && leb order.s r) (BadOrder 0) _ e in
      let second = require-bind-accepted (leb order.s order.k && ltb order.k n) (BadOrder 1) _ first.1 in
      let third = require-accepted (leb 1 order.b && leb order.b 4_096) (BadOrder 2) second.1 in
      let s-both = (and-eq-true_iff (leb 1 order.s) (leb order.s r)).0 first.0 in
      let k-both = (and-eq-true_iff (leb order.s order.k) (ltb order.k n)).0 second.0 in
      let b-both = (and-eq-true_iff (leb 1 order.b) (leb order.b 4_096)).0 third in
      record {
        s-least = leb-true 1 order.s s-both.0;
        s-most = leb-true order.s r s-both.1;
        k-least = leb-true order.s order.k k-both.0;
        k-most = ltb-true order.k n k-both.1;
        b-least = leb-true 1 order.b b-both.0;
        b-most = leb-true order.b 4_096 b-both.1;
      }

  pub order-good : OrderLimits n r order → check_order n r order ≡ accepted tt
  unfolding check_order
  order-good o =
      rw (
        s-good o.s-least o.s-most,
        k-good o.s-least o.s-most o.k-least o.k-most,
        le-leb 1 order.b o.b-least,
        le-leb order.b 4_096 o.b-most,
      )

-- refusals 9, 10 and 11
module _ (layers : List LayerHead) (s : ℕ) where
  pub blocks-none : has_block layers s ≡ false → check_blocks layers s ≡ refused NoBlock
  unfolding check_blocks
  blocks-none e = rw e

  pub blocks-good : has_block layers s ≡ true → check_blocks layers s ≡ accepted tt
  unfolding check_blocks
  blocks-good e = rw e

  pub blocks-some : {u : Unit} → check_blocks layers s ≡ accepted u → T (has_block layers s)
  unfolding check_blocks
  blocks-some e = T_true (require-accepted (has_block layers s) NoBlock e)

module _ (order : Order) (work : ℕ) where
  abbrev entries : ℕ
  entries = work_needed order.s order.b

  pub work-short : work < entries → check_work order work ≡ refused (ShortWork entries)
  unfolding check_work
  work-short h = rw (lt-leb entries work h)

  pub work-good : entries ≤ work → check_work order work ≡ accepted tt
  unfolding check_work
  work-good h = rw (le-leb entries work h)

  pub work-long : {u : Unit} → check_work order work ≡ accepted u → entries ≤ work
  unfolding check_work
  work-long e = leb-true entries work (require-accepted (leb entries work) (ShortWork entries) e)

module _ (b r output : ℕ) where
  pub output-short : output < output_needed b r → check_output b r output ≡ refused (ShortOutput (output_needed b r))
  unfolding check_output
  output-short h = rw (lt-leb (output_needed b r) output h)

  pub output-good : output_needed b r ≤ output → check_output b r output ≡ accepted tt
  unfolding check_output
  output-good h = rw (le-leb (output_needed b r) output h)

  pub output-long : {u : Unit} → check_output b r output ≡ accepted u → output_needed b r ≤ output
  unfolding check_output
  output-long e =
      leb-true (output_needed b r) output (require-accepted (leb (output_needed b r) output) (ShortOutput (output_needed b r)) e)

-- planning on a pack is all four
module _ (pack : Pack) (order : Order) (work output : ℕ) where
  pub plan-fitting : Fits pack order work output
      → plan_pack pack order work output ≡ accepted (named_placement pack order.s order.k order.b)
  unfolding plan_pack
  plan-fitting f =
      rw (
        order-good pack.n pack.r order f.within,
        blocks-good (heads_of pack.layers) order.s (true-T (has_block (heads_of pack.layers) order.s) f.block),
        work-good order work f.work-fits,
        output-good order.b pack.r output f.output-fits,
      )

  -- what is planned passed every check, and is the named placement
  pub planned-fits : {p : Placement} → plan_pack pack order work output ≡ accepted p
      → Fits pack order work output × (accepted (named_placement pack order.s order.k order.b) ≡ accepted p)
  unfolding plan_pack
  planned-fits e =
      bind-elim (check_order pack.n pack.r order) _ e λ _ e₁ r₁.
      bind-elim (check_blocks (heads_of pack.layers) order.s) _ r₁ λ _ e₂ r₂.
      bind-elim (check_work order work) _ r₂ λ _ e₃ r₃.
      bind-elim (check_output order.b pack.r output) _ r₃ λ _ e₄ r₄. (
        record {
          within = order-within pack.n pack.r order e₁;
          block = blocks-some (heads_of pack.layers) order.s e₂;
          work-fits = work-long order work e₃;
          output-fits = output-long order.b pack.r output e₄;
        },
        r₄,
      )

  -- the first refusal is the answer
  module _ {e : Refusal} where
    pub order-refused : check_order pack.n pack.r order ≡ refused e → plan_pack pack order work output ≡ refused e
    unfolding plan_pack
    order-refused h = rw h

    module _ {u : Unit} (ordered : check_order pack.n pack.r order ≡ accepted u) where
      pub blocks-refused : check_blocks (heads_of pack.layers) order.s ≡ refused e → plan_pack pack order work output ≡ refused e
      unfolding plan_pack
      blocks-refused h = rw (ordered, h)

      module _ {v : Unit} (some : check_blocks (heads_of pack.layers) order.s ≡ accepted v) where
        pub work-refused : check_work order work ≡ refused e → plan_pack pack order work output ≡ refused e
        unfolding plan_pack
        work-refused h = rw (ordered, some, h)

        pub output-refused : {w : Unit} → check_work order work ≡ accepted w → check_output order.b pack.r output ≡ refused e
            → plan_pack pack order work output ≡ refused e
        unfolding plan_pack
        output-refused long h = rw (ordered, some, long, h)
