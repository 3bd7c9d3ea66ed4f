-- The counts, chosen from the top layer down: those of the layers above x stand in the array, and the layers up to x
-- share what is left. Assumes nothing.
use Prim.Native.Nat.{ℕ, suc, ◌+◌, ◌-◌, ◌≤◌, ◌<◌}
use native.Mathlib.Omega.{arith}
use mathlib.Core.Path.{◌≡◌, refl, sym, ap, ap₂, ◌∙◌}
use mathlib.Core.List.{List, [], ◌∷◌, ◌++◌, append_assoc}
use lib.ListN.{length, take, drop, set, replicate, length-set}
use lib.Seq.{take-append-add, drop-cons, drop-set-lt, get_or-set_same}
use Rattle.lists.proofs.Parts.{take-replicate}
use Rattle.layers.specs.Answers.{five}
use Rattle.layers.specs.declared.LayerHead.{LayerHead}
use Rattle.placement.specs.declared.Order.{Order}
use Rattle.placement.specs.declared.Rule.TheVariants.{NestedFloors}
use Rattle.split.specs.Splits.{best_count, named_counts}
use Rattle.split.specs.Table.{Limits}
use Rattle.split.proofs.LeastLoss.{best_count-le}
use Rattle.split.proofs.NamedCounts.{named_counts-suc, length-named_counts}
use Rattle.split.proofs.Bounds.{best_count-zero}

-- up to five counts, and zeros after them
five-append : (l : List ℕ) (n : ℕ) → length l ≡ n → n ≤ 5 → five 0 l ≡ l ++ drop n (replicate 5 0)
five-append l n e h =
    let q : length l + (5 - n) ≡ 5 = omega arith in
    ap (λ m. take m (l ++ replicate 5 0)) (sym q)
    ∙ take-append-add l (replicate 5 0) (5 - n)
    ∙ ap (λ (z : List ℕ). l ++ z) (take-replicate n 5 0 h)

-- a store where the rest begins
drop-set : (l : List ℕ) (i v : ℕ) → i < length l → drop i (set l i v) ≡ v ∷ drop (suc i) l
drop-set l i v h =
    let e = length-set l i v in
    drop-cons (set l i v) i 0 (omega arith) ∙ ap₂ ◌∷◌ (get_or-set_same l i v 0 h) (drop-set-lt (suc i) l i v (omega arith))

-- one layer more
named_counts-suc-append : (layers : List LayerHead) (s k x left : ℕ) (l : List ℕ) → named_counts NestedFloors layers s k (suc x) left ++ l
    ≡ named_counts NestedFloors layers s k x (left - best_count NestedFloors layers s k x left) ++ (best_count NestedFloors layers s k x left ∷ l)
named_counts-suc-append layers s k x left l =
    ap (λ (z : List ℕ). z ++ l) (named_counts-suc NestedFloors layers s k x left)
    ∙ append_assoc (named_counts NestedFloors layers s k x (left - best_count NestedFloors layers s k x left)) (best_count NestedFloors layers s k x left ∷ []) l

-- the counts above layer x are chosen
pub record Choosing (layers : List LayerHead) (order : Order) (x left : ℕ) (counts : List ℕ) : Type 0 where
  pub x_lt : x < order.s
  pub left_le : left ≤ order.b
  pub five-long : length counts ≡ 5
  pub split : five 0 (named_counts NestedFloors layers order.s order.k order.s order.b)
      ≡ named_counts NestedFloors layers order.s order.k (suc x) left ++ drop (suc x) counts

module _ {layers : List LayerHead} {order : Order} (limits : Limits layers order) where
  pub choosing-none : Choosing layers order (order.s - 1) order.b (replicate 5 0)
  choosing-none =
      let h = limits.s-pos in
      let q : suc (order.s - 1) ≡ order.s = omega arith in
      let n = length-named_counts NestedFloors layers order.s order.k order.s order.b in
      record {
        x_lt = omega arith;
        left_le = omega arith;
        five-long = refl;
        split = rw q (five-append (named_counts NestedFloors layers order.s order.k order.s order.b) order.s n limits.s-le);
      }

  module _ {x left : ℕ} {counts : List ℕ} (f : Choosing layers order x left counts) where
    pub count-le : {c : ℕ} → c ≡ best_count NestedFloors layers order.s order.k x left → c ≤ left
    count-le e = rw e (best_count-le NestedFloors layers order.s order.k x left)

    x-lt-5 : x < 5
    x-lt-5 = let h = limits.s-le in omega (arith, f.x_lt)

    -- the count of layer x is chosen
    pub choosing-next : {c : ℕ} → 1 ≤ x → c ≡ best_count NestedFloors layers order.s order.k x left
        → Choosing layers order (x - 1) (left - c) (set counts x c)
    choosing-next {c} h e =
        let below = f.x_lt in
        let fits = f.left_le in
        record {
          x_lt = omega arith;
          left_le = omega arith;
          five-long = length-set counts x c ∙ f.five-long;
          split =
              let q : suc (x - 1) ≡ x = omega arith in
              let few = x-lt-5 in
              let l = f.five-long in
              f.split
              ∙ named_counts-suc-append layers order.s order.k x left (drop (suc x) counts)
              ∙ rw (q, drop-set counts x c (omega arith), e) refl;
        }

  -- layer 0 takes the rest
  pub choosing-all : {left : ℕ} {counts : List ℕ} → Choosing layers order 0 left counts
      → set counts 0 left ≡ five 0 (named_counts NestedFloors layers order.s order.k order.s order.b)
  unfolding named_counts
  choosing-all {left} {counts} f =
      let fits = f.left_le in
      let small = limits.b-le in
      let l = f.five-long in
      let e = best_count-zero NestedFloors layers order.s order.k left (omega arith) in
      sym
      (f.split
      ∙ named_counts-suc-append layers order.s order.k 0 left (drop 1 counts)
      ∙ (rw e (sym (drop-set counts 0 left (omega arith)))))
