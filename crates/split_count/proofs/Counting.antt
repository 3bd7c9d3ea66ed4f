-- The largest count with the least loss, found by a scan in which a copy is added where the copies so far hold no more records.
-- Assumes nothing.
use Prim.Native.Nat.{ℕ, suc, ◌+◌, ◌*◌, ◌-◌, ◌≤◌, ◌<◌, min}
use native.Mathlib.Nat.{le_refl, le_antisymm, sub-zero, suc-mul, mul-le-mul_left, mul-le-mul_right, le-mul_of_pos_right}
use native.Mathlib.Numerals.{add-one}
use native.Mathlib.Omega.{arith}
use mathlib.Core.Path.{◌≡◌, refl, sym, ap, ◌∙◌}
use mathlib.Core.Logic.{◌⊎◌, inl, inr}
use mathlib.Core.Bool.{Bool, true, false, cond}
use mathlib.Core.List.{List}
use lib.ListN.{length, get_or}
use lib.Dec.{leb}
use borrow.Author.Tests.{leb-true}
use Rattle.split.specs.declared.Steps.{Steps}
use Rattle.split.specs.Splits.{copies_for, last_least}
use Rattle.split.specs.Table.{Rising, sum_at, StepLimits, copies_cost, step_loss}
use Rattle.lists.proofs.Arith.{le-or-lt}
use Rattle.split.proofs.Copies.{copies_for-le, le-copies_for-mul}
use Rattle.split.proofs.Congruence.{last_least-congr}
use Rattle.split.proofs.Periods.{copies-repeat}
use Rattle.split_count.proofs.Scans.{ScanTo, scan-none, scan-over, scan-taken, scan-left}

-- the counts up to c were looked at; the copies hold c records, with one copy fewer at most c
pub record Counted (u : Steps) (below : List ℕ) (left best low copies paid c : ℕ) : Type 0 where
  pub within : c ≤ left
  pub few : copies ≤ c + 1
  pub held : c ≤ copies * u.size
  pub needed : copies * u.size ≤ c + u.size
  pub cost : paid ≡ copies_cost u copies
  pub scan : ScanTo (sum_at (step_loss u) below left) c best low

-- the losses of which the least is looked for
abbrev sums : (u : Steps) (below : List ℕ) (left c : ℕ) → ℕ
sums u below left = sum_at (step_loss u) below left

-- copies that do not hold c records are fewer than the least that do
more-copies : (c m d : ℕ) → 0 < m → d * m < c → d < copies_for c m
more-copies c m d pos h = go (le-or-lt (copies_for c m) d)
  where
    go : (copies_for c m ≤ d) ⊎ (d < copies_for c m) → d < copies_for c m
    go (inr l) = l
    go (inl l) = let g = le-copies_for-mul c m pos in let n = mul-le-mul_right m l in absurd (omega arith)

module _ {u : Steps} {below : List ℕ} {left : ℕ} where
  pub counted_none : {low : ℕ} → StepLimits u → low ≡ get_or below left 0 → Counted u below left 0 low 0 0 0
  counted_none limits e =
      record {
        within = omega arith;
        few = omega arith;
        held = omega arith;
        needed = omega arith;
        cost = sym (copies-repeat limits).none;
        scan = scan-none (sums u below left) (e ∙ (rw (sub-zero left) (omega arith)));
      }

  module _ (blocks : 0 < u.size) {best low copies paid c : ℕ} (s : Counted u below left best low copies paid c) (turn : c < left) where
    -- one copy more
    pub counted-more : copies * u.size ≡ c → Counted u below left best low (copies + 1) (copies_cost u (copies + 1)) c
    counted-more e =
        let g = le-mul_of_pos_right copies blocks in
        record {
          within = s.within;
          few = omega arith;
          held = omega arith;
          needed = omega arith;
          cost = refl;
          scan = s.scan;
        }

    -- where that many records, or that many copies, lose more alone, so do all that are left
    pub counted_stop : StepLimits u → copies * u.size ≡ c → {more : ℕ} → more ≡ min ((c + 1) * u.each) (copies_cost u (copies + 1)) → low < more
        → best ≡ last_least (sums u below left) left
    counted_stop limits e {more} q h =
        let w : c + (left - c) ≡ left = omega arith in
        rw w at (scan-over (sums u below left) s.scan (left - c) dear).last-least
      where
        dear : (i : ℕ) → c < i → i ≤ c + (left - c) → low < sums u below left i
        dear i l g =
            let many : suc copies ≤ copies_for i u.size = more-copies i u.size copies blocks (omega arith) in
            let k : copies_cost u (copies + 1) ≤ copies_cost u (copies_for i u.size) = (copies-repeat limits).rising _ _ (rw (add-one copies) many) in
            let r : (c + 1) * u.each ≤ i * u.each = mul-le-mul_right u.each (omega arith) in
            omega arith

    -- or some records more, of those that the copies hold
    module _ (room : c < copies * u.size) where
      copies-eq : (i : ℕ) → c < i → i ≤ copies * u.size → copies_for i u.size ≡ copies
      copies-eq i l h = le_antisymm (copies_for-le i u.size copies blocks h) (go (le-or-lt copies (copies_for i u.size)))
        where
          go : (copies ≤ copies_for i u.size) ⊎ (copies_for i u.size < copies) → copies ≤ copies_for i u.size
          go (inl g) = g
          go (inr g) =
              let k = le-copies_for-mul i u.size blocks in
              let m = mul-le-mul_right u.size g in
              let q = suc-mul (copies_for i u.size) u.size in
              let n = s.needed in
              absurd (omega arith)

      sum-eq : (i : ℕ) → c < i → i ≤ copies * u.size → sums u below left i ≡ min (i * u.each) paid + get_or below (left - i) 0
      sum-eq i l h = rw (copies-eq i l h, s.cost) refl

      -- the next count that is looked at loses no more than those between
      pub record Next (next : ℕ) : Type 0 where
        pub after : c < next
        pub upto : next ≤ left
        pub among : next ≤ copies * u.size
        pub between : (i : ℕ) → c < i → i ≤ next → sums u below left next ≤ sums u below left i

      pub next-is : {next : ℕ} → Rising below → left < length below
          → next ≡ cond (leb paid ((c + 1) * u.each)) (min (copies * u.size) left) (c + 1) → Next next
      next-is {next} rising within e = go (leb paid ((c + 1) * u.each)) refl e
        where
          go : (b : Bool) → leb paid ((c + 1) * u.each) ≡ b → next ≡ cond b (min (copies * u.size) left) (c + 1) → Next next
          go false t q =
              record {
                after = omega arith;
                upto = omega arith;
                among = omega arith;
                between = λ i l g. let w : i ≡ next = omega arith in rw w (le_refl _);
              }
          go true t q =
              let cheap = leb-true paid ((c + 1) * u.each) t in
              record {
                after = omega arith;
                upto = omega arith;
                among = omega arith;
                between = λ i l g.
                    let a = sum-eq next (omega arith) (omega arith) in
                    let b = sum-eq i l (omega arith) in
                    let r : (c + 1) * u.each ≤ i * u.each = mul-le-mul_right u.each (omega arith) in
                    let up = rising.rising (left - next) (left - i) (omega arith) (omega arith) in
                    omega arith;
              }

      module _ {next cost : ℕ} (n : Next next) (e : cost ≡ min (next * u.each) paid) where
        abbrev loss : ℕ
        loss = cost + get_or below (left - next) 0

        loss-eq : loss ≡ sums u below left next
        loss-eq = ap (λ m. m + get_or below (left - next) 0) e ∙ sym (sum-eq next n.after n.among)

        lowest : (i : ℕ) → c < i → i ≤ next → loss ≤ sums u below left i
        lowest i l g = let b = n.between i l g in omega (arith, loss-eq)

        counted_next : {best low : ℕ} → ScanTo (sums u below left) next best low → Counted u below left best low copies paid next
        counted_next scan =
            let a = n.after in
            let f = s.few in
            let m = s.needed in
            record {
              within = n.upto;
              few = omega arith;
              held = n.among;
              needed = omega arith;
              cost = s.cost;
              scan = scan;
            }

        pub counted-taken : loss ≤ low → Counted u below left next loss copies paid next
        counted-taken h = counted_next (scan-taken (sums u below left) s.scan n.after loss-eq lowest h)

        pub counted-left : low < loss → Counted u below left best low copies paid next
        counted-left h = counted_next (scan-left (sums u below left) s.scan n.after loss-eq lowest h)

-- where a copy costs all the records that it holds, each record is paid for
pub count-records : {u : Steps} (below : List ℕ) (left : ℕ) → StepLimits u → u.size * u.each ≤ get_or u.costs 1 0
    → last_least (sum_at (λ c. c * u.each) below left) left ≡ last_least (sum_at (step_loss u) below left) left
count-records {u} below left limits dear =
    last_least-congr _ _ left (λ c h. ap (λ n. n + get_or below (left - c) 0) (records c))
  where
    records : (c : ℕ) → c * u.each ≡ step_loss u c
    records c =
        let d = copies_for c u.size in
        let held = mul-le-mul_right u.each (le-copies_for-mul c u.size limits.size-pos) in
        let all : d * (u.size * u.each) ≤ d * get_or u.costs 1 0 = mul-le-mul_left d dear in
        let one = limits.single d in
        omega arith
