-- The survivor guarantee of the nodes: whichever k nodes fail, at least as many records stay usable as the figure says. In a placement
-- of kind 6 k nodes are on at most k feeders. Assumes nothing.
use Prim.Native.Nat.{ℕ, ◌≤◌, ◌<◌}
use native.Mathlib.Omega.{arith}
use native.Mathlib.Nat.{le_trans}
use mathlib.Core.Path.{◌≡◌, refl}
use mathlib.Core.Bool.{Bool, ◌&&◌}
use mathlib.Core.List.{List}
use mathlib.Core.Option.{Option, none, some}
use lib.Dec.{T, eqb, ltb, ltb→lt, lt→ltb, eqb_refl}
use Rattle.lists.specs.Lists.{All, count, any, up_to}
use Rattle.lists.proofs.Tests.{T_true, true-T, and_left, and_right, and_both}
use Rattle.lists.proofs.Alls.{all-imp, all_get_d, every-all}
use Rattle.lists.proofs.UpTo.{all-up_to}
use Rattle.lists.proofs.AnyUpTo.{any-up_to-some}
use Rattle.lists.proofs.Listed.{passing-any, count-mem}
use Rattle.lists.proofs.DoubleCount.{count-mono-all, double-count, count-eqb-up_to}
use Rattle.packing.specs.Rows.{ascending, Row}
use Rattle.packing.specs.Failures.{Failure, hits, usable}
use Rattle.layers.specs.Layers.{all_rows}
use Rattle.placement.specs.Feeders.{Feeders, FeederLimits, feeder_of, unit_layers}
use Rattle.placement.specs.Placement.{Placement, GoodPlacement}
use Rattle.placement.specs.Units.{units, unit_rows}
use Rattle.placement.proofs.FeederRows.{feeder-all_rows, usable-feeders}
use Rattle.placement.proofs.Units.{survivors-at-most}

-- rows of nodes below n
nodes-below : (n r : ℕ) (row : List ℕ) → Row n r row → All (λ v. v < n) row
nodes-below n r row h =
    all-imp (λ v. T (ltb v n)) (λ v. v < n) (λ v. ltb→lt v n) row
    (every-all (λ v. ltb v n) row (and_right (ascending 0 row) _ h.1))

-- fewer failed nodes leave no less usable
pub usable-grows : (n r s : ℕ) (rows : List (List ℕ)) (failed more : ℕ → Bool) → All (Row n r) rows
    → ((v : ℕ) → v < n → T (failed v) → T (more v)) → usable s rows more ≤ usable s rows failed
unfolding usable
usable-grows n r s rows failed more h within =
    count-mono-all (λ row. ltb (hits more row) s) (λ row. ltb (hits failed row) s) rows
    (all-imp (Row n r) (λ row. T (ltb (hits more row) s) → T (ltb (hits failed row) s)) each rows h)
  where
    each : (row : List ℕ) → Row n r row → T (ltb (hits more row) s) → T (ltb (hits failed row) s)
    each row is t =
        let most = ltb→lt (hits more row) s t in
        let fewer = count-mono-all failed more row
        (all-imp (λ v. v < n) (λ v. T (failed v) → T (more v)) within row (nodes-below n r row is)) in
        lt→ltb (hits failed row) s (omega arith)

module _ (feeders : Feeders) (n : ℕ) (failed : ℕ → Bool) where
  -- the feeders that a failed node hangs on
  on : ℕ → ℕ → Bool
  on f v = failed v && eqb (feeder_of feeders v) f

  pub fallen : ℕ → Bool
  fallen f = any (on f) (up_to n)

  pub fallen-of-failed : (v : ℕ) → v < n → T (failed v) → T (fallen (feeder_of feeders v))
  unfolding fallen on
  fallen-of-failed v below t =
      T_true (any-up_to-some (on (feeder_of feeders v)) v n below
      (true-T (on (feeder_of feeders v) v) (and_both (failed v) (eqb (feeder_of feeders v) (feeder_of feeders v)) t (eqb_refl (feeder_of feeders v)))))

  -- they are no more than the failed nodes
  pub fallen-few : ((v : ℕ) → v < n → feeder_of feeders v < feeders.number) → count fallen (up_to feeders.number) ≤ count failed (up_to n)
  unfolding fallen on
  fallen-few among =
      let pairs = double-count on fallen failed 1 1 (up_to feeders.number) (up_to n)
      (all-up_to (λ f. T (fallen f) → 1 ≤ count (on f) (up_to n)) feeders.number (λ f below t. some-node f t))
      (λ f v t. and_left (failed v) (eqb (feeder_of feeders v) f) t)
      (all-up_to (λ v. T (failed v) → count (λ f. on f v) (up_to feeders.number) ≤ 1) n (λ v below t. one-feeder v (among v below))) in
      omega arith
    where
      some-node : (f : ℕ) → T (fallen f) → 1 ≤ count (on f) (up_to n)
      some-node f t = let p = passing-any (on f) (up_to n) t in count-mem (on f) p.listed p.passes

      one-feeder : (v : ℕ) → feeder_of feeders v < feeders.number → count (λ f. on f v) (up_to feeders.number) ≤ 1
      one-feeder v below =
          let most = count-mono-all (λ f. on f v) (eqb (feeder_of feeders v)) (up_to feeders.number)
          (all-up_to (λ f. T (on f v) → T (eqb (feeder_of feeders v) f)) feeders.number (λ f h t. and_right (failed v) (eqb (feeder_of feeders v) f) t)) in
          omega (arith, count-eqb-up_to (feeder_of feeders v) feeders.number below)

-- Demand 3: F "holds whichever k of its n nodes fail: at least F of its b records have fewer than s replicas among the
-- failed".
pub survivors : (p : Placement) → GoodPlacement p → (failed : ℕ → Bool) → Failure p.n p.k failed
    → p.figure ≤ usable p.s (all_rows p.layers) failed
survivors p good failed e = go p.feeders refl
  where
    go : (feeders : Option Feeders) → p.feeders ≡ feeders → p.figure ≤ usable p.s (all_rows p.layers) failed
    go none is =
        let nodes : units p ≡ p.n = rw is refl in
        let rows : unit_rows p ≡ all_rows p.layers = rw is refl in
        rw rows at (survivors-at-most p good p.k failed (omega arith) (rw nodes e))
    go (some feeders) is =
        let number : units p ≡ feeders.number = rw is refl in
        let rows : unit_rows p ≡ all_rows (unit_layers (some feeders) p.layers) = rw is refl in
        let all = all_rows p.layers in
        let limits : FeederLimits p.n p.r p.k feeders = (rw is at good.limits.feeders).1 in
        let few = fallen-few feeders p.n failed
        (λ v h. all_get_d (λ f. f < feeders.number) feeders.each v 0 limits.below (omega (arith, limits.node-each))) in
        let holds = survivors-at-most p good (count (fallen feeders p.n failed) (up_to feeders.number)) (fallen feeders p.n failed) (omega arith) (rw number refl) in
        let through = rw (rows, feeder-all_rows feeders p.layers, usable-feeders feeders p.s all (fallen feeders p.n failed)) at holds in
        le_trans through (usable-grows p.n p.r p.s all failed (λ v. fallen feeders p.n failed (feeder_of feeders v)) good.rows (fallen-of-failed feeders p.n failed))
