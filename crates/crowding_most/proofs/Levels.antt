-- Where there are no more tails than the largest number so far, growing sets changes nothing, so it may stop there; where one node
-- is to come, counting is enough; a level's chains hold the tails after each node. Assumes nothing.
use Prim.Native.Nat.{ℕ, zero, suc, max, ◌≤◌}
use mathlib.Core.Path.{◌≡◌, sym, ap, ◌∙◌}
use mathlib.Core.List.{List, [], ◌∷◌, ◌++◌, map}
use native.Mathlib.Omega.{arith}
use lib.ListN.{length, get_or}
use Rattle.lists.specs.Lists.{largest, up_to}
use Rattle.lists.proofs.Largest.{largest-le}
use Rattle.lists.proofs.UpTo.{map-up_to-suc}
use Rattle.crowding.specs.Tails.{Tail, tails_after, over_nodes}
use Rattle.crowding.specs.Chains.{tails_at, chain, largest_after, most_after, Grown}
use Rattle.crowding.proofs.OverNodes.{over-same, over-congr}
use Rattle.crowding.proofs.TailsFew.{length-after-le}
use Rattle.crowding.proofs.Times.{length-tails}
use Rattle.crowding_most.specs.Most.{most_tails, most_child}

pub most-few : (w : ℕ) (tails : List Tail) (best : ℕ) → length tails ≤ best → most_tails w tails best ≡ best
unfolding most_tails
most-few zero tails best few = omega arith
most-few (suc w) tails best few =
    over-same (λ v best. most_tails w (tails_after w v tails []) best) 256 best
    (λ v lt. most-few w (tails_after w v tails []) best (omega (arith, length-after-le w v tails [])))

largest-append : (l : List ℕ) (n : ℕ) → largest (l ++ (n ∷ [])) ≡ max (largest l) n
unfolding largest
largest-append [] n = omega arith
largest-append (m ∷ l) n = omega (arith, largest-append l n)

over-max : (g : ℕ → ℕ) (n best : ℕ) → over_nodes (λ v best. max best (g v)) n best ≡ max best (largest (map g (up_to n)))
unfolding over_nodes largest up_to
over-max g zero best = omega arith
over-max g (suc v) best =
    over-max g v (max best (g v))
    ∙ rw (map-up_to-suc g v, largest-append (map g (up_to v)) (g v)) (omega arith)

-- one node is to come: the tails after each are counted
pub most-one : (w m : ℕ) (tails : List Tail) (best : ℕ) → w ≡ 1 → m ≡ most_after w tails → max best m ≡ most_tails w tails best
unfolding most_tails
most-one w m tails best one is =
    let e : m ≡ largest_after 0 tails = rw one at is in
    rw (one, e) (sym (over-max (λ v. length (tails_after 0 v tails [])) 256 best))

-- the level below: its chains hold the tails
module _ (n w r : ℕ) (rows heads counts next : List ℕ) (tails : List Tail) (best : ℕ) (e : n ≡ suc w)
    (grown : Grown w tails r rows heads counts next) where
  pub grown-most : most_child w r rows heads counts next best ≡ most_tails n tails best
  unfolding most_tails
  grown-most =
      rw e
      (over-congr (λ v best. most_tails w (tails_at r rows (chain heads counts next v)) best)
      (λ v best. most_tails w (tails_after w v tails []) best)
      (λ v best. ap (λ (ts : List Tail). most_tails w ts best) (grown v)) 256 best)

  -- and none is longer than the largest number so far
  pub grown-few : (longest : ℕ) → longest ≡ largest counts → longest ≤ best → best ≡ most_tails n tails best
  unfolding most_tails
  grown-few longest is le =
      rw e
      (sym (over-same (λ v best. most_tails w (tails_after w v tails []) best) 256 best
      (λ v lt. most-few w (tails_after w v tails []) best
      (omega (arith, largest-le counts v, length-tails r rows (get_or counts v 0) next (get_or heads v 0), ap length (grown v))))))
