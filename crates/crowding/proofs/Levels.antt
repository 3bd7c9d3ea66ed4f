-- A level's chains hold the tails after each node: what growing sets finds in the tails is what it finds in the chains, and
-- nothing where no chain is longer than the bound. Assumes nothing.
use Prim.Native.Nat.{ℕ, suc, ◌-◌, ◌≤◌, ◌<◌}
use mathlib.Core.Path.{◌≡◌, sym, ap}
use mathlib.Core.List.{List, []}
use native.Mathlib.Omega.{arith}
use lib.ListN.{length, get_or}
use Rattle.lists.specs.Lists.{largest}
use Rattle.lists.proofs.Largest.{largest-le}
use Rattle.crowding.specs.Tails.{Tail, tails_after, lowest_crowded}
use Rattle.crowding.specs.Chains.{tails_at, chain, lowest_child, most_after, Grown}
use Rattle.crowding.proofs.OverNodes.{over-same, over-congr}
use Rattle.crowding.proofs.TailsFew.{lowest-few}
use Rattle.crowding.proofs.Times.{length-tails, after-most}

-- after no node there are more tails than the bound
after-few : (n w bound : ℕ) (tails : List Tail) (least : ℕ) → n ≡ suc w
    → ((v : ℕ) → v < 256 → length (tails_after w v tails []) ≤ bound) → least ≡ lowest_crowded n bound tails least
unfolding lowest_crowded
after-few n w bound tails least e few =
    rw e
    (sym (over-same (λ v least. lowest_crowded w bound (tails_after w v tails []) least) 256 least
    (λ v lt. lowest-few w bound (tails_after w v tails []) least (few v lt))))

pub most-few : (w bound m : ℕ) (tails : List Tail) (least : ℕ) → 0 < w → m ≡ most_after w tails → m ≤ bound
    → least ≡ lowest_crowded w bound tails least
most-few w bound m tails least pos e le =
    after-few w (w - 1) bound tails least (omega arith) (λ v lt. omega (arith, after-most w tails v lt))

-- the level below: its chains hold the tails
module _ (n w bound r : ℕ) (rows heads counts next : List ℕ) (tails : List Tail) (least : ℕ) (e : n ≡ suc w)
    (grown : Grown w tails r rows heads counts next) where
  pub grown-lowest : lowest_child w bound r rows heads counts next least ≡ lowest_crowded n bound tails least
  unfolding lowest_crowded
  grown-lowest =
      rw e
      (over-congr (λ v least. lowest_crowded w bound (tails_at r rows (chain heads counts next v)) least)
      (λ v least. lowest_crowded w bound (tails_after w v tails []) least)
      (λ v least. ap (λ (ts : List Tail). lowest_crowded w bound ts least) (grown v)) 256 least)

  pub grown-few : (most : ℕ) → most ≡ largest counts → most ≤ bound → least ≡ lowest_crowded n bound tails least
  grown-few most few le =
      after-few n w bound tails least e
      (λ v lt. omega (arith, largest-le counts v, length-tails r rows (get_or counts v 0) next (get_or heads v 0), ap length (grown v)))
