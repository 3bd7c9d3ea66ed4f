-- A row's positions are linked: each chain is the old one, or has one of them in front. Assumes nothing.
use Prim.Native.Nat.{ℕ, ◌+◌, ◌-◌, ◌*◌, ◌≤◌, ◌<◌}
use mathlib.Core.Path.{◌≡◌, refl, ap, ◌∙◌}
use mathlib.Core.List.{List, ◌∷◌}
use native.Mathlib.Omega.{arith}
use lib.ListN.{length, get_or}
use Rattle.lists.specs.Lists.{All}
use Rattle.crowding.specs.Chains.{tails_at, chain, Placed, Ascends, AtMost, Linked}
use Rattle.crowding.proofs.Follow.{length-follow}
use Rattle.crowding.proofs.Rows.{row-end, linked-elim, tails-linked, nodes_from, step}

-- the positions of row i from `from` on that leave w nodes are linked
pub record RowLinked (rows : List ℕ) (r w i from : ℕ) (heads counts next heads' counts' next' : List ℕ) : Type 0 where
  pub whole : (i + 1) * r ≤ length rows
  pub order : Ascends r rows
  pub after : i * r ≤ from
  pub within : from ≤ (i + 1) * r
  pub link : Linked rows from ((i + 1) * r - w - from) heads counts next heads' counts' next'

module _ {rows : List ℕ} {r w i from : ℕ} {heads counts next heads' counts' next' : List ℕ}
    (l : RowLinked rows r w i from heads counts next heads' counts' next') where
  -- what holds of a chain as it was, and with one of the positions in front
  pub chain-elim : (P : List ℕ → Type 0) (u : ℕ) → P (chain heads counts next u)
      → ((q : ℕ) → from ≤ q → q < (i + 1) * r → get_or rows q 0 ≡ u → P (q ∷ chain heads counts next u))
      → P (chain heads' counts' next' u)
  chain-elim P u none one =
      let within = l.within in
      rw (l.link u)
      (linked-elim rows r i l.whole l.order P u (chain heads counts next u) ((i + 1) * r - w - from) from l.after (omega arith)
      none (λ q le lt e. one q le (omega arith) e))

  pub chain-tails : (u : ℕ)
      → tails_at r rows (chain heads' counts' next' u)
      ≡ step w u i (nodes_from rows from ((i + 1) * r - from)) (tails_at r rows (chain heads counts next u))
  chain-tails u =
      ap (tails_at r rows) (l.link u)
      ∙ tails-linked rows r i l.whole l.order w u (chain heads counts next u) ((i + 1) * r - w - from) from l.after l.within
      refl

  pub chain-placed : (u : ℕ) → All (Placed r rows u) (chain heads counts next u)
      → All (Placed r rows u) (chain heads' counts' next' u)
  chain-placed u h =
      let after = l.after in
      chain-elim (All (Placed r rows u)) u h
      (λ q le lt e. ((rw (row-end rows r i l.whole l.order q (omega arith) lt) l.whole, e), h))

  pub chain-longer : (k : ℕ) → AtMost k counts → AtMost (k + 1) counts'
  chain-longer k h u =
      let old = length-follow (get_or counts u 0) next (get_or heads u 0) in
      let now = length-follow (get_or counts' u 0) next' (get_or heads' u 0) in
      let le : length (chain heads' counts' next' u) ≤ k + 1 =
      chain-elim (λ l. length l ≤ k + 1) u (omega (arith, h u)) (λ q le lt e. omega (arith, h u))
      in
      omega arith
