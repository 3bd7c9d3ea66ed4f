-- Chains when a position is linked: it comes to the front of its node's chain, and the other chains stay. Assumes nothing.
use Prim.Native.Nat.{ℕ, zero, suc, ◌+◌, ◌-◌, ◌/◌, ◌≤◌, ◌<◌, min}
use mathlib.Core.Path.{◌≡◌, refl, sym, ap, ◌∙◌}
use mathlib.Core.Bool.{Bool, true, false, cond}
use mathlib.Core.List.{List, [], ◌∷◌}
use native.Mathlib.Numerals.{add-one}
use native.Mathlib.Omega.{arith}
use lib.ListN.{length, get_or, set, replicate}
use lib.Seq.{get_or-set_same, get_or-set_other}
use lib.Dec.{eqb}
use borrow.Author.Tests.{eqb-true, eqb-false}
use Rattle.lists.specs.Lists.{All}
use Rattle.lists.proofs.Alls.{all-imp}
use Rattle.lists.proofs.Parts.{get_d-zeros}
use Rattle.crowding.specs.Chains.{follow, chain, linked, lowest_at, Outside, AtMost, Fresh, KeptOutside}

pub length-follow : (n : ℕ) (next : List ℕ) (p : ℕ) → length (follow n next p) ≡ n
unfolding follow
length-follow zero next p = refl
length-follow (suc n) next p = ap suc (length-follow n next (get_or next p 0))

pub chain-empty : (heads counts next : List ℕ) (v : ℕ) → get_or counts v 0 ≤ 0 → chain heads counts next v ≡ []
unfolding follow
chain-empty heads counts next v h =
    let e : get_or counts v 0 ≡ 0 = omega arith in
    rw e

-- in a new level every chain is empty
pub at-most-zero : (n : ℕ) → AtMost 0 (replicate n 0)
at-most-zero n v = omega (arith, get_d-zeros n v)

-- a chain's first position, and the chain after it
pub follow-next : (n : ℕ) (next : List ℕ) (p : ℕ) → 0 < n → follow n next p ≡ p ∷ follow (n - 1) next (get_or next p 0)
unfolding follow
follow-next zero next p h = absurd (omega arith)
follow-next (suc n) next p h =
    let e : suc n - 1 ≡ n = omega arith in
    rw e

pub all-follow : (P : ℕ → Type 0) (n : ℕ) (next : List ℕ) (p : ℕ) → 0 < n → All P (follow n next p)
    → P p × All P (follow (n - 1) next (get_or next p 0))
all-follow P n next p h a = rw (follow-next n next p h) at a

pub lowest-next : (r n least : ℕ) (next : List ℕ) (p : ℕ) → 0 < n
    → lowest_at r (min least (p / r)) (follow (n - 1) next (get_or next p 0)) ≡ lowest_at r least (follow n next p)
unfolding lowest_at
lowest-next r n least next p h = rw (follow-next n next p h)

pub lowest-end : (r n least : ℕ) (next : List ℕ) (p : ℕ) → n ≡ 0 → least ≡ lowest_at r least (follow n next p)
unfolding lowest_at follow
lowest-end r n least next p e = rw e

-- a chain goes by the entries of its own positions
pub follow-kept : (n : ℕ) (next last : List ℕ) (p : ℕ) → All (λ q. get_or last q 0 ≡ get_or next q 0) (follow n next p)
    → follow n last p ≡ follow n next p
unfolding follow
follow-kept zero next last p h = refl
follow-kept (suc n) next last p h =
    ap (λ (q : ℕ). p ∷ follow n last q) h.0 ∙ ap (λ (l : List ℕ). p ∷ l) (follow-kept n next last (get_or next p 0) h.1)

-- an entry is stored for a position that is not in the chain
follow-set : (n : ℕ) (next : List ℕ) (p f a : ℕ) → All (λ q. q ≡ f → ⊥) (follow n next p)
    → follow n (set next f a) p ≡ follow n next p
follow-set n next p f a h =
    follow-kept n next (set next f a) p
    (all-imp (λ q. q ≡ f → ⊥) (λ q. get_or (set next f a) q 0 ≡ get_or next q 0) (λ q ne. get_or-set_other next f q a 0 ne)
    (follow n next p) h)

follow-front : (n : ℕ) (next : List ℕ) (p f : ℕ) → f < length next → All (λ q. q ≡ f → ⊥) (follow n next p)
    → follow (suc n) (set next f p) f ≡ f ∷ follow n next p
unfolding follow
follow-front n next p f lt h =
    ap (λ (l : List ℕ). f ∷ l)
    (ap (follow n (set next f p)) (get_or-set_same next f p 0 lt) ∙ follow-set n next p f p h)

-- position f of node v is linked
module _ (heads counts next : List ℕ) (f v n : ℕ) (hv : v < length heads) (cv : v < length counts) (lt : f < length next)
    (en : n ≡ get_or counts v 0 + 1) where
  chain_link : (u : ℕ) → All (λ q. q ≡ f → ⊥) (chain heads counts next u)
      → chain (set heads v f) (set counts v n) (set next f (get_or heads v 0)) u
      ≡ cond (eqb u v) (f ∷ chain heads counts next u) (chain heads counts next u)
  chain_link u h = go (eqb u v) refl
    where
      go : (b : Bool) → eqb u v ≡ b
          → chain (set heads v f) (set counts v n) (set next f (get_or heads v 0)) u
          ≡ cond b (f ∷ chain heads counts next u) (chain heads counts next u)
      go true e =
          let same : u ≡ v = eqb-true u v e in
          rw (same, get_or-set_same heads v f 0 hv, get_or-set_same counts v n 0 cv, en, add-one)
          (follow-front (get_or counts v 0) next (get_or heads v 0) f lt (rw same at h))
      go false e =
          let other : u ≡ v → ⊥ = eqb-false u v e in
          rw (get_or-set_other heads v u f 0 other, get_or-set_other counts v u n 0 other)
          (follow-set (get_or counts u 0) next (get_or heads u 0) f (get_or heads v 0) h)

-- one count is stored
pub at-most-set : (counts : List ℕ) (v n : ℕ) → v < length counts → (m k : ℕ) → AtMost m counts → m ≤ k → n ≤ k
    → AtMost k (set counts v n)
at-most-set counts v n cv m k h mk nk u = go (eqb u v) refl
  where
    go : (b : Bool) → eqb u v ≡ b → get_or (set counts v n) u 0 ≤ k
    go true e = rw (eqb-true u v e, get_or-set_same counts v n 0 cv) nk
    go false e = rw (get_or-set_other counts v u n 0 (eqb-false u v e)) (omega (arith, h u))

-- the next position of those to be linked, and the last
linked-next : (rows : List ℕ) (v f to : ℕ) (found : List ℕ) → f < to
    → linked rows v f (to - f) found ≡ linked rows v (f + 1) (to - (f + 1)) (cond (eqb v (get_or rows f 0)) (f ∷ found) found)
unfolding linked
linked-next rows v f to found lt =
    let e : to - f ≡ suc (to - (f + 1)) = omega arith in
    rw (e, add-one)

pub linked-all : (rows : List ℕ) (v f to : ℕ) (found : List ℕ) → to ≤ f → linked rows v f (to - f) found ≡ found
unfolding linked
linked-all rows v f to found h =
    let e : to - f ≡ 0 = omega arith in
    rw e

-- a turn of the loop that links the positions from f to `to`
module _ (rows heads counts next : List ℕ) (f to n : ℕ) (hh : length heads ≡ 256) (hc : length counts ≡ 256)
    (lt : f < length next) (more : f < to) (byte : get_or rows f 0 < 256) (en : n ≡ get_or counts (get_or rows f 0) 0 + 1)
    (fresh : Fresh f to heads counts next) where
  abbrev v : ℕ
  v = get_or rows f 0

  away : (u : ℕ) → All (λ q. q ≡ f → ⊥) (chain heads counts next u)
  away u = all-imp (Outside f to) (λ q. q ≡ f → ⊥) (λ q h e. omega (arith, h (omega arith))) (chain heads counts next u) (fresh u)

  step : (u : ℕ) → chain (set heads v f) (set counts v n) (set next f (get_or heads v 0)) u
      ≡ cond (eqb u v) (f ∷ chain heads counts next u) (chain heads counts next u)
  step u = chain_link heads counts next f v n (omega arith) (omega arith) lt en u (away u)

  pub turn-linked : (u : ℕ)
      → linked rows u (f + 1) (to - (f + 1)) (chain (set heads v f) (set counts v n) (set next f (get_or heads v 0)) u)
      ≡ linked rows u f (to - f) (chain heads counts next u)
  turn-linked u =
      ap (linked rows u (f + 1) (to - (f + 1))) (step u) ∙ sym (linked-next rows u f to (chain heads counts next u) more)

  pub turn-fresh : Fresh (f + 1) to (set heads v f) (set counts v n) (set next f (get_or heads v 0))
  turn-fresh u = rw (step u) (go (eqb u v))
    where
      on : All (Outside (f + 1) to) (chain heads counts next u)
      on = all-imp (Outside f to) (Outside (f + 1) to) (λ q h le. h (omega arith)) (chain heads counts next u) (fresh u)

      go : (b : Bool) → All (Outside (f + 1) to) (cond b (f ∷ chain heads counts next u) (chain heads counts next u))
      go true = (λ le. omega (arith, le), on)
      go false = on

pub turn-kept : (next last : List ℕ) (from f to a : ℕ) → from ≤ f → f < to → KeptOutside from to next last
    → KeptOutside from to next (set last f a)
turn-kept next last from f to a le lt h p o =
    get_or-set_other last f p a 0 (λ e. omega (arith, o (omega arith))) ∙ h p o
