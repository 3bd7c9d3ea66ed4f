-- A walk along a chain that links what comes after each of its positions: the chains of the next level. Assumes nothing.
use Prim.Native.Nat.{ℕ, ◌+◌, ◌-◌, ◌*◌, ◌/◌, ◌≤◌, ◌<◌}
use mathlib.Core.Path.{◌≡◌, sym, ap, subst, ◌∙◌}
use mathlib.Core.List.{List, [], ◌∷◌, ◌++◌, append-nil}
use native.Mathlib.Nat.{div-mul-le_self, lt-div-mul-add}
use native.Mathlib.Omega.{arith}
use lib.ListN.{length, get_or}
use Rattle.lists.specs.Lists.{All}
use Rattle.lists.proofs.Alls.{all-imp, all_append, all-append-left, all-append-right}
use Rattle.crowding.specs.Tails.{Tail, tails_after}
use Rattle.crowding.specs.Chains.{row_end, tails_at, follow, chain, Outside, Apart, Placed, Ascends, AtMost, EmptyBelow, Fresh, AllChained, KeptOutside, KeptTo, Linked}
use Rattle.crowding.proofs.Follow.{length-follow, follow-next, all-follow, follow-kept, chain-empty}
use Rattle.crowding.proofs.Rows.{in_row}
use Rattle.crowding.proofs.RowLinks.{RowLinked, chain-elim, chain-tails, chain-placed, chain-longer}

-- no two in one row: without a position of the middle, and with it in front
module _ (r : ℕ) where
  apart-without : (l m : List ℕ) (p : ℕ) → Apart r (l ++ p ∷ m) → Apart r (l ++ m)
  apart-without [] m p h = h.1
  apart-without (a ∷ l) m p h = (
    all_append (λ q. q / r ≡ a / r → ⊥) l m (all-append-left (λ q. q / r ≡ a / r → ⊥) l (p ∷ m) h.0)
        (all-append-right (λ q. q / r ≡ a / r → ⊥) l (p ∷ m) h.0).1,
    apart-without l m p h.1,
  )

  apart_from : (l m : List ℕ) (p : ℕ) → Apart r (l ++ p ∷ m) → All (λ q. q / r ≡ p / r → ⊥) (l ++ m)
  apart_from [] m p h = h.0
  apart_from (a ∷ l) m p h =
      (λ e. (all-append-right (λ q. q / r ≡ a / r → ⊥) l (p ∷ m) h.0).0 (sym e), apart_from l m p h.1)

outside : (from to q : ℕ) → (from ≤ q → q < to → ⊥) → Outside from to q
outside from to q h le =
    let not : q < to → ⊥ = h le in
    omega (arith, not)

-- where p is within its row
module _ (r p : ℕ) (pos : 0 < r) where
  pub row-start : p / r * r ≤ p
  row-start = div-mul-le_self p r

  pub before-end : p < row_end r p
  before-end = omega (arith, lt-div-mul-add {a = p} pos)

-- a position that stands in a whole row
abbrev pub InRow : (r : ℕ) (rows : List ℕ) (p : ℕ) → Type 0
InRow r rows p = (row_end r p ≤ length rows) × (p / r * r ≤ p) × (p < row_end r p)

-- the next position of a chain
module _ (r : ℕ) (rows : List ℕ) (n : ℕ) (next : List ℕ) (p : ℕ) (pos : 0 < r) (some : 0 < n) where
  pub whole-in-row : All (λ q. row_end r q ≤ length rows) (follow n next p) → InRow r rows p
  whole-in-row h =
      ((all-follow (λ q. row_end r q ≤ length rows) n next p some h).0, row-start r p pos, before-end r p pos)

-- a chain whose nodes keep their entries stays
pub follow-kept-to : (rows : List ℕ) (v m n : ℕ) (next last : List ℕ) (p r : ℕ) → v ≤ m → KeptTo m rows next last
    → All (Placed r rows v) (follow n next p) → follow n last p ≡ follow n next p
follow-kept-to rows v m n next last p r le kept h =
    follow-kept n next last p
    (all-imp (Placed r rows v) (λ q. get_or last q 0 ≡ get_or next q 0) (λ q e. kept q (omega arith)) (follow n next p) h)

-- the level while the chain that is left to walk is `rest`; `goal` is what comes of it
pub record Walk (r w : ℕ) (rows : List ℕ) (v : ℕ) (goal : ℕ → List Tail) (heads counts next rest : List ℕ) : Type 0 where
  pub below : EmptyBelow (v + 1) counts
  pub ahead : All (Placed r rows v) rest
  pub placed : (u : ℕ) → All (Placed r rows u) (chain heads counts next u)
  pub apart : (u : ℕ) → Apart r (chain heads counts next u ++ rest)
  pub grown : (u : ℕ) → tails_after w u (tails_at r rows rest) (tails_at r rows (chain heads counts next u)) ≡ goal u

-- an empty level
pub walk_start : {r w : ℕ} {rows : List ℕ} {v : ℕ} {heads counts next rest : List ℕ} → AtMost 0 counts
    → All (Placed r rows v) rest → Apart r rest
    → Walk r w rows v (λ u. tails_after w u (tails_at r rows rest) []) heads counts next rest
walk_start {heads = heads} {counts = counts} {next = next} none placed apart = record {
  below = λ u le. omega (arith, none u);
  ahead = placed;
  placed = λ u. rw (chain-empty heads counts next u (none u)) tt;
  apart = λ u. rw (chain-empty heads counts next u (none u)) apart;
  grown = λ u. rw (chain-empty heads counts next u (none u));
}

module _ {r w : ℕ} {rows : List ℕ} {v : ℕ} {goal : ℕ → List Tail} {heads counts next : List ℕ} where
  -- a position is next
  pub walk_first : (n p : ℕ) → 0 < n → Walk r w rows v goal heads counts next (follow n next p)
      → Walk r w rows v goal heads counts next (p ∷ follow (n - 1) next (get_or next p 0))
  walk_first n p some walk = subst (Walk r w rows v goal heads counts next) (follow-next n next p some) walk

  -- the whole chain is walked
  pub walk_end : (n p : ℕ) → n ≡ 0 → Walk r w rows v goal heads counts next (follow n next p)
      → Walk r w rows v goal heads counts next []
  unfolding follow
  walk_end n p e walk = subst (λ n. Walk r w rows v goal heads counts next (follow n next p)) e walk

  pub walk-grown : Walk r w rows v goal heads counts next [] → (u : ℕ) → tails_at r rows (chain heads counts next u) ≡ goal u
  unfolding tails_after
  walk-grown walk u = walk.grown u

  pub walk-chained : Walk r w rows v goal heads counts next [] → AllChained r rows heads counts next
  walk-chained walk u = (walk.placed u, rw (append-nil (chain heads counts next u)) at (walk.apart u))

  -- a turn of the walk, at position p
  module _ {p : ℕ} {rest : List ℕ} (pos : 0 < r) (order : Ascends r rows)
      (walk : Walk r w rows v goal heads counts next (p ∷ rest)) where
    here : Placed r rows v p
    here = walk.ahead.0

    pub walk-in-row : InRow r rows p
    walk-in-row = (here.0, row-start r p pos, before-end r p pos)

    above : (q : ℕ) → p + 1 ≤ q → q < row_end r p → v < get_or rows q 0
    above q le lt = omega (arith, order p q (omega arith) lt here.0, here.1)

    same_row : (q : ℕ) → p + 1 ≤ q → q < row_end r p → q / r ≡ p / r
    same_row q le lt = in_row rows r (p / r) here.0 order q (omega (arith, walk-in-row)) lt

    pub walk-fresh : Fresh (p + 1) (row_end r p - w) heads counts next
    walk-fresh u =
        all-imp (λ q. q / r ≡ p / r → ⊥) (Outside (p + 1) (row_end r p - w))
        (λ q ne. outside (p + 1) (row_end r p - w) q (λ le lt. ne (same_row q le (omega arith))))
        (chain heads counts next u)
        (all-append-left (λ q. q / r ≡ p / r → ⊥) (chain heads counts next u) rest
        (apart_from r (chain heads counts next u) rest p (walk.apart u)))

    pub walk_kept : (last : List ℕ) → KeptOutside (p + 1) (row_end r p - w) next last → KeptTo v rows next last
    walk_kept last kept q le = kept q (outside (p + 1) (row_end r p - w) q (λ pq lt. omega (arith, above q pq (omega arith))))

    module _ (heads' counts' next' : List ℕ)
        (link : Linked rows (p + 1) (row_end r p - w - (p + 1)) heads counts next heads' counts' next') where
      linked : RowLinked rows r w (p / r) (p + 1) heads counts next heads' counts' next'
      linked = record {
        whole = here.0;
        order = order;
        after = omega (arith, walk-in-row);
        within = omega (arith, walk-in-row);
        link = link;
      }

      walk-empty : EmptyBelow (v + 1) counts'
      walk-empty u le =
          let old = length-follow (get_or counts u 0) next (get_or heads u 0) in
          let now = length-follow (get_or counts' u 0) next' (get_or heads' u 0) in
          let none : length (chain heads' counts' next' u) ≡ 0 =
          chain-elim linked (λ l. length l ≡ 0) u (old ∙ walk.below u le) (λ q pq lt e. absurd (omega (arith, above q pq lt)))
          in
          sym now ∙ none

      walk-next : Walk r w rows v goal heads' counts' next' rest
      unfolding tails_after
      walk-next = record {
        below = walk-empty;
        ahead = walk.ahead.1;
        placed = λ u. chain-placed linked u (walk.placed u);
        apart = λ u. chain-elim linked (λ l. Apart r (l ++ rest)) u
            (apart-without r (chain heads counts next u) rest p (walk.apart u))
            (λ q le lt e. (
              rw (same_row q le lt) (apart_from r (chain heads counts next u) rest p (walk.apart u)),
              apart-without r (chain heads counts next u) rest p (walk.apart u),
            ));
        grown = λ u. ap (tails_after w u (tails_at r rows rest)) (chain-tails linked u) ∙ walk.grown u;
      }

      pub walk-longer : (k : ℕ) → AtMost k counts → AtMost (k + 1) counts'
      walk-longer = chain-longer linked

      pub walk-on : (n : ℕ) → rest ≡ follow n next (get_or next p 0) → KeptOutside (p + 1) (row_end r p - w) next next'
          → Walk r w rows v goal heads' counts' next' (follow n next' (get_or next p 0))
      walk-on n e kept =
          subst (Walk r w rows v goal heads' counts' next')
          (e
          ∙ sym (follow-kept-to rows v v n next next' (get_or next p 0) r (omega arith) (walk_kept next' kept)
          (subst (All (Placed r rows v)) e walk.ahead.1)))
          walk-next
