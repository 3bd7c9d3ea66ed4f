-- Loops that leave each of the nodes out in turn. Assumes nothing.
use Prim.Native.Nat.{ℕ, suc, ◌+◌, ◌*◌, ◌-◌, ◌%◌, max, ◌≤◌, ◌<◌}
use native.Mathlib.Nat.{le_refl, mul-le-mul}
use native.Mathlib.Omega.{arith}
use mathlib.Core.Path.{◌≡◌, refl, ◌∙◌}
use mathlib.Core.Bool.{Bool}
use mathlib.Core.List.{List, [], ◌∷◌}
use lib.ListN.{length, get_or, take, drop, length-drop, drop_of_length-le}
use Rattle.lists.specs.Lists.{tally}
use Rattle.lists.proofs.Counts.{tally-le-suc}
use Rattle.lists.proofs.Parts.{drop-next}
use Rattle.lists.proofs.Writing.{take-drop-rest}
use Rattle.crowding.specs.Chains.{AtMost}
use Rattle.crowding_pairs.specs.Codes.{Raised}
use Rattle.crowding_sums.specs.Sums.{weigh, leaving, most_left, in_cell, Looked, Room}
use Rattle.crowding_sums.proofs.Leaving.{leaving-one-le}

-- what is left to weigh, and to leave out, from place i on
pub weigh-next : (weights nodes : List ℕ) (i : ℕ) → i < length nodes
    → weigh weights (drop i nodes) ≡ get_or weights (get_or nodes i 0) 0 + weigh weights (drop (i + 1) nodes)
unfolding weigh
weigh-next weights nodes i h = rw (drop-next nodes i 0 h)

pub weigh-end : (weights nodes : List ℕ) (i : ℕ) → length nodes ≤ i → weigh weights (drop i nodes) ≡ 0
unfolding weigh
weigh-end weights nodes i h = rw (drop_of_length-le nodes h)

leaving-next : (weights : List ℕ) (f : ℕ → Bool) (d sum : ℕ) (nodes : List ℕ) (i : ℕ) → i < length nodes
    → leaving weights f (suc d) sum (drop i nodes)
    ≡ leaving weights f d (sum - get_or weights (get_or nodes i 0) 0) (drop (i + 1) nodes) + leaving weights f (suc d) sum (drop (i + 1) nodes)
unfolding leaving
leaving-next weights f d sum nodes i h = rw (drop-next nodes i 0 h)

-- no weight is above 16 bits
pub weigh-le : (weights : List ℕ) (top : ℕ) (nodes : List ℕ) → AtMost top weights → weigh weights nodes ≤ length nodes * top
unfolding weigh
weigh-le weights top [] most = omega arith
weigh-le weights top (v ∷ nodes) most = omega (arith, most v, weigh-le weights top nodes most)

leaving-end : (weights : List ℕ) (f : ℕ → Bool) (d sum : ℕ) (nodes : List ℕ) (i : ℕ) → length nodes ≤ i
    → leaving weights f (suc d) sum (drop i nodes) ≡ 0
unfolding leaving
leaving-end weights f d sum nodes i h = rw (drop_of_length-le nodes h)

most-next-node : (weights table : List ℕ) (d sum : ℕ) (nodes : List ℕ) (i : ℕ) → i < length nodes
    → most_left weights table (suc d) sum (drop i nodes)
    ≡ max (most_left weights table d (sum - get_or weights (get_or nodes i 0) 0) (drop (i + 1) nodes)) (most_left weights table (suc d) sum (drop (i + 1) nodes))
unfolding most_left
most-next-node weights table d sum nodes i h = rw (drop-next nodes i 0 h)

most-end : (weights table : List ℕ) (d sum : ℕ) (nodes : List ℕ) (i : ℕ) → length nodes ≤ i → most_left weights table (suc d) sum (drop i nodes) ≡ 0
unfolding most_left
most-end weights table d sum nodes i h = rw (drop_of_length-le nodes h)

-- the nodes after place i
abbrev pub rest_at : List ℕ → ℕ → List ℕ
rest_at nodes i = take (length nodes - (i + 1)) (drop (i + 1) nodes)

pub rest-short : (nodes : List ℕ) (i : ℕ) → length nodes ≤ 5 → length (rest_at nodes i) ≤ 5
rest-short nodes i short = rw (take-drop-rest nodes (i + 1)) (simp length-drop (omega arith))

-- the sum without the node at place i
abbrev pub left_at : (weights : List ℕ) (sum : ℕ) → List ℕ → ℕ → ℕ
left_at weights sum nodes i = sum - get_or weights (get_or nodes i 0) 0

-- the first i nodes were left out in turn, and the weights of the others are in the sum
pub record Held (weights : List ℕ) (sum : ℕ) (nodes : List ℕ) (i : ℕ) : Type 0 where
  pub within : i ≤ length nodes
  pub held : weigh weights (drop i nodes) ≤ sum

pub held_start : {weights : List ℕ} {sum : ℕ} {nodes table : List ℕ} → Looked weights sum nodes table → Held weights sum nodes 0
held_start look = record { within = omega arith; held = look.held }

module _ {weights : List ℕ} {sum : ℕ} {nodes : List ℕ} {i : ℕ} (l : Held weights sum nodes i) (h : i < length nodes) where
  pub left-weight : get_or weights (get_or nodes i 0) 0 ≤ sum
  left-weight = omega (arith, weigh-next weights nodes i h, l.held)

  pub held_next : Held weights sum nodes (i + 1)
  held_next = record { within = omega arith; held = omega (arith, weigh-next weights nodes i h, l.held) }

  -- the nodes after it can be left out next
  pub left-look : {table table' : List ℕ} → Looked weights sum nodes table → length table' ≡ length table
      → Looked weights (left_at weights sum nodes i) (rest_at nodes i) table'
  left-look look same = record {
    short = rest-short nodes i look.short;
    known = look.known;
    held = rw (take-drop-rest nodes (i + 1)) (omega (arith, weigh-next weights nodes i h, l.held));
    cells = same ∙ look.cells;
  }

  pub leaving-turn : (f : ℕ → Bool) (d : ℕ)
      → leaving weights f (suc d) sum (drop i nodes)
      ≡ leaving weights f d (left_at weights sum nodes i) (rest_at nodes i) + leaving weights f (suc d) sum (drop (i + 1) nodes)
  leaving-turn f d = rw (take-drop-rest nodes (i + 1)) (leaving-next weights f d sum nodes i h)

  pub most-turn : (table : List ℕ) (d : ℕ)
      → most_left weights table (suc d) sum (drop i nodes)
      ≡ max (most_left weights table d (left_at weights sum nodes i) (rest_at nodes i)) (most_left weights table (suc d) sum (drop (i + 1) nodes))
  most-turn table d = rw (take-drop-rest nodes (i + 1)) (most-next-node weights table d sum nodes i h)

-- of the sums that leave out d+1 nodes of which the first is before i, one comes n times and none more often
pub record Most (weights table : List ℕ) (d sum : ℕ) (nodes : List ℕ) (n i : ℕ) : Type 0 where
  pub turn : Held weights sum nodes i
  pub is : max n (most_left weights table (suc d) sum (drop i nodes)) ≡ most_left weights table (suc d) sum nodes

pub most-start : {weights table : List ℕ} {d sum : ℕ} {nodes : List ℕ} → Looked weights sum nodes table → Most weights table d sum nodes 0 0
most-start look = record { turn = held_start look; is = omega arith }

module _ {weights table : List ℕ} {d sum : ℕ} {nodes : List ℕ} {n i : ℕ} (l : Most weights table d sum nodes n i) where
  pub most-next : {m n' : ℕ} → i < length nodes → m ≡ most_left weights table d (left_at weights sum nodes i) (rest_at nodes i) → n' ≡ max n m
      → Most weights table d sum nodes n' (i + 1)
  most-next {m} {n'} h e f = record {
    turn = held_next l.turn h;
    is = omega (arith, f, e, l.is, most-turn l.turn h table d);
  }

  pub most-all : length nodes ≤ i → n ≡ most_left weights table (suc d) sum nodes
  most-all h = omega (arith, l.is, most-end weights table d sum nodes i h)

-- one node to leave out
pub most-one : {weights table : List ℕ} {sum : ℕ} {nodes : List ℕ} {n m n' i : ℕ} → Most weights table 0 sum nodes n i → i < length nodes
    → m ≡ get_or table (left_at weights sum nodes i % 65536) 0 → n' ≡ max n m → Most weights table 0 sum nodes n' (i + 1)
unfolding most_left
most-one l h e f = most-next l h e f

-- the same counted in a table: each cell is raised by at most `step` a turn
pub record Left (weights : List ℕ) (d sum base step : ℕ) (nodes table₀ table : List ℕ) (i : ℕ) : Type 0 where
  pub turn : Held weights sum nodes i
  pub same : length table ≡ length table₀
  pub cell : (p : ℕ) → get_or table p 0 + leaving weights (in_cell p) (suc d) sum (drop i nodes)
      ≡ get_or table₀ p 0 + leaving weights (in_cell p) (suc d) sum nodes
  pub few : AtMost (base + step * i) table

pub left-start : {weights : List ℕ} {d sum base step : ℕ} {nodes table : List ℕ} → Room weights sum base nodes table
    → Left weights d sum base step nodes table table 0
left-start room = record {
  turn = held_start room.look;
  same = refl;
  cell = λ p. refl;
  few = λ p. omega (arith, room.few p);
}

module _ {weights : List ℕ} {d sum base step : ℕ} {nodes table₀ table : List ℕ} {i : ℕ} (l : Left weights d sum base step nodes table₀ table i)
  where
    pub left-room : {most : ℕ} → i < length nodes → Room weights sum base nodes table₀ → base + step * 4 ≤ most
        → Room weights (left_at weights sum nodes i) most (rest_at nodes i) table
    left-room {most} h room le = record {
      look = left-look l.turn h room.look l.same;
      few = λ p. omega (arith, l.few p, le, mul-le-mul (le_refl step) four);
    }
      where
        four : i ≤ 4
        four = omega (arith, h, room.look.short)

    pub left-next : {table' : List ℕ} → i < length nodes
        → ((p : ℕ) → leaving weights (in_cell p) d (left_at weights sum nodes i) (rest_at nodes i) ≤ step)
        → Raised (λ p. leaving weights (in_cell p) d (left_at weights sum nodes i) (rest_at nodes i)) table table'
        → Left weights d sum base step nodes table₀ table' (i + 1)
    left-next {table'} h most raised = record {
      turn = held_next l.turn h;
      same = raised.same ∙ l.same;
      cell = λ p. omega (arith, raised.cell p, l.cell p, leaving-turn l.turn h (in_cell p) d);
      few = λ p. omega (arith, raised.cell p, l.few p, most p);
    }

    pub left-all : length nodes ≤ i → Raised (λ p. leaving weights (in_cell p) (suc d) sum nodes) table₀ table
    left-all h = record {
      same = l.same;
      cell = λ p. omega (arith, l.cell p, leaving-end weights (in_cell p) d sum nodes i h);
    }

-- one node to leave out: its sum is counted
pub left-fits : {weights : List ℕ} {sum : ℕ} {nodes table₀ table : List ℕ} {i : ℕ} → Left weights 0 sum 65000 1 nodes table₀ table i
    → i < length nodes → Room weights sum 65000 nodes table₀ → (length table ≡ 65536) × AtMost 65534 table
left-fits l h room = (l.same ∙ room.look.cells, λ p. omega (arith, l.few p, h, room.look.short))

pub last-next : {weights : List ℕ} {sum : ℕ} {nodes table₀ table table' : List ℕ} {i : ℕ}
    → Left weights 0 sum 65000 1 nodes table₀ table i → i < length nodes
    → Raised (λ p. tally (in_cell p (left_at weights sum nodes i)) 0) table table' → Left weights 0 sum 65000 1 nodes table₀ table' (i + 1)
unfolding leaving
last-next {weights} {sum} {nodes} {i = i} l h raised = left-next l h (λ p. tally-le-suc (in_cell p (left_at weights sum nodes i)) 0) raised

-- two nodes to leave out: the sums without the first of them were counted
pub two-next : {weights : List ℕ} {sum : ℕ} {nodes table₀ table table' : List ℕ} {i : ℕ}
    → Left weights 1 sum 60000 5 nodes table₀ table i → i < length nodes → Room weights sum 60000 nodes table₀
    → Raised (λ p. leaving weights (in_cell p) 1 (left_at weights sum nodes i) (rest_at nodes i)) table table'
    → Left weights 1 sum 60000 5 nodes table₀ table' (i + 1)
two-next {weights} {sum} {nodes} {i = i} l h room raised =
    left-next l h
    (λ p. omega (arith, leaving-one-le weights (in_cell p) (left_at weights sum nodes i) (rest_at nodes i), rest-short nodes i room.look.short))
    raised
