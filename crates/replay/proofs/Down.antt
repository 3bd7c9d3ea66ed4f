-- A record's replicas on nodes that are down, as a node goes down or comes up. Assumes nothing.
use Prim.Native.Nat.{ℕ, zero, suc, ◌+◌, ◌≤◌, ◌<◌}
use native.Mathlib.Omega.{arith}
use mathlib.Core.Path.{◌≡◌, refl, sym, ap₂}
use native.Mathlib.Nat.{eq-or-lt_of_le}
use mathlib.Core.Logic.{⊎_elim}
use mathlib.Core.Bool.{Bool, true, false, cond}
use mathlib.Core.List.{List}
use lib.Dec.{eqb}
use borrow.Author.Tests.{eqb-true, eqb-false}
use Rattle.worst.specs.Records.{Index, on_node}
use Rattle.replay.specs.Board.{on_down}

lt-of-other : (v w : ℕ) → v ≤ w → (v ≡ w → ⊥) → v < w
lt-of-other v w h other = ⊎_elim (λ e. absurd (other e)) (λ lt. lt) (eq-or-lt_of_le h)

module _ (index : List ℕ) (i : ℕ) where
  pub on_down-congr : (down other : ℕ → Bool) (m : ℕ) → ((w : ℕ) → w < m → down w ≡ other w) → on_down index down i m ≡ on_down index other i m
  unfolding on_down
  on_down-congr down other zero h = refl
  on_down-congr down other (suc m) h =
      ap₂ (λ (t : Bool) n. cond t (on_node index m i) 0 + n) (h m (omega arith)) (on_down-congr down other m (λ w lt. h w (omega arith)))

  -- node v is down in the one and up in the other, all others are the same
  pub on_down-change : (down other : ℕ → Bool) (v : ℕ) → down v ≡ true → other v ≡ false → ((w : ℕ) → (w ≡ v → ⊥) → down w ≡ other w)
      → (m : ℕ) → v < m → on_down index down i m ≡ on_down index other i m + on_node index v i
  unfolding on_down
  on_down-change down other v is was same zero lt = absurd (omega arith)
  on_down-change down other v is was same (suc m) lt =
      go (eqb m v) refl (on_down-change down other v is was same m)
    where
      go : (t : Bool) → eqb m v ≡ t → (v < m → on_down index down i m ≡ on_down index other i m + on_node index v i)
          → cond (down m) (on_node index m i) 0 + on_down index down i m ≡ cond (other m) (on_node index m i) 0 + on_down index other i m + on_node index v i
      go true e ih =
          let here : m ≡ v = eqb-true m v e in
          rw (here, is, was, on_down-congr down other v (λ w less. same w (λ q. omega arith))) (omega arith)
      go false e ih =
          let apart = eqb-false m v e in
          rw (same m apart, ih (lt-of-other v m (omega arith) (λ q. apart (sym q)))) (omega arith)

  -- at most one on each node
  pub on_down-le : {b : ℕ} → Index index b → (down : ℕ → Bool) (m : ℕ) → m ≤ 256 → on_down index down i m ≤ m
  unfolding on_down
  on_down-le is down zero h = omega arith
  on_down-le is down (suc m) h = go (down m) (on_down-le is down m (omega arith))
    where
      go : (t : Bool) → on_down index down i m ≤ m → cond t (on_node index m i) 0 + on_down index down i m ≤ suc m
      go true ih = omega (arith, is.once m i (omega arith))
      go false ih = omega arith
