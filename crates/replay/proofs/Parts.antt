-- The parts of a board, and what a store changes of them. Assumes nothing.
use Prim.Native.Nat.{ℕ, ◌+◌, ◌≤◌, ◌<◌}
use native.Mathlib.Omega.{arith}
use mathlib.Core.Path.{◌≡◌, refl, sym, ◌∙◌, ap}
use mathlib.Core.Logic.{⊎_elim}
use mathlib.Core.Bool.{Bool, true, false, cond, ◌&&◌}
use mathlib.Core.List.{List}
use lib.ListN.{length, get_or, set, take, drop, length-drop}
use lib.Seq.{take-set-le, drop-set-lt, take-set-lt, drop-set-add, get_or-take, get_or-drop, take-take, length-take-le, get_or-set_same, get_or-set_other}
use lib.Dec.{ltb, eqb}
use borrow.Author.Tests.{lt-ltb, le-ltb, eqb-true, eqb-false}
use Rattle.lists.proofs.Arith.{le-or-lt}
use Rattle.worst.specs.Records.{entries_of}
use Rattle.replay.specs.Board.{index_of, down_of, hits_of}

module _ (board : List ℕ) where
  pub get_d-index : (q : ℕ) → q < 20_737 → get_or (index_of board) q 0 ≡ get_or board q 0
  get_d-index q lt = get_or-take 20_737 board q 0 lt

  pub get_d-hits : (b i : ℕ) → i < b → get_or (hits_of board b) i 0 ≡ get_or board (20_993 + i) 0
  get_d-hits b i lt = get_or-take b (drop 20_993 board) i 0 lt ∙ get_or-drop 20_993 board i 0

  -- the entries of a node, in the whole board and in the index
  pub entries-same : (v : ℕ) → v < 256 → entries_of board v ≡ entries_of (index_of board) v
  entries-same v lt = rw (get_d-index v (omega arith), get_d-index (v + 1) (omega arith)) refl

  module _ (long : length board ≡ 25_089) where
    pub length-hits : (b : ℕ) → b ≤ 4_096 → length (hits_of board b) ≡ b
    length-hits b h = length-take-le b (drop 20_993 board) (omega (arith, length-drop 20_993 board))

    pub length-index : length (index_of board) ≡ 20_737
    length-index = length-take-le 20_737 board (omega arith)

  -- a store among the replicas
  pub before-hit : (i h : ℕ) → take 20_993 (set board (20_993 + i) h) ≡ take 20_993 board
  before-hit i h = take-set-le 20_993 board (20_993 + i) h (omega arith)

  pub hits-hit : (b i h : ℕ) → i < b → hits_of (set board (20_993 + i) h) b ≡ set (hits_of board b) i h
  hits-hit b i h lt = ap (take b) (drop-set-add 20_993 board i h) ∙ take-set-lt b (drop 20_993 board) i h lt

  -- a store among the marks
  module _ (v m : ℕ) (node : v < 256) where
    pub index-mark : index_of (set board (20_737 + v) m) ≡ index_of board
    index-mark = take-set-le 20_737 board (20_737 + v) m (omega arith)

    pub hits-mark : (b : ℕ) → hits_of (set board (20_737 + v) m) b ≡ hits_of board b
    hits-mark b = ap (take b) (drop-set-lt 20_993 board (20_737 + v) m (omega arith))

    pub down-mark : length board ≡ 25_089 → (w : ℕ) → down_of (set board (20_737 + v) m) w ≡ cond (eqb w v) (ltb 0 m) (down_of board w)
    down-mark long w = go (eqb w v) refl
      where
        go : (t : Bool) → eqb w v ≡ t → down_of (set board (20_737 + v) m) w ≡ cond t (ltb 0 m) (down_of board w)
        go true e =
            let same : w ≡ v = eqb-true w v e in
            rw (same, lt-ltb v 256 node, get_or-set_same board (20_737 + v) m 0 (omega arith)) refl
        go false e =
            rw (get_or-set_other board (20_737 + v) (20_737 + w) m 0 (λ q. eqb-false w v e (omega arith))) refl

-- boards that differ in the replicas alone
module _ (board other : List ℕ) (same : take 20_993 other ≡ take 20_993 board) where
  pub index-before : index_of other ≡ index_of board
  index-before =
      sym (take-take 20_737 20_993 other (omega arith)) ∙ ap (take 20_737) same ∙ take-take 20_737 20_993 board (omega arith)

  pub down-before : (w : ℕ) → down_of other w ≡ down_of board w
  down-before w = ⊎_elim inside outside (le-or-lt (w + 1) 256)
    where
      inside : w + 1 ≤ 256 → down_of other w ≡ down_of board w
      inside h =
          ap (λ m. ltb w 256 && ltb 0 m)
          (sym (get_or-take 20_993 other (20_737 + w) 0 (omega arith)) ∙ ap (λ l. get_or l (20_737 + w) 0) same
          ∙ get_or-take 20_993 board (20_737 + w) 0 (omega arith))

      outside : 256 < w + 1 → down_of other w ≡ down_of board w
      outside h = rw (le-ltb w 256 (omega arith)) refl
