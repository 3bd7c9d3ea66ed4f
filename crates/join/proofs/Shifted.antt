-- Blocks with later node numbers, and copies of a list of blocks. Assumes nothing.
use Prim.Native.Nat.{ℕ, zero, suc, ◌+◌, ◌*◌, ◌-◌, ◌≤◌, ◌<◌}
use native.Mathlib.Omega.{arith}
use native.Mathlib.Nat.{zero-mul}
use mathlib.Core.Path.{◌≡◌, refl, sym, ◌∙◌, ap, subst}
use mathlib.Core.Logic.{◌⊎◌, inl, inr}
use mathlib.Core.Bool.{Bool, true, false}
use mathlib.Core.List.{List, [], ◌∷◌, map}
use lib.ListN.{length, length-append, length-map}
use lib.Dec.{T, leb, ltb, eqb, leb→le}
use borrow.Author.Tests.{eqb-true, eqb-false, eq-eqb, ne_eqb, le-leb, lt-ltb}
use Rattle.lists.specs.Lists.{All, count, every}
use Rattle.lists.proofs.Tests.{T_true, and_left, and_right, and_both}
use Rattle.lists.proofs.Alls.{all_append, all_map, all-imp, all_of, all-every}
use Rattle.lists.proofs.Counts.{count-append, count_map, count-congr}
use Rattle.lists.proofs.DoubleCount.{count_none}
use Rattle.packing.specs.Rows.{ascending, Row, member, distinct, holds, together, Packing}
use Rattle.layers.proofs.Each.{row_below}
use Rattle.packing.proofs.Members.{member-cases, ascending-head, ascending-tail}
use Rattle.join.specs.Join.{shifted, copied}

module _ (before : ℕ) where
  -- the node's number after those before
  abbrev up : ℕ → ℕ
  up v = before + v

  eqb-up : (v w : ℕ) → eqb (before + v) (before + w) ≡ eqb v w
  eqb-up v w = go (eqb v w) refl
    where
      go : (t : Bool) → eqb v w ≡ t → eqb (before + v) (before + w) ≡ t
      go true e = let same = eqb-true v w e in eq-eqb (before + v) (before + w) (omega arith)
      go false e = ne_eqb (before + v) (before + w) (λ same. eqb-false v w e (omega arith))

  pub member-up : (v : ℕ) (row : List ℕ) → member (before + v) (map up row) ≡ member v row
  unfolding member
  member-up v [] = refl
  member-up v (w ∷ row) = rw (eqb-up v w, member-up v row)

  holds-up : (row nodes : List ℕ) → holds (map up row) (map up nodes) ≡ holds row nodes
  unfolding holds every
  holds-up row [] = refl
  holds-up row (v ∷ nodes) = rw (member-up v row, holds-up row nodes)

  distinct-up : (nodes : List ℕ) → distinct (map up nodes) ≡ distinct nodes
  unfolding distinct
  distinct-up [] = refl
  distinct-up (v ∷ nodes) = rw (member-up v nodes, distinct-up nodes)

  -- nodes that stand in a shifted row are not below the shift
  pub low-of-member : (v : ℕ) (row : List ℕ) → T (member v (map up row)) → before ≤ v
  unfolding member
  low-of-member v [] m = absurd m
  low-of-member v (w ∷ row) m = go (member-cases v (before + w) (map up row) m) (low-of-member v row)
    where
      go : (v ≡ before + w) ⊎ T (member v (map up row)) → (T (member v (map up row)) → before ≤ v) → before ≤ v
      go (inl e) later = omega arith
      go (inr n) later = later n

  low-of-holds : (row nodes : List ℕ) → T (holds (map up row) nodes) → T (every (λ v. leb before v) nodes)
  unfolding holds every
  low-of-holds row [] h = tt
  low-of-holds row (v ∷ nodes) h =
      let m = and_left (member v (map up row)) (every (λ u. member u (map up row)) nodes) h in
      let rest = and_right (member v (map up row)) (every (λ u. member u (map up row)) nodes) h in
      and_both (leb before v) (every (λ u. leb before u) nodes) (T_true (le-leb before v (low-of-member v row m))) (low-of-holds row nodes rest)

  -- the nodes' own numbers
  down : (nodes : List ℕ) → T (every (λ v. leb before v) nodes) → (own : List ℕ) × (nodes ≡ map up own)
  unfolding every
  down [] h = ([], refl)
  down (v ∷ nodes) h =
      let low = leb→le before v (and_left (leb before v) (every (λ u. leb before u) nodes) h) in
      let (own, e) = down nodes (and_right (leb before v) (every (λ u. leb before u) nodes) h) in
      let same : v ≡ before + (v - before) = omega arith in
      ((v - before) ∷ own, (λ i. same i ∷ e i))

  -- shifted blocks are a packing as the blocks are
  pub shifted-packing : (x bound : ℕ) (blocks : List (List ℕ)) → Packing x bound blocks → Packing x bound (shifted before blocks)
  unfolding shifted together
  shifted-packing x bound blocks p nodes size apart =
      rw (count_map (λ row. holds row nodes) (map up) blocks) (go (every (λ v. leb before v) nodes) refl)
    where
      go : (t : Bool) → every (λ v. leb before v) nodes ≡ t → count (λ row. holds (map up row) nodes) blocks ≤ bound
      go true e =
          let (own, same) = down nodes (T_true e) in
          let few = p own (sym (length-map own up) ∙ ap length (sym same) ∙ size) (subst T (ap distinct same ∙ distinct-up own) apart) in
          let each : count (λ row. holds (map up row) nodes) blocks ≡ count (λ row. holds row own) blocks =
          count-congr _ _ (λ row. ap (holds (map up row)) same ∙ holds-up row own) blocks in
          omega arith
      go false e =
          let none = count_none (λ row. holds (map up row) nodes) blocks (λ row h. subst T e (low-of-holds row nodes h)) in
          omega arith

  -- a row of nodes stays one, where there are nodes enough
  pub ascending-up : (lo : ℕ) (row : List ℕ) → T (ascending lo row) → T (ascending (before + lo) (map up row))
  unfolding ascending
  ascending-up lo [] a = tt
  ascending-up lo (v ∷ row) a =
      let head = ascending-head lo v row a in
      let next : suc (before + v) ≡ before + suc v = omega arith in
      and_both (leb (before + lo) (before + v)) _ (T_true (le-leb (before + lo) (before + v) (omega arith)))
      (rw next (ascending-up (suc v) row (ascending-tail lo v row a)))

  pub all-shifted : (P : List ℕ → Type 0) (blocks : List (List ℕ)) → All (λ row. P (map up row)) blocks → All P (shifted before blocks)
  unfolding shifted
  all-shifted P blocks h = all_map P (map up) blocks h

  -- its nodes are not below the shift
  pub shifted-low : (blocks : List (List ℕ)) → All (All (λ v. before ≤ v)) (shifted before blocks)
  shifted-low blocks =
      all-shifted (All (λ v. before ≤ v)) blocks
      (all_of _ (λ row. all_map (λ v. before ≤ v) up row (all_of _ (λ v. omega arith) row)) blocks)

  -- nor above the pack's nodes
  pub shifted-high : (n : ℕ) (blocks : List (List ℕ)) → All (All (λ v. v < n)) blocks → All (All (λ v. v < before + n)) (shifted before blocks)
  shifted-high n blocks h =
      all-shifted (All (λ v. v < before + n)) blocks (all-imp _ _ (λ row r. all_map (λ v. v < before + n) up row (all-imp _ _ below row r)) blocks h)
    where
      below : (v : ℕ) → v < n → before + v < before + n
      below v lt = omega arith

pub ascending-low : (lo lo' : ℕ) (row : List ℕ) → lo ≤ lo' → T (ascending lo' row) → T (ascending lo row)
unfolding ascending
ascending-low lo lo' [] h a = tt
ascending-low lo lo' (v ∷ row) h a =
    let head = ascending-head lo' v row a in
    and_both (leb lo v) (ascending (suc v) row) (T_true (le-leb lo v (omega arith))) (ascending-tail lo' v row a)

pub shifted_row : (before n r all : ℕ) → before + n ≤ all → (row : List ℕ) → Row n r row → Row all r (map (λ v. before + v) row)
shifted_row before n r all fits row h = (
  length-map row _ ∙ h.0,
  and_both (ascending 0 (map (λ v. before + v) row)) (every (λ v. ltb v all) (map (λ v. before + v) row))
      (ascending-low 0 (before + 0) (map (λ v. before + v) row) (omega arith)
      (ascending-up before 0 row (and_left (ascending 0 row) (every (λ v. ltb v n) row) h.1)))
      (all-every (λ v. ltb v all) (map (λ v. before + v) row)
      (all_map _ (λ v. before + v) row (all-imp _ _ below row (row_below n r row h)))),
)
  where
    below : (v : ℕ) → v < n → T (ltb (before + v) all)
    below v lt = T_true (lt-ltb (before + v) all (omega arith))

-- Copies of a list of blocks.
pub all-copied : (P : List ℕ → Type 0) (copies : ℕ) (blocks : List (List ℕ)) → All P blocks → All P (copied copies blocks)
unfolding copied
all-copied P zero blocks h = tt
all-copied P (suc copies) blocks h = all_append P blocks (copied copies blocks) h (all-copied P copies blocks h)

pub count-copied : (f : List ℕ → Bool) (copies : ℕ) (blocks : List (List ℕ)) → count f (copied copies blocks) ≡ copies * count f blocks
unfolding copied count
count-copied f zero blocks = rw (zero-mul (count f blocks))
count-copied f (suc copies) blocks =
    rw (count-append f blocks (copied copies blocks), count-copied f copies blocks) (omega arith)

pub length-copied : (copies : ℕ) (blocks : List (List ℕ)) → length (copied copies blocks) ≡ copies * length blocks
unfolding copied
length-copied zero blocks = rw (zero-mul (length blocks))
length-copied (suc copies) blocks =
    rw (length-append blocks (copied copies blocks), length-copied copies blocks) (omega arith)
