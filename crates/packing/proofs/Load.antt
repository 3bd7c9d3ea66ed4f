-- How many rows hold each node, from a count of the bytes. Assumes nothing.
use Prim.Native.Nat.{ℕ, suc, ◌+◌, ◌*◌, ◌-◌, ◌≤◌, ◌<◌}
use native.Mathlib.Nat.{sub-zero}
use native.Mathlib.Numerals.{add-one}
use native.Mathlib.Omega.{arith}
use mathlib.Core.Path.{◌≡◌, refl, sym, ap, ◌∙◌}
use mathlib.Core.Bool.{Bool, true, false}
use mathlib.Core.Logic.{◌⊎◌, inl, inr}
use mathlib.Core.List.{List, [], ◌∷◌, flatten}
use lib.Dec.{T, leb, ltb, eqb, leb→le, ltb→lt}
use lib.ListN.{length, get_or, take, drop, set, replicate, get_or-replicate, length-take, get_or-eq_default}
use lib.Seq.{take-suc, take_all, get_or-set_same, get_or-set_other}
use borrow.Author.Tests.{eqb-true, eqb-false, ne_eqb}
use Rattle.lists.specs.Lists.{All, tally, count, every, total}
use Rattle.lists.proofs.Tests.{and_left, and_right}
use Rattle.lists.proofs.Alls.{all-imp, all-flatten, every-all, length-flatten}
use Rattle.lists.proofs.Counts.{tally-add, count-append, count-le-length}
use Rattle.lists.proofs.Arith.{le-or-lt}
use Rattle.lists.proofs.Largest.{largest-le, largest-most}
use Rattle.lists.proofs.Totals.{total-count-eqb}
use Rattle.lists.proofs.UpTo.{length-map-up_to, get_d-map-up_to, map-up_to-congr, take-map-up_to}
use Rattle.packing.specs.Rows.{ascending, is_in_order, Row, rows_at, member}
use Rattle.packing.specs.Load.{load, loads, node_counts, most}
use Rattle.packing.proofs.RowsAt.{flatten-rows_at}

-- a node below all of an ascending row is not in it
count-of-low : (v lo : ℕ) (row : List ℕ) → v < lo → T (ascending lo row) → count (λ w. eqb v w) row ≡ 0
unfolding ascending count
count-of-low v lo [] h t = refl
count-of-low v lo (a ∷ row) h t =
    let le : lo ≤ a = leb→le lo a (and_left (leb lo a) (ascending (suc a) row) t) in
    rw (ne_eqb v a (λ e. omega arith))
    (count-of-low v (suc a) row (omega arith) (and_right (leb lo a) (ascending (suc a) row) t))

-- an ascending row has each of its nodes once
pub count-of-ascending : (v lo : ℕ) (row : List ℕ) → T (ascending lo row) → count (λ w. eqb v w) row ≡ tally (member v row) 0
unfolding ascending count member
count-of-ascending v lo [] t = refl
count-of-ascending v lo (a ∷ row) t =
    go (eqb v a) refl (and_right (leb lo a) (ascending (suc a) row) t)
    (count-of-ascending v (suc a) row (and_right (leb lo a) (ascending (suc a) row) t))
  where
    go : (b : Bool) → eqb v a ≡ b → T (ascending (suc a) row) → count (λ w. eqb v w) row ≡ tally (member v row) 0
        → count (λ w. eqb v w) (a ∷ row) ≡ tally (member v (a ∷ row)) 0
    go true e up ih =
        let same : v ≡ a = eqb-true v a e in
        rw e (ap suc (count-of-low v (suc a) row (omega arith) up))
    go false e up ih = rw e ih

-- in ascending rows the bytes that are v are the rows that hold v
pub count-of-rows : (v : ℕ) (rows : List (List ℕ)) → All (λ row. T (ascending 0 row)) rows
    → count (λ w. eqb v w) (flatten rows) ≡ count (λ row. member v row) rows
unfolding count flatten
count-of-rows v [] h = refl
count-of-rows v (row ∷ rows) h =
    let z : 0 + count (λ l. member v l) rows ≡ count (λ l. member v l) rows = omega arith in
    count-append (λ w. eqb v w) row (flatten rows)
    ∙ rw (count-of-ascending v 0 row h.0, count-of-rows v rows h.1)
    (tally-add (member v row) 0 (count (λ l. member v l) rows) ∙ ap (tally (member v row)) z)

-- element v says how many of the bytes are v
abbrev pub Counts : List ℕ → List ℕ → Type 0
Counts counts bytes = (v : ℕ) → v < 256 → get_or counts v 0 ≡ count (λ w. eqb v w) bytes

pub counts-none : Counts (replicate 256 0) []
unfolding count
counts-none v h = get_or-replicate 256 v 0 0 h

pub counts-next : (counts bytes : List ℕ) (i : ℕ) → Counts counts (take i bytes) → length counts ≡ 256 → i < length bytes
    → get_or bytes i 0 < 256 → Counts (set counts (get_or bytes i 0) (get_or counts (get_or bytes i 0) 0 + 1)) (take (i + 1) bytes)
unfolding count
counts-next counts bytes i cs len h small v lt =
    rw (add-one i, take-suc bytes i 0 h, count-append (λ w. eqb v w) (take i bytes) (get_or bytes i 0 ∷ []), ← cs v lt)
    (go (eqb v (get_or bytes i 0)) refl)
  where
    go : (b : Bool) → eqb v (get_or bytes i 0) ≡ b
        → get_or (set counts (get_or bytes i 0) (get_or counts (get_or bytes i 0) 0 + 1)) v 0
        ≡ get_or counts v 0 + tally (eqb v (get_or bytes i 0)) 0
    go true e =
        let same : v ≡ get_or bytes i 0 = eqb-true v (get_or bytes i 0) e in
        rw (e, same, get_or-set_same counts (get_or bytes i 0) (get_or counts (get_or bytes i 0) 0 + 1) 0 (omega arith))
    go false e =
        rw (e, get_or-set_other counts (get_or bytes i 0) v (get_or counts (get_or bytes i 0) 0 + 1) 0 (eqb-false v (get_or bytes i 0) e))
        (omega arith)

pub counts-le : (counts bytes : List ℕ) (i : ℕ) → Counts counts (take i bytes) → (v : ℕ) → v < 256 → get_or counts v 0 ≤ i
counts-le counts bytes i cs v lt =
    rw (cs v lt) (omega (arith, count-le-length (λ w. eqb v w) (take i bytes), length-take i bytes))

-- rows in order are ascending, and their nodes are below n
pub rows-ascend : (n : ℕ) (rows : List (List ℕ)) → All (λ row. T (is_in_order n row)) rows → All (λ row. T (ascending 0 row)) rows
rows-ascend n rows h =
    all-imp (λ row. T (is_in_order n row)) (λ row. T (ascending 0 row))
    (λ row t. and_left (ascending 0 row) (every (λ w. ltb w n) row) t) rows h

row_below : (n r : ℕ) (row : List ℕ) → Row n r row → All (λ v. v < n) row
row_below n r row h =
    all-imp (λ v. T (ltb v n)) (λ v. v < n) (λ v t. ltb→lt v n t) row
    (every-all (λ v. ltb v n) row (and_right (ascending 0 row) (every (λ v. ltb v n) row) h.1))

-- counts of the bytes of ascending rows are the nodes' counts
pub counts-of-nodes : (rows : List ℕ) (c r : ℕ) (counts : List ℕ) → length counts ≡ 256
    → All (λ row. T (ascending 0 row)) (rows_at r c rows) → Counts counts (take (c * r - 0) (drop 0 rows))
    → counts ≡ node_counts r c rows
unfolding node_counts
counts-of-nodes rows c r counts len up cs =
    sym (take_all 256 counts (omega arith))
    ∙ take-map-up_to (load (rows_at r c rows)) counts 0 256 (omega arith)
    (λ v lt. (rw (sub-zero (c * r), ← flatten-rows_at r c rows) at (cs v lt)) ∙ count-of-rows v (rows_at r c rows) up)

pub length-node_counts : (r c : ℕ) (bytes : List ℕ) → length (node_counts r c bytes) ≡ 256
unfolding node_counts
length-node_counts r c bytes = length-map-up_to (load (rows_at r c bytes)) 256

-- the counts of the first n nodes, in order
pub take-node_counts : (r c n : ℕ) (bytes : List ℕ) → n ≤ 256 → take n (node_counts r c bytes) ≡ loads n (rows_at r c bytes)
unfolding node_counts
take-node_counts r c n bytes h =
    let rows = rows_at r c bytes in
    take-map-up_to (load rows) (loads 256 rows) 0 n (omega (arith, length-map-up_to (load rows) 256))
    (λ v lt. get_d-map-up_to (load rows) 256 v 0 (omega arith))

-- (f) "all n counts add up to b × r": in ascending rows of r nodes below n each of a row's r nodes counts once
pub total-loads : (n r : ℕ) (rows : List (List ℕ)) → All (Row n r) rows → total (loads n rows) ≡ length rows * r
total-loads n r rows h =
    let ordered = all-imp (Row n r) (λ row. T (is_in_order n row)) (λ row g. g.1) rows h in
    let lengths = all-imp (Row n r) (λ row. length row ≡ r) (λ row g. g.0) rows h in
    let below = all-flatten (λ v. v < n) rows (all-imp (Row n r) (All (λ v. v < n)) (row_below n r) rows h) in
    let counted = map-up_to-congr (λ v. count (eqb v) (flatten rows)) (load rows) n
    (λ v lt. count-of-rows v rows (rows-ascend n rows ordered)) in
    ap total (sym counted) ∙ total-count-eqb n (flatten rows) below ∙ length-flatten r rows lengths

-- no row of nodes below n holds node n or a later one
load_past : (n v : ℕ) (rows : List (List ℕ)) → All (λ row. T (is_in_order n row)) rows → n ≤ v → load rows v ≡ 0
unfolding count member
load_past n v [] h le = refl
load_past n v (row ∷ rows) h le =
    rw (not_in row (every-all (λ w. ltb w n) row (and_right (ascending 0 row) (every (λ w. ltb w n) row) h.0)))
    (load_past n v rows h.1 le)
  where
    not_in : (nodes : List ℕ) → All (λ w. T (ltb w n)) nodes → member v nodes ≡ false
    not_in [] g = refl
    not_in (w ∷ nodes) g = rw (ne_eqb v w (λ e. let lt = ltb→lt w n g.0 in omega arith)) (not_in nodes g.1)

-- in rows of nodes below n the largest of the n counts is the largest of all
pub most-all : (n : ℕ) (rows : List (List ℕ)) → All (λ row. T (is_in_order n row)) rows → n ≤ 256 → most 256 rows ≡ most n rows
most-all n rows h le =
    let up_to_lem = largest-most (loads 256 rows) (most n rows) (λ i. up i (le-or-lt 256 i) (le-or-lt n i)) in
    let down_to = largest-most (loads n rows) (most 256 rows) (λ i. down i (le-or-lt n i)) in
    omega arith
  where
    up : (i : ℕ) → (256 ≤ i) ⊎ (i < 256) → (n ≤ i) ⊎ (i < n) → get_or (loads 256 rows) i 0 ≤ most n rows
    up i (inl end) past =
        rw (get_or-eq_default (loads 256 rows) 0 {n = i} (omega (arith, length-map-up_to (load rows) 256))) (omega arith)
    up i (inr lt) (inl past) = rw (get_d-map-up_to (load rows) 256 i 0 lt, load_past n i rows h past) (omega arith)
    up i (inr lt) (inr below) =
        rw (get_d-map-up_to (load rows) 256 i 0 lt, ← get_d-map-up_to (load rows) n i 0 below) (largest-le (loads n rows) i)

    down : (i : ℕ) → (n ≤ i) ⊎ (i < n) → get_or (loads n rows) i 0 ≤ most 256 rows
    down i (inl end) =
        rw (get_or-eq_default (loads n rows) 0 {n = i} (omega (arith, length-map-up_to (load rows) n))) (omega arith)
    down i (inr lt) =
        rw (get_d-map-up_to (load rows) n i 0 lt, ← get_d-map-up_to (load rows) 256 i 0 (omega arith)) (largest-le (loads 256 rows) i)
