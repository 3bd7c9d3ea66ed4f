-- From the search with an index to the true worst case of the rows. Assumes nothing.
use Prim.Native.Nat.{ℕ, zero, suc, ◌+◌, ◌-◌, ◌≤◌, ◌<◌}
use native.Mathlib.Omega.{arith}
use native.Mathlib.Nat.{le_of_eq, sub-zero}
use native.Mathlib.Numerals.{add-one}
use mathlib.Core.Path.{◌≡◌, refl, sym, ◌∙◌, ap}
use mathlib.Core.Logic.{inl, inr}
use mathlib.Core.Bool.{Bool, true, false, not, ◌||◌}
use mathlib.Core.List.{List, [], ◌∷◌, ◌++◌, append_assoc, append-nil}
use lib.ListN.{length, get_or, take, drop, replicate, take-append-drop, length-replicate}
use lib.Seq.{length-take-le}
use lib.Dec.{T, eqb, ltb}
use borrow.Author.Tests.{eqb-true, eqb-false, eq-eqb, ne_eqb, lt-ltb}
use Rattle.lists.specs.Lists.{All, tally, count, up_to, over_start}
use Rattle.lists.proofs.Alls.{all-imp}
use Rattle.lists.proofs.Counts.{count-not}
use Rattle.lists.proofs.CountUpTo.{count-get_d, count-up_to-congr}
use Rattle.lists.proofs.DoubleCount.{count_none}
use Rattle.lists.proofs.Parts.{get_d-zeros}
use Rattle.lists.proofs.Tests.{T-not-false, false-T}
use Rattle.lists.proofs.UpTo.{length-up_to}
use Rattle.packing.specs.Rows.{member, distinct, rows_at}
use Rattle.packing.specs.Failures.{hits, usable}
use Rattle.packing.proofs.Members.{distinct_head, distinct_tail, ascending-distinct}
use Rattle.packing.proofs.RowsAt.{length-rows_at}
use Rattle.worst.specs.declared.Shape.{Shape}
use Rattle.placement.specs.declared.Order.{Order}
use Rattle.worst.specs.Worst.{Worst, lower, through, nodes_from, usable_without}
use Rattle.worst.specs.Records.{on_set, usable_by, IndexOf}
use Rattle.worst.specs.Searches.{Searching, Searched}
use Rattle.worst.specs.Asked.{RowsAsked, RowsDone, worst_rows}
use Rattle.worst.specs.declared.Search.{Search}
use Rattle.worst.proofs.Through.{at, through-start}
use Rattle.worst.proofs.Sets.{Within, within-ascending, within-below}
use Rattle.worst.proofs.Exact.{fewest-le}
use Rattle.worst.proofs.Index.{index-apart}

-- a row's nodes that are v or in the set, v not being in it
count-or : (v : ℕ) (nodes row : List ℕ) → member v nodes ≡ false
    → count (λ u. member u (v ∷ nodes)) row ≡ count (eqb v) row + count (λ u. member u nodes) row
unfolding count member
count-or v nodes [] absent = refl
count-or v nodes (u ∷ row) absent = go (eqb v u) refl (count-or v nodes row absent)
  where
    go : (t : Bool) → eqb v u ≡ t
        → count (λ u. eqb u v || member u nodes) row ≡ count (eqb v) row + count (λ u. member u nodes) row
        → tally (eqb u v || member u nodes) (count (λ u. eqb u v || member u nodes) row)
        ≡ tally t (count (eqb v) row) + tally (member u nodes) (count (λ u. member u nodes) row)
    go true e ih =
        let same : u ≡ v = sym (eqb-true v u e) in
        rw (same, eq-eqb v v refl, absent, ih) (omega arith)
    go false e ih =
        rw (ne_eqb u v (λ p. eqb-false v u e (sym p)), ih) (one (member u nodes) (count (eqb v) row) (count (λ u. member u nodes) row))
      where
        one : (t : Bool) (a b : ℕ) → tally t (a + b) ≡ a + tally t b
        one true a b = omega arith
        one false a b = refl

module _ {rows : List (List ℕ)} {index : List ℕ} (is : IndexOf rows index) where
  -- replicas on the nodes of a set, by the index and in the row
  on_set-count : (nodes : List ℕ) → T (distinct nodes) → All (λ v. v < 256) nodes
      → (i : ℕ) → on_set index nodes i ≡ count (λ u. member u nodes) (get_or rows i [])
  unfolding on_set member
  on_set-count [] d h i = sym (count_none (λ u. false) (get_or rows i []) (λ u t. t))
  on_set-count (v ∷ nodes) d h i =
      rw (is.on-node v i h.0, on_set-count nodes (distinct_tail v nodes d) h.1 i)
      (sym (count-or v nodes (get_or rows i []) (T-not-false (member v nodes) (distinct_head v nodes d))))

  -- so the usable records by the index are those of the rows
  usable_same : (s : ℕ) (nodes : List ℕ) → T (distinct nodes) → All (λ v. v < 256) nodes
      → usable_by index s (length rows) nodes ≡ usable_without s rows nodes
  unfolding usable
  usable_same s nodes d h =
      count-up_to-congr (λ i. ltb (on_set index nodes i) s) (λ i. ltb (hits (λ u. member u nodes) (get_or rows i [])) s) (length rows)
      (λ i lt. ap (λ n. ltb n s) (on_set-count nodes d h i))
      ∙ sym (count-get_d (λ row. ltb (hits (λ u. member u nodes) row) s) [] rows)

-- values that agree on every set gone through give the same
pub through-congr : (value other : List ℕ → ℕ) (chosen : List ℕ) (j : ℕ) (nodes : List ℕ) (found : Worst)
    → ((set : List ℕ) → Within nodes set → value (chosen ++ set) ≡ other (chosen ++ set))
    → through value chosen j nodes found ≡ through other chosen j nodes found
unfolding through
through-congr value other chosen zero nodes found h =
    ap (λ number. lower number chosen found) (rw (append-nil chosen) at (h [] tt))
through-congr value other chosen (suc j) [] found h = refl
through-congr value other chosen (suc j) (v ∷ nodes) found h =
    let later : (set : List ℕ) → Within nodes set → value (chosen ++ set) ≡ other (chosen ++ set) = λ set w. h set (left_in v nodes set w) in
    through-congr value other chosen (suc j) nodes (through value (chosen ++ (v ∷ [])) j nodes found) later
    ∙ ap (through other chosen (suc j) nodes)
    (through-congr value other (chosen ++ (v ∷ [])) j nodes found
    (λ set w. ap value (append_assoc chosen (v ∷ []) set) ∙ h (v ∷ set) (inl (refl, w)) ∙ ap other (sym (append_assoc chosen (v ∷ []) set))))
  where
    left_in : (v : ℕ) (nodes set : List ℕ) → Within nodes set → Within (v ∷ nodes) set
    left_in v nodes [] w = tt
    left_in v nodes (u ∷ set) w = inr w

-- the first of many zeros
first-zeros : (b n : ℕ) → b ≤ n → take b (replicate {A = ℕ} n 0) ≡ replicate b 0
first-zeros zero n h = refl
first-zeros (suc b) zero h = absurd (omega arith)
first-zeros (suc b) (suc n) h = ap (λ l. 0 ∷ l) (first-zeros b n (omega arith))

pub zeros-part : (b n : ℕ) → b ≤ n → take (b - 0) (replicate {A = ℕ} n 0) ≡ replicate b 0
zeros-part b n h = ap (λ m. take m (replicate {A = ℕ} n 0)) (sub-zero b) ∙ first-zeros b n h

-- the search of rows from the first node on
abbrev pub first_search : (shape : Shape) (order : Order) → Search
first_search shape order =
    record {
      n = shape.n;
      k = order.k;
      s = order.s;
      next = record { 0 = 0 };
      chosen = 0;
      usable = order.b;
      least = order.b + 1;
    }

module _ {shape : Shape} {order : Order} {rows : List ℕ} (pre : RowsAsked shape order rows) {index : List ℕ}
    (is : IndexOf (rows_at shape.r order.b rows) index) where
  abbrev all : List (List ℕ)
  all = rows_at shape.r order.b rows

  same-b : length (rows_at shape.r order.b rows) ≡ order.b
  same-b = length-rows_at shape.r order.b rows

  -- all records are usable before a node fails
  all-usable : order.b ≡ usable_by index order.s order.b []
  unfolding on_set
  all-usable =
      let yes : ltb 0 order.s ≡ true = lt-ltb 0 order.s pre.s-least in
      sym
      (omega (
        arith,
        count-not (λ i. ltb 0 order.s) (up_to order.b),
        count_none (λ i. not (ltb 0 order.s)) (up_to order.b) (λ i t. false-T (ap not yes) t),
        length-up_to order.b,
      ))

  pub to_start : {hits set out : List ℕ} → hits ≡ replicate order.b 0 → order.k ≤ length set → order.k ≤ length out
      → Searching (first_search shape order) index hits set out
  unfolding on_set
  to_start {hits} {set} {out} e set_room out-room =
      let long : length hits ≡ order.b = ap length e ∙ length-replicate order.b 0 in
      record {
        is-index = rw (long, ← same-b) (index-apart is pre.apart);
        below = omega (arith, pre.k-least, pre.k-most);
        n-most = pre.n-most;
        more = pre.k-least;
        enough = omega (arith, pre.k-most);
        k-most = omega (arith, pre.k-most, pre.n-most);
        set_room = set_room;
        out-room = out-room;
        counted = λ i lt. ap (λ l. get_or l i 0) e ∙ get_d-zeros order.b i;
        hits-most = λ i. omega arith;
        usable-is = rw long all-usable;
      }

  -- sets of nodes from 0 on
  values_same : (set : List ℕ) → Within (nodes_from 0 shape.n) set
      → usable_by index order.s order.b ([] ++ set) ≡ usable_without order.s (rows_at shape.r order.b rows) ([] ++ set)
  values_same set w =
      ap (λ c. usable_by index order.s c set) (sym same-b)
      ∙ usable_same is order.s set (ascending-distinct 0 set (within-ascending shape.n 0 set w))
      (all-imp (λ v. v < 0 + shape.n) (λ v. v < 256) (λ v lt. omega (arith, pre.n-most)) set (within-below shape.n 0 set w))

  pub searched-rows : {hits set out hits' set' out' : List ℕ} {least : ℕ} → length hits ≡ order.b → length out' ≡ length out
      → order.k ≤ length out → Searched (first_search shape order) index hits set out hits' set' out' least
      → RowsDone shape order rows out out' least
  searched-rows {hits} {set} {out} {hits'} {set'} {out'} {least} long same room l =
      let n = shape.n in
      let k = order.k in
      let b = order.b in
      let value = usable_without order.s all in
      let found : through value [] k (nodes_from 0 n) (at (suc b) (take k out)) ≡ at least (take k out') =
      sym (through-congr (usable_by index order.s b) value [] k (nodes_from 0 n) (at (suc b) (take k out)) values_same)
      ∙ (rw (long, sub-zero k, sub-zero n, add-one b) at l.found) in
      let start = through-start value [] k (nodes_from 0 n) (suc b) [] (take k out)
      (omega (arith, fewest-le n order.s k b all pre.k-most (le_of_eq same-b))) in
      let worst : worst_rows shape order rows ≡ at least (take k out') = start ∙ found in
      let written : length (take k out') ≡ k = length-take-le k out' (omega arith) in
      record {
        number_is = sym (ap (λ (w : Worst). w.fewest) worst);
        output-after =
            sym (take-append-drop k out') ∙ ap (λ rest. take k out' ++ rest) l.rest
            ∙ ap (λ m. take k out' ++ drop m out) (sym written)
            ∙ ap (λ (w : Worst). over_start w.set out) (sym worst);
      }
