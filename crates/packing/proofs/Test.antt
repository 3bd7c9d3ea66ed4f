-- The tests of refusals 6 and 7 say what document 01 says: no row is found bad exactly where all are in order, none crowded
-- exactly where the rows are a packing, and the row found is the first that holds a crowded set. Assumes nothing.
use Prim.Native.Nat.{ℕ, suc, ◌≤◌, ◌<◌}
use native.Mathlib.Omega.{arith}
use native.Mathlib.Nat.{lt_trans}
use mathlib.Core.Path.{◌≡◌, refl}
use mathlib.Core.Logic.{◌↔◌}
use mathlib.Core.Bool.{Bool, true, false, not}
use mathlib.Core.List.{List, []}
use mathlib.Core.Option.{none, some}
use lib.ListN.{length, get_or}
use lib.Dec.{T, leb, ltb, leb→le, nleb→lt, ltb→lt, lt→ltb}
use borrow.Author.Tests.{not-false}
use Rattle.lists.specs.Lists.{All}
use Rattle.lists.proofs.Tests.{T_true, true-T, false-T, T_not, T-not-false}
use Rattle.lists.proofs.Alls.{all-imp, all_get_d}
use Rattle.lists.proofs.Finds.{first_where-none, none-first_where, some-first_where}
use Rattle.packing.specs.Rows.{is_in_order, Row, distinct, holds, together, Packing, subsets, SetIn, CrowdedSet, crowded, first_crowded, first_bad}
use Rattle.lists.proofs.Listed.{all-mem, any-mem, Passing, passing-any, passing-count, first_where-some}
use Rattle.packing.proofs.Members.{row-distinct, rows-distinct}
use Rattle.packing.proofs.Sets.{subsets-in, listed-set, together-same}

module _ (x bound : ℕ) (rows : List (List ℕ)) where
  -- a row that holds a crowded set is found crowded, whatever its order
  pub crowded-of-set : (row : List ℕ) → CrowdedSet x bound rows row → T (crowded x bound rows row)
  unfolding crowded
  crowded-of-set row c =
      let l = listed-set (suc x) row c.nodes c.inside in
      let e = together-same rows l.set c.nodes l.same in
      let h = c.crowds in
      any-mem (λ nodes. ltb bound (together rows nodes)) l.listed (lt→ltb bound (together rows l.set) (omega arith))

  -- a distinct row that is found crowded holds a crowded set
  pub set-of-crowded : (row : List ℕ) → T (distinct row) → T (crowded x bound rows row) → CrowdedSet x bound rows row
  unfolding crowded
  set-of-crowded row d t =
      let p = passing-any (λ nodes. ltb bound (together rows nodes)) (subsets (suc x) row) t in
      record {
        nodes = p.element;
        inside = all-mem (SetIn (suc x) row) (subsets-in (suc x) row d) p.listed;
        crowds = ltb→lt bound (together rows p.element) p.passes;
      }

  -- a set that stands in more than `bound` rows is a crowded set of one of them
  crowded-row : (nodes : List ℕ) → length nodes ≡ suc x → T (distinct nodes) → bound < together rows nodes → Passing (crowded x bound rows) rows
  unfolding together
  crowded-row nodes s d h =
      let p = passing-count (λ row. holds row nodes) rows (omega arith) in
      record {
        element = p.element;
        listed = p.listed;
        passes = crowded-of-set p.element (record { nodes = nodes; inside = record { size = s; apart = d; held = p.passes }; crowds = h });
      }

  -- no row is found crowded: the rows are a packing, whatever their order
  pub uncrowded-packing : first_crowded x bound rows ≡ none → Packing x bound rows
  unfolding first_crowded
  uncrowded-packing e nodes s d = go (leb (together rows nodes) bound) refl
    where
      quiet : All (λ row. crowded x bound rows row ≡ false) rows
      quiet = none-first_where (crowded x bound rows) rows e

      go : (b : Bool) → leb (together rows nodes) bound ≡ b → together rows nodes ≤ bound
      go true p = leb→le (together rows nodes) bound (T_true p)
      go false p =
          let c = crowded-row nodes s d (nleb→lt (together rows nodes) bound (rw p tt)) in
          absurd (false-T (all-mem (λ row. crowded x bound rows row ≡ false) quiet c.listed) c.passes)

  -- no row holds a crowded set of a packing
  pub packing-no-set : (row : List ℕ) → Packing x bound rows → CrowdedSet x bound rows row → ⊥
  packing-no-set row h c =
      let g = h c.nodes c.inside.size c.inside.apart in
      let k = c.crowds in
      omega arith

  -- so none is found crowded, where no row has a node twice
  pub packing-uncrowded-distinct : Packing x bound rows → All (λ row. T (distinct row)) rows → first_crowded x bound rows ≡ none
  unfolding first_crowded
  packing-uncrowded-distinct h d =
      first_where-none (crowded x bound rows) rows
      (all-imp (λ row. T (distinct row)) (λ row. crowded x bound rows row ≡ false)
      (λ row e. T-not-false (crowded x bound rows row) (λ t. packing-no-set row h (set-of-crowded row e t))) rows d)

  pub packing-uncrowded : (n r : ℕ) → Packing x bound rows → All (Row n r) rows → first_crowded x bound rows ≡ none
  packing-uncrowded n r h d = packing-uncrowded-distinct h (rows-distinct n r rows d)

  -- "In layer x every set of x+1 nodes stands in at most mu rows" is what the test says
  pub packing-iff-uncrowded : (n r : ℕ) → All (Row n r) rows → (first_crowded x bound rows ≡ none) ↔ Packing x bound rows
  packing-iff-uncrowded n r d = (uncrowded-packing, λ h. packing-uncrowded n r h d)

  -- "the first row .. that holds such a set"
  pub record FirstCrowded (i : ℕ) : Type 0 where
    pub within : i < length rows
    pub crowding : CrowdedSet x bound rows (get_or rows i [])
    pub first : (j : ℕ) → j < i → CrowdedSet x bound rows (get_or rows j []) → ⊥

  pub first-crowded-meaning : (n r i : ℕ) → All (Row n r) rows → (first_crowded x bound rows ≡ some i) ↔ FirstCrowded i
  unfolding first_crowded
  first-crowded-meaning n r i d = (found, finds)
    where
      apart : (j : ℕ) → j < length rows → T (distinct (get_or rows j []))
      apart j lt = row-distinct n r (get_or rows j []) (all_get_d (Row n r) rows j [] d lt)

      found : first_crowded x bound rows ≡ some i → FirstCrowded i
      found e =
          let h = some-first_where (crowded x bound rows) rows [] i e in
          record {
            within = h.within;
            crowding = set-of-crowded (get_or rows i []) (apart i h.within) (T_true h.passes);
            first = λ j lt c. false-T (h.first j lt) (crowded-of-set (get_or rows j []) c);
          }

      quiet : FirstCrowded i → (j : ℕ) → j < i → crowded x bound rows (get_or rows j []) ≡ false
      quiet h j lt =
          T-not-false _ (λ t. h.first j lt (set-of-crowded (get_or rows j []) (apart j (lt_trans lt h.within)) t))

      finds : FirstCrowded i → first_crowded x bound rows ≡ some i
      finds h =
          let passed = true-T _ (crowded-of-set (get_or rows i []) h.crowding) in
          first_where-some (crowded x bound rows) rows [] i (record { within = h.within; passes = passed; first = quiet h })

-- "strictly ascending, all below n": no row is found bad exactly where each is
pub good-iff-in-order : (n : ℕ) (rows : List (List ℕ)) → (first_bad n rows ≡ none) ↔ All (λ row. T (is_in_order n row)) rows
unfolding first_bad
good-iff-in-order n rows = (good, in_order)
  where
    good : first_bad n rows ≡ none → All (λ row. T (is_in_order n row)) rows
    good e =
        all-imp (λ row. not (is_in_order n row) ≡ false) (λ row. T (is_in_order n row)) (λ row e. T_true (not-false (is_in_order n row) e)) rows
        (none-first_where (λ row. not (is_in_order n row)) rows e)

    in_order : All (λ row. T (is_in_order n row)) rows → first_bad n rows ≡ none
    in_order h =
        first_where-none (λ row. not (is_in_order n row)) rows
        (all-imp (λ row. T (is_in_order n row)) (λ row. not (is_in_order n row) ≡ false) (λ row. T_not (is_in_order n row)) rows h)
