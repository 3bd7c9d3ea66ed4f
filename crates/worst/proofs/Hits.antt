-- Each record's replicas on failed nodes, as nodes are chosen and left. Assumes nothing.
use Prim.Native.Nat.{ℕ, zero, suc, ◌+◌, ◌-◌, ◌≤◌, ◌<◌}
use native.Mathlib.Omega.{arith}
use mathlib.Core.Path.{◌≡◌, refl, sym, ◌∙◌}
use mathlib.Core.Logic.{⊎_elim}
use mathlib.Core.Bool.{Bool, true, false}
use mathlib.Core.List.{List, [], ◌∷◌, ◌++◌}
use lib.ListN.{length, get_or, set, length-set}
use lib.Seq.{get_or-set_same, get_or-set_other}
use lib.Dec.{ltb, eqb}
use borrow.Author.Tests.{lt-ltb, le-ltb, eq-eqb, ne_eqb, eqb-true, eqb-false}
use Rattle.lists.specs.Lists.{tally, count}
use Rattle.lists.proofs.Arith.{le-or-lt}
use Rattle.lists.proofs.CountUpTo.{count-up_to-congr, count-get_d}
use Rattle.worst.specs.Records.{among, begin, size, entries_of, on_node, on_set, usable_by, Index, HitsOf, few, raised_to, lowered_to, lost_to}
use Rattle.worst.specs.Searches.{Named}
use Rattle.worst.specs.declared.Entries.{Entries}
use Rattle.worst.proofs.Among.{among-mono, among-some}

-- one element changed
pub count_set : (f : ℕ → Bool) (l : List ℕ) (i h : ℕ) → i < length l
    → count f (set l i h) + tally (f (get_or l i 0)) 0 ≡ count f l + tally (f h) 0
unfolding count
count_set f [] i h lt = absurd (omega arith)
count_set f (a ∷ l) zero h lt = go (f a) (f h)
  where
    go : (p q : Bool) → tally q (count f l) + tally p 0 ≡ tally p (count f l) + tally q 0
    go true true = omega arith
    go true false = omega arith
    go false true = omega arith
    go false false = omega arith
count_set f (a ∷ l) (suc i) h lt = go (f a) (count_set f l i h (omega arith))
  where
    go : (p : Bool) → count f (set l i h) + tally (f (get_or l i 0)) 0 ≡ count f l + tally (f h) 0
        → tally p (count f (set l i h)) + tally (f (get_or l i 0)) 0 ≡ tally p (count f l) + tally (f h) 0
    go true e = omega arith
    go false e = e

-- a record is below s before one replica more unless it is so after it or just reaches s
pub threshold : (h s : ℕ) → tally (ltb h s) 0 ≡ tally (ltb (h + 1) s) 0 + tally (eqb (h + 1) s) 0
threshold h s =
    ⊎_elim
    (λ few. ⊎_elim
    (λ less. rw (lt-ltb h s (omega arith), lt-ltb (h + 1) s (omega arith), ne_eqb (h + 1) s (λ e. omega arith)) refl)
    (λ same. rw (lt-ltb h s (omega arith), le-ltb (h + 1) s (omega arith), eq-eqb (h + 1) s (omega arith)) refl)
    (le-or-lt (h + 2) s))
    (λ many. rw (le-ltb h s (omega arith), le-ltb (h + 1) s (omega arith), ne_eqb (h + 1) s (λ e. omega arith)) refl)
    (le-or-lt (h + 1) s)

-- so one record raised by one replica
module _ (s : ℕ) (hits : List ℕ) (i : ℕ) (lt : i < length hits) where
  few-raised : few s (set hits i (get_or hits i 0 + 1)) + tally (eqb (get_or hits i 0 + 1) s) 0 ≡ few s hits
  few-raised =
      omega (arith, count_set (λ h. ltb h s) hits i (get_or hits i 0 + 1) lt, threshold (get_or hits i 0) s)

  pub reached-le : tally (eqb (get_or hits i 0 + 1) s) 0 ≤ few s hits
  reached-le = omega (arith, few-raised)

  pub few-after : {left reached : ℕ} → left ≡ few s hits → reached ≡ tally (eqb (get_or hits i 0 + 1) s) 0
      → left - reached ≡ few s (set hits i (get_or hits i 0 + 1))
  few-after e r = omega (arith, few-raised)

-- an entry counts among those that are the same
pub among-itself : (index : List ℕ) (from m : ℕ) → let i = get_or index (from + m) 0 in
    among (eqb i) index from (suc m) ≡ suc (among (eqb i) index from m)
unfolding among
among-itself index from m = rw (eq-eqb (get_or index (from + m) 0) (get_or index (from + m) 0) refl) refl

-- entries that are records
abbrev pub Inside : (index : List ℕ) (from m b : ℕ) → Type 0
Inside index from m b = (q : ℕ) → q < m → get_or index (from + q) 0 < b

module _ (index hits : List ℕ) (from : ℕ) where
  pub length-raised : (m : ℕ) → length (raised_to index hits from m) ≡ length hits
  unfolding raised_to
  length-raised zero = refl
  length-raised (suc m) = simp length-set (length-raised m)

  pub length-lowered : (m : ℕ) → length (lowered_to index hits from m) ≡ length hits
  unfolding lowered_to
  length-lowered zero = refl
  length-lowered (suc m) = simp length-set (length-lowered m)

  -- each record is raised once for each entry that is the record
  pub get_d-raised : (m : ℕ) → Inside index from m (length hits)
      → (i : ℕ) → get_or (raised_to index hits from m) i 0 ≡ get_or hits i 0 + among (eqb i) index from m
  unfolding raised_to among
  get_d-raised zero inside i = omega arith
  get_d-raised (suc m) inside i =
      go (eqb i (get_or index (from + m) 0)) refl (get_d-raised m (λ q lt. inside q (omega arith)) i)
    where
      go : (t : Bool) → eqb i (get_or index (from + m) 0) ≡ t
          → get_or (raised_to index hits from m) i 0 ≡ get_or hits i 0 + among (eqb i) index from m
          → get_or (set (raised_to index hits from m) (get_or index (from + m) 0) (get_or (raised_to index hits from m) (get_or index (from + m) 0) 0 + 1)) i 0
          ≡ get_or hits i 0 + tally t (among (eqb i) index from m)
      go true e ih =
          let same : get_or index (from + m) 0 ≡ i = sym (eqb-true i (get_or index (from + m) 0) e) in
          let lt : i < length (raised_to index hits from m) = omega (arith, inside m (omega arith), length-raised m) in
          rw same (get_or-set_same (raised_to index hits from m) i (get_or (raised_to index hits from m) i 0 + 1) 0 lt ∙ omega arith)
      go false e ih =
          get_or-set_other (raised_to index hits from m) (get_or index (from + m) 0) i _ 0 (eqb-false i (get_or index (from + m) 0) e) ∙ ih

  -- and lowered
  pub get_d-lowered : (m : ℕ) → Inside index from m (length hits)
      → (i : ℕ) → among (eqb i) index from m ≤ get_or hits i 0
      → get_or (lowered_to index hits from m) i 0 + among (eqb i) index from m ≡ get_or hits i 0
  unfolding lowered_to among
  get_d-lowered zero inside i h = omega arith
  get_d-lowered (suc m) inside i h =
      go (eqb i (get_or index (from + m) 0)) refl h (get_d-lowered m (λ q lt. inside q (omega arith)) i)
    where
      go : (t : Bool) → eqb i (get_or index (from + m) 0) ≡ t → tally t (among (eqb i) index from m) ≤ get_or hits i 0
          → (among (eqb i) index from m ≤ get_or hits i 0
          → get_or (lowered_to index hits from m) i 0 + among (eqb i) index from m ≡ get_or hits i 0)
          → get_or (set (lowered_to index hits from m) (get_or index (from + m) 0) (get_or (lowered_to index hits from m) (get_or index (from + m) 0) 0 - 1)) i 0
          + tally t (among (eqb i) index from m)
          ≡ get_or hits i 0
      go true e h ih =
          let same : get_or index (from + m) 0 ≡ i = sym (eqb-true i (get_or index (from + m) 0) e) in
          let lt : i < length (lowered_to index hits from m) = omega (arith, inside m (omega arith), length-lowered m) in
          let less = ih (omega arith) in
          rw (same, get_or-set_same (lowered_to index hits from m) i (get_or (lowered_to index hits from m) i 0 - 1) 0 lt) (omega arith)
      go false e h ih =
          rw (get_or-set_other (lowered_to index hits from m) (get_or index (from + m) 0) i (get_or (lowered_to index hits from m) (get_or index (from + m) 0) 0 - 1) 0 (eqb-false i (get_or index (from + m) 0) e))
          (ih h)

  -- where no record comes twice, those that reach s are the entries that are one below it
  pub few-lost : (s m : ℕ) → Inside index from m (length hits) → ((i : ℕ) → among (eqb i) index from m ≤ 1)
      → few s (raised_to index hits from m) + lost_to s index hits from m ≡ few s hits
  unfolding raised_to lost_to
  few-lost s zero inside once = omega arith
  few-lost s (suc m) inside once =
      let i = get_or index (from + m) 0 in
      let before = raised_to index hits from m in
      let fresh : among (eqb i) index from m ≡ 0 = omega (arith, once i, among-itself index from m) in
      let as_before : get_or before i 0 ≡ get_or hits i 0 =
      get_d-raised m (λ q lt. inside q (omega arith)) i ∙ omega arith in
      let lt : i < length before = omega (arith, inside m (omega arith), length-raised m) in
      let one = few-raised s before i lt in
      let rest = few-lost s m (λ q less. inside q (omega arith)) (λ j. omega (arith, once j, among-mono (eqb j) index from m (suc m) (omega arith))) in
      let split = tally-zero (eqb (get_or hits i 0 + 1) s) (lost_to s index hits from m) in
      let same : tally (eqb (get_or before i 0 + 1) s) 0 ≡ tally (eqb (get_or hits i 0 + 1) s) 0 = rw as_before refl in
      omega arith
    where
      tally-zero : (t : Bool) (n : ℕ) → tally t n ≡ tally t 0 + n
      tally-zero true n = omega arith
      tally-zero false n = omega arith

-- on a set and one node more
pub on_set-snoc : (index nodes : List ℕ) (v i : ℕ) → on_set index (nodes ++ (v ∷ [])) i ≡ on_set index nodes i + on_node index v i
unfolding on_set
on_set-snoc index [] v i = omega arith
on_set-snoc index (w ∷ nodes) v i = rw (on_set-snoc index nodes v i) (omega arith)

-- the records below s by their hits, and by the index
pub few-hits : (index nodes : List ℕ) (s : ℕ) (hits : List ℕ) → HitsOf index nodes (length hits) hits
    → few s hits ≡ usable_by index s (length hits) nodes
few-hits index nodes s hits h =
    count-get_d (λ a. ltb a s) 0 hits
    ∙ count-up_to-congr (λ i. ltb (get_or hits i 0) s) (λ i. ltb (on_set index nodes i) s) (length hits) (λ i lt. rw (h i lt) refl)

-- the records on a node
module _ {index : List ℕ} {b : ℕ} (is : Index index b) (v : ℕ) (node : v < 256) where
  pub entries-inside : Inside index (begin index v) (size index v) b
  entries-inside q lt =
      ⊎_elim (λ h. absurd (none h)) (λ h. h) (le-or-lt b (get_or index (begin index v + q) 0))
    where
      none : b ≤ get_or index (begin index v + q) 0 → ⊥
      none h =
          omega (
            arith,
            is.records v (get_or index (begin index v + q) 0) node h,
            among-some (eqb (get_or index (begin index v + q) 0)) index (begin index v) q (size index v) lt
                (eq-eqb (get_or index (begin index v + q) 0) (get_or index (begin index v + q) 0) refl),
          )

pub node-entries : {index hits : List ℕ} → Index index (length hits) → (v : ℕ) → v < 256 → {entries : Entries} → entries ≡ entries_of index v
    → Named index hits entries
node-entries is v node e =
    rw e (record { inside = omega (arith, is.ordered v node, is.inside v node); records = entries-inside is v node })

module _ {index : List ℕ} (hits nodes : List ℕ) (is : Index index (length hits)) (v : ℕ) (node : v < 256) where
  -- choosing the node
  pub hits-raised : HitsOf index nodes (length hits) hits → HitsOf index (nodes ++ (v ∷ [])) (length hits) (raised_to index hits (begin index v) (size index v))
  hits-raised h i lt =
      get_d-raised index hits (begin index v) (size index v) (entries-inside is v node) i
      ∙ rw (on_set-snoc index nodes v i, h i lt) refl

  -- leaving it again
  pub hits-lowered : HitsOf index (nodes ++ (v ∷ [])) (length hits) hits → HitsOf index nodes (length hits) (lowered_to index hits (begin index v) (size index v))
  hits-lowered h i lt =
      let now = h i lt ∙ on_set-snoc index nodes v i in
      omega (arith, get_d-lowered index hits (begin index v) (size index v) (entries-inside is v node) i (omega arith))

  -- choosing it as the last one
  pub usable-lost : (s : ℕ) → HitsOf index nodes (length hits) hits
      → usable_by index s (length hits) (nodes ++ (v ∷ [])) + lost_to s index hits (begin index v) (size index v) ≡ usable_by index s (length hits) nodes
  usable-lost s h =
      let after = raised_to index hits (begin index v) (size index v) in
      let same = length-raised index hits (begin index v) (size index v) in
      let now : few s after ≡ usable_by index s (length hits) (nodes ++ (v ∷ [])) =
      few-hits index (nodes ++ (v ∷ [])) s after (rw same (hits-raised h)) ∙ rw same refl in
      omega (
        arith,
        few-hits index nodes s hits h,
        few-lost index hits (begin index v) s (size index v) (entries-inside is v node) (λ i. is.once v i node),
      )
