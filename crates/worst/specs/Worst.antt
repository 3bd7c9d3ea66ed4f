-- Document 02, (j): "The true worst case for small estates". Assumes nothing.
use Rattle.std.specs.Prelude.{ℕ, zero, suc, ◌*◌, ◌<◌, ◌≡◌, ◌⊎◌, Bool, cond, List, [], ◌∷◌, ◌++◌, leb, ltb}
use Rattle.refusal.specs.declared.Refusal.TheVariants.{ShortOutput, TooManySets}
use Rattle.refusal.specs.Checked.{Checked, accepted, ◌>>=◌, require}
use Rattle.binomial.specs.Choose.{choose}
use Rattle.packing.specs.Rows.{member}
use Rattle.packing.specs.Failures.{usable}
use Rattle.placement.specs.Placement.{Placement, check_placement}
use Rattle.placement.specs.Units.{units, unit_rows}

-- "the fewest usable records and the first such set", of the sets gone through so far; a set is the list of its ascending numbers
pub record Worst : Type 0 where
  pub fewest : ℕ
  pub set : List ℕ

-- after one set more, which leaves `number` records usable: of several with the fewest the first stays
abbrev pub lower : (number : ℕ) (set : List ℕ) → Worst → Worst
lower number set found = cond (ltb number found.fewest) (record { fewest = number; set = set }) found

-- "Go through the sets of k nodes by choosing or leaving each node": to those chosen come j of `nodes`. The next node is first
-- chosen and then left, so that the sets come in "dictionary order of [their] ascending numbers"
unfoldable pub through : (value : List ℕ → ℕ) (chosen : List ℕ) (j : ℕ) (nodes : List ℕ) → Worst → Worst
through value chosen zero nodes found = lower (value chosen) chosen found
through value chosen (suc j) [] found = found
through value chosen (suc j) (v ∷ nodes) found =
    through value chosen (suc j) nodes (through value (chosen ++ (v ∷ [])) j nodes found)

-- the m nodes from v on
unfoldable pub nodes_from : (v m : ℕ) → List ℕ
nodes_from v zero = []
nodes_from v (suc m) = v ∷ nodes_from (suc v) m

-- how many of the rows stay usable when the nodes of the set fail, and no other
abbrev pub usable_without : (s : ℕ) (rows : List (List ℕ)) (set : List ℕ) → ℕ
usable_without s rows set = usable s rows (λ v. member v set)

-- before any set: more than there are records
abbrev pub none_yet : (b : ℕ) → Worst
none_yet b = record { fewest = suc b; set = [] }

-- "the exact number of definition 1 in the paper", and its first set, over all sets of k of n nodes
abbrev pub worst_over : (n s k b : ℕ) (rows : List (List ℕ)) → Worst
worst_over n s k b rows = through (usable_without s rows) [] k (nodes_from 0 n) (none_yet b)

-- of a placement: the sets are of what can fail in it
unfoldable pub worst_of : Placement → Worst
worst_of p = worst_over (units p) p.s p.k p.b (unit_rows p)

-- "C(n,k) × b is above 16,777,216": it is not
abbrev pub few_sets : (n k b : ℕ) → Bool
few_sets n k b = leb (choose n k * b) 16_777_216

-- "It refuses with 17, after the placement is accepted, if C(n,k) × b is above 16,777,216; a shorter output is then 11": "The
-- set is written as k bytes."
unfoldable pub check_worst : (bytes : List ℕ) (output : ℕ) → Checked Worst
check_worst bytes output = do
  p ← check_placement bytes
  _ ← require (few_sets (units p) p.k p.b) TooManySets
  _ ← require (leb p.k output) (ShortOutput p.k)
  accepted (worst_of p)

-- "dictionary order of its ascending numbers": one set comes before another
abbrev pub Before : List ℕ → List ℕ → Type 0
Before [] [] = ⊥
Before [] (w ∷ other) = Unit
Before (v ∷ set) [] = ⊥
Before (v ∷ set) (w ∷ other) = (v < w) ⊎ ((v ≡ w) × Before set other)
