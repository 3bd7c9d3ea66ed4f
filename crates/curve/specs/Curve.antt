-- Document 02, (c): "A figure for every number of failures". Assumes nothing.
use Rattle.std.specs.Prelude.{ℕ, ◌+◌, ◌-◌, List, map, leb}
use Rattle.lists.specs.Lists.{up_to}
use Rattle.refusal.specs.declared.Refusal.TheVariants.{ShortOutput}
use Rattle.refusal.specs.Checked.{Checked, accepted, ◌>>=◌, require}
use Rattle.placement.specs.Placement.{Placement, check_placement}
use Rattle.placement.specs.Units.{units, figure_at}

-- "n - s 16-bit numbers": one for each k' from s to n-1; (n) "For kind 6 the curve ends at g-1 and has g - s numbers"
abbrev pub curve_length : Placement → ℕ
curve_length p = units p - p.s

-- "the figure for each k' from s to n-1 .. lowest k' first"
unfoldable pub curve_of : Placement → List ℕ
curve_of p = map (λ i. figure_at p (p.s + i)) (up_to (curve_length p))

-- "gives the checker's refusals first; a shorter output is then refusal 11, its place the entries needed"
unfoldable pub check_curve : (bytes : List ℕ) (output : ℕ) → Checked (List ℕ)
check_curve bytes output = do
  p ← check_placement bytes
  _ ← require (leb (curve_length p) output) (ShortOutput (curve_length p))
  accepted (curve_of p)
