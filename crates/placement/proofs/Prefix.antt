-- A placement's check is the same for a long enough beginning of the bytes, such as a program's buffer. Assumes nothing.
use Prim.Native.Nat.{ℕ, ◌+◌, ◌*◌, ◌-◌, ◌≤◌, ◌<◌}
use native.Mathlib.Omega.{arith}
use native.Mathlib.Nat.{mul-le-mul}
use mathlib.Core.Path.{◌≡◌, refl, ap}
use mathlib.Core.List.{List}
use lib.ListN.{length, take}
use lib.Seq.{length-take-le}
use borrow.Author.Tests.{le-leb, lt-leb}
use Rattle.refusal.specs.Checked.{map_accepted}
use Rattle.refusal.proofs.Checked.{bind_congr}
use Rattle.lists.proofs.Prefixes.{take-elim}
use Rattle.layers.specs.declared.FileKind.TheVariants.{Placement as PlacementKind}
use Rattle.layers.specs.Layers.{Site, sizes, check_length, check_end}
use Rattle.layers.specs.declared.LayerHead.{LayerHead}
use Rattle.layers.proofs.NumbersRead.{reads-next}
use Rattle.layers.proofs.Heads.{held-of-read_base}
use Rattle.layers.proofs.Prefix.{read_base-next, read_within-next, read_base-take, read_within-take, read_layers-take, rows-end}
use Rattle.placement.specs.Placement.{placement_layer_limits, read_terms, check_records, read_placement, check_placement}
use Rattle.placement.proofs.FeederNumbers.{read_feeders-next, read_feeders-take}
use Rattle.placement.proofs.Accepted.{term_numbers, reads-of-read_terms}

-- 7 numbers, 256 of the list and 2 for each of 5 layers, of 4 bytes each, and 4,096 rows of 5 bytes; (n) after them 256 numbers more.
-- Four is the most that any form of a number has, so numbers that are padded (request (b)) are within it too.
reach : (at s b r : ℕ) → at ≤ 1_052 → s ≤ r → r ≤ 5 → b ≤ 4_096 → at + s * 8 + b * r ≤ 21_572
reach at s b r h₁ h₂ h₃ h₄ = let rows = mul-le-mul h₄ h₃ in omega arith

-- s, k, b and F are read from the first m bytes
read_terms-take : (m : ℕ) (bytes : List ℕ) → m ≤ length bytes → (base : Site) (at : ℕ) → at + 16 ≤ m
    → read_terms base (take m bytes) at ≡ read_terms base bytes at
unfolding read_terms
read_terms-take m bytes long base at h =
    let t = take m bytes in
    bind_congr _ _ _ _ (read_within-take m bytes long 1 base.r at (omega arith)) λ s e₁.
    let at₁ = read_within-next 1 base.r t at e₁ in
    bind_congr _ _ _ _ (read_within-take m bytes long s.value (base.n - 1) s.next (omega arith)) λ k e₂.
    let at₂ = read_within-next s.value (base.n - 1) t s.next e₂ in
    bind_congr _ _ _ _ (read_within-take m bytes long 1 4_096 k.next (omega arith)) λ b e₃.
    let at₃ = read_within-next 1 4_096 t k.next e₃ in
    bind_congr _ _ _ _ (read_within-take m bytes long 0 b.value b.next (omega arith)) λ figure e₄.
    refl

-- Rows and feeders that end before m: the bytes from there to m are trailing, and so are all.
check_records-take : (m : ℕ) (s : List ℕ) → m ≤ length s → (kind : ℕ) (base : Site) (k : ℕ) (heads : List LayerHead) (at : ℕ)
    → base.n ≤ 255 → at + sizes heads * base.r + 1_024 < m
    → check_records kind base k heads (take m s) at ≡ check_records kind base k heads s at
unfolding check_records check_length check_end
check_records-take m s long kind base k heads at few h =
    let end = at + sizes heads * base.r in
    rw
    (length-take-le m s long, le-leb end m (omega arith), le-leb end (length s) (omega arith))
    (bind_congr _ _ _ _ (read_feeders-take m s long kind base.n base.r k end few (omega arith)) λ after e.
    let next = read_feeders-next kind base.n base.r k (take m s) end few e in
    rw (lt-leb m after.next (omega arith), lt-leb (length s) after.next (omega arith)) refl)

within-reach : (m : ℕ) (bytes : List ℕ) → 22_596 < m → m ≤ length bytes
    → read_placement (take m bytes) ≡ read_placement bytes
unfolding read_placement
within-reach m bytes h long =
    let t = take m bytes in
    bind_congr _ _ _ _ (read_base-take m bytes long PlacementKind (omega arith)) λ head e₁.
    let at₁ = read_base-next PlacementKind t e₁ in
    let base = (held-of-read_base PlacementKind t e₁).limits in
    bind_congr _ _ _ _ (read_terms-take m bytes long head.base head.next (omega arith)) λ order e₂.
    let (reads, limits) = reads-of-read_terms head.base t head.next e₂ base.n-least in
    let at₂ = reads-next (term_numbers order.terms) t head.next order.next reads in
    let end = reach order.next order.terms.s order.terms.b head.base.r (omega arith) limits.s-most base.r-most limits.b-most in
    bind_congr _ _ _ _ (read_layers-take m bytes long placement_layer_limits order.terms.s order.terms.b order.next (omega arith)) λ numbers e₃.
    let rows = rows-end placement_layer_limits order.terms.s order.terms.b head.base.r t order.next e₃ in
    bind_congr _ _ _ _
    (check_records-take m bytes long head.kind head.base order.terms.k numbers.heads numbers.next base.n-most (omega arith))
    λ rows e₄.
    refl

-- No byte after the first m is looked at.
pub read_placement-take : (m : ℕ) (bytes : List ℕ) → 22_596 < m → read_placement (take m bytes) ≡ read_placement bytes
read_placement-take m bytes h = take-elim read_placement m bytes (within-reach m bytes h)

pub check_placement-take : (m : ℕ) (bytes : List ℕ) → 22_596 < m → check_placement (take m bytes) ≡ check_placement bytes
unfolding check_placement
check_placement-take m bytes h = ap (map_accepted (λ file. file.content)) (read_placement-take m bytes h)

-- A program reads 32,768 bytes: the rest of its input changes nothing, also where every number is padded.
pub check_placement-buffer : (bytes : List ℕ) → check_placement (take 32_768 bytes) ≡ check_placement bytes
check_placement-buffer bytes = check_placement-take 32_768 bytes (omega arith)
