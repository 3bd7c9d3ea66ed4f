-- Document 02, (f): "One pass over the rows for the load line". `node_counts r b` of the bytes from the first row on is what
-- `rows_load::node_counts` answers for an accepted placement's b rows of r bytes, by its contract. Assumes nothing.
use Prim.Native.Nat.{ℕ, ◌*◌, ◌≤◌, ◌<◌}
use native.Mathlib.Omega.{arith}
use mathlib.Core.Path.{◌≡◌, refl, sym, ◌∙◌, ap}
use mathlib.Core.List.{List, ◌∷◌}
use lib.ListN.{length, get_or, take, drop}
use lib.Seq.{length-take-le, get_or-take}
use Rattle.lists.specs.Lists.{largest, total}
use Rattle.lists.proofs.Largest.{largest-le, largest-reached}
use Rattle.lists.proofs.UpTo.{get_d-map-up_to}
use Rattle.refusal.specs.Refusals.{result}
use Rattle.refusal.specs.Checked.{Checked, accepted, refused, map_accepted}
use Rattle.packing.specs.Rows.{rows_at, records_in}
use Rattle.packing.specs.Load.{load, loads, node_counts}
use Rattle.packing.proofs.Failed.{rows_at-records}
use Rattle.packing.proofs.Load.{length-node_counts, take-node_counts, total-loads}
use Rattle.layers.specs.Layers.{Located, all_rows}
use Rattle.layers.proofs.Lengths.{length-all_rows}
use Rattle.placement.specs.Placement.{Placement, read_placement, check_placement}
use Rattle.placement.specs.Answers.{placement_checked, placement_outcome}
use Rattle.placement.proofs.Rows.{rows_in}
use Rattle.report.specs.declared.Summary.{Summary}
use Rattle.report.specs.Programs.{accepted_line, summary, or_refused_line, check_line}

-- "each node's count is the number of rows holding it": of record j, the r bytes at the first row's place plus j × r
pub f-each-count : (bytes : List ℕ) (first r b v : ℕ) → v < 256
    → get_or (node_counts r b (drop first bytes)) v 0 ≡ load (records_in bytes first r b) v
unfolding node_counts
f-each-count bytes first r b v lt =
    get_d-map-up_to (load (rows_at r b (drop first bytes))) 256 v 0 lt ∙ ap (λ rows. load rows v) (rows_at-records bytes first r b)

-- what is known of the counts of an accepted placement with these numbers
record Counted (input : List ℕ) (n r b first : ℕ) : Type 0 where
  sum : total (take n (node_counts r b (drop first input))) ≡ b * r
  some-node : 0 < n
  small : n ≤ 256
  line : Summary
  printed : check_line input ≡ accepted_line line
  its-most : line.most ≡ largest (take n (node_counts r b (drop first input)))

counted-file : (input : List ℕ) (file : Located Placement) → read_placement input ≡ accepted file
    → Counted input file.content.n file.content.r file.content.b file.first
unfolding check_line check_placement summary
counted-file input file e =
    let p = file.content in
    let l = rows_in input file e in
    let all = all_rows p.layers in
    let base = l.good.limits.base in
    let small : p.n ≤ 256 = omega (arith, base.n-most) in
    let same : take p.n (node_counts p.r p.b (drop file.first input)) ≡ loads p.n all =
    take-node_counts p.r p.b p.n (drop file.first input) small ∙ ap (loads p.n) l.rows in
    let records : length all ≡ p.b = length-all_rows p.layers ∙ l.good.limits.records-all in
    record {
      sum = ap total same ∙ total-loads p.n p.r all l.good.rows ∙ ap (λ c. c * p.r) records;
      some-node = omega (arith, base.n-least);
      small = small;
      line = summary p;
      printed =
          ap (λ c. or_refused_line (map_accepted (λ q. accepted_line (summary q)) (map_accepted (λ (f : Located Placement). f.content) c))) e;
      its-most = ap largest (sym same);
    }

counted : (input : List ℕ) {kind n r s k b figure first : ℕ} {layers : List ℕ}
    → placement_outcome (placement_checked (read_placement input)) ≡ result (kind ∷ n ∷ r ∷ s ∷ k ∷ b ∷ figure ∷ first ∷ layers)
    → Counted input n r b first
counted input {kind} {n} {r} {s} {k} {b} {figure} {first} {layers} says = go (read_placement input) refl says
  where
    go : (c : Checked (Located Placement)) → read_placement input ≡ c
        → placement_outcome (placement_checked c) ≡ result (kind ∷ n ∷ r ∷ s ∷ k ∷ b ∷ figure ∷ first ∷ layers)
        → Counted input n r b first
    go (accepted file) e q =
        let p = file.content in
        let n-is : p.n ≡ n = cc in
        let r-is : p.r ≡ r = cc in
        let b-is : p.b ≡ b = cc in
        let first-is : file.first ≡ first = cc in
        rw (n-is, r-is, b-is, first-is) at (counted-file input file e)
    go (refused why) e q = absurd (let z : ◌≡◌ {A = ℕ} 0 1 = cc in omega arith)

-- "all n counts add up to b × r"
pub f-counts-sum : (input : List ℕ) {kind n r s k b figure first : ℕ} {layers : List ℕ}
    → placement_outcome (placement_checked (read_placement input)) ≡ result (kind ∷ n ∷ r ∷ s ∷ k ∷ b ∷ figure ∷ first ∷ layers)
    → total (take n (node_counts r b (drop first input))) ≡ b * r
f-counts-sum input says = (counted input says).sum

-- "and most is the largest. The printed line is as before": the line that `check` prints has a most that no node's count passes
-- and that is some node's count.
pub f-most-largest : (input : List ℕ) {kind n r s k b figure first : ℕ} {layers : List ℕ}
    → placement_outcome (placement_checked (read_placement input)) ≡ result (kind ∷ n ∷ r ∷ s ∷ k ∷ b ∷ figure ∷ first ∷ layers)
    → (line : Summary) × (check_line input ≡ accepted_line line)
    × (line.most ≡ largest (take n (node_counts r b (drop first input))))
    × ((v : ℕ) → v < n → get_or (node_counts r b (drop first input)) v 0 ≤ line.most)
    × ((v : ℕ) × (v < n) × (get_or (node_counts r b (drop first input)) v 0 ≡ line.most))
f-most-largest input {n = n} {r = r} {b = b} {first = first} says =
    let k = counted input says in
    let all = node_counts r b (drop first input) in
    let counts = take n all in
    let long : n ≤ length all = omega (arith, length-node_counts r b (drop first input), k.small) in
    let some : 0 < length counts = rw (length-take-le n all long) k.some-node in
    let (v, lt, e) = largest-reached counts some in
    let below : v < n = rw (length-take-le n all long) at lt in (
      k.line,
      k.printed,
      k.its-most,
      λ w h. rw (k.its-most, ← get_or-take n all w 0 h) (largest-le counts w),
      (v, below, sym (get_or-take n all v 0 below) ∙ e ∙ sym k.its-most),
    )
