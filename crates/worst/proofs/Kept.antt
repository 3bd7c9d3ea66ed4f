-- Where no set that is to come can leave fewer: a node loses at most the records on it. Assumes nothing.
use Prim.Native.Nat.{ℕ, zero, suc, ◌+◌, ◌*◌, ◌-◌, ◌≤◌, ◌<◌}
use native.Mathlib.Omega.{arith}
use mathlib.Core.Path.{◌≡◌, refl}
use mathlib.Core.List.{List, [], ◌∷◌, ◌++◌, map}
use lib.ListN.{length, take}
use borrow.Author.Tests.{le-ltb}
use Rattle.lists.specs.Lists.{All, up_to}
use Rattle.lists.proofs.UpTo.{length-map-up_to, get_d-map-up_to}
use Rattle.worst.specs.Worst.{Worst, through, nodes_from}
use Rattle.worst.specs.Records.{begin, size, on_set, usable_by, Index, HitsOf}
use Rattle.worst.specs.Searches.{Light, NoLower, Searching, NextChosen}
use Rattle.worst.specs.declared.Search.{Search}
use Rattle.worst.proofs.Hits.{usable-lost}
use Rattle.worst.proofs.Turns.{lost_to-le}
use Rattle.worst.proofs.Through.{at}
use Rattle.worst.proofs.Steps.{lost-usable}

-- whichever nodes failed before
usable-left : {index : List ℕ} {b : ℕ} → Index index b → (v : ℕ) → v < 256 → (s : ℕ) (nodes : List ℕ)
    → usable_by index s b nodes ≤ usable_by index s b (nodes ++ (v ∷ [])) + size index v
usable-left {index} {b} is v node s nodes =
    let hits = map (on_set index nodes) (up_to b) in
    let long : length hits ≡ b = length-map-up_to (on_set index nodes) b in
    let counted : HitsOf index nodes (length hits) hits = λ i lt. get_d-map-up_to (on_set index nodes) b i 0 (omega arith) in
    let lost = rw long at (usable-lost hits nodes (rw long is) v node s counted) in
    omega (arith, lost_to-le s index hits (begin index v) (size index v))

all-nodes_from : (P : ℕ → Type 0) (v m : ℕ) → ((w : ℕ) → w < v + m → P w) → All P (nodes_from v m)
unfolding nodes_from
all-nodes_from P v zero h = tt
all-nodes_from P v (suc m) h = (h v (omega arith), all-nodes_from P (suc v) m (λ w lt. h w (omega arith)))

-- where a node loses at most `most`, j nodes lose at most j times as many
through-kept : (value : List ℕ → ℕ) (most : ℕ) (chosen : List ℕ) (j : ℕ) (nodes : List ℕ) (found : Worst)
    → All (λ v. (set : List ℕ) → value set ≤ value (set ++ (v ∷ [])) + most) nodes → found.fewest ≤ value chosen - j * most
    → through value chosen j nodes found ≡ found
unfolding through
through-kept value most chosen zero nodes found h le = rw (le-ltb (value chosen) found.fewest (omega arith))
through-kept value most chosen (suc j) [] found h le = refl
through-kept value most chosen (suc j) (v ∷ nodes) found h le =
    rw (through-kept value most (chosen ++ (v ∷ [])) j nodes found h.1 (omega (arith, h.0 chosen)))
    (through-kept value most chosen (suc j) nodes found h.1 le)

-- no set that has the next node leaves fewer
pub next-kept : {search : Search} {index hits nodes out : List ℕ} {most : ℕ} → Searching search index hits nodes out → Light index most
    → NoLower search most index hits → NextChosen search index hits nodes out hits nodes out search.least
next-kept {search} {index} {hits} {nodes} {out} {most} pre light le =
    let v = search.next.0 in
    record {
      found =
          through-kept (usable_by index search.s (length hits)) most (take search.chosen nodes ++ (v ∷ [])) (search.k - (search.chosen + 1))
          (nodes_from (v + 1) (search.n - (v + 1))) (at search.least (take search.k out))
          (all-nodes_from _ (v + 1) (search.n - (v + 1)) each)
          (omega (arith, lost-usable pre));
      rest = refl;
      counted = pre.counted;
      same_chosen = refl;
    }
  where
    each : (w : ℕ) → w < search.next.0 + 1 + (search.n - (search.next.0 + 1))
        → (set : List ℕ) → usable_by index search.s (length hits) set ≤ usable_by index search.s (length hits) (set ++ (w ∷ [])) + most
    each w lt set =
        let node : w < 256 = omega (arith, pre.below, pre.n-most) in
        omega (arith, usable-left pre.is-index w node search.s set, light.each w node)
