-- Turns of the loops over the records on a node. Assumes nothing.
use Prim.Native.Nat.{ℕ, zero, suc, ◌+◌, ◌-◌, ◌≤◌, ◌<◌}
use native.Mathlib.Omega.{arith}
use native.Mathlib.Numerals.{add-one}
use mathlib.Core.Path.{◌≡◌, ap}
use mathlib.Core.Bool.{Bool, true, false}
use mathlib.Core.List.{List}
use lib.ListN.{length, get_or, set}
use lib.Dec.{eqb}
use Rattle.lists.specs.Lists.{tally}
use Rattle.lists.proofs.Counts.{tally-le-suc}
use Rattle.worst.specs.Records.{among, raised_to, lowered_to, lost_to}
use Rattle.worst.specs.Searches.{Raising, Lowering}
use Rattle.worst.specs.declared.Entries.{Entries}
use Rattle.worst.proofs.Among.{among-mono}
use Rattle.worst.proofs.Hits.{among-itself, length-raised, length-lowered, get_d-raised, get_d-lowered}

-- record i is the one that entry `seen` names; so far the records before it are raised
module _ {index hits : List ℕ} {entries : Entries} (pre : Raising index hits entries) {seen i : ℕ} (more : seen < entries.count)
    (names : i ≡ get_or index (entries.from + seen) 0) {now : List ℕ} (is : now ≡ raised_to index hits entries.from seen) where
  pub raise-record : i < length now
  raise-record = omega (arith, pre.named.records seen more, length-raised index hits entries.from seen, ap length is)

  pub raise-fits : get_or now i 0 + 1 ≤ 255
  raise-fits =
      let itself : among (eqb i) index entries.from (suc seen) ≡ suc (among (eqb i) index entries.from seen) =
      rw names (among-itself index entries.from seen) in
      omega (
        arith,
        ap (λ l. get_or l i 0) is,
        get_d-raised index hits entries.from seen (λ q lt. pre.named.records q (omega arith)) i,
        pre.room i,
        among-mono (eqb i) index entries.from (suc seen) entries.count more,
      )

  pub raise-next : set now i (get_or now i 0 + 1) ≡ raised_to index hits entries.from (seen + 1)
  unfolding raised_to
  raise-next = rw (is, names, add-one seen)

-- so far they are lowered
module _ {index hits : List ℕ} {entries : Entries} (pre : Lowering index hits entries) {seen i : ℕ} (more : seen < entries.count)
    (names : i ≡ get_or index (entries.from + seen) 0) {now : List ℕ} (is : now ≡ lowered_to index hits entries.from seen) where
  pub lower-record : i < length now
  lower-record = omega (arith, pre.named.records seen more, length-lowered index hits entries.from seen, ap length is)

  pub lower-some : 1 ≤ get_or now i 0
  lower-some =
      let itself : among (eqb i) index entries.from (suc seen) ≡ suc (among (eqb i) index entries.from seen) =
      rw names (among-itself index entries.from seen) in
      let fewer = among-mono (eqb i) index entries.from (suc seen) entries.count more in
      omega (
        arith,
        ap (λ l. get_or l i 0) is,
        get_d-lowered index hits entries.from seen (λ q lt. pre.named.records q (omega arith)) i
            (omega (arith, pre.held i)),
        pre.held i,
      )

  pub lower-next : set now i (get_or now i 0 - 1) ≡ lowered_to index hits entries.from (seen + 1)
  unfolding lowered_to
  lower-next = rw (is, names, add-one seen)

-- so far those that reach s are counted
pub lose-next : (s : ℕ) (index hits : List ℕ) (from seen : ℕ) {i lost reached : ℕ} → i ≡ get_or index (from + seen) 0 → lost ≡ lost_to s index hits from seen
    → reached ≡ tally (eqb (get_or hits i 0 + 1) s) 0 → lost + reached ≡ lost_to s index hits from (seen + 1)
unfolding lost_to
lose-next s index hits from seen {i} names e r =
    rw (e, r, names, add-one seen) (one (eqb (get_or hits (get_or index (from + seen) 0) 0 + 1) s) (lost_to s index hits from seen))
  where
    one : (t : Bool) (n : ℕ) → n + tally t 0 ≡ tally t n
    one true n = omega arith
    one false n = omega arith

-- no more than there are
pub lost_to-le : (s : ℕ) (index hits : List ℕ) (from seen : ℕ) → lost_to s index hits from seen ≤ seen
unfolding lost_to
lost_to-le s index hits from zero = omega arith
lost_to-le s index hits from (suc seen) =
    omega (
      arith,
      lost_to-le s index hits from seen,
      tally-le-suc (eqb (get_or hits (get_or index (from + seen) 0) 0 + 1) s) (lost_to s index hits from seen),
    )
