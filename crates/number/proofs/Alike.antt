-- Reading at two places from which the same bytes stand: the same number, or the same refusal. Assumes nothing.
use Prim.Native.Nat.{ℕ, zero, suc, ◌+◌, ◌*◌, ◌-◌, ◌≤◌, ◌<◌}
use native.Mathlib.Omega.{arith}
use mathlib.Core.Path.{◌≡◌, refl, sym, ◌∙◌, ap}
use mathlib.Core.List.{List}
use lib.ListN.{length, get_or, drop, length-drop}
use lib.Seq.{drop-cons}
use Rattle.refusal.specs.Agree.{Agree, both-accepted, both-refused}
use Rattle.lists.proofs.Parts.{get_d-of-drop-cons, drop-suc-of-drop-cons}
use Rattle.number.specs.Numbers.{read_groups, read_number}
use Rattle.number.specs.declared.Reading.{Reading}
use Rattle.number.proofs.ReadGroups.{read_groups-ends, read_groups-follows, read_groups-last, read_groups-elim}

-- the same value, and the same bytes from the next places on
pub record ReadAlike (s s' : List ℕ) (n n' : Reading) : Type 0 where
  pub value : n.value ≡ n'.value
  pub inside : n.next ≤ length s
  pub inside' : n'.next ≤ length s'
  pub same : drop n.next s ≡ drop n'.next s'

module _ (s s' : List ℕ) where
  -- where the same bytes stand there are as many
  lengths : (at at' : ℕ) → drop at s ≡ drop at' s' → length s - at ≡ length s' - at'
  lengths at at' e = sym (length-drop at s) ∙ ap length e ∙ length-drop at' s'

  read_groups-alike : (left start start' at at' weight sum : ℕ) → drop at s ≡ drop at' s'
      → Agree (ReadAlike s s') (read_groups left s start at weight sum) (read_groups left s' start' at' weight sum)
  unfolding read_groups
  read_groups-alike zero start start' at at' weight sum e = both-refused refl
  read_groups-alike (suc left) start start' at at' weight sum e =
      let long = lengths at at' e in
      read_groups-elim
      (λ m. Agree (ReadAlike s s') m (read_groups (suc left) s' start' at' weight sum))
      left
      s
      start
      at
      weight
      sum
      (λ ends. rw (read_groups-ends left s' start' at' weight sum (omega arith)) (both-refused refl))
      (λ inside top.
      let inside' : at' < length s' = omega arith in
      let cons = e ∙ drop-cons s' at' 0 inside' in
      let byte : get_or s at 0 ≡ get_or s' at' 0 = get_d-of-drop-cons s at 0 cons in
      rw
      (read_groups-follows left s' start' at' weight sum inside' (omega arith), byte)
      (read_groups-alike left start start' (suc at) (suc at') _ _ (drop-suc-of-drop-cons s at cons)))
      (λ inside last.
      let inside' : at' < length s' = omega arith in
      let cons = e ∙ drop-cons s' at' 0 inside' in
      let byte : get_or s at 0 ≡ get_or s' at' 0 = get_d-of-drop-cons s at 0 cons in
      rw
      (read_groups-last left s' start' at' weight sum inside' (omega arith))
      (both-accepted
      (record {
        value = ap (λ b. sum + weight * b) byte;
        inside = inside;
        inside' = inside';
        same = drop-suc-of-drop-cons s at cons;
      })))

  pub read_number-alike : (at at' : ℕ) → drop at s ≡ drop at' s' → Agree (ReadAlike s s') (read_number s at) (read_number s' at')
  unfolding read_number
  read_number-alike at at' e = read_groups-alike 4 at at' at at' 1 0 e
