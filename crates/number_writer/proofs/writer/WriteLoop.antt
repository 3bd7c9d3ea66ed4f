-- The turns of the loop that writes a number. Assumes nothing.
use Prim.Native.Nat.{ℕ, zero, suc, ◌+◌, ◌/◌, ◌%◌, ◌≤◌, ◌<◌}
use native.Mathlib.Omega.{arith}
use native.Mathlib.Nat.{zero-add}
use native.Mathlib.Numerals.{add-one}
use mathlib.Core.Path.{◌≡◌, refl, ◌∙◌}
use mathlib.Core.List.{List, ◌∷◌}
use lib.ListN.{length, set, length-set}
use lib.Seq.{sets, sets-eq}
use Rattle.lists.specs.Lists.{over_start}
use Rattle.number.specs.Numbers.{largest_number, groups, number_bytes}
use Rattle.number.proofs.Groups.{capacity, groups-small, groups-large, groups-length-pos}

-- Before each turn: the groups of what is left, stored from i on, make the whole form at the slice's start.
pub record WriteTurn (v : ℕ) (out₀ out : List ℕ) (rest i : ℕ) : Type 0 where
  pub more : ℕ
  pub fits : rest < capacity (suc more)
  pub ends : i + length (groups more rest) ≡ length (number_bytes v)
  pub enough : length (number_bytes v) ≤ length out
  pub same_length : length out ≡ length out₀
  pub same : sets out i (groups more rest) ≡ sets out₀ 0 (number_bytes v)

pub write-holds : (v : ℕ) (out : List ℕ) → v ≤ largest_number → length (number_bytes v) ≤ length out → WriteTurn v out out v 0
unfolding number_bytes
write-holds v out h enough =
    record {
      more = 3;
      fits = omega arith;
      ends = zero-add (length (groups 3 v));
      enough = enough;
      same_length = refl;
      same = refl;
    }

module _ {v : ℕ} {out₀ out : List ℕ} {rest i : ℕ} (turn : WriteTurn v out₀ out rest i) where
  pub write-inside : i < length out
  write-inside =
      omega (arith, turn.ends, turn.enough, groups-length-pos turn.more rest)

  -- a group with the top bit
  pub write_again : 128 ≤ rest → WriteTurn v out₀ (set out i (128 + rest % 128)) (rest / 128) (i + 1)
  write_again large = again turn.more turn.fits turn.ends turn.same
    where
      again : (more : ℕ) → rest < capacity (suc more) → i + length (groups more rest) ≡ length (number_bytes v)
          → sets out i (groups more rest) ≡ sets out₀ 0 (number_bytes v)
          → WriteTurn v out₀ (set out i (128 + rest % 128)) (rest / 128) (i + 1)
      again zero fits ends same = absurd (omega arith)
      again (suc more) fits ends same =
          let e : groups (suc more) rest ≡ (128 + rest % 128) ∷ groups more (rest / 128) = groups-large more rest large in
          let ends' : i + suc (length (groups more (rest / 128))) ≡ length (number_bytes v) = rw e at ends in
          record {
            more = more;
            fits = omega arith;
            ends = omega arith;
            enough = rw length-set turn.enough;
            same_length = rw length-set turn.same_length;
            same = rw add-one (rw e at same);
          }

  -- the last group: the form stands at the start, and the bytes after it are as they were
  pub write-last : rest < 128 → set out i rest ≡ over_start (number_bytes v) out₀
  write-last small =
      let stored : set out i rest ≡ sets out₀ 0 (number_bytes v) = rw groups-small at turn.same in
      let room : 0 + length (number_bytes v) ≤ length out₀ = omega (arith, turn.enough, turn.same_length) in
      stored ∙ sets-eq (number_bytes v) out₀ 0 room ∙ rw zero-add
