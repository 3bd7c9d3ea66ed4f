-- A line's numbers, read into the slice after the head's, of a table and of bare rows alike. Assumes nothing.
use Prim.Native.Nat.{ℕ, ◌-◌, ◌≤◌}
use Rattle.std.specs.Prelude.{Option as Given, Some, None}
use native.Mathlib.Omega.{arith}
use mathlib.Core.Path.{◌≡◌, refl}
use mathlib.Core.List.{List, ◌++◌}
use mathlib.Core.Option.{Option, none, some}
use lib.ListN.{length, take, drop, length-drop}
use lib.Seq.{length-take-le, take_at, drop_at}
use Rattle.table.specs.declared.Progress.{Progress}
use Rattle.table.specs.Lines.{before}
use Rattle.table.specs.Progress.{Kept, Finds, NumbersIn, draft_of, found_in}
use Rattle.table.proofs.Places.{before-length, before-take}

-- a line's comment: what is before it
module _ (bytes : List ℕ) {end : ℕ} (is : end ≡ length (before 35 bytes)) where
  pub comment-inside : end ≤ length bytes
  comment-inside = omega (arith, before-length 35 bytes)

  pub uncommented-is : take (end - 0) (drop 0 bytes) ≡ before 35 bytes
  uncommented-is = let z : end - 0 ≡ end = omega arith in rw (z, is) (before-take 35 bytes)

-- the slice after a line's numbers were read into its part after the head's
module _ (p : Progress) (numbers part after : List ℕ) (room : p.count ≤ length numbers) (is : after ≡ take p.count numbers ++ part) where
  head-length : length (take p.count numbers) ≡ p.count
  head-length = length-take-le p.count numbers room

  head-same : take p.count after ≡ take p.count numbers
  head-same = rw is (take_at (take p.count numbers) part p.count head-length)

  part_same : drop p.count after ≡ part
  part_same = rw is (drop_at (take p.count numbers) part p.count head-length)

  pub draft-same : (rows lines : List ℕ) → draft_of p after rows lines ≡ draft_of p numbers rows lines
  draft-same rows lines = rw head-same refl

  module _ (got : Option (List ℕ)) {read : Given ℕ} (found-in : NumbersIn got read part) {found : ℕ} (e : read ≡ Some found) where
    found-few : found ≤ 255
    found-few = go got found-in
      where
        go : (got : Option (List ℕ)) → NumbersIn got read part → found ≤ 255
        go none h = absurd (let z : ◌≡◌ {A = ℕ} 0 1 = cc in omega arith)
        go (some l) h = let s = h.0 in let same : found ≡ length l = cc in omega (arith, h.2)

    pub found-finds : Kept p (take p.count numbers) → 600 ≤ length after → Finds p found after
    found-finds kept long = record { kept = rw head-same kept; room = long; few = found-few }

    pub found-is : got ≡ some (found_in p found after)
    found-is = go got found-in
      where
        go : (got : Option (List ℕ)) → NumbersIn got read part → got ≡ some (found_in p found after)
        go none h = absurd (let z : ◌≡◌ {A = ℕ} 0 1 = cc in omega arith)
        go (some l) h =
            let s = h.0 in
            let same : found ≡ length l = cc in
            let are : found_in p found after ≡ l = rw (part_same, same) h.1 in
            rw are refl

pub none_found : (got : Option (List ℕ)) (part : List ℕ) {read : Given ℕ} → NumbersIn got read part → read ≡ None → got ≡ none
none_found none part h e = refl
none_found (some l) part h e = absurd (let s = h.0 in let z : ◌≡◌ {A = ℕ} 0 1 = cc in omega arith)

-- the numbers that are found are as many
pub found-length : (p : Progress) (found : ℕ) (numbers : List ℕ) → Finds p found numbers → length (found_in p found numbers) ≡ found
found-length p found numbers finds =
    let k = finds.kept in
    length-take-le found (drop p.count numbers)
    (rw length-drop (omega (arith, finds.room, finds.few, k.count_most, k.layers-most, k.r-most)))
