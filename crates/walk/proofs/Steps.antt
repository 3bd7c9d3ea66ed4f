-- A step's two cases: a row is handed out and the walk moved past it, or the end, with the walk unmoved. Assumes nothing.
use Prim.Native.Nat.{ℕ, ◌+◌, ◌-◌, ◌≤◌, ◌<◌}
use native.Mathlib.Omega.{arith}
use mathlib.Core.Path.{◌≡◌, refl, sym, ◌∙◌, ap}
use mathlib.Core.Bool.{Bool, true, false, ◌&&◌, and-eq-true_iff, and-false}
use mathlib.Core.List.{List, []}
use lib.ListN.{length, take, drop}
use native.Mathlib.Nat.{add-sub_cancel_left}
use denote.Ref.{Bor}
use lib.Dec.{leb, ltb}
use borrow.Author.Tests.{le-ltb, lt-ltb, le-leb, lt-leb, ltb-true, leb-true, leb-false}
use Rattle.walk.specs.declared.Cursor.{Cursor}
use Rattle.walk.specs.RowWalk.{has_row, row_start, step_row, step_walk, RowPart}

module _ (bytes : List ℕ) (walk : Cursor) where
  pub has_row-of-le : 0 < walk.left → walk.at + walk.r ≤ length bytes → has_row bytes walk ≡ true
  has_row-of-le more inside =
      (and-eq-true_iff (ltb 0 walk.left) (leb (walk.at + walk.r) (length bytes))).1 (
        lt-ltb 0 walk.left more,
        le-leb (walk.at + walk.r) (length bytes) inside,
      )

  pub not-has_row-of-none : walk.left ≡ 0 → has_row bytes walk ≡ false
  not-has_row-of-none none =
      ap (λ more. more && leb (walk.at + walk.r) (length bytes)) (le-ltb 0 walk.left (omega arith))

  pub not-has_row-of-lt : length bytes < walk.at + walk.r → has_row bytes walk ≡ false
  not-has_row-of-lt past =
      ap (λ inside. ltb 0 walk.left && inside) (lt-leb (walk.at + walk.r) (length bytes) past)
      ∙ and-false (ltb 0 walk.left)

  -- the test without a sum: the row's r bytes are at most those from the place on
  pub room-has_row : 0 < walk.left → walk.at ≤ length bytes → leb walk.r (length bytes - walk.at) ≡ has_row bytes walk
  room-has_row more inside = go (leb walk.r (length bytes - walk.at)) refl
    where
      go : (b : Bool) → leb walk.r (length bytes - walk.at) ≡ b → b ≡ has_row bytes walk
      go true t =
          let h = leb-true walk.r (length bytes - walk.at) t in
          sym (has_row-of-le more (omega arith))
      go false t =
          let h = leb-false walk.r (length bytes - walk.at) t in
          sym (not-has_row-of-lt (omega arith))

  -- a row that is left lies within the bytes
  pub row_within : has_row bytes walk ≡ true → (0 < walk.left) × (walk.at + walk.r ≤ length bytes)
  row_within e =
      let both = (and-eq-true_iff (ltb 0 walk.left) (leb (walk.at + walk.r) (length bytes))).0 e in
      (ltb-true 0 walk.left both.0, leb-true (walk.at + walk.r) (length bytes) both.1)

  -- "hands out the next row's r bytes .. with the walk moved past them"
  pub step_row-some : has_row bytes walk ≡ true → step_row bytes walk ≡ take walk.r (drop walk.at bytes)
  unfolding step_row
  step_row-some e = rw e

  pub row_start-some : has_row bytes walk ≡ true → row_start bytes walk ≡ walk.at
  unfolding row_start
  row_start-some e = rw e

  pub step_walk-some : has_row bytes walk ≡ true
      → step_walk bytes walk ≡ record { at = walk.at + walk.r; r = walk.r; left = walk.left - 1 }
  unfolding step_walk
  step_walk-some e = rw e

  -- so a loop over the rows ends
  pub left-falls : has_row bytes walk ≡ true → (step_walk bytes walk).left < walk.left
  left-falls e =
      let moved = ap (λ next. next.left) (step_walk-some e) in
      let more = (row_within e).0 in
      omega arith

  -- "the end, an empty part with the walk unmoved"
  pub step_row-end : has_row bytes walk ≡ false → step_row bytes walk ≡ []
  unfolding step_row
  step_row-end e = rw e

  row_start-end : has_row bytes walk ≡ false → row_start bytes walk ≡ 0
  unfolding row_start
  row_start-end e = rw e

  pub step_walk-end : has_row bytes walk ≡ false → step_walk bytes walk ≡ walk
  unfolding step_walk
  step_walk-end e = rw e

-- the part of the caller's bytes that the code takes is the one that a step hands out
module _ (bytes : Bor (List ℕ)) (walk : Cursor) (row : Bor (List ℕ)) where
  pub part-some : has_row bytes.now walk ≡ true
      → row.now ≡ take (walk.at + walk.r - walk.at) (drop walk.at bytes.now)
      → row.ref_ptr.0 ≡ bytes.ref_ptr.0 → row.ref_ptr.1 ≡ walk.at + bytes.ref_ptr.1
      → RowPart bytes walk row
  part-some e content block offset =
      let start = row_start-some bytes.now walk e in
      record {
        content =
            content ∙ rw (add-sub_cancel_left walk.at walk.r, step_row-some bytes.now walk e);
        block = block;
        offset = omega arith;
      }

  pub part_end : has_row bytes.now walk ≡ false → row.now ≡ []
      → row.ref_ptr.0 ≡ bytes.ref_ptr.0 → row.ref_ptr.1 ≡ 0 + bytes.ref_ptr.1 → RowPart bytes walk row
  part_end e content block offset =
      let start = row_start-end bytes.now walk e in
      record {
        content = content ∙ sym (step_row-end bytes.now walk e);
        block = block;
        offset = omega arith;
      }
