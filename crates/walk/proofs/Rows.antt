-- The walk over an accepted placement hands out exactly its rows, in order, and then the end for ever. Assumes nothing.
use Prim.Native.Nat.{ℕ, zero, suc, ◌+◌, ◌*◌, ◌-◌, ◌≤◌, ◌<◌}
use native.Mathlib.Omega.{arith}
use native.Mathlib.Nat.{add-zero, zero-mul, sub-zero, mul-le-mul_right}
use mathlib.Core.Path.{◌≡◌, refl, ◌∙◌, ap}
use mathlib.Core.Bool.{true, false}
use mathlib.Core.List.{List, []}
use lib.ListN.{length, drop}
use lib.Seq.{drop-drop}
use Rattle.refusal.specs.Checked.{accepted, map_accepted}
use Rattle.packing.specs.Rows.{rows_at}
use Rattle.layers.specs.Layers.{Located, all_rows}
use Rattle.placement.specs.Placement.{Placement, read_placement}
use Rattle.placement.proofs.Rows.{rows_in}
use Rattle.walk.specs.declared.Cursor.{Cursor}
use Rattle.walk.specs.RowWalk.{first_row, open_walk, has_row, row_start, step_row, step_walk, walk_rows, walk_after}
use Rattle.walk.proofs.Steps.{has_row-of-le, not-has_row-of-none, step_row-some, step_row-end, step_walk-some, step_walk-end, row_start-some}

abbrev place : (at r left : ℕ) → Cursor
place at r left = record { at = at; r = r; left = left }

-- one step where a row is left
module _ (bytes : List ℕ) (at r c : ℕ) (fits : at + suc c * r ≤ length bytes) where
  has-row : has_row bytes (place at r (suc c)) ≡ true
  has-row = has_row-of-le bytes (place at r (suc c)) (omega arith) (omega arith)

  next_place : step_walk bytes (place at r (suc c)) ≡ place (at + r) r c
  next_place =
      let e : suc c - 1 ≡ c = omega arith in
      step_walk-some bytes (place at r (suc c)) has-row ∙ ap (place (at + r) r) e

-- c rows from `at` on that lie within the bytes are handed out one after another
walk_rows-rows_at : (bytes : List ℕ) (at r c : ℕ) → at + c * r ≤ length bytes
    → walk_rows c bytes (place at r c) ≡ rows_at r c (drop at bytes)
unfolding walk_rows rows_at
walk_rows-rows_at bytes at r zero fits = refl
walk_rows-rows_at bytes at r (suc c) fits =
    rw (
      step_row-some bytes (place at r (suc c)) (has-row bytes at r c fits),
      next_place bytes at r c fits,
      walk_rows-rows_at bytes (at + r) r c (omega arith),
      drop-drop r at bytes,
    )

-- and after i of them the walk is past i rows, with the others left
walk_after-rows : (bytes : List ℕ) (i at r c : ℕ) → i ≤ c → at + c * r ≤ length bytes
    → walk_after i bytes (place at r c) ≡ place (at + i * r) r (c - i)
unfolding walk_after
walk_after-rows bytes zero at r c h fits = rw (zero-mul r, add-zero at, sub-zero c)
walk_after-rows bytes (suc i) at r zero h fits = absurd (omega arith)
walk_after-rows bytes (suc i) at r (suc c) h fits =
    let e : at + r + i * r ≡ at + suc i * r = omega arith in
    let f : c - i ≡ suc c - suc i = omega arith in
    rw (next_place bytes at r c fits, walk_after-rows bytes i (at + r) r c (omega arith) (omega arith), e, f)

-- so the row handed out then is the one i rows further on
row_start-rows : (bytes : List ℕ) (i at r c : ℕ) → i < c → at + c * r ≤ length bytes
    → row_start bytes (walk_after i bytes (place at r c)) ≡ at + i * r
row_start-rows bytes i at r c less fits =
    let there = place (at + i * r) r (c - i) in
    let inside : suc i * r ≤ c * r = mul-le-mul_right r less in
    let has = has_row-of-le bytes there (omega arith) (omega arith) in
    ap (row_start bytes) (walk_after-rows bytes i at r c (omega arith) fits) ∙ row_start-some bytes there has

walk_after-add : (bytes : List ℕ) (m n : ℕ) (walk : Cursor)
    → walk_after (m + n) bytes walk ≡ walk_after n bytes (walk_after m bytes walk)
unfolding walk_after
walk_after-add bytes zero n walk = let e : 0 + n ≡ n = omega arith in rw e
walk_after-add bytes (suc m) n walk =
    let e : suc m + n ≡ suc (m + n) = omega arith in
    rw (e, walk_after-add bytes m n (step_walk bytes walk))

-- the end stays the end
walk_after-end : (bytes : List ℕ) (n : ℕ) (walk : Cursor) → has_row bytes walk ≡ false
    → walk_after n bytes walk ≡ walk
unfolding walk_after
walk_after-end bytes zero walk e = refl
walk_after-end bytes (suc n) walk e = rw (step_walk-end bytes walk e, walk_after-end bytes n walk e)

module _ (bytes : List ℕ) (file : Located Placement) (e : read_placement bytes ≡ accepted file) where
  abbrev p : Placement
  p = file.content

  abbrev walk : Cursor
  walk = first_row file

  -- "A row walk opens on a placement": at the first of its b rows.
  pub opens-at-first : open_walk bytes ≡ accepted walk
  unfolding open_walk
  opens-at-first = ap (map_accepted first_row) e

  -- The first b steps hand out the placement's rows, all of them, in the file's order.
  pub walks-all-rows : walk_rows p.b bytes walk ≡ all_rows p.layers
  walks-all-rows =
      let l = rows_in bytes file e in
      walk_rows-rows_at bytes file.first p.r p.b (omega arith) ∙ l.rows

  -- Each is handed out where it stands in the file: row i begins i × r bytes past the first.
  pub walks-in-place : (i : ℕ) → i < p.b → row_start bytes (walk_after i bytes walk) ≡ file.first + i * p.r
  walks-in-place i less =
      let l = rows_in bytes file e in
      row_start-rows bytes i file.first p.r p.b less (omega arith)

  none_left : (walk_after p.b bytes walk).left ≡ 0
  none_left =
      let l = rows_in bytes file e in
      let zero_left : p.b - p.b ≡ 0 = omega arith in
      ap (λ walk. walk.left) (walk_after-rows bytes p.b file.first p.r p.b (omega arith) (omega arith))
      ∙ zero_left

  -- "After b steps it gives the end, an empty part with the walk unmoved", however many steps are taken then.
  pub walks-to-end : (m : ℕ) → (step_row bytes (walk_after (p.b + m) bytes walk) ≡ [])
      × (walk_after (p.b + m) bytes walk ≡ walk_after p.b bytes walk)
  walks-to-end m =
      let last = walk_after p.b bytes walk in
      let at-end = not-has_row-of-none bytes last none_left in
      let same = walk_after-add bytes p.b m walk ∙ walk_after-end bytes m last at-end in
      (ap (step_row bytes) same ∙ step_row-end bytes last at-end, same)
