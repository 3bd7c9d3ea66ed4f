-- Rows written one after another to the front of a slice. Assumes nothing.
use Prim.Native.Nat.{ℕ, ◌+◌, ◌*◌, ◌-◌, ◌%◌, ◌≤◌, ◌<◌}
use native.Mathlib.Nat.{zero-mod, mod-lt, mod-add-mod}
use native.Mathlib.Omega.{arith}
use mathlib.Core.Path.{◌≡◌, refl, sym, ap, ◌∙◌}
use mathlib.Core.List.{List, [], ◌++◌, flatten}
use lib.ListN.{length, get_or, take, drop, length-append, length-drop}
use lib.Seq.{length-take-le}
use Rattle.lists.specs.Lists.{over_start, up_to}
use Rattle.lists.proofs.Arith.{run-end-le}
use Rattle.lists.proofs.Writing.{given_back, write-part}
use Rattle.packing.specs.Rows.{rows_at, repeated}
use Rattle.packing.proofs.RowsAt.{length-rows_at, get_d-rows_at}
use Rattle.packing.proofs.Blocks.{flatten-repeated-next}

-- `written` of c rows are written. The next row is a copy of `block` and begins at byte `to`; from there on the bytes are as
-- they were.
pub record Written (out₀ blocks : List ℕ) (m r c : ℕ) (out : List ℕ) (written to block : ℕ) : Type 0 where
  pub within : written ≤ c
  pub place : to ≡ written * r
  pub turn : block ≡ written % m
  pub same : length out ≡ length out₀
  pub bytes : out ≡ flatten (repeated (rows_at r m blocks) written) ++ drop to out₀

-- the r bytes of a block
abbrev pub block_at : (r block : ℕ) → List ℕ → List ℕ
block_at r block blocks = take (block * r + r - block * r) (drop (block * r) blocks)

-- What a turn that writes one more row finds: the block is one of the m, and it and the row lie within the slices.
pub record RowTurn (blocks out : List ℕ) (m r to block : ℕ) : Type 0 where
  pub block-lt : block < m
  pub row_fits : to + r ≤ length out
  pub block-fits : block * r + r ≤ length blocks
  pub block-length : length (block_at r block blocks) ≡ r

-- what writing rows asks: room for them, whole blocks, and a block where there is a row
abbrev RowsFit : (out₀ blocks : List ℕ) (m r c : ℕ) → Type 0
RowsFit out₀ blocks m r c = (c * r ≤ length out₀) × ((m * r ≤ length blocks) × (0 < c → 0 < m))

module _ {out₀ blocks out : List ℕ} {m r c written to block : ℕ} (w : Written out₀ blocks m r c out written to block)
    (fit : RowsFit out₀ blocks m r c) (h : written < c) where
  pub row-turn : RowTurn blocks out m r to block
  row-turn =
      let lt : block < m = rw w.turn (mod-lt written (fit.1.1 (omega arith))) in
      let fits : block * r + r ≤ length blocks = omega (arith, run-end-le r lt, fit.1.0) in
      record {
        block-lt = lt;
        row_fits = omega (arith, run-end-le r h, fit.0, w.place, w.same);
        block-fits = fits;
        block-length =
            length-take-le (block * r + r - block * r) (drop (block * r) blocks) (simp length-drop (omega arith)) ∙ omega arith;
      }

  block-is-row : block_at r block blocks
      ≡ get_or (rows_at r m blocks) (written % length (rows_at r m blocks)) []
  block-is-row =
      let e : block * r + r - block * r ≡ r = omega arith in
      let g : get_or (rows_at r m blocks) block [] ≡ take r (drop (block * r) blocks) = get_d-rows_at r m blocks block row-turn.block-lt in
      rw (e, length-rows_at r m blocks, ← w.turn, g)

  length-written : length (flatten (repeated (rows_at r m blocks) written)) ≡ to
  length-written =
      omega (arith, simp (length-append, length-drop) at (ap length w.bytes), w.same, row-turn.row_fits)

  -- one row more
  module _ (last : List ℕ)
      (e : last ≡ over_start (block_at r block blocks) (take (length out - to) (drop to out))) where
    wrote : given_back out to last
        ≡ flatten (repeated (rows_at r m blocks) written) ++ block_at r block blocks ++ drop (to + length (block_at r block blocks)) out₀
    wrote =
        write-part
        (flatten (repeated (rows_at r m blocks) written)) (block_at r block blocks) out₀ out last to length-written w.bytes e

    next-same : length (given_back out to last) ≡ length out₀
    next-same =
        ap length wrote
        ∙ simp (length-append, length-drop) (omega (arith, length-written, row-turn.block-length, row-turn.row_fits, w.same))

    next-bytes : given_back out to last ≡ flatten (repeated (rows_at r m blocks) (written + 1)) ++ drop (to + r) out₀
    next-bytes = wrote ∙ rw (row-turn.block-length, block-is-row, flatten-repeated-next (rows_at r m blocks) written)

    pub written_next : (next : ℕ) → next ≡ (block + 1) % m
        → Written out₀ blocks m r c (given_back out to last) (written + 1) (to + r) next
    written_next next n≡ = record {
      within = omega arith;
      place = omega (arith, w.place);
      turn = n≡ ∙ rw w.turn (mod-add-mod written m 1);
      same = next-same;
      bytes = next-bytes;
    }

-- before the first row
pub written_none : (out blocks : List ℕ) (m r c : ℕ) → Written out blocks m r c out 0 0 0
unfolding flatten repeated up_to
written_none out blocks m r c = record {
  within = omega arith;
  place = omega arith;
  turn = sym (zero-mod m);
  same = refl;
  bytes = refl;
}

-- after the last row
pub written_all : {out₀ blocks out : List ℕ} {m r c written to block : ℕ}
    → Written out₀ blocks m r c out written to block → c ≤ written
    → out ≡ flatten (repeated (rows_at r m blocks) c) ++ drop (c * r) out₀
written_all {out₀} {r = r} {c = c} {written = written} w h =
    let all : written ≡ c = omega (arith, w.within) in
    rw (← all, ← w.place) w.bytes
