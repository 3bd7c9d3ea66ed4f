-- The loop of `link_rows`: what a turn requires and what it leaves, from the contract of linking a span. Assumes nothing.
use Prim.Native.Nat.{ℕ, ◌+◌, ◌-◌, ◌*◌, ◌≤◌, ◌<◌}
use mathlib.Core.Path.{◌≡◌, refl, ◌∙◌}
use mathlib.Core.List.{List, []}
use native.Mathlib.Omega.{arith}
use lib.ListN.{length}
use Rattle.lists.specs.Lists.{largest}
use Rattle.lists.proofs.Largest.{largest-most}
use Rattle.packing.specs.Rows.{rows_at}
use Rattle.crowding.specs.declared.Level.{Level}
use Rattle.crowding.specs.declared.Span.{Span}
use Rattle.crowding.specs.Tails.{Tail, tails_after, row_tails}
use Rattle.crowding.specs.Chains.{AtMost}
use Rattle.crowding.specs.Linking.{Slices, SpanToLink, SpanLinked, RowsToLink, RowsLinked}
use Rattle.crowding.proofs.Lengths.{slices-kept}
use Rattle.crowding.proofs.Roots.{Root, root-start, root-end, root-fresh, root-next, root-longer, row-whole}

-- the positions of the row from `start` on that are linked
abbrev linkable : (level : Level) (start : ℕ) → Span
linkable level start = record { from = start; to = start + level.r - level.w }

module _ (rows : List ℕ) (c : ℕ) (level : Level) where
  -- what comes of the rows, for each node
  abbrev after : ℕ → List Tail
  after u = tails_after level.w u (row_tails 0 (rows_at level.r c rows)) []

  -- the rows before row i are linked, which begins at `start`; m is the largest count
  pub record RowsLinking (next₀ heads counts next : List ℕ) (i start m : ℕ) : Type 0 where
    pub left : i ≤ c
    pub begins : start ≡ i * level.r
    pub slices : Slices rows heads counts next
    pub all-next : length next ≡ length next₀
    pub few : AtMost i counts
    pub longest : m ≡ largest counts
    pub root : Root level.r level.w c rows after heads counts next i start

module _ {rows : List ℕ} {c : ℕ} {level : Level} {next₀ : List ℕ} where
  pub rows-end : {heads counts next : List ℕ} {i start m : ℕ} → RowsLinking rows c level next₀ heads counts next i start m → c ≤ i
      → RowsLinked rows c level heads counts next
  rows-end h end = record {
    grown = root-end h.root end;
    chained = h.root.chained;
    few = λ u. omega (arith, h.few u, h.left);
  }

  module _ {heads₀ counts₀ : List ℕ} (pre : RowsToLink rows c level heads₀ counts₀ next₀) where
    pub rows_start : RowsLinking rows c level next₀ heads₀ counts₀ next₀ 0 0 0
    rows_start = record {
      left = omega arith;
      begins = omega arith;
      slices = pre.slices;
      all-next = refl;
      few = pre.none;
      longest = omega (arith, largest-most counts₀ 0 pre.none);
      root = root-start pre.none;
    }

    module _ {heads counts next : List ℕ} {i start m : ℕ} (h : RowsLinking rows c level next₀ heads counts next i start m)
        (more : i < c) where
      pos : 0 < level.r
      pos = omega (arith, pre.limits.one)

      -- the row's end
      pub row_inside : (start + level.r ≡ (i + 1) * level.r) × (start + level.r ≤ length rows)
      row_inside =
          let whole = row-whole level.r c rows i pre.whole more in
          (omega (arith, h.begins), omega (arith, h.begins))

      pub rows-to-link : SpanToLink rows (linkable level start) heads counts next m
      rows-to-link = record {
        slices = h.slices;
        inside = omega (arith, row_inside.1);
        few = omega (arith, pre.limits.five);
        below = λ u. omega (arith, h.few u, pre.few, h.left);
        longest = h.longest;
        fresh = root-fresh h.root;
      }

      pub rows_next : {heads' counts' next' : List ℕ} {m' : ℕ}
          → SpanLinked rows (linkable level start) heads counts next heads' counts' next' m'
          → length heads' ≡ length heads → length counts' ≡ length counts → length next' ≡ length next
          → RowsLinking rows c level next₀ heads' counts' next' (i + 1) (start + level.r) m'
      rows_next {heads'} {counts'} {next'} {m'} link eh ec en =
          record {
            left = omega arith;
            begins = row_inside.0;
            slices = slices-kept h.slices eh ec en;
            all-next = en ∙ h.all-next;
            few = root-longer h.root pos pre.order pre.whole more h.begins heads' counts' next' link.chains i h.few;
            longest = link.longest;
            root = root-next h.root pos pre.order pre.whole more h.begins heads' counts' next' link.chains;
          }
