-- Rows that are kept, one after the other. Assumes nothing.
use Prim.Native.Nat.{ℕ, suc, ◌+◌, ◌*◌, ◌-◌, ◌≤◌, ◌<◌}
use native.Mathlib.Nat.{le_refl, mul-le-mul}
use native.Mathlib.Omega.{arith}
use mathlib.Core.Path.{◌≡◌, refl, sym, ap, ◌∙◌}
use mathlib.Core.Bool.{Bool, true, false, cond}
use mathlib.Core.List.{List, [], ◌∷◌, ◌++◌, map, flatten, append-nil}
use lib.Dec.{T}
use lib.ListN.{length, take, drop, length-append, length-drop}
use lib.Seq.{length-take-le}
use Rattle.lists.specs.Lists.{All, total, over_start}
use Rattle.lists.proofs.Alls.{all-imp, length-flatten}
use Rattle.lists.proofs.Arith.{run-end-le}
use Rattle.lists.proofs.Counts.{flatten-append}
use Rattle.lists.proofs.Writing.{given_back, take-drop-rest, write-part}
use Rattle.packing.specs.Rows.{ascending, rows_at}
use Rattle.packing.proofs.RowsAt.{rows_at-add, rows_at-lengths, rows_at-flatten, length-rows_at}
use Rattle.crowding.specs.Chains.{AtMost}
use Rattle.crowding_pairs.specs.Codes.{Raised}
use Rattle.crowding_sums.specs.Sums.{leaving_row, in_cell, is_kept, kept_of, weigh, Looked, ToLook, KeptRows, SetsFit, Sifted}
use Rattle.crowding_sums.specs.declared.Sets.{Sets}
use Rattle.crowding_sums.proofs.Enough.{all-kept, kept-enough}

kept_append : (f : List ℕ → Bool) (l m : List (List ℕ)) → kept_of f (l ++ m) ≡ kept_of f l ++ kept_of f m
unfolding kept_of
kept_append f [] m = refl
kept_append f (row ∷ l) m = go (f row) (kept_append f l m)
  where
    go : (b : Bool) → kept_of f (l ++ m) ≡ kept_of f l ++ kept_of f m
        → cond b (row ∷ kept_of f (l ++ m)) (kept_of f (l ++ m)) ≡ cond b (row ∷ kept_of f l) (kept_of f l) ++ kept_of f m
    go true rest = ap (λ t. row ∷ t) rest
    go false rest = rest

kept-le : (f : List ℕ → Bool) (rows : List (List ℕ)) → length (kept_of f rows) ≤ length rows
unfolding kept_of
kept-le f [] = omega arith
kept-le f (row ∷ rows) = go (f row) (kept-le f rows)
  where
    go : (b : Bool) → length (kept_of f rows) ≤ length rows → length (cond b (row ∷ kept_of f rows) (kept_of f rows)) ≤ length (row ∷ rows)
    go true le = omega arith
    go false le = omega arith

-- of the first i rows those that pass, m of them, were written, up to byte `to`
pub record Keeping (f : List ℕ → Bool) (rows : List ℕ) (c r : ℕ) (kept₀ kept : List ℕ) (i m to : ℕ) : Type 0 where
  pub within : i ≤ c
  pub many : m ≡ length (kept_of f (rows_at r i rows))
  pub end : to ≡ length (flatten (kept_of f (rows_at r i rows)))
  pub same : length kept ≡ length kept₀
  pub written : kept ≡ flatten (kept_of f (rows_at r i rows)) ++ drop to kept₀

pub kept-few : {f : List ℕ → Bool} {rows : List ℕ} {c r : ℕ} {kept₀ kept : List ℕ} {i m to : ℕ} → Keeping f rows c r kept₀ kept i m to → m ≤ i
kept-few {f} {rows} {r = r} {i = i} k = omega (arith, k.many, kept-le f (rows_at r i rows), length-rows_at r i rows)

pub keeping_start : {f : List ℕ → Bool} {rows : List ℕ} {c r : ℕ} {kept : List ℕ} → Keeping f rows c r kept kept 0 0 0
unfolding rows_at kept_of flatten
keeping_start = record { within = omega arith; many = refl; end = refl; same = refl; written = refl }

module _ {f : List ℕ → Bool} {rows : List ℕ} {c r : ℕ} {kept₀ kept : List ℕ} {i m to : ℕ} (k : Keeping f rows c r kept₀ kept i m to)
    (whole : c * r ≤ length rows) (room : c * r ≤ length kept₀) (h : i < c) where
  -- the rows so far, those of them that are kept, and the next row
  abbrev before : List (List ℕ)
  before = kept_of f (rows_at r i rows)

  abbrev bytes : List ℕ
  bytes = take (i * r + r - i * r) (drop (i * r) rows)

  bytes-are : bytes ≡ take r (drop (i * r) rows)
  bytes-are = let e : i * r + r - i * r ≡ r = omega arith in rw e

  pub row_fits : i * r + r ≤ length rows
  row_fits = omega (arith, run-end-le r h, whole)

  bytes-length : length bytes ≡ r
  bytes-length =
      rw bytes-are (length-take-le r (drop (i * r) rows) (simp length-drop (omega (arith, run-end-le r h, whole))))

  -- there is room for the row
  pub room-left : to + r ≤ c * r
  room-left =
      let lengths : All (λ row. length row ≡ r) before =
      all-kept (λ row. length row ≡ r) f (rows_at r i rows) (rows_at-lengths r i rows (omega (arith, run-end-le r h, whole))) in
      let few : length before ≤ i = omega (arith, kept-le f (rows_at r i rows), length-rows_at r i rows) in
      omega (arith, k.end, length-flatten r before lengths, mul-le-mul few (le_refl r), run-end-le r h)

  pub keep-fits : length bytes ≤ length (take (length kept - to) (drop to kept))
  keep-fits =
      rw (take-drop-rest kept to) (simp length-drop (omega (arith, bytes-length, k.same, room-left, room)))

  -- and its sets' sums can be looked at
  pub row-looked : {d : ℕ} {weights table : List ℕ} → ToLook rows c r d weights table → Looked weights (weigh weights bytes) bytes table
  row-looked look = record {
    short = omega (arith, bytes-length, look.fit.five);
    known = look.known;
    held = omega arith;
    cells = look.cells;
  }

  rows_next : rows_at r (i + 1) rows ≡ rows_at r i rows ++ (bytes ∷ [])
  unfolding rows_at
  rows_next = rw bytes-are (rows_at-add r i 1 rows)

  kept-past : f bytes ≡ false → kept_of f (rows_at r (i + 1) rows) ≡ before
  unfolding kept_of
  kept-past e = rw (rows_next, kept_append f (rows_at r i rows) (bytes ∷ []), e) (append-nil before)

  kept_more : f bytes ≡ true → kept_of f (rows_at r (i + 1) rows) ≡ before ++ (bytes ∷ [])
  unfolding kept_of
  kept_more e = rw (rows_next, kept_append f (rows_at r i rows) (bytes ∷ []), e)

  flat-more : flatten (before ++ (bytes ∷ [])) ≡ flatten before ++ bytes
  unfolding flatten
  flat-more = rw (flatten-append before (bytes ∷ []), append-nil bytes)

  -- the next row is left out
  pub keeping-past : f bytes ≡ false → Keeping f rows c r kept₀ kept (i + 1) m to
  keeping-past e = record {
    within = omega arith;
    many = k.many ∙ ap length (sym same);
    end = k.end ∙ ap (λ l. length (flatten l)) (sym same);
    same = k.same;
    written = k.written ∙ ap (λ l. flatten l ++ drop to kept₀) (sym same);
  }
    where
      same : kept_of f (rows_at r (i + 1) rows) ≡ before
      same = kept-past e

  -- the next row is kept
  pub keeping-next : f bytes ≡ true → {last : List ℕ} → last ≡ over_start bytes (take (length kept - to) (drop to kept))
      → Keeping f rows c r kept₀ (given_back kept to last) (i + 1) (m + 1) (to + r)
  keeping-next e {last} is = record {
    within = omega arith;
    many = omega (arith, k.many, ap length more, length-append before (bytes ∷ []));
    end = omega (arith, k.end, ap length flat, length-append (flatten before) bytes, bytes-length);
    same = ap length put
        ∙ simp (length-append, length-drop) (omega (arith, k.end, bytes-length, room-left, room));
    written = put ∙ rw (flat, bytes-length) refl;
  }
    where
      put : given_back kept to last ≡ flatten before ++ bytes ++ drop (to + length bytes) kept₀
      put = write-part (flatten before) bytes kept₀ kept last to (sym k.end) k.written is

      more : kept_of f (rows_at r (i + 1) rows) ≡ before ++ (bytes ∷ [])
      more = kept_more e

      flat : flatten (kept_of f (rows_at r (i + 1) rows)) ≡ flatten before ++ bytes
      flat = rw more flat-more

pub keeping_all : {f : List ℕ → Bool} {rows : List ℕ} {c r : ℕ} {kept₀ kept : List ℕ} {i m to : ℕ}
    → Keeping f rows c r kept₀ kept i m to → c * r ≤ length rows → c ≤ i → KeptRows f (rows_at r c rows) r m kept
keeping_all {f} {rows} {c} {r} {i = i} {to = to} k whole h =
    let all : i ≡ c = omega (arith, k.within) in
    let lengths : All (λ row. length row ≡ r) (kept_of f (rows_at r c rows)) =
    all-kept (λ row. length row ≡ r) f (rows_at r c rows) (rows_at-lengths r c rows whole) in
    let many = rw all at k.many in
    record {
      many = many;
      whole = rw (k.written, all)
          (simp (length-append) (omega (arith, ap (λ n. n * r) many, length-flatten r (kept_of f (rows_at r c rows)) lengths)));
      are = rw (many, k.written, all) (rows_at-flatten r (kept_of f (rows_at r c rows)) _ lengths);
    }

-- the table holds how often each sum comes, so what is kept is enough
module _ {rows : List ℕ} {r : ℕ} {sets : Sets} {kept₀ : List ℕ} (given : SetsFit rows r sets kept₀) where
  -- how many nodes a set has less than a row
  abbrev less : ℕ
  less = r - 1 - sets.x

  pub to-look : {weights table : List ℕ} → length weights ≡ 256 → length table ≡ 65536 → ToLook rows sets.c r less weights table
  to-look known cells = record { fit = given.fit; three = omega (arith, given.small, given.three); known = known; cells = cells }

  abbrev all-rows : List (List ℕ)
  all-rows = rows_at r sets.c rows

  lengths : All (λ row. length row ≡ suc sets.x + less) all-rows
  lengths =
      all-imp (λ row. length row ≡ r) (λ row. length row ≡ suc sets.x + less) (λ row e. omega (arith, e, given.small)) all-rows
      (rows_at-lengths r sets.c rows given.fit.whole)

  pub sifted : (weights table table' : List ℕ) {m : ℕ} {kept : List ℕ} → AtMost 0 table
      → Raised (λ p. total (map (leaving_row weights (in_cell p) less) all-rows)) table table'
      → KeptRows (is_kept weights table' sets.bound less) all-rows r m kept → Sifted r sets rows m kept
  sifted weights table table' {m} {kept} zeros raised keeps =
      let passes = is_kept weights table' sets.bound less in
      record {
        fewer = omega (arith, keeps.many, kept-le passes all-rows, length-rows_at r sets.c rows);
        whole = keeps.whole;
        order = rw keeps.are (all-kept (λ row. T (ascending 0 row)) passes all-rows given.order);
        enough = rw keeps.are
            (kept-enough weights table' less (suc sets.x) sets.bound all-rows lengths given.order
            (λ p. omega (arith, raised.cell p, zeros p)) sets.x refl);
      }
