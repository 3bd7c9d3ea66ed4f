-- Blocks that are repeated, a run at a time: what is written stands there as whole copies of the blocks. Assumes nothing.
use Prim.Native.Nat.{ℕ, zero, suc, ◌+◌, ◌*◌, ◌-◌, ◌%◌, ◌≤◌, ◌<◌, min}
use native.Mathlib.Nat.{mod-add-mod, mod-eq_of_lt, mod-lt, mod_self, mul-le-mul_right, zero-add, zero-mul}
use native.Mathlib.Numerals.{add-one}
use native.Mathlib.Omega.{arith}
use mathlib.Core.Path.{◌≡◌, sym, ap, ◌∙◌}
use mathlib.Core.List.{List, [], ◌++◌, flatten, append_assoc, append-nil}
use lib.ListN.{length, get_or, take, drop, length-append, length-drop}
use lib.Seq.{drop-drop, drop_at, length-take-le, take-add, take_all, take-append-le, take_at}
use Rattle.std.specs.List.{copy_within}
use Rattle.lists.proofs.Arith.{run-end-le}
use Rattle.lists.specs.Lists.{over_start, up_to}
use Rattle.packing.specs.Rows.{rows_at, repeated}
use Rattle.packing.proofs.RowsAt.{length-rows_at, get_d-rows_at}
use Rattle.packing.proofs.Blocks.{flatten-repeated-next}

-- after whole copies of the blocks they begin anew
pub repeated-again : (blocks : List (List ℕ)) (w k : ℕ) → w % length blocks ≡ 0
    → flatten (repeated blocks (w + k)) ≡ flatten (repeated blocks w) ++ flatten (repeated blocks k)
unfolding repeated flatten up_to
repeated-again blocks w zero h = let e : w + 0 ≡ w = omega arith in rw e (sym (append-nil (flatten (repeated blocks w))))
repeated-again blocks w (suc k) h =
    let e : w + suc k ≡ w + k + 1 = omega arith in
    let turn : (w + k) % length blocks ≡ k % length blocks =
    sym (mod-add-mod w (length blocks) k) ∙ rw h (ap (λ j. j % length blocks) (zero-add k)) in
    let next : flatten (repeated blocks (suc k)) ≡ flatten (repeated blocks k) ++ get_or blocks (k % length blocks) [] =
    ap (λ j. flatten (repeated blocks j)) (sym (add-one k)) ∙ flatten-repeated-next blocks k in
    rw (e, flatten-repeated-next blocks (w + k), turn, repeated-again blocks w k h, next)
    (append_assoc (flatten (repeated blocks w)) (flatten (repeated blocks k)) (get_or blocks (k % length blocks) []))

-- the first rows that are written, where no block comes twice
pub repeated-once : (r m : ℕ) (blocks : List ℕ) (k : ℕ) → k ≤ m → flatten (repeated (rows_at r m blocks) k) ≡ take (k * r) blocks
unfolding repeated flatten up_to
repeated-once r m blocks zero h = rw (zero-mul r)
repeated-once r m blocks (suc k) h =
    let turn : k % length (rows_at r m blocks) ≡ k = rw (length-rows_at r m blocks) (mod-eq_of_lt (omega arith)) in
    let e : suc k * r ≡ k * r + r = omega arith in
    ap (λ j. flatten (repeated (rows_at r m blocks) j)) (sym (add-one k))
    ∙ flatten-repeated-next (rows_at r m blocks) k
    ∙ rw (turn, repeated-once r m blocks k (omega arith), get_d-rows_at r m blocks k (omega arith), e)
    (sym (take-add (k * r) r blocks))

-- what writing rows asks: room for them, whole blocks, and a block where there is a row
abbrev RowsFit : (out blocks : List ℕ) (m r c : ℕ) → Type 0
RowsFit out blocks m r c = (c * r ≤ length out) × ((m * r ≤ length blocks) × (0 < c → 0 < m))

-- `written` of c rows stand at the front, whole copies of the blocks where rows are left, and what follows is as it was
pub record Run (out₀ blocks : List ℕ) (m r c : ℕ) (out : List ℕ) (written : ℕ) : Type 0 where
  pub within : written ≤ c
  pub some : 0 < c → 0 < written
  pub whole : written < c → written % m ≡ 0
  pub same : length out ≡ length out₀
  pub bytes : out ≡ flatten (repeated (rows_at r m blocks) written) ++ drop (written * r) out₀

module _ (r m : ℕ) (blocks : List ℕ) (fits : m * r ≤ length blocks) (some : 0 < m) where
  length-block : (k : ℕ) → length (get_or (rows_at r m blocks) (k % length (rows_at r m blocks)) []) ≡ r
  length-block k =
      let lt : k % m < m = mod-lt k some in
      rw (length-rows_at r m blocks, get_d-rows_at r m blocks (k % m) lt)
      (length-take-le r (drop (k % m * r) blocks) (simp length-drop (omega (arith, run-end-le r lt, fits))))

  length_run : (k : ℕ) → length (flatten (repeated (rows_at r m blocks) k)) ≡ k * r
  unfolding repeated flatten up_to
  length_run zero = sym (zero-mul r)
  length_run (suc k) =
      ap (λ j. length (flatten (repeated (rows_at r m blocks) j))) (sym (add-one k))
      ∙ ap length (flatten-repeated-next (rows_at r m blocks) k)
      ∙ length-append (flatten (repeated (rows_at r m blocks) k)) (get_or (rows_at r m blocks) (k % length (rows_at r m blocks)) [])
      ∙ omega (arith, length-block k, length_run k)

  -- the first k rows of more
  run-start : (k d : ℕ) → take (k * r) (flatten (repeated (rows_at r m blocks) (k + d))) ≡ flatten (repeated (rows_at r m blocks) k)
  run-start k zero =
      let e : k + 0 ≡ k = omega arith in
      rw e (take_all (k * r) (flatten (repeated (rows_at r m blocks) k)) (omega (arith, length_run k)))
  run-start k (suc d) =
      let e : k + suc d ≡ k + d + 1 = omega arith in
      let long : (k + d) * r ≡ k * r + d * r = omega arith in
      rw (e, flatten-repeated-next (rows_at r m blocks) (k + d))
      (take-append-le (k * r) (flatten (repeated (rows_at r m blocks) (k + d)))
      (get_or (rows_at r m blocks) ((k + d) % length (rows_at r m blocks)) []) (omega (arith, length_run (k + d), long))
      ∙ run-start k d)

-- the blocks that are written once are there, and there is room for them
pub once-fits : (out blocks : List ℕ) (m r c once : ℕ) → RowsFit out blocks m r c → once ≡ min m c
    → (once * r ≤ length blocks) × (once * r ≤ length out)
once-fits out blocks m r c once fit e =
    let left : once ≤ m = omega (arith, e) in
    let right : once ≤ c = omega (arith, e) in
    (omega (arith, mul-le-mul_right r left, fit.1.0), omega (arith, mul-le-mul_right r right, fit.0))

-- the blocks are written once
pub run-first : {out₀ blocks : List ℕ} {m r c : ℕ} (out : List ℕ) (once : ℕ) → RowsFit out₀ blocks m r c → once ≡ min m c
    → out ≡ over_start (take (once * r - 0) (drop 0 blocks)) out₀ → Run out₀ blocks m r c out once
run-first {out₀} {blocks} {m} {r} {c} out once fit o≡ e =
    let left : once ≤ m = omega (arith, o≡) in
    let right : once ≤ c = omega (arith, o≡) in
    let part : once * r - 0 ≡ once * r = omega arith in
    let room = once-fits out₀ blocks m r c once fit o≡ in
    let long : length (take (once * r) blocks) ≡ once * r = length-take-le (once * r) blocks room.0 in
    let wrote : out ≡ take (once * r) blocks ++ drop (once * r) out₀ = e ∙ rw (part, long) in
    record {
      within = right;
      some = λ h. omega (arith, fit.1.1 h, o≡);
      whole = λ h. let all : once ≡ m = omega (arith, o≡) in rw all (mod_self m);
      same =
          ap length wrote
          ∙ length-append (take (once * r) blocks) (drop (once * r) out₀) ∙ simp length-drop (omega (arith, long, room.1));
      bytes = wrote ∙ rw (repeated-once r m blocks once left);
    }

-- and what stands there again
pub run-next : {out₀ blocks out : List ℕ} {m r c written : ℕ} (more : ℕ) → Run out₀ blocks m r c out written
    → RowsFit out₀ blocks m r c → written < c → more ≡ min written (c - written)
    → (now : List ℕ) → now ≡ copy_within out 0 (more * r) (written * r) → Run out₀ blocks m r c now (written + more)
run-next {out₀} {blocks} {out} {m} {r} {c} {written} more run fit h e now n≡ =
    let rows = rows_at r m blocks in
    let few : written + more ≤ c = omega (arith, e) in
    let most : more ≤ written = omega (arith, e) in
    let split : more + (written - more) ≡ written = omega (arith, e) in
    let some : 0 < m = fit.1.1 (omega arith) in
    let sum : (written + more) * r ≡ written * r + more * r = omega arith in
    let room : (written + more) * r ≤ length out₀ =
    omega (arith, mul-le-mul_right r few, fit.0) in
    let long : length (flatten (repeated rows written)) ≡ written * r = length_run r m blocks fit.1.0 some written in
    let again : take (more * r) (flatten (repeated rows written)) ≡ flatten (repeated rows more) =
    rw split at (run-start r m blocks fit.1.0 some more (written - more)) in
    let start : take (more * r) out ≡ flatten (repeated rows more) =
    rw run.bytes
    (take-append-le (more * r) (flatten (repeated rows written)) (drop (written * r) out₀)
    (omega (arith, long, mul-le-mul_right r most))
    ∙ again) in
    let front : take (written * r) out ≡ flatten (repeated rows written) =
    rw run.bytes (take_at (flatten (repeated rows written)) (drop (written * r) out₀) (written * r) long) in
    let back : drop (written * r + more * r) out ≡ drop ((written + more) * r) out₀ =
    sym (drop-drop (more * r) (written * r) out)
    ∙ rw (run.bytes, drop_at (flatten (repeated rows written)) (drop (written * r) out₀) (written * r) long, sum)
    (drop-drop (more * r) (written * r) out₀) in
    let part : more * r - 0 ≡ more * r = omega arith in
    let all : now ≡ flatten (repeated rows (written + more)) ++ drop ((written + more) * r) out₀ =
    n≡ ∙ rw (
      part,
      start,
      front,
      back,
      repeated-again rows written more (rw (length-rows_at r m blocks) (run.whole h)),
    ) in
    record {
      within = few;
      some = λ any. omega (arith, run.some any);
      whole = λ left.
          let twice : more ≡ written = omega arith in
          rw twice (sym (mod-add-mod written m written) ∙ rw (run.whole h, zero-add written) (run.whole h));
      same =
          ap length all
          ∙ length-append (flatten (repeated rows (written + more))) (drop ((written + more) * r) out₀)
          ∙ simp length-drop (omega (arith, length_run r m blocks fit.1.0 some (written + more), room));
      bytes = all;
    }

-- after the last row
pub run-all : {out₀ blocks out : List ℕ} {m r c written : ℕ} → Run out₀ blocks m r c out written → c ≤ written
    → out ≡ flatten (repeated (rows_at r m blocks) c) ++ drop (c * r) out₀
run-all {c = c} {written = written} run h = let all : written ≡ c = omega (arith, run.within) in rw (← all) run.bytes

-- and so is the room for what is written again
pub run_fits : {out₀ blocks out : List ℕ} {m r c written : ℕ} (more : ℕ) → Run out₀ blocks m r c out written
    → RowsFit out₀ blocks m r c → written < c → more ≡ min written (c - written)
    → (more * r ≤ written * r) × (written * r + more * r ≤ length out)
run_fits {r = r} {c = c} {written = written} more run fit h e =
    let few : written + more ≤ c = omega (arith, e) in
    let most : more ≤ written = omega (arith, e) in
    let sum : (written + more) * r ≡ written * r + more * r = omega arith in
    (mul-le-mul_right r most, omega (arith, mul-le-mul_right r few, sum, fit.0, run.same))
