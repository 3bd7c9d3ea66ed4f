-- Before the first event: the placement is checked, and its records are listed on a board of zeros, by node or, in kind 6, by feeder.
-- Assumes nothing.
use Prim.Native.Nat.{ℕ, zero, suc, ◌+◌, ◌-◌, ◌*◌, ◌≤◌, ◌<◌}
use Rattle.std.specs.Prelude.{Ok, Err}
use native.Mathlib.Omega.{arith}
use mathlib.Core.Path.{◌≡◌, refl, sym, ◌∙◌, ap, ap₂, subst}
use mathlib.Core.Bool.{Bool, true, false, not, ◌&&◌}
use mathlib.Core.List.{List, [], ◌++◌, flatten, append-nil}
use mathlib.Core.Option.{none}
use lib.ListN.{length, get_or, take, drop, length-append, length-drop}
use lib.Seq.{take-append_seam, get_or-drop, drop_at}
use lib.Dec.{T, ltb, ltb→lt}
use borrow.Author.Tests.{lt-ltb}
use Rattle.lists.specs.Lists.{All, every, up_to}
use Rattle.lists.proofs.Alls.{all-imp, every-all}
use Rattle.lists.proofs.Counts.{count-not}
use Rattle.lists.proofs.CountUpTo.{count-up_to-congr}
use Rattle.lists.proofs.DoubleCount.{count_none}
use Rattle.lists.proofs.Tests.{false-T, and_right}
use Rattle.lists.proofs.UpTo.{length-up_to}
use Rattle.refusal.specs.declared.Refusal.{Refusal}
use Rattle.refusal.specs.Checked.{accepted}
use Rattle.packing.specs.Rows.{Row, ascending, rows_at}
use Rattle.packing.specs.Failures.{usable}
use Rattle.packing.proofs.RowsAt.{length-rows_at, rows_at-lengths, flatten-rows_at, rows_at-flatten}
use Rattle.layers.specs.Layers.{Located}
use Rattle.placement.specs.Placement.{Placement, read_placement, check_placement}
use Rattle.placement.specs.Units.{units, unit_rows}
use Rattle.placement.specs.Answers.{table_of, rows_by_table, placement_head, placement_checked}
use Rattle.placement.specs.declared.PlacementHead.{PlacementHead}
use Rattle.placement.specs.declared.PlacementCheck.{PlacementCheck}
use Rattle.placement.proofs.Rows.{RowsIn, rows_in}
use Rattle.placement.proofs.Units.{unit-rows-are}
use Rattle.placement.proofs.TableRows.{UnitsIn, units-within, plain-units, fed-units}
use Rattle.placement.proofs.Answered.{check-refused, check-accepted}
use Rattle.worst.specs.Records.{Index, IndexOf}
use Rattle.worst.specs.Asked.{RowsAsked}
use Rattle.worst.proofs.Index.{index-apart}
use Rattle.worst.proofs.Call.{order_of, part_of, worst-asked, fed-asked}
use Rattle.replay.specs.declared.Event.{Event}
use Rattle.replay.specs.declared.Progress.{Progress}
use Rattle.replay.specs.declared.Replayed.TheVariants.{Quiet, Refused}
use Rattle.replay.specs.Log.{all_up}
use Rattle.replay.specs.Replays.{lowest_of, check_replay}
use Rattle.replay.specs.Answers.{replay_answer}
use Rattle.replay.specs.Board.{index_of, down_of, hits_of, on_down, value_by, one_pass, Counting, Standing, Begun}
use Rattle.replay.proofs.Parts.{get_d-hits}
use Rattle.replay.proofs.Pass.{pass_same, value-usable}

row_below : (n r : ℕ) (row : List ℕ) → Row n r row → All (λ v. v < n) row
row_below n r row h =
    all-imp (λ v. T (ltb v n)) (λ v. v < n) (λ v t. ltb→lt v n t) row
    (every-all (λ v. ltb v n) row (and_right (ascending 0 row) (every (λ v. ltb v n) row) h.1))

-- no node is down
on_down-none : (index : List ℕ) (down : ℕ → Bool) (i m : ℕ) → ((w : ℕ) → down w ≡ false) → on_down index down i m ≡ 0
unfolding on_down
on_down-none index down i zero h = refl
on_down-none index down i (suc m) h = rw (h m, on_down-none index down i m h) refl

-- every record is usable then
all-usable : (index : List ℕ) (s b : ℕ) (down : ℕ → Bool) → 1 ≤ s → ((w : ℕ) → down w ≡ false) → b ≡ value_by index s b down
all-usable index s b down least h =
    let yes : ltb 0 s ≡ true = lt-ltb 0 s least in
    let same = count-up_to-congr (λ i. ltb (on_down index down i 256) s) (λ i. ltb 0 s) b (λ i lt. ap (λ n. ltb n s) (on_down-none index down i 256 h)) in
    sym
    (same
    ∙ omega (
      arith,
      count-not (λ i. ltb 0 s) (up_to b),
      count_none (λ i. not (ltb 0 s)) (up_to b) (λ i t. false-T (ap not yes) t),
      length-up_to b,
    ))

-- the index on a board of zeros
module _ (zeros index : List ℕ) (long : length zeros ≡ 25_089) (none-set : (q : ℕ) → get_or zeros q 0 ≡ 0) (size : length index ≡ 20_737) where
  abbrev board : List ℕ
  board = index ++ drop 20_737 zeros

  board-long : length (index ++ drop 20_737 zeros) ≡ 25_089
  board-long = length-append index (drop 20_737 zeros) ∙ omega (arith, length-drop 20_737 zeros)

  board-index : index_of (index ++ drop 20_737 zeros) ≡ index
  board-index = ap (λ n. take n (index ++ drop 20_737 zeros)) (sym size) ∙ take-append_seam index (drop 20_737 zeros)

  board-rest : (q : ℕ) → get_or (index ++ drop 20_737 zeros) (20_737 + q) 0 ≡ 0
  board-rest q =
      sym (get_or-drop 20_737 (index ++ drop 20_737 zeros) q 0)
      ∙ ap (λ l. get_or l q 0) (drop_at index (drop 20_737 zeros) 20_737 size)
      ∙ get_or-drop 20_737 zeros q 0 ∙ none-set (20_737 + q)

  board-up : (w : ℕ) → down_of (index ++ drop 20_737 zeros) w ≡ false
  board-up w = rw (board-rest w) (no-two (ltb w 256))
    where
      no-two : (t : Bool) → t && false ≡ false
      no-two true = refl
      no-two false = refl

  board-hits : (b i : ℕ) → i < b → get_or (hits_of (index ++ drop 20_737 zeros) b) i 0 ≡ 0
  board-hits b i lt =
      let e : 20_993 + i ≡ 20_737 + (256 + i) = omega arith in
      get_d-hits (index ++ drop 20_737 zeros) b i lt ∙ ap (λ q. get_or (index ++ drop 20_737 zeros) q 0) e ∙ board-rest (256 + i)

  abbrev begun : PlacementHead → (m : ℕ) → Progress
  begun head m = record { n = m; s = head.s; b = head.b; time = 0; usable = head.b; answer = Quiet head.b }

  -- rows in bytes, of m that can fail
  module _ (head : PlacementHead) (m : ℕ) (bytes : List ℕ) (asked : RowsAsked (record { n = m; r = head.r }) (order_of head) bytes)
      (is : IndexOf (rows_at head.r head.b bytes) index) where
    counting : Counting (begun head m) (index ++ drop 20_737 zeros)
    counting =
        record {
          is-index = rw board-index (subst (Index index) (length-rows_at head.r head.b bytes) (index-apart is asked.apart));
          n-most = asked.n-most;
          b-most = asked.b-most;
          counted = λ i lt. board-hits head.b i lt ∙ sym (on_down-none (index_of board) (down_of board) i 256 board-up);
          usable-is = all-usable (index_of board) head.s head.b (down_of board) asked.s-least board-up;
        }

    standing : Standing (begun head m) (index ++ drop 20_737 zeros)
    standing = record { long = board-long; going = λ _. counting }

    -- what the log gives on these rows
    same-pass : All (All (λ v. v < 256)) (rows_at head.r head.b bytes) → (log : List Event)
        → one_pass m (usable head.s (rows_at head.r head.b bytes)) 0 0 all_up log (Quiet head.b)
        ≡ one_pass m (value_by (index_of (index ++ drop 20_737 zeros)) head.s head.b) 0 0 (down_of (index ++ drop 20_737 zeros)) log (Quiet head.b)
    same-pass small log =
        let rows = rows_at head.r head.b bytes in
        let same : (down : ℕ → Bool) → value_by (index_of board) head.s head.b down ≡ usable head.s rows down = λ down.
        ap₂ (λ l n. value_by l head.s n down) board-index (sym (length-rows_at head.r head.b bytes))
        ∙ value-usable head.s is small down in
        λ k. one_pass m (λ down. sym (same down) k) 0 0 (λ w. sym (board-up w) k) log (Quiet head.b)

-- the rows in just their bytes
rows-alone : (r c first : ℕ) (bytes : List ℕ) → first + c * r ≤ length bytes
    → rows_at r c (take (first + c * r - first) (drop first bytes)) ≡ rows_at r c (drop first bytes)
rows-alone r c first bytes inside =
    let s = drop first bytes in
    let few : c * r ≤ length s = omega (arith, length-drop first bytes) in
    let e : first + c * r - first ≡ c * r = omega arith in
    ap (λ n. rows_at r c (take n s)) e
    ∙ ap₂ (rows_at r) (sym (length-rows_at r c s)) (sym (append-nil (flatten (rows_at r c s)) ∙ flatten-rows_at r c s))
    ∙ rows_at-flatten r (rows_at r c s) [] (rows_at-lengths r c s few)

-- what a log gives, by rows in bytes: a number of a row is a byte
record Told (bytes : List ℕ) (head : PlacementHead) (m : ℕ) (rows : List ℕ) : Type 0 where
  small : All (All (λ v. v < 256)) (rows_at head.r head.b rows)
  same : (log : List Event)
      → replay_answer (check_replay bytes log)
      ≡ one_pass m (usable head.s (rows_at head.r head.b rows)) 0 0 all_up log (Quiet head.b)

-- an accepted placement
module _ (bytes : List ℕ) (file : Located Placement) (e : read_placement bytes ≡ accepted file) where
  found : RowsIn bytes file.first file.content
  found = rows_in bytes file e

  alone : rows_at file.content.r file.content.b (part_of (placement_head file) bytes)
      ≡ rows_at file.content.r file.content.b (drop file.first bytes)
  alone = rows-alone file.content.r file.content.b file.first bytes found.ends

  -- the rows of what can fail
  units_small : All (All (λ v. v < 256)) (unit_rows file.content)
  units_small =
      let p = file.content in
      let most = (units-within p found.good).2 in
      let few = found.good.limits.base.n-most in
      all-imp (Row (units p) p.r) (All (λ v. v < 256))
      (λ row h. all-imp (λ v. v < units p) (λ v. v < 256) (λ v lt. omega arith) row (row_below (units p) p.r row h))
      (unit_rows p) (unit-rows-are p found.good)

  told : {m : ℕ} {rows : List ℕ} → UnitsIn file.content m rows → Told bytes (placement_head file) m rows
  unfolding check_replay check_placement lowest_of
  told u =
      let p = file.content in
      record {
        small = rw u.are units_small;
        same = λ log.
            rw (e, u.number, u.are)
            (sym (pass_same (units p) (usable p.s (unit_rows p)) 0 0 all_up log (record { number = p.b; event = none })));
      }

  -- the nodes
  plain : (table_of file.content.feeders).number ≡ 0
      → Told bytes (placement_head file) file.content.n (part_of (placement_head file) bytes)
  plain zero_number =
      let u = plain-units bytes file e zero_number in
      told (record { number = u.number; are = alone ∙ u.are })

  -- the feeders
  fed : ((table_of file.content.feeders).number ≡ 0 → ⊥)
      → Told bytes (placement_head file) (table_of file.content.feeders).number
      (rows_by_table (table_of file.content.feeders).each file.content.r file.content.b (part_of (placement_head file) bytes))
  fed Some-number =
      let p = file.content in
      let u = (fed-units bytes file e Some-number).within [] in
      told (record { number = u.number; are = ap (rows_at p.r p.b) (rw alone (sym (append-nil _))) ∙ u.are })

-- what the answer of the check says
module _ (bytes : List ℕ) {check : PlacementCheck} (is : check ≡ placement_checked (read_placement bytes)) where
  pub begun-refused : {why : Refusal} (board : List ℕ) → length board ≡ 25_089 → check.answer ≡ Err why
      → Begun bytes board (record { n = 0; s = 0; b = 0; time = 0; usable = 0; answer = Refused why })
  unfolding check_replay check_placement
  begun-refused {why} board long a =
      record {
        standing = record { long = long; going = λ never. absurd never };
        same = λ log. rw (check-refused (read_placement bytes) is a) refl;
      }

  module _ {head : PlacementHead} (zeros index : List ℕ) (long : length zeros ≡ 25_089) (none-set : (q : ℕ) → get_or zeros q 0 ≡ 0)
      (size : length index ≡ 20_737) (a : check.answer ≡ Ok head) where
    begun-by : (m : ℕ) (rows : List ℕ) → RowsAsked (record { n = m; r = head.r }) (order_of head) rows → Told bytes head m rows
        → IndexOf (rows_at head.r head.b rows) index
        → Begun bytes (index ++ drop 20_737 zeros)
        (record { n = m; s = head.s; b = head.b; time = 0; usable = head.b; answer = Quiet head.b })
    begun-by m rows asked t lists =
        record {
          standing = standing zeros index long none-set size head m rows asked lists;
          same = λ log. t.same log ∙ same-pass zeros index long none-set size head m rows asked lists t.small log;
        }

    -- a placement without feeders: the records by node
    pub begun-accepted : check.feeders.number ≡ 0 → IndexOf (rows_at head.r head.b (part_of head bytes)) index
        → Begun bytes (index ++ drop 20_737 zeros)
        (record { n = head.n; s = head.s; b = head.b; time = 0; usable = head.b; answer = Quiet head.b })
    begun-accepted unfed =
        let o = check-accepted (read_placement bytes) is a in
        begun-by head.n (part_of head bytes) (worst-asked bytes is a unfed)
        (subst (λ h. Told bytes h h.n (part_of h bytes)) (sym o.head-is)
        (plain bytes o.file o.is-accepted (sym (ap (λ t. t.number) o.feeders-are) ∙ unfed)))

    -- one with feeders: by feeder, g for n
    pub begun-fed : (check.feeders.number ≡ 0 → ⊥)
        → IndexOf (rows_at head.r head.b (rows_by_table check.feeders.each head.r head.b (part_of head bytes))) index
        → Begun bytes (index ++ drop 20_737 zeros)
        (record { n = check.feeders.number; s = head.s; b = head.b; time = 0; usable = head.b; answer = Quiet head.b })
    begun-fed is-fed =
        let o = check-accepted (read_placement bytes) is a in
        let head' = placement_head o.file in
        begun-by check.feeders.number (rows_by_table check.feeders.each head.r head.b (part_of head bytes))
        (fed-asked bytes is a is-fed).asked
        (subst (λ h. Told bytes h check.feeders.number (rows_by_table check.feeders.each h.r h.b (part_of h bytes)))
        (sym o.head-is)
        (subst
        (λ t. Told bytes head' t.number (rows_by_table t.each head'.r head'.b (part_of head' bytes)))
        (sym o.feeders-are) (fed bytes o.file o.is-accepted (λ z. is-fed (ap (λ t. t.number) o.feeders-are ∙ z)))))
