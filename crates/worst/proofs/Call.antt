-- The true worst case from the answer of the placement's check, and what is left in the lent slice. Assumes nothing.
use Prim.Native.Nat.{ℕ, ◌+◌, ◌-◌, ◌*◌, ◌≤◌, ◌<◌}
use Rattle.std.specs.Prelude.{Ok, Err}
use native.Mathlib.Omega.{arith}
use mathlib.Core.Path.{◌≡◌, refl, sym, ◌∙◌, ap, ap₂, subst}
use mathlib.Core.Bool.{true, false}
use mathlib.Core.List.{List, [], ◌++◌, flatten, append-nil}
use lib.ListN.{length, take, drop, length-append, length-drop}
use lib.Seq.{length-take-le, take_at}
use borrow.Author.Tests.{le-leb, lt-leb}
use Rattle.lists.specs.Lists.{All}
use Rattle.refusal.specs.declared.Refusal.{Refusal}
use Rattle.refusal.specs.declared.Refusal.TheVariants.{ShortOutput, TooManySets}
use Rattle.refusal.specs.Checked.{accepted, refused}
use Rattle.packing.specs.Rows.{rows_at}
use Rattle.packing.proofs.Members.{rows-distinct}
use Rattle.packing.proofs.RowsAt.{length-rows_at, rows_at-lengths, flatten-rows_at, rows_at-flatten}
use Rattle.layers.specs.Layers.{Located}
use Rattle.worst.specs.declared.Shape.{Shape}
use Rattle.placement.specs.Placement.{Placement, read_placement, check_placement}
use Rattle.placement.specs.Units.{units, unit_rows}
use Rattle.placement.specs.Answers.{table_of, rows_by_table, placement_head, placement_checked}
use Rattle.placement.specs.declared.Order.{Order}
use Rattle.placement.specs.declared.PlacementHead.{PlacementHead}
use Rattle.placement.specs.declared.PlacementCheck.{PlacementCheck}
use Rattle.placement.proofs.Answered.{check-refused, check-accepted}
use Rattle.placement.proofs.Rows.{RowsIn, rows_in}
use Rattle.placement.proofs.Units.{unit-rows-are}
use Rattle.placement.proofs.TableRows.{UnitsIn, units-within, bytes_below, plain-units, fed-units}
use Rattle.worst.specs.Worst.{few_sets, worst_of, check_worst}
use Rattle.worst.specs.Answers.{WorstDone}
use Rattle.worst.specs.Asked.{RowsAsked, FeedersAsked, RowsDone, worst_from}

module _ (shape : Shape) (order : Order) (rows out : List ℕ) where
  -- too many sets are refused, and the output is as it was
  pub many-refused : few_sets shape.n order.k order.b ≡ false
      → WorstDone (worst_from shape order rows (length out)) out out (Err TooManySets)
  unfolding worst_from
  many-refused e = rw e (record { answer = refl; output-after = refl })

  module _ (few : few_sets shape.n order.k order.b ≡ true) where
    -- and so is too short an output
    pub short-refused : length out < order.k → WorstDone (worst_from shape order rows (length out)) out out (Err (ShortOutput order.k))
    unfolding worst_from
    short-refused short = rw (few, lt-leb order.k (length out) short) (record { answer = refl; output-after = refl })

    -- the set stands at the start of any other
    pub set-written : {left : List ℕ} {number : ℕ} → order.k ≤ length out → RowsDone shape order rows out left number
        → WorstDone (worst_from shape order rows (length out)) out left (Ok number)
    unfolding worst_from
    set-written enough done =
        rw (few, le-leb order.k (length out) enough) (record { answer = ap Ok done.number_is; output-after = done.output-after })

-- the rows of an accepted placement's head
abbrev pub shape_of : PlacementHead → Shape
shape_of head = record { n = head.n; r = head.r }

abbrev pub order_of : PlacementHead → Order
order_of head = record { s = head.s; k = head.k; b = head.b }

-- the part of the bytes that they are
abbrev pub part_of : PlacementHead → List ℕ → List ℕ
part_of head bytes = take (head.first + head.b * head.r - head.first) (drop head.first bytes)

-- the rows in just their bytes
rows-alone : (r c first : ℕ) (bytes : List ℕ) → first + c * r ≤ length bytes
    → rows_at r c (take (first + c * r - first) (drop first bytes)) ≡ rows_at r c (drop first bytes)
rows-alone r c first bytes inside =
    let s = drop first bytes in
    let few : c * r ≤ length s = omega (arith, length-drop first bytes) in
    let e : first + c * r - first ≡ c * r = omega arith in
    ap (λ n. rows_at r c (take n s)) e
    ∙ ap₂ (rows_at r) (sym (length-rows_at r c s)) (sym (append-nil (flatten (rows_at r c s)) ∙ flatten-rows_at r c s))
    ∙ rows_at-flatten r (rows_at r c s) [] (rows_at-lengths r c s few)

module _ (bytes : List ℕ) (file : Located Placement) (e : read_placement bytes ≡ accepted file) where
  abbrev p : Placement
  p = file.content

  found : RowsIn bytes file.first file.content
  found = rows_in bytes file e

  inside : file.first + file.content.b * file.content.r ≤ length bytes
  inside = found.ends

  whole : length (part_of (placement_head file) bytes) ≡ file.content.b * file.content.r
  whole =
      length-take-le (file.first + p.b * p.r - file.first) (drop file.first bytes)
      (omega (arith, length-drop file.first bytes, inside))
      ∙ omega arith

  alone : rows_at file.content.r file.content.b (part_of (placement_head file) bytes)
      ≡ rows_at file.content.r file.content.b (drop file.first bytes)
  alone = rows-alone p.r p.b file.first bytes inside

  -- rows of what can fail
  module _ {n : ℕ} {rows : List ℕ} (u : UnitsIn file.content n rows) where
    asked_of : length rows ≡ file.content.b * file.content.r
        → RowsAsked (record { n = n; r = file.content.r }) (order_of (placement_head file)) rows
    asked_of long =
        let good = found.good in
        let within = units-within p good in
        let l = good.limits in
        let o = l.order in
        record {
          whole = long;
          r-least = omega (arith, l.base.r-least);
          r-most = l.base.r-most;
          n-most = omega (arith, u.number, within.2, l.base.n-most);
          s-least = o.s-least;
          k-least = omega (arith, o.s-least, o.k-least);
          k-most = omega (arith, u.number, within.0);
          b-least = o.b-least;
          b-most = o.b-most;
          apart = rw u.are (rows-distinct (units p) p.r (unit_rows p) (unit-rows-are p good));
        }

    same-worst : (output : ℕ) → check_worst bytes output ≡ worst_from (record { n = n; r = file.content.r }) (order_of (placement_head file)) rows output
    unfolding check_worst check_placement worst_from worst_of
    same-worst output = rw (e, u.number, u.are) refl

  -- the nodes
  plain : (table_of file.content.feeders).number ≡ 0 → UnitsIn file.content file.content.n (part_of (placement_head file) bytes)
  plain zero_number =
      let u = plain-units bytes file e zero_number in
      record { number = u.number; are = alone ∙ u.are }

  -- the feeders
  by_table : List ℕ
  by_table = rows_by_table (table_of file.content.feeders).each file.content.r file.content.b (part_of (placement_head file) bytes)

  module _ (Some-number : (table_of file.content.feeders).number ≡ 0 → ⊥) where
    fed : UnitsIn file.content (table_of file.content.feeders).number by_table
    unfolding by_table
    fed =
        let u = (fed-units bytes file e Some-number).within [] in
        record { number = u.number; are = ap (rows_at p.r p.b) (rw alone (sym (append-nil _))) ∙ u.are }

    below-255 : All (λ v. v < 255) (part_of (placement_head file) bytes)
    below-255 =
        let same : file.first + p.b * p.r - file.first ≡ p.b * p.r = omega arith in
        rw same (bytes_below bytes file e)

    feeders-asked : FeedersAsked (table_of file.content.feeders) file.content.r (order_of (placement_head file)) (part_of (placement_head file) bytes)
    unfolding by_table
    feeders-asked =
        let f = fed-units bytes file e Some-number in
        record {
          below = below-255;
          entries = f.entries;
          inside = whole;
          asked = asked_of fed (rw alone f.long);
        }

-- what the answer of the check says
module _ (bytes : List ℕ) {check : PlacementCheck} (is : check ≡ placement_checked (read_placement bytes)) where
  module _ {head : PlacementHead} (a : check.answer ≡ Ok head) where
    pub worst-inside : head.first + head.b * head.r ≤ length bytes
    worst-inside =
        let o = check-accepted (read_placement bytes) is a in
        rw o.head-is (inside bytes o.file o.is-accepted)

    -- a placement without feeders
    module _ (unfed : check.feeders.number ≡ 0) where
      zero_of : (table_of (check-accepted (read_placement bytes) is a).file.content.feeders).number ≡ 0
      zero_of = sym (ap (λ t. t.number) (check-accepted (read_placement bytes) is a).feeders-are) ∙ unfed

      pub worst-asked : RowsAsked (shape_of head) (order_of head) (part_of head bytes)
      worst-asked =
          let o = check-accepted (read_placement bytes) is a in
          subst (λ h. RowsAsked (shape_of h) (order_of h) (part_of h bytes)) (sym o.head-is)
          (asked_of bytes o.file o.is-accepted (plain bytes o.file o.is-accepted zero_of) (whole bytes o.file o.is-accepted))

      pub worst-of-check : (output : ℕ) → check_worst bytes output ≡ worst_from (shape_of head) (order_of head) (part_of head bytes) output
      worst-of-check output =
          let o = check-accepted (read_placement bytes) is a in
          same-worst bytes o.file o.is-accepted (plain bytes o.file o.is-accepted zero_of) output
          ∙ sym (ap (λ h. worst_from (shape_of h) (order_of h) (part_of h bytes) output) o.head-is)

    -- one with feeders
    module _ (is-fed : check.feeders.number ≡ 0 → ⊥) where
      some_of : (table_of (check-accepted (read_placement bytes) is a).file.content.feeders).number ≡ 0 → ⊥
      some_of z = is-fed (ap (λ t. t.number) (check-accepted (read_placement bytes) is a).feeders-are ∙ z)

      pub fed-asked : FeedersAsked check.feeders head.r (order_of head) (part_of head bytes)
      fed-asked =
          let o = check-accepted (read_placement bytes) is a in
          subst (λ h. FeedersAsked check.feeders h.r (order_of h) (part_of h bytes)) (sym o.head-is)
          (subst (λ t. FeedersAsked t o.file.content.r (order_of (placement_head o.file)) (part_of (placement_head o.file) bytes)) (sym o.feeders-are)
          (feeders-asked bytes o.file o.is-accepted some_of))

      pub worst-of-fed : (output : ℕ)
          → check_worst bytes output
          ≡ worst_from (record { n = check.feeders.number; r = head.r }) (order_of head) (rows_by_table check.feeders.each head.r head.b (part_of head bytes)) output
      unfolding by_table
      worst-of-fed output =
          let o = check-accepted (read_placement bytes) is a in
          same-worst bytes o.file o.is-accepted (fed bytes o.file o.is-accepted some_of) output
          ∙ sym (λ i. worst_from (record { n = (o.feeders-are i).number; r = (o.head-is i).r }) (order_of (o.head-is i))
          (rows_by_table (o.feeders-are i).each (o.head-is i).r (o.head-is i).b (part_of (o.head-is i) bytes)) output)

  pub worst-of-refused : {why : Refusal} → check.answer ≡ Err why → (output : ℕ) → check_worst bytes output ≡ refused why
  unfolding check_worst check_placement
  worst-of-refused a output = rw (check-refused (read_placement bytes) is a)

-- the rows of feeders in the code's buffer: its length, and the part that they are
module _ (fed zeros rows : List ℕ) (m : ℕ) (long : length rows ≡ m) (few : m ≤ length zeros) (is : fed ≡ rows ++ drop m zeros) where
  pub fed-length : length fed ≡ length zeros
  fed-length = rw is (simp (length-append, length-drop) (omega arith))

  pub fed-part : take (m - 0) (drop 0 fed) ≡ rows
  fed-part = let same : m - 0 ≡ m = omega arith in rw (same, is) (take_at rows (drop m zeros) m long)
