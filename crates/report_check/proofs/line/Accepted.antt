-- The line of `check`, from the answer of the placement's check. Assumes nothing.
use Prim.Native.Nat.{ℕ, ◌+◌, ◌*◌, ◌≤◌}
use Rattle.std.specs.Prelude.{Result, Ok, Err}
use native.Mathlib.Omega.{arith}
use mathlib.Core.Path.{◌≡◌, refl, sym, ◌∙◌, ap, subst}
use mathlib.Core.List.{List}
use lib.ListN.{length}
use lib.Dec.{T}
use Rattle.lists.specs.Lists.{All}
use Rattle.lists.proofs.Alls.{all-imp}
use Rattle.refusal.specs.declared.Refusal.{Refusal}
use Rattle.refusal.specs.Checked.{Checked, accepted, refused}
use Rattle.packing.specs.Rows.{Row, is_in_order}
use Rattle.packing.specs.Load.{most}
use Rattle.layers.specs.Layers.{Located, all_rows}
use Rattle.placement.specs.Placement.{Placement, read_placement, check_placement}
use Rattle.placement.specs.Answers.{placement_head, placement_checked}
use Rattle.placement.specs.declared.PlacementHead.{PlacementHead}
use Rattle.placement.specs.declared.PlacementCheck.{PlacementCheck}
use Rattle.placement.proofs.Rows.{rows_in}
use Rattle.report.specs.Load.{mean}
use Rattle.report_check.specs.Load.{rows_of}
use Rattle.report.specs.Programs.{accepted_line, refused_line, summary, check_line}

-- An accepted input's rows stand from its first row's place on and are all in order, and its line has these numbers.
pub record LineOf (input : List ℕ) (h : PlacementHead) : Type 0 where
  pub n-least : 1 ≤ h.n
  pub n-most : h.n ≤ 255
  pub r-most : h.r ≤ 5
  pub b-most : h.b ≤ 4_096
  pub within : h.first + h.b * h.r ≤ length input
  pub ordered : All (λ row. T (is_in_order h.n row)) (rows_of input h h.b)
  pub line : check_line input
      ≡ accepted_line
      (record {
        figure = h.figure;
        b = h.b;
        k = h.k;
        n = h.n;
        most = most h.n (rows_of input h h.b);
        mean = mean h.b h.r h.n;
      })

line-of-accepted : (input : List ℕ) (file : Located Placement) → read_placement input ≡ accepted file → LineOf input (placement_head file)
unfolding check_placement check_line summary
line-of-accepted input file e =
    let p = file.content in
    let l = rows_in input file e in
    let base = l.good.limits.base in
    record {
      n-least = omega (arith, base.n-least);
      n-most = base.n-most;
      r-most = base.r-most;
      b-most = l.good.limits.order.b-most;
      within = l.ends;
      ordered =
          rw l.rows
          (all-imp (Row p.n p.r) (λ row. T (is_in_order p.n row)) (λ row h. h.1) (all_rows p.layers) l.good.rows);
      line = rw (l.rows, e);
    }

-- what the code's answer says
module _ (input : List ℕ) (check : PlacementCheck) (is : check ≡ placement_checked (read_placement input)) where
  answered : {answer : Result PlacementHead Refusal} (o : Checked (Located Placement)) → check.answer ≡ answer → read_placement input ≡ o
      → answer ≡ (placement_checked o).answer
  answered o a e = sym a ∙ ap (λ check. check.answer) (is ∙ ap placement_checked e)

  pub line-of-check : {head : PlacementHead} → check.answer ≡ Ok head → LineOf input head
  line-of-check {head} a = go (read_placement input) refl
    where
      go : (o : Checked (Located Placement)) → read_placement input ≡ o → LineOf input head
      go (accepted file) e =
          let same = answered (accepted file) a e in
          let head-is : placement_head file ≡ head = cc in
          subst (LineOf input) head-is (line-of-accepted input file e)
      go (refused why) e = let same = answered (refused why) a e in absurd (let z : ◌≡◌ {A = ℕ} 0 1 = cc in omega arith)

  pub refused-of-check : {why : Refusal} → check.answer ≡ Err why → check_line input ≡ refused_line why
  unfolding check_line check_placement
  refused-of-check {why} a = go (read_placement input) refl
    where
      go : (o : Checked (Located Placement)) → read_placement input ≡ o → check_line input ≡ refused_line why
      go (accepted file) e = let same = answered (accepted file) a e in absurd (let z : ◌≡◌ {A = ℕ} 0 1 = cc in omega arith)
      go (refused other) e =
          let same = answered (refused other) a e in
          let why-is : other ≡ why = cc in
          rw (e, why-is)
