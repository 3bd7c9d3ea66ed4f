-- The call from the answer of the placement's check. Assumes nothing.
use Prim.Native.Nat.{ℕ, ◌+◌, ◌*◌, ◌-◌, ◌≤◌, ◌<◌}
use Rattle.std.specs.Prelude.{Result, Ok, Err}
use native.Mathlib.Omega.{arith}
use native.Mathlib.Nat.{mul-le-mul}
use mathlib.Core.Path.{◌≡◌, refl, sym, ◌∙◌, ap, subst}
use mathlib.Core.Bool.{true, false, ◌&&◌, and-eq-true_iff}
use mathlib.Core.List.{List, ◌++◌}
use lib.ListN.{length, take, drop, length-append, length-drop}
use lib.Dec.{leb}
use borrow.Author.Tests.{leb-true}
use Rattle.lists.specs.Lists.{All}
use Rattle.lists.proofs.Alls.{all-imp}
use Rattle.lists.proofs.Writing.{take-drop-rest}
use Rattle.refusal.specs.declared.Refusal.{Refusal}
use Rattle.refusal.specs.declared.Refusal.TheVariants.{BadRounds}
use Rattle.refusal.specs.Checked.{accepted, refused}
use Rattle.packing.specs.Rows.{rows_at}
use Rattle.layers.specs.Layers.{Located}
use Rattle.placement.specs.Placement.{Placement, read_placement, check_placement}
use Rattle.placement.specs.Units.{units, unit_rows}
use Rattle.placement.specs.Answers.{table_of, rows_by_table, placement_head, placement_checked}
use Rattle.placement.specs.declared.PlacementHead.{PlacementHead}
use Rattle.placement.specs.declared.FeederTable.{FeederTable}
use Rattle.placement.specs.declared.PlacementCheck.{PlacementCheck}
use Rattle.placement.proofs.Answered.{check-refused, check-accepted}
use Rattle.placement.proofs.Rows.{RowsIn, rows_in}
use Rattle.placement.proofs.Units.{unit-rows-are}
use Rattle.placement.proofs.TableRows.{bytes_below, plain-units, fed-units}
use Rattle.rounds.specs.Game.{rounds}
use Rattle.rounds.specs.Rounds.{rounds_taken, rounds_of, check_rounds}
use Rattle.rounds.specs.Answers.{rounds_answer}
use Rattle.rounds.specs.Asked.{RowsAsked, RoundsAsked, RowsHeld, FeedersHeld, FeedersPlayed, feeder_head, rounds_from}
use Rattle.rounds.proofs.Number.{rows-below}

-- the limits, one by one
pub record Limits (n b q : ℕ) : Type 0 where
  pub least : 1 ≤ q
  pub most : q ≤ 3
  pub few : n ≤ 10
  pub room : q + 2 ≤ n
  pub records : b ≤ 256

pub limits_of : (n b q : ℕ) → rounds_taken n b q ≡ true → Limits n b q
limits_of n b q e =
    let p = (and-eq-true_iff (leb 1 q && leb q 3 && leb n 10 && leb (q + 2) n) (leb b 256)).0 e in
    let o = (and-eq-true_iff (leb 1 q && leb q 3 && leb n 10) (leb (q + 2) n)).0 p.0 in
    let m = (and-eq-true_iff (leb 1 q && leb q 3) (leb n 10)).0 o.0 in
    let l = (and-eq-true_iff (leb 1 q) (leb q 3)).0 m.0 in
    record {
      least = leb-true 1 q l.0;
      most = leb-true q 3 l.1;
      few = leb-true n 10 m.1;
      room = leb-true (q + 2) n o.1;
      records = leb-true b 256 p.1;
    }

-- rows of nodes below n, of which there are at most ten
pub rows-asked : {rows : List ℕ} {head : PlacementHead} {q : ℕ} → RoundsAsked rows head q → RowsAsked rows head.r head.b
rows-asked {rows} {head} {q} a =
    let limits = limits_of head.n head.b q a.taken in
    record {
      inside = a.inside;
      nodes = all-imp (All (λ v. v < head.n)) (All (λ v. v < 10))
          (λ row h. all-imp (λ v. v < head.n) (λ v. v < 10) (λ v lt. omega (arith, limits.few)) row h)
          (rows_at head.r head.b rows) a.nodes;
    }

module _ (bytes : List ℕ) (head : PlacementHead) (q : ℕ) where
  pub rounds-asked : RowsHeld bytes head → rounds_taken head.n head.b q ≡ true → RoundsAsked (drop head.first bytes) head q
  rounds-asked held e =
      record {
        inside = omega (arith, held.inside, length-drop head.first bytes);
        nodes = held.nodes;
        taken = e;
      }

  pub first-inside : RowsHeld bytes head → head.first ≤ length bytes
  first-inside held = omega (arith, held.inside)

  pub from-refused : rounds_taken head.n head.b q ≡ false → Err BadRounds ≡ rounds_answer (rounds_from bytes head q)
  unfolding rounds_from
  from-refused e = rw e

  pub from-taken : {number : ℕ} → rounds_taken head.n head.b q ≡ true
      → number ≡ rounds head.n head.s (rows_at head.r head.b (drop head.first bytes)) q
      → Ok number ≡ rounds_answer (rounds_from bytes head q)
  unfolding rounds_from
  from-taken e is = rw (e, is)

-- an accepted placement's rows, and the call from its numbers
module _ (bytes : List ℕ) (file : Located Placement) (e : read_placement bytes ≡ accepted file) where
  rows-here : RowsIn bytes file.first file.content
  rows-here = rows_in bytes file e

  -- the rows of what can fail
  units-below : All (All (λ v. v < units file.content)) (unit_rows file.content)
  units-below =
      rows-below (units file.content) file.content.r (unit_rows file.content) (unit-rows-are file.content rows-here.good)

  held_of : (table_of file.content.feeders).number ≡ 0 → RowsHeld bytes (placement_head file)
  held_of unfed =
      let u = plain-units bytes file e unfed in
      record {
        inside = rows-here.ends;
        nodes = rw (u.are, u.number) units-below;
      }

  same-rounds : (table_of file.content.feeders).number ≡ 0 → (q : ℕ) → check_rounds bytes q ≡ rounds_from bytes (placement_head file) q
  unfolding check_rounds check_placement rounds_from rounds_of
  same-rounds unfed q = let u = plain-units bytes file e unfed in rw (e, ← u.number, u.are) refl

  module _ (Some-number : (table_of file.content.feeders).number ≡ 0 → ⊥) where
    feeders-held : FeedersHeld bytes (placement_head file) (table_of file.content.feeders)
    feeders-held =
        let f = fed-units bytes file e Some-number in
        let l = rows-here.good.limits in
        record {
          inside = rows-here.ends;
          below = bytes_below bytes file e;
          entries = f.entries;
          few = mul-le-mul l.order.b-most l.base.r-most;
          long = f.long;
          nodes = λ t. let u = f.within t in rw (u.are, u.number) units-below;
        }

    fed-rounds : (t : List ℕ) (q : ℕ)
        → check_rounds bytes q
        ≡ rounds_from (rows_by_table (table_of file.content.feeders).each file.content.r file.content.b (drop file.first bytes) ++ t)
        (feeder_head (placement_head file) (table_of file.content.feeders).number) q
    unfolding check_rounds check_placement rounds_from rounds_of
    fed-rounds t q = let u = (fed-units bytes file e Some-number).within t in rw (e, ← u.number, u.are) refl

-- what the answer of the check says
module _ (bytes : List ℕ) {check : PlacementCheck} (is : check ≡ placement_checked (read_placement bytes)) where
  module _ {head : PlacementHead} (a : check.answer ≡ Ok head) where
    -- a placement without feeders
    module _ (unfed : check.feeders.number ≡ 0) where
      zero_of : (table_of (check-accepted (read_placement bytes) is a).file.content.feeders).number ≡ 0
      zero_of = sym (ap (λ t. t.number) (check-accepted (read_placement bytes) is a).feeders-are) ∙ unfed

      pub rows-held : RowsHeld bytes head
      rows-held =
          let o = check-accepted (read_placement bytes) is a in
          subst (RowsHeld bytes) (sym o.head-is) (held_of bytes o.file o.is-accepted zero_of)

      pub rounds-of-check : (q : ℕ) → check_rounds bytes q ≡ rounds_from bytes head q
      rounds-of-check q =
          let o = check-accepted (read_placement bytes) is a in
          same-rounds bytes o.file o.is-accepted zero_of q ∙ sym (λ i. rounds_from bytes (o.head-is i) q)

    -- one with feeders
    module _ (is-fed : check.feeders.number ≡ 0 → ⊥) where
      some_of : (table_of (check-accepted (read_placement bytes) is a).file.content.feeders).number ≡ 0 → ⊥
      some_of z = is-fed (ap (λ t. t.number) (check-accepted (read_placement bytes) is a).feeders-are ∙ z)

      pub fed-held : FeedersHeld bytes head check.feeders
      fed-held =
          let o = check-accepted (read_placement bytes) is a in
          subst (λ h. FeedersHeld bytes h check.feeders) (sym o.head-is)
          (subst (FeedersHeld bytes (placement_head o.file)) (sym o.feeders-are) (feeders-held bytes o.file o.is-accepted some_of))

      pub rounds-of-fed : (t : List ℕ) (q : ℕ)
          → check_rounds bytes q
          ≡ rounds_from (rows_by_table check.feeders.each head.r head.b (drop head.first bytes) ++ t) (feeder_head head check.feeders.number) q
      rounds-of-fed t q =
          let o = check-accepted (read_placement bytes) is a in
          fed-rounds bytes o.file o.is-accepted some_of t q
          ∙ sym (λ i. rounds_from
          (rows_by_table (o.feeders-are i).each (o.head-is i).r (o.head-is i).b (drop (o.head-is i).first bytes) ++ t)
          (feeder_head (o.head-is i) (o.feeders-are i).number) q)

  pub rounds-of-refused : {why : Refusal} → check.answer ≡ Err why → (q : ℕ) → check_rounds bytes q ≡ refused why
  unfolding check_rounds check_placement
  rounds-of-refused a q = rw (check-refused (read_placement bytes) is a)

-- the rows of feeders in the code's buffer
module _ {bytes : List ℕ} {head : PlacementHead} {table : FeederTable} (h : FeedersHeld bytes head table) (zeros fed : List ℕ) (size : length zeros ≡ 20_480)
    (is : fed ≡ rows_by_table table.each head.r head.b (take (length bytes - head.first) (drop head.first bytes)) ++ drop (head.b * head.r) zeros) where
  fed-is : fed ≡ rows_by_table table.each head.r head.b (drop head.first bytes) ++ drop (head.b * head.r) zeros
  fed-is = is ∙ rw (take-drop-rest bytes head.first) refl

  pub fed-length : length fed ≡ 20_480
  fed-length =
      let few = h.few in
      let long = h.long in
      rw fed-is (simp (length-append, length-drop) (omega arith))

  pub fed-rows-held : RowsHeld fed (feeder_head head table.number)
  fed-rows-held =
      let few = h.few in
      let long = fed-length in
      record { inside = omega arith; nodes = rw fed-is (h.nodes (drop (head.b * head.r) zeros)) }

  pub fed-played : (q : ℕ) {given : Result ℕ Refusal} → given ≡ rounds_answer (rounds_from fed (feeder_head head table.number) q)
      → FeedersPlayed bytes head table q given
  fed-played q e =
      record {
        after = drop (head.b * head.r) zeros;
        answer = e ∙ ap (λ l. rounds_answer (rounds_from l (feeder_head head table.number) q)) fed-is;
      }
