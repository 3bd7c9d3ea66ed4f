-- What the code's answers say of reading s, k, b and F, and of checking a placement. Assumes nothing.
use Prim.Native.Nat.{ℕ, ◌≤◌}
use Rattle.std.specs.Prelude.{Result, Ok, Err}
use native.Mathlib.Omega.{arith}
use mathlib.Core.Path.{◌≡◌, refl, ◌∙◌, ap}
use mathlib.Core.List.{List, ◌++◌}
use mathlib.Core.Option.{Option, none, some}
use lib.ListN.{take, replicate}
use lib.Seq.{take-take, take-append-le, take_all}
use borrow.Author.Tests.{ne_eqb}
use Rattle.refusal.specs.declared.Refusal.{Refusal}
use Rattle.refusal.specs.Refusals.{result}
use Rattle.refusal.specs.Checked.{Checked, accepted, refused}
use Rattle.refusal.proofs.Answered.{answered-ok}
use Rattle.layers.specs.Layers.{Located, heads_of}
use Rattle.layers.specs.Answers.{five_heads, nodes_array}
use Rattle.layers.proofs.Listing.{dark-count, dark_list-dark_of}
use Rattle.placement.specs.Placement.{Placement, TermsReading, read_placement}
use Rattle.placement.proofs.Accepted.{read-of-placement}
use Rattle.placement.specs.Feeders.{Feeders, FeedersFit, feeder_numbers}
use Rattle.placement.specs.Answers.{table_of, table_values, terms_read, placement_head, placement_checked, placement_values, placement_outcome}
use Rattle.placement.specs.declared.TermsRead.{TermsRead}
use Rattle.placement.specs.declared.PlacementHead.{PlacementHead}
use Rattle.placement.specs.declared.PlacementCheck.{PlacementCheck}

pub terms-good : (m : Checked TermsReading) {given : Result TermsRead Refusal} {read : TermsRead} → given ≡ terms_read m
    → given ≡ Ok read → m ≡ accepted (record { terms = read.terms; next = read.next })
terms-good m is good = let (order, r, a) = answered-ok _ m is good in rw a r

-- the check's answer refuses where the file is refused
pub check-refused : (m : Checked (Located Placement)) {check : PlacementCheck} {e : Refusal} → check ≡ placement_checked m
    → check.answer ≡ Err e → m ≡ refused e
check-refused (accepted file) is why = let v = ap (λ c. c.answer) is in cc
check-refused (refused e) is why = let v = ap (λ c. c.answer) is in cc

-- what the code's table of feeders says: as many nodes as there are
pub table_values-table_of : (kind n r k : ℕ) (feeders : Option Feeders) → n ≤ 255 → FeedersFit kind n r k feeders
    → table_values n (table_of feeders) ≡ feeder_numbers feeders
unfolding nodes_array
table_values-table_of kind n r k none few f = refl
table_values-table_of kind n r k (some feeders) few (is, l) =
    let above = l.above-k in
    let number = l.node-each in
    let each = feeders.each in
    let whole : take n (nodes_array each) ≡ each =
    take-take n 255 (each ++ replicate 255 0) few ∙ take-append-le n each (replicate 255 0) (omega arith) ∙ take_all n each (omega arith) in
    rw (ne_eqb feeders.number 0 (λ none. omega arith), whole) refl

-- What the checker's answer says of an accepted placement: its values, the list among them, which the code's array holds whole.
pub placement-told : (bytes : List ℕ) (file : Located Placement) → read_placement bytes ≡ accepted file
    → placement_outcome (placement_checked (accepted file)) ≡ result (placement_values file)
placement-told bytes file e =
    let l = (read-of-placement bytes file.content file.first e).1.limits in
    let n-most = l.base.n-most in
    let count = dark-count file.content.n file.content.dark l.dark.ordered in
    rw
    (dark_list-dark_of file.content.dark (omega arith), table_values-table_of file.content.kind file.content.n file.content.r file.content.k file.content.feeders n-most l.feeders)
    refl

-- the file that an answer accepts: its numbers, and those of its layers
pub record AnswerOf (m : Checked (Located Placement)) (check : PlacementCheck) (head : PlacementHead) : Type 0 where
  pub file : Located Placement
  pub is-accepted : m ≡ accepted file
  pub head-is : head ≡ placement_head file
  pub layers-are : check.layers ≡ five_heads (heads_of file.content.layers)
  pub feeders-are : check.feeders ≡ table_of file.content.feeders

pub check-accepted : (m : Checked (Located Placement)) {check : PlacementCheck} {head : PlacementHead} → check ≡ placement_checked m
    → check.answer ≡ Ok head → AnswerOf m check head
check-accepted (accepted file) is good =
    let v = ap (λ c. c.answer) is in
    record { file = file; is-accepted = refl; head-is = cc; layers-are = ap (λ c. c.layers) is; feeders-are = ap (λ c. c.feeders) is }
check-accepted (refused e) is good =
    absurd (let v = ap (λ c. c.answer) is in let z : ◌≡◌ {A = ℕ} 0 1 = cc in omega arith)
