-- Document 02's requests as theorems, in its words and order. Assumes nothing.
use Prim.Native.Nat.{ℕ, ◌*◌, ◌<◌, ◌+◌, ◌-◌, ◌≤◌, suc}
use native.Mathlib.Omega.{arith}
use mathlib.Core.Path.{◌≡◌, refl, sym, ◌∙◌, ap}
use mathlib.Core.Logic.{◌↔◌}
use mathlib.Core.List.{List, ◌∷◌, ◌++◌, []}
use lib.ListN.{length, get_or, take, drop}
use lib.Seq.{slice}
use Rattle.refusal.specs.Refusals.{result, Outcome, refusal}
use Rattle.refusal.specs.Checked.{Checked, accepted, refused, map_accepted}
use Rattle.refusal.specs.Agree.{Agree, both-accepted, both-refused}
use Rattle.number.specs.Numbers.{Bytes, Form, Forms, number_bytes, read_number, largest_number}
use Rattle.number.specs.declared.Reading.{Reading}
use Rattle.number.proofs.Laws.{read-iff-form, read_length, form-value-unique, form-number_bytes, form-shortest}
use Rattle.layers.specs.Layers.{Located, heads_of, head_numbers, list_size}
use Rattle.layers.specs.Answers.{five_heads, dark_of, dark_values}
use Rattle.layers.proofs.Padding.{padded-forms}
use Rattle.pack.specs.Pack.{read_pack, Pack}
use Rattle.pack.proofs.Padding.{read_pack-padded}
use Rattle.pack.specs.Answers.{pack_checked, pack_outcome}
use Rattle.placement.specs.Placement.{Placement, read_placement, check_placement}
use Rattle.placement.specs.Answers.{table_of, table_values, placement_checked, placement_outcome}
use Rattle.placement.proofs.Accepted.{read-of-placement}
use Rattle.placement.proofs.Padding.{read_placement-padded}
use Rattle.placement.specs.declared.Order.{Order}
use Rattle.planner.specs.Planning.{plan}
use Rattle.planner.proofs.Padding.{plan-padded}
use Rattle.report.specs.declared.Summary.{Summary}
use Rattle.report.specs.Load.{mean, Rounded}
use Rattle.report.specs.Programs.{accepted_line, summary, or_refused_line, check_line}
use Rattle.report.proofs.Mean.{half_to_even-rounded, rounded-unique}
use Rattle.replies.specs.Programs.{planned_reply, plan_reply}
use Rattle.replies.specs.Plans.{plan_program}
use Rattle.replies.proofs.Programs.{plan-as-before}
use Rattle.replies.proofs.Padding.{plan_input-padded}

-- (a) "Our certificate office now rounds all site averages half to even. The mean that `check` prints follows": the mean in the
-- line is within a half of b × r / n and even where it is just a half away, and it is the only such number.
pub a-half-to-even : (input : List ℕ) {kind n r s k b figure first : ℕ} {layers : List ℕ}
    → placement_outcome (placement_checked (read_placement input)) ≡ result (kind ∷ n ∷ r ∷ s ∷ k ∷ b ∷ figure ∷ first ∷ layers)
    → (line : Summary) × (check_line input ≡ accepted_line line)
    × Rounded (b * r) n line.mean
    × ((m : ℕ) → Rounded (b * r) n m → m ≡ line.mean)
unfolding check_line check_placement summary
a-half-to-even input {kind} {n} {r} {s} {k} {b} {figure} {first} {layers} e = go (read_placement input) refl e
  where
    go : (c : Checked (Located Placement)) → read_placement input ≡ c
        → placement_outcome (placement_checked c) ≡ result (kind ∷ n ∷ r ∷ s ∷ k ∷ b ∷ figure ∷ first ∷ layers)
        → (line : Summary) × (check_line input ≡ accepted_line line)
        × Rounded (b * r) n line.mean
        × ((m : ℕ) → Rounded (b * r) n m → m ≡ line.mean)
    go (accepted file) q says =
        let p = file.content in
        let good = (read-of-placement input p file.first q).1 in
        let n-is : p.n ≡ n = cc in
        let r-is : p.r ≡ r = cc in
        let b-is : p.b ≡ b = cc in
        let least = good.limits.base.n-least in
        let some : 0 < n = omega arith in
        let same : mean p.b p.r p.n ≡ mean b r n = rw (n-is, r-is, b-is) refl in (
          summary p,
          ap (λ c. or_refused_line (map_accepted (λ q. accepted_line (summary q)) (map_accepted (λ (f : Located Placement). f.content) c))) q,
          rw same (half_to_even-rounded (b * r) n some),
          λ m h. rw same (rounded-unique (b * r) n some m (mean b r n) h (half_to_even-rounded (b * r) n some)),
        )
    go (refused why) q says = absurd (let z : ◌≡◌ {A = ℕ} 0 1 = cc in omega arith)

-- (b) Padded numbers from field loggers.

-- "Reading takes any form of one to four groups, a zero last group included": what is read at a place is v, with a next place,
-- exactly where the bytes between are a form of v.
pub b-any-form : (s : List ℕ) (at : ℕ) (n : Reading) → Bytes s
    → (read_number s at ≡ accepted n) ↔ ((n.next ≤ length s) × Form n.value (slice at n.next s))
b-any-form = read-iff-form

-- "and gives the length taken": the next place less the start, as many bytes as the form has, 1 to 4
pub b-length-taken : (s : List ℕ) (at : ℕ) {n : Reading} → read_number s at ≡ accepted n
    → (length (slice at n.next s) ≡ n.next - at) × (1 ≤ n.next - at) × (n.next - at ≤ 4)
b-length-taken = read_length

-- a form has one number
pub b-one-number : {v w : ℕ} {f : List ℕ} → Form v f → Form w f → v ≡ w
b-one-number = form-value-unique

-- "Writers still give the shortest form": it is a form, and no form is shorter
pub b-shortest-form : (v : ℕ) → v ≤ largest_number
    → Form v (number_bytes v) × ((f : List ℕ) → Form v f → length (number_bytes v) ≤ length f)
b-shortest-form v h = (form-number_bytes v h, λ f form. form-shortest form)

-- what two packs, or two placements, have in common where only places differ
abbrev pub SameContent : {A : Type 0} → Located A → Located A → Type 0
SameContent file other = file.content ≡ other.content

-- "Several files may now carry one placement; two files that differ only in such padding are both accepted or both refused":
-- forms f and g of the same numbers, any first ones of the head, and the same bytes after them. Both are accepted, with the same
-- pack or placement, or both are refused, with the same number, also where the file is bad further on; places may differ. A
-- pack's head has 3 + 2r numbers, by the r that is the third, and those of its list (request (h)); a placement's 7 + 2s, by the s
-- that comes after r and the list, and the list's. For the numbers after the rows of kind 6 the same is `n-same-feeders`.
pub b-same-pack : (numbers f g rest : List ℕ) → Forms numbers f → Forms numbers g
    → length numbers ≤ 3 + list_size numbers + 2 * get_or numbers 2 0
    → Agree SameContent (read_pack (f ++ rest)) (read_pack (g ++ rest))
b-same-pack numbers f g rest forms forms' most =
    read_pack-padded numbers (f ++ rest) (g ++ rest) most (padded-forms numbers f g rest forms forms')

pub b-same-placement : (numbers f g rest : List ℕ) → Forms numbers f → Forms numbers g
    → length numbers ≤ 7 + list_size numbers + 2 * get_or numbers (3 + list_size numbers) 0
    → Agree SameContent (read_placement (f ++ rest)) (read_placement (g ++ rest))
b-same-placement numbers f g rest forms forms' most =
    read_placement-padded numbers (f ++ rest) (g ++ rest) most (padded-forms numbers f g rest forms forms')

-- What the calls answer, in document 01's terms: results that differ in one value at most, the place of the first block or row,
-- which is value `at`; or refusals with the same number.
pub data SameAnswer (at : ℕ) : Outcome → Outcome → Type 0 where
  results : {values others : List ℕ} → take at values ≡ take at others → drop (suc at) values ≡ drop (suc at) others
      → SameAnswer at (result values) (result others)
  refusals : {number other-number place other_place : ℕ} → number ≡ other-number
      → SameAnswer at (refusal number place) (refusal other-number other_place)

pack-answers : {c d : Checked (Located Pack)} → Agree SameContent c d
    → SameAnswer 2 (pack_outcome (pack_checked c)) (pack_outcome (pack_checked d))
pack-answers (both-accepted same) =
    results (ap (λ p. p.n ∷ p.r ∷ []) same) (ap (λ p. head_numbers (five_heads (heads_of p.layers)) ++ dark_values (dark_of p.dark)) same)
pack-answers (both-refused e) = refusals e

placement-answers : {c d : Checked (Located Placement)} → Agree SameContent c d
    → SameAnswer 7 (placement_outcome (placement_checked c)) (placement_outcome (placement_checked d))
placement-answers (both-accepted same) =
    results
    (ap (λ p. p.kind ∷ p.n ∷ p.r ∷ p.s ∷ p.k ∷ p.b ∷ p.figure ∷ []) same)
    (ap (λ p. head_numbers (five_heads (heads_of p.layers)) ++ (dark_values (dark_of p.dark) ++ table_values p.n (table_of p.feeders))) same)
placement-answers (both-refused e) = refusals e

pub b-same-pack-answer : (numbers f g rest : List ℕ) → Forms numbers f → Forms numbers g
    → length numbers ≤ 3 + list_size numbers + 2 * get_or numbers 2 0
    → SameAnswer 2 (pack_outcome (pack_checked (read_pack (f ++ rest)))) (pack_outcome (pack_checked (read_pack (g ++ rest))))
b-same-pack-answer numbers f g rest forms forms' most = pack-answers (b-same-pack numbers f g rest forms forms' most)

pub b-same-placement-answer : (numbers f g rest : List ℕ) → Forms numbers f → Forms numbers g
    → length numbers ≤ 7 + list_size numbers + 2 * get_or numbers (3 + list_size numbers) 0
    → SameAnswer 7 (placement_outcome (placement_checked (read_placement (f ++ rest))))
    (placement_outcome (placement_checked (read_placement (g ++ rest))))
b-same-placement-answer numbers f g rest forms forms' most = placement-answers (b-same-placement numbers f g rest forms forms' most)

-- Planning from them: the same placement, or refusals with the same number.
pub b-same-plan : (numbers f g rest : List ℕ) → Forms numbers f → Forms numbers g
    → length numbers ≤ 3 + list_size numbers + 2 * get_or numbers 2 0
    → (order : Order) (work output : ℕ)
    → Agree (λ placement other. placement ≡ other) (plan (f ++ rest) order work output) (plan (g ++ rest) order work output)
b-same-plan numbers f g rest forms forms' most =
    plan-padded numbers (f ++ rest) (g ++ rest) most (padded-forms numbers f g rest forms forms')

-- `plan`'s own three numbers take padding too: whichever of them are padded, it writes the same bytes.
pub b-same-order : (numbers f g rest : List ℕ) → Forms numbers f → Forms numbers g → length numbers ≤ 3
    → plan_program [] (f ++ rest) ≡ plan_program [] (g ++ rest)
unfolding plan_reply
b-same-order numbers f g rest forms forms' few =
    plan-as-before (f ++ rest)
    ∙ ap planned_reply (plan_input-padded numbers (f ++ rest) (g ++ rest) few (padded-forms numbers f g rest forms forms'))
    ∙ sym (plan-as-before (g ++ rest))
