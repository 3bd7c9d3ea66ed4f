-- What `page` prints, from the answer of the call. Assumes nothing.
use Prim.Native.Nat.{ℕ, ◌≤◌}
use Rattle.std.specs.Prelude.{Result, Ok, Err}
use native.Mathlib.Omega.{arith}
use mathlib.Core.Path.{◌≡◌, refl, sym, ◌∙◌, ap}
use mathlib.Core.List.{List}
use lib.ListN.{length}
use lib.Dec.{leb}
use borrow.Author.Tests.{le-leb}
use Rattle.refusal.specs.declared.Refusal.{Refusal}
use Rattle.refusal.specs.declared.Refusal.TheVariants.{ShortOutput}
use Rattle.refusal.specs.Checked.{Checked, accepted, refused, ◌>>=◌, require, map_accepted, writing, written, WritingDone}
use Rattle.refusal.proofs.Checked.{map_accepted-accepted}
use Rattle.placement.specs.Placement.{Placement, read_placement, check_placement}
use Rattle.placement.proofs.Accepted.{read-of-placement}
use Rattle.page.specs.Page.{page_of, page_length, check_page}
use Rattle.report.specs.Programs.{refused_line, or_refused_line}
use Rattle.report.specs.Replies.{Replied}
use Rattle.report.proofs.Replies.{replied-of}
use Rattle.call_replies.specs.Page.{page_text, page_needed}

-- an accepted placement's page is no longer than that of the most records
page-most : (placement : List ℕ) (p : Placement) → check_placement placement ≡ accepted p → page_length p.b ≤ page_needed
unfolding check_placement
page-most placement p e =
    let (file, read, same) = map_accepted-accepted (λ file. file.content) (read_placement placement) e in
    let b-most = (read-of-placement placement file.content file.first read).1.limits.order.b-most in
    rw (← same) (omega (arith, b-most))

-- so many bytes are enough
page-is : (placement : List ℕ) (output : ℕ) → page_needed ≤ output → check_page placement output ≡ map_accepted page_of (check_placement placement)
unfolding check_page
page-is placement output room = go (check_placement placement) (page-most placement)
  where
    go : (o : Checked Placement) → ((p : Placement) → o ≡ accepted p → page_length p.b ≤ page_needed)
        → (o >>= λ p. require (leb (page_length p.b) output) (ShortOutput (page_length p.b)) >>= λ _. accepted (page_of p)) ≡ map_accepted page_of o
    go (accepted p) few = rw (le-leb (page_length p.b) output (omega (arith, few p refl, room)))
    go (refused why) few = refl

module _ (placement before : List ℕ) {between : List ℕ} {given : Result ℕ Refusal} (room : page_needed ≤ length before)
    (done : WritingDone (check_page placement (length before)) before between given) where
  answered : given ≡ writing (map_accepted page_of (check_placement placement))
  answered = done.answer ∙ ap writing (page-is placement (length before) room)

  left : between ≡ written (map_accepted page_of (check_placement placement)) before
  left = done.output-after ∙ ap (λ c. written c before) (page-is placement (length before) room)

  -- a page stands at the output's start already
  pub page-written : {size : ℕ} → given ≡ Ok size → Replied (page_text placement) size before between
  unfolding page_text
  page-written {size} a = go (check_placement placement) (sym a ∙ answered) left
    where
      go : (o : Checked Placement) → Ok size ≡ writing (map_accepted page_of o) → between ≡ written (map_accepted page_of o) before
          → Replied (or_refused_line (map_accepted page_of o)) size before between
      go (accepted p) e w =
          let same : size ≡ length (page_of p) = cc in
          replied-of (page_of p) size before between same w
      go (refused why) e w = absurd (let z : ◌≡◌ {A = ℕ} 0 1 = cc in omega arith)

  -- a refusal's line is written into the output as it was
  pub page-refused : {why : Refusal} {after : List ℕ} {next : ℕ} → given ≡ Err why
      → Replied (refused_line why) next between after → Replied (page_text placement) next before after
  unfolding page_text
  page-refused {why} {after} {next} a line = go (check_placement placement) (sym a ∙ answered) left
    where
      go : (o : Checked Placement) → Err why ≡ writing (map_accepted page_of o) → between ≡ written (map_accepted page_of o) before
          → Replied (or_refused_line (map_accepted page_of o)) next before after
      go (accepted p) e w = absurd (let z : ◌≡◌ {A = ℕ} 0 1 = cc in omega arith)
      go (refused other) e w =
          let same : other ≡ why = cc in
          rw (same, ← w) line
