-- Demand 3 through the programs: what `plan` writes for a good order, given to `check`, prints the accepted line with that
-- figure. Assumes nothing.
use Prim.Native.Nat.{ℕ, ◌≤◌}
use native.Mathlib.Omega.{arith}
use native.Mathlib.Nat.{zero-add}
use mathlib.Core.Path.{◌≡◌, refl, ◌∙◌, ap}
use mathlib.Core.List.{List, [], ◌∷◌, ◌++◌}
use lib.ListN.{length}
use lib.Seq.{drop-append_seam}
use lib.Dec.{T}
use Rattle.lists.specs.Lists.{All}
use Rattle.refusal.specs.Checked.{accepted, map_accepted}
use Rattle.number.specs.Numbers.{Bytes, largest_number, forms_of}
use Rattle.number.proofs.Forms.{forms-of}
use Rattle.layers.specs.Layers.{heads_of}
use Rattle.layers.proofs.NumbersRead.{forms-reads}
use Rattle.pack.specs.Pack.{Pack, PackFile, GoodPack}
use Rattle.pack.proofs.Accepted.{pack-accepted-iff}
use Rattle.placement.specs.Placement.{OrderLimits, placement_bytes}
use Rattle.placement.specs.declared.Rule.TheVariants.{NestedFloors}
use Rattle.placement.specs.declared.Order.{Order}
use Rattle.split.specs.Splits.{Share, Named, has_block, named_split}
use Rattle.split.proofs.Named.{named}
use Rattle.planner.specs.Planning.{split_placement, named_placement, work_most, output_most}
use Rattle.planner.proofs.Planned.{entries-most, bytes_most, plan-never-refuses, plan-accepted}
use Rattle.report.specs.declared.Summary.{Summary}
use Rattle.report.specs.Programs.{accepted_line, summary, or_refused_line, check_line}
use Rattle.replies.specs.Programs.{read_order, plan_input, planned_reply, plan_reply}
use Rattle.replies.specs.Plans.{plan_program}
use Rattle.replies.proofs.Programs.{plan-as-before}

-- "`plan` reads s, k, b as numbers, then a pack": what a good order is given as
abbrev pub order_input : (s k b : ℕ) (pack : List ℕ) → List ℕ
order_input s k b pack = forms_of (s ∷ k ∷ b ∷ []) ++ pack

-- the three numbers are read, and the pack follows them
order-read : (s k b : ℕ) (pack : List ℕ) → All (λ v. v ≤ largest_number) (s ∷ k ∷ b ∷ [])
    → read_order (order_input s k b pack)
    ≡ accepted (record { order = record { s = s; k = k; b = b }; at = length (forms_of (s ∷ k ∷ b ∷ [])) })
unfolding read_order
order-read s k b pack most =
    let numbers = s ∷ k ∷ b ∷ [] in
    let (p, read₁, (q, read₂, (end, read₃, e))) =
    rw zero-add at (forms-reads numbers [] (forms_of numbers) pack (forms-of numbers most)) in
    rw (read₁, read₂, read₃, e)

-- What the program `plan` writes for a good order is the named placement, and `check` prints its line.
pub demand-3-programs : (bytes : List ℕ) (pack : Pack) → Bytes bytes → PackFile pack bytes × GoodPack pack
    → (s k b : ℕ) → OrderLimits pack.n pack.r (record { s = s; k = k; b = b }) → T (has_block (heads_of pack.layers) s)
    → (split : ℕ → Share) × (line : Summary) × Named NestedFloors (heads_of pack.layers) s k b split
    × (plan_program [] (order_input s k b bytes) ≡ placement_bytes (split_placement pack s k b split))
    × (check_line (plan_program [] (order_input s k b bytes)) ≡ accepted_line line)
    × (line.figure ≡ (split_placement pack s k b split).figure)
    × (line.b ≡ b)
    × (line.k ≡ k)
    × (line.n ≡ pack.n)
unfolding named_placement split_placement plan_input planned_reply plan_reply check_line summary
demand-3-programs bytes pack h is s k b limits block =
    let order : Order = record { s = s; k = k; b = b } in
    let p = named_placement pack s k b in
    let good = is.1 in
    let accept = (pack-accepted-iff bytes pack h).1 is in
    let base = good.limits.base in
    let most : All (λ v. v ≤ largest_number) (s ∷ k ∷ b ∷ []) = (
      omega (arith, limits.s-most, base.r-most),
      (omega (arith, limits.k-most, base.n-most), (omega (arith, limits.b-most), tt)),
    ) in
    let planned = plan-never-refuses bytes pack accept order limits block work_most output_most
    (entries-most pack good order limits) (bytes_most pack good order limits) in
    let input : plan_input (order_input s k b bytes) ≡ accepted p =
    rw (order-read s k b bytes most, drop-append_seam (forms_of (s ∷ k ∷ b ∷ [])) bytes) planned in
    let wrote : plan_program [] (order_input s k b bytes) ≡ placement_bytes p =
    plan-as-before (order_input s k b bytes) ∙ ap planned_reply input in
    let line : check_line (plan_program [] (order_input s k b bytes)) ≡ accepted_line (summary p) =
    ap check_line wrote
    ∙ ap (λ c. or_refused_line (map_accepted (λ q. accepted_line (summary q)) c)) (plan-accepted bytes pack accept order limits block) in (
      named_split NestedFloors (heads_of pack.layers) s k b,
      summary p,
      named NestedFloors (heads_of pack.layers) s k b limits.b-most block,
      wrote,
      line,
      refl,
      refl,
      refl,
      refl,
    )
