-- The file that an accepting answer speaks of. Assumes nothing.
use Prim.Native.Nat.{ℕ}
use native.Mathlib.Omega.{arith}
use mathlib.Core.Path.{◌≡◌, refl, sym, ◌∙◌}
use mathlib.Core.List.{List, ◌∷◌}
use Rattle.refusal.specs.Refusals.{result, refusal}
use Rattle.refusal.specs.Checked.{Checked, accepted, refused}
use Rattle.packing.specs.Rows.{records_in}
use Rattle.packing.proofs.Failed.{rows_at-records}
use Rattle.layers.specs.Layers.{Located, all_rows}
use Rattle.placement.specs.Placement.{Placement, GoodPlacement, read_placement}
use Rattle.placement.specs.Answers.{placement_checked, placement_outcome}
use Rattle.placement.proofs.Rows.{rows_in}

-- a result is no refusal
pub not-both : {values : List ℕ} {number place : ℕ} → refusal number place ≡ result values → ⊥
not-both e = let z : ◌≡◌ {A = ℕ} 0 1 = cc in omega arith

-- the accepted file, whose numbers are the answer's and whose rows are the records in the bytes
pub record Says (bytes : List ℕ) (kind n r s k b figure first : ℕ) : Type 0 where
  pub file : Located Placement
  pub reads : read_placement bytes ≡ accepted file
  pub good : GoodPlacement file.content
  pub kind-is : file.content.kind ≡ kind
  pub n-is : file.content.n ≡ n
  pub r-is : file.content.r ≡ r
  pub s-is : file.content.s ≡ s
  pub k-is : file.content.k ≡ k
  pub b-is : file.content.b ≡ b
  pub figure-is : file.content.figure ≡ figure
  pub first-is : file.first ≡ first
  pub records : all_rows file.content.layers ≡ records_in bytes first r b

pub says : (bytes : List ℕ) {kind n r s k b figure first : ℕ} {layers : List ℕ}
    → placement_outcome (placement_checked (read_placement bytes)) ≡ result (kind ∷ n ∷ r ∷ s ∷ k ∷ b ∷ figure ∷ first ∷ layers)
    → Says bytes kind n r s k b figure first
says bytes {kind} {n} {r} {s} {k} {b} {figure} {first} {layers} e = go (read_placement bytes) refl e
  where
    go : (c : Checked (Located Placement)) → read_placement bytes ≡ c
        → placement_outcome (placement_checked c) ≡ result (kind ∷ n ∷ r ∷ s ∷ k ∷ b ∷ figure ∷ first ∷ layers)
        → Says bytes kind n r s k b figure first
    go (accepted file) q p =
        let place = file.content in
        let rows = rows_in bytes file q in
        let r-same : place.r ≡ r = cc in
        let b-same : place.b ≡ b = cc in
        let first-same : file.first ≡ first = cc in
        let all = sym (rows_at-records bytes file.first place.r place.b) ∙ rows.rows in
        record {
          file = file;
          reads = q;
          good = rows.good;
          kind-is = cc;
          n-is = cc;
          r-is = r-same;
          s-is = cc;
          k-is = cc;
          b-is = b-same;
          figure-is = cc;
          first-is = first-same;
          records = sym all ∙ rw (r-same, b-same, first-same) refl;
        }
    go (refused why) q p = absurd (not-both p)
