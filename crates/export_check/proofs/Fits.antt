-- Every check's answer fits: an accepted file has at most 255 nodes. Assumes nothing.
use Prim.Native.Nat.{ℕ, ◌≤◌}
use native.Mathlib.Omega.{arith}
use mathlib.Core.Path.{◌≡◌, refl}
use mathlib.Core.List.{List}
use Rattle.refusal.specs.Checked.{Checked, accepted, refused}
use Rattle.layers.specs.Layers.{Located}
use Rattle.layers.proofs.Listing.{dark-count}
use Rattle.pack.specs.Pack.{Pack, read_pack}
use Rattle.pack.specs.Answers.{pack_checked}
use Rattle.pack.specs.declared.PackCheck.{PackCheck}
use Rattle.pack.proofs.Accepted.{read-of-pack}
use Rattle.placement.specs.Placement.{Placement, read_placement}
use Rattle.placement.specs.Answers.{placement_checked}
use Rattle.placement.specs.declared.PlacementCheck.{PlacementCheck}
use Rattle.placement.proofs.Accepted.{read-of-placement}
use Rattle.placement.proofs.Answered.{check-accepted}
use Rattle.export_check.specs.Fits.{CheckFits}

pub pack-fits : (bytes : List ℕ) (check : PackCheck) → check ≡ pack_checked (read_pack bytes) → check.dark.count ≤ 255
pack-fits bytes check is = rw is (go (read_pack bytes) refl)
  where
    go : (m : Checked (Located Pack)) → read_pack bytes ≡ m → (pack_checked m).dark.count ≤ 255
    go (accepted file) e =
        let l = (read-of-pack bytes file.content file.first e).1.limits in
        let n-most = l.base.n-most in
        let count = dark-count file.content.n file.content.dark l.dark-order in
        omega arith
    go (refused e) r = omega arith

pub placement-fits : (bytes : List ℕ) (check : PlacementCheck) → check ≡ placement_checked (read_placement bytes) → CheckFits check
placement-fits bytes check is =
    record {
      few = rw is (few (read_placement bytes) refl);
      nodes = λ head good.
          let a = check-accepted (read_placement bytes) is good in
          let l = (read-of-placement bytes a.file.content a.file.first a.is-accepted).1.limits in
          rw a.head-is l.base.n-most;
    }
  where
    few : (m : Checked (Located Placement)) → read_placement bytes ≡ m → (placement_checked m).dark.count ≤ 255
    few (accepted file) e =
        let l = (read-of-placement bytes file.content file.first e).1.limits in
        let n-most = l.base.n-most in
        let count = dark-count file.content.n file.content.dark l.dark.ordered in
        omega arith
    few (refused e) r = omega arith
