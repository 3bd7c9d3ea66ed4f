-- `crowding_sums::rows::keep_rows` meets its contract. Assumes nothing.
use Prim.Native.Nat.{ℕ}
use native.Mathlib.Omega.{arith}
use mathlib.Core.Path.{refl, ◌∙◌}
use lib.ListN.{length-replicate}
use Rattle.crowding.proofs.Follow.{at-most-zero}
use Rattle.crowding_sums.proofs.Kept.{to-look, sifted}
use Rattle.crowding_sums.proofs.rows.keep_rows.Goals as goal

pub overflow_sub-d : goal.overflow_sub-d
overflow_sub-d c = omega (arith, c.requires.small)

pub overflow_sub-d-2 : goal.overflow_sub-d-2
overflow_sub-d-2 c = omega (arith, c.requires.small)

pub count_all-requires : goal.count_all-requires
count_all-requires c = record { look = to-look c.requires refl (length-replicate {A = ℕ} 65536 0); zeros = at-most-zero 65536 }

pub keep_all-requires : goal.keep_all-requires
keep_all-requires c =
    let pre = c.requires in
    record { look = to-look pre refl (c.count_all.ensures.same ∙ length-replicate {A = ℕ} 65536 0); room = pre.room }

pub returns : goal.returns
returns c = sifted c.requires _ _ _ (at-most-zero 65536) c.count_all.ensures c.keep_all.ensures
