-- `join_mu::joint_head` meets its contract: the multiple is found pack by pack, the last first. Assumes nothing.
use native.Mathlib.Omega.{arith}
use Rattle.join.proofs.Heads.{with_mu-least, head-joint, size-most}
use Rattle.join_mu.proofs.joint_head.Goals as goal

pub with_mu-rest-requires : goal.with_mu-rest-requires
with_mu-rest-requires c =
    record { head_fits = c.requires.head_fits_2; le_rest = omega (arith, with_mu-least _ 1 c.requires.head_fits_3 (omega arith), c.with_mu-last.ensures); rest_bound = omega (arith, c.with_mu-last.ensures) }

pub with_mu-mu-requires : goal.with_mu-mu-requires
with_mu-mu-requires c =
    let least = with_mu-least _ c.with_mu-last.result c.requires.head_fits_2 (omega (arith, with_mu-least _ 1 c.requires.head_fits_3 (omega arith), c.with_mu-last.ensures)) in
    record { head_fits = c.requires.head_fits; le_rest = omega (arith, least, c.with_mu-rest.ensures); rest_bound = omega (arith, c.with_mu-rest.ensures) }

pub overflow_add-size : goal.overflow_add-size
overflow_add-size c =
    omega (
      arith,
      c.part_rows.ensures,
      c.part_rows-2.ensures,
      size-most c.with_mu-mu.result _ (omega (arith, c.with_mu-mu.ensures)) c.requires.head_fits,
      size-most c.with_mu-mu.result _ (omega (arith, c.with_mu-mu.ensures)) c.requires.head_fits_2,
    )

pub overflow_add-size-2 : goal.overflow_add-size-2
overflow_add-size-2 c =
    omega (
      arith,
      c.part_rows.ensures,
      c.part_rows-2.ensures,
      c.part_rows-3.ensures,
      size-most c.with_mu-mu.result _ (omega (arith, c.with_mu-mu.ensures)) c.requires.head_fits,
      size-most c.with_mu-mu.result _ (omega (arith, c.with_mu-mu.ensures)) c.requires.head_fits_2,
      size-most c.with_mu-mu.result _ (omega (arith, c.with_mu-mu.ensures)) c.requires.head_fits_3,
    )

pub returns : goal.returns
returns c =
    head-joint _ _ _ c.requires.head_fits c.requires.head_fits_2 c.requires.head_fits_3 c.with_mu-last.ensures c.with_mu-rest.ensures
    c.with_mu-mu.ensures (omega (arith, c.part_rows.ensures, c.part_rows-2.ensures, c.part_rows-3.ensures))
