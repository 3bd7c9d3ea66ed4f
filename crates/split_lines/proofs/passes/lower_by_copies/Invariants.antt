-- `split_lines::passes::lower_by_copies` meets its contract. The loop's invariant: fewer than `d` copies were looked at. Assumes nothing.
use Prim.Native.Nat.{◌-◌}
use Rattle.split.specs.Working.{part}
use Rattle.split_lines.proofs.Lowering.{CopiedTo}
use Rattle.split_lines.proofs.passes.lower_by_copies.Given as goal

abbrev pub invariant-loop-d : goal.invariant-loop-d
invariant-loop-d l =
    CopiedTo l.u (part (l.at - l.w) l.w l.initial.work) l.at l.w l.initial.work (l.d - 1) l.back l.work
