-- `join_writer::rows::write_part` meets its contract. Assumes nothing.
use native.Mathlib.Omega.{arith}
use mathlib.Core.Path.{sym, ap}
use Prim.Native.Nat.{◌+◌}
use lib.ListN.{length, length-drop}
use Rattle.lists.proofs.Writing.{take-drop-rest}
use Rattle.join.specs.Estate.{part_bytes}
use Rattle.join.proofs.Bytes.{part-nil, length_part, put_back, put-nil}
use Rattle.join_writer.proofs.rows.write_part.Goals as goal

pub returns-then-m-eq0 : goal.returns-then-m-eq0
returns-then-m-eq0 c =
    let none = part-nil c.args.mu c.args.bound c.args.before c.args.blocks.now c.if-m-eq0.true in
    (omega (arith, ap length none), put-nil c.args.at (part_bytes c.args.mu c.args.bound c.args.before c.args.blocks.now) c.args.out.now none)

pub nonzero_div-copies : goal.nonzero_div-copies
nonzero_div-copies c =
    let least = c.requires.part_fits.mu-least (omega arith) in
    omega arith

pub write_copies-requires : goal.write_copies-requires
write_copies-requires c =
    record {
      bytes_in_bounds = rw (take-drop-rest c.args.out.now c.args.at, length-drop c.args.at c.args.out.now)
          (omega (arith, c.requires.blocks_in_bounds, length_part c.args.mu c.args.bound c.args.before c.args.blocks.now));
      all = c.requires.part_fits.nodes-most;
    }

pub overflow_mul-result : goal.overflow_mul-result
overflow_mul-result c =
    omega (arith, c.requires.blocks_in_bounds, c.well_formed, length_part c.args.mu c.args.bound c.args.before c.args.blocks.now)

pub overflow_add-result : goal.overflow_add-result
overflow_add-result c =
    omega (arith, c.requires.blocks_in_bounds, c.well_formed, length_part c.args.mu c.args.bound c.args.before c.args.blocks.now)

pub returns : goal.returns
returns c = (
  ap (λ n. c.args.at + n) (sym (length_part c.args.mu c.args.bound c.args.before c.args.blocks.now)),
  put_back c.args.at (part_bytes c.args.mu c.args.bound c.args.before c.args.blocks.now) c.args.out.now c.write_copies.new.out c.write_copies.ensures,
)
