-- `layers_writer::write_nodes` meets its contract: the array's first nodes are lent. Assumes nothing.
use Prim.Native.Nat.{◌-◌}
use native.Mathlib.Omega.{arith}
use mathlib.Core.Path.{◌≡◌}
use Rattle.layers_writer.proofs.write_nodes.Goals as goal

pub write_numbers-requires : goal.write_numbers-requires
write_numbers-requires c =
    let whole : c.args.count - 0 ≡ c.args.count = omega arith in
    record { all = rw whole c.requires.all; numbers_in_bounds = rw whole c.requires.nodes_in_bounds }

pub returns : goal.returns
returns c =
    let whole : c.args.count - 0 ≡ c.args.count = omega arith in
    rw whole at c.write_numbers.ensures
