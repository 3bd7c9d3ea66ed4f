-- `crowding_code::sizes::first_size` meets its contract: layer 0 is one of the layers. Assumes nothing.
use native.Mathlib.Omega.{arith}
use mathlib.Core.Path.{refl}
use Rattle.layers.proofs.Arrays.{sizes-take-suc, sizes-take-le}
use Rattle.crowding_code.proofs.sizes.first_size.Goals as goal

pub returns : goal.returns
returns c =
    (λ lt. refl, omega (arith, sizes-take-suc c.args.heads 0, sizes-take-le c.args.heads 1 c.args.layers (omega (arith, c.if-layers-eq0.false))))
