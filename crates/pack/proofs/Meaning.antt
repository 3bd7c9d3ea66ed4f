-- A pack whose head's numbers are in order is refused exactly where document 01's table says, for its rows. Assumes nothing.
use Prim.Native.Nat.{ℕ}
use mathlib.Core.Path.{◌≡◌}
use mathlib.Core.Logic.{◌↔◌}
use mathlib.Core.List.{List}
use Rattle.refusal.specs.declared.Refusal.{Refusal}
use Rattle.refusal.specs.Checked.{accepted, refused}
use Rattle.refusal.proofs.Checked.{handed_on-refused, map_accepted-refused}
use Rattle.layers.specs.Layers.{BaseReading, LayerHeads, read_base, read_layers, check_rows}
use Rattle.layers.specs.declared.FileKind.TheVariants.{Pack as PackKind}
use Rattle.layers.specs.Meaning.{RowsRefused}
use Rattle.layers.proofs.Meaning.{rows-refused-iff}
use Rattle.pack.specs.Pack.{pack_layer_limits, read_pack, check_pack}

module _ (s : List ℕ) {head : BaseReading} {numbers : LayerHeads} (b : read_base PackKind s ≡ accepted head)
    (l : read_layers pack_layer_limits head.base.r 4_096 s head.next ≡ accepted numbers) (e : Refusal) where
  -- the check is that of the rows
  rows-decide : (check_pack s ≡ refused e) ↔ (check_rows head.base numbers.heads s numbers.next ≡ refused e)
  unfolding check_pack read_pack
  rows-decide =
      rw (b, l) (
        λ p. (handed_on-refused (check_rows head.base numbers.heads s numbers.next) _ e).0 ((map_accepted-refused _ _ e).0 p),
        λ p. (map_accepted-refused _ _ e).1 ((handed_on-refused (check_rows head.base numbers.heads s numbers.next) _ e).1 p),
      )

  pub pack-refused-iff : (check_pack s ≡ refused e) ↔ RowsRefused head.base numbers.heads s numbers.next e
  pack-refused-iff =
      let rows = rows-refused-iff head.base numbers.heads s numbers.next e in
      (λ p. rows.0 (rows-decide.0 p), λ h. rows-decide.1 (rows.1 h))
