-- The cases of checking a pack, over what reading its numbers and checking its blocks answered. Assumes nothing.
use Prim.Native.Nat.{ℕ, ◌≤◌}
use Rattle.std.specs.Prelude.{⊤, Result, Ok, Err}
use mathlib.Core.Path.{◌≡◌}
use mathlib.Core.List.{List}
use lib.ListN.{length, take}
use Rattle.refusal.specs.declared.Refusal.{Refusal}
use Rattle.refusal.specs.Checked.{refused, verdict}
use Rattle.refusal.proofs.Answered.{answered-err}
use Rattle.refusal.proofs.Checked.{verdict-good, verdict-refused}
use Rattle.layers.specs.Layers.{sizes, read_base, read_layers, check_rows}
use Rattle.layers.specs.declared.BaseRead.{BaseRead}
use Rattle.layers.specs.declared.LayersRead.{LayersRead}
use Rattle.layers.specs.declared.FileKind.TheVariants.{Pack as PackKind}
use Rattle.layers.specs.Answers.{site_of, base_read, layers_read}
use Rattle.layers.proofs.RowsChecked.{taken-of-check_rows, taken-heads}
use Rattle.layers.proofs.Answered.{BaseGood, LayersGood, base-good, layers-good}
use Rattle.pack.specs.Pack.{pack_layer_limits, read_pack}
use Rattle.pack.specs.Answers.{pack_checked}
use Rattle.pack.specs.declared.PackCheck.{PackCheck}

module _ (s : List ℕ) {read : Result BaseRead Refusal} (is : read ≡ base_read (read_base PackKind s)) where
  pub pack-no-base : {e : Refusal} → read ≡ Err e → pack_checked (refused e) ≡ pack_checked (read_pack s)
  unfolding read_pack
  pack-no-base why = rw (answered-err _ (read_base PackKind s) is why)

  module _ {head : BaseRead} (good : read ≡ Ok head) where
    pub pack-base : BaseGood PackKind s head
    pack-base = base-good PackKind s is good

    module _ {given : Result LayersRead Refusal}
        (are : given ≡ layers_read (read_layers pack_layer_limits head.base.r 4_096 s head.next)) where
      pub pack-no-layers : {e : Refusal} → given ≡ Err e → pack_checked (refused e) ≡ pack_checked (read_pack s)
      unfolding read_pack
      pack-no-layers why = rw (pack-base.accepts, answered-err _ (read_layers pack_layer_limits head.base.r 4_096 s head.next) are why)

      module _ {numbers : LayersRead} (taken : given ≡ Ok numbers) where
        layers : LayersGood pack_layer_limits head.base.r 4_096 s head.next numbers
        layers = layers-good pack_layer_limits head.base.r 4_096 s head.next are taken pack-base.held.limits.r-most

        pub blocks-asked : (numbers.next ≤ length s) × (sizes (take head.base.r numbers.heads) ≤ 4_096)
        blocks-asked = (layers.inside pack-base.inside, layers.within.fit)

        module _ (rows : Result ⊤ Refusal)
            (checked : rows ≡ verdict (check_rows (site_of head.base) (take head.base.r numbers.heads) s numbers.next)) where
          pub pack-no-rows : {e : Refusal} → rows ≡ Err e → pack_checked (refused e) ≡ pack_checked (read_pack s)
          unfolding read_pack
          pack-no-rows why =
              rw (
                pack-base.accepts,
                layers.accepts,
                verdict-refused (check_rows (site_of head.base) (take head.base.r numbers.heads) s numbers.next) checked why,
              )

          pub pack-good : rows ≡ Ok tt
              → ◌≡◌ {A = PackCheck}
              (record {
                answer = Ok (record { n = head.base.n; r = head.base.r; first = numbers.next });
                layers = numbers.heads;
                dark = head.base.dark;
              })
              (pack_checked (read_pack s))
          unfolding read_pack
          pack-good fine =
              let heads = take head.base.r numbers.heads in
              let (found, accepts) = verdict-good (check_rows (site_of head.base) heads s numbers.next) checked fine in
              let same = taken-heads (site_of head.base) heads s numbers.next
              (taken-of-check_rows (site_of head.base) heads s numbers.next accepts) in
              rw (pack-base.accepts, layers.accepts, accepts, same, ← layers.array, ← pack-base.array)
