-- The cases of reading s, k and b, number by number. Assumes nothing.
use Prim.Native.Nat.{ℕ, ◌-◌}
use mathlib.Core.Path.{◌≡◌}
use mathlib.Core.List.{List}
use Rattle.refusal.specs.declared.Refusal.{Refusal}
use Rattle.refusal.specs.Checked.{accepted, refused}
use Rattle.number.specs.Numbers.{read_within}
use Rattle.number.specs.declared.Reading.{Reading}
use Rattle.layers.specs.Layers.{Site}
use Rattle.certify.specs.Bare.{read_order}

module _ (base : Site) (bytes : List ℕ) (at : ℕ) where
  pub no-s : {e : Refusal} → read_within 1 base.r bytes at ≡ refused e → read_order base bytes at ≡ refused e
  unfolding read_order
  no-s h = rw h

  module _ {s : Reading} (s_read : read_within 1 base.r bytes at ≡ accepted s) where
    pub no-k : {e : Refusal} → read_within s.value (base.n - 1) bytes s.next ≡ refused e → read_order base bytes at ≡ refused e
    unfolding read_order
    no-k h = rw (s_read, h)

    module _ {k : Reading} (k-read : read_within s.value (base.n - 1) bytes s.next ≡ accepted k) where
      pub no-b : {e : Refusal} → read_within 1 4_096 bytes k.next ≡ refused e → read_order base bytes at ≡ refused e
      unfolding read_order
      no-b h = rw (s_read, k-read, h)

      pub all_read : {b : Reading} → read_within 1 4_096 bytes k.next ≡ accepted b
          → read_order base bytes at
          ≡ accepted (record { order = record { s = s.value; k = k.value; b = b.value }; next = b.next })
      unfolding read_order
      all_read h = rw (s_read, k-read, h)
