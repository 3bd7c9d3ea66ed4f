-- The cases of reading s, k, b and F, number by number. Assumes nothing.
use Prim.Native.Nat.{ℕ, ◌-◌}
use mathlib.Core.Path.{◌≡◌}
use mathlib.Core.List.{List}
use Rattle.refusal.specs.declared.Refusal.{Refusal}
use Rattle.refusal.specs.Checked.{accepted, refused}
use Rattle.number.specs.Numbers.{read_within}
use Rattle.number.specs.declared.Reading.{Reading}
use Rattle.layers.specs.Layers.{Site}
use Rattle.placement.specs.Placement.{read_terms}

module _ (base : Site) (bytes : List ℕ) (at : ℕ) where
  pub no-s : {e : Refusal} → read_within 1 base.r bytes at ≡ refused e → read_terms base bytes at ≡ refused e
  unfolding read_terms
  no-s h = rw h

  module _ {s : Reading} (s_read : read_within 1 base.r bytes at ≡ accepted s) where
    pub no-k : {e : Refusal} → read_within s.value (base.n - 1) bytes s.next ≡ refused e → read_terms base bytes at ≡ refused e
    unfolding read_terms
    no-k h = rw (s_read, h)

    module _ {k : Reading} (k-read : read_within s.value (base.n - 1) bytes s.next ≡ accepted k) where
      pub no-b : {e : Refusal} → read_within 1 4_096 bytes k.next ≡ refused e → read_terms base bytes at ≡ refused e
      unfolding read_terms
      no-b h = rw (s_read, k-read, h)

      module _ {b : Reading} (b-read : read_within 1 4_096 bytes k.next ≡ accepted b) where
        pub no-figure : {e : Refusal} → read_within 0 b.value bytes b.next ≡ refused e → read_terms base bytes at ≡ refused e
        unfolding read_terms
        no-figure h = rw (s_read, k-read, b-read, h)

        pub all_read : {figure : Reading} → read_within 0 b.value bytes b.next ≡ accepted figure
            → read_terms base bytes at
            ≡ accepted
            (record {
              terms = record { s = s.value; k = k.value; b = b.value; figure = figure.value; place = b.next };
              next = figure.next;
            })
        unfolding read_terms
        all_read h = rw (s_read, k-read, b-read, h)
