-- Request (b): the rows of two files that differ only in the padding of their heads. Assumes nothing.
use Prim.Native.Nat.{ℕ, ◌+◌, ◌*◌, ◌-◌, ◌≤◌, ◌<◌}
use native.Mathlib.Omega.{arith}
use mathlib.Core.Path.{◌≡◌, refl, sym, ◌∙◌, ap}
use mathlib.Core.Bool.{Bool, true, false}
use mathlib.Core.List.{List, []}
use mathlib.Core.Option.{Option, none, some}
use lib.ListN.{length, drop, length-drop}
use lib.Dec.{leb}
use borrow.Author.Tests.{leb-true, leb-false, le-leb, lt-leb}
use Rattle.refusal.specs.declared.Refusal.TheVariants.{BadRow, OutOfService, Crowded}
use Rattle.refusal.specs.Agree.{Agree, both-accepted, both-refused}
use Rattle.refusal.proofs.Agree.{agree-bind, agree-require}
use Rattle.packing.specs.Rows.{first_bad}
use Rattle.layers.specs.Layers.{Layer, Site, all_rows, sizes, first_naming, first_crowded_of, layers_at, refuse_row, check_length, check_end, check_ascending, check_service, check_packings, check_rows}
use Rattle.layers.specs.declared.LayerHead.{LayerHead}
use Rattle.layers.proofs.Padding.{Padded, padded-none}

-- tests that say the same
pub leb-same : (a b c d : ℕ) → (a ≤ b → c ≤ d) → (b < a → d < c) → leb a b ≡ leb c d
leb-same a b c d h k = go (leb a b) refl
  where
    go : (t : Bool) → leb a b ≡ t → leb a b ≡ leb c d
    go true e = e ∙ sym (le-leb c d (h (leb-true a b e)))
    go false e = e ∙ sym (lt-leb c d (k (leb-false a b e)))

-- the same row found
pub ascending-agree : (base : Site) (at at' : ℕ) (rows : List (List ℕ))
    → Agree (λ u u'. Unit) (check_ascending base at rows) (check_ascending base at' rows)
unfolding check_ascending
ascending-agree base at at' rows = go (first_bad base.n rows)
  where
    go : (found : Option ℕ) → Agree (λ u u'. Unit) (refuse_row BadRow base.r at found) (refuse_row BadRow base.r at' found)
    go none = both-accepted tt
    go (some i) = both-refused refl

pub service-agree : (base : Site) (at at' : ℕ) (rows : List (List ℕ))
    → Agree (λ u u'. Unit) (check_service base at rows) (check_service base at' rows)
unfolding check_service
service-agree base at at' rows = go (first_naming base.dark rows)
  where
    go : (found : Option ℕ)
        → Agree (λ u u'. Unit) (refuse_row OutOfService base.r at found) (refuse_row OutOfService base.r at' found)
    go none = both-accepted tt
    go (some i) = both-refused refl

pub packings-agree : (r at at' : ℕ) (layers : List Layer)
    → Agree (λ u u'. Unit) (check_packings r at layers) (check_packings r at' layers)
unfolding check_packings
packings-agree r at at' layers = go (first_crowded_of 0 layers)
  where
    go : (found : Option ℕ) → Agree (λ u u'. Unit) (refuse_row Crowded r at found) (refuse_row Crowded r at' found)
    go none = both-accepted tt
    go (some i) = both-refused refl

module _ (s s' : List ℕ) where
  -- The rows: the same bytes to the end.
  pub check_rows-padded : (base : Site) (heads : List LayerHead) (at at' : ℕ) → Padded [] s s' at at'
      → Agree (λ layers layers'. layers ≡ layers') (check_rows base heads s at) (check_rows base heads s' at')
  unfolding check_rows check_length check_end
  check_rows-padded base heads at at' p =
      let size = sizes heads * base.r in
      let layers = layers_at base.r heads (drop at' s') in
      let here = padded-none p in
      let long : length s - at ≡ length s' - at' = sym (length-drop at s) ∙ ap length here ∙ length-drop at' s' in
      let inside : at ≤ length s = rw p.reads p.inside in
      let inside' : at' ≤ length s' = rw p.reads' p.inside' in
      rw
      here
      (agree-require _ _ _ _ _ _
      (leb-same (at + size) (length s) (at' + size) (length s') (λ h. omega arith) (λ h. omega arith)) refl
      (agree-require _ _ _ _ _ _
      (leb-same (length s) (at + size) (length s') (at' + size) (λ h. omega arith) (λ h. omega arith)) refl
      (agree-bind _ _ (ascending-agree base at at' (all_rows layers)) λ u u' t.
      agree-bind _ _ (service-agree base at at' (all_rows layers)) λ u u' t.
      agree-bind _ _ (packings-agree base.r at at' layers) λ u u' t.
      both-accepted refl)))
