-- The answers of checking rows: 1 or 5 for their length, then 6 over all rows, then 15, then 7. Assumes nothing.
use Prim.Native.Nat.{ℕ, ◌+◌, ◌*◌, ◌<◌}
use Rattle.std.specs.Prelude.{⊤, Result, Ok, Err}
use native.Mathlib.Nat.{le_of_lt, le_refl}
use mathlib.Core.Path.{◌≡◌, refl, ◌∙◌}
use mathlib.Core.List.{List}
use mathlib.Core.Option.{Option, none, some}
use lib.ListN.{length, drop}
use lib.Dec.{T}
use borrow.Author.Tests.{le-leb, lt-leb}
use Rattle.lists.specs.Lists.{All}
use Rattle.refusal.specs.declared.Refusal.{Refusal}
use Rattle.refusal.specs.declared.Refusal.TheVariants.{Ended, Trailing, BadRow}
use Rattle.refusal.specs.Checked.{Checked, accepted, refused, ◌>>=◌, verdict}
use Rattle.refusal.proofs.Checked.{verdict-good, verdict-refused, refused-not-accepted}
use Rattle.packing.specs.Rows.{is_in_order, rows_at, first_bad}
use Rattle.packing.proofs.Load.{rows-ascend}
use Rattle.packing.proofs.Test.{good-iff-in-order}
use Rattle.layers.specs.Layers.{Layer, Site, sizes, all_rows, layers_at, refuse_row, check_length, check_end, check_ascending, check_service, check_packings, check_rows}
use Rattle.layers.specs.declared.LayerHead.{LayerHead}
use Rattle.layers.specs.Asked.{Ascending}
use Rattle.crowding_code.proofs.AllRows.{all_rows-layers_at}

-- what a last check says, with what is handed on after it
pub verdict-left : {A : Type 0} (m : Checked Unit) (a : A) → verdict m ≡ verdict (m >>= λ u. accepted a)
verdict-left (accepted u) a = refl
verdict-left (refused e) a = refl

-- rows of which none is bad are in order, and ascend
pub in_order : (base : Site) (at : ℕ) (rows : List (List ℕ)) {u : Unit} → check_ascending base at rows ≡ accepted u
    → All (λ row. T (is_in_order base.n row)) rows
unfolding check_ascending
in_order base at rows e = (good-iff-in-order base.n rows).0 (none_found (first_bad base.n rows) e)
  where
    none_found : (o : Option ℕ) {u : Unit} → refuse_row BadRow base.r at o ≡ accepted u → o ≡ none
    none_found none e = refl
    none_found (some i) e = absurd (refused-not-accepted e)

ascend : (base : Site) (at : ℕ) (rows : List (List ℕ)) {u : Unit} → check_ascending base at rows ≡ accepted u → Ascending rows
ascend base at rows e = rows-ascend base.n rows (in_order base at rows e)

module _ (base : Site) (heads : List LayerHead) (s : List ℕ) (at rows : ℕ) (count : rows ≡ sizes heads) where
  pub rows_short : length s < at + rows * base.r → Err (Ended (length s)) ≡ verdict (check_rows base heads s at)
  unfolding check_length check_rows
  rows_short h =
      let short : length s < at + sizes heads * base.r = rw (← count) h in
      rw (lt-leb (at + sizes heads * base.r) (length s) short)

  pub rows_long : at + rows * base.r < length s
      → Err (Trailing (at + rows * base.r)) ≡ verdict (check_rows base heads s at)
  unfolding check_length check_end check_rows
  rows_long h =
      let long : at + sizes heads * base.r < length s = rw (← count) h in
      rw (
        le-leb (at + sizes heads * base.r) (length s) (le_of_lt long),
        lt-leb (length s) (at + sizes heads * base.r) long,
        count,
      )

  module _ (ends : at + rows * base.r ≡ length s) (order : Result ⊤ Refusal)
      (is : order ≡ verdict (check_ascending base at (rows_at base.r rows (drop at s)))) where
    layers : List Layer
    layers = layers_at base.r heads (drop at s)

    ordered : order ≡ verdict (check_ascending base at (all_rows layers))
    unfolding layers
    ordered = is ∙ rw (count, all_rows-layers_at base.r heads (drop at s))

    -- the length is right: what follows
    right : check_rows base heads s at
        ≡ (check_ascending base at (all_rows layers)
        >>= λ u. check_service base at (all_rows layers) >>= λ v. check_packings base.r at layers >>= λ w. accepted layers)
    unfolding layers check_length check_end check_rows
    right =
        let e : at + sizes heads * base.r ≡ length s = rw (← count) ends in
        rw (e, le-leb (length s) (length s) (le_refl (length s)))

    pub rows-unordered : {e : Refusal} → order ≡ Err e → Err e ≡ verdict (check_rows base heads s at)
    rows-unordered k = rw (right, verdict-refused (check_ascending base at (all_rows layers)) ordered k)

    module _ (good : order ≡ Ok tt) where
      pub rows-ordered : Ascending (all_rows (layers_at base.r heads (drop at s)))
      unfolding layers
      rows-ordered = ascend base at (all_rows layers) (verdict-good (check_ascending base at (all_rows layers)) ordered good).1

      module _ (service : Result ⊤ Refusal) (says : service ≡ verdict (check_service base at (rows_at base.r rows (drop at s)))) where
        served : service ≡ verdict (check_service base at (all_rows layers))
        unfolding layers
        served = says ∙ rw (count, all_rows-layers_at base.r heads (drop at s))

        pub rows-dark : {e : Refusal} → service ≡ Err e → Err e ≡ verdict (check_rows base heads s at)
        rows-dark k =
            rw (
              right,
              (verdict-good (check_ascending base at (all_rows layers)) ordered good).1,
              verdict-refused (check_service base at (all_rows layers)) served k,
            )

        pub rows_left : service ≡ Ok tt → {answer : Result ⊤ Refusal}
            → answer ≡ verdict (check_packings base.r at (layers_at base.r heads (drop at s)))
            → answer ≡ verdict (check_rows base heads s at)
        unfolding layers
        rows_left light a =
            a
            ∙ rw (
              right,
              (verdict-good (check_ascending base at (all_rows layers)) ordered good).1,
              (verdict-good (check_service base at (all_rows layers)) served light).1,
            )
            (verdict-left (check_packings base.r at layers) layers)
