-- Rows and nodes out of service: the test finds a row exactly where it names one. Assumes nothing.
use Prim.Native.Nat.{ℕ}
use native.Mathlib.Omega.{arith}
use mathlib.Core.Path.{◌≡◌, refl}
use mathlib.Core.Logic.{◌↔◌, ⊎_elim}
use mathlib.Core.Bool.{false}
use mathlib.Core.List.{List, [], ◌∷◌}
use mathlib.Core.Option.{none, some}
use lib.ListN.{get_or}
use lib.Dec.{T}
use Rattle.lists.specs.Lists.{any}
use Rattle.lists.proofs.Alls.{all-imp}
use Rattle.lists.proofs.Tests.{T_true, true-T, false-T, T-not-false, or_left, or_right, or_cases}
use Rattle.lists.proofs.Finds.{first_where-none, none-first_where, some-first_where}
use Rattle.lists.proofs.Listed.{first_where-some}
use Rattle.packing.specs.Rows.{member}
use Rattle.packing.proofs.Members.{member-cases, member-here, member-later}
use Rattle.layers.specs.Layers.{Names, InService, names, first_naming}
use Rattle.layers.specs.Meaning.{FirstAt, DarkAt}

-- the test of a row
pub names-iff : (dark row : List ℕ) → T (names dark row) ↔ Names dark row
unfolding names any member
names-iff dark row = (to row, from row)
  where
    to : (row : List ℕ) → T (any (λ v. member v dark) row) → Names dark row
    to [] t = absurd t
    to (v ∷ row) t =
        ⊎_elim (λ here. (v, member-here v v row refl, here))
        (λ later. let (w, in_row, in-dark) = to row later in (w, member-later w v row in_row, in-dark))
        (or_cases (member v dark) (any (λ v. member v dark) row) t)

    from : (row : List ℕ) → Names dark row → T (any (λ v. member v dark) row)
    from [] (w, in_row, in-dark) = absurd in_row
    from (v ∷ row) (w, in_row, in-dark) =
        ⊎_elim (λ same. or_left (member v dark) (any (λ v. member v dark) row) (rw same at in-dark))
        (λ later. or_right (member v dark) (any (λ v. member v dark) row) (from row (w, later, in-dark)))
        (member-cases w v row in_row)

-- none is found exactly where no row names one
pub service-iff : (dark : List ℕ) (rows : List (List ℕ)) → (first_naming dark rows ≡ none) ↔ InService dark rows
unfolding first_naming
service-iff dark rows = (
  λ e. all-imp (λ row. names dark row ≡ false) (λ row. Names dark row → ⊥) (λ row f h. false-T f ((names-iff dark row).1 h)) rows (none-first_where (names dark) rows e),
  λ h. first_where-none (names dark) rows
      (all-imp (λ row. Names dark row → ⊥) (λ row. names dark row ≡ false) (λ row no. T-not-false (names dark row) (λ t. no ((names-iff dark row).0 t))) rows h),
)

-- refusal 15's row
pub first-naming-meaning : (dark : List ℕ) (rows : List (List ℕ)) (i : ℕ)
    → (first_naming dark rows ≡ some i) ↔ FirstAt (DarkAt dark rows) i
unfolding first_naming
first-naming-meaning dark rows i = (found, finds)
  where
    found : first_naming dark rows ≡ some i → FirstAt (DarkAt dark rows) i
    found e =
        let f = some-first_where (names dark) rows [] i e in
        record {
          here = (f.within, (names-iff dark (get_or rows i [])).0 (T_true f.passes));
          none_before = λ j lt h. false-T (f.first j lt) ((names-iff dark (get_or rows j [])).1 h.1);
        }

    finds : FirstAt (DarkAt dark rows) i → first_naming dark rows ≡ some i
    finds f =
        first_where-some (names dark) rows [] i
        (record {
          within = f.here.0;
          passes = true-T (names dark (get_or rows i [])) ((names-iff dark (get_or rows i [])).1 f.here.1);
          first = λ j lt. T-not-false (names dark (get_or rows j [])) (λ t. f.none_before j lt (omega (arith, f.here.0), (names-iff dark (get_or rows j [])).0 t));
        })
