-- Numbers written one after the other, each in its shortest form. Assumes nothing.
use Prim.Native.Nat.{ℕ, ◌+◌, ◌≤◌, ◌<◌}
use native.Mathlib.Omega.{arith}
use native.Mathlib.Numerals.{add-one}
use mathlib.Core.Path.{◌≡◌, refl, sym, ◌∙◌, ap}
use mathlib.Core.List.{List, [], ◌∷◌, ◌++◌, map, map-append, flatten, append-nil}
use lib.ListN.{length, get_or, take, drop, length-append, take-append-drop}
use lib.Seq.{take-suc}
use Rattle.lists.specs.Lists.{All}
use Rattle.lists.proofs.Alls.{all_append}
use Rattle.lists.proofs.Counts.{flatten-append}
use Rattle.number.specs.Numbers.{Bytes, Forms, forms_of, largest_number, number_bytes}
use Rattle.number.proofs.Laws.{form-bytes, form-most, form-number_bytes, form-shortest}

pub forms-of : (vs : List ℕ) → All (λ v. v ≤ largest_number) vs → Forms vs (forms_of vs)
unfolding flatten
forms-of [] h = refl
forms-of (v ∷ vs) h = (number_bytes v, forms_of vs, refl, form-number_bytes v h.0, forms-of vs h.1)

-- numbers that have forms are within limits
pub forms-most : (vs f : List ℕ) → Forms vs f → All (λ v. v ≤ largest_number) vs
forms-most [] f h = tt
forms-most (v ∷ vs) f (g, rest, e, form, h) = (form-most form, forms-most vs rest h)

-- no forms of the numbers are shorter than the shortest
pub forms-shortest : (vs f : List ℕ) → Forms vs f → length (forms_of vs) ≤ length f
unfolding flatten
forms-shortest [] f h = omega arith
forms-shortest (v ∷ vs) f (g, rest, e, form, h) =
    let first = form-shortest form in
    let others = forms-shortest vs rest h in
    rw (e, length-append g rest, length-append (number_bytes v)) (omega arith)

-- forms are bytes
pub forms-bytes : (vs : List ℕ) (f : List ℕ) → Forms vs f → Bytes f
forms-bytes [] f e = rw e tt
forms-bytes (v ∷ vs) f (g, h, e, form, forms) =
    rw e (all_append _ g h (form-bytes form) (forms-bytes vs h forms))

pub forms_of-append : (vs ws : List ℕ) → forms_of (vs ++ ws) ≡ forms_of vs ++ forms_of ws
forms_of-append vs ws = ap flatten (map-append number_bytes vs ws) ∙ flatten-append (map number_bytes vs) (map number_bytes ws)

-- one number more
pub forms_of-take-suc : (vs : List ℕ) (i : ℕ) → i < length vs
    → forms_of (take (i + 1) vs) ≡ forms_of (take i vs) ++ number_bytes (get_or vs i 0)
unfolding flatten
forms_of-take-suc vs i h =
    rw (add-one i, take-suc vs i 0 h)
    (forms_of-append (take i vs) (get_or vs i 0 ∷ []) ∙ rw (append-nil (number_bytes (get_or vs i 0))))

-- the first numbers take no more bytes than all
pub forms_of-take-le : (vs : List ℕ) (i : ℕ) → length (forms_of (take i vs)) ≤ length (forms_of vs)
forms_of-take-le vs i =
    let split : forms_of vs ≡ forms_of (take i vs) ++ forms_of (drop i vs) =
    ap forms_of (sym (take-append-drop i vs)) ∙ forms_of-append (take i vs) (drop i vs)
    in
    omega (arith, simp length-append at (ap length split))
