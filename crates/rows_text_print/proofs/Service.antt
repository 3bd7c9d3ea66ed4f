-- Where a row stands, some node is in service. Assumes nothing.
use Prim.Native.Nat.{ℕ, suc, ◌+◌, ◌≤◌, ◌<◌}
use native.Mathlib.Omega.{arith}
use mathlib.Core.Path.{◌≡◌, refl}
use mathlib.Core.Bool.{Bool, true, false, ◌||◌}
use mathlib.Core.List.{List, [], ◌∷◌}
use lib.ListN.{length}
use lib.Dec.{T, leb, ltb, eqb}
use borrow.Author.Tests.{leb-true, ltb-true, ltb-false, eqb-false, eq-eqb}
use Rattle.lists.specs.Lists.{All, every}
use Rattle.lists.proofs.Tests.{true-T, and_left, and_right}
use Rattle.packing.specs.Rows.{Row, ascending, is_in_order, member}
use Rattle.layers.specs.Layers.{InService}
use Rattle.layers.proofs.Listing.{dark-below}

-- nodes from `lo` on that ascend below n are n - lo at most
few : (lo n : ℕ) (nodes : List ℕ) → lo ≤ n → T (ascending lo nodes) → All (λ v. v < n) nodes → lo + length nodes ≤ n
unfolding ascending
few lo n [] h t all = omega arith
few lo n (v ∷ nodes) h t all =
    let least = leb-true lo v (true-T (leb lo v) (and_left (leb lo v) (ascending (suc v) nodes) t)) in
    let later = few (suc v) n nodes (omega (arith, all.0)) (and_right (leb lo v) (ascending (suc v) nodes) t) all.1 in
    omega arith

-- so n - lo of them are all there are
all_there : (lo n v : ℕ) (nodes : List ℕ) → T (ascending lo nodes) → All (λ w. w < n) nodes → lo ≤ v → v < n → n ≤ lo + length nodes
    → T (member v nodes)
unfolding ascending member
all_there lo n v [] t all from below enough = absurd (omega arith)
all_there lo n v (w ∷ nodes) t all from below enough = go (λ h e. all_there (suc w) n v nodes (and_right (leb lo w) (ascending (suc w) nodes) t) all.1 h below e) (eqb v w) refl
  where
    least : lo ≤ w
    least = leb-true lo w (true-T (leb lo w) (and_left (leb lo w) (ascending (suc w) nodes) t))

    rising : T (ascending (suc w) nodes)
    rising = and_right (leb lo w) (ascending (suc w) nodes) t

    go : (suc w ≤ v → n ≤ suc w + length nodes → T (member v nodes)) → (b : Bool) → eqb v w ≡ b → T (b || member v nodes)
    go later true e = tt
    go later false e =
        let other : v ≡ w → ⊥ = eqb-false v w e in
        let number = few (suc w) n nodes (omega (arith, all.0)) rising all.1 in
        later (omega (arith, least)) (omega (arith, least))

pub some-in-service : (n r : ℕ) (dark : List ℕ) (rows : List (List ℕ)) → 2 ≤ r → 0 < length rows → All (Row n r) rows → T (is_in_order n dark)
    → InService dark rows → length dark < n
unfolding member
some-in-service n r dark [] two some rows order free = absurd (omega arith)
some-in-service n r dark ([] ∷ others) two some rows order free = absurd (let e = rows.0.0 in omega arith)
some-in-service n r dark ((v ∷ row) ∷ others) two some rows order free = go (ltb (length dark) n) refl
  where
    rising : T (ascending 0 dark)
    rising = and_left (ascending 0 dark) (every (λ w. ltb w n) dark) order

    inside : v < n
    inside = (dark-below n (v ∷ row) rows.0.1).0

    here : T (member v (v ∷ row))
    here = rw (eq-eqb v v refl) tt

    go : (b : Bool) → ltb (length dark) n ≡ b → length dark < n
    go true e = ltb-true (length dark) n e
    go false e =
        absurd (free.0 (v, here, all_there 0 n v dark rising (dark-below n dark order) (omega arith) inside (omega (arith, ltb-false (length dark) n e))))
