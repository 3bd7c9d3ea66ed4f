-- Refusals 1, 5, 6, 15 and 7 of rows are given exactly where document 01's conditions hold, with their places, for every file
-- and any x. Assumes nothing.
use Prim.Native.Nat.{ℕ, suc, ◌+◌, ◌*◌, ◌-◌, ◌≤◌, ◌<◌}
use native.Mathlib.Omega.{arith}
use native.Mathlib.Nat.{le_of_lt, le_refl}
use mathlib.Core.Path.{◌≡◌, refl, sym, ◌∙◌, ap, subst}
use mathlib.Core.Logic.{◌↔◌, inl, inr}
use mathlib.Core.Bool.{Bool, true, false, not}
use mathlib.Core.List.{List, [], ◌∷◌, flatten}
use mathlib.Core.Option.{Option, none, some}
use lib.ListN.{length, drop, get_or, length-drop}
use lib.Dec.{T, leb, ltb}
use borrow.Author.Tests.{leb-true, leb-false, le-leb, lt-leb, ltb-true, ltb-false}
use Rattle.lists.specs.Lists.{All}
use Rattle.lists.proofs.Alls.{all-append-left, all-append-right, all_both}
use Rattle.lists.proofs.Finds.{some-first_where}
use Rattle.lists.proofs.Listed.{first_where-some}
use Rattle.refusal.specs.declared.Refusal.{Refusal}
use Rattle.refusal.specs.declared.Refusal.TheVariants.{Ended, Malformed, WrongKind, OutsideLimits, Trailing, BadRow, Crowded, WrongFigure, NoBlock, ShortWork, ShortOutput, BadOrder, Unjoinable, BadWish, OutOfService, BadCounts, TooManySets, BadRounds, EarlierEvent, BadEvent, SharedFeeder}
use Rattle.refusal.specs.Checked.{Checked, accepted, refused, ◌>>=◌}
use Rattle.packing.specs.Rows.{Row, is_in_order, first_bad, first_crowded}
use Rattle.packing.proofs.Test.{FirstCrowded, first-crowded-meaning, uncrowded-packing, packing-no-set, good-iff-in-order}
use Rattle.layers.specs.Layers.{Layer, Packings, Site, all_rows, first_of, first_naming, first_crowded_of, check_length, check_end, check_ascending, check_service, check_packings, check_rows}
use Rattle.layers.specs.Meaning.{FirstAt, BadAt, CrowdedAt, standing, rows_end, RowsRefused}
use Rattle.layers.specs.declared.LayerHead.{LayerHead}
use Rattle.layers.proofs.Layouts.{layers_at-lengths}
use Rattle.layers.proofs.Packings.{uncrowded-packings}
use Rattle.layers.proofs.Service.{service-iff, first-naming-meaning}

-- there is one first place
pub first-at-unique : (P : ℕ → Type 0) (i j : ℕ) → FirstAt P i → FirstAt P j → i ≡ j
first-at-unique P i j a b = go (ltb i j) refl (ltb j i) refl
  where
    go : (s : Bool) → ltb i j ≡ s → (t : Bool) → ltb j i ≡ t → i ≡ j
    go true p t q = absurd (b.none_before i (ltb-true i j p) a.here)
    go false p true q = absurd (a.none_before j (ltb-true j i q) b.here)
    go false p false q = omega (arith, ltb-false i j p, ltb-false j i q)

-- refusal 6's row
pub first-bad-meaning : (n : ℕ) (rows : List (List ℕ)) (i : ℕ) → (first_bad n rows ≡ some i) ↔ FirstAt (BadAt n rows) i
unfolding first_bad
first-bad-meaning n rows i = (found, finds)
  where
    test : List ℕ → Bool
    test row = not (is_in_order n row)

    bad : (b : Bool) → not b ≡ true → T b → ⊥
    bad true e t = let z : ◌≡◌ {A = Bool} false true = e in subst T (sym z) tt
    bad false e t = t

    good : (b : Bool) → (T b → ⊥) → not b ≡ true
    good true h = absurd (h tt)
    good false h = refl

    fine : (b : Bool) → ((T b → ⊥) → ⊥) → not b ≡ false
    fine true h = refl
    fine false h = absurd (h (λ t. t))

    quiet : (b : Bool) → not b ≡ false → (T b → ⊥) → ⊥
    quiet true e h = h tt
    quiet false e h = let z : ◌≡◌ {A = Bool} true false = e in subst T z tt

    found : first_bad n rows ≡ some i → FirstAt (BadAt n rows) i
    found e =
        let f = some-first_where test rows [] i e in
        record {
          here = (f.within, bad (is_in_order n (get_or rows i [])) f.passes);
          none_before = λ j lt b. quiet (is_in_order n (get_or rows j [])) (f.first j lt) b.1;
        }

    finds : FirstAt (BadAt n rows) i → first_bad n rows ≡ some i
    finds f =
        first_where-some test rows [] i
        (record {
          within = f.here.0;
          passes = good (is_in_order n (get_or rows i [])) f.here.1;
          first = λ j lt. fine (is_in_order n (get_or rows j [])) (λ h. f.none_before j lt (omega (arith, f.here.0), h));
        })

-- no row is crowded where every layer is a packing
pub packings-no-crowd : (x : ℕ) (layers : List Layer) (i : ℕ) → Packings x layers → CrowdedAt x layers i → ⊥
packings-no-crowd x [] i p c = c
packings-no-crowd x (layer ∷ layers) i p (inl c) =
    packing-no-set x layer.bound layer.rows (get_or layer.rows i []) p.0 c.1
packings-no-crowd x (layer ∷ layers) i p (inr c) = packings-no-crowd (suc x) layers (i - length layer.rows) p.1 c.1

-- the row that is found in a layer, or after it
first-in : (n r x : ℕ) (layer : Layer) (layers : List Layer) (i : ℕ) → All (Row n r) layer.rows
    → first_crowded x layer.bound layer.rows ≡ some i → FirstAt (CrowdedAt x (layer ∷ layers)) i
first-in n r x layer layers i rows e =
    let f = (first-crowded-meaning x layer.bound layer.rows n r i rows).0 e in
    record { here = inl (f.within, f.crowding); none_before = λ j lt c. before f j lt c }
  where
    before : FirstCrowded x layer.bound layer.rows i → (j : ℕ) → j < i → CrowdedAt x (layer ∷ layers) j → ⊥
    before f j lt (inl c) = f.first j lt c.1
    before f j lt (inr c) = omega (arith, f.within, c.0)

first-after : (x : ℕ) (layer : Layer) (layers : List Layer) (i : ℕ) → first_crowded x layer.bound layer.rows ≡ none
    → FirstAt (CrowdedAt (suc x) layers) i → FirstAt (CrowdedAt x (layer ∷ layers)) (length layer.rows + i)
first-after x layer layers i e f =
    let same : i ≡ length layer.rows + i - length layer.rows = omega arith in
    record {
      here = inr (omega arith, subst (CrowdedAt (suc x) layers) same f.here);
      none_before = before;
    }
  where
    before : (j : ℕ) → j < length layer.rows + i → CrowdedAt x (layer ∷ layers) j → ⊥
    before j lt (inl c) =
        packing-no-set x layer.bound layer.rows (get_or layer.rows j []) (uncrowded-packing x layer.bound layer.rows e) c.1
    before j lt (inr c) = f.none_before (j - length layer.rows) (omega (arith, c.0)) c.1

found-crowded : (n r x : ℕ) (layers : List Layer) (i : ℕ) → All (Row n r) (all_rows layers) → first_crowded_of x layers ≡ some i
    → FirstAt (CrowdedAt x layers) i
unfolding first_crowded_of flatten
found-crowded n r x [] i rows e = absurd (let z : ◌≡◌ {A = ℕ} 0 1 = cc in omega arith)
found-crowded n r x (layer ∷ layers) i rows e =
    go (first_crowded x layer.bound layer.rows) refl (first_crowded_of (suc x) layers) refl e
    (λ j. found-crowded n r (suc x) layers j (all-append-right (Row n r) layer.rows (all_rows layers) rows))
  where
    go : (o : Option ℕ) → first_crowded x layer.bound layer.rows ≡ o → (after : Option ℕ)
        → first_crowded_of (suc x) layers ≡ after → first_of o (length layer.rows) after ≡ some i
        → ((j : ℕ) → first_crowded_of (suc x) layers ≡ some j → FirstAt (CrowdedAt (suc x) layers) j)
        → FirstAt (CrowdedAt x (layer ∷ layers)) i
    go (some j) p after q k ih =
        let same : j ≡ i = cc in
        subst (FirstAt (CrowdedAt x (layer ∷ layers))) same
        (first-in n r x layer layers j (all-append-left (Row n r) layer.rows (all_rows layers) rows) p)
    go none p none q k ih = absurd (let z : ◌≡◌ {A = ℕ} 0 1 = cc in omega arith)
    go none p (some j) q k ih =
        let same : length layer.rows + j ≡ i = cc in
        subst (FirstAt (CrowdedAt x (layer ∷ layers))) same (first-after x layer layers j p (ih j q))

-- refusal 7's row
pub first-crowded-of-meaning : (n r x : ℕ) (layers : List Layer) (i : ℕ) → All (Row n r) (all_rows layers)
    → (first_crowded_of x layers ≡ some i) ↔ FirstAt (CrowdedAt x layers) i
first-crowded-of-meaning n r x layers i rows = (found-crowded n r x layers i rows, finds)
  where
    finds : FirstAt (CrowdedAt x layers) i → first_crowded_of x layers ≡ some i
    finds f = go (first_crowded_of x layers) refl
      where
        go : (o : Option ℕ) → first_crowded_of x layers ≡ o → first_crowded_of x layers ≡ some i
        go none e = absurd (packings-no-crowd x layers i (uncrowded-packings x layers e) f.here)
        go (some j) e = e ∙ ap some (first-at-unique (CrowdedAt x layers) j i (found-crowded n r x layers j rows e) f)

-- What checking rows gives in each case.
module _ (base : Site) (heads : List LayerHead) (s : List ℕ) (at : ℕ) where
  rows : List (List ℕ)
  rows = all_rows (standing base heads s at)

  when-short : length s < rows_end base heads s at → check_rows base heads s at ≡ refused (Ended (length s))
  unfolding check_length check_rows
  when-short h = rw (lt-leb (rows_end base heads s at) (length s) h)

  when-long : rows_end base heads s at < length s → check_rows base heads s at ≡ refused (Trailing (rows_end base heads s at))
  unfolding check_length check_end check_rows
  when-long h =
      rw (
        le-leb (rows_end base heads s at) (length s) (le_of_lt h),
        lt-leb (length s) (rows_end base heads s at) h,
      )

  module _ (ends : length s ≡ rows_end base heads s at) where
    whole : check_rows base heads s at
        ≡ (check_ascending base at rows
        >>= λ u. check_service base at rows
        >>= λ v. check_packings base.r at (standing base heads s at) >>= λ w. accepted (standing base heads s at))
    unfolding rows check_length check_end check_rows
    whole = rw (← ends, le-leb (length s) (length s) (le_refl (length s)))

    when-bad : {i : ℕ} → first_bad base.n rows ≡ some i → check_rows base heads s at ≡ refused (BadRow (at + i * base.r))
    unfolding check_ascending
    when-bad e = rw (whole, e)

    module _ (good : first_bad base.n rows ≡ none) where
      when-dark : {i : ℕ} → first_naming base.dark rows ≡ some i
          → check_rows base heads s at ≡ refused (OutOfService (at + i * base.r))
      unfolding check_ascending check_service
      when-dark e = rw (whole, good, e)

      module _ (light : first_naming base.dark rows ≡ none) where
        when-crowded : {i : ℕ} → first_crowded_of 0 (standing base heads s at) ≡ some i
            → check_rows base heads s at ≡ refused (Crowded (at + i * base.r))
        unfolding check_ascending check_service check_packings
        when-crowded e = rw (whole, good, light, e)

        when-none : first_crowded_of 0 (standing base heads s at) ≡ none
            → check_rows base heads s at ≡ accepted (standing base heads s at)
        unfolding check_ascending check_service check_packings
        when-none e = rw (whole, good, light, e)

      -- the rows are rows
      rows_are : All (Row base.n base.r) (all_rows (standing base heads s at))
      unfolding rows
      rows_are =
          all_both (λ row. length row ≡ base.r) (λ row. T (is_in_order base.n row)) rows
          (layers_at-lengths base.r heads (drop at s) (rw length-drop (omega arith)))
          ((good-iff-in-order base.n rows).0 good)

  -- The rows are refused exactly where the table's conditions hold, in its order.
  pub rows-refused-iff : (e : Refusal) → (check_rows base heads s at ≡ refused e) ↔ RowsRefused base heads s at e
  unfolding rows
  rows-refused-iff e = (to, from e)
    where
      end : ℕ
      end = rows_end base heads s at

      same : {a b : Refusal} → ◌≡◌ {A = Checked (List Layer)} (refused a) (refused b) → a ≡ b
      same p = cc

      told : (a : Refusal) → check_rows base heads s at ≡ refused a → check_rows base heads s at ≡ refused e
          → RowsRefused base heads s at a → RowsRefused base heads s at e
      told a p q h = subst (RowsRefused base heads s at) (same (sym p ∙ q)) h

      to : check_rows base heads s at ≡ refused e → RowsRefused base heads s at e
      to q = go₁ (leb end (length s)) refl
        where
          go₅ : length s ≡ rows_end base heads s at → first_bad base.n rows ≡ none → first_naming base.dark rows ≡ none
              → (o : Option ℕ) → first_crowded_of 0 (standing base heads s at) ≡ o → RowsRefused base heads s at e
          go₅ ends good light (some i) p =
              told (Crowded (at + i * base.r)) (when-crowded ends good light p) q (
                ends,
                (good-iff-in-order base.n rows).0 good,
                (service-iff base.dark rows).0 light,
                (i, (first-crowded-of-meaning base.n base.r 0 (standing base heads s at) i (rows_are ends good)).0 p, refl),
              )
          go₅ ends good light none p =
              absurd (let r = when-none ends good light p in let z : ◌≡◌ {A = ℕ} 0 1 = cc in omega arith)

          go₄ : length s ≡ rows_end base heads s at → first_bad base.n rows ≡ none → (o : Option ℕ)
              → first_naming base.dark rows ≡ o → RowsRefused base heads s at e
          go₄ ends good (some i) p =
              told (OutOfService (at + i * base.r)) (when-dark ends good p) q
              (ends, (good-iff-in-order base.n rows).0 good, (i, (first-naming-meaning base.dark rows i).0 p, refl))
          go₄ ends good none p = go₅ ends good p (first_crowded_of 0 (standing base heads s at)) refl

          go₃ : length s ≡ rows_end base heads s at → (o : Option ℕ) → first_bad base.n rows ≡ o → RowsRefused base heads s at e
          go₃ ends (some i) p =
              told (BadRow (at + i * base.r)) (when-bad ends p) q (ends, (i, (first-bad-meaning base.n rows i).0 p, refl))
          go₃ ends none p = go₄ ends p (first_naming base.dark rows) refl

          go₂ : end ≤ length s → (b : Bool) → leb (length s) end ≡ b → RowsRefused base heads s at e
          go₂ k false p =
              let h = leb-false (length s) end p in
              told (Trailing (rows_end base heads s at)) (when-long h) q (h, refl)
          go₂ k true p = let h = leb-true (length s) end p in go₃ (omega arith) (first_bad base.n rows) refl

          go₁ : (b : Bool) → leb end (length s) ≡ b → RowsRefused base heads s at e
          go₁ false p =
              let h = leb-false end (length s) p in
              told (Ended (length s)) (when-short h) q (h, refl)
          go₁ true p = go₂ (leb-true end (length s) p) (leb (length s) end) refl

      from : (e : Refusal) → RowsRefused base heads s at e → check_rows base heads s at ≡ refused e
      from (Ended p) (h, is) = when-short h ∙ ap (λ p. refused (Ended p)) (sym is)
      from (Trailing p) (h, is) = when-long h ∙ ap (λ p. refused (Trailing p)) (sym is)
      from (BadRow p) (ends, (i, f, is)) =
          when-bad ends ((first-bad-meaning base.n rows i).1 f) ∙ ap (λ p. refused (BadRow p)) (sym is)
      from (OutOfService p) (ends, order, (i, f, is)) =
          when-dark ends ((good-iff-in-order base.n rows).1 order) ((first-naming-meaning base.dark rows i).1 f)
          ∙ ap (λ p. refused (OutOfService p)) (sym is)
      from (Crowded p) (ends, order, service, (i, f, is)) =
          let good = (good-iff-in-order base.n rows).1 order in
          when-crowded ends good ((service-iff base.dark rows).1 service)
          ((first-crowded-of-meaning base.n base.r 0 (standing base heads s at) i (rows_are ends good)).1 f)
          ∙ ap (λ p. refused (Crowded p)) (sym is)
      from (Malformed p) h = absurd h
      from WrongKind h = absurd h
      from (OutsideLimits p) h = absurd h
      from (WrongFigure p) h = absurd h
      from NoBlock h = absurd h
      from (ShortWork p) h = absurd h
      from (ShortOutput p) h = absurd h
      from (BadOrder p) h = absurd h
      from Unjoinable h = absurd h
      from BadWish h = absurd h
      from BadCounts h = absurd h
      from TooManySets h = absurd h
      from BadRounds h = absurd h
      from (EarlierEvent p) h = absurd h
      from (BadEvent p) h = absurd h
      from (SharedFeeder p) h = absurd h
