-- A good placement's bytes are its file where it has no feeders, and at most 448 of them stand before the rows. Assumes nothing.
use Prim.Native.Nat.{◌+◌, ◌*◌, ◌≤◌, ◌<◌}
use native.Mathlib.Omega.{arith}
use mathlib.Core.Path.{◌≡◌, refl, sym, ◌∙◌, ap}
use mathlib.Core.Logic.{⊎_elim}
use mathlib.Core.List.{[], ◌∷◌, ◌++◌, flatten, append-nil}
use mathlib.Core.Option.{none}
use lib.ListN.{length, length-append}
use Rattle.lists.specs.Lists.{All}
use Rattle.lists.proofs.Alls.{all_append, all-imp, all-flatten, length-flatten}
use Rattle.number.specs.Numbers.{Bytes, largest_number, forms_of}
use Rattle.number.proofs.Laws.{number_bytes-length-one, number_bytes-length-le-two}
use Rattle.number.proofs.Forms.{forms-of, forms-bytes, forms_of-append}
use Rattle.layers.specs.Layers.{all_rows, heads_of, head_numbers, list_numbers}
use Rattle.layers.proofs.KindMeaning.{placement-kinds}
use Rattle.layers.proofs.Listing.{list-bytes, list-most}
use Rattle.layers.proofs.Each.{row-bytes}
use Rattle.layers.proofs.Lengths.{length-all_rows, length-head_numbers, head_numbers-most}
use Rattle.placement.specs.Figure.{figure_of}
use Rattle.placement.specs.Placement.{Placement, GoodPlacement, placement_numbers, PlacementFile, placement_bytes}

module _ (p : Placement) (good : GoodPlacement p) where
  -- "F (0..b)"
  pub figure-le : p.figure ≤ p.b
  unfolding figure_of
  figure-le = omega (arith, good.formula)

  bounds-most : All (λ layer. layer.bound ≤ largest_number) p.layers
  bounds-most = all-imp (λ layer. layer.bound ≤ 16_777_216) _ (λ layer h. omega arith) p.layers good.limits.lambda-most

  kind-small : p.kind < 128
  kind-small =
      ⊎_elim (λ two. omega arith) (⊎_elim (λ three. omega arith) (⊎_elim (λ five. omega arith) (λ six. omega arith)))
      (placement-kinds p.kind good.limits.kind)

  numbers-most : All (λ v. v ≤ largest_number) (placement_numbers p)
  numbers-most =
      let l = good.limits in
      let b = l.base in
      let o = l.order in
      let f = figure-le in (
        omega (arith, kind-small),
        (
          omega arith,
          (
            omega arith,
            all_append (λ v. v ≤ largest_number) (list_numbers p.kind p.dark)
                (p.s ∷ p.k ∷ p.b ∷ p.figure ∷ head_numbers (heads_of p.layers))
                (list-most p.n p.dark b.n-most l.dark.ordered p.kind)
                (omega arith, (omega arith, (omega arith, (omega arith, head_numbers-most p.layers bounds-most (omega arith))))),
          ),
        ),
      )

  -- what is written of one without feeders is the placement's file
  pub written-file : p.feeders ≡ none → PlacementFile p (placement_bytes p)
  unfolding placement_bytes
  written-file unfed = (
    forms_of (placement_numbers p),
    [],
    forms-of (placement_numbers p) numbers-most,
    rw unfed refl,
    ap (λ l. forms_of (placement_numbers p) ++ l) (sym (append-nil (flatten (all_rows p.layers)))),
  )

  pub written-bytes : Bytes (placement_bytes p)
  unfolding placement_bytes
  written-bytes =
      all_append _ (forms_of (placement_numbers p)) (flatten (all_rows p.layers))
      (forms-bytes (placement_numbers p) _ (forms-of (placement_numbers p) numbers-most))
      (all-flatten _ (all_rows p.layers) (all-imp _ Bytes (row-bytes p.n p.r good.limits.base.n-most) (all_rows p.layers) good.rows))

  rows-length : length (flatten (all_rows p.layers)) ≡ p.b * p.r
  rows-length =
      length-flatten p.r (all_rows p.layers) (all-imp _ _ (λ row h. h.0) (all_rows p.layers) good.rows)
      ∙ ap (λ n. n * p.r) (length-all_rows p.layers ∙ good.limits.records-all)

  -- 64 without the list, and 384 for that
  head-length : length (forms_of (placement_numbers p)) ≤ 448
  unfolding flatten
  head-length =
      let l = good.limits in
      let b = l.base in
      let o = l.order in
      let f = figure-le in
      rw (forms_of-append (list_numbers p.kind p.dark) (p.s ∷ p.k ∷ p.b ∷ p.figure ∷ head_numbers (heads_of p.layers)))
      (simp length-append
      (omega (
        arith,
        number_bytes-length-one p.kind kind-small,
        list-bytes p.n p.dark b.n-most l.dark.ordered p.kind,
        number_bytes-length-le-two p.n (omega arith),
        number_bytes-length-le-two p.r (omega arith),
        number_bytes-length-le-two p.s (omega arith),
        number_bytes-length-le-two p.k (omega arith),
        number_bytes-length-le-two p.b (omega arith),
        number_bytes-length-le-two p.figure (omega arith),
        length-head_numbers p.layers bounds-most (omega arith),
      )))

  -- (h) "its output must now have at least 448 + b × r bytes": enough for the whole file, whatever its list
  pub written-length : length (placement_bytes p) ≤ 448 + p.b * p.r
  unfolding placement_bytes
  written-length =
      rw (length-append (forms_of (placement_numbers p))) (omega (arith, head-length, rows-length))
