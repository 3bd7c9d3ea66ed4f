-- The packing test layer by layer, each on the part of the bytes that begins at its first row: what each turn of the loop
-- keeps, and what it answers. Assumes nothing.
use Prim.Native.Nat.{ℕ, suc, ◌+◌, ◌*◌, ◌≤◌, ◌<◌}
use Rattle.std.specs.Prelude.{Option as Given, Some, None, Ok, Err}
use native.Mathlib.Omega.{arith}
use native.Mathlib.Numerals.{add-one}
use native.Mathlib.Nat.{mul-le-mul_right, le_of_lt}
use mathlib.Core.Path.{◌≡◌, refl, sym, ◌∙◌, ap}
use mathlib.Core.List.{List, [], ◌∷◌, flatten}
use mathlib.Core.Option.{Option, none, some}
use lib.ListN.{length, take, drop, get_or, length-take, drop_of_length-le}
use lib.Seq.{drop-drop, slice-cons}
use Rattle.lists.specs.Lists.{total}
use Rattle.lists.proofs.Alls.{all-append-left, all-append-right}
use Rattle.lists.proofs.Finds.{some-first_where}
use Rattle.refusal.specs.declared.Refusal.TheVariants.{Crowded}
use Rattle.refusal.specs.Checked.{Checked, accepted, refused, verdict}
use Rattle.packing.specs.Rows.{rows_at, crowded, first_crowded}
use Rattle.packing.specs.Answers.{row_found}
use Rattle.packing.specs.declared.Record.{Record}
use Rattle.packing.proofs.RowsAt.{length-rows_at}
use Rattle.packing.proofs.Found.{row_found-at, row_found-nothing}
use Rattle.layers.specs.Layers.{Layer, sizes, all_rows, layers_at, first_of, first_crowded_of, refuse_row, check_packings}
use Rattle.layers.specs.declared.LayerHead.{LayerHead}
use Rattle.layers.specs.Answers.{no_head}
use Rattle.layers.specs.Asked.{Ascending, PackingsAsked}

-- where a layer has no such row, one found after it is counted on
refuse-later : (r start c : ℕ) (o : Option ℕ) → refuse_row Crowded r (start + c * r) o
    ≡ refuse_row Crowded r start (first_of none c o)
refuse-later r start c none = refl
refuse-later r start c (some i) =
    let e : start + c * r + i * r ≡ start + (c + i) * r = omega arith in
    ap (λ place. refused (Crowded place)) e

-- the layers from x on, whose first row starts at `start`
abbrev layers_from : (r layers : ℕ) (heads : List LayerHead) (s : List ℕ) (start x : ℕ) → List Layer
layers_from r layers heads s start x = layers_at r (drop x (take layers heads)) (drop start s)

-- the answer for all layers
abbrev answer_of : (r layers : ℕ) (heads : List LayerHead) (s : List ℕ) (at : ℕ) → Checked Unit
answer_of r layers heads s at = check_packings r at (layers_at r (take layers heads) (drop at s))

-- What each turn keeps: the first crowded row of the layers from x on is that of all layers.
pub record CrowdTurn (r layers : ℕ) (heads : List LayerHead) (s : List ℕ) (at start x : ℕ) : Type 0 where
  pub inside : x ≤ layers
  pub within : start + sizes (drop x (take layers heads)) * r ≤ length s
  pub small : sizes (drop x (take layers heads)) ≤ 4_096
  pub ordered : Ascending (all_rows (layers_from r layers heads s start x))
  pub same : refuse_row Crowded r start (first_crowded_of x (layers_from r layers heads s start x))
      ≡ answer_of r layers heads s at

pub crowd-holds : (r layers : ℕ) (heads : List LayerHead) (s : List ℕ) (at : ℕ)
    → PackingsAsked r layers heads s at → CrowdTurn r layers heads s at at 0
unfolding check_packings
crowd-holds r layers heads s at asked =
    record {
      inside = omega arith;
      within = asked.within;
      small = asked.rows-most;
      ordered = asked.ordered;
      same = refl;
    }

module _ (r layers : ℕ) (heads : List LayerHead) (s : List ℕ) (at start x : ℕ) (turn : CrowdTurn r layers heads s at start x) where
  pub crowd-done : layers ≤ x → Ok tt ≡ verdict (answer_of r layers heads s at)
  unfolding layers_at first_crowded_of
  crowd-done h =
      let none_left : drop x (take layers heads) ≡ [] = drop_of_length-le (take layers heads) {i = x} (omega (arith, length-take layers heads)) in
      let done : accepted tt ≡ answer_of r layers heads s at = rw none_left at turn.same in
      ap verdict done

  module _ (h : x < layers) (held : layers ≤ length heads) where
    head : LayerHead
    head = get_or heads x no_head

    here : drop x (take layers heads) ≡ get_or heads x no_head ∷ drop (suc x) (take layers heads)
    here = slice-cons x layers heads no_head h held

    -- the layer's rows, and those after them, are within the bytes
    pub crowd-fits : ((get_or heads x no_head).size ≤ 4_096) × (start + (get_or heads x no_head).size * r ≤ length s)
    unfolding total
    crowd-fits =
        let small = rw here at turn.small in
        let within = rw here at turn.within in
        (omega arith, omega arith)

    rows : List (List ℕ)
    rows = rows_at r head.size (drop start s)

    after : List Layer
    after = layers_from r layers heads s (start + head.size * r) (suc x)

    -- layer x, and the layers after it
    split : layers_from r layers heads s start x ≡ record { bound = head.bound; rows = rows } ∷ after
    unfolding head rows after layers_at
    split = rw (here, drop-drop ((get_or heads x no_head).size * r) start s)

    pub crowd-ordered : Ascending (rows_at r (get_or heads x no_head).size (drop start s))
    unfolding head rows after flatten
    crowd-ordered = all-append-left _ rows (all_rows after) (rw split at turn.ordered)

    whole : refuse_row Crowded r start (first_of (first_crowded x head.bound rows) head.size (first_crowded_of (suc x) after))
        ≡ answer_of r layers heads s at
    unfolding head rows after first_crowded_of
    whole = rw (split, length-rows_at r (get_or heads x no_head).size (drop start s)) at turn.same

    module _ (part : List ℕ) (is : part ≡ drop start s) (found : Given Record)
        (are : found
        ≡ row_found (first_crowded x (get_or heads x no_head).bound (rows_at r (get_or heads x no_head).size part))) where
      first : found ≡ row_found (first_crowded x head.bound rows)
      unfolding head rows
      first = rw is at are

      module _ {row : Record} (e : found ≡ Some row) where
        some_first : first_crowded x head.bound rows ≡ some row.0
        some_first = row_found-at (first_crowded x head.bound rows) (sym e ∙ first)

        -- the row's start is within the bytes
        pub crowd-place : row.0 * r ≤ (get_or heads x no_head).size * r
        unfolding head rows first_crowded
        crowd-place =
            let within = (some-first_where (crowded x head.bound rows) rows [] row.0 some_first).within in
            mul-le-mul_right r (le_of_lt (rw (length-rows_at r (get_or heads x no_head).size (drop start s)) at within))

        pub crowd-found : Err (Crowded (start + row.0 * r)) ≡ verdict (answer_of r layers heads s at)
        crowd-found = ap verdict (rw some_first at whole)

      pub crowd-again : found ≡ None → CrowdTurn r layers heads s at (start + (get_or heads x no_head).size * r) (x + 1)
      unfolding head rows after total flatten
      crowd-again e =
          let no-first : first_crowded x head.bound rows ≡ none =
          row_found-nothing (first_crowded x head.bound rows) (sym e ∙ first) in
          let small = rw here at turn.small in
          let within = rw here at turn.within in
          rw (add-one x)
          (record {
            inside = omega arith;
            within = omega arith;
            small = omega arith;
            ordered = all-append-right _ rows (all_rows after) (rw split at turn.ordered);
            same = refuse-later r start head.size (first_crowded_of (suc x) after) ∙ rw no-first at whole;
          })
