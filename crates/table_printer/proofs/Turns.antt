-- The turns of the loop that puts layers. Assumes nothing.
use Prim.Native.Nat.{ℕ, ◌+◌, ◌*◌, ◌-◌, ◌≤◌, ◌<◌}
use native.Mathlib.Omega.{arith}
use native.Mathlib.Numerals.{add-one}
use mathlib.Core.Path.{◌≡◌, refl}
use mathlib.Core.List.{List, [], ◌∷◌, ◌++◌, map, flatten, append_assoc}
use lib.ListN.{length, take, drop, get_or, length-drop, length-append}
use lib.Seq.{drop-drop, drop-cons, get_or-take, length-take-le, drop-length}
use Rattle.lists.specs.Lists.{total}
use Rattle.lists.proofs.Writing.{take-drop-rest}
use Rattle.layers.specs.declared.LayerHead.{LayerHead}
use Rattle.layers.specs.Layers.{layers_at, sizes}
use Rattle.layers.specs.Answers.{no_head}
use Rattle.report_lines.specs.Put.{Put}
use Rattle.table.specs.declared.Word.TheVariants.{Mu}
use Rattle.table.specs.Printing.{text_line, layer_text}
use Rattle.line_printer.proofs.Stored.{Stored, stored-none, stored_next, stored-all}
use Rattle.line_printer.proofs.Turns.{row_lines}

-- the text of the layers with these heads that s begins with
abbrev pub layers_text : (r : ℕ) → List LayerHead → List ℕ → List ℕ
layers_text r heads s = flatten (map layer_text (layers_at r heads s))

-- Before each layer: those from x on, whose blocks begin at byte `from`, are left.
pub record LayersTurn (heads : List LayerHead) (rows : List ℕ) (r : ℕ) (before : List ℕ) (at : ℕ) (after : List ℕ) (place from x : ℕ) : Type 0 where
  pub within : x ≤ r
  pub inside : from + sizes (drop x heads) * r ≤ length rows
  pub stored : Stored (layers_text r heads rows) before at (layers_text r (drop x heads) (drop from rows)) after place

-- the first r heads
pub taken : (heads : List LayerHead) (r : ℕ) → length heads ≡ 5 → r ≤ 5 → length (take (r - 0) heads) ≡ r
taken heads r five most = let h : r - 0 ≤ length heads = omega arith in omega (arith, length-take-le (r - 0) heads h)

module _ (heads : List LayerHead) (rows : List ℕ) (r : ℕ) (before : List ℕ) (at : ℕ) (heads-length : length heads ≡ r) where
  pub layers-none : sizes heads * r ≤ length rows → LayersTurn heads rows r before at before at 0 0
  layers-none h = record { within = omega arith; inside = omega arith; stored = stored-none (layers_text r heads rows) before at }

  module _ {after : List ℕ} {place from x : ℕ} (turn : LayersTurn heads rows r before at after place from x) where
    pub layers-all : r ≤ x → Put (layers_text r heads rows) before at place after
    unfolding layers_at flatten
    layers-all h =
        let e : x ≡ length heads = omega (arith, turn.within) in
        let none : drop x heads ≡ [] = rw e (drop-length heads) in
        stored-all (rw none at turn.stored)

    module _ (more : x < r) where
      abbrev head : LayerHead
      head = get_or heads x no_head

      heads-next : drop x heads ≡ head ∷ drop (x + 1) heads
      heads-next = rw (add-one x) (drop-cons heads x no_head (omega arith))

      left-size : sizes (drop x heads) ≡ head.size + sizes (drop (x + 1) heads)
      unfolding total
      left-size = rw heads-next refl

      -- the layer's blocks are there
      pub layer-inside : from + head.size * r ≤ length rows
      layer-inside = let i = rw left-size at turn.inside in omega (arith, i)

      pub layer-from : from ≤ length rows
      layer-from = omega (arith, turn.inside)

      pub layer-blocks : head.size * r ≤ length (take (length rows - from) (drop from rows))
      layer-blocks = rw (take-drop-rest rows from, length-drop from rows) (omega (arith, layer-inside))

      left-text : layers_text r (drop x heads) (drop from rows)
          ≡ text_line Mu (head.bound ∷ []) ++ (row_lines r head.size (drop from rows) ++ layers_text r (drop (x + 1) heads) (drop (head.size * r) (drop from rows)))
      unfolding layers_at flatten
      left-text =
          rw heads-next
          (append_assoc (text_line Mu (head.bound ∷ [])) (row_lines r head.size (drop from rows))
          (layers_text r (drop (x + 1) heads) (drop (head.size * r) (drop from rows))))

      stored-left : Stored (layers_text r heads rows) before at
          (text_line Mu (head.bound ∷ []) ++ (row_lines r head.size (drop from rows) ++ layers_text r (drop (x + 1) heads) (drop (head.size * r) (drop from rows)))) after place
      stored-left = rw left-text at turn.stored

      module _ (room : at + length (layers_text r heads rows) + 128 ≤ length before) where
        pub mu-room : place + 128 ≤ length after
        mu-room = omega (arith, turn.stored.ends, turn.stored.same_length)

        module _ {next : ℕ} {middle : List ℕ} (put : Put (text_line Mu (head.bound ∷ [])) after place next middle) where
          stored-mu : Stored (layers_text r heads rows) before at
              (row_lines r head.size (drop from rows) ++ layers_text r (drop (x + 1) heads) (drop (head.size * r) (drop from rows))) middle next
          stored-mu = stored_next stored-left put

          pub blocks-room : next + length (row_lines r head.size (take (length rows - from) (drop from rows))) + 128 ≤ length middle
          blocks-room =
              let e = stored-mu.ends in
              rw (take-drop-rest rows from)
              (omega (
                arith,
                e,
                stored-mu.same_length,
                length-append (row_lines r head.size (drop from rows)) (layers_text r (drop (x + 1) heads) (drop (head.size * r) (drop from rows))),
              ))

          pub layers-next : {last : ℕ} {after' : List ℕ} → Put (row_lines r head.size (take (length rows - from) (drop from rows))) middle next last after'
              → LayersTurn heads rows r before at after' last (from + head.size * r) (x + 1)
          layers-next {last} {after'} blocks =
              let p : Put (row_lines r head.size (drop from rows)) middle next last after' = rw (take-drop-rest rows from) at blocks in
              record {
                within = omega arith;
                inside = let i = rw left-size at turn.inside in omega (arith, i);
                stored = rw (← drop-drop (head.size * r) from rows) (stored_next stored-mu p);
              }
