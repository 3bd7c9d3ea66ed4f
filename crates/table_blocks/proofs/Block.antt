-- What a block's line adds. Assumes nothing.
use Prim.Native.Nat.{ℕ, suc, ◌+◌, ◌-◌, ◌≤◌, ◌<◌}
use Rattle.std.specs.Prelude.{Result, Ok, Err}
use native.Mathlib.Omega.{arith}
use native.Mathlib.Numerals.{add-one}
use mathlib.Core.Path.{◌≡◌, refl, ◌∙◌, ap}
use mathlib.Core.Bool.{true, false}
use mathlib.Core.List.{List, ◌++◌}
use lib.ListN.{length, take, drop, get_or, set}
use lib.Seq.{length-take-le, take-suc-set, take-set-lt, take-append-add, get_or-take, get_or-set_same, take-append_seam}
use borrow.Author.Tests.{eq-eqb, ne_eqb, lt-ltb, le-ltb}
use Rattle.lists.specs.Lists.{All, over_start}
use Rattle.lists.proofs.Alls.{all-imp}
use Rattle.lists.proofs.Writing.{given_back, append-rest, take-drop-rest}
use Rattle.number.specs.Numbers.{largest_number}
use Rattle.packing.specs.Rows.{is_in_order}
use Rattle.table.specs.declared.Progress.{Progress}
use Rattle.table.specs.declared.Fault.{Fault}
use Rattle.table.specs.Told.{unreadable, outside, bad_block}
use Rattle.table.specs.Reading.{add_block}
use Rattle.table.specs.Progress.{Finds, Room, Grown, draft_of, found_in}
use Rattle.table_steps.proofs.Ordering.{order_below}
use Rattle.table_steps.proofs.Head.{found-length, head-length, room_after, all_set}

module _ (p : Progress) (found : ℕ) (numbers rows lines : List ℕ) (finds : Finds p found numbers) (room : Room numbers rows lines) (line : ℕ) where
  abbrev pub Gives : Result Progress Fault → (numbers' rows' lines' : List ℕ) → Type 0
  Gives = Grown (add_block line (found_in p found numbers) (draft_of p numbers rows lines))

  pub block-early : p.layers ≡ 0 → Gives (Err (unreadable line)) numbers rows lines
  unfolding add_block
  block-early h = rw (le-ltb 0 p.layers (omega arith)) refl

  module _ (layer : p.layers ≡ 0 → ⊥) where
    some-layer : 0 < p.layers
    some-layer = omega arith

    pub block-count : (found ≡ p.r → ⊥) → Gives (Err (unreadable line)) numbers rows lines
    unfolding add_block
    block-count h = rw (lt-ltb 0 p.layers some-layer, found-length p found numbers finds, ne_eqb found p.r h) refl

    module _ (whole : found ≡ p.r) where
      pub block-many : 4_096 ≤ p.blocks → Gives (Err (outside line)) numbers rows lines
      unfolding add_block
      block-many h =
          rw (lt-ltb 0 p.layers some-layer, found-length p found numbers finds, eq-eqb found p.r whole, le-ltb p.blocks 4_096 h) refl

      module _ (few : p.blocks < 4_096) where
        -- the part of the slice that the code looks at
        pub part : take (p.count + found - p.count) (drop p.count numbers) ≡ found_in p found numbers
        part = let e : p.count + found - p.count ≡ found = omega arith in rw e

        pub block-bad : is_in_order p.n (take (p.count + found - p.count) (drop p.count numbers)) ≡ false
            → Gives (Err (bad_block line)) numbers rows lines
        unfolding add_block
        block-bad h =
            rw (
              lt-ltb 0 p.layers some-layer,
              found-length p found numbers finds,
              eq-eqb found p.r whole,
              lt-ltb p.blocks 4_096 few,
              rw part at h,
            ) refl

        -- there is room for its nodes
        pub room-rows : p.place + found ≤ length rows
        room-rows = omega (arith, room.for-rows, finds.kept.place-most, finds.kept.r-most)

        pub room-lines : p.blocks < length lines
        room-lines = omega (arith, room.for-lines)

        -- the head's last number is the layer's m
        pub some_number : 0 < p.count
        some_number = omega (arith, finds.kept.begun (omega (arith, finds.kept.layers-most, some-layer)))

        module _ (order : is_in_order p.n (take (p.count + found - p.count) (drop p.count numbers)) ≡ true) where
          in_order : is_in_order p.n (found_in p found numbers) ≡ true
          in_order = rw part at order

          pub nodes-bytes : All (λ v. v < 256) (take (p.count + found - p.count) (drop p.count numbers))
          nodes-bytes =
              rw part (all-imp (λ v. v < p.n) (λ v. v < 256) (λ v b. omega (arith, finds.kept.n-most)) (found_in p found numbers)
              (order_below p.n (found_in p found numbers) in_order))

          abbrev m : ℕ
          m = get_or numbers (p.count - 1) 0

          m-most : m ≤ p.blocks
          m-most = rw (get_or-take p.count numbers (p.count - 1) 0 (omega (arith, some_number))) at (finds.kept.size-most some-layer)

          pub m-fits : m ≤ 4_096
          m-fits = omega (arith, m-most)

          -- the head's numbers after it
          numbers-after : take p.count (set numbers (p.count - 1) (m + 1)) ≡ set (take p.count numbers) (p.count - 1) (suc m)
          numbers-after = rw (add-one m) (take-set-lt p.count numbers (p.count - 1) (suc m) (omega (arith, some_number)))

          pub block-taken : {rows' : List ℕ} → rows' ≡ take p.place rows ++ over_start (take (p.count + found - p.count) (drop p.count numbers)) (drop p.place rows)
              → Gives (Ok (record { n = p.n; r = p.r; count = p.count; layers = p.layers; blocks = p.blocks + 1; place = p.place + found }))
              (set numbers (p.count - 1) (m + 1)) rows' (set lines p.blocks line)
          unfolding add_block
          block-taken {rows'} is =
              let k = finds.kept in
              let len = found-length p found numbers finds in
              let head = head-length p found numbers finds in
              let front : length (take p.place rows) ≡ p.place = length-take-le p.place rows (omega (arith, room-rows)) in
              let bytes : take (p.place + found) rows' ≡ take p.place rows ++ found_in p found numbers =
              rows-after rows' is front len in
              let under : get_or (take p.count numbers) (p.count - 1) 0 ≡ m = get_or-take p.count numbers (p.count - 1) 0 (omega (arith, some_number)) in
              let last : get_or (take p.count (set numbers (p.count - 1) (m + 1))) (p.count - 1) 0 ≡ m + 1 =
              get_or-take p.count (set numbers (p.count - 1) (m + 1)) (p.count - 1) 0 (omega (arith, some_number))
              ∙ get_or-set_same numbers (p.count - 1) (m + 1) 0 (omega (arith, some_number, room_after p found numbers finds)) in
              rw (lt-ltb 0 p.layers some-layer, len, eq-eqb found p.r whole, lt-ltb p.blocks 4_096 few, in_order, head, under) (
                rw (bytes, numbers-after, add-one p.blocks, take-suc-set lines p.blocks line room-lines) refl,
                record {
                  n-most = k.n-most;
                  r-most = k.r-most;
                  layers-most = k.layers-most;
                  blocks-most = omega arith;
                  place-most = omega (arith, k.place-most, k.r-most);
                  fresh = k.fresh;
                  begun = k.begun;
                  count_most = k.count_most;
                  numbers-most = rw numbers-after (all_set (λ v. v ≤ largest_number) (take p.count numbers) (p.count - 1) (suc m) k.numbers-most (omega (arith, m-fits)));
                  size-most = λ e. rw last (omega (arith, m-most));
                },
              )
            where
              rows-after : (rows' : List ℕ) → rows' ≡ take p.place rows ++ over_start (take (p.count + found - p.count) (drop p.count numbers)) (drop p.place rows)
                  → length (take p.place rows) ≡ p.place → length (found_in p found numbers) ≡ found
                  → take (p.place + found) rows' ≡ take p.place rows ++ found_in p found numbers
              rows-after rows' is front len =
                  let both : p.place + found ≡ length (take p.place rows) + length (found_in p found numbers) = rw (front, len) refl in
                  let all = take p.place rows ++ over_start (found_in p found numbers) (drop p.place rows) in
                  let seam = take-append_seam (found_in p found numbers) (drop (length (found_in p found numbers)) (drop p.place rows)) in
                  rw (is, part) (ap (λ n. take n all) both
                  ∙ take-append-add (take p.place rows) (over_start (found_in p found numbers) (drop p.place rows)) (length (found_in p found numbers))
                  ∙ ap (λ l. take p.place rows ++ l) seam)

          -- the same, where its nodes were written into the part of the slice after the blocks before it
          pub block-stored : {last : List ℕ}
              → last ≡ over_start (take (p.count + found - p.count) (drop p.count numbers)) (take (length rows - p.place) (drop p.place rows))
              → Gives (Ok (record { n = p.n; r = p.r; count = p.count; layers = p.layers; blocks = p.blocks + 1; place = p.place + found }))
              (set numbers (p.count - 1) (m + 1)) (given_back rows p.place last) (set lines p.blocks line)
          block-stored {last} is =
              block-taken (append-rest rows last p.place
              ∙ ap (λ l. take p.place rows ++ l) (is ∙ ap (over_start (take (p.count + found - p.count) (drop p.count numbers))) (take-drop-rest rows p.place)))
