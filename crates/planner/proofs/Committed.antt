-- The split with given counts and the least copies: its placement is good, and its bytes are what is written. Assumes
-- nothing.
use Prim.Native.Nat.{ℕ, zero, suc, ◌+◌, ◌*◌, ◌-◌, ◌≤◌, ◌<◌}
use Rattle.std.specs.Prelude.{Ok}
use native.Mathlib.Omega.{arith}
use native.Mathlib.Nat.{le_refl, le_trans, mul-le-mul_right}
use mathlib.Core.Path.{◌≡◌, refl, sym, ◌∙◌, ap, subst}
use mathlib.Core.List.{List, ◌++◌, map-map, flatten}
use lib.ListN.{length, get_or, take, drop, length-append, length-drop}
use lib.Seq.{get_or-take}
use Rattle.lists.specs.Lists.{All, up_to, over_start}
use Rattle.lists.proofs.Alls.{all_map}
use Rattle.lists.proofs.UpTo.{all-up_to, map-up_to-congr, get_d-map-up_to}
use Rattle.lists.proofs.Writing.{given_back, take-drop-rest, write-part}
use Rattle.refusal.specs.Checked.{accepted}
use Rattle.number.specs.Numbers.{forms_of, largest_number}
use Rattle.number.proofs.Forms.{forms-most}
use Rattle.packing.specs.Rows.{repeated}
use Rattle.layers.specs.Layers.{Layer, blocks_at, all_rows, heads_of, sizes, list_numbers}
use Rattle.layers.specs.Answers.{no_head, five_heads}
use Rattle.layers.specs.declared.Base.{Base}
use Rattle.layers.specs.declared.LayerHead.{LayerHead}
use Rattle.layers.proofs.Arrays.{take-five, sizes-take-le}
use Rattle.layers.proofs.Listing.{dark-count}
use Rattle.pack.specs.Pack.{Pack}
use Rattle.placement.specs.Figure.{figure_of}
use Rattle.placement.specs.declared.Rule.TheVariants.{NestedFloors}
use Rattle.placement.specs.Placement.{Placement, GoodPlacement, placement_numbers, placement_bytes}
use Rattle.placement.specs.declared.Order.{Order}
use Rattle.placement.proofs.Written.{written-file, written-length}
use Rattle.split.specs.Splits.{Share, layer_at, share_head, split_heads, counts_split}
use Rattle.split.proofs.Bounds.{copies_for-mul-bound-le}
use Rattle.split.proofs.Heads.{length-split_heads, split-count-le}
use Rattle.planner.specs.Planning.{placed, split_placement, output_needed, output_after}
use Rattle.planner.specs.Answers.{plan_answer}
use Rattle.planner.specs.Writing.{held_layers, held_pack, counts_placement, written_numbers, rows_below, Writable, SharesFit, RowsFit}
use Rattle.planner.proofs.Layering.{layer_at-held, length-rows_below}
use Rattle.planner.proofs.Placed.{heads-placed, placed-good}

-- a layer that holds records has blocks
held-some : (c d m : ℕ) → c ≤ d * m → 0 < c → 0 < m
held-some c d zero h some = omega arith
held-some c d (suc m) h some = omega arith

module _ {base : Base} {layers : List LayerHead} {blocks : List ℕ} {order : Order} {counts : List ℕ}
    (w : Writable base layers blocks order counts) where
  -- the split, by the code's numbers and by the pack's
  abbrev split : ℕ → Share
  split = counts_split layers counts

  abbrev pack : Pack
  pack = held_pack base layers blocks

  abbrev pack_split : ℕ → Share
  pack_split = counts_split (heads_of pack.layers) counts

  -- what is written
  abbrev placement : Placement
  placement = counts_placement pack order counts

  agree : (x : ℕ) → x < order.s → layer_at (heads_of pack.layers) x ≡ layer_at layers x
  agree x h = layer_at-held base.r layers blocks x (omega (arith, w.within.s-most))

  heads-agree : split_heads (heads_of pack.layers) order.s pack_split ≡ split_heads layers order.s split
  heads-agree = map-up_to-congr _ _ order.s (λ x h. rw (agree x h))

  s-le-five : order.s ≤ 5
  s-le-five = omega (arith, w.within.s-most, w.held.good.limits.base.r-most)

  count_most : (x : ℕ) → x < order.s → get_or counts x 0 ≤ 4_096
  count_most x h =
      omega (arith, split-count-le layers order.s order.b split w.is-split x h, w.within.b-most)

  lambda-most : (x : ℕ) → x < order.s → (split x).copies * (layer_at layers x).bound ≤ 16_777_216
  lambda-most x h =
      copies_for-mul-bound-le (get_or counts x 0) (layer_at layers x).size (layer_at layers x).bound (count_most x h)
      (w.held.most x).0

  -- what the two numbers of each layer ask
  pub shares-fit : SharesFit layers order.s counts
  shares-fit = record { s-most = s-le-five; most = w.held.most; count_most = count_most }

  -- the placement of any split with the least copies is good
  pub committed-good : GoodPlacement placement
  committed-good =
      placed-good pack order.s order.k order.b pack_split w.held.good w.within
      (record { held = λ x h. rw (agree x h) (w.is-split.held x h); sum = ap sizes heads-agree ∙ w.is-split.sum })
      (λ x h. rw (agree x h) (lambda-most x h))

-- the two numbers of each layer, as the code has them
module _ {base : Base} {layers : List LayerHead} {blocks : List ℕ} {order : Order} {counts : List ℕ} {heads : List LayerHead}
    (w : Writable base layers blocks order counts)
    (are : heads ≡ five_heads (split_heads layers order.s (counts_split layers counts))) where
  heads-taken : take order.s heads ≡ split_heads layers order.s (split w)
  heads-taken =
      rw are (take-five no_head (split_heads layers order.s (split w)) order.s (length-split_heads layers order.s (split w)) (s-le-five w))

  -- what the figure asks
  pub figure-limits : ((order.s ≤ 5) × (order.s ≤ order.k) × (order.k ≤ 255) × (sizes (take order.s heads) ≤ order.b))
      × All (λ head. head.bound ≤ 16_777_216) (take order.s heads)
  figure-limits =
      rw heads-taken (
        (
          s-le-five w,
          w.within.k-least,
          omega (arith, w.within.k-most, w.held.good.limits.base.n-most),
          omega (arith, w.is-split.sum),
        ),
        all_map _ (λ x. share_head (layer_at layers x) (split w x)) (up_to order.s) (all-up_to _ order.s (lambda-most w)),
      )

-- The placement's two numbers of each layer and its figure, as the code has them, and room for the placement in the output.
pub record HeadMade (base : Base) (layers : List LayerHead) (blocks : List ℕ) (order : Order) (counts : List ℕ)
    (heads : List LayerHead) (figure : ℕ) (out₀ : List ℕ) : Type 0 where
  pub writable : Writable base layers blocks order counts
  pub room : output_needed order.b base.r ≤ length out₀
  pub heads-are : heads ≡ five_heads (split_heads layers order.s (counts_split layers counts))
  pub figure-is : figure ≡ figure_of NestedFloors order.s order.k order.b (take order.s heads)

module _ {base : Base} {layers : List LayerHead} {blocks : List ℕ} {order : Order} {counts : List ℕ} {heads : List LayerHead} {figure : ℕ}
    {out₀ : List ℕ} (made : HeadMade base layers blocks order counts heads figure out₀) where
  abbrev w : Writable base layers blocks order counts
  w = made.writable

  -- the head's numbers, and the rows
  abbrev numbers : List ℕ
  numbers = written_numbers base order figure (take order.s heads)

  abbrev rows : List ℕ
  rows = rows_below (held_layers base.r layers blocks) heads order.s

  taken : take order.s heads ≡ split_heads layers order.s (split w)
  taken = heads-taken w made.heads-are

  made-figure : (placement w).figure ≡ figure
  unfolding split_placement
  made-figure =
      ap (figure_of NestedFloors order.s order.k order.b) (heads-agree w ∙ sym taken) ∙ sym made.figure-is

  numbers-are : placement_numbers (placement w) ≡ numbers
  unfolding split_placement list_numbers
  numbers-are =
      rw (← made-figure, heads-placed (pack w) order.s order.k order.b (pack_split w), heads-agree w, taken, w.held.counted)

  -- layer x's count
  size-at : (x : ℕ) → x < order.s → (layer_at heads x).size ≡ get_or counts x 0
  size-at x h =
      ap (λ (head : LayerHead). head.size)
      (sym (get_or-take order.s heads x no_head h)
      ∙ ap (λ (l : List LayerHead). layer_at l x) taken
      ∙ get_d-map-up_to (λ y. share_head (layer_at layers y) (split w y)) order.s x no_head h)

  sum_is : sizes (take order.s heads) ≡ order.b
  sum_is = ap sizes taken ∙ w.is-split.sum

  -- what writing the rows asks of an output
  fit-in : (out : List ℕ) → order.b * base.r ≤ length out → RowsFit base.r order.s layers heads blocks out
  fit-in out fits =
      record {
        s-most = s-le-five w;
        s-below = w.within.s-most;
        rows_fit = rw sum_is fits;
        blocks-fit =
            le_trans (mul-le-mul_right base.r (sizes-take-le layers order.s base.r w.within.s-most)) w.held.whole;
        some-blocks = λ x h some.
            held-some (get_or counts x 0) (split w x).copies (layer_at layers x).size (w.is-split.held x h) (rw (size-at x h) at some);
      }

  rows-length : length rows ≡ order.b * base.r
  rows-length =
      length-rows_below (fit-in out₀ (omega (arith, made.room))) order.s (le_refl _) ∙ ap (λ (c : ℕ). c * base.r) sum_is

  rows_are : flatten (all_rows (placement w).layers) ≡ rows
  unfolding split_placement
  rows_are =
      let at : ℕ → Layer = λ x. placed (blocks_at (pack w).layers x) (pack_split w x) in
      ap (λ (l : List (List (List ℕ))). flatten (flatten l))
      (map-map (λ (layer : Layer). layer.rows) at (up_to order.s)
      ∙ map-up_to-congr _ _ order.s (λ x h. ap (repeated (blocks_at (pack w).layers x).rows) (sym (size-at x h))))

  bytes-are : placement_bytes (placement w) ≡ forms_of numbers ++ rows
  unfolding placement_bytes
  bytes-are = λ i. forms_of (numbers-are i) ++ rows_are i

  bytes-length : length (placement_bytes (placement w)) ≡ length (forms_of numbers) + order.b * base.r
  bytes-length = ap length bytes-are ∙ length-append (forms_of numbers) rows ∙ rw rows-length

  -- the head and the rows fit
  bytes_fit : length (forms_of numbers) + order.b * base.r ≤ length out₀
  unfolding split_placement
  bytes_fit = omega (arith, bytes-length, written-length (placement w) (committed-good w), made.room)

  -- what writing the head asks
  pub head-limits : (base.dark.count ≤ 255) × ((order.s ≤ 5) × (All (λ v. v ≤ largest_number) numbers × (length (forms_of numbers) ≤ length out₀)))
  unfolding split_placement
  head-limits =
      let file = written-file (placement w) (committed-good w) refl in
      let most = forms-most (placement_numbers (placement w)) file.0 file.2 in
      let limits = w.held.good.limits in (
        omega (arith, w.held.counted, dark-count base.n (pack w).dark limits.dark-order, limits.base.n-most),
        (s-le-five w, (subst (λ (l : List ℕ). All (λ v. v ≤ largest_number) l) numbers-are most, omega (arith, bytes_fit))),
      )

-- The head is written to the start of the output, and ends at `at`.
pub record HeadWritten (base : Base) (layers : List LayerHead) (blocks : List ℕ) (order : Order) (counts : List ℕ)
    (heads : List LayerHead) (figure : ℕ) (out₀ out : List ℕ) (at : ℕ) : Type 0 where
  pub head-made : HeadMade base layers blocks order counts heads figure out₀
  pub head_bytes : (at ≡ length (forms_of (written_numbers base order figure (take order.s heads))))
      × (out ≡ over_start (forms_of (written_numbers base order figure (take order.s heads))) out₀)

module _ {base : Base} {layers : List LayerHead} {blocks : List ℕ} {order : Order} {counts : List ℕ} {heads : List LayerHead} {figure : ℕ}
    {out₀ out : List ℕ} {at : ℕ} (h : HeadWritten base layers blocks order counts heads figure out₀ out at) where
  abbrev made : HeadMade base layers blocks order counts heads figure out₀
  made = h.head-made

  abbrev head : List ℕ
  head = forms_of (numbers made)

  out-length : length out ≡ length out₀
  out-length = ap length h.head_bytes.1 ∙ simp (length-append, length-drop) (omega (arith, bytes_fit made))

  pub rows_fit : at + order.b * base.r ≤ length out
  rows_fit = omega (arith, bytes_fit made, out-length, h.head_bytes.0)

  pub rows-limits : RowsFit base.r order.s layers heads blocks (take (length out - at) (drop at out))
  rows-limits = fit-in made _ (rw (take-drop-rest out at, length-drop at out) (omega (arith, rows_fit)))

  -- and the rows after it
  module _ (last : List ℕ) (e : last ≡ over_start (rows made) (take (length out - at) (drop at out))) where
    long : at + order.b * base.r ≡ length (placement_bytes (placement (w made)))
    long = omega (arith, h.head_bytes.0, bytes-length made)

    pub answer-is : Ok (record { length = at + order.b * base.r; figure = figure }) ≡ (plan_answer (accepted (placement (w made)))).answer
    answer-is = λ i. Ok (record { length = long i; figure = sym (made-figure made) i })

    pub output-is : given_back out at last ≡ output_after (accepted (placement (w made))) out₀
    output-is =
        let ended : length head ≡ at = sym h.head_bytes.0 in
        let is : out ≡ head ++ drop at out₀ = rw (← ended) h.head_bytes.1 in
        let end : at + length (rows made) ≡ length (placement_bytes (placement (w made))) = ap (λ (n : ℕ). at + n) (rows-length made) ∙ long in
        write-part head (rows made) out₀ out last at ended is e
        ∙ (λ i. sym (bytes-are made) i ++ drop (end i) out₀)
