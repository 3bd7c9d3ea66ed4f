-- The joined pack written: its head's numbers, its length and its bytes, from what the code goes by. Assumes nothing.
use Prim.Native.Nat.{ℕ, ◌+◌, ◌*◌, ◌-◌, ◌≤◌, ◌<◌}
use Rattle.std.specs.Prelude.{Result, Ok, Err}
use native.Mathlib.Omega.{arith}
use native.Mathlib.Nat.{zero-add, mul-le-mul}
use mathlib.Core.Path.{◌≡◌, refl, sym, ◌∙◌, ap, subst}
use mathlib.Core.Bool.{Bool, true, false, ◌&&◌}
use mathlib.Core.Logic.{◌⊎◌, inl, inr}
use mathlib.Core.List.{List, [], ◌∷◌, ◌++◌, map, map-map, flatten, append-nil}
use lib.ListN.{length, get_or, take, drop, length-append, length-drop, length-map}
use lib.Seq.{take_at}
use lib.Dec.{T, leb}
use borrow.Author.Tests.{le-leb, lt-leb, eq-eqb}
use Rattle.lists.specs.Lists.{All, every, largest, total, over_start, up_to}
use Rattle.lists.proofs.Arith.{le-or-lt}
use Rattle.lists.proofs.Alls.{all_map, all_of_map, all-imp, all-flatten, length-flatten}
use Rattle.lists.proofs.UpTo.{length-map-up_to, get_d-map-up_to, all-up_to}
use Rattle.lists.proofs.Writing.{given_back}
use Rattle.refusal.specs.declared.Refusal.TheVariants.{Unjoinable, ShortOutput}
use Rattle.refusal.specs.declared.Refusal.{Refusal}
use Rattle.number.specs.Numbers.{largest_number, forms_of}
use Rattle.packing.specs.Rows.{is_in_order}
use Rattle.layers.specs.Layers.{head_of, heads_of, all_rows, sizes, list_numbers}
use Rattle.layers.specs.Answers.{no_head, five_heads, dark_list}
use Rattle.layers.specs.declared.Dark.{Dark}
use Rattle.layers.specs.declared.LayerHead.{LayerHead}
use Rattle.layers.proofs.Arrays.{get_d-five, take-five}
use Rattle.layers.proofs.Each.{layer-rows}
use Rattle.layers.proofs.Layouts.{layers_at-lengths}
use Rattle.layers.proofs.Lengths.{length-all_rows}
use Rattle.layers.proofs.Listing.{dark-count, dark-below}
use Rattle.pack.specs.Pack.{Pack, pack_numbers, bytes_of_pack}
use Rattle.pack.proofs.Written.{AtMost, numbers-most, pack-head-length}
use Rattle.join.specs.Join.{joint_mu, joint_layer, chunks_at, joint_dark, joined_pack, joinable, write_joined, join_packs}
use Rattle.join.specs.Answers.{JoinDone}
use Rattle.join.specs.Estate.{piece_pack, estate_packs, heads_at, capped_heads, joint_heads, layers_below, ListFits, three_lists, ListsFit, ListJoined, joined_numbers, PieceFits, EstateFits, JointFits, LayersFit, put_at}
use Rattle.join.specs.declared.Piece.{Piece}
use Rattle.join.specs.declared.Estate.{Estate}
use Rattle.join.specs.declared.JointHeads.{JointHeads}
use Rattle.join.proofs.Good.{all-le-largest}
use Rattle.join.proofs.Listed.{joint-ordered}
use Rattle.join.proofs.Bytes.{put-put, put_back}
use Rattle.join.proofs.Exact.{exact_heads, capped-exact, exact-capped, joined-heads, joined_bytes, joint-lengths}

-- the rows of a pack's layers have r nodes each
piece-lengths : (r : ℕ) (piece : Piece) (bytes : List ℕ) → PieceFits r piece bytes
    → All (λ row. length row ≡ r) (all_rows (piece_pack r piece bytes).layers)
piece-lengths r piece bytes fits =
    layers_at-lengths r (take r piece.layers) (drop piece.place bytes)
    (rw (length-drop piece.place bytes) (omega (arith, fits.whole)))

-- no node before
map-zero : (l : List ℕ) → map (λ v. 0 + v) l ≡ l
map-zero [] = refl
map-zero (v ∷ l) = λ i. zero-add v i ∷ map-zero l i

module _ (e : Estate) (f s t : List ℕ) where
  abbrev packs : List Pack
  packs = estate_packs e f s t

  abbrev whole : Pack
  whole = joined_pack packs

  abbrev capped : List LayerHead
  capped = capped_heads e.r e.a.layers e.b.layers e.c.layers

  abbrev exact : List LayerHead
  exact = exact_heads e.r e.a.layers e.b.layers e.c.layers

  pub nodes-are : whole.n ≡ e.a.nodes + e.b.nodes + e.c.nodes
  unfolding joined_pack total
  nodes-are = omega arith

  r-is : whole.r ≡ e.r
  unfolding joined_pack
  r-is = refl

  -- the joined list
  abbrev lists : List ℕ
  lists = three_lists e.a.dark e.b.dark e.c.dark e.a.nodes (e.a.nodes + e.b.nodes)

  list-is : whole.dark ≡ lists
  unfolding joined_pack joint_dark
  list-is =
      rw (
        map-zero (dark_list e.a.dark),
        zero-add e.a.nodes,
        append-nil (map (λ v. e.a.nodes + e.b.nodes + v) (dark_list e.c.dark)),
      )

  list-ordered : EstateFits e f s t → T (is_in_order whole.n whole.dark)
  unfolding joined_pack
  list-ordered fits =
      joint-ordered packs (fits.fits-a.list.ordered, (fits.fits-b.list.ordered, (fits.fits-c.list.ordered, tt)))

  layer-each : length whole.layers ≡ e.r
  unfolding joined_pack
  layer-each = length-map-up_to _ e.r

  bounds-are : map (λ layer. layer.bound) whole.layers ≡ map (λ head. head.bound) exact
  bounds-are = sym (map-map (λ (head : LayerHead). head.bound) head_of whole.layers) ∙ ap (map (λ head. head.bound)) (joined-heads e f s t)

  joined-lengths : EstateFits e f s t → All (λ row. length row ≡ e.r) (all_rows whole.layers)
  unfolding joined_pack
  joined-lengths fits =
      all-flatten (λ row. length row ≡ e.r) (map (λ layer. layer.rows) (map (λ x. joint_layer (chunks_at x packs)) (up_to e.r)))
      (rw (map-map (λ layer. layer.rows) (λ x. joint_layer (chunks_at x packs)) (up_to e.r))
      (all_map _ (λ x. (joint_layer (chunks_at x packs)).rows) (up_to e.r) (all-up_to _ e.r (λ x lt.
      joint-lengths _ e.r 0 (chunks_at x packs) (
        layer-rows (λ row. length row ≡ e.r) (piece_pack e.r e.a f).layers x (piece-lengths e.r e.a f fits.fits-a),
        (
          layer-rows (λ row. length row ≡ e.r) (piece_pack e.r e.b s).layers x (piece-lengths e.r e.b s fits.fits-b),
          (layer-rows (λ row. length row ≡ e.r) (piece_pack e.r e.c t).layers x (piece-lengths e.r e.c t fits.fits-c), tt),
        ),
      )))))

  module _ {joint : JointHeads} (fit : JointFits e joint f s t) where
    heads-exact : capped ≡ exact
    heads-exact = capped-exact e.r e.a.layers e.b.layers e.c.layers (rw fit.joint-is at fit.mu-most)

    heads-are : joint.heads ≡ five_heads exact
    heads-are = ap (λ (j : JointHeads). j.heads) fit.joint-is ∙ ap five_heads heads-exact

    pub rows_are : joint.rows ≡ sizes (heads_of whole.layers)
    rows_are = ap (λ (j : JointHeads). j.rows) fit.joint-is ∙ ap sizes (heads-exact ∙ sym (joined-heads e f s t))

    mu-most : All (λ layer. layer.bound ≤ 4_096) whole.layers
    mu-most =
        all_of_map _ _ whole.layers (all-le-largest (map (λ layer. layer.bound) whole.layers) 4_096
        (rw bounds-are (rw (fit.joint-is, heads-exact) at fit.mu-most)))

    at_most : AtMost whole
    at_most =
        record {
          n-most = omega (arith, nodes-are, fit.all-nodes);
          dark-order = list-ordered fit.estate;
          r-most = rw r-is fit.estate.r-most;
          layer-each = layer-each ∙ sym r-is;
          mu-most = mu-most;
          blocks-most = omega (arith, rows_are, fit.rows-most);
        }

    taken-heads : take e.r joint.heads ≡ heads_of whole.layers
    taken-heads =
        ap (take e.r) heads-are
        ∙ take-five no_head exact e.r (length-map-up_to _ e.r) fit.estate.r-most
        ∙ sym (joined-heads e f s t)

    -- what joining the lists asks
    count_most : (nodes : ℕ) (dark : Dark) → ListFits nodes dark → dark.count ≤ nodes
    count_most nodes dark l = omega (arith, l.counted, dark-count nodes (dark_list dark) l.ordered)

    list-bytes : (nodes : ℕ) (dark : Dark) → ListFits nodes dark → nodes ≤ 255 → All (λ v. v < 256) (dark_list dark)
    list-bytes nodes dark l few = all-imp _ _ (λ v lt. omega arith) (dark_list dark) (dark-below nodes (dark_list dark) l.ordered)

    pub lists-asked : ListsFit e.a.dark e.b.dark e.c.dark e.a.nodes (e.a.nodes + e.b.nodes)
    lists-asked =
        let a = fit.estate.fits-a.list in
        let b = fit.estate.fits-b.list in
        let c = fit.estate.fits-c.list in
        record {
          counted-a = a.counted;
          counted-b = b.counted;
          counted-c = c.counted;
          few =
              omega (
                arith,
                count_most e.a.nodes e.a.dark a,
                count_most e.b.nodes e.b.dark b,
                count_most e.c.nodes e.c.dark c,
                fit.all-nodes,
              );
          bytes-b = list-bytes e.b.nodes e.b.dark b fit.estate.nodes-most.1;
          bytes-c = list-bytes e.c.nodes e.c.dark c fit.estate.nodes-most.2;
          before-most = (omega (arith, fit.all-nodes), omega (arith, fit.all-nodes));
        }

    -- the blocks
    abbrev blocks : List ℕ
    blocks = layers_below e joint.heads f s t e.r

    blocks-are : flatten (all_rows whole.layers) ≡ blocks
    blocks-are = joined_bytes e f s t joint.heads mus
      where
        mus : (x : ℕ) → x < e.r → (get_or joint.heads x no_head).bound ≡ joint_mu (heads_at x e.a.layers e.b.layers e.c.layers)
        mus x lt =
            let few = fit.estate.r-most in
            ap (λ (l : List LayerHead). (get_or l x no_head).bound) heads-are
            ∙ ap (λ (h : LayerHead). h.bound) (get_d-five no_head exact x (omega arith) ∙ get_d-map-up_to _ e.r x no_head lt)

    pub blocks-length : length blocks ≡ joint.rows * e.r
    blocks-length =
        ap length (sym blocks-are)
        ∙ length-flatten e.r (all_rows whole.layers) (joined-lengths fit.estate)
        ∙ ap (λ n. n * e.r) (length-all_rows whole.layers ∙ sym rows_are)

    pub rows-length : joint.rows * e.r ≤ 20_480
    rows-length = omega (arith, mul-le-mul fit.rows-most fit.estate.r-most)

    -- with the list that the code has made
    module _ {dark : Dark} (made : ListJoined e.a.dark e.b.dark e.c.dark e.a.nodes (e.a.nodes + e.b.nodes) dark) where
      -- the head's numbers
      abbrev numbers : List ℕ
      numbers = joined_numbers (record { n = e.a.nodes + e.b.nodes + e.c.nodes; r = e.r; dark = dark }) joint.heads

      lists_length : length lists ≡ dark.count
      lists_length =
          let a = lists-asked.counted-a in
          let b = lists-asked.counted-b in
          let c = lists-asked.counted-c in
          simp (length-append, length-map) (omega (arith, made.counted))

      numbers-are : numbers ≡ pack_numbers 4 whole
      unfolding list_numbers
      numbers-are =
          rw (made.joined, taken-heads, nodes-are, list-is, lists_length, r-is)

      pub count-few : dark.count ≤ 255
      count-few = omega (arith, made.counted, lists-asked.few)

      pub head-asked : (dark.count ≤ 255) × ((e.r ≤ 5) × (All (λ v. v ≤ largest_number) numbers × (length (forms_of numbers) ≤ 448)))
      head-asked = (
        count-few,
        (
          fit.estate.r-most,
          subst (λ l. All (λ v. v ≤ largest_number) l × (length (forms_of l) ≤ 448)) (sym numbers-are)
              (numbers-most whole at_most, pack-head-length whole at_most),
        ),
      )

      bytes-are : bytes_of_pack whole ≡ forms_of numbers ++ blocks
      unfolding bytes_of_pack
      bytes-are = λ i. forms_of (sym numbers-are i) ++ blocks-are i

      module _ {at : ℕ} (at-is : at ≡ length (forms_of numbers)) where
        pub length-is : at + joint.rows * e.r ≡ length (bytes_of_pack whole)
        length-is = sym (ap length bytes-are ∙ length-append (forms_of numbers) blocks ∙ omega (arith, blocks-length))

        pub layers-asked : (rest : List ℕ) → joint.rows * e.r ≤ length rest → LayersFit e joint.heads f s t rest
        layers-asked rest room =
            record { estate = fit.estate; all-nodes = fit.all-nodes; room = omega (arith, blocks-length) }

        module _ (buffer out out₁ zeros : List ℕ) (head-is : buffer ≡ over_start (forms_of numbers) zeros)
            (copied_is : out₁ ≡ over_start (take (at - 0) (drop 0 buffer)) out) where
          part-is : take (at - 0) (drop 0 buffer) ≡ forms_of numbers
          part-is = let g : at - 0 ≡ at = omega arith in rw (g, head-is) (take_at (forms_of numbers) _ at (sym at-is))

          pub out-is : out₁ ≡ put_at 0 (forms_of numbers) out
          out-is = copied_is ∙ rw part-is

          pub joined-written : (last : List ℕ) → length (forms_of numbers) ≤ length out
              → last ≡ over_start blocks (take (length out₁ - at) (drop at out₁)) → given_back out₁ at last ≡ over_start (bytes_of_pack whole) out
          joined-written last fits last-is =
              let zero-at : 0 + length (forms_of numbers) ≡ at = omega arith in
              let step : put_at at blocks out₁ ≡ put_at 0 (forms_of numbers ++ blocks) out =
              rw (out-is, ← zero-at) (put-put 0 (forms_of numbers) blocks out (omega arith)) in
              put_back at blocks out₁ last last-is ∙ step ∙ ap (λ (l : List ℕ). over_start l out) (sym bytes-are)

-- An output that is too short, and one that is not.
pub done-short : (p : Pack) (out : List ℕ) {size : ℕ} → size ≡ length (bytes_of_pack p) → length out < size
    → JoinDone (write_joined p (length out)) out out (Err (ShortOutput size))
unfolding write_joined
done-short p out {size} is short =
    let test : leb (length (bytes_of_pack p)) (length out) ≡ false = lt-leb (length (bytes_of_pack p)) (length out) (omega arith) in
    rw (test, is) (record { given_is = refl; output-after = refl })

pub done-written : (p : Pack) (out left : List ℕ) {size : ℕ} → size ≡ length (bytes_of_pack p) → size ≤ length out
    → left ≡ over_start (bytes_of_pack p) out → JoinDone (write_joined p (length out)) out left (Ok size)
unfolding write_joined
done-written p out left {size} is room wrote =
    let test : leb (length (bytes_of_pack p)) (length out) ≡ true = le-leb (length (bytes_of_pack p)) (length out) (omega arith) in
    rw (test, is) (record { given_is = refl; output-after = wrote })

-- The limits.
and-false : (b : Bool) → (b && false) ≡ false
and-false true = refl
and-false false = refl

module _ (e : Estate) (f s t : List ℕ) where
  joinable-is : joinable (estate_packs e f s t)
      ≡ ((leb (e.a.nodes + e.b.nodes + e.c.nodes) 255 && leb (sizes (exact e f s t)) 4_096)
      && leb (largest (map (λ head. head.bound) (exact e f s t))) 4_096)
  unfolding joinable every
  joinable-is = rw (eq-eqb e.r e.r refl, nodes-are e f s t, joined-heads e f s t, bounds-are e f s t)

  unjoinable : (out : List ℕ) → joinable (estate_packs e f s t) ≡ false
      → JoinDone (join_packs (estate_packs e f s t) (length out)) out out (Err Unjoinable)
  unfolding join_packs
  unjoinable out fails = rw fails (record { given_is = refl; output-after = refl })

  pub too-many-nodes : (out : List ℕ) → 255 < e.a.nodes + e.b.nodes + e.c.nodes
      → JoinDone (join_packs (estate_packs e f s t) (length out)) out out (Err Unjoinable)
  too-many-nodes out many =
      unjoinable out (joinable-is ∙ rw (lt-leb (e.a.nodes + e.b.nodes + e.c.nodes) 255 many))

  module _ {joint : JointHeads} (is : joint ≡ joint_heads (capped e f s t)) where
    pub too-large-mu : (out : List ℕ) → 4_096 < joint.most
        → JoinDone (join_packs (estate_packs e f s t) (length out)) out out (Err Unjoinable)
    too-large-mu out large =
        unjoinable out (joinable-is ∙ rw (lt-leb (largest (map (λ head. head.bound) (exact e f s t))) 4_096 (above (le-or-lt (largest (map (λ head. head.bound) (exact e f s t))) 4_096))) (and-false (leb (e.a.nodes + e.b.nodes + e.c.nodes) 255 && leb (sizes (exact e f s t)) 4_096)))
      where
        above : (largest (map (λ head. head.bound) (exact e f s t)) ≤ 4_096) ⊎ (4_096 < largest (map (λ head. head.bound) (exact e f s t)))
            → 4_096 < largest (map (λ head. head.bound) (exact e f s t))
        above (inl few) =
            let same = exact-capped e.r e.a.layers e.b.layers e.c.layers few in
            let most : joint.most ≡ largest (map (λ head. head.bound) (exact e f s t)) =
            ap (λ (j : JointHeads). j.most) is ∙ ap (λ (l : List LayerHead). largest (map (λ head. head.bound) l)) same in
            omega arith
        above (inr many) = many

    module _ (few : joint.most ≤ 4_096) where
      same-heads : capped e f s t ≡ exact e f s t
      same-heads = capped-exact e.r e.a.layers e.b.layers e.c.layers (rw is at few)

      rows_is : joint.rows ≡ sizes (exact e f s t)
      rows_is = ap (λ (j : JointHeads). j.rows) is ∙ ap sizes same-heads

      most-is : joint.most ≡ largest (map (λ head. head.bound) (exact e f s t))
      most-is = ap (λ (j : JointHeads). j.most) is ∙ ap (λ (l : List LayerHead). largest (map (λ head. head.bound) l)) same-heads

      pub too_many_rows : (out : List ℕ) → 4_096 < joint.rows
          → JoinDone (join_packs (estate_packs e f s t) (length out)) out out (Err Unjoinable)
      too_many_rows out many =
          unjoinable out (joinable-is ∙ rw (lt-leb (sizes (exact e f s t)) 4_096 (omega (arith, rows_is)), and-false (leb (e.a.nodes + e.b.nodes + e.c.nodes) 255)))

      pub within-done : (out left : List ℕ) (given : Result ℕ Refusal) → e.a.nodes + e.b.nodes + e.c.nodes ≤ 255 → joint.rows ≤ 4_096
          → JoinDone (write_joined (whole e f s t) (length out)) out left given
          → JoinDone (join_packs (estate_packs e f s t) (length out)) out left given
      unfolding join_packs
      within-done out left given n rows done =
          let yes : joinable (estate_packs e f s t) ≡ true =
          joinable-is ∙ rw (
            le-leb (e.a.nodes + e.b.nodes + e.c.nodes) 255 n,
            le-leb (sizes (exact e f s t)) 4_096 (omega (arith, rows_is)),
            le-leb (largest (map (λ head. head.bound) (exact e f s t))) 4_096 (omega (arith, most-is)),
          ) in
          rw yes done
