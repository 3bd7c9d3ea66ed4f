-- The joined layers written one after another to a slice. Assumes nothing.
use Prim.Native.Nat.{ℕ, zero, suc, ◌+◌, ◌*◌, ◌-◌, ◌≤◌, ◌<◌}
use native.Mathlib.Omega.{arith}
use native.Mathlib.Numerals.{add-one}
use native.Mathlib.Nat.{zero-mul, mul-le-mul, le_refl}
use mathlib.Core.Path.{◌≡◌, refl, ◌∙◌, ap, subst}
use mathlib.Core.List.{List, [], ◌∷◌, ◌++◌, map, flatten, append-nil}
use lib.ListN.{length, get_or, take, drop, length-append}
use lib.Seq.{drop-drop}
use Rattle.lists.specs.Lists.{over_start, total, up_to}
use Rattle.lists.proofs.Alls.{all-imp, all_take, all_drop}
use Rattle.lists.proofs.Counts.{flatten-append}
use Rattle.lists.proofs.UpTo.{map-up_to-suc}
use Rattle.layers.specs.Layers.{sizes}
use Rattle.layers.specs.Answers.{no_head}
use Rattle.layers.specs.declared.LayerHead.{LayerHead}
use Rattle.layers.proofs.Arrays.{sizes-take-suc, sizes-take-le}
use Rattle.join.specs.declared.Piece.{Piece}
use Rattle.join.specs.declared.Estate.{Estate}
use Rattle.join.specs.declared.Layering.{Layering}
use Rattle.join.specs.Estate.{layer_bytes, layer_blocks, layering, layer_at, layers_below, PieceFits, PartFits, LayerFits, LayersFit, put_at}
use Rattle.join.proofs.Bytes.{length-put_at, put-put}

-- three parts, one after another
module _ (at : ℕ) (one two three out : List ℕ) (fits : at + length (one ++ (two ++ three)) ≤ length out) where
  total-length : length (one ++ (two ++ three)) ≡ length one + (length two + length three)
  total-length = length-append one (two ++ three) ∙ ap (λ n. length one + n) (length-append two three)

  pub room-one : at + length one ≤ length out
  room-one = omega (arith, total-length)

  module _ {next : ℕ} {now : List ℕ} (next-is : next ≡ at + length one) (now-is : now ≡ put_at at one out) where
    pub room-two : next + length two ≤ length now
    room-two = rw now-is (omega (arith, total-length, length-put_at at one out room-one))

    module _ {after : ℕ} {then : List ℕ} (after_is : after ≡ next + length two) (then_is : then ≡ put_at next two now) where
      pub room-three : after + length three ≤ length then
      room-three =
          rw then_is (omega (arith, total-length, length-put_at next two now room-two, ap length now-is, length-put_at at one out room-one))

      pub three-put : {end : ℕ} {last : List ℕ} → end ≡ after + length three → last ≡ put_at after three then
          → (end ≡ at + length (one ++ (two ++ three))) × (last ≡ put_at at (one ++ (two ++ three)) out)
      three-put {end} {last} end_is last-is =
          let inner : put_at after three then ≡ put_at next (two ++ three) now = rw (after_is, then_is) (put-put next two three now room-two) in
          let outer : put_at next (two ++ three) now ≡ put_at at (one ++ (two ++ three)) out =
          rw (next-is, now-is) (put-put at one (two ++ three) out room-one) in
          (omega (arith, total-length), last-is ∙ inner ∙ outer)

-- the place of a pack's first block of layer x
abbrev pub blocks_from : (r : ℕ) → Piece → (x : ℕ) → ℕ
blocks_from r piece x = piece.place + sizes (take x piece.layers) * r

abbrev size_at : Piece → (x : ℕ) → ℕ
size_at piece x = (get_or piece.layers x no_head).size

-- the part of the bytes that is lent
abbrev pub lent : (bytes : List ℕ) (from end : ℕ) → List ℕ
lent bytes from end = take (end - from) (drop from bytes)

blocks-next : (r : ℕ) (piece : Piece) (x from : ℕ) → from ≡ blocks_from r piece x → from + size_at piece x * r ≡ blocks_from r piece (x + 1)
blocks-next r piece x from is = rw (sizes-take-suc piece.layers x) (omega arith)

module _ {r : ℕ} {piece : Piece} {bytes : List ℕ} (fits : PieceFits r piece bytes) (x from : ℕ) (is : from ≡ blocks_from r piece x) where
  pub blocks_end : x < r → from + size_at piece x * r ≤ length bytes
  blocks_end below =
      let m = mul-le-mul (sizes-take-le piece.layers (x + 1) r (omega arith)) (le_refl r) in
      omega (arith, blocks-next r piece x from is, fits.whole)

  lent_is : lent bytes from (from + size_at piece x * r) ≡ layer_blocks r piece bytes x
  lent_is =
      let e : from + size_at piece x * r - from ≡ size_at piece x * r = omega arith in
      rw (e, is)

  part-fits : (before : ℕ) → before + piece.nodes ≤ 255 → PartFits (get_or piece.layers x no_head).bound before (layer_blocks r piece bytes x)
  part-fits before few =
      record {
        mu-least = λ some. (fits.heads x).mu-least (some_size (size_at piece x) some);
        nodes-most =
            all_take _ (size_at piece x * r) (drop (blocks_from r piece x) bytes)
            (rw (drop-drop (sizes (take x piece.layers) * r) piece.place bytes)
            at (all_drop (λ v. before + v < 256) (sizes (take x piece.layers) * r) (drop piece.place bytes)
            (all-imp _ _ low (drop piece.place bytes) fits.below)));
        before-most = omega arith;
      }
    where
      low : (v : ℕ) → v < piece.nodes → before + v < 256
      low v lt = omega arith

      some_size : (m : ℕ) → 0 < length (take (m * r) (drop (blocks_from r piece x) bytes)) → 0 < m
      some_size zero some = absurd (let none = rw (zero-mul r) at some in omega arith)
      some_size (suc m) some = omega arith

-- The layers below x are written. Layer x begins at byte `at`, and its blocks at these places of the packs; from `at` on the
-- bytes are as they were.
pub record Laying (r : ℕ) (below : ℕ → List ℕ) (from-a from-b from-c : ℕ → ℕ) (out₀ out : List ℕ) (a b c at x : ℕ) : Type 0 where
  pub within : x ≤ r
  pub place : at ≡ length (below x)
  pub source-a : a ≡ from-a x
  pub source-b : b ≡ from-b x
  pub source-c : c ≡ from-c x
  pub same : length out ≡ length out₀
  pub written : out ≡ over_start (below x) out₀

module _ (e : Estate) (heads : List LayerHead) (f s t : List ℕ) where
  abbrev below : ℕ → List ℕ
  below x = layers_below e heads f s t x

  pub below_suc : (x : ℕ) → below (suc x) ≡ below x ++ layer_at e heads f s t x
  unfolding flatten
  below_suc x =
      ap flatten (map-up_to-suc (layer_at e heads f s t) x)
      ∙ flatten-append (map (layer_at e heads f s t) (up_to x)) (layer_at e heads f s t x ∷ [])
      ∙ ap (λ (l : List ℕ). below x ++ l) (append-nil (layer_at e heads f s t x))

  below-le : (x y : ℕ) → length (below x) ≤ length (below (x + y))
  below-le x zero = let g : x + 0 ≡ x = omega arith in rw g (le_refl (length (below x)))
  below-le x (suc y) =
      let g : x + suc y ≡ suc (x + y) = omega arith in
      rw (g, below_suc (x + y), length-append (below (x + y))) (omega (arith, below-le x y))

  module _ {out₀ : List ℕ} (fit : LayersFit e heads f s t out₀) where
    abbrev LayingAt : (out : List ℕ) (a b c at x : ℕ) → Type 0
    LayingAt out a b c at x = Laying e.r below (blocks_from e.r e.a) (blocks_from e.r e.b) (blocks_from e.r e.c) out₀ out a b c at x

    pub laying-none : LayingAt out₀ e.a.place e.b.place e.c.place 0 0
    unfolding flatten up_to total
    laying-none =
        record {
          within = omega arith;
          place = refl;
          source-a = omega arith;
          source-b = omega arith;
          source-c = omega arith;
          same = refl;
          written = refl;
        }

    module _ {out : List ℕ} {a b c at x : ℕ} (l : LayingAt out a b c at x) (turn : x < e.r) where
      pub ends : (a + size_at e.a x * e.r ≤ length f) × (b + size_at e.b x * e.r ≤ length s) × (c + size_at e.c x * e.r ≤ length t)
      ends = (
        blocks_end fit.estate.fits-a x a l.source-a turn,
        blocks_end fit.estate.fits-b x b l.source-b turn,
        blocks_end fit.estate.fits-c x c l.source-c turn,
      )

      abbrev lent-a : List ℕ
      lent-a = lent f a (a + size_at e.a x * e.r)

      abbrev lent-b : List ℕ
      lent-b = lent s b (b + size_at e.b x * e.r)

      abbrev lent-c : List ℕ
      lent-c = lent t c (c + size_at e.c x * e.r)

      abbrev this : Layering
      this = layering e (get_or heads x no_head).bound x

      layer-is : layer_bytes this lent-a lent-b lent-c ≡ layer_at e heads f s t x
      layer-is =
          rw (
            lent_is fit.estate.fits-a x a l.source-a,
            lent_is fit.estate.fits-b x b l.source-b,
            lent_is fit.estate.fits-c x c l.source-c,
          )

      layer-room : at + length (layer_at e heads f s t x) ≤ length out₀
      layer-room =
          let up : suc x + (e.r - suc x) ≡ e.r = omega arith in
          let most : length (below (suc x)) ≤ length (below e.r) = rw up at (below-le (suc x) (e.r - suc x)) in
          omega (arith, ap length (below_suc x), length-append (below x) (layer_at e heads f s t x), l.place, fit.room)

      pub layer-asked : LayerFits this lent-a lent-b lent-c × (at + length (layer_bytes this lent-a lent-b lent-c) ≤ length out)
      layer-asked =
          let n = fit.all-nodes in
          rw (
            lent_is fit.estate.fits-a x a l.source-a,
            lent_is fit.estate.fits-b x b l.source-b,
            lent_is fit.estate.fits-c x c l.source-c,
          ) (
            record {
              part-a = part-fits fit.estate.fits-a x a l.source-a 0 (omega arith);
              part-b = part-fits fit.estate.fits-b x b l.source-b e.a.nodes (omega arith);
              part_c = part-fits fit.estate.fits-c x c l.source-c (e.a.nodes + e.b.nodes) (omega arith);
            },
            omega (arith, layer-room, l.same),
          )

      pub laying-next : {next : ℕ} {last : List ℕ} → next ≡ at + length (layer_bytes this lent-a lent-b lent-c)
          → last ≡ put_at at (layer_bytes this lent-a lent-b lent-c) out
          → LayingAt last (a + size_at e.a x * e.r) (b + size_at e.b x * e.r) (c + size_at e.c x * e.r) next (x + 1)
      laying-next {next} {last} next-is last-is =
          let part = layer_at e heads f s t x in
          let more : below (x + 1) ≡ below x ++ part = rw (add-one x) (below_suc x) in
          let put : last ≡ put_at at part out = last-is ∙ ap (λ (q : List ℕ). put_at at q out) layer-is in
          let zero-at : 0 + length (below x) ≡ at = omega (arith, l.place) in
          record {
            within = omega arith;
            place = next-is ∙ rw (layer-is, more, length-append (below x) part) (omega (arith, l.place));
            source-a = blocks-next e.r e.a x a l.source-a;
            source-b = blocks-next e.r e.b x b l.source-b;
            source-c = blocks-next e.r e.c x c l.source-c;
            same = ap length put ∙ length-put_at at part out (omega (arith, layer-room, l.same)) ∙ l.same;
            written =
                put
                ∙ rw (l.written, more, ← zero-at) (put-put 0 (below x) part out₀ (omega (arith, layer-room)));
          }

    pub laying-all : {out : List ℕ} {a b c at x : ℕ} → LayingAt out a b c at x → e.r ≤ x → out ≡ over_start (below e.r) out₀
    laying-all {out} {x = x} l done =
        let all : x ≡ e.r = omega (arith, l.within) in
        subst (λ y. out ≡ over_start (below y) out₀) all l.written
