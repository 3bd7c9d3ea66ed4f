-- The split of a pack that has blocks in one layer alone, b of them, with all b records there. Assumes nothing.
use Prim.Native.Nat.{ℕ, zero, suc, ◌*◌, ◌≤◌, ◌<◌, zero-le}
use native.Mathlib.Omega.{arith}
use native.Mathlib.Nat.{one-mul, mod-eq_of_lt}
use mathlib.Core.Path.{◌≡◌, refl, sym, ◌∙◌, ap, subst}
use mathlib.Core.Logic.{◌⊎◌, inl, inr}
use mathlib.Core.List.{List, []}
use lib.ListN.{length, get_or, replicate, set}
use lib.Seq.{ext_get_or}
use Rattle.lists.specs.Lists.{up_to}
use Rattle.lists.proofs.UpTo.{length-map-up_to, get_d-map-up_to, map-up_to-congr, map-get_d-up_to}
use Rattle.packing.specs.Rows.{repeated}
use Rattle.layers.specs.Layers.{sizes}
use Rattle.layers.specs.Answers.{no_head}
use Rattle.layers.specs.declared.LayerHead.{LayerHead}
use Rattle.split.specs.Splits.{Split, layer_at, share_head, split_heads, counts_split, copies_for}
use Rattle.split.proofs.Copies.{copies_for-le, le-copies_for-mul, copies_for-no-blocks}
use Rattle.certify.proofs.Alone.{alone_heads, at_same, at_other, length-alone, same-or-other, sizes-alone}

-- one copy of b blocks holds b records
pub one-copy : (b : ℕ) → 1 ≤ b → copies_for b b ≡ 1
one-copy b h =
    let most = copies_for-le b b 1 h (omega arith) in
    let least = some (copies_for b b) (le-copies_for-mul b b h) in
    omega arith
  where
    some : (d : ℕ) → b ≤ d * b → 1 ≤ d
    some zero le = omega arith
    some (suc d) le = omega arith

-- rows repeated up to their own number are the rows
pub repeated-self : (rows : List (List ℕ)) (b : ℕ) → length rows ≡ b → repeated rows b ≡ rows
unfolding repeated
repeated-self rows b e =
    map-up_to-congr _ _ b (λ j lt. ap (λ i. get_or rows i []) (mod-eq_of_lt (rw e lt)))
    ∙ map-get_d-up_to rows [] b e

pub repeated-none : (blocks : List (List ℕ)) → repeated blocks 0 ≡ []
unfolding repeated up_to
repeated-none blocks = refl

-- The two numbers of each layer of the split with all b records in layer x, whose m layers have b blocks there and none elsewhere.
module _ (m s x b lambda : ℕ) (some : 1 ≤ b) (below : x < s) (fit : s ≤ m) where
  abbrev heads : List LayerHead
  heads = alone_heads m 1 x (record { bound = lambda; size = b })

  abbrev counts : ℕ → List ℕ
  counts c = set (replicate c 0) x b

  head-same : layer_at heads x ≡ record { bound = lambda; size = b }
  head-same = at_same m x (record { bound = 1; size = 0 }) (record { bound = lambda; size = b }) no_head (omega arith)

  head-other : (y : ℕ) → y < s → (y ≡ x → ⊥) → layer_at heads y ≡ record { bound = 1; size = 0 }
  head-other y lt ne =
      at_other m x y (record { bound = 1; size = 0 }) (record { bound = lambda; size = b }) no_head (omega arith) ne

  module _ (c : ℕ) (room : s ≤ c) where
    count_same : get_or (counts c) x 0 ≡ b
    count_same = at_same c x 0 b 0 (omega arith)

    count-other : (y : ℕ) → y < s → (y ≡ x → ⊥) → get_or (counts c) y 0 ≡ 0
    count-other y lt ne = at_other c x y 0 b 0 (omega arith) ne

    share-at : (y : ℕ) → y < s
        → share_head (layer_at heads y) (counts_split heads (counts c) y)
        ≡ get_or (alone_heads s 0 x (record { bound = lambda; size = b })) y no_head
    share-at y lt = go (same-or-other x y)
      where
        go : (y ≡ x) ⊎ (y ≡ x → ⊥)
            → share_head (layer_at heads y) (counts_split heads (counts c) y)
            ≡ get_or (alone_heads s 0 x (record { bound = lambda; size = b })) y no_head
        go (inl e) =
            rw (e, head-same, count_same, one-copy b some, one-mul lambda)
            (sym (at_same s x no_head (record { bound = lambda; size = b }) no_head below))
        go (inr ne) =
            rw (head-other y lt ne, count-other y lt ne, copies_for-no-blocks 0)
            (sym (at_other s x y no_head (record { bound = lambda; size = b }) no_head lt ne))

    pub heads-split : split_heads heads s (counts_split heads (counts c)) ≡ alone_heads s 0 x (record { bound = lambda; size = b })
    heads-split =
        ext_get_or no_head _ _ (length-map-up_to _ s ∙ sym (length-alone s x no_head (record { bound = lambda; size = b })))
        (λ y lt.
        let low : y < s = subst (λ (n : ℕ). y < n) (length-map-up_to _ s) lt in
        get_d-map-up_to _ s y no_head low ∙ share-at y low)

    pub alone-split : Split heads s b (counts_split heads (counts c))
    alone-split =
        record {
          held = λ y lt. go y lt (same-or-other x y);
          sum = ap sizes heads-split ∙ sizes-alone s 0 x (record { bound = lambda; size = b }) below;
        }
      where
        go : (y : ℕ) → y < s → (y ≡ x) ⊎ (y ≡ x → ⊥)
            → get_or (counts c) y 0 ≤ copies_for (get_or (counts c) y 0) (layer_at heads y).size * (layer_at heads y).size
        go y lt (inl e) = rw (e, head-same, count_same) (le-copies_for-mul b b some)
        go y lt (inr ne) = rw (count-other y lt ne) zero-le
