-- Reading the layers' numbers one layer at a time: what each turn of the loop keeps, and what it answers. Assumes nothing.
use Prim.Native.Nat.{ℕ, suc, ◌+◌, ◌-◌, ◌≤◌, ◌<◌}
use Rattle.std.specs.Prelude.{Ok}
use native.Mathlib.Omega.{arith}
use native.Mathlib.Nat.{sub-zero}
use mathlib.Core.Path.{◌≡◌, refl, sym, ◌∙◌, ap}
use mathlib.Core.List.{List, [], ◌∷◌, ◌++◌, append_assoc, append-nil}
use lib.ListN.{length, set, length-append}
use Rattle.refusal.specs.declared.Refusal.{Refusal}
use Rattle.refusal.specs.Checked.{Checked, accepted, refused, ◌>>=◌, map_accepted}
use Rattle.number.specs.Numbers.{read_within}
use Rattle.number.specs.declared.Reading.{Reading}
use Rattle.number.proofs.Within.{read-of-read_within}
use Rattle.layers.specs.Layers.{LayerHeads, least_size, read_layers}
use Rattle.layers.specs.declared.LayerHead.{LayerHead}
use Rattle.layers.specs.declared.LayerLimits.{LayerLimits}
use Rattle.layers.specs.Answers.{no_head, five_heads, layers_read}
use Rattle.layers.proofs.Arrays.{five-snoc}

-- what was read before, put in front of what is read from here on
abbrev in_front : List LayerHead → Checked LayerHeads → Checked LayerHeads
in_front heads m = map_accepted (λ rest. record { heads = heads ++ rest.heads; next = rest.next }) m

in_front-nil : (m : Checked LayerHeads) → in_front [] m ≡ m
in_front-nil (accepted rest) = refl
in_front-nil (refused e) = refl

in_front-snoc : (heads : List LayerHead) (head : LayerHead) (m : Checked LayerHeads)
    → in_front (heads ++ (head ∷ [])) m
    ≡ in_front heads (m >>= λ rest. accepted (record { heads = head ∷ rest.heads; next = rest.next }))
in_front-snoc heads head (accepted rest) = rw (append_assoc heads (head ∷ []) rest.heads)
in_front-snoc heads head (refused e) = refl

-- What each turn keeps: the heads read so far, in front of what is read from the present place on, are the whole.
pub record LayersTurn (limits : LayerLimits) (layers room : ℕ) (s : List ℕ) (at : ℕ) (heads : List LayerHead)
    (next rest x : ℕ) : Type 0 where
  pub done : List LayerHead
  pub count : length done ≡ x
  pub inside : x ≤ layers
  pub heads-are : heads ≡ five_heads done
  pub same : in_front done (read_layers limits (layers - x) rest s next) ≡ read_layers limits layers room s at

pub layers-hold : (limits : LayerLimits) (layers room : ℕ) (s : List ℕ) (at : ℕ)
    → LayersTurn limits layers room s at (five_heads []) at room 0
layers-hold limits layers room s at =
    record {
      done = [];
      count = refl;
      inside = omega arith;
      heads-are = refl;
      same = rw (sub-zero layers) (in_front-nil (read_layers limits layers room s at));
    }

module _ (limits : LayerLimits) (layers room : ℕ) (s : List ℕ) (at : ℕ) (heads : List LayerHead) (next rest x : ℕ)
    (turn : LayersTurn limits layers room s at heads next rest x) where
  -- the loop ends: what was read is all
  pub layers-done : layers ≤ x
      → Ok (record { heads = heads; next = next }) ≡ layers_read (read_layers limits layers room s at)
  unfolding read_layers
  layers-done h =
      let none : layers - x ≡ 0 = omega arith in
      let done = turn.done in
      let all : read_layers limits layers room s at ≡ accepted (record { heads = done; next = next }) =
      sym turn.same ∙ rw (none, append-nil done) in
      rw (all, turn.heads-are)

  module _ (h : x < layers) where
    left : layers - x ≡ suc (layers - x - 1)
    left = omega arith

    one-more : in_front turn.done (read_layers limits (suc (layers - x - 1)) rest s next)
        ≡ read_layers limits layers room s at
    one-more = ap (λ n. in_front turn.done (read_layers limits n rest s next)) (sym left) ∙ turn.same

    pub layers-no-bound : {why : Refusal} → read_within limits.lo limits.hi s next ≡ refused why
        → read_layers limits layers room s at ≡ refused why
    unfolding read_layers
    layers-no-bound e = sym one-more ∙ rw e

    module _ {bound : Reading} (b : read_within limits.lo limits.hi s next ≡ accepted bound) {least : ℕ}
        (is : least ≡ least_size limits.full (layers - x - 1) rest) where
      pub layers-no-size : {why : Refusal} → read_within least rest s bound.next ≡ refused why
          → read_layers limits layers room s at ≡ refused why
      unfolding read_layers
      layers-no-size e = sym one-more ∙ rw (b, ← is, e)

      module _ {size : Reading} (z : read_within least rest s bound.next ≡ accepted size) where
        pub layers-fit : size.value ≤ rest
        layers-fit = (read-of-read_within least rest s bound.next z).2

        pub layers-again : layers ≤ 5
            → LayersTurn limits layers room s at (set heads x (record { bound = bound.value; size = size.value })) size.next
            (rest - size.value) (x + 1)
        unfolding read_layers
        layers-again few =
            let head : LayerHead = record { bound = bound.value; size = size.value } in
            let done = turn.done in
            let fewer : layers - (x + 1) ≡ layers - x - 1 = omega arith in
            let after = read_layers limits (layers - x - 1) (rest - size.value) s size.next in
            let here : read_layers limits (suc (layers - x - 1)) rest s next
            ≡ (after >>= λ rest. accepted (record { heads = head ∷ rest.heads; next = rest.next })) =
            rw (b, ← is, z) in
            record {
              done = done ++ (head ∷ []);
              count = length-append done (head ∷ []) ∙ omega (arith, turn.count);
              inside = omega arith;
              heads-are = rw turn.heads-are (five-snoc no_head done x head turn.count (omega arith));
              same = rw fewer (in_front-snoc done head after ∙ ap (in_front done) (sym here) ∙ one-more);
            }
