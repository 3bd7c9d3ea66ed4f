-- What asking gives: the chosen counts are the named split's, and so are the figure and the copies. Assumes nothing.
use Prim.Native.Nat.{ℕ, ◌*◌, ◌≤◌, ◌<◌, zero-le}
use Rattle.std.specs.Prelude.{Ok}
use native.Mathlib.Omega.{arith}
use mathlib.Core.Path.{◌≡◌, refl, sym, ◌∙◌, ap, ap₂}
use mathlib.Core.Logic.{◌⊎◌, inl, inr}
use mathlib.Core.List.{List, map}
use lib.ListN.{get_or, take}
use lib.Dec.{T}
use Rattle.lists.specs.Lists.{All, up_to}
use Rattle.lists.proofs.Alls.{all_map}
use Rattle.lists.proofs.Arith.{le-or-lt}
use Rattle.lists.proofs.Tests.{true-T}
use Rattle.lists.proofs.UpTo.{all-up_to, map-up_to-congr, map-get_d-up_to}
use Rattle.refusal.specs.declared.Refusal.{Refusal}
use Rattle.refusal.specs.Checked.{Checked, accepted, refused}
use Rattle.refusal.proofs.Checked.{accepted-injective, bind-elim, bind_congr}
use Rattle.layers.specs.Layers.{heads_of, sizes}
use Rattle.layers.specs.Answers.{five, five_heads, no_head}
use Rattle.layers.specs.declared.Base.{Base}
use Rattle.layers.specs.declared.LayerHead.{LayerHead}
use Rattle.layers.proofs.Arrays.{get_d-five, take-five}
use Rattle.pack.specs.Pack.{Pack, check_pack}
use Rattle.placement.specs.Placement.{OrderLimits}
use Rattle.placement.specs.declared.Order.{Order}
use Rattle.placement.specs.declared.Rule.TheVariants.{NestedFloors}
use Rattle.placement.specs.Figure.{figure_of}
use Rattle.split.specs.Splits.{Share, Split, layer_at, share_head, share_of, split_heads, copies_for, counts_split, named_counts, named_split, has_block}
use Rattle.split.specs.Table.{Limits}
use Rattle.split.specs.Working.{Chosen}
use Rattle.split.proofs.Arrays.{named_counts-congr}
use Rattle.split.proofs.Bounds.{copies_for-mul-bound-le}
use Rattle.split.proofs.Copies.{copies_for-le-self}
use Rattle.split.proofs.Heads.{length-split_heads, split_heads-congr, split-count-le}
use Rattle.split.proofs.Named.{named_split-is-split}
use Rattle.split.proofs.NamedCounts.{length-named_counts}
use Rattle.planner.specs.Planning.{check_order, check_blocks, check_work, work_needed}
use Rattle.planner.specs.Writing.{held_layers, PackHeld, SharesFit}
use Rattle.planner.proofs.Blocks.{check_blocks-held}
use Rattle.planner.proofs.Checks.{order-good, order-within, blocks-good, blocks-some, work-good, work-long}
use Rattle.planner.proofs.Layering.{layer_at-held}
use Rattle.commit.specs.Asking.{Offer, named_offer, ask_layers, ask, ask_answer, AskDone}
use Rattle.commit.specs.Asked.{LayersHeld, Askable, CopiesFit}
use Rattle.commit.specs.declared.AskResult.{AskResult}
use Rattle.commit.proofs.Fives.{get_d-five-past, five-up_to}

-- the named split's counts, layer by layer
counts-are : (layers : List LayerHead) (s k b : ℕ)
    → map (λ x. (named_split NestedFloors layers s k b x).count) (up_to s) ≡ named_counts NestedFloors layers s k s b
unfolding named_split
counts-are layers s k b =
    map-get_d-up_to (named_counts NestedFloors layers s k s b) 0 s (length-named_counts NestedFloors layers s k s b)

-- An order that passed the checks, and the counts that were chosen for it.
pub record Choice (layers : List LayerHead) (order : Order) (before after counts : List ℕ) : Type 0 where
  pub limits : Limits layers order
  pub block : T (has_block layers order.s)
  pub chosen : Chosen layers order before after counts

module _ {layers : List LayerHead} {order : Order} {before after counts : List ℕ} (choice : Choice layers order before after counts) where
  abbrev split : ℕ → Share
  split = named_split NestedFloors layers order.s order.k order.b

  is-split : Split layers order.s order.b split
  is-split =
      named_split-is-split NestedFloors layers order.s order.k order.b choice.limits.b-le choice.block

  counts-five : counts ≡ five 0 (map (λ x. (split x).count) (up_to order.s))
  counts-five = choice.chosen.counts ∙ ap (five 0) (sym (counts-are layers order.s order.k order.b))

  shares-are : (x : ℕ) → x < order.s → counts_split layers counts x ≡ split x
  unfolding named_split
  shares-are x h =
      ap (share_of (layer_at layers x))
      (ap (λ (c : List ℕ). get_or c x 0) choice.chosen.counts
      ∙ get_d-five 0 (named_counts NestedFloors layers order.s order.k order.s order.b) x
      (let most = choice.limits.s-le in omega arith))

  count_none : (x : ℕ) → order.s ≤ x → get_or counts x 0 ≡ 0
  count_none x h =
      ap (λ (c : List ℕ). get_or c x 0) counts-five ∙ get_d-five-past (λ x. (split x).count) order.s x h

  count_most : (x : ℕ) → get_or counts x 0 ≤ 4_096
  count_most x = go (le-or-lt order.s x)
    where
      go : (order.s ≤ x) ⊎ (x < order.s) → get_or counts x 0 ≤ 4_096
      go (inl h) = rw (count_none x h) zero-le
      go (inr h) =
          let same = ap (λ (share : Share). share.count) (shares-are x h) in
          let fits = split-count-le layers order.s order.b split is-split x h in
          let small = choice.limits.b-le in
          omega arith

  -- what the two numbers of each layer ask
  pub shares-fit : SharesFit layers order.s counts
  shares-fit =
      record {
        s-most = choice.limits.s-le;
        most = λ x. (choice.limits.mu-le x, choice.limits.m-le x);
        count_most = λ x h. count_most x;
      }

  -- and the copies
  pub copies-fit : CopiesFit layers counts
  copies-fit = record { fits = λ x. (let c = count_most x in let m = choice.limits.m-le x in omega arith) }

  copies-none : (x : ℕ) → order.s ≤ x → copies_for (get_or counts x 0) (layer_at layers x).size ≡ 0
  copies-none x h =
      let few = copies_for-le-self (get_or counts x 0) (layer_at layers x).size in let none = count_none x h in omega arith

  copies-five : map (λ x. (counts_split layers counts x).copies) (up_to 5) ≡ five 0 (map (λ x. (split x).copies) (up_to order.s))
  copies-five =
      five-up_to (λ x. (counts_split layers counts x).copies) order.s choice.limits.s-le copies-none
      ∙ ap (five 0) (map-up_to-congr _ _ order.s (λ x h. ap (λ (share : Share). share.copies) (shares-are x h)))

  lambda-most : (x : ℕ) → x < order.s → (counts_split layers counts x).copies * (layer_at layers x).bound ≤ 16_777_216
  lambda-most x h =
      copies_for-mul-bound-le (get_or counts x 0) (layer_at layers x).size (layer_at layers x).bound (count_most x) (choice.limits.mu-le x)

  -- the two numbers of each layer, as the code has them
  module _ {heads : List LayerHead} (are : heads ≡ five_heads (split_heads layers order.s (counts_split layers counts))) where
    taken : take order.s heads ≡ split_heads layers order.s (counts_split layers counts)
    taken =
        rw are
        (take-five no_head (split_heads layers order.s (counts_split layers counts)) order.s
        (length-split_heads layers order.s (counts_split layers counts)) choice.limits.s-le)

    same-heads : split_heads layers order.s (counts_split layers counts) ≡ split_heads layers order.s split
    same-heads = split_heads-congr layers order.s (counts_split layers counts) split shares-are

    -- what the figure asks
    pub figure-limits : ((order.s ≤ 5) × (order.s ≤ order.k) × (order.k ≤ 255) × (sizes (take order.s heads) ≤ order.b))
        × All (λ head. head.bound ≤ 16_777_216) (take order.s heads)
    figure-limits =
        rw taken (
          (
            choice.limits.s-le,
            choice.limits.s-le-k,
            omega (arith, choice.limits.k-le),
            omega (arith, ap sizes same-heads, is-split.sum),
          ),
          all_map _ (λ x. share_head (layer_at layers x) (counts_split layers counts x)) (up_to order.s) (all-up_to _ order.s lambda-most),
        )

    -- the answer, and the working slice afterwards
    pub offered : {figure : ℕ} {copies : List ℕ}
        → figure ≡ figure_of NestedFloors order.s order.k order.b (take order.s heads)
        → copies ≡ map (λ x. (counts_split layers counts x).copies) (up_to 5)
        → AskDone order (accepted (named_offer layers order)) before after
        (record { answer = Ok figure; counts = counts; copies = copies })
    unfolding named_offer
    offered {figure} {copies} is made =
        let f : figure ≡ (named_offer layers order).figure =
        is ∙ ap (figure_of NestedFloors order.s order.k order.b) (taken ∙ same-heads) in
        let c = counts-five in
        let d : copies ≡ five 0 (named_offer layers order).copies = made ∙ copies-five in
        record {
          answer = λ i. record { answer = Ok (f i); counts = c i; copies = d i };
          work-after = (choice.chosen.same_length, choice.chosen.rest);
        }

-- an order that passes the checks of asking
pub record AskFits (n r : ℕ) (layers : List LayerHead) (order : Order) (work : ℕ) : Type 0 where
  pub within : OrderLimits n r order
  pub block : T (has_block layers order.s)
  pub work-fits : work_needed order.s order.b ≤ work

module _ (n r : ℕ) (layers : List LayerHead) (order : Order) (work : ℕ) where
  pub ask-fitting : AskFits n r layers order work → ask_layers n r layers order work ≡ accepted (named_offer layers order)
  unfolding ask_layers
  ask-fitting f =
      rw (
        order-good n r order f.within,
        blocks-good layers order.s (true-T (has_block layers order.s) f.block),
        work-good order work f.work-fits,
      )

  -- what is offered passed every check
  pub asked-fits : {offer : Offer} → ask_layers n r layers order work ≡ accepted offer
      → AskFits n r layers order work × (named_offer layers order ≡ offer)
  unfolding ask_layers
  asked-fits e =
      bind-elim (check_order n r order) _ e λ _ e₁ r₁.
      bind-elim (check_blocks layers order.s) _ r₁ λ _ e₂ r₂.
      bind-elim (check_work order work) _ r₂ λ _ e₃ r₃. (
        record {
          within = order-within n r order e₁;
          block = blocks-some layers order.s e₂;
          work-fits = work-long order work e₃;
        },
        accepted-injective r₃,
      )

  -- the first refusal is the answer
  module _ {e : Refusal} where
    pub order-refused : check_order n r order ≡ refused e → ask_layers n r layers order work ≡ refused e
    unfolding ask_layers
    order-refused h = rw h

    module _ {u : Unit} (ordered : check_order n r order ≡ accepted u) where
      pub blocks-refused : check_blocks layers order.s ≡ refused e → ask_layers n r layers order work ≡ refused e
      unfolding ask_layers
      blocks-refused h = rw (ordered, h)

      pub work-refused : {v : Unit} → check_blocks layers order.s ≡ accepted v → check_work order work ≡ refused e
          → ask_layers n r layers order work ≡ refused e
      unfolding ask_layers
      work-refused some h = rw (ordered, some, h)

-- asking of an accepted pack
pub ask-of-pack : (bytes : List ℕ) (pack : Pack) (order : Order) (work : ℕ) → check_pack bytes ≡ accepted pack
    → ask bytes order work ≡ ask_layers pack.n pack.r (heads_of pack.layers) order work
unfolding ask
ask-of-pack bytes pack order work e = rw e

-- where asking answers, the working slice was long enough
pub asked-work : (bytes : List ℕ) (order : Order) (work : ℕ) {offer : Offer} → ask bytes order work ≡ accepted offer
    → work_needed order.s order.b ≤ work
unfolding ask
asked-work bytes order work is =
    bind-elim (check_pack bytes) _ is λ pack _ r. (asked-fits pack.n pack.r (heads_of pack.layers) order work r).0.work-fits

-- what asking needs of an accepted pack's numbers
pub layers-held : {base : Base} {layers : List LayerHead} {blocks : List ℕ} → PackHeld base layers blocks → LayersHeld base layers
layers-held held =
    record { n-most = held.good.limits.base.n-most; r-most = held.good.limits.base.r-most; most = held.most }

-- and what answering asks
pub askable : {base : Base} {layers : List LayerHead} {order : Order} {work : ℕ} → LayersHeld base layers
    → AskFits base.n base.r layers order work → Askable layers order work
askable held fits =
    let o = fits.within in
    record {
      limits = record {
        s-pos = o.s-least;
        s-le = omega (arith, o.s-most, held.r-most);
        s-le-k = o.k-least;
        k-le = omega (arith, o.k-most, held.n-most);
        b-le = o.b-most;
        mu-le = λ x. (held.most x).0;
        m-le = λ x. (held.most x).1;
      };
      block = fits.block;
      work-fits = fits.work-fits;
    }

-- layers that agree below s have the same named split, and give the same offer
module _ (layers heads : List LayerHead) (order : Order) (agree : (x : ℕ) → x < order.s → layer_at layers x ≡ layer_at heads x) where
  abbrev named_of : List LayerHead → ℕ → Share
  named_of l = named_split NestedFloors l order.s order.k order.b

  named_split-congr : (x : ℕ) → x < order.s → named_of layers x ≡ named_of heads x
  unfolding named_split
  named_split-congr x h =
      rw (named_counts-congr NestedFloors layers heads order.s order.k order.s order.b agree, agree x h)

  named_offer-congr : named_offer layers order ≡ named_offer heads order
  unfolding named_offer
  named_offer-congr =
      let numbers : split_heads layers order.s (named_of layers) ≡ split_heads heads order.s (named_of heads) =
      map-up_to-congr _ _ order.s (λ x h. ap₂ share_head (agree x h) (named_split-congr x h)) in
      let counts = map-up_to-congr _ _ order.s (λ x h. ap (λ (share : Share). share.count) (named_split-congr x h)) in
      let copies = map-up_to-congr _ _ order.s (λ x h. ap (λ (share : Share). share.copies) (named_split-congr x h)) in
      λ i. record {
        figure = figure_of NestedFloors order.s order.k order.b (numbers i);
        counts = counts i;
        copies = copies i;
      }

-- the pack's layers are those of the code's array
pub ask_layers-held : (n r : ℕ) (layers : List LayerHead) (blocks : List ℕ) (order : Order) (work : ℕ)
    → ask_layers n r (heads_of (held_layers r layers blocks)) order work ≡ ask_layers n r layers order work
unfolding ask_layers
ask_layers-held n r layers blocks order work =
    bind_congr (check_order n r order) _ _ _ refl λ _ e₁.
    let fits = (order-within n r order e₁).s-most in
    bind_congr (check_blocks (heads_of (held_layers r layers blocks)) order.s) _ _ _ (check_blocks-held r layers blocks order.s fits) λ _ e₂.
    bind_congr (check_work order work) _ _ _ refl λ _ e₃.
    ap accepted (named_offer-congr (heads_of (held_layers r layers blocks)) layers order (λ x h. layer_at-held r layers blocks x (omega arith)))

-- a refusal leaves the working slice as it was
pub refused-done : {order : Order} {asked : Checked Offer} {e : Refusal} (work : List ℕ) {given : AskResult}
    → asked ≡ refused e → given ≡ ask_answer (refused e) → AskDone order asked work work given
refused-done work is e = rw is (record { answer = e; work-after = refl })
