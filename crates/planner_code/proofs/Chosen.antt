-- Planning an order that passes the checks: the chosen counts are the named split's, and what is written is the named
-- placement. Assumes nothing.
use Prim.Native.Nat.{ℕ, suc, ◌*◌, ◌≤◌, ◌<◌}
use Rattle.std.specs.Prelude.{Result}
use native.Mathlib.Omega.{arith}
use mathlib.Core.Path.{◌≡◌, refl, sym, ◌∙◌, ap}
use mathlib.Core.List.{List, map, map-map}
use lib.ListN.{length, get_or}
use lib.Dec.{T}
use Rattle.lists.specs.Lists.{up_to}
use Rattle.lists.proofs.UpTo.{map-up_to-congr, map-get_d-up_to}
use Rattle.refusal.specs.declared.Refusal.{Refusal}
use Rattle.refusal.specs.Checked.{Checked, accepted, refused}
use Rattle.packing.proofs.Copies.{length-repeated}
use Rattle.layers.specs.Layers.{Layer, blocks_at, sizes, heads_of}
use Rattle.layers.specs.Answers.{five}
use Rattle.layers.specs.declared.Base.{Base}
use Rattle.layers.specs.declared.LayerHead.{LayerHead}
use Rattle.layers.proofs.Arrays.{get_d-five}
use Rattle.pack.specs.Pack.{Pack}
use Rattle.placement.specs.Placement.{Placement}
use Rattle.placement.specs.declared.Rule.TheVariants.{NestedFloors}
use Rattle.placement.specs.declared.Order.{Order}
use Rattle.split.specs.Splits.{Share, Split, layer_at, has_block, named_counts, named_split, share_of, counts_split}
use Rattle.split.specs.Table.{Limits}
use Rattle.split.specs.Working.{Chosen}
use Rattle.split.proofs.Arrays.{named_counts-congr}
use Rattle.split.proofs.Heads.{split_heads-congr}
use Rattle.split.proofs.Named.{named_split-is-split}
use Rattle.split.proofs.NamedCounts.{length-named_counts}
use Rattle.planner.specs.Planning.{Fits, placed, split_placement, named_placement, output_after}
use Rattle.planner.specs.Answers.{plan_answer, PlanDone}
use Rattle.planner.specs.Writing.{held_pack, counts_placement, Writable, PackHeld}
use Rattle.planner.specs.declared.PlanResult.{PlanResult}
use Rattle.planner.specs.declared.PlannedFile.{PlannedFile}
use Rattle.planner.proofs.Blocks.{block_held}
use Rattle.planner.proofs.Layering.{layer_at-held}
use Rattle.planner.proofs.Placed.{split_placement-congr}

-- splits that agree below s are splits together
split-congr : (heads : List LayerHead) (s b : ℕ) (a c : ℕ → Share) → ((x : ℕ) → x < s → c x ≡ a x) → Split heads s b a → Split heads s b c
split-congr heads s b a c h is =
    record {
      held = λ x l. rw (h x l) (is.held x l);
      sum = ap sizes (split_heads-congr heads s c a h) ∙ is.sum;
    }

-- the named placement's counts
sizes-are : (pack : Pack) (s k b : ℕ)
    → map (λ layer. length layer.rows) (named_placement pack s k b).layers ≡ named_counts NestedFloors (heads_of pack.layers) s k s b
unfolding named_placement split_placement named_split
sizes-are pack s k b =
    let counts = named_counts NestedFloors (heads_of pack.layers) s k s b in
    let layer : ℕ → Layer = λ x. placed (blocks_at pack.layers x) (named_split NestedFloors (heads_of pack.layers) s k b x) in
    map-map (λ layer. length layer.rows) layer (up_to s)
    ∙ map-up_to-congr _ _ s (λ x l. length-repeated (blocks_at pack.layers x).rows (get_or counts x 0))
    ∙ map-get_d-up_to counts 0 s (length-named_counts NestedFloors (heads_of pack.layers) s k s b)

-- a refusal leaves the slices as they were
pub refused-done : {planned : Checked Placement} {e : Refusal} (work out : List ℕ) {given : PlanResult}
    → planned ≡ refused e → given ≡ plan_answer (refused e) → PlanDone planned work work out out given
refused-done work out is e = rw is (record { answer = e; work-after = refl; output-after = refl })

module _ {base : Base} {layers : List LayerHead} {blocks : List ℕ} (held : PackHeld base layers blocks) where
  abbrev pack : Pack
  pack = held_pack base layers blocks

  abbrev heads : List LayerHead
  heads = heads_of pack.layers

  module _ {order : Order} {work output : ℕ} (fits : Fits pack order work output) where
    s-le-five : order.s ≤ 5
    s-le-five = omega (arith, fits.within.s-most, held.good.limits.base.r-most)

    -- what choosing asks
    pub choose-limits : Limits layers order × (order.s * suc order.b ≤ work)
    choose-limits =
        let order = fits.within in (
          record {
            s-pos = order.s-least;
            s-le = s-le-five;
            s-le-k = order.k-least;
            k-le = omega (arith, order.k-most, held.good.limits.base.n-most);
            b-le = order.b-most;
            mu-le = λ x. (held.most x).0;
            m-le = λ x. (held.most x).1;
          },
          fits.work-fits,
        )

    module _ {before after counts : List ℕ} (chosen : Chosen layers order before after counts) where
      -- the counts are the named split's, by the code's numbers and by the pack's
      shares-are : (x : ℕ) → x < order.s
          → counts_split layers counts x ≡ named_split NestedFloors layers order.s order.k order.b x
      unfolding named_split
      shares-are x l =
          ap (share_of (layer_at layers x))
          (ap (λ (c : List ℕ). get_or c x 0) chosen.counts
          ∙ get_d-five 0 (named_counts NestedFloors layers order.s order.k order.s order.b) x (omega (arith, s-le-five)))

      agree : (x : ℕ) → x < order.s → layer_at layers x ≡ layer_at heads x
      agree x l = sym (layer_at-held base.r layers blocks x (omega (arith, fits.within.s-most)))

      counts-are : counts ≡ five 0 (named_counts NestedFloors heads order.s order.k order.s order.b)
      counts-are = chosen.counts ∙ ap (five 0) (named_counts-congr NestedFloors layers heads order.s order.k order.s order.b agree)

      pack-shares-are : (x : ℕ) → x < order.s
          → counts_split heads counts x ≡ named_split NestedFloors heads order.s order.k order.b x
      unfolding named_split
      pack-shares-are x l =
          ap (share_of (layer_at heads x))
          (ap (λ (c : List ℕ). get_or c x 0) counts-are
          ∙ get_d-five 0 (named_counts NestedFloors heads order.s order.k order.s order.b) x (omega (arith, s-le-five)))

      -- what writing asks
      pub writable : Writable base layers blocks order counts
      writable =
          let block : T (has_block layers order.s) = rw (block_held base.r layers blocks order.s fits.within.s-most) at fits.block in
          record {
            held = held;
            within = fits.within;
            is-split =
                split-congr layers order.s order.b _ (counts_split layers counts) shares-are
                (named_split-is-split NestedFloors layers order.s order.k order.b fits.within.b-most block);
          }

      placement-is : counts_placement pack order counts ≡ named_placement pack order.s order.k order.b
      unfolding named_placement
      placement-is = split_placement-congr pack order.s order.k order.b (counts_split heads counts) _ pack-shares-are

      -- the answer and the slices afterwards
      pub named-done : {out out-left : List ℕ} {answer : Result PlannedFile Refusal}
          → (answer ≡ (plan_answer (accepted (counts_placement pack order counts))).answer)
          × (out-left ≡ output_after (accepted (counts_placement pack order counts)) out)
          → PlanDone (accepted (named_placement pack order.s order.k order.b)) before after out out-left
          (record { answer = answer; counts = counts })
      unfolding named_placement split_placement
      named-done {out} written =
          let a = written.0 ∙ ap (λ (p : Placement). (plan_answer (accepted p)).answer) placement-is in
          let c = counts-are ∙ ap (five 0) (sym (sizes-are pack order.s order.k order.b)) in
          record {
            answer = λ i. record { answer = a i; counts = c i };
            work-after = (chosen.same_length, chosen.rest);
            output-after = written.1 ∙ ap (λ (p : Placement). output_after (accepted p) out) placement-is;
          }
