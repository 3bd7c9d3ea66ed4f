-- Planning is asking, and then committing the counts. Assumes nothing.
use Prim.Native.Nat.{ℕ, ◌≤◌, ◌<◌}
use native.Mathlib.Omega.{arith}
use mathlib.Core.Path.{◌≡◌, refl, sym, ap}
use mathlib.Core.List.{List}
use lib.ListN.{get_or}
use lib.Dec.{T}
use Rattle.refusal.specs.Checked.{Checked, accepted, refused, ◌>>=◌}
use Rattle.refusal.proofs.Checked.{bind_congr}
use Rattle.layers.specs.Layers.{heads_of}
use Rattle.layers.specs.Answers.{five}
use Rattle.layers.specs.declared.LayerHead.{LayerHead}
use Rattle.pack.specs.Pack.{Pack, check_pack}
use Rattle.placement.specs.declared.Order.{Order}
use Rattle.placement.specs.declared.Rule.TheVariants.{NestedFloors}
use Rattle.split.specs.Splits.{Share, layer_at, share_of, counts_split, named_split, has_block}
use Rattle.split.proofs.Named.{named_split-is-split}
use Rattle.planner.specs.Planning.{named_placement, check_order, check_blocks, check_work, plan_pack, plan, work_needed}
use Rattle.planner.specs.Writing.{counts_placement}
use Rattle.planner.proofs.Checks.{order-within, blocks-some, work-good}
use Rattle.planner.proofs.Placed.{split_placement-congr}
use Rattle.planner.proofs.Planned.{accepted-good}
use Rattle.commit.specs.Asking.{named_offer, ask_layers, ask}
use Rattle.commit.specs.Committing.{Taken, commit_pack, commit}
use Rattle.commit.proofs.Counts.{split-taken}
use Rattle.commit.proofs.Fives.{get_d-five-up_to, get_d-five-past}
use Rattle.commit.proofs.Checks.{counts-good}

-- the counts that are offered are taken, and their placement is the named one
module _ (layers : List LayerHead) (order : Order) (most : order.s ≤ 5) where
  abbrev named : ℕ → Share
  named = named_split NestedFloors layers order.s order.k order.b

  abbrev offered : List ℕ
  offered = five 0 (named_offer layers order).counts

  offered-at : (x : ℕ) → x < order.s → (named x).count ≡ get_or offered x 0
  unfolding named_offer
  offered-at x h = sym (get_d-five-up_to (λ x. (named x).count) order.s x h most)

  offered-past : (x : ℕ) → order.s ≤ x → get_or offered x 0 ≡ 0
  unfolding named_offer
  offered-past x h = get_d-five-past (λ x. (named x).count) order.s x h

  pub offered-taken : order.b ≤ 4_096 → T (has_block layers order.s) → Taken layers order.s order.b offered
  offered-taken small block =
      split-taken named (named_split-is-split NestedFloors layers order.s order.k order.b small block) offered-at offered-past

  offered-shares : (x : ℕ) → x < order.s → counts_split layers offered x ≡ named x
  unfolding named_split
  offered-shares x h = ap (share_of (layer_at layers x)) (sym (offered-at x h))

pub offered-placement : (pack : Pack) (order : Order) → order.s ≤ 5
    → counts_placement pack order (five 0 (named_offer (heads_of pack.layers) order).counts)
    ≡ named_placement pack order.s order.k order.b
unfolding named_placement
offered-placement pack order most =
    split_placement-congr pack order.s order.k order.b _ _ (offered-shares (heads_of pack.layers) order most)

-- two chains of checks that begin alike
bind-bind-congr : {A B C : Type 0} (m : Checked A) (f : A → Checked C) (g : A → Checked B) (h : B → Checked C)
    → ((a : A) → m ≡ accepted a → f a ≡ (g a >>= h)) → (m >>= f) ≡ ((m >>= g) >>= h)
bind-bind-congr (accepted a) f g h same = same a refl
bind-bind-congr (refused e) f g h same = refl

-- "Asking and then committing the counts gives the bytes that planning gave", and the same refusal where planning refused
pub ask-then-commit : (bytes : List ℕ) (order : Order) (work output : ℕ)
    → plan bytes order work output
    ≡ (ask bytes order work >>= (λ offer. commit bytes order (five 0 offer.counts) output))
unfolding plan plan_pack ask ask_layers commit commit_pack
ask-then-commit bytes order work output =
    bind-bind-congr (check_pack bytes) _ _ _ λ pack e.
    bind-bind-congr (check_order pack.n pack.r order) _ _ _ λ _ e₁.
    bind-bind-congr (check_blocks (heads_of pack.layers) order.s) _ _ _ λ _ e₂.
    bind-bind-congr (check_work order work) _ _ _ λ _ e₃.
    let good = accepted-good bytes pack e in
    let within = order-within pack.n pack.r order e₁ in
    let most : order.s ≤ 5 = omega (arith, within.s-most, good.limits.base.r-most) in
    let block = blocks-some (heads_of pack.layers) order.s e₂ in
    let taken = offered-taken (heads_of pack.layers) order most within.b-most block in
    rw (e, e₁, e₂, counts-good (heads_of pack.layers) order.s order.b _ taken, offered-placement pack order most)

-- planning does not look at how much longer the working slice is than the order needs
pub plan-any-work : (bytes : List ℕ) (order : Order) (work work' output : ℕ)
    → work_needed order.s order.b ≤ work → work_needed order.s order.b ≤ work'
    → plan bytes order work output ≡ plan bytes order work' output
unfolding plan plan_pack
plan-any-work bytes order work work' output h h' =
    bind_congr (check_pack bytes) _ _ _ refl λ pack _.
    bind_congr (check_order pack.n pack.r order) _ _ _ refl λ _ _.
    bind_congr (check_blocks (heads_of pack.layers) order.s) _ _ _ refl λ _ _.
    rw (work-good order work h, work-good order work' h')
