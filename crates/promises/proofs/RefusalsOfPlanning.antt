-- Document 01's table of refusals for planning: "Planning checks the pack, then 12, 9, 10, 11." Each is given exactly where its
-- condition holds and none of those before it does, with its place. Assumes nothing.
use Prim.Native.Nat.{ℕ, zero, suc, ◌+◌, ◌*◌, ◌≤◌, ◌<◌}
use native.Mathlib.Omega.{arith}
use native.Mathlib.Nat.{not-suc-le-zero, le_of_suc-le-suc}
use mathlib.Core.Path.{◌≡◌, refl, sym, ◌∙◌, ap, subst}
use mathlib.Core.Logic.{◌↔◌, ◌⊎◌, inl, inr}
use mathlib.Core.Bool.{Bool, true, false}
use mathlib.Core.List.{List, [], ◌∷◌}
use lib.ListN.{length}
use lib.Dec.{ltb}
use borrow.Author.Tests.{ltb-true, ltb-false}
use Rattle.lists.specs.Lists.{any}
use Rattle.lists.proofs.Arith.{le-or-lt}
use Rattle.lists.proofs.Tests.{T_true}
use Rattle.refusal.specs.declared.Refusal.{Refusal}
use Rattle.refusal.specs.declared.Refusal.TheVariants.{BadOrder, NoBlock, ShortWork, ShortOutput}
use Rattle.refusal.specs.Refusals.{number_of, place_of, refusal}
use Rattle.refusal.specs.Checked.{Checked, accepted, refused}
use Rattle.refusal.proofs.Checked.{refused-not-accepted}
use Rattle.layers.specs.Layers.{Layer, Located, blocks_at, heads_of}
use Rattle.layers.specs.declared.LayerHead.{LayerHead}
use Rattle.pack.specs.Pack.{Pack, read_pack, check_pack}
use Rattle.pack.specs.Answers.{pack_checked, pack_outcome}
use Rattle.placement.specs.Placement.{Placement, OrderLimits}
use Rattle.placement.specs.declared.Order.{Order}
use Rattle.split.specs.Splits.{has_block}
use Rattle.planner.specs.Planning.{check_order, named_placement, plan_pack, plan}
use Rattle.planner.specs.Answers.{PlanDone, plan_outcome}
use Rattle.planner.specs.declared.PlanResult.{PlanResult}
use Rattle.planner.proofs.Checks.{s-low, s-high, k-low, k-high, b-low, b-high, order-good, blocks-none, blocks-good, work-short, work-good, output-short, plan-fitting, order-refused, blocks-refused, work-refused, output-refused}
use Rattle.promises.proofs.Says.{not-both}

-- "no block in any layer below s", and a block in some
abbrev pub NoneBelow : List Layer → (s : ℕ) → Type 0
NoneBelow layers s = (x : ℕ) → x < s → length (blocks_at layers x).rows ≡ 0

abbrev pub SomeBelow : List Layer → (s : ℕ) → Type 0
SomeBelow layers s = (x : ℕ) × (x < s) × (0 < length (blocks_at layers x).rows)

-- Planning on this pack is refused with e. `OrderLimits` are document 01's: "s 1..r; k s..n-1; b 1..4,096".
pub data PlanRefused (pack : Pack) (s k b work output : ℕ) (e : Refusal) : Type 0 where
  -- 12, "s, k or b outside limits": "0, 1 or 2 in that order"
  s-outside : e ≡ BadOrder 0 → (s < 1) ⊎ (pack.r < s) → PlanRefused pack s k b work output e
  k-outside : e ≡ BadOrder 1 → 1 ≤ s → s ≤ pack.r → (k < s) ⊎ (pack.n ≤ k) → PlanRefused pack s k b work output e
  b-outside : e ≡ BadOrder 2 → 1 ≤ s → s ≤ pack.r → s ≤ k → k < pack.n → (b < 1) ⊎ (4_096 < b)
      → PlanRefused pack s k b work output e
  -- 9, "no block in any layer below s": 0
  no_block : e ≡ NoBlock → OrderLimits pack.n pack.r (record { s = s; k = k; b = b }) → NoneBelow pack.layers s
      → PlanRefused pack s k b work output e
  -- 10, "working slice too short": "entries needed"
  work-outrun : e ≡ ShortWork (s * suc b) → OrderLimits pack.n pack.r (record { s = s; k = k; b = b })
      → SomeBelow pack.layers s
      → work < s * suc b
      → PlanRefused pack s k b work output e
  -- 11, "output too short": "bytes needed", by (h) 448 + b × r
  output-outrun : e ≡ ShortOutput (448 + b * pack.r) → OrderLimits pack.n pack.r (record { s = s; k = k; b = b })
      → SomeBelow pack.layers s
      → s * suc b ≤ work
      → output < 448 + b * pack.r
      → PlanRefused pack s k b work output e

-- planning on this pack is not refused
pub record PlanTaken (pack : Pack) (s k b work output : ℕ) : Type 0 where
  pub within : OrderLimits pack.n pack.r (record { s = s; k = k; b = b })
  pub block : SomeBelow pack.layers s
  pub work-fits : s * suc b ≤ work
  pub output-fits : 448 + b * pack.r ≤ output

-- a check gives one refusal
refused-injective : {d e : Refusal} → ◌≡◌ {A = Checked Placement} (refused d) (refused e) → d ≡ e
refused-injective p = cc

-- what the test of refusal 9 finds
some_below : (layers : List Layer) (s : ℕ) → has_block (heads_of layers) s ≡ true → SomeBelow layers s
unfolding has_block any
some_below [] zero e = absurd (let z : ◌≡◌ {A = ℕ} 0 1 = cc in omega arith)
some_below [] (suc s) e = absurd (let z : ◌≡◌ {A = ℕ} 0 1 = cc in omega arith)
some_below (layer ∷ layers) zero e = absurd (let z : ◌≡◌ {A = ℕ} 0 1 = cc in omega arith)
some_below (layer ∷ layers) (suc s) e = go (ltb 0 (length layer.rows)) refl (λ later. some_below layers s later)
  where
    go : (b : Bool) → ltb 0 (length layer.rows) ≡ b → (has_block (heads_of layers) s ≡ true → SomeBelow layers s)
        → SomeBelow (layer ∷ layers) (suc s)
    go true is later = (0, omega arith, ltb-true 0 (length layer.rows) is)
    go false is later = let (x, below, some) = later (rw is at e) in (suc x, omega arith, some)

none_below : (layers : List Layer) (s : ℕ) → has_block (heads_of layers) s ≡ false → NoneBelow layers s
unfolding has_block any
none_below [] s e x below = refl
none_below (layer ∷ layers) zero e x below = absurd (not-suc-le-zero below)
none_below (layer ∷ layers) (suc s) e x below = go (ltb 0 (length layer.rows)) refl x below (λ later. none_below layers s later)
  where
    go : (b : Bool) → ltb 0 (length layer.rows) ≡ b → (y : ℕ) → y < suc s
        → (has_block (heads_of layers) s ≡ false → NoneBelow layers s)
        → length (blocks_at (layer ∷ layers) y).rows ≡ 0
    go true is y h later = absurd (let f = rw is at e in let z : ◌≡◌ {A = ℕ} 0 1 = cc in omega arith)
    go false is zero h later = omega (arith, ltb-false 0 (length layer.rows) is)
    go false is (suc y) h later = later (rw is at e) y (le_of_suc-le-suc h)

module _ (pack : Pack) (s k b work output : ℕ) where
  abbrev asked : Order
  asked = record { s = s; k = k; b = b }

  abbrev heads : List LayerHead
  heads = heads_of pack.layers

  -- the test says which of the two it is
  unpassed : NoneBelow pack.layers s → has_block heads s ≡ false
  unpassed none = go (has_block heads s) refl
    where
      go : (t : Bool) → has_block heads s ≡ t → has_block heads s ≡ false
      go true is = let (x, below, some) = some_below pack.layers s is in absurd (omega (arith, none x below))
      go false is = is

  passed : SomeBelow pack.layers s → has_block heads s ≡ true
  passed (x, below, some) = go (has_block heads s) refl
    where
      go : (t : Bool) → has_block heads s ≡ t → has_block heads s ≡ true
      go true is = is
      go false is = absurd (omega (arith, none_below pack.layers s is x below))

  -- each case is what planning gives
  s-wrong : (s < 1) ⊎ (pack.r < s) → check_order pack.n pack.r asked ≡ refused (BadOrder 0)
  s-wrong (inl low) = s-low pack.n pack.r asked low
  s-wrong (inr high) = s-high pack.n pack.r asked (omega arith) high

  k-wrong : 1 ≤ s → s ≤ pack.r → (k < s) ⊎ (pack.n ≤ k) → check_order pack.n pack.r asked ≡ refused (BadOrder 1)
  k-wrong least most (inl low) = k-low pack.n pack.r asked least most low
  k-wrong least most (inr high) = go (le-or-lt s k)
    where
      go : (s ≤ k) ⊎ (k < s) → check_order pack.n pack.r asked ≡ refused (BadOrder 1)
      go (inl from) = k-high pack.n pack.r asked least most from high
      go (inr low) = k-low pack.n pack.r asked least most low

  b-wrong : 1 ≤ s → s ≤ pack.r → s ≤ k → k < pack.n → (b < 1) ⊎ (4_096 < b)
      → check_order pack.n pack.r asked ≡ refused (BadOrder 2)
  b-wrong least most from below (inl low) = b-low pack.n pack.r asked least most from below low
  b-wrong least most from below (inr high) = b-high pack.n pack.r asked least most from below (omega arith) high

  refuses : {e : Refusal} → PlanRefused pack s k b work output e → plan_pack pack asked work output ≡ refused e
  refuses (s-outside is outside) = order-refused pack asked work output (s-wrong outside) ∙ ap refused (sym is)
  refuses (k-outside is least most outside) = order-refused pack asked work output (k-wrong least most outside) ∙ ap refused (sym is)
  refuses (b-outside is least most from below outside) =
      order-refused pack asked work output (b-wrong least most from below outside) ∙ ap refused (sym is)
  refuses (no_block is within none) =
      blocks-refused pack asked work output (order-good pack.n pack.r asked within) (blocks-none heads s (unpassed none))
      ∙ ap refused (sym is)
  refuses (work-outrun is within some short) =
      work-refused pack asked work output (order-good pack.n pack.r asked within) (blocks-good heads s (passed some))
      (work-short asked work short)
      ∙ ap refused (sym is)
  refuses (output-outrun is within some long short) =
      output-refused pack asked work output (order-good pack.n pack.r asked within) (blocks-good heads s (passed some))
      (work-good asked work long) (output-short b pack.r output short)
      ∙ ap refused (sym is)

  takes : PlanTaken pack s k b work output → plan_pack pack asked work output ≡ accepted (named_placement pack s k b)
  takes t =
      plan-fitting pack asked work output
      (record {
        within = t.within;
        block = T_true (passed t.block);
        work-fits = t.work-fits;
        output-fits = t.output-fits;
      })

  -- and one of them is met
  abbrev Met : Type 0
  Met = PlanTaken pack s k b work output ⊎ ((e : Refusal) × PlanRefused pack s k b work output e)

  met : Met
  met = order (le-or-lt 1 s) (le-or-lt s pack.r) (le-or-lt s k) (le-or-lt pack.n k) (le-or-lt 1 b) (le-or-lt b 4_096)
    where
      slices : OrderLimits pack.n pack.r asked → SomeBelow pack.layers s → (s * suc b ≤ work) ⊎ (work < s * suc b)
          → (448 + b * pack.r ≤ output) ⊎ (output < 448 + b * pack.r)
          → Met
      slices within some (inr short) out = inr (ShortWork (s * suc b), work-outrun refl within some short)
      slices within some (inl long) (inr short) = inr (ShortOutput (448 + b * pack.r), output-outrun refl within some long short)
      slices within some (inl long) (inl fits) =
          inl (record { within = within; block = some; work-fits = long; output-fits = fits })

      blocks : OrderLimits pack.n pack.r asked → (t : Bool) → has_block heads s ≡ t → Met
      blocks within true is =
          slices within (some_below pack.layers s is) (le-or-lt (s * suc b) work) (le-or-lt (448 + b * pack.r) output)
      blocks within false is = inr (NoBlock, no_block refl within (none_below pack.layers s is))

      order : (1 ≤ s) ⊎ (s < 1) → (s ≤ pack.r) ⊎ (pack.r < s) → (s ≤ k) ⊎ (k < s) → (pack.n ≤ k) ⊎ (k < pack.n)
          → (1 ≤ b) ⊎ (b < 1)
          → (b ≤ 4_096) ⊎ (4_096 < b)
          → Met
      order (inr low) b₁ c₀ c₁ d₀ d₁ = inr (BadOrder 0, s-outside refl (inl low))
      order (inl a₀) (inr high) c₀ c₁ d₀ d₁ = inr (BadOrder 0, s-outside refl (inr high))
      order (inl a₀) (inl a₁) (inr low) c₁ d₀ d₁ = inr (BadOrder 1, k-outside refl a₀ a₁ (inl low))
      order (inl a₀) (inl a₁) (inl c₀) (inl high) d₀ d₁ = inr (BadOrder 1, k-outside refl a₀ a₁ (inr high))
      order (inl a₀) (inl a₁) (inl c₀) (inr c₁) (inr low) d₁ = inr (BadOrder 2, b-outside refl a₀ a₁ c₀ c₁ (inl low))
      order (inl a₀) (inl a₁) (inl c₀) (inr c₁) (inl d₀) (inr high) = inr (BadOrder 2, b-outside refl a₀ a₁ c₀ c₁ (inr high))
      order (inl a₀) (inl a₁) (inl c₀) (inr c₁) (inl d₀) (inl d₁) =
          blocks (record { s-least = a₀; s-most = a₁; k-least = c₀; k-most = c₁; b-least = d₀; b-most = d₁ }) (has_block heads s) refl

  refused-iff : (e : Refusal) → (plan_pack pack asked work output ≡ refused e) ↔ PlanRefused pack s k b work output e
  refused-iff e = (λ p. to met p, refuses)
    where
      to : Met → plan_pack pack asked work output ≡ refused e → PlanRefused pack s k b work output e
      to (inl taken) p = absurd (refused-not-accepted (sym p ∙ takes taken))
      to (inr (why, h)) p = subst (PlanRefused pack s k b work output) (refused-injective (sym (refuses h) ∙ p)) h

  taken-iff : (plan_pack pack asked work output ≡ accepted (named_placement pack s k b)) ↔ PlanTaken pack s k b work output
  taken-iff = (λ p. to met p, takes)
    where
      to : Met → plan_pack pack asked work output ≡ accepted (named_placement pack s k b) → PlanTaken pack s k b work output
      to (inl taken) p = taken
      to (inr (why, h)) p = absurd (refused-not-accepted (sym (refuses h) ∙ p))

-- Planning from an accepted pack: 12, 9, 10 and 11, each exactly where its condition holds and none of those before it does
pub refusals-of-planning : (bytes : List ℕ) (pack : Pack) → check_pack bytes ≡ accepted pack → (s k b work output : ℕ) (e : Refusal)
    → (plan bytes (record { s = s; k = k; b = b }) work output ≡ refused e) ↔ PlanRefused pack s k b work output e
unfolding plan
refusals-of-planning bytes pack is s k b work output e = rw is (refused-iff pack s k b work output e)

-- "else it is not refused": the named placement is given exactly where no condition holds
pub planning-not-refused : (bytes : List ℕ) (pack : Pack) → check_pack bytes ≡ accepted pack → (s k b work output : ℕ)
    → (plan bytes (record { s = s; k = k; b = b }) work output ≡ accepted (named_placement pack s k b))
    ↔ PlanTaken pack s k b work output
unfolding plan
planning-not-refused bytes pack is s k b work output = rw is (taken-iff pack s k b work output)

-- "Planning checks the pack" first: a pack that is not accepted gives its refusal, whatever s, k, b and the slices are
pub planning-pack-first : (bytes : List ℕ) (e : Refusal) → check_pack bytes ≡ refused e → (order : Order) (work output : ℕ)
    → plan bytes order work output ≡ refused e
unfolding plan
planning-pack-first bytes e is order work output = rw is

-- the same of the call: it answers the refusal's number and place, and both slices are as they were
pub planning-call-refused : (bytes : List ℕ) (pack : Pack) → check_pack bytes ≡ accepted pack
    → (s k b : ℕ) (work work-left out out-left : List ℕ) (given : PlanResult) (e : Refusal)
    → PlanDone (plan bytes (record { s = s; k = k; b = b }) (length work) (length out)) work work-left out out-left given
    → PlanRefused pack s k b (length work) (length out) e
    → (plan_outcome given ≡ refusal (number_of e) (place_of e)) × (work-left ≡ work) × (out-left ≡ out)
planning-call-refused bytes pack is s k b work work-left out out-left given e done h =
    let d : PlanDone (refused e) work work-left out out-left given =
    subst (λ m. PlanDone m work work-left out out-left given) ((refusals-of-planning bytes pack is s k b (length work) (length out) e).1 h) done in
    (ap plan_outcome d.answer, d.work-after, d.output-after)

pub planning-call-pack-first : (bytes : List ℕ) (order : Order) (work work-left out out-left : List ℕ) (given : PlanResult) {number place : ℕ}
    → PlanDone (plan bytes order (length work) (length out)) work work-left out out-left given
    → pack_outcome (pack_checked (read_pack bytes)) ≡ refusal number place
    → (plan_outcome given ≡ refusal number place) × (work-left ≡ work) × (out-left ≡ out)
unfolding check_pack
planning-call-pack-first bytes order work work-left out out-left given {number} {place} done says = go (read_pack bytes) refl says
  where
    go : (c : Checked (Located Pack)) → read_pack bytes ≡ c → pack_outcome (pack_checked c) ≡ refusal number place
        → (plan_outcome given ≡ refusal number place) × (work-left ≡ work) × (out-left ≡ out)
    go (accepted file) is p = absurd (not-both (sym p))
    go (refused e) is p =
        let bad : check_pack bytes ≡ refused e = rw is in
        let d : PlanDone (refused e) work work-left out out-left given =
        subst (λ m. PlanDone m work work-left out out-left given) (planning-pack-first bytes e bad order (length work) (length out)) done in
        (ap plan_outcome d.answer ∙ p, d.work-after, d.output-after)
