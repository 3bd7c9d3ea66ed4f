-- `planner_order::check_blocks` meets its contract. Assumes nothing.
use Rattle.std.proofs.Common.{ℕ, ◌-◌, Bool, ltb, List, [], ◌∷◌, ◌||◌, take, ◌≡◌, refl, sym, ap, ◌∙◌, arith, rules, tests}
use Rattle.std.specs.List.{list_any}
use Rattle.std.proofs.lemmas.Iterator.{YieldsList-from_slice}
use Rattle.std.proofs.lemmas.Iterator.Search.{any_from_yields_List}
use Rattle.lists.specs.Lists.{any}
use Rattle.layers.specs.declared.LayerHead.{LayerHead}
use Rattle.refusal.specs.Checked.{verdict}
use Rattle.split.specs.Splits.{has_block}
use Rattle.planner.proofs.Checks.{blocks-none, blocks-good}
use Rattle.planner_order.proofs.check_blocks.Goals as goal

-- whether a layer has a block
abbrev some : LayerHead → Bool
some layer = ltb 0 layer.size

any-same : (layers : List LayerHead) → any some layers ≡ list_any some layers
unfolding any
any-same [] = refl
any-same (head ∷ layers) = ap (λ b. some head || b) (any-same layers)

-- what was found among the layers below s
block-found : (layers : List LayerHead) (s : ℕ) {below : List LayerHead} {found : Bool} → below ≡ take (s - 0) layers
    → found ≡ list_any some below → has_block layers s ≡ found
unfolding has_block
block-found layers s {below} e f =
    let q : s - 0 ≡ s = omega arith in
    let w = rw q at e in
    any-same (take s layers) ∙ rw (← w) (sym f)

pub returns-then-any : goal.returns-then-any
returns-then-any c =
    let found = any_from_yields_List some _ _ c.any.result c.any.ensures.ran (YieldsList-from_slice c.iter.result.rest.now refl) (λ x b q k. search (rules, tests)) in
    sym (ap verdict (blocks-good _ _ (block-found _ _ c.iter.ensures.rest found ∙ c.if-any.true)))

pub returns : goal.returns
returns c =
    let found = any_from_yields_List some _ _ c.any.result c.any.ensures.ran (YieldsList-from_slice c.iter.result.rest.now refl) (λ x b q k. search (rules, tests)) in
    sym (ap verdict (blocks-none _ _ (block-found _ _ c.iter.ensures.rest found ∙ c.if-any.false)))
