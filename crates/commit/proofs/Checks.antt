-- The checks of committing: when 16 is given, and what follows for committing on a pack. Assumes nothing.
use Prim.Native.Nat.{ℕ, ◌≤◌, ◌<◌}
use native.Mathlib.Omega.{arith}
use mathlib.Core.Path.{◌≡◌, refl, sym, ◌∙◌}
use mathlib.Core.Bool.{Bool, true, false}
use mathlib.Core.List.{List}
use lib.Dec.{T}
use Rattle.lists.proofs.Tests.{T_true, true-T, false-T, T-not-false}
use Rattle.refusal.specs.declared.Refusal.{Refusal}
use Rattle.refusal.specs.declared.Refusal.TheVariants.{BadCounts}
use Rattle.refusal.specs.Checked.{accepted, refused}
use Rattle.refusal.proofs.Checked.{bind-elim, require-accepted}
use Rattle.layers.specs.Layers.{heads_of}
use Rattle.layers.specs.declared.LayerHead.{LayerHead}
use Rattle.pack.specs.Pack.{Pack}
use Rattle.placement.specs.Placement.{Placement, OrderLimits}
use Rattle.placement.specs.declared.Order.{Order}
use Rattle.split.specs.Splits.{layer_at, has_block}
use Rattle.planner.specs.Planning.{check_order, check_blocks, check_output, output_needed}
use Rattle.planner.specs.Writing.{held_layers, counts_placement}
use Rattle.planner.proofs.Checks.{order-good, order-within, blocks-good, blocks-some, output-good, output-long}
use Rattle.planner.proofs.Layering.{layer_at-held}
use Rattle.commit.specs.Committing.{Taken, counts_taken, check_counts, commit_pack}
use Rattle.commit.proofs.Counts.{taken-test, test-taken}

-- layers that agree below s take the same counts
taken-agree : (heads layers : List LayerHead) (s b : ℕ) (counts : List ℕ) → ((x : ℕ) → x < s → layer_at heads x ≡ layer_at layers x)
    → Taken heads s b counts → Taken layers s b counts
taken-agree heads layers s b counts agree t =
    record {
      sum = t.sum;
      placed = λ x h. let p = t.placed x h in (p.0, rw (agree x p.0) at p.1);
    }

module _ (layers : List LayerHead) (s b : ℕ) (counts : List ℕ) where
  pub counts-good : Taken layers s b counts → check_counts layers s b counts ≡ accepted tt
  unfolding check_counts
  counts-good t = rw (taken-test layers s b counts t)

  -- refusal 16
  pub counts-bad : (Taken layers s b counts → ⊥) → check_counts layers s b counts ≡ refused BadCounts
  unfolding check_counts
  counts-bad none =
      rw (T-not-false (counts_taken layers s b counts) (λ t. none (test-taken layers s b counts (true-T _ t))))

  pub counts-passed : {u : Unit} → check_counts layers s b counts ≡ accepted u → Taken layers s b counts
  unfolding check_counts
  counts-passed e = test-taken layers s b counts (require-accepted (counts_taken layers s b counts) BadCounts e)

-- the pack's layers are those of the code's array
pub check_counts-held : (r : ℕ) (layers : List LayerHead) (blocks : List ℕ) (s b : ℕ) (counts : List ℕ) → s ≤ r
    → check_counts (heads_of (held_layers r layers blocks)) s b counts ≡ check_counts layers s b counts
check_counts-held r layers blocks s b counts h = go (counts_taken layers s b counts) refl
  where
    heads : List LayerHead
    heads = heads_of (held_layers r layers blocks)

    agree : (x : ℕ) → x < s → layer_at heads x ≡ layer_at layers x
    agree x l = layer_at-held r layers blocks x (omega arith)

    go : (t : Bool) → counts_taken layers s b counts ≡ t → check_counts heads s b counts ≡ check_counts layers s b counts
    go true e =
        let t = test-taken layers s b counts e in
        counts-good heads s b counts (taken-agree layers heads s b counts (λ x l. sym (agree x l)) t)
        ∙ sym (counts-good layers s b counts t)
    go false e =
        let none : Taken layers s b counts → ⊥ = λ t. false-T e (T_true (taken-test layers s b counts t)) in
        counts-bad heads s b counts (λ t. none (taken-agree heads layers s b counts agree t))
        ∙ sym (counts-bad layers s b counts none)

-- what passes the four checks
pub record CommitFits (pack : Pack) (order : Order) (counts : List ℕ) (output : ℕ) : Type 0 where
  pub within : OrderLimits pack.n pack.r order
  pub block : T (has_block (heads_of pack.layers) order.s)
  pub taken : Taken (heads_of pack.layers) order.s order.b counts
  pub output-fits : output_needed order.b pack.r ≤ output

-- committing on a pack is all four
module _ (pack : Pack) (order : Order) (counts : List ℕ) (output : ℕ) where
  abbrev heads : List LayerHead
  heads = heads_of pack.layers

  pub commit-fitting : CommitFits pack order counts output
      → commit_pack pack order counts output ≡ accepted (counts_placement pack order counts)
  unfolding commit_pack
  commit-fitting f =
      rw (
        order-good pack.n pack.r order f.within,
        blocks-good heads order.s (true-T (has_block heads order.s) f.block),
        counts-good heads order.s order.b counts f.taken,
        output-good order.b pack.r output f.output-fits,
      )

  -- what is committed passed every check
  pub committed-fits : {p : Placement} → commit_pack pack order counts output ≡ accepted p
      → CommitFits pack order counts output × (accepted (counts_placement pack order counts) ≡ accepted p)
  unfolding commit_pack
  committed-fits e =
      bind-elim (check_order pack.n pack.r order) _ e λ _ e₁ r₁.
      bind-elim (check_blocks heads order.s) _ r₁ λ _ e₂ r₂.
      bind-elim (check_counts heads order.s order.b counts) _ r₂ λ _ e₃ r₃.
      bind-elim (check_output order.b pack.r output) _ r₃ λ _ e₄ r₄. (
        record {
          within = order-within pack.n pack.r order e₁;
          block = blocks-some heads order.s e₂;
          taken = counts-passed heads order.s order.b counts e₃;
          output-fits = output-long order.b pack.r output e₄;
        },
        r₄,
      )

  -- the first refusal is the answer
  module _ {e : Refusal} where
    pub order-refused : check_order pack.n pack.r order ≡ refused e → commit_pack pack order counts output ≡ refused e
    unfolding commit_pack
    order-refused h = rw h

    module _ {u : Unit} (ordered : check_order pack.n pack.r order ≡ accepted u) where
      pub blocks-refused : check_blocks heads order.s ≡ refused e → commit_pack pack order counts output ≡ refused e
      unfolding commit_pack
      blocks-refused h = rw (ordered, h)

      module _ {v : Unit} (some : check_blocks heads order.s ≡ accepted v) where
        pub counts-refused : check_counts heads order.s order.b counts ≡ refused e → commit_pack pack order counts output ≡ refused e
        unfolding commit_pack
        counts-refused h = rw (ordered, some, h)

        pub output-refused : {w : Unit} → check_counts heads order.s order.b counts ≡ accepted w → check_output order.b pack.r output ≡ refused e
            → commit_pack pack order counts output ≡ refused e
        unfolding commit_pack
        output-refused taken h = rw (ordered, some, taken, h)
