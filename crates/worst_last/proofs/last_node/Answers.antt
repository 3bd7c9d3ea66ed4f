use native.Mathlib.Omega.{arith}
use mathlib.Core.Path.{refl}
use Rattle.worst.proofs.Steps.{chosen_last}
use Rattle.worst.proofs.Going.{going_start, going_end, going_next}
use Rattle.worst_last.proofs.last_node.Goals as goal

pub loop-v-init : goal.loop-v-init
loop-v-init c = (λ less. going_start c.requires.searching, λ all. absurd (omega (arith, c.requires.searching.below)))

pub choose_last-least-requires : goal.choose_last-least-requires
choose_last-least-requires c =
    record { searching = (c.loop-v.invariant.0 (omega arith)).here; chosen_value = c.requires.chosen_value }

pub loop-v-preserved : goal.loop-v-preserved
loop-v-preserved c =
    let g = c.loop-v.invariant.0 (omega arith) in
    let chosen = chosen_last g.here c.choose_last-least.ensures c.requires.chosen_value in (
      λ less. going_next g chosen refl c.choose_last-least.auto.set c.choose_last-least.auto.out (λ e. omega (arith, c.requires.chosen_value)),
      λ all. going_end g chosen refl (omega (arith, c.requires.chosen_value)),
    )

pub returns : goal.returns
returns c = c.loop-v.invariant.1 (omega (arith, c.requires.searching.below))
