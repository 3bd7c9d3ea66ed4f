use native.Mathlib.Omega.{arith}
use Rattle.worst.proofs.Going.{going_start, going_end, going_next}
use Rattle.worst_two.proofs.last_two.Goals as goal

pub loop-v-init : goal.loop-v-init
loop-v-init c =
    (λ less. going_start c.requires.searching, λ all. absurd (omega (arith, c.requires.searching.enough, c.requires.chosen_value)))

pub choose_two-least-requires : goal.choose_two-least-requires
choose_two-least-requires c =
    record { searching = (c.loop-v.invariant.0 (omega arith)).here; chosen_value = c.requires.chosen_value }

pub loop-v-preserved : goal.loop-v-preserved
loop-v-preserved c =
    let g = c.loop-v.invariant.0 (omega arith) in
    let two = c.choose_two-least in (
      λ less. going_next g two.ensures two.auto.hits two.auto.set two.auto.out (λ e. omega (arith, c.requires.chosen_value)),
      λ all. going_end g two.ensures two.auto.hits (omega (arith, c.requires.chosen_value)),
    )

pub returns : goal.returns
returns c = c.loop-v.invariant.1 (omega (arith, c.requires.searching.enough, c.requires.chosen_value))
