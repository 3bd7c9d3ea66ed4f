use Prim.Native.Nat.{ℕ, ◌≤◌}
use native.Mathlib.Omega.{arith}
use mathlib.Core.Path.{◌≡◌, refl, sym, ◌∙◌}
use mathlib.Core.List.{List}
use lib.ListN.{length, drop}
use Rattle.replay.specs.declared.Progress.{Progress}
use Rattle.replay.specs.Board.{rest, Standing}
use Rattle.replay.proofs.Turns.{Turn, same_next, turn_end}
use Rattle.export_replay.specs.Events.{events_of}
use Rattle.export_replay.proofs.Logged.{length-events_of, get_d-events_of}
use Rattle.export_replay.proofs.events.run.Goals as goal

-- where the walk stands, as the laws of a turn have it
abbrev turn : (times nodes downs board₀ : List ℕ) (start : Progress) (board : List ℕ) (progress : Progress) (i : ℕ)
    → length nodes ≡ length times → length downs ≡ length times → i ≤ length times → Standing progress board
    → rest start board₀ 0 (events_of times nodes downs) ≡ rest progress board i (drop i (events_of times nodes downs))
    → Turn start board₀ (events_of times nodes downs)
turn times nodes downs board₀ start board progress i en ed upto standing same =
    record { i = i; p = progress; l = board; upto = omega (arith, length-events_of times nodes downs en ed); standing = standing; same = same }

pub loop-i-init : goal.loop-i-init
loop-i-init c = (c.requires.standing, refl)

pub event_at-event-requires : goal.event_at-event-requires
event_at-event-requires c =
    (c.loop-i-test.true, omega (arith, c.loop-i-test.true, c.requires.nodes_len.0), omega (arith, c.loop-i-test.true, c.requires.nodes_len.1))

pub step-progress-requires : goal.step-progress-requires
step-progress-requires c = c.loop-i.invariant.0

pub loop-i-preserved : goal.loop-i-preserved
loop-i-preserved c =
    let log = events_of c.args.times.now c.args.nodes.now c.args.downs.now in
    let here = turn c.args.times.now c.args.nodes.now c.args.downs.now c.args.board.now c.args.start c.loop-i.board c.loop-i.progress c.loop-i.i c.requires.nodes_len.0 c.requires.nodes_len.1 (omega arith) c.loop-i.invariant.0 c.loop-i.invariant.1 in (
      c.step-progress.ensures.standing,
      same_next c.args.start c.args.board.now log here (omega (arith, c.loop-i-test.true, length-events_of c.args.times.now c.args.nodes.now c.args.downs.now c.requires.nodes_len.0 c.requires.nodes_len.1)) _
          (c.event_at-event.ensures ∙ sym (get_d-events_of c.args.times.now c.args.nodes.now c.args.downs.now c.loop-i.i c.loop-i-test.true c.requires.nodes_len.0 c.requires.nodes_len.1)) _ _ c.step-progress.ensures,
    )

pub returns : goal.returns
returns c =
    let here = turn c.args.times.now c.args.nodes.now c.args.downs.now c.args.board.now c.args.start c.loop-i.board c.loop-i.progress c.loop-i.i c.requires.nodes_len.0 c.requires.nodes_len.1 (omega arith) c.loop-i.invariant.0 c.loop-i.invariant.1 in
    turn_end c.args.start c.args.board.now (events_of c.args.times.now c.args.nodes.now c.args.downs.now) here
    (omega (arith, c.loop-i-test.false, length-events_of c.args.times.now c.args.nodes.now c.args.downs.now c.requires.nodes_len.0 c.requires.nodes_len.1))
