use Prim.Native.Nat.{suc, ◌+◌, ◌-◌, ◌^◌, min}
use Rattle.rounds.proofs.Moves.{pairs_to}
use Rattle.rounds.proofs.Played.{crew-start, crew-pass, crew-mend, crew-done, crew-last, held, StormOver, storm-start, storm-down, storm-inner, storm-outer, storm-skip, storm-cut, storm-done, asked-both}
use Rattle.rounds.proofs.States.{bit_le}
use Rattle.rounds.specs.States.{StateAsked, CrewGives, StormGives}
use mathlib.Core.Path.{◌≡◌, sym, ◌∙◌, subst}
use native.Mathlib.Omega.{arith}
use Rattle.rounds_players.proofs.players.+crew_storm.Goals as goal

pub crew-bounds-usable-state : goal.crew-bounds-usable-state
crew-bounds-usable-state t c =
    held c.args.usable.now c.args.n c.args.b c.args.repairs c.args.state c.requires

pub crew-returns-then-repairs-eq0 : goal.crew-returns-then-repairs-eq0
crew-returns-then-repairs-eq0 t c = λ value l.
    c.from.ensures ∙ crew-last c.args.usable.now c.args.n c.args.b c.args.repairs c.args.state c.if-repairs-eq0.true c.requires.inside value l

pub crew-loop-v-init : goal.crew-loop-v-init
crew-loop-v-init t c =
    crew-start c.args.usable.now c.args.n c.args.b (c.args.repairs - 1) c.args.state

pub crew-loop-v-preserved-then-not-is_down : goal.crew-loop-v-preserved-then-not-is_down
crew-loop-v-preserved-then-not-is_down t c =
    crew-pass c.args.usable.now c.args.n c.args.b (c.args.repairs - 1) c.args.state c.loop-v.v c.loop-v.most
    (sym c.is_down.ensures ∙ c.if-not-is_down.true) c.loop-v.invariant

pub crew-overflow_sub-back : goal.crew-overflow_sub-back
crew-overflow_sub-back t c =
    omega (arith, c.bit.ensures, bit_le c.args.state c.loop-v.v (sym c.is_down.ensures ∙ c.if-not-is_down.false))

pub crew-loop-v-preserved : goal.crew-loop-v-preserved
crew-loop-v-preserved t c = λ value l.
    let given = subst (λ w. StormGives c.args.usable.now c.args.n c.args.b (c.args.repairs - 1) (c.args.state - w) c.storm-given.result) c.bit.ensures c.storm-given.ensures in
    let h = crew-mend c.args.usable.now c.args.n c.args.b (c.args.repairs - 1) c.args.state c.loop-v.v c.loop-v.most c.storm-given.result (sym c.is_down.ensures ∙ c.if-not-is_down.false) given c.loop-v.invariant value l in
    cc

pub crew-returns : goal.crew-returns
crew-returns t c =
    crew-done c.args.usable.now c.args.n c.args.b c.args.repairs c.args.state c.loop-v.v c.loop-v.most (omega arith)
    (omega (arith, c.if-repairs-eq0.false)) c.loop-v.invariant

pub storm-loop-v-init : goal.storm-loop-v-init
storm-loop-v-init t c = storm-start c.args.usable.now c.args.n c.args.b c.args.repairs c.args.state

pub storm-loop-v-preserved-then-is_down : goal.storm-loop-v-preserved-then-is_down
storm-loop-v-preserved-then-is_down t c =
    storm-skip c.args.usable.now c.args.n c.args.b c.args.repairs c.args.state c.loop-v.v c.loop-v.fewest
    (sym c.is_down.ensures ∙ c.if-is_down.true) c.loop-v.invariant

pub storm-loop-u-init : goal.storm-loop-u-init
storm-loop-u-init t c =
    storm-inner c.args.usable.now c.args.n c.args.b c.args.repairs c.args.state c.loop-v.v c.loop-v.fewest c.loop-v.invariant

pub storm-loop-u-preserved-then-is_down-2 : goal.storm-loop-u-preserved-then-is_down-2
storm-loop-u-preserved-then-is_down-2 t c =
    let e : suc c.loop-u.u ≡ c.loop-u.u + 1 = omega arith in
    subst (λ u. StormOver c.args.usable.now c.args.n c.args.b c.args.repairs c.args.state (pairs_to c.loop-v.v u) c.loop-u.fewest) e
    (storm-down c.args.usable.now c.args.n c.args.b c.args.repairs c.args.state c.loop-v.v c.loop-u.u c.loop-u.fewest
    (sym c.is_down-in-loop-u.ensures ∙ c.if-is_down-2.true) c.loop-u.invariant)

pub storm-crew-given-requires : goal.storm-crew-given-requires
storm-crew-given-requires t c = (
  omega (arith, c.decreases),
  subst (λ w. StateAsked c.args.usable.now c.args.n (c.args.state + c.bit.result + w)) (sym c.bit-in-loop-u.ensures)
      (subst (λ w. StateAsked c.args.usable.now c.args.n (c.args.state + w + 2 ^ c.loop-u.u)) (sym c.bit.ensures)
      (asked-both c.args.usable.now c.args.n c.args.b c.args.repairs c.args.state c.loop-v.v c.loop-u.u c.requires
      c.loop-u-test.true c.loop-v-test.true (sym c.is_down.ensures ∙ c.if-is_down.false) (sym c.is_down-in-loop-u.ensures ∙ c.if-is_down-2.false))),
)

pub storm-loop-u-preserved : goal.storm-loop-u-preserved
storm-loop-u-preserved t c =
    let v = c.loop-v.v in
    let u = c.loop-u.u in
    let e : suc u ≡ u + 1 = omega arith in
    let gives : CrewGives c.args.usable.now c.args.n c.args.b c.args.repairs (c.args.state + 2 ^ v + 2 ^ u) c.crew-given.result =
    subst (λ w. CrewGives c.args.usable.now c.args.n c.args.b c.args.repairs (c.args.state + w + 2 ^ u) c.crew-given.result) c.bit.ensures
    (subst (λ w. CrewGives c.args.usable.now c.args.n c.args.b c.args.repairs (c.args.state + c.bit.result + w) c.crew-given.result)
    c.bit-in-loop-u.ensures c.crew-given.ensures) in
    let h = subst (λ w. StormOver c.args.usable.now c.args.n c.args.b c.args.repairs c.args.state (pairs_to v w) (min c.loop-u.fewest c.crew-given.result)) e
    (storm-cut c.args.usable.now c.args.n c.args.b c.args.repairs c.args.state v u c.loop-u.fewest c.crew-given.result
    c.loop-u-test.true (sym c.is_down.ensures ∙ c.if-is_down.false) (sym c.is_down-in-loop-u.ensures ∙ c.if-is_down-2.false) gives c.loop-u.invariant) in
    λ value l. c.min-fewest.ensures ∙ h value l

pub storm-loop-v-preserved : goal.storm-loop-v-preserved
storm-loop-v-preserved t c =
    storm-outer c.args.usable.now c.args.n c.args.b c.args.repairs c.args.state c.loop-v.v c.loop-u.u c.loop-u.fewest
    (omega arith) c.loop-u.invariant

pub storm-returns : goal.storm-returns
storm-returns t c =
    storm-done c.args.usable.now c.args.n c.args.b c.args.repairs c.args.state c.loop-v.v c.loop-v.fewest
    (omega arith) c.loop-v.invariant
