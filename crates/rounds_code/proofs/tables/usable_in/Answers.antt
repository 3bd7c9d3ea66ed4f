use Prim.Native.Nat.{ℕ, ◌+◌, ◌*◌, ◌-◌, ◌<◌}
use mathlib.Core.List.{List}
use native.Mathlib.Omega.{arith}
use mathlib.Core.Path.{◌≡◌, sym, ◌∙◌, ap, subst}
use lib.ListN.{take, drop}
use lib.Dec.{ltb}
use Rattle.lists.specs.Lists.{All, tally}
use Rattle.lists.proofs.Counts.{tally-le-suc}
use Rattle.packing.specs.Failures.{hits}
use Rattle.rounds.specs.States.{down_in}
use Rattle.rounds.proofs.Listing.{row_usable, usable-none, usable-next, usable-le, usable-all, row-nodes}
use Rattle.rounds_code.proofs.tables.usable_in.Goals as goal

-- what the row adds, cut from `at` to `at + r`
added : (rows : List ℕ) (r s state j : ℕ) → tally (ltb (hits (down_in state) (take (j * r + r - j * r) (drop (j * r) rows))) s) 0 ≡ tally (row_usable rows r s state j) 0
added rows r s state j =
    let e : j * r + r - j * r ≡ r = omega arith in
    ap (λ w. tally (ltb (hits (down_in state) (take w (drop (j * r) rows))) s) 0) e

pub loop-j-init : goal.loop-j-init
loop-j-init c = sym (usable-none c.args.rows.now c.args.r c.args.s c.args.state)

pub kept-usable-requires : goal.kept-usable-requires
kept-usable-requires c =
    let e : c.args.r ≡ c.loop-j.j * c.args.r + c.args.r - c.loop-j.j * c.args.r = omega arith in
    subst (λ w. All (λ v. v < 10) (take w (drop (c.loop-j.j * c.args.r) c.args.rows.now))) e
    (row-nodes c.args.rows.now c.args.r c.args.b c.loop-j.j c.requires c.loop-j-test.true)

pub overflow_add-usable : goal.overflow_add-usable
overflow_add-usable c =
    omega (
      arith,
      c.kept-usable.ensures ∙ added c.args.rows.now c.args.r c.args.s c.args.state c.loop-j.j,
      tally-le-suc (row_usable c.args.rows.now c.args.r c.args.s c.args.state c.loop-j.j) 0,
      usable-le c.args.rows.now c.args.r c.args.s c.args.state c.loop-j.j,
    )

pub loop-j-preserved : goal.loop-j-preserved
loop-j-preserved c =
    omega (
      arith,
      c.kept-usable.ensures ∙ added c.args.rows.now c.args.r c.args.s c.args.state c.loop-j.j,
      usable-next c.args.rows.now c.args.r c.args.s c.args.state c.loop-j.j,
    )

pub returns : goal.returns
returns c =
    c.loop-j.invariant ∙ usable-all c.args.rows.now c.args.r c.args.s c.args.state c.args.b c.loop-j.j (omega arith)
