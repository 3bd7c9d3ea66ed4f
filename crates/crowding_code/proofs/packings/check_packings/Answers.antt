use Prim.Native.Nat.{◌+◌, ◌*◌, ◌-◌, ◌≤◌}
use Rattle.std.specs.Prelude.{Err}
use native.Mathlib.Omega.{arith}
use mathlib.Core.Path.{◌≡◌, refl, ◌∙◌, ap}
use lib.ListN.{length, take, drop, get_or, length-drop}
use Rattle.lists.proofs.Writing.{take-drop-rest}
use Rattle.refusal.specs.declared.Refusal.TheVariants.{Crowded}
use Rattle.layers.specs.Answers.{no_head}
use Rattle.crowding_code.proofs.packings.CrowdLoop.{crowd-holds, crowd-done, crowd-fits, crowd-ordered, crowd-place, crowd-found, crowd-again}
use Rattle.crowding_code.proofs.packings.check_packings.Goals as goal

pub loop-x-init : goal.loop-x-init
loop-x-init c =
    (crowd-holds _ _ _ _ _ c.requires.packings_asked, λ first. refl)

pub slice_bounds-layer_crowded-start : goal.slice_bounds-layer_crowded-start
slice_bounds-layer_crowded-start c =
    omega (
      arith,
      (let fitting-here : let size = (get_or c.args.heads c.loop-x.x no_head).size in
          (size ≤ 4_096) × (c.loop-x.start + size * c.args.r ≤ length c.args.bytes.now) = crowd-fits _ _ _ _ _ _ _ c.loop-x.invariant.0 c.loop-x-test.true ((let held-here : c.args.layers ≤ length c.args.heads = omega (arith, c.requires.packings_asked.few, c.requires.packings_asked.r-most) in held-here)) in fitting-here),
    )

pub layer_crowded-found-requires : goal.layer_crowded-found-requires
layer_crowded-found-requires c =
    let fits = (let fitting-here : let size = (get_or c.args.heads c.loop-x.x no_head).size in
    (size ≤ 4_096) × (c.loop-x.start + size * c.args.r ≤ length c.args.bytes.now) = crowd-fits _ _ _ _ _ _ _ c.loop-x.invariant.0 c.loop-x-test.true ((let held-here : c.args.layers ≤ length c.args.heads = omega (arith, c.requires.packings_asked.few, c.requires.packings_asked.r-most) in held-here)) in fitting-here) in
    record {
      limits = (
        fits.0,
        c.requires.packings_asked.r-most,
        omega (arith, c.loop-x-test.true, c.requires.packings_asked.few),
        rw (
          (let part-here : let bytes = c.args.bytes.now in
              let start = c.loop-x.start in
              take (length bytes - start) (drop start bytes) ≡ drop start bytes = take-drop-rest c.args.bytes.now c.loop-x.start in part-here),
          length-drop,
        ) (omega arith),
      );
      order = rw ((let part-here : let bytes = c.args.bytes.now in
          let start = c.loop-x.start in
          take (length bytes - start) (drop start bytes) ≡ drop start bytes = take-drop-rest c.args.bytes.now c.loop-x.start in part-here)) (crowd-ordered _ _ _ _ _ _ _ c.loop-x.invariant.0 c.loop-x-test.true ((let held-here : c.args.layers ≤ length c.args.heads = omega (arith, c.requires.packings_asked.few, c.requires.packings_asked.r-most) in held-here)));
      counted = λ first. rw (
        (let part-here : let bytes = c.args.bytes.now in
            let start = c.loop-x.start in
            take (length bytes - start) (drop start bytes) ≡ drop start bytes = take-drop-rest c.args.bytes.now c.loop-x.start in part-here),
        c.loop-x.invariant.1 first,
        first,
      ) (c.requires.counted (omega (arith, c.loop-x-test.true)));
    }

pub row_start-requires : goal.row_start-requires
row_start-requires c =
    let fits = (let fitting-here : let size = (get_or c.args.heads c.loop-x.x no_head).size in
    (size ≤ 4_096) × (c.loop-x.start + size * c.args.r ≤ length c.args.bytes.now) = crowd-fits _ _ _ _ _ _ _ c.loop-x.invariant.0 c.loop-x-test.true ((let held-here : c.args.layers ≤ length c.args.heads = omega (arith, c.requires.packings_asked.few, c.requires.packings_asked.r-most) in held-here)) in fitting-here) in
    let place = crowd-place _ _ _ _ _ _ _ c.loop-x.invariant.0 c.loop-x-test.true ((let held-here : c.args.layers ≤ length c.args.heads = omega (arith, c.requires.packings_asked.few, c.requires.packings_asked.r-most) in held-here)) _ ((let part-here : let bytes = c.args.bytes.now in
    let start = c.loop-x.start in
    take (length bytes - start) (drop start bytes) ≡ drop start bytes = take-drop-rest c.args.bytes.now c.loop-x.start in part-here)) _
    c.layer_crowded-found.ensures c.in-Some.is in
    omega (arith, c.well_formed.0)

pub returns-in-Some : goal.returns-in-Some
returns-in-Some c =
    ap (λ place. Err (Crowded place)) c.row_start.ensures
    ∙ crowd-found _ _ _ _ _ _ _ c.loop-x.invariant.0 c.loop-x-test.true ((let held-here : c.args.layers ≤ length c.args.heads = omega (arith, c.requires.packings_asked.few, c.requires.packings_asked.r-most) in held-here)) _ ((let part-here : let bytes = c.args.bytes.now in
    let start = c.loop-x.start in
    take (length bytes - start) (drop start bytes) ≡ drop start bytes = take-drop-rest c.args.bytes.now c.loop-x.start in part-here)) _
    c.layer_crowded-found.ensures c.in-Some.is

pub overflow_mul-start : goal.overflow_mul-start
overflow_mul-start c =
    let fits = (let fitting-here : let size = (get_or c.args.heads c.loop-x.x no_head).size in
    (size ≤ 4_096) × (c.loop-x.start + size * c.args.r ≤ length c.args.bytes.now) = crowd-fits _ _ _ _ _ _ _ c.loop-x.invariant.0 c.loop-x-test.true ((let held-here : c.args.layers ≤ length c.args.heads = omega (arith, c.requires.packings_asked.few, c.requires.packings_asked.r-most) in held-here)) in fitting-here) in
    omega (arith, c.well_formed.0)

pub overflow_add-start : goal.overflow_add-start
overflow_add-start c =
    let fits = (let fitting-here : let size = (get_or c.args.heads c.loop-x.x no_head).size in
    (size ≤ 4_096) × (c.loop-x.start + size * c.args.r ≤ length c.args.bytes.now) = crowd-fits _ _ _ _ _ _ _ c.loop-x.invariant.0 c.loop-x-test.true ((let held-here : c.args.layers ≤ length c.args.heads = omega (arith, c.requires.packings_asked.few, c.requires.packings_asked.r-most) in held-here)) in fitting-here) in
    omega (arith, c.well_formed.0)

pub loop-x-preserved : goal.loop-x-preserved
loop-x-preserved c = (
  crowd-again _ _ _ _ _ _ _ c.loop-x.invariant.0 c.loop-x-test.true ((let held-here : c.args.layers ≤ length c.args.heads = omega (arith, c.requires.packings_asked.few, c.requires.packings_asked.r-most) in held-here)) _ ((let part-here : let bytes = c.args.bytes.now in
      let start = c.loop-x.start in
      take (length bytes - start) (drop start bytes) ≡ drop start bytes = take-drop-rest c.args.bytes.now c.loop-x.start in part-here)) _
      c.layer_crowded-found.ensures c.in_default.is,
  λ first. absurd (omega arith),
)

pub returns : goal.returns
returns c =
    crowd-done _ _ _ _ _ _ _ c.loop-x.invariant.0 c.loop-x-test.false
