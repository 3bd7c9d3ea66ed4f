use native.Mathlib.Omega.{arith}
use mathlib.Core.Path.{◌≡◌, sym, ◌∙◌, ap, subst}
use lib.ListN.{length}
use lib.Seq.{sets}
use Rattle.lists.proofs.Arith.{run-end-le}
use Rattle.page.specs.Asked.{line_at}
use Rattle.page.proofs.Joined.{joined, joined-none}
use Rattle.page.proofs.Lines.{Fit}
use Rattle.page.proofs.Page.{record-part, line-next, length-line_at}
use Rattle.page_lines.proofs.ByteFields.{length-byte_fields}
use Rattle.page_code.proofs.write_lines.Goals as goal

pub loop-i-init : goal.loop-i-init
loop-i-init c =
    joined-none (line_at c.args.bytes.now c.args.head.first c.args.head.r c.args.layers) c.args.out.now 0

pub layer_of-layer-requires : goal.layer_of-layer-requires
layer_of-layer-requires c = c.requires.0.five

pub overflow_mul-from : goal.overflow_mul-from
overflow_mul-from c =
    omega (arith, run-end-le c.args.head.r c.loop-i-test.true, c.requires.0.rows, c.well_formed.0.0)

pub overflow_add-from : goal.overflow_add-from
overflow_add-from c =
    omega (arith, run-end-le c.args.head.r c.loop-i-test.true, c.requires.0.rows, c.well_formed.0.0)

pub slice_bounds-put_record_line-end : goal.slice_bounds-put_record_line-end
slice_bounds-put_record_line-end c = sym (ap length c.put_fields.ensures ∙ length-byte_fields)

pub overflow_add-from-in-loop-i : goal.overflow_add-from-in-loop-i
overflow_add-from-in-loop-i c =
    omega (arith, run-end-le c.args.head.r c.loop-i-test.true, c.requires.0.rows, c.well_formed.0.0)

pub slice_bounds-put_record_line-end-in-loop-i : goal.slice_bounds-put_record_line-end-in-loop-i
slice_bounds-put_record_line-end-in-loop-i c =
    omega (arith, run-end-le c.args.head.r c.loop-i-test.true, c.requires.0.rows)

pub put_record_line-requires : goal.put_record_line-requires
put_record_line-requires c =
    let t = c.loop-i-test.true in (
      omega (arith, t, c.requires.0.b-most),
      omega (arith, c.layer_of-layer.ensures.1),
      omega (arith, t, c.requires.1, c.loop-i.auto.out),
      subst Fit (sym (record-part c.args.bytes.now c.args.head.first c.args.head.r c.loop-i.i)) (c.requires.0.nodes c.loop-i.i t),
      c.put_fields.ensures,
    )

pub loop-i-preserved : goal.loop-i-preserved
loop-i-preserved c =
    line-next c.args.bytes.now c.args.out.now c.args.head.first c.args.head.r c.loop-i.i c.layer_of-layer.result c.args.layers
    (λ j less. length-line_at c.args.bytes.now c.args.head c.args.layers c.args.out.now c.requires.0 j (omega (arith, less, c.loop-i-test.true)))
    c.loop-i.invariant c.layer_of-layer.ensures.0 c.put_record_line.ensures

pub returns : goal.returns
returns c =
    let all : c.loop-i.i ≡ c.args.head.b = omega arith in
    c.loop-i.invariant ∙ ap (λ n. sets c.args.out.now 0 (joined (line_at c.args.bytes.now c.args.head.first c.args.head.r c.args.layers) n)) all
