-- `page_lines::fields::put_blanks` meets its contract. Assumes nothing.
use Prim.Native.Nat.{◌+◌, ◌-◌}
use mathlib.Core.Path.{◌≡◌, sym, ◌∙◌, ap}
use lib.ListN.{length, take, drop, length-replicate, length-take, length-drop}
use native.Mathlib.Omega.{arith}
use Rattle.page.specs.Field.{blanks}
use Rattle.page_lines.proofs.Part.{put-part}
use Rattle.page_lines.proofs.fields.put_blanks.Goals as goal

pub returns : goal.returns
returns c =
    let wide : length (take (c.args.at + c.args.count - c.args.at) (drop c.args.at c.args.out.now)) ≡ c.args.count = omega (arith, length-take (c.args.at + c.args.count - c.args.at) (drop c.args.at c.args.out.now), length-drop c.args.at c.args.out.now) in
    let filled = c.fill.ensures.after (λ y e. e) ∙ ap blanks wide in
    rw filled (put-part c.args.out.now (blanks c.args.count) c.args.at c.args.count (sym (length-replicate c.args.count 32)) c.requires)
