-- What one read puts after the bytes counted so far is what the reader gave.
use Rattle.std.proofs.Common.{◌++◌, ◌∙◌, ap, drop, subst, sym, take}
use Rattle.std.proofs.KnownBytes.{Consumes-trans}
use Rattle.std.specs.Io.KnownBytes.{Consumes}
use Rattle.std.proofs.Math.Seq.{take-add}
use Rattle.console.proofs.read_all.Goals as goal

pub loop-count-preserved : goal.loop-count-preserved
loop-count-preserved g c =
    let more = c.read_more-more in
    let at = c.loop-count.count in
    let n = more.result.count in
    let new = more.new.buffer in
    let joined = ap (λ l. l ++ take n (drop at new)) (sym more.ensures.before) ∙ sym (take-add at n new) in
    (more.ensures.fits, subst (Consumes _ _) joined (Consumes-trans _ _ _ _ _ c.loop-count.invariant.1 more.ensures.bytes))
