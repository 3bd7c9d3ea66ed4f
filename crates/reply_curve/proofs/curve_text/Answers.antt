-- `reply_curve::curve_text` meets its contract: the lines of the call's figures, or of its refusal. Assumes nothing.
use mathlib.Core.Path.{refl}
use Rattle.reply_curve.proofs.Curve.{curve-refused, curve-found}
use Rattle.reply_curve.proofs.curve_text.Goals as goal

pub slice_bounds-put_figures-end : goal.slice_bounds-put_figures-end
slice_bounds-put_figures-end c =
    (curve-found _ c.curve-writing.ensures c.order_of-order.ensures refl c.in-Ok.is).inside

pub put_figures-requires : goal.put_figures-requires
put_figures-requires c =
    let found = curve-found _ c.curve-writing.ensures c.order_of-order.ensures refl c.in-Ok.is in
    record { k_bound = found.s-most; figures_len_bound = found.few; curve_needed_in_bounds = c.requires }

pub returns-in-Err : goal.returns-in-Err
returns-in-Err c =
    rw (curve-refused _ c.curve-writing.ensures c.in-Err.is) c.refused_line.ensures

pub returns-in-Ok : goal.returns-in-Ok
returns-in-Ok c =
    rw (curve-found _ c.curve-writing.ensures c.order_of-order.ensures refl c.in-Ok.is).text c.put_figures.ensures
