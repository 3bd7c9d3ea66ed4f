-- `placement_code::check_loaded` meets its contract: each return is a case of `read_placement`, over what reading the
-- numbers, checking the rows and the figure ensure. Assumes nothing.
use native.Mathlib.Omega.{arith}
use mathlib.Core.Path.{refl, ◌∙◌}
use Rattle.refusal.proofs.Answered.{answered-err, answered-ok}
use Rattle.layers.specs.Layers.{read_base, read_layers}
use Rattle.layers.specs.declared.FileKind.TheVariants.{Placement as PlacementKind}
use Rattle.layers.proofs.Answered.{base-good}
use Rattle.placement.specs.Placement.{read_terms, check_records}
use Rattle.placement.proofs.Answered.{terms-good}
use Rattle.placement_code.proofs.Checking.{is-ok, handed-refused, handed-on, order-limits, numbers-good, placement-rows-asked, figure-asked, placement-no-base, no-terms, placement-no-layers, placement-no-rows, wrong-figure, right-figure}
use Rattle.placement_code.proofs.check_loaded.Goals as goal

pub returns-in-Err : goal.returns-in-Err
returns-in-Err c =
    let w = handed-refused c.refuse.ensures
    (placement-no-base _ (answered-err _ (read_base PlacementKind _) c.read_base.ensures c.in-Err.is)) in
    record { check_value = w.0; handed = w.1 }

pub read_terms-requires : goal.read_terms-requires
read_terms-requires c = omega (arith, (base-good PlacementKind _ c.read_base.ensures c.in-Ok.is).held.limits.n-least)

pub returns-in-Err-read_terms : goal.returns-in-Err-read_terms
returns-in-Err-read_terms c =
    let head = base-good PlacementKind _ c.read_base.ensures c.in-Ok.is in
    let w = handed-refused c.refuse-in-Err-read_terms.ensures
    (no-terms _ head.accepts (answered-err _ (read_terms _ _ _) c.read_terms.ensures c.in-Err-read_terms.is)) in
    record { check_value = w.0; handed = w.1 }

pub read_layers-requires : goal.read_layers-requires
read_layers-requires c =
    let head = base-good PlacementKind _ c.read_base.ensures c.in-Ok.is in
    let terms = terms-good _ c.read_terms.ensures c.in-Ok-read_terms.is in
    let limits = order-limits _ head.accepts terms in
    omega (arith, limits.1.s-most, limits.0.r-most)

pub returns-in-Err-read_layers : goal.returns-in-Err-read_layers
returns-in-Err-read_layers c =
    let head = base-good PlacementKind _ c.read_base.ensures c.in-Ok.is in
    let terms = terms-good _ c.read_terms.ensures c.in-Ok-read_terms.is in
    let w = handed-refused c.refuse-in-Err-read_layers.ensures
    (placement-no-layers _ head.accepts terms (answered-err _ (read_layers _ _ _ _ _) c.read_layers.ensures c.in-Err-read_layers.is)) in
    record { check_value = w.0; handed = w.1 }

pub check_records-loaded-requires : goal.check_records-loaded-requires
check_records-loaded-requires c =
    let head = base-good PlacementKind _ c.read_base.ensures c.in-Ok.is in
    let terms = terms-good _ c.read_terms.ensures c.in-Ok-read_terms.is in
    let numbers = numbers-good _ head.accepts terms c.read_layers.ensures c.in-Ok-read_layers.is in
    placement-rows-asked _ head.accepts terms numbers refl head.fits

pub returns-in-Err-records : goal.returns-in-Err-records
returns-in-Err-records c =
    let head = base-good PlacementKind _ c.read_base.ensures c.in-Ok.is in
    let terms = terms-good _ c.read_terms.ensures c.in-Ok-read_terms.is in
    let numbers = numbers-good _ head.accepts terms c.read_layers.ensures c.in-Ok-read_layers.is in
    let w = handed-refused c.refuse-in-Err-records.ensures
    (placement-no-rows _ head.accepts terms numbers
    (answered-err _ (check_records _ _ _ _ _ _) c.check_records-loaded.ensures.records_value c.in-Err-records.is)) in
    record { check_value = w.0; handed = w.1 }

pub figure_of-requires : goal.figure_of-requires
figure_of-requires c =
    let head = base-good PlacementKind _ c.read_base.ensures c.in-Ok.is in
    let terms = terms-good _ c.read_terms.ensures c.in-Ok-read_terms.is in
    let w = figure-asked _ head.accepts terms (numbers-good _ head.accepts terms c.read_layers.ensures c.in-Ok-read_layers.is) in
    record { s_bound = w.0; all = w.1 }

pub returns-then-t-figure_of : goal.returns-then-t-figure_of
returns-then-t-figure_of c =
    let head = base-good PlacementKind _ c.read_base.ensures c.in-Ok.is in
    let terms = terms-good _ c.read_terms.ensures c.in-Ok-read_terms.is in
    let numbers = numbers-good _ head.accepts terms c.read_layers.ensures c.in-Ok-read_layers.is in
    let (rows, taken, table) = answered-ok _ (check_records _ _ _ _ _ _) c.check_records-loaded.ensures.records_value c.in-Ok-records.is in
    let w = handed-refused c.refuse-then-t-figure_of.ensures
    (wrong-figure _ head.accepts terms numbers taken (c.figure_of.ensures ∙ rw c.rule_of-rule.ensures refl) c.if-t-figure_of.true) in
    record { check_value = w.0; handed = w.1 }

pub returns : goal.returns
returns c =
    let head = base-good PlacementKind _ c.read_base.ensures c.in-Ok.is in
    let terms = terms-good _ c.read_terms.ensures c.in-Ok-read_terms.is in
    let numbers = numbers-good _ head.accepts terms c.read_layers.ensures c.in-Ok-read_layers.is in
    let (rows, taken, table) = answered-ok _ (check_records _ _ _ _ _ _) c.check_records-loaded.ensures.records_value c.in-Ok-records.is in
    let limits = order-limits _ head.accepts terms in
    record {
      check_value = right-figure _ head.accepts terms numbers taken (c.figure_of.ensures ∙ rw c.rule_of-rule.ensures refl) c.if-t-figure_of.false head.array table;
      handed = handed-on _ _ refl (λ fed. c.check_records-loaded.ensures.load_value (is-ok c.in-Ok-records.is) fed limits.1.s-least);
    }
