-- The choice of a layer, one layer after the other. Assumes nothing.
use Prim.Native.Nat.{ℕ, ◌+◌, ◌-◌, ◌≤◌, min}
use native.Mathlib.Omega.{arith}
use native.Mathlib.Numerals.{add-one}
use mathlib.Core.Path.{◌≡◌, refl, sym, ◌∙◌, ap}
use mathlib.Core.Bool.{cond}
use mathlib.Core.List.{List}
use lib.Dec.{leb}
use Rattle.packing.specs.Floors.{floors_down}
use Rattle.packing.specs.Rows.{rows_at}
use Rattle.packing.proofs.RowsAt.{length-rows_at}
use Rattle.placement.specs.Figure.{lost_by, loss}
use Rattle.placement.specs.declared.Order.{Order}
use Rattle.certify.specs.Answers.{choice_in, choice_below}
use Rattle.certify.specs.Asked.{RowsAsked}
use Rattle.certify.specs.Certify.{most_together, figure_in}
use Rattle.certify.specs.declared.Choice.{Choice}
use Rattle.certify.proofs.Highest.{highest-one, highest-next}
use Rattle.certify.proofs.Most.{most-le-length}

-- lambda is at most the number of rows, so that no product of the figure wraps
pub lambda-fits : (r c x : ℕ) (bytes : List ℕ) {lambda : ℕ} → RowsAsked r c bytes → lambda ≡ most_together x (rows_at r c bytes)
    → lambda ≤ 16_777_216
lambda-fits r c x bytes asked is =
    omega (arith, is, most-le-length x (rows_at r c bytes), length-rows_at r c bytes, asked.few)

-- one layer's lambda and figure
pub choice-made : (order : Order) (rows : List (List ℕ)) (x : ℕ) {lambda floors lost : ℕ} → lambda ≡ most_together x rows
    → floors ≡ floors_down order.k order.s x lambda → lost ≡ min order.b floors
    → ◌≡◌ {A = Choice} (record { layer = x; lambda = lambda; figure = order.b - lost }) (choice_in order rows x)
unfolding figure_in loss lost_by
choice-made order rows x is floors-are lost-is = rw (lost-is, floors-are, is) refl

-- of one layer it is that
pub choice-first : (order : Order) (rows : List (List ℕ)) {given : Choice} → given ≡ choice_in order rows 0 → given ≡ choice_below order rows 1
choice-first order rows is = is ∙ ap (choice_in order rows) (sym (highest-one (figure_in order rows)))

-- with one layer more it is the better of the two
pub choice-next : (order : Order) (rows : List (List ℕ)) (x : ℕ) {best next given : Choice} → best ≡ choice_below order rows x
    → next ≡ choice_in order rows x → given ≡ cond (leb best.figure next.figure) next best
    → given ≡ choice_below order rows (x + 1)
choice-next order rows x best-is next-is is =
    rw (add-one x)
    (is
    ∙ (λ i. cond (leb (best-is i).figure (next-is i).figure) (next-is i) (best-is i))
    ∙ highest-next (figure_in order rows) (choice_in order rows) x)
