-- What a call's answer says of the check behind it, and a refusal that a `?` passes on. Assumes nothing.
use Rattle.std.specs.Prelude.{Result, Ok, Err}
use Rattle.std.specs.Result.{IsErrAnd}
use Rattle.std.proofs.lemmas.Result.{err_from_is_err_and}
use mathlib.Core.Path.{◌≡◌, refl, sym, ◌∙◌, ap}
use Rattle.refusal.specs.declared.Refusal.{Refusal}
use Rattle.refusal.specs.Checked.{Checked, accepted, refused, answered}

-- what leaves the function is that refusal, whatever else it would have given
pub passed-on : {T E : Type 0} (r : Result T E) {e : E} → IsErrAnd r (λ y. y ≡ e) → r ≡ Err e
passed-on r h = let p = err_from_is_err_and r h in p.1 ∙ ap Err p.2

-- a refusal comes of a refusal
pub answered-err : {A B : Type 0} (f : A → B) (m : Checked A) {r : Result B Refusal} {e : Refusal} → r ≡ answered f m → r ≡ Err e
    → m ≡ refused e
answered-err f (accepted a) is why = let v = sym is ∙ why in cc
answered-err f (refused d) is why = let v = sym is ∙ why in cc

-- a value comes of one that is accepted
pub answered-ok : {A B : Type 0} (f : A → B) (m : Checked A) {r : Result B Refusal} {b : B} → r ≡ answered f m → r ≡ Ok b
    → (a : A) × (m ≡ accepted a) × (b ≡ f a)
answered-ok f (accepted a) is good = let v = sym good ∙ is in (a, refl, cc)
answered-ok f (refused d) is good = absurd (let v = sym is ∙ good in cc)
