-- A Bool as a test that passed: between `T b`, `b ≡ true` and its parts. Assumes nothing.
use mathlib.Core.Path.{◌≡◌, refl, sym, subst}
use mathlib.Core.Logic.{◌⊎◌, inl, inr}
use mathlib.Core.Bool.{Bool, true, false, not, cond, ◌&&◌, ◌||◌}
use lib.Dec.{T}

pub T_true : {b : Bool} → b ≡ true → T b
T_true e = subst T (sym e) tt

pub true-T : (b : Bool) → T b → b ≡ true
true-T true t = refl
true-T false t = absurd t

pub false-T : {b : Bool} → b ≡ false → T b → ⊥
false-T e t = subst T e t

pub T-not-false : (b : Bool) → (T b → ⊥) → b ≡ false
T-not-false true n = absurd (n tt)
T-not-false false n = refl

pub T_not : (b : Bool) → T b → not b ≡ false
T_not true t = refl
T_not false t = absurd t

-- a conjunction's parts
pub and_left : (a b : Bool) → T (a && b) → T a
and_left true b t = tt
and_left false b t = t

pub and_right : (a b : Bool) → T (a && b) → T b
and_right true b t = t
and_right false b t = absurd t

pub and_both : (a b : Bool) → T a → T b → T (a && b)
and_both true b s t = t
and_both false b s t = s

-- a disjunction's cases
pub or_left : (a b : Bool) → T a → T (a || b)
or_left true b t = tt
or_left false b t = absurd t

pub or_right : (a b : Bool) → T b → T (a || b)
or_right true b t = tt
or_right false b t = t

pub or_cases : (a b : Bool) → T (a || b) → T a ⊎ T b
or_cases true b t = inl tt
or_cases false b t = inr t

pub or-eq-false : (a b : Bool) → (a || b) ≡ false → (a ≡ false) × (b ≡ false)
or-eq-false true b e = absurd (false-T e tt)
or-eq-false false b e = (refl, e)

-- two tests that pass together are equal
pub bool-ext : (a b : Bool) → (T a → T b) → (T b → T a) → a ≡ b
bool-ext true b f g = sym (true-T b (f tt))
bool-ext false true f g = absurd (g tt)
bool-ext false false f g = refl

-- what holds of both choices holds of the choice
pub cond-elim : {A : Type 0} (P : A → Type 0) (b : Bool) {x y : A} → (b ≡ true → P x) → (b ≡ false → P y) → P (cond b x y)
cond-elim P true yes-case no-case = yes-case refl
cond-elim P false yes-case no-case = no-case refl
