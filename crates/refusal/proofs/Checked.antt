-- Laws of the order of checks: what is accepted has passed every check. Assumes nothing.
use Rattle.std.specs.Prelude.{⊤, Result, Ok, Err}
use mathlib.Core.Path.{◌≡◌, refl, ◌∙◌, ap}
use mathlib.Core.Logic.{◌↔◌}
use mathlib.Core.Bool.{Bool, true, false}
use Prim.Native.Nat.{ℕ}
use native.Mathlib.Omega.{arith}
use Rattle.refusal.specs.declared.Refusal.{Refusal}
use Rattle.refusal.specs.Checked.{Checked, accepted, refused, ◌>>=◌, require, verdict, map_accepted}

module _ {A : Type 0} where
  pub accepted-injective : {a b : A} → accepted a ≡ accepted b → a ≡ b
  accepted-injective e = cc

  pub refused-not-accepted : {e : Refusal} {a : A} → refused e ≡ accepted a → ⊥
  refused-not-accepted p = let z : ◌≡◌ {A = ℕ} 0 1 = cc in omega arith

  -- what the code's verdict says of the check
  pub verdict-good : (m : Checked A) {v : Result ⊤ Refusal} → v ≡ verdict m → v ≡ Ok tt → (a : A) × (m ≡ accepted a)
  verdict-good (accepted a) is good = (a, refl)
  verdict-good (refused e) is good = absurd (let z : ◌≡◌ {A = ℕ} 0 1 = cc in omega arith)

  pub verdict-refused : (m : Checked A) {v : Result ⊤ Refusal} {e : Refusal} → v ≡ verdict m → v ≡ Err e → m ≡ refused e
  verdict-refused (accepted a) is why = cc
  verdict-refused (refused e) is why = cc

module _ {A B : Type 0} where
  -- a later check is met only with what the earlier one accepted
  pub bind-accepted : (m : Checked A) (f : A → Checked B) {b : B} → (m >>= f) ≡ accepted b
      → (a : A) × (m ≡ accepted a) × (f a ≡ accepted b)
  bind-accepted (accepted a) f e = (a, refl, e)
  bind-accepted (refused r) f e = absurd (refused-not-accepted e)

  -- the same, for a proof that goes on from there
  pub bind-elim : {C : Type 0} (m : Checked A) (f : A → Checked B) {b : B} → (m >>= f) ≡ accepted b
      → ((a : A) → m ≡ accepted a → f a ≡ accepted b → C) → C
  bind-elim (accepted a) f e k = k a refl e
  bind-elim (refused r) f e k = absurd (refused-not-accepted e)

  -- two chains are equal where the first checks are, and what follows is on whatever was accepted
  pub bind_congr : (m m' : Checked A) (f g : A → Checked B) → m ≡ m' → ((a : A) → m ≡ accepted a → f a ≡ g a)
      → (m >>= f) ≡ (m' >>= g)
  bind_congr m m' f g e h = go m refl ∙ ap (λ x. x >>= g) e
    where
      go : (x : Checked A) → m ≡ x → (x >>= f) ≡ (x >>= g)
      go (accepted a) p = h a p
      go (refused r) p = refl

  -- f of what is accepted is accepted
  pub map_accepted-accepted : (f : A → B) (m : Checked A) {b : B} → map_accepted f m ≡ accepted b
      → (a : A) × (m ≡ accepted a) × (f a ≡ b)
  map_accepted-accepted f (accepted a) e = (a, refl, accepted-injective e)
  map_accepted-accepted f (refused r) e = absurd (refused-not-accepted e)

  -- what is only handed on refuses nothing
  pub handed_on-refused : (m : Checked A) (f : A → B) (e : Refusal) → ((m >>= λ a. accepted (f a)) ≡ refused e) ↔ (m ≡ refused e)
  handed_on-refused (accepted a) f e = (λ p. cc, λ p. cc)
  handed_on-refused (refused r) f e = (λ p. cc, λ p. cc)

  pub map_accepted-refused : (f : A → B) (m : Checked A) (e : Refusal) → (map_accepted f m ≡ refused e) ↔ (m ≡ refused e)
  map_accepted-refused f (accepted a) e = (λ p. cc, λ p. cc)
  map_accepted-refused f (refused r) e = (λ p. cc, λ p. cc)

pub require-accepted : (b : Bool) (e : Refusal) {u : Unit} → require b e ≡ accepted u → b ≡ true
require-accepted true e p = refl
require-accepted false e p = absurd (refused-not-accepted p)

module _ {B : Type 0} where
  -- what follows a required test is met only where the test passed
  pub require-bind-accepted : (t : Bool) (e : Refusal) (f : Unit → Checked B) {b : B} → (require t e >>= f) ≡ accepted b
      → (t ≡ true) × (f tt ≡ accepted b)
  require-bind-accepted true e f p = (refl, p)
  require-bind-accepted false e f p = absurd (refused-not-accepted p)
