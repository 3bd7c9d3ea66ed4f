-- Checks that agree step by step agree. Assumes nothing.
use mathlib.Core.Path.{◌≡◌, refl, subst}
use mathlib.Core.Bool.{Bool, true, false}
use Rattle.refusal.specs.declared.Refusal.{Refusal}
use Rattle.refusal.specs.Refusals.{number_of}
use Rattle.refusal.specs.Checked.{Checked, accepted, refused, ◌>>=◌, require, map_accepted}
use Rattle.refusal.specs.Agree.{Agree, both-accepted, both-refused}

module _ {A B C D : Type 0} {R : A → B → Type 0} {Q : C → D → Type 0} where
  -- two chains agree where the first checks do, and what follows does on whatever they accepted
  pub agree-bind : {m : Checked A} {m' : Checked B} (f : A → Checked C) (g : B → Checked D) → Agree R m m'
      → ((a : A) (b : B) → R a b → Agree Q (f a) (g b)) → Agree Q (m >>= f) (m' >>= g)
  agree-bind f g (both-accepted {a} {b} r) h = h a b r
  agree-bind f g (both-refused e) h = both-refused e

  -- what is made of what is accepted
  pub agree-map : {m : Checked A} {m' : Checked B} (f : A → C) (g : B → D) → Agree R m m'
      → ((a : A) (b : B) → R a b → Q (f a) (g b)) → Agree Q (map_accepted f m) (map_accepted g m')
  agree-map f g (both-accepted {a} {b} r) h = both-accepted (h a b r)
  agree-map f g (both-refused e) h = both-refused e

module _ {C D : Type 0} {Q : C → D → Type 0} where
  -- the same test, before checks that agree
  pub agree-require : (t t' : Bool) (d e : Refusal) (f : Unit → Checked C) (g : Unit → Checked D) → t ≡ t' → number_of d ≡ number_of e
      → Agree Q (f tt) (g tt) → Agree Q (require t d >>= f) (require t' e >>= g)
  agree-require t t' d e f g same number h = subst (λ b. Agree Q (require t d >>= f) (require b e >>= g)) same (go t)
    where
      go : (b : Bool) → Agree Q (require b d >>= f) (require b e >>= g)
      go true = h
      go false = both-refused number

-- a check agrees with itself
pub agree_same : {A : Type 0} {m m' : Checked A} → m ≡ m' → Agree (λ a b. a ≡ b) m m'
agree_same {A} {m} e = subst (Agree (λ a b. a ≡ b) m) e (go m)
  where
    go : (c : Checked A) → Agree (λ a b. a ≡ b) c c
    go (accepted a) = both-accepted refl
    go (refused e) = both-refused refl
