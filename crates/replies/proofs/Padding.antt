-- Request (b) for `plan`'s own three numbers: their padding changes nothing that it writes. Assumes nothing.
use Prim.Native.Nat.{ℕ, ◌≤◌}
use native.Mathlib.Omega.{arith}
use mathlib.Core.Path.{◌≡◌, refl, subst}
use mathlib.Core.List.{List, [], ◌∷◌}
use lib.ListN.{length, drop}
use Rattle.refusal.specs.Checked.{Checked, ◌>>=◌}
use Rattle.refusal.specs.Agree.{Agree, both-accepted, both-refused}
use Rattle.number.specs.declared.Reading.{Reading}
use Rattle.layers.proofs.Padding.{Padded, padded-none, read_number-padded}
use Rattle.replies.specs.Programs.{order_number, read_order, plan_input}

module _ {A B : Type 0} {R : Reading → Reading → Type 0} where
  -- a number that can't be read gives 12 with its index in both
  order-step : (index : ℕ) {m m' : Checked Reading} (f f' : Reading → Checked A) (k k' : A → Checked B) → Agree R m m'
      → ((n n' : Reading) → R n n' → (f n >>= k) ≡ (f' n' >>= k'))
      → (order_number index m >>= f >>= k) ≡ (order_number index m' >>= f' >>= k')
  order-step index f f' k k' (both-accepted {a} {b} r) h = h a b r
  order-step index f f' k k' (both-refused e) h = refl

none_left : (vs : List ℕ) → length vs ≤ 3 → drop 1 (drop 1 (drop 1 vs)) ≡ []
none_left [] few = refl
none_left (a ∷ []) few = refl
none_left (a ∷ b ∷ []) few = refl
none_left (a ∷ b ∷ c ∷ []) few = refl
none_left (a ∷ b ∷ c ∷ d ∷ vs) few = absurd (omega arith)

pub plan_input-padded : (vs s s' : List ℕ) → length vs ≤ 3 → Padded vs s s' 0 0 → plan_input s ≡ plan_input s'
unfolding plan_input read_order
plan_input-padded vs s s' few p =
    order-step 0 _ _ _ _ (read_number-padded s s' vs 0 0 p) λ first first' r₁.
    order-step 1 _ _ _ _ (read_number-padded s s' (drop 1 vs) first.next first'.next r₁.after) λ second second' r₂.
    order-step 2 _ _ _ _ (read_number-padded s s' (drop 1 (drop 1 vs)) second.next second'.next r₂.after) λ third third' r₃.
    let pack = padded-none (subst (λ ws. Padded ws s s' third.next third'.next) (none_left vs few) r₃.after) in
    rw (r₁.value, r₂.value, r₃.value, pack)
