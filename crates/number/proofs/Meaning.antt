-- Refusals 1, 2 and 4 of a number are given exactly where document 01's conditions hold, with their places. Assumes nothing.
use Prim.Native.Nat.{ℕ, zero, suc, ◌+◌, ◌-◌, ◌*◌, ◌≤◌, ◌<◌}
use native.Mathlib.Omega.{arith}
use native.Mathlib.Nat.{zero-add, add-suc, suc-add, add-zero}
use mathlib.Core.Path.{◌≡◌, refl, sym, ◌∙◌, ap, subst}
use mathlib.Core.Logic.{◌↔◌, ◌⊎◌, inl, inr}
use mathlib.Core.Bool.{Bool, true, false, ◌&&◌}
use mathlib.Core.List.{List}
use lib.ListN.{length, get_or}
use lib.Dec.{leb}
use borrow.Author.Tests.{leb-true, leb-false}
use Rattle.refusal.specs.declared.Refusal.{Refusal}
use Rattle.refusal.specs.declared.Refusal.TheVariants.{Ended, Malformed, WrongKind, OutsideLimits, Trailing, BadRow, Crowded, WrongFigure, NoBlock, ShortWork, ShortOutput, BadOrder, Unjoinable, BadWish, OutOfService, BadCounts, TooManySets, BadRounds, EarlierEvent, BadEvent, SharedFeeder}
use Rattle.refusal.specs.Checked.{Checked, accepted, refused, ◌>>=◌, require}
use Rattle.number.specs.Numbers.{read_groups, read_number, read_within}
use Rattle.number.specs.declared.Reading.{Reading}
use Rattle.number.specs.Meaning.{Follows, NumberRefused, WithinRefused}
use Rattle.number.proofs.ReadGroups.{read_groups-ends, read_groups-follows, read_groups-elim}
use Rattle.number.proofs.Within.{read_within-refused, read_within-below, read_within-above}

refused-injective : {a b : Refusal} → ◌≡◌ {A = Checked Reading} (refused a) (refused b) → a ≡ b
refused-injective p = cc

-- one group more
follows-suc : (s : List ℕ) (at g : ℕ) → Follows s at g → at + g < length s → 128 ≤ get_or s (at + g) 0 → Follows s at (suc g)
follows-suc s at g f inside top i lt = go (leb g i) refl
  where
    go : (b : Bool) → leb g i ≡ b → (at + i < length s) × (128 ≤ get_or s (at + i) 0)
    go true p =
        let h = leb-true g i p in
        let same : g ≡ i = omega arith in
        subst (λ j. (at + j < length s) × (128 ≤ get_or s (at + j) 0)) same (inside, top)
    go false p = f i (leb-false g i p)

-- what is refused after `done` groups
refused-after : (left done : ℕ) (s : List ℕ) (start weight sum : ℕ) → done + left ≡ 4 → Follows s start done → (e : Refusal)
    → read_groups left s start (start + done) weight sum ≡ refused e → NumberRefused s start e
unfolding read_groups
refused-after zero done s start weight sum four f e p =
    let all : done ≡ 4 = omega arith in
    subst (NumberRefused s start) (refused-injective p) (subst (Follows s start) all f, refl)
refused-after (suc left) done s start weight sum four f e p₀ =
    read_groups-elim (λ m. m ≡ refused e → NumberRefused s start e) left s start (start + done) weight sum
    (λ ends p. subst (NumberRefused s start) (refused-injective p) ((done, omega arith, f, ends), refl))
    (λ inside top p.
    refused-after left (suc done) s start (weight * 128) (sum + weight * (get_or s (start + done) 0 - 128)) (omega arith)
    (follows-suc s start done f inside top) e
    (rw (add-suc start done) p))
    (λ inside last p. absurd (let z : ◌≡◌ {A = ℕ} 0 1 = cc in omega arith))
    p₀

-- after groups with the top bit set the rest is read
after-follows : (g left : ℕ) (s : List ℕ) (start at weight sum : ℕ) → Follows s at g
    → (w : ℕ) × (t : ℕ) × (read_groups (g + left) s start at weight sum ≡ read_groups left s start (at + g) w t)
after-follows zero left s start at weight sum f = (weight, sum, rw (zero-add, add-zero) refl)
after-follows (suc g) left s start at weight sum f =
    let (inside, top) = rw add-zero at (f 0 (omega arith)) in
    let shift : (i : ℕ) → at + suc i ≡ suc at + i = λ i. omega arith in
    let more : Follows s (suc at) g = λ i lt. rw (shift i) at (f (suc i) (omega arith)) in
    let (w, t, rest) = after-follows g left s start (suc at) (weight * 128) (sum + weight * (get_or s at 0 - 128)) more in
    (w, t, rw (suc-add g left, shift g) (read_groups-follows (g + left) s start at weight sum inside top ∙ rest))

-- A number is refused exactly where the table's conditions hold.
pub number-refused-iff : (s : List ℕ) (at : ℕ) (e : Refusal) → (read_number s at ≡ refused e) ↔ NumberRefused s at e
unfolding read_number read_groups
number-refused-iff s at e = (λ p. refused-after 4 0 s at 1 0 refl (λ i lt. absurd (omega arith)) e (rw add-zero p), from e)
  where
    -- the rest after g groups, of which one more may come
    rest : (g : ℕ) → g < 4 → Follows s at g
        → (w : ℕ) × (t : ℕ) × (read_groups 4 s at at 1 0 ≡ read_groups (suc (3 - g)) s at (at + g) w t)
    rest g few f =
        let four : g + suc (3 - g) ≡ 4 = omega arith in
        rw four at (after-follows g (suc (3 - g)) s at at 1 0 f)

    none_left : (place w t : ℕ) → read_groups 0 s at place w t ≡ refused (Malformed at)
    none_left place w t = refl

    from : (e : Refusal) → NumberRefused s at e → read_groups 4 s at at 1 0 ≡ refused e
    from (Ended p) ((g, few, f, ends), is) =
        let (w, t, r) = rest g few f in
        r ∙ read_groups-ends (3 - g) s at (at + g) w t ends ∙ ap (λ p. refused (Ended p)) (sym is)
    from (Malformed p) (f, is) =
        let (w, t, r) = after-follows 4 0 s at at 1 0 f in
        r ∙ none_left (at + 4) w t ∙ ap (λ p. refused (Malformed p)) (sym is)
    from WrongKind h = absurd h
    from (OutsideLimits p) h = absurd h
    from (Trailing p) h = absurd h
    from (BadRow p) h = absurd h
    from (Crowded p) h = absurd h
    from (WrongFigure p) h = absurd h
    from NoBlock h = absurd h
    from (ShortWork p) h = absurd h
    from (ShortOutput p) h = absurd h
    from (BadOrder p) h = absurd h
    from Unjoinable h = absurd h
    from BadWish h = absurd h
    from (OutOfService p) h = absurd h
    from BadCounts h = absurd h
    from TooManySets h = absurd h
    from BadRounds h = absurd h
    from (EarlierEvent p) h = absurd h
    from (BadEvent p) h = absurd h
    from (SharedFeeder p) h = absurd h

-- A number of a head: "checked .. for 1, 2, then .. 4".
pub within-refused-iff : (lo hi : ℕ) (s : List ℕ) (at : ℕ) (e : Refusal)
    → (read_within lo hi s at ≡ refused e) ↔ WithinRefused lo hi s at e
unfolding read_within
within-refused-iff lo hi s at e = (to, from)
  where
    limits : (n : Reading) (b : Bool) → (leb lo n.value && leb n.value hi) ≡ b → read_number s at ≡ accepted n
        → (require b (OutsideLimits at) >>= λ u. accepted n) ≡ refused e → WithinRefused lo hi s at e
    limits n true t r p = absurd (let z : ◌≡◌ {A = ℕ} 0 1 = cc in omega arith)
    limits n false t r p = inr (sym (refused-injective p), (n, r, outside (leb lo n.value) refl))
      where
        outside : (b : Bool) → leb lo n.value ≡ b → (n.value < lo) ⊎ (hi < n.value)
        outside true k = inr (leb-false n.value hi (rw k at t))
        outside false k = inl (leb-false lo n.value k)

    to : read_within lo hi s at ≡ refused e → WithinRefused lo hi s at e
    to p = go (read_number s at) refl p
      where
        go : (m : Checked Reading) → read_number s at ≡ m
            → (m >>= λ n. require (leb lo n.value && leb n.value hi) (OutsideLimits at) >>= λ u. accepted n) ≡ refused e
            → WithinRefused lo hi s at e
        go (accepted n) r q = limits n (leb lo n.value && leb n.value hi) refl r q
        go (refused why) r q = inl ((number-refused-iff s at e).0 (r ∙ q))

    from : WithinRefused lo hi s at e → read_within lo hi s at ≡ refused e
    from (inl h) = read_within-refused lo hi s at e ((number-refused-iff s at e).1 h)
    from (inr (is, (n, r, inl below))) = read_within-below lo hi s at r below ∙ ap refused (sym is)
    from (inr (is, (n, r, inr above))) = go (leb lo n.value) refl
      where
        go : (b : Bool) → leb lo n.value ≡ b → read_within lo hi s at ≡ refused e
        go true k = read_within-above lo hi s at r (leb-true lo n.value k) above ∙ ap refused (sym is)
        go false k = read_within-below lo hi s at r (leb-false lo n.value k) ∙ ap refused (sym is)
