-- A file's first number: its kinds, and that refusals of it mean what document 01's table says. Assumes nothing.
use Prim.Native.Nat.{ℕ}
use native.Mathlib.Omega.{arith}
use mathlib.Core.Path.{◌≡◌, refl, sym, ◌∙◌}
use mathlib.Core.Logic.{◌↔◌, ◌⊎◌, inl, inr, ⊎_elim}
use mathlib.Core.Bool.{Bool, true, false, ◌||◌}
use mathlib.Core.List.{List}
use Rattle.lists.proofs.Tests.{false-T, T-not-false, or_cases}
use lib.Dec.{T, eqb, eqb→eq}
use Rattle.refusal.specs.declared.Refusal.{Refusal}
use Rattle.refusal.specs.declared.Refusal.TheVariants.{WrongKind}
use Rattle.refusal.specs.Checked.{Checked, accepted, refused, ◌>>=◌, require}
use Rattle.number.specs.Numbers.{read_number}
use Rattle.number.specs.declared.Reading.{Reading}
use Rattle.number.proofs.Meaning.{number-refused-iff}
use Rattle.layers.specs.Layers.{is_kind, read_kind}
use Rattle.layers.specs.declared.FileKind.{FileKind}
use Rattle.layers.specs.declared.FileKind.TheVariants.{Pack, Placement}
use Rattle.layers.specs.Meaning.{KindRefused}

-- a pack's first number is 1 or 4
pub pack-kinds : (kind : ℕ) → T (is_kind Pack kind) → (kind ≡ 1) ⊎ (kind ≡ 4)
pack-kinds kind t =
    ⊎_elim (λ one. inl (eqb→eq kind 1 one)) (λ four. inr (eqb→eq kind 4 four)) (or_cases (eqb kind 1) (eqb kind 4) t)

-- a placement's is 2, 3, 5 or 6
pub placement-kinds : (kind : ℕ) → T (is_kind Placement kind) → (kind ≡ 2) ⊎ ((kind ≡ 3) ⊎ ((kind ≡ 5) ⊎ (kind ≡ 6)))
placement-kinds kind t =
    ⊎_elim
    (λ three. ⊎_elim
    (λ old. ⊎_elim (λ two. inl (eqb→eq kind 2 two)) (λ three. inr (inl (eqb→eq kind 3 three))) (or_cases (eqb kind 2) (eqb kind 3) old))
    (λ five. inr (inr (inl (eqb→eq kind 5 five))))
    (or_cases (eqb kind 2 || eqb kind 3) (eqb kind 5) three))
    (λ six. inr (inr (inr (eqb→eq kind 6 six))))
    (or_cases (eqb kind 2 || eqb kind 3 || eqb kind 5) (eqb kind 6) t)

pub kind-refused-iff : (file : FileKind) (s : List ℕ) (e : Refusal) → (read_kind file s ≡ refused e) ↔ KindRefused file s e
unfolding read_kind
kind-refused-iff file s e = (λ p. to (read_number s 0) refl p, from)
  where
    kinds : (n : Reading) (b : Bool) → is_kind file n.value ≡ b → read_number s 0 ≡ accepted n
        → (require b WrongKind >>= λ u. accepted n) ≡ refused e → KindRefused file s e
    kinds n true t r p = absurd (let z : ◌≡◌ {A = ℕ} 0 1 = cc in omega arith)
    kinds n false t r p =
        let why : WrongKind ≡ e = cc in
        inr (sym why, (n, r, false-T t))

    to : (m : Checked Reading) → read_number s 0 ≡ m
        → (m >>= λ n. require (is_kind file n.value) WrongKind >>= λ u. accepted n) ≡ refused e → KindRefused file s e
    to (accepted n) r p = kinds n (is_kind file n.value) refl r p
    to (refused why) r p = inl ((number-refused-iff s 0 e).0 (r ∙ p))

    from : KindRefused file s e → read_kind file s ≡ refused e
    from (inl h) = rw ((number-refused-iff s 0 e).1 h)
    from (inr (is, (n, r, other))) = rw (r, T-not-false (is_kind file n.value) other, is)
