-- Which numbers of a head are accepted: each within its limits, the layers' two numbers in turn. Assumes nothing.
use Prim.Native.Nat.{ℕ, zero, suc, ◌+◌, ◌-◌, ◌≤◌, min}
use native.Mathlib.Omega.{arith}
use mathlib.Core.Path.{◌≡◌, refl, ◌∙◌, ap, subst}
use mathlib.Core.Bool.{Bool, true, false}
use mathlib.Core.List.{List, [], ◌∷◌}
use lib.ListN.{length}
use lib.Dec.{T}
use Rattle.lists.specs.Lists.{All, total}
use Rattle.lists.proofs.Tests.{T_true, true-T}
use Rattle.refusal.specs.declared.Refusal.TheVariants.{WrongKind}
use Rattle.refusal.specs.Checked.{accepted}
use Rattle.refusal.proofs.Checked.{accepted-injective, bind-elim, require-bind-accepted}
use Rattle.number.specs.Numbers.{read_number, read_within}
use Rattle.number.specs.declared.Reading.{Reading}
use Rattle.number.proofs.Within.{read-of-read_within, read_within-accepted}
use Rattle.layers.specs.Layers.{LayerHeads, head_numbers, sizes, Site, BaseReading, BaseLimits, DarkLimits, least_size, is_kind, list_numbers, read_kind, read_dark, read_base, read_layers}
use Rattle.layers.specs.declared.FileKind.{FileKind}
use Rattle.layers.specs.declared.LayerHead.{LayerHead}
use Rattle.layers.specs.declared.LayerLimits.{LayerLimits}
use Rattle.layers.proofs.NumbersRead.{Reads, reads-le-length}
use Rattle.layers.proofs.Listing.{reads-of-read_dark, read_dark-accepted}

-- The first number is accepted exactly where it is read and is the file's kind.
pub read-of-read_kind : (file : FileKind) (s : List ℕ) {n : Reading} → read_kind file s ≡ accepted n
    → (read_number s 0 ≡ accepted n) × T (is_kind file n.value)
unfolding read_kind
read-of-read_kind file s {n} e =
    bind-elim (read_number s 0) _ e λ first read rest.
    let (test, same) = require-bind-accepted (is_kind file first.value) WrongKind _ rest in
    let eq : first ≡ n = accepted-injective same in
    (read ∙ ap accepted eq, rw eq at (T_true test))

pub read_kind-accepted : (file : FileKind) (kind : ℕ) (s : List ℕ) {next : ℕ} → T (is_kind file kind)
    → read_number s 0 ≡ accepted (record { value = kind; next = next })
    → read_kind file s ≡ accepted (record { value = kind; next = next })
unfolding read_kind
read_kind-accepted file kind s is e = rw (e, true-T (is_kind file kind) is)

-- "The number 1; n; r", "The number 2; n; r", and the list: accepted exactly where they are read and within their limits
abbrev pub base_numbers : (kind : ℕ) → Site → List ℕ
base_numbers kind base = kind ∷ base.n ∷ base.r ∷ list_numbers kind base.dark

pub record BaseHeld (file : FileKind) (s : List ℕ) (b : BaseReading) : Type 0 where
  pub reads : Reads (base_numbers b.kind b.base) s 0 b.next
  pub limits : BaseLimits b.base.n b.base.r
  pub dark : DarkLimits b.kind b.base.n b.base.dark
  pub kind : T (is_kind file b.kind)

pub held-of-read_base : (file : FileKind) (s : List ℕ) {b : BaseReading} → read_base file s ≡ accepted b → BaseHeld file s b
unfolding read_base
held-of-read_base file s e =
    bind-elim (read_kind file s) _ e λ first e₁ r₁.
    bind-elim (read_within 2 255 s first.next) _ r₁ λ n e₂ r₂.
    bind-elim (read_within 2 (min 5 n.value) s n.next) _ r₂ λ r e₃ r₃.
    bind-elim (read_dark first.value n.value s r.next) _ r₃ λ list e₄ r₄.
    let (read₁, is) = read-of-read_kind file s e₁ in
    let (read₂, n-least, n-most) = read-of-read_within 2 255 s first.next e₂ in
    let (read₃, r-least, r-most) = read-of-read_within 2 (min 5 n.value) s n.next e₃ in
    let (read₄, dark) = reads-of-read_dark first.value n.value s r.next (omega arith) e₄ in
    subst
    (BaseHeld file s)
    (accepted-injective r₄)
    (record {
      reads = (first.next, read₁, (n.next, read₂, (r.next, read₃, read₄)));
      limits =
          record { n-least = omega arith; n-most = omega arith; r-least = omega arith; r-most = omega arith; r-nodes = omega arith };
      dark = dark;
      kind = is;
    })

-- they end within the bytes
pub read_base-inside : (file : FileKind) (s : List ℕ) {b : BaseReading} → read_base file s ≡ accepted b → b.next ≤ length s
read_base-inside file s {b} e =
    reads-le-length (base_numbers b.kind b.base) s 0 b.next (omega arith) (held-of-read_base file s e).reads

pub read_base-accepted : (file : FileKind) (kind : ℕ) (base : Site) (s : List ℕ) (next : ℕ) → Reads (base_numbers kind base) s 0 next
    → T (is_kind file kind) → BaseLimits base.n base.r → DarkLimits kind base.n base.dark
    → read_base file s ≡ accepted (record { kind = kind; base = base; next = next })
unfolding read_base
read_base-accepted file kind base s next (p, read₁, (q, read₂, (t, read₃, list))) is l d =
    rw (
      read_kind-accepted file kind s is read₁,
      read_within-accepted 2 255 s p read₂ (omega (arith, l.n-least)) (omega (arith, l.n-most)),
      read_within-accepted 2 (min 5 base.n) s q read₃ (omega (arith, l.r-least)) (omega (arith, l.r-most, l.r-nodes)),
      read_dark-accepted kind base.n s t base.dark next list d,
    )

-- the sizes of `left` layers sum to at most `room` or, where they must fill it, to it
abbrev pub SizesFit : (full : Bool) (left room sum : ℕ) → Type 0
SizesFit false left room sum = sum ≤ room
SizesFit true zero room sum = sum ≤ room
SizesFit true (suc left) room sum = sum ≡ room

-- the numbers of `left` layers are within their limits
pub record HeadsWithin (limits : LayerLimits) (left room : ℕ) (heads : List LayerHead) : Type 0 where
  pub layer-each : length heads ≡ left
  pub bounds : All (λ head. (limits.lo ≤ head.bound) × (head.bound ≤ limits.hi)) heads
  pub fit : SizesFit limits.full left room (sizes heads)

-- at most the room in any case
pub fit-le : (full : Bool) (left room sum : ℕ) → SizesFit full left room sum → sum ≤ room
fit-le false left room sum k = k
fit-le true zero room sum k = k
fit-le true (suc left) room sum k = omega arith

-- "the last must equal what is left": the sizes of one layer or more that must fill the room are the room
pub fit-full : (left room sum : ℕ) → 1 ≤ left → SizesFit true left room sum → sum ≡ room
fit-full zero room sum h k = absurd (omega arith)
fit-full (suc left) room sum h k = k

-- one layer's size, and those of the layers after it
fit-cons : (full : Bool) (left room size sum : ℕ) → (left ≡ 0 → sum ≡ 0) → least_size full left room ≤ size → size ≤ room
    → SizesFit full left (room - size) sum → SizesFit full (suc left) room (size + sum)
fit-cons false left room size sum z l h k = omega arith
fit-cons true zero room size sum z l h k = let none = z refl in omega arith
fit-cons true (suc left) room size sum z l h k = omega arith

least-of-fit : (full : Bool) (left room size sum : ℕ) → (left ≡ 0 → sum ≡ 0)
    → SizesFit full (suc left) room (size + sum) → least_size full left room ≤ size
least-of-fit false left room size sum z k = omega arith
least-of-fit true zero room size sum z k = let none = z refl in omega arith
least-of-fit true (suc left) room size sum z k = omega arith

le-of-fit : (full : Bool) (left room size sum : ℕ) → SizesFit full (suc left) room (size + sum) → size ≤ room
le-of-fit false left room size sum k = omega arith
le-of-fit true left room size sum k = omega arith

fit-of-cons : (full : Bool) (left room size sum : ℕ) → SizesFit full (suc left) room (size + sum)
    → SizesFit full left (room - size) sum
fit-of-cons false left room size sum k = omega arith
fit-of-cons true zero room size sum k = omega arith
fit-of-cons true (suc left) room size sum k = omega arith

fit-nil : (full : Bool) (room : ℕ) → SizesFit full 0 room 0
fit-nil false room = omega arith
fit-nil true room = omega arith

sizes-none : (heads : List LayerHead) → length heads ≡ 0 → sizes heads ≡ 0
unfolding total
sizes-none [] e = refl
sizes-none (head ∷ heads) e = omega arith

-- the limits of one layer's numbers, and of those of the layers after it
within-cons : (limits : LayerLimits) (left room : ℕ) (head : LayerHead) (heads : List LayerHead)
    → (limits.lo ≤ head.bound) × (head.bound ≤ limits.hi) → least_size limits.full left room ≤ head.size
    → head.size ≤ room
    → HeadsWithin limits left (room - head.size) heads → HeadsWithin limits (suc left) room (head ∷ heads)
unfolding total
within-cons limits left room head heads b l h w =
    record {
      layer-each = ap suc w.layer-each;
      bounds = (b, w.bounds);
      fit = fit-cons limits.full left room head.size (sizes heads) (λ z. sizes-none heads (w.layer-each ∙ z)) l h w.fit;
    }

least-within : (limits : LayerLimits) (left room : ℕ) (head : LayerHead) (heads : List LayerHead)
    → HeadsWithin limits (suc left) room (head ∷ heads)
    → least_size limits.full left room ≤ head.size
unfolding total
least-within limits left room head heads w =
    let each = w.layer-each in
    let none : left ≡ 0 → sizes heads ≡ 0 = λ z. sizes-none heads (omega arith) in
    least-of-fit limits.full left room head.size (sizes heads) none w.fit

within-rest : (limits : LayerLimits) (left room : ℕ) (head : LayerHead) (heads : List LayerHead)
    → HeadsWithin limits (suc left) room (head ∷ heads)
    → HeadsWithin limits left (room - head.size) heads
unfolding total
within-rest limits left room head heads w =
    record {
      layer-each = let e = w.layer-each in omega arith;
      bounds = w.bounds.1;
      fit = fit-of-cons limits.full left room head.size (sizes heads) w.fit;
    }

-- "for each x .. the numbers mu .. and m", "lambda .. and c": they are accepted exactly where they are read and within
-- their limits
pub reads-of-read_layers : (limits : LayerLimits) (left room : ℕ) (s : List ℕ) (at : ℕ) {h : LayerHeads}
    → read_layers limits left room s at ≡ accepted h
    → Reads (head_numbers h.heads) s at h.next × HeadsWithin limits left room h.heads
unfolding read_layers head_numbers total
reads-of-read_layers limits zero room s at e =
    subst
    (λ h. Reads (head_numbers h.heads) s at h.next × HeadsWithin limits zero room h.heads)
    (accepted-injective e)
    (refl, record { layer-each = refl; bounds = tt; fit = fit-nil limits.full room })
reads-of-read_layers limits (suc left) room s at e =
    bind-elim (read_within limits.lo limits.hi s at) _ e λ bound e₁ r₁.
    bind-elim (read_within (least_size limits.full left room) room s bound.next) _ r₁ λ size e₂ r₂.
    bind-elim (read_layers limits left (room - size.value) s size.next) _ r₂ λ rest e₃ r₃.
    let (read₁, lo₁, hi₁) = read-of-read_within limits.lo limits.hi s at e₁ in
    let (read₂, lo₂, hi₂) = read-of-read_within (least_size limits.full left room) room s bound.next e₂ in
    let (reads, heads) = reads-of-read_layers limits left (room - size.value) s size.next e₃ in
    let head : LayerHead = record { bound = bound.value; size = size.value } in
    subst
    (λ h. Reads (head_numbers h.heads) s at h.next × HeadsWithin limits (suc left) room h.heads)
    (accepted-injective r₃) (
      (bound.next, read₁, (size.next, read₂, reads)),
      within-cons limits left room head rest.heads (lo₁, hi₁) lo₂ hi₂ heads,
    )

pub read_layers-accepted : (limits : LayerLimits) (left room : ℕ) (s : List ℕ) (at : ℕ) (heads : List LayerHead) (next : ℕ)
    → Reads (head_numbers heads) s at next
    → HeadsWithin limits left room heads
    → read_layers limits left room s at ≡ accepted (record { heads = heads; next = next })
unfolding read_layers head_numbers total
read_layers-accepted limits zero room s at [] next reads w = rw reads
read_layers-accepted limits zero room s at (head ∷ heads) next reads w = let e = w.layer-each in absurd (omega arith)
read_layers-accepted limits (suc left) room s at [] next reads w = let e = w.layer-each in absurd (omega arith)
read_layers-accepted limits (suc left) room s at (head ∷ heads) next (p, read₁, (q, read₂, reads)) w =
    let least = least-within limits left room head heads w in
    let most = le-of-fit limits.full left room head.size (sizes heads) w.fit in
    rw (
      read_within-accepted limits.lo limits.hi s at read₁ w.bounds.0.0 w.bounds.0.1,
      read_within-accepted (least_size limits.full left room) room s p read₂ least most,
      read_layers-accepted limits left (room - head.size) s q heads next reads (within-rest limits left room head heads w),
    )
