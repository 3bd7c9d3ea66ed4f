-- Document 01's table of refusals for all numbers of a head: "Head numbers are checked in file order, each for 1, 2, then 3 or 4." With
-- the rows' refusals this says of every file, whatever its bytes, how it is refused. Assumes nothing.
use Prim.Native.Nat.{ℕ, zero, suc, ◌+◌, ◌-◌, min}
use native.Mathlib.Omega.{arith}
use mathlib.Core.Path.{◌≡◌, refl, ◌∙◌, subst}
use mathlib.Core.Logic.{◌↔◌, ◌⊎◌, inl, inr}
use mathlib.Core.List.{List}
use lib.Dec.{T}
use Rattle.refusal.specs.declared.Refusal.{Refusal}
use Rattle.refusal.specs.Checked.{Checked, accepted, refused, ◌>>=◌}
use Rattle.refusal.proofs.Checked.{handed_on-refused, map_accepted-refused}
use Rattle.number.specs.Numbers.{read_within}
use Rattle.number.specs.declared.Reading.{Reading}
use Rattle.number.specs.Meaning.{WithinRefused}
use Rattle.number.proofs.Meaning.{within-refused-iff}
use Rattle.layers.specs.Layers.{Site, BaseReading, LayerHeads, listed, read_kind, read_dark, read_base, read_layers, check_rows}
use Rattle.layers.specs.declared.FileKind.{FileKind}
use Rattle.layers.specs.declared.FileKind.TheVariants.{Pack as PackKind, Placement as PlacementKind}
use Rattle.layers.specs.Meaning.{KindRefused, ListRefused, RowsRefused}
use Rattle.layers.proofs.KindMeaning.{kind-refused-iff}
use Rattle.layers.proofs.ListMeaning.{list-refused-iff}
use Rattle.layers.proofs.Meaning.{rows-refused-iff}
use Rattle.pack.specs.Pack.{pack_layer_limits, read_pack, check_pack}
use Rattle.placement.specs.Placement.{TermsReading, placement_layer_limits, read_terms, read_placement, check_placement}
use Rattle.placement.specs.Meaning.{PlacementRefused}
use Rattle.placement.proofs.Meaning.{placement-refused-iff}

-- "The number 1; n; r" or "The number 2; n; r", with document 01's "n 2..255; r 2..5 and at most n", and in kinds 4, 5 and 6 the list
abbrev pub BaseRefused : FileKind → List ℕ → Refusal → Type 0
BaseRefused file s e =
    KindRefused file s e
    ⊎ ((kind : Reading) × (read_kind file s ≡ accepted kind)
    × (WithinRefused 2 255 s kind.next e
    ⊎ ((n : Reading) × (read_within 2 255 s kind.next ≡ accepted n)
    × (WithinRefused 2 (min 5 n.value) s n.next e
    ⊎ ((r : Reading) × (read_within 2 (min 5 n.value) s n.next ≡ accepted r)
    × (T (listed kind.value) × ListRefused n.value s r.next e))))))

-- a placement's next numbers: "s 1..r; k s..n-1; b 1..4,096", and "the figure F (0..b)"
abbrev pub TermsRefused : (n r : ℕ) → List ℕ → (at : ℕ) → Refusal → Type 0
TermsRefused n r bytes at e =
    WithinRefused 1 r bytes at e
    ⊎ ((s : Reading) × (read_within 1 r bytes at ≡ accepted s)
    × (WithinRefused s.value (n - 1) bytes s.next e
    ⊎ ((k : Reading) × (read_within s.value (n - 1) bytes s.next ≡ accepted k)
    × (WithinRefused 1 4_096 bytes k.next e
    ⊎ ((b : Reading) × (read_within 1 4_096 bytes k.next ≡ accepted b)
    × WithinRefused 0 b.value bytes b.next e)))))

-- a pack's: "for each x .. the numbers mu (1..4,096) and m (0..4,096, the m's so far summing to at most 4,096)"; `left` layers are
-- due, and the m's so far sum to `before`
abbrev pub PackLayersRefused : (left before : ℕ) → List ℕ → (at : ℕ) → Refusal → Type 0
PackLayersRefused zero before s at e = ⊥
PackLayersRefused (suc left) before s at e =
    WithinRefused 1 4_096 s at e
    ⊎ ((mu : Reading) × (read_within 1 4_096 s at ≡ accepted mu)
    × (WithinRefused 0 (4_096 - before) s mu.next e
    ⊎ ((m : Reading) × (read_within 0 (4_096 - before) s mu.next ≡ accepted m)
    × PackLayersRefused left (before + m.value) s m.next e)))

-- a placement's: "the numbers lambda (0..16,777,216) and c (0 up to b less the c's before; the last must equal what is left)"; `left`
-- layers are due, and the c's before sum to `before`
abbrev pub PlacementLayersRefused : (b left before : ℕ) → List ℕ → (at : ℕ) → Refusal → Type 0
PlacementLayersRefused b zero before s at e = ⊥
PlacementLayersRefused b (suc zero) before s at e =
    WithinRefused 0 16_777_216 s at e
    ⊎ ((lambda : Reading) × (read_within 0 16_777_216 s at ≡ accepted lambda)
    × WithinRefused (b - before) (b - before) s lambda.next e)
PlacementLayersRefused b (suc (suc left)) before s at e =
    WithinRefused 0 16_777_216 s at e
    ⊎ ((lambda : Reading) × (read_within 0 16_777_216 s at ≡ accepted lambda)
    × (WithinRefused 0 (b - before) s lambda.next e
    ⊎ ((c : Reading) × (read_within 0 (b - before) s lambda.next ≡ accepted c)
    × PlacementLayersRefused b (suc left) (before + c.value) s c.next e)))

-- a chain of checks is refused by its first, or by what follows where that is passed
module _ {A B : Type 0} where
  check-then : (m : Checked A) (f : A → Checked B) (e : Refusal) (First : Type 0) (Later : A → Type 0)
      → ((m ≡ refused e) ↔ First)
      → ((a : A) → m ≡ accepted a → (f a ≡ refused e) ↔ Later a)
      → ((m >>= f) ≡ refused e) ↔ (First ⊎ ((a : A) × (m ≡ accepted a) × Later a))
  check-then m f e First Later first later = (λ p. to m refl p, from)
    where
      to : (c : Checked A) → m ≡ c → (c >>= f) ≡ refused e → First ⊎ ((a : A) × (m ≡ accepted a) × Later a)
      to (accepted a) is p = inr (a, is, (later a is).0 p)
      to (refused why) is p = inl (first.0 (is ∙ cc))

      from : First ⊎ ((a : A) × (m ≡ accepted a) × Later a) → (m >>= f) ≡ refused e
      from (inl h) = rw (first.1 h)
      from (inr (a, is, h)) = rw is ((later a is).1 h)

  -- the last of a chain is handed on
  last-check : (m : Checked A) (f : A → B) (e : Refusal) (Last : Type 0) → ((m ≡ refused e) ↔ Last)
      → ((m >>= λ a. accepted (f a)) ≡ refused e) ↔ Last
  last-check m f e Last last =
      let on = handed_on-refused m f e in
      (λ p. last.0 (on.0 p), λ h. on.1 (last.1 h))

-- the kind, n, r and the list
pub refusals-of-the-base : (file : FileKind) (s : List ℕ) (e : Refusal) → (read_base file s ≡ refused e) ↔ BaseRefused file s e
unfolding read_base
refusals-of-the-base file s e =
    check-then (read_kind file s) _ e _ _ (kind-refused-iff file s e) λ kind _.
    check-then (read_within 2 255 s kind.next) _ e _ _ (within-refused-iff 2 255 s kind.next e) λ n _.
    check-then (read_within 2 (min 5 n.value) s n.next) _ e _ _ (within-refused-iff 2 (min 5 n.value) s n.next e) λ r _.
    last-check (read_dark kind.value n.value s r.next) _ e _ (list-refused-iff kind.value n.value s r.next e)

-- s, k, b and F
pub refusals-of-the-terms : (base : Site) (bytes : List ℕ) (at : ℕ) (e : Refusal)
    → (read_terms base bytes at ≡ refused e) ↔ TermsRefused base.n base.r bytes at e
unfolding read_terms
refusals-of-the-terms base bytes at e =
    check-then (read_within 1 base.r bytes at) _ e _ _ (within-refused-iff 1 base.r bytes at e) λ s _.
    check-then (read_within s.value (base.n - 1) bytes s.next) _ e _ _ (within-refused-iff s.value (base.n - 1) bytes s.next e) λ k _.
    check-then (read_within 1 4_096 bytes k.next) _ e _ _ (within-refused-iff 1 4_096 bytes k.next e) λ b _.
    last-check (read_within 0 b.value bytes b.next) _ e _ (within-refused-iff 0 b.value bytes b.next e)

-- what room is left after one more
less-again : (total before size : ℕ) → total - before - size ≡ total - (before + size)
less-again total before size = omega arith

pack-layers : (left before : ℕ) (s : List ℕ) (at : ℕ) (e : Refusal)
    → (read_layers pack_layer_limits left (4_096 - before) s at ≡ refused e) ↔ PackLayersRefused left before s at e
unfolding read_layers
pack-layers zero before s at e = (λ p. absurd (let z : ◌≡◌ {A = ℕ} 0 1 = cc in omega arith), λ h. absurd h)
pack-layers (suc left) before s at e =
    check-then (read_within 1 4_096 s at) _ e _ _ (within-refused-iff 1 4_096 s at e) λ mu _.
    check-then (read_within 0 (4_096 - before) s mu.next) _ e _ _ (within-refused-iff 0 (4_096 - before) s mu.next e) λ m _.
    last-check (read_layers pack_layer_limits left (4_096 - before - m.value) s m.next) _ e _
    (rw (less-again 4_096 before m.value) (pack-layers left (before + m.value) s m.next e))

placement-layers : (b left before : ℕ) (s : List ℕ) (at : ℕ) (e : Refusal)
    → (read_layers placement_layer_limits left (b - before) s at ≡ refused e) ↔ PlacementLayersRefused b left before s at e
unfolding read_layers
placement-layers b zero before s at e = (λ p. absurd (let z : ◌≡◌ {A = ℕ} 0 1 = cc in omega arith), λ h. absurd h)
placement-layers b (suc zero) before s at e =
    check-then (read_within 0 16_777_216 s at) _ e _ _ (within-refused-iff 0 16_777_216 s at e) λ lambda _.
    last-check (read_within (b - before) (b - before) s lambda.next) _ e _
    (within-refused-iff (b - before) (b - before) s lambda.next e)
placement-layers b (suc (suc left)) before s at e =
    check-then (read_within 0 16_777_216 s at) _ e _ _ (within-refused-iff 0 16_777_216 s at e) λ lambda _.
    check-then (read_within 0 (b - before) s lambda.next) _ e _ _ (within-refused-iff 0 (b - before) s lambda.next e) λ c _.
    last-check (read_layers placement_layer_limits (suc left) (b - before - c.value) s c.next) _ e _
    (rw (less-again b before c.value) (placement-layers b (suc left) (before + c.value) s c.next e))

-- mu and m of each of r layers
pub refusals-of-pack-layers : (r : ℕ) (s : List ℕ) (at : ℕ) (e : Refusal)
    → (read_layers pack_layer_limits r 4_096 s at ≡ refused e) ↔ PackLayersRefused r 0 s at e
refusals-of-pack-layers r s at e = pack-layers r 0 s at e

-- lambda and c of each of s layers
pub refusals-of-placement-layers : (b layers : ℕ) (s : List ℕ) (at : ℕ) (e : Refusal)
    → (read_layers placement_layer_limits layers b s at ≡ refused e) ↔ PlacementLayersRefused b layers 0 s at e
refusals-of-placement-layers b layers s at e =
    let same : b - 0 ≡ b = omega arith in
    subst (λ room. (read_layers placement_layer_limits layers room s at ≡ refused e) ↔ PlacementLayersRefused b layers 0 s at e) same
    (placement-layers b layers 0 s at e)

-- Every file: the head's numbers in file order, then the rows
abbrev pub PackFileRefused : List ℕ → Refusal → Type 0
PackFileRefused s e =
    BaseRefused PackKind s e
    ⊎ ((head : BaseReading) × (read_base PackKind s ≡ accepted head)
    × (PackLayersRefused head.base.r 0 s head.next e
    ⊎ ((numbers : LayerHeads) × (read_layers pack_layer_limits head.base.r 4_096 s head.next ≡ accepted numbers)
    × RowsRefused head.base numbers.heads s numbers.next e)))

pub refusals-of-every-pack : (s : List ℕ) (e : Refusal) → (check_pack s ≡ refused e) ↔ PackFileRefused s e
unfolding check_pack read_pack
refusals-of-every-pack s e =
    let all = check-then (read_base PackKind s) _ e _ _ (refusals-of-the-base PackKind s e) λ head b.
    check-then (read_layers pack_layer_limits head.base.r 4_096 s head.next) _ e _ _
    (refusals-of-pack-layers head.base.r s head.next e) λ numbers l.
    last-check (check_rows head.base numbers.heads s numbers.next) _ e _
    (rows-refused-iff head.base numbers.heads s numbers.next e) in
    (λ p. all.0 ((map_accepted-refused _ (read_pack s) e).0 p), λ h. (map_accepted-refused _ (read_pack s) e).1 (all.1 h))

-- the same of a placement: s, k, b and F come after the list
abbrev pub PlacementFileRefused : List ℕ → Refusal → Type 0
PlacementFileRefused bytes e =
    BaseRefused PlacementKind bytes e
    ⊎ ((head : BaseReading) × (read_base PlacementKind bytes ≡ accepted head)
    × (TermsRefused head.base.n head.base.r bytes head.next e
    ⊎ ((order : TermsReading) × (read_terms head.base bytes head.next ≡ accepted order)
    × (PlacementLayersRefused order.terms.b order.terms.s 0 bytes order.next e
    ⊎ ((numbers : LayerHeads)
    × (read_layers placement_layer_limits order.terms.s order.terms.b bytes order.next ≡ accepted numbers)
    × PlacementRefused head.kind head.base numbers.heads bytes numbers.next order.terms e)))))

pub refusals-of-every-placement : (bytes : List ℕ) (e : Refusal) → (check_placement bytes ≡ refused e) ↔ PlacementFileRefused bytes e
unfolding check_placement read_placement
refusals-of-every-placement bytes e =
    let all : (read_placement bytes ≡ refused e) ↔ PlacementFileRefused bytes e =
    check-then (read_base PlacementKind bytes) _ e _ _ (refusals-of-the-base PlacementKind bytes e) λ head b.
    check-then (read_terms head.base bytes head.next) _ e _ _ (refusals-of-the-terms head.base bytes head.next e) λ order o.
    check-then (read_layers placement_layer_limits order.terms.s order.terms.b bytes order.next) _ e _ _
    (refusals-of-placement-layers order.terms.b order.terms.s bytes order.next e) λ numbers l.
    let rows = rw (b, o, l) at (placement-refused-iff bytes b o l e) in
    (λ p. rows.0 ((map_accepted-refused _ _ e).1 p), λ h. (map_accepted-refused _ _ e).0 (rows.1 h)) in
    (λ p. all.0 ((map_accepted-refused _ (read_placement bytes) e).0 p), λ h. (map_accepted-refused _ (read_placement bytes) e).1 (all.1 h))
