-- Bytes shifted and copied to a slice. Assumes nothing.
use Prim.Native.Nat.{ℕ, zero, suc, ◌+◌, ◌*◌, ◌-◌, ◌/◌, ◌≤◌, ◌<◌}
use native.Mathlib.Omega.{arith}
use native.Mathlib.Numerals.{add-one}
use native.Mathlib.Nat.{zero-mul, mul-le-mul, le_refl}
use mathlib.Core.Path.{◌≡◌, refl, sym, ◌∙◌, ap}
use mathlib.Core.List.{List, [], ◌∷◌, ◌++◌, map, flatten, append_assoc, append-nil, map-append}
use lib.ListN.{length, get_or, take, drop, set, length-append, length-drop, length-map, get_or-map, take-append-drop}
use lib.Seq.{take_at, drop_at, drop-drop, length-take-le}
use Rattle.lists.specs.Lists.{over_start}
use Rattle.lists.proofs.Counts.{flatten-append}
use Rattle.lists.proofs.Writing.{set-take-append-drop, given_back, write-part, append-rest, take-drop-rest}
use Rattle.join.specs.Join.{shifted, copied}
use Rattle.join.specs.Estate.{copied_bytes, part_bytes, put_at}

-- one shifted byte more
pub shift-next : (before : ℕ) (bytes out₀ out : List ℕ) (place : ℕ) → out ≡ take place (map (λ v. before + v) bytes) ++ drop place out₀
    → place < length bytes → place < length out₀
    → set out place (before + get_or bytes place 0) ≡ take (place + 1) (map (λ v. before + v) bytes) ++ drop (place + 1) out₀
shift-next before bytes out₀ out place e lt room =
    rw (e, ← get_or-map (λ v. before + v) bytes place 0)
    (set-take-append-drop (map (λ v. before + v) bytes) out₀ place (before + 0) (rw (length-map bytes (λ v. before + v)) lt) room)

pub length-copied_bytes : (copies : ℕ) (bytes : List ℕ) → length (copied_bytes copies bytes) ≡ copies * length bytes
unfolding copied_bytes
length-copied_bytes zero bytes = rw (zero-mul (length bytes))
length-copied_bytes (suc copies) bytes =
    rw (length-append bytes (copied_bytes copies bytes), length-copied_bytes copies bytes) (omega arith)

pub copied_bytes-nil : (copies : ℕ) → copied_bytes copies [] ≡ []
unfolding copied_bytes
copied_bytes-nil zero = refl
copied_bytes-nil (suc copies) = copied_bytes-nil copies

-- one copy more at the end
copied_bytes-snoc : (copies : ℕ) (bytes : List ℕ) → copied_bytes (copies + 1) bytes ≡ copied_bytes copies bytes ++ bytes
unfolding copied_bytes
copied_bytes-snoc copies bytes = rw (add-one copies) (go copies)
  where
    go : (d : ℕ) → copied_bytes (suc d) bytes ≡ copied_bytes d bytes ++ bytes
    go zero = append-nil bytes
    go (suc d) = ap (λ (l : List ℕ). bytes ++ l) (go d) ∙ sym (append_assoc bytes (copied_bytes d bytes) bytes)

-- `done` of the copies are written; the next begins at byte `to`, and from there on the bytes are as they were.
pub record Copying (out₀ bytes : List ℕ) (copies : ℕ) (out : List ℕ) (done to : ℕ) : Type 0 where
  pub within : done ≤ copies
  pub place : to ≡ done * length bytes
  pub same : length out ≡ length out₀
  pub written : out ≡ copied_bytes done bytes ++ drop to out₀

pub copying-none : (out bytes : List ℕ) (copies : ℕ) → Copying out bytes copies out 0 0
unfolding copied_bytes
copying-none out bytes copies =
    record { within = omega arith; place = sym (zero-mul (length bytes)); same = refl; written = refl }

module _ {out₀ bytes : List ℕ} {copies : ℕ} {out : List ℕ} {done to : ℕ} (w : Copying out₀ bytes copies out done to)
    (room : copies * length bytes ≤ length out₀) (h : done < copies) where
  pub copy-fits : to + length bytes ≤ length out
  copy-fits =
      let m : (done + 1) * length bytes ≤ copies * length bytes = mul-le-mul {n₁ = done + 1} {n₂ = copies} (omega arith) (le_refl (length bytes)) in
      omega (arith, w.place, w.same)

  pub copying-next : (last : List ℕ) → last ≡ over_start bytes (take (length out - to) (drop to out))
      → Copying out₀ bytes copies (given_back out to last) (done + 1) (to + length bytes)
  copying-next last e =
      let wrote = write-part (copied_bytes done bytes) bytes out₀ out last to (length-copied_bytes done bytes ∙ sym w.place) w.written e in
      record {
        within = omega arith;
        place = omega (arith, w.place);
        same =
            ap length wrote
            ∙ simp (length-append, length-drop, length-copied_bytes) (omega (arith, w.place, w.same, copy-fits));
        written = wrote ∙ rw (copied_bytes-snoc done bytes);
      }

pub copying-all : {out₀ bytes : List ℕ} {copies : ℕ} {out : List ℕ} {done to : ℕ} → Copying out₀ bytes copies out done to
    → copies ≤ done → out ≡ over_start (copied_bytes copies bytes) out₀
copying-all {out₀} {bytes} {copies} {out} {done} w h =
    let all : done ≡ copies = omega (arith, w.within) in
    w.written ∙ rw (w.place, all, length-copied_bytes copies bytes)

-- a part without blocks
pub part-nil : (mu bound before : ℕ) (blocks : List ℕ) → length blocks ≡ 0 → part_bytes mu bound before blocks ≡ []
part-nil mu bound before [] e = copied_bytes-nil (mu / bound)
part-nil mu bound before (v ∷ blocks) e = absurd (omega arith)

pub length_part : (mu bound before : ℕ) (blocks : List ℕ) → length (part_bytes mu bound before blocks) ≡ mu / bound * length blocks
length_part mu bound before blocks =
    length-copied_bytes (mu / bound) (map (λ v. before + v) blocks) ∙ ap (λ n. mu / bound * n) (length-map blocks (λ v. before + v))

-- A part put at a place.
pub length-put_at : (at : ℕ) (part out : List ℕ) → at + length part ≤ length out → length (put_at at part out) ≡ length out
length-put_at at part out fits =
    length-append (take at out) (part ++ drop (length part) (drop at out))
    ∙ simp (length-append, length-drop, length-take-le at out (omega arith)) (omega arith)

-- one part after another
pub put-put : (at : ℕ) (part next out : List ℕ) → at + length part ≤ length out
    → put_at (at + length part) next (put_at at part out) ≡ put_at at (part ++ next) out
put-put at part next out fits =
    let rest = drop (length part) (drop at out) in
    let front : length (take at out ++ part) ≡ at + length part =
    length-append (take at out) part ∙ ap (λ n. n + length part) (length-take-le at out (omega arith)) in
    let apart : put_at at part out ≡ (take at out ++ part) ++ rest = sym (append_assoc (take at out) part rest) in
    let sum : length (part ++ next) ≡ length part + length next = length-append part next in
    rw (
      apart,
      take_at (take at out ++ part) rest (at + length part) front,
      drop_at (take at out ++ part) rest (at + length part) front,
      drop-drop (length next) (length part) (drop at out),
      sum,
    )
    (append_assoc (take at out) part (next ++ drop (length part + length next) (drop at out))
    ∙ ap (λ (l : List ℕ). take at out ++ l) (sym (append_assoc part next (drop (length part + length next) (drop at out)))))

-- a part that is lent and given back
pub put_back : (at : ℕ) (part out last : List ℕ) → last ≡ over_start part (take (length out - at) (drop at out))
    → given_back out at last ≡ put_at at part out
put_back at part out last e = append-rest out last at ∙ rw (e, take-drop-rest out at)

-- no part
pub put-nil : (at : ℕ) (part out : List ℕ) → part ≡ [] → out ≡ put_at at part out
put-nil at part out e = rw e (sym (take-append-drop at out))

-- The bytes of copied and shifted blocks.
pub flatten-copied : (copies : ℕ) (blocks : List (List ℕ)) → flatten (copied copies blocks) ≡ copied_bytes copies (flatten blocks)
unfolding copied copied_bytes flatten
flatten-copied zero blocks = refl
flatten-copied (suc copies) blocks =
    flatten-append blocks (copied copies blocks) ∙ ap (λ (l : List ℕ). flatten blocks ++ l) (flatten-copied copies blocks)

pub flatten-shifted : (before : ℕ) (blocks : List (List ℕ)) → flatten (shifted before blocks) ≡ map (λ v. before + v) (flatten blocks)
unfolding shifted flatten
flatten-shifted before [] = refl
flatten-shifted before (row ∷ blocks) =
    ap (λ (l : List ℕ). map (λ v. before + v) row ++ l) (flatten-shifted before blocks)
    ∙ sym (map-append (λ v. before + v) row (flatten blocks))
