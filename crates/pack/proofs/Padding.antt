-- Request (b): packs that differ only in the padding of their first numbers are both accepted or both refused. Assumes nothing.
use Prim.Native.Nat.{ℕ, ◌+◌, ◌*◌, ◌-◌, ◌≤◌, ◌<◌}
use native.Mathlib.Omega.{arith}
use mathlib.Core.Path.{◌≡◌, refl, ap}
use mathlib.Core.Bool.{Bool, true, false}
use mathlib.Core.List.{List}
use lib.ListN.{length, get_or, drop, length-drop}
use lib.Dec.{leb}
use borrow.Author.Tests.{leb-true, leb-false}
use Rattle.refusal.specs.Agree.{Agree, both-accepted}
use Rattle.refusal.proofs.Agree.{agree-bind, agree-map}
use Rattle.layers.specs.Layers.{Site, list_numbers, list_size}
use Rattle.layers.specs.declared.FileKind.TheVariants.{Pack as PackKind}
use Rattle.layers.proofs.Padding.{Padded, read_base-padded, read_layers-padded}
use Rattle.layers.proofs.RowsPadding.{check_rows-padded}
use Rattle.pack.specs.Pack.{pack_layer_limits, read_pack, check_pack}

-- after the kind, n, r and the list at most two numbers for each of r layers are left
layers-left : (vs : List ℕ) (r list : ℕ) → length vs ≤ 3 + list_size vs + 2 * get_or vs 2 0 → (2 < length vs → r ≡ get_or vs 2 0)
    → (3 < length vs → list ≡ list_size vs) → length (drop (3 + list) vs) ≤ r * 2
layers-left vs r list most third size = rw (length-drop (3 + list) vs) (go (leb (length vs) 3) refl)
  where
    go : (b : Bool) → leb (length vs) 3 ≡ b → length vs - (3 + list) ≤ r * 2
    go true e = let few = leb-true (length vs) 3 e in omega arith
    go false e =
        let many = leb-false (length vs) 3 e in
        let r-is = third (omega arith) in
        let list-is = size many in
        omega arith

-- The head has 3 + 2r numbers, and those of the list: where the first of them are the same, and the same bytes follow them, so is the answer.
pub read_pack-padded : (vs s s' : List ℕ) → length vs ≤ 3 + list_size vs + 2 * get_or vs 2 0 → Padded vs s s' 0 0
    → Agree (λ file file'. file.content ≡ file'.content) (read_pack s) (read_pack s')
unfolding read_pack
read_pack-padded vs s s' most p =
    agree-bind _ _ (read_base-padded s s' PackKind vs p) λ head head' r₁.
    let list = length (list_numbers head.kind head.base.dark) in
    let left = layers-left vs head.base.r list most r₁.third r₁.size in
    let r-is : head.base.r ≡ head'.base.r = ap (λ (b : Site). b.r) r₁.base in
    rw
    r₁.base
    (agree-bind _ _
    (read_layers-padded s s' pack_layer_limits head'.base.r 4_096 (drop (3 + list) vs) head.next head'.next (rw r-is at left) r₁.after)
    λ numbers numbers' r₂.
    rw
    r₂.heads
    (agree-bind _ _ (check_rows-padded s s' head'.base numbers'.heads numbers.next numbers'.next r₂.after)
    λ layers layers' same.
    both-accepted (ap (λ l. record { n = head'.base.n; r = head'.base.r; dark = head'.base.dark; layers = l }) same)))

-- the pack alone
pub check_pack-padded : (vs s s' : List ℕ) → length vs ≤ 3 + list_size vs + 2 * get_or vs 2 0 → Padded vs s s' 0 0
    → Agree (λ pack pack'. pack ≡ pack') (check_pack s) (check_pack s')
unfolding check_pack
check_pack-padded vs s s' most p = agree-map _ _ (read_pack-padded vs s s' most p) λ file file' same. same
