-- A pack's check is the same for a long enough beginning of the bytes, such as a program's buffer. Assumes nothing.
use Prim.Native.Nat.{ℕ, ◌≤◌, ◌<◌}
use native.Mathlib.Omega.{arith}
use mathlib.Core.Path.{◌≡◌, refl, ap}
use mathlib.Core.List.{List}
use lib.ListN.{length, take}
use Rattle.refusal.specs.Checked.{map_accepted}
use Rattle.refusal.proofs.Checked.{bind_congr}
use Rattle.lists.proofs.Prefixes.{take-elim}
use Rattle.layers.specs.declared.FileKind.TheVariants.{Pack as PackKind}
use Rattle.layers.proofs.Heads.{held-of-read_base}
use Rattle.layers.proofs.Prefix.{read_base-next, read_base-take, read_layers-take, layers-take}
use Rattle.pack.specs.Pack.{pack_layer_limits, read_pack, check_pack}

-- 3 numbers, 256 of the list and 2 for each of 5 layers, of 4 bytes each, and 4,096 rows of 5 bytes. Four is the most that any form
-- of a number has, so numbers that are padded (request (b)) are within it too.
within-reach : (m : ℕ) (s : List ℕ) → 21_556 < m → m ≤ length s → read_pack (take m s) ≡ read_pack s
unfolding read_pack
within-reach m s h long =
    bind_congr _ _ _ _ (read_base-take m s long PackKind (omega arith)) λ head e₁.
    let at₁ = read_base-next PackKind (take m s) e₁ in
    let most = (held-of-read_base PackKind (take m s) e₁).limits.r-most in
    bind_congr _ _ _ _ (read_layers-take m s long pack_layer_limits head.base.r 4_096 head.next (omega arith)) λ numbers e₂.
    bind_congr _ _ _ _ (layers-take pack_layer_limits head.base head.base.r 4_096 s head.next m long e₂ (omega arith)) λ layers e₃.
    refl

-- No byte after the first m is looked at.
pub read_pack-take : (m : ℕ) (s : List ℕ) → 21_556 < m → read_pack (take m s) ≡ read_pack s
read_pack-take m s h = take-elim read_pack m s (within-reach m s h)

pub check_pack-take : (m : ℕ) (s : List ℕ) → 21_556 < m → check_pack (take m s) ≡ check_pack s
unfolding check_pack
check_pack-take m s h = ap (map_accepted (λ file. file.content)) (read_pack-take m s h)

-- A program reads 32,768 bytes: the rest of its input changes nothing, also where every number of the head is padded.
pub check_pack-buffer : (s : List ℕ) → check_pack (take 32_768 s) ≡ check_pack s
check_pack-buffer s = check_pack-take 32_768 s (omega arith)
