-- The joined mu is the least common multiple of the mu's of the packs with blocks. Assumes nothing.
use Prim.Native.Nat.{ℕ, zero, suc, ◌*◌, ◌/◌, ◌≤◌, ◌<◌, ◌∣◌}
use native.Mathlib.Omega.{arith}
use native.Mathlib.Nat.{dvd_refl, dvd_trans, one-dvd, div-mul_cancel}
use mathlib.Core.Path.{◌≡◌}
use mathlib.Core.List.{List, [], ◌∷◌}
use Rattle.lists.specs.Lists.{All}
use Rattle.lists.proofs.Alls.{all-imp}
use Rattle.layers.specs.declared.LayerHead.{LayerHead}
use Rattle.join.specs.Join.{with_mu, joint_mu}
use Rattle.join.proofs.Lcm.{lcm-left, lcm-right, lcm-ge, lcm-divides}

-- where the layer has blocks, its mu is at least 1
abbrev pub MuLeast : LayerHead → Type 0
MuLeast head = 0 < head.size → 1 ≤ head.bound

-- c is a multiple of the layer's mu where it has blocks
abbrev pub MultipleOf : (c : ℕ) → LayerHead → Type 0
MultipleOf c head = 0 < head.size → head.bound ∣ c

pub joint_mu-least : (heads : List LayerHead) → All MuLeast heads → 1 ≤ joint_mu heads
unfolding joint_mu
joint_mu-least [] h = omega arith
joint_mu-least (head ∷ heads) h = go head.size h.0 (joint_mu-least heads h.1)
  where
    go : (m : ℕ) → (0 < m → 1 ≤ head.bound) → 1 ≤ joint_mu heads → 1 ≤ with_mu m head.bound (joint_mu heads)
    go zero l rest = rest
    go (suc m) l rest = let least = l (omega arith) in omega (arith, lcm-ge head.bound (joint_mu heads))

-- a multiple of each
pub joint_mu-multiple : (heads : List LayerHead) → All MuLeast heads → All (MultipleOf (joint_mu heads)) heads
unfolding joint_mu
joint_mu-multiple [] h = tt
joint_mu-multiple (head ∷ heads) h =
    (here head.size, all-imp _ _ (λ other m some. dvd_trans other.bound (m some) (step head.size)) heads (joint_mu-multiple heads h.1))
  where
    rest-least : 1 ≤ joint_mu heads
    rest-least = joint_mu-least heads h.1

    here : (m : ℕ) → 0 < m → head.bound ∣ with_mu m head.bound (joint_mu heads)
    here zero some = absurd (omega arith)
    here (suc m) some = lcm-left head.bound (joint_mu heads)

    step : (m : ℕ) → joint_mu heads ∣ with_mu m head.bound (joint_mu heads)
    step zero = dvd_refl (joint_mu heads)
    step (suc m) = lcm-right head.bound (joint_mu heads) rest-least

-- and it divides every common multiple
pub joint_mu-divides : (heads : List LayerHead) (c : ℕ) → All MuLeast heads → All (MultipleOf c) heads → joint_mu heads ∣ c
unfolding joint_mu
joint_mu-divides [] c h m = one-dvd c
joint_mu-divides (head ∷ heads) c h m =
    go head.size h.0 m.0 (joint_mu-divides heads c h.1 m.1) (joint_mu-least heads h.1)
  where
    go : (size : ℕ) → (0 < size → 1 ≤ head.bound) → (0 < size → head.bound ∣ c) → joint_mu heads ∣ c → 1 ≤ joint_mu heads
        → with_mu size head.bound (joint_mu heads) ∣ c
    go zero l d rest least = rest
    go (suc size) l d rest least =
        lcm-divides head.bound (joint_mu heads) c (l (omega arith)) least (d (omega arith)) rest

-- "until its mu times the copies is the joined mu"
pub copies-times-mu : (mu : ℕ) (head : LayerHead) → MultipleOf mu head → 0 < head.size → mu / head.bound * head.bound ≡ mu
copies-times-mu mu head m some = div-mul_cancel head.bound (m some)
