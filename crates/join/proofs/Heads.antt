-- The joined mu's and m's as the code finds them: layer by layer, a mu above 4,096 as 4,097. Assumes nothing.
use Prim.Native.Nat.{ℕ, zero, suc, ◌+◌, ◌*◌, ◌≤◌, ◌<◌, min, max}
use native.Mathlib.Omega.{arith}
use native.Mathlib.Numerals.{add-one}
use mathlib.Core.Path.{◌≡◌, refl, sym, ◌∙◌, ap}
use mathlib.Core.List.{List, [], ◌∷◌, ◌++◌, map, map-append}
use lib.ListN.{get_or, set}
use Rattle.lists.specs.Lists.{largest, total, up_to}
use Rattle.lists.proofs.Counts.{total-append}
use Rattle.lists.proofs.UpTo.{map-up_to-suc, length-map-up_to}
use Rattle.layers.specs.Layers.{sizes}
use Rattle.layers.specs.Answers.{no_head, five_heads}
use Rattle.layers.specs.declared.LayerHead.{LayerHead}
use Rattle.layers.proofs.Arrays.{five-snoc}
use Rattle.join.specs.Lcm.{lcm}
use Rattle.join.specs.Join.{with_mu, joint_mu}
use Rattle.join.specs.Estate.{HeadFits, HeadsFit, joint_size, capped_head, heads_at, capped_heads}
use Rattle.join.proofs.Lcm.{lcm-ge}
use Rattle.join.proofs.Search.{capped-with_mu, part-most}

pub with_mu-some : (m mu rest : ℕ) → 0 < m → with_mu m mu rest ≡ lcm mu rest
with_mu-some zero mu rest h = absurd (omega arith)
with_mu-some (suc m) mu rest h = refl

pub with_mu-least : (head : LayerHead) (rest : ℕ) → HeadFits head → 1 ≤ rest → 1 ≤ with_mu head.size head.bound rest
with_mu-least head rest fits some = go head.size fits.mu-least
  where
    go : (m : ℕ) → (0 < m → 1 ≤ head.bound) → 1 ≤ with_mu m head.bound rest
    go zero least = some
    go (suc m) least = let l = least (omega arith) in omega (arith, lcm-ge head.bound rest)

-- the multiple found pack by pack, the last first
module _ (a b c : LayerHead) (fa : HeadFits a) (fb : HeadFits b) (fc : HeadFits c) {last rest mu : ℕ}
    (last-is : last ≡ min (with_mu c.size c.bound 1) 4_097)
    (rest-is : rest ≡ min (with_mu b.size b.bound last) 4_097)
    (mu-is : mu ≡ min (with_mu a.size a.bound rest) 4_097) where
  least-c : 1 ≤ with_mu c.size c.bound 1
  least-c = with_mu-least c 1 fc (omega arith)

  rest-joint : rest ≡ min (joint_mu (b ∷ c ∷ [])) 4_097
  unfolding joint_mu
  rest-joint =
      rest-is
      ∙ ap (λ l. min (with_mu b.size b.bound l) 4_097) last-is
      ∙ capped-with_mu b (with_mu c.size c.bound 1) fb least-c

  pub mu-joint : mu ≡ min (joint_mu (a ∷ b ∷ c ∷ [])) 4_097
  unfolding joint_mu
  mu-joint =
      mu-is
      ∙ ap (λ l. min (with_mu a.size a.bound l) 4_097) rest-joint
      ∙ capped-with_mu a (joint_mu (b ∷ c ∷ [])) fa (with_mu-least b (with_mu c.size c.bound 1) fb least-c)

  -- and the rows with that mu
  pub head-joint : {size : ℕ} → size ≡ joint_size mu (a ∷ []) + joint_size mu (b ∷ []) + joint_size mu (c ∷ [])
      → ◌≡◌ {A = LayerHead} (record { bound = mu; size = size }) (capped_head (a ∷ b ∷ c ∷ []))
  unfolding joint_size
  head-joint {size} size_is =
      let rows : size ≡ joint_size mu (a ∷ b ∷ c ∷ []) = omega arith in
      rw (rows, mu-joint)

pub size-most : (mu : ℕ) (head : LayerHead) → mu ≤ 4_097 → HeadFits head → joint_size mu (head ∷ []) ≤ 16_781_312
unfolding joint_size
size-most mu head few fits = omega (arith, part-most mu head few fits)

-- The layers below x.
largest-snoc : (l : List ℕ) (n : ℕ) → largest (l ++ (n ∷ [])) ≡ max (largest l) n
unfolding largest
largest-snoc [] n = omega arith
largest-snoc (m ∷ l) n = let rest = largest-snoc l n in omega arith

module _ (a b c : List LayerHead) where
  capped-suc : (x : ℕ) → capped_heads (x + 1) a b c ≡ capped_heads x a b c ++ (capped_head (heads_at x a b c) ∷ [])
  capped-suc x = rw (add-one x) (map-up_to-suc (λ y. capped_head (heads_at y a b c)) x)

  -- what is found of the layers below x
  pub record HeadsFound (r : ℕ) (heads : List LayerHead) (most rows x : ℕ) : Type 0 where
    pub within : x ≤ r
    pub heads-are : heads ≡ five_heads (capped_heads x a b c)
    pub most-is : most ≡ largest (map (λ head. head.bound) (capped_heads x a b c))
    pub rows_are : rows ≡ sizes (capped_heads x a b c)
    pub rows_few : rows ≤ x * 50_343_936

  pub heads-none : (r : ℕ) → HeadsFound r (five_heads []) 0 0 0
  unfolding up_to largest total
  heads-none r = record { within = omega arith; heads-are = refl; most-is = refl; rows_are = refl; rows_few = omega arith }

  capped-most : (x : ℕ) → HeadsFit a → HeadsFit b → HeadsFit c → (capped_head (heads_at x a b c)).size ≤ 50_343_936
  unfolding joint_size
  capped-most x fa fb fc =
      let mu = min (joint_mu (heads_at x a b c)) 4_097 in
      let few : mu ≤ 4_097 = omega arith in
      omega (
        arith,
        part-most mu (get_or a x no_head) few (fa x),
        part-most mu (get_or b x no_head) few (fb x),
        part-most mu (get_or c x no_head) few (fc x),
      )

  pub next-few : {r : ℕ} {heads : List LayerHead} {most rows x : ℕ} → HeadsFound r heads most rows x
      → HeadsFit a → HeadsFit b → HeadsFit c → r ≤ 5 → x < r
      → (head : LayerHead) → head ≡ capped_head (heads_at x a b c) → rows + head.size ≤ 251_719_680
  next-few {x = x} f fa fb fc few below head is = rw is (omega (arith, capped-most x fa fb fc, f.rows_few))

  pub heads-next : {r : ℕ} {heads : List LayerHead} {most rows x : ℕ} → HeadsFound r heads most rows x
      → HeadsFit a → HeadsFit b → HeadsFit c → r ≤ 5 → x < r
      → (head : LayerHead) → head ≡ capped_head (heads_at x a b c) → (top : ℕ) → top ≡ max most head.bound
      → HeadsFound r (set heads x head) top (rows + head.size) (x + 1)
  unfolding total
  heads-next {r} {heads} {most} {rows} {x} f fa fb fc few below head is top top-is =
      let so_far = capped_heads x a b c in
      record {
        within = omega arith;
        heads-are =
            ap (λ l. set l x head) f.heads-are
            ∙ five-snoc no_head so_far x head (length-map-up_to _ x) (omega arith)
            ∙ ap (λ h. five_heads (so_far ++ (h ∷ []))) is
            ∙ ap five_heads (sym (capped-suc x));
        most-is =
            top-is
            ∙ rw (f.most-is, is, capped-suc x, map-append (λ h. h.bound) so_far (capped_head (heads_at x a b c) ∷ []))
            (sym (largest-snoc (map (λ h. h.bound) so_far) (capped_head (heads_at x a b c)).bound));
        rows_are =
            rw (is, capped-suc x, map-append (λ h. h.size) so_far (capped_head (heads_at x a b c) ∷ []), total-append (map (λ h. h.size) so_far))
            (omega (arith, f.rows_are));
        rows_few = rw is (omega (arith, capped-most x fa fb fc, f.rows_few));
      }
