-- Counts that are taken: as a test, and as the counts of a split. Assumes nothing.
use Prim.Native.Nat.{ℕ, zero, suc, ◌+◌, ◌*◌, ◌≤◌, ◌<◌, zero-le}
use native.Mathlib.Nat.{not-suc-le-zero, eq-zero-or-pos}
use native.Mathlib.Omega.{arith}
use mathlib.Core.Path.{◌≡◌, refl, sym, ◌∙◌}
use mathlib.Core.Logic.{◌⊎◌, inl, inr}
use mathlib.Core.Bool.{Bool, true, false, ◌&&◌}
use mathlib.Core.List.{List, [], ◌∷◌}
use lib.ListN.{length, get_or, take, get_or-eq_default}
use lib.Dec.{T, eqb, ltb}
use borrow.Author.Tests.{eq-eqb, ne_eqb, eqb-true, lt-ltb, le-ltb, ltb-true}
use Rattle.lists.specs.Lists.{All, every, total, up_to}
use Rattle.lists.proofs.Alls.{all-append-left, all-append-right, every-all, all-every}
use Rattle.lists.proofs.Arith.{le-or-lt, pos-of-le-mul}
use Rattle.lists.proofs.Tests.{T_true, true-T, and_left, and_right, and_both, or_cases}
use Rattle.lists.proofs.UpTo.{all-up_to}
use Rattle.layers.specs.Layers.{sizes}
use Rattle.layers.specs.declared.LayerHead.{LayerHead}
use Rattle.split.specs.Splits.{Share, Split, layer_at, split_heads, copies_for, counts_split}
use Rattle.split.proofs.Copies.{le-copies_for-mul}
use Rattle.split.proofs.Heads.{sizes-suc}
use Rattle.commit.specs.Committing.{Taken, layer_takes, counts_taken}

-- what holds of all numbers below n holds of each
up_to-all : (P : ℕ → Type 0) (n : ℕ) → All P (up_to n) → (i : ℕ) → i < n → P i
unfolding up_to
up_to-all P zero h i l = absurd (not-suc-le-zero l)
up_to-all P (suc n) h i l = go (le-or-lt n i) (up_to-all P n (all-append-left P (up_to n) (n ∷ []) h) i)
  where
    go : (n ≤ i) ⊎ (i < n) → (i < n → P i) → P i
    go (inl g) ih = let e : i ≡ n = omega arith in rw e (all-append-right P (up_to n) (n ∷ []) h).0
    go (inr g) ih = ih g

-- an entry that is not 0 is within the list
pub within : (l : List ℕ) (x : ℕ) → 0 < get_or l x 0 → x < length l
within l x h = go (le-or-lt (length l) x)
  where
    go : (length l ≤ x) ⊎ (x < length l) → x < length l
    go (inl g) = let e = get_or-eq_default l 0 {n = x} g in absurd (omega arith)
    go (inr g) = g

-- a layer takes c records exactly where c is 0, or it is below s and has blocks
module _ (layers : List LayerHead) (s x c : ℕ) where
  pub takes_none : c ≡ 0 → layer_takes layers s x c ≡ true
  takes_none e = rw (e, eq-eqb 0 0 refl)

  pub takes-not-below : 0 < c → s ≤ x → layer_takes layers s x c ≡ false
  takes-not-below h g = rw (ne_eqb c 0 (λ e. omega arith), le-ltb x s g)

  pub takes-some : 0 < c → x < s → layer_takes layers s x c ≡ ltb 0 (layer_at layers x).size
  takes-some h g = rw (ne_eqb c 0 (λ e. omega arith), lt-ltb x s g)

  pub takes-placed : T (layer_takes layers s x c) → 0 < c → (x < s) × (0 < (layer_at layers x).size)
  takes-placed t h = go (or_cases (eqb c 0) (ltb x s && ltb 0 (layer_at layers x).size) t)
    where
      go : T (eqb c 0) ⊎ T (ltb x s && ltb 0 (layer_at layers x).size) → (x < s) × (0 < (layer_at layers x).size)
      go (inl z) = let e = eqb-true c 0 (true-T (eqb c 0) z) in absurd (omega arith)
      go (inr b) = (
        ltb-true x s (true-T (ltb x s) (and_left (ltb x s) (ltb 0 (layer_at layers x).size) b)),
        ltb-true 0 (layer_at layers x).size
            (true-T (ltb 0 (layer_at layers x).size) (and_right (ltb x s) (ltb 0 (layer_at layers x).size) b)),
      )

  pub placed-takes : (0 < c → (x < s) × (0 < (layer_at layers x).size)) → T (layer_takes layers s x c)
  placed-takes h = go (eq-zero-or-pos c)
    where
      go : (c ≡ 0) ⊎ (0 < c) → T (layer_takes layers s x c)
      go (inl e) = T_true (takes_none e)
      go (inr p) = T_true (takes-some p (h p).0 ∙ lt-ltb 0 (layer_at layers x).size (h p).1)

-- the test says the same
module _ (layers : List LayerHead) (s b : ℕ) (counts : List ℕ) where
  abbrev takes : ℕ → Bool
  takes x = layer_takes layers s x (get_or counts x 0)

  pub taken-test : Taken layers s b counts → counts_taken layers s b counts ≡ true
  unfolding counts_taken
  taken-test t =
      true-T _
      (and_both (eqb (total counts) b) (every takes (up_to (length counts)))
      (T_true (eq-eqb (total counts) b t.sum))
      (all-every takes (up_to (length counts))
      (all-up_to _ (length counts) (λ x h. placed-takes layers s x (get_or counts x 0) (t.placed x)))))

  pub test-taken : counts_taken layers s b counts ≡ true → Taken layers s b counts
  unfolding counts_taken
  test-taken e =
      let both = T_true e in
      let sums = and_left (eqb (total counts) b) (every takes (up_to (length counts))) both in
      let each = and_right (eqb (total counts) b) (every takes (up_to (length counts))) both in
      let all = up_to-all _ (length counts) (every-all takes (up_to (length counts)) each) in
      record {
        sum = eqb-true (total counts) b (true-T _ sums);
        placed = λ x h. takes-placed layers s x (get_or counts x 0) (all x (within counts x h)) h;
      }

-- the sum of the first counts, one more at a time, also past the end
pub total-take-suc : (l : List ℕ) (x : ℕ) → total (take (suc x) l) ≡ total (take x l) + get_or l x 0
unfolding total
total-take-suc [] zero = refl
total-take-suc [] (suc x) = refl
total-take-suc (c ∷ l) zero = omega arith
total-take-suc (c ∷ l) (suc x) = let rest = total-take-suc l x in omega arith

pub total-take-le : (l : List ℕ) (x : ℕ) → total (take x l) ≤ total l
unfolding total
total-take-le l zero = zero-le
total-take-le [] (suc x) = zero-le
total-take-le (c ∷ l) (suc x) = let rest = total-take-le l x in omega arith

-- where the entries from s on are 0 the first s have the whole sum
total-take-all : (l : List ℕ) (s : ℕ) → ((x : ℕ) → s ≤ x → get_or l x 0 ≡ 0) → total (take s l) ≡ total l
unfolding total
total-take-all [] zero h = refl
total-take-all [] (suc s) h = refl
total-take-all (c ∷ l) zero h =
    let first = h 0 zero-le in let rest = total-take-all l zero (λ x g. h (suc x) zero-le) in omega arith
total-take-all (c ∷ l) (suc s) h = let rest = total-take-all l s (λ x g. h (suc x) (omega arith)) in omega arith

-- a split's counts sum to the first entries of a list that has them
sizes-split : (layers : List LayerHead) (counts : List ℕ) (split : ℕ → Share) (x : ℕ)
    → ((y : ℕ) → y < x → (split y).count ≡ get_or counts y 0) → sizes (split_heads layers x split) ≡ total (take x counts)
unfolding up_to total
sizes-split layers counts split zero h = refl
sizes-split layers counts split (suc x) h =
    let e = sizes-suc layers x split in
    let ih = sizes-split layers counts split x (λ y l. h y (omega arith)) in
    let last = h x (omega arith) in
    let t = total-take-suc counts x in
    omega arith

module _ {layers : List LayerHead} {s b : ℕ} {counts : List ℕ} where
  -- from s on there are no records
  pub taken_none : Taken layers s b counts → (x : ℕ) → s ≤ x → get_or counts x 0 ≡ 0
  taken_none t x h = go (eq-zero-or-pos (get_or counts x 0))
    where
      go : (get_or counts x 0 ≡ 0) ⊎ (0 < get_or counts x 0) → get_or counts x 0 ≡ 0
      go (inl e) = e
      go (inr p) = absurd (let g = (t.placed x p).0 in omega arith)

  -- counts that are taken are a split's, with the least copies
  pub taken-split : Taken layers s b counts → Split layers s b (counts_split layers counts)
  taken-split t =
      record {
        held = λ x l. fits x (eq-zero-or-pos (get_or counts x 0));
        sum =
            sizes-split layers counts (counts_split layers counts) s (λ y l. refl)
            ∙ total-take-all counts s (taken_none t)
            ∙ t.sum;
      }
    where
      fits : (x : ℕ) → (get_or counts x 0 ≡ 0) ⊎ (0 < get_or counts x 0)
          → get_or counts x 0 ≤ copies_for (get_or counts x 0) (layer_at layers x).size * (layer_at layers x).size
      fits x (inl e) = rw e zero-le
      fits x (inr p) = le-copies_for-mul (get_or counts x 0) (layer_at layers x).size (t.placed x p).1

  -- and the counts of any split are taken
  pub split-taken : (split : ℕ → Share) → Split layers s b split → ((x : ℕ) → x < s → (split x).count ≡ get_or counts x 0)
      → ((x : ℕ) → s ≤ x → get_or counts x 0 ≡ 0) → Taken layers s b counts
  split-taken split is same none =
      record {
        sum = sym (total-take-all counts s none) ∙ sym (sizes-split layers counts split s same) ∙ is.sum;
        placed = λ x h. go x h (le-or-lt s x);
      }
    where
      go : (x : ℕ) → 0 < get_or counts x 0 → (s ≤ x) ⊎ (x < s) → (x < s) × (0 < (layer_at layers x).size)
      go x h (inl g) = let e = none x g in absurd (omega arith)
      go x h (inr l) =
          (l, pos-of-le-mul (split x).count (split x).copies (layer_at layers x).size (is.held x l) (rw (same x l) h))
