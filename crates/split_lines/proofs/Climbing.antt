-- How many entries of a line have one further on that is too far above them, counted one after another. Assumes nothing.
use Prim.Native.Nat.{ℕ, suc, ◌+◌, ◌≤◌, ◌<◌}
use native.Mathlib.Numerals.{add-one}
use native.Mathlib.Omega.{arith}
use mathlib.Core.Path.{◌≡◌, refl, sym, ◌∙◌}
use mathlib.Core.Bool.{Bool, true, false, ◌&&◌, true≢false}
use lib.Dec.{eqb}
use Rattle.std.specs.Int.{from_bool}
use borrow.Author.Tests.{eqb-true}
use Rattle.lists.specs.Lists.{tally, count, up_to}
use Rattle.lists.proofs.CountUpTo.{count-up_to-suc, count-up_to-mono}

-- the numbers below i that pass were counted
pub record CountedTo (f : ℕ → Bool) (n i found : ℕ) : Type 0 where
  pub within : i ≤ n
  pub few : found ≤ i
  pub is-count : found ≡ count f (up_to i)

tally-le-one : (b : Bool) → tally b 0 ≤ 1
tally-le-one true = omega arith
tally-le-one false = omega arith

-- a test as a number
pub tally-from : (b : Bool) → from_bool b ≡ tally b 0
tally-from true = refl
tally-from false = refl

module _ {f : ℕ → Bool} {n : ℕ} where
  pub counted_none : CountedTo f n 0 0
  unfolding count up_to
  counted_none = record { within = omega arith; few = omega arith; is-count = refl }

  pub counted_next : {i found more : ℕ} → CountedTo f n i found → i < n → more ≡ tally (f i) 0 → CountedTo f n (i + 1) (found + more)
  counted_next {i} r turn e =
      let l = tally-le-one (f i) in
      let c = r.is-count in
      let g = r.few in
      rw (add-one i)
      (record { within = omega arith; few = omega arith; is-count = let s = count-up_to-suc f i in omega arith })

-- where none is counted, none passes
pub none-count : (f : ℕ → Bool) (n : ℕ) → count f (up_to n) ≡ 0 → (i : ℕ) → i < n → f i ≡ false
none-count f n e i h = go (f i) refl (count-up_to-suc f i)
  where
    go : (b : Bool) → f i ≡ b → count f (up_to (suc i)) ≡ count f (up_to i) + tally (f i) 0 → b ≡ false
    go false q s = refl
    go true q s = let m = count-up_to-mono f (suc i) n h in let t = rw q at s in absurd (omega arith)

-- where it was looked for and found that none is counted
pub none_found : (a : Bool) (n : ℕ) {found : Bool} → found ≡ (a && eqb n 0) → found ≡ true → n ≡ 0
none_found true n e t = eqb-true n 0 (sym e ∙ t)
none_found false n e t = absurd (true≢false (sym t ∙ e))
