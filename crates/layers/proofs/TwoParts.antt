-- Numbers written in two parts, the second into the part of the slice that begins after the first. Assumes nothing.
use Prim.Native.Nat.{ℕ, ◌+◌, ◌-◌, ◌≤◌}
use native.Mathlib.Omega.{arith}
use mathlib.Core.Path.{◌≡◌, sym, ◌∙◌, ap}
use mathlib.Core.List.{List, ◌++◌}
use lib.ListN.{length, take, drop, length-append, length-drop}
use Rattle.lists.specs.Lists.{All, over_start}
use Rattle.lists.proofs.Alls.{all-append-left, all-append-right}
use Rattle.lists.proofs.Writing.{given_back, take-drop-rest, write-part}
use Rattle.number.specs.Numbers.{largest_number, forms_of}
use Rattle.number.proofs.Forms.{forms_of-append}

-- what writing numbers gives: how many bytes they take, and the slice afterwards
abbrev pub Wrote : (numbers : List ℕ) (before after : List ℕ) (taken : ℕ) → Type 0
Wrote numbers before after taken = (taken ≡ length (forms_of numbers)) × (after ≡ over_start (forms_of numbers) before)

module _ (one two out₀ : List ℕ) (most : All (λ v. v ≤ largest_number) (one ++ two)) (fits : length (forms_of (one ++ two)) ≤ length out₀) where
  both-length : length (forms_of (one ++ two)) ≡ length (forms_of one) + length (forms_of two)
  both-length = ap length (forms_of-append one two) ∙ length-append (forms_of one) (forms_of two)

  -- what writing the first part asks
  pub first-asked : All (λ v. v ≤ largest_number) one × (length (forms_of one) ≤ length out₀)
  first-asked = (all-append-left (λ v. v ≤ largest_number) one two most, omega (arith, both-length))

  module _ {out : List ℕ} {at : ℕ} (wrote : Wrote one out₀ out at) where
    out-length : length out ≡ length out₀
    out-length = ap length wrote.1 ∙ simp (length-append, length-drop) (omega (arith, both-length))

    -- there is room for the second
    pub second_fits : at + length (forms_of two) ≤ length out
    second_fits = omega (arith, both-length, out-length, wrote.0)

    -- what writing it asks of the part that is lent
    pub second-asked : All (λ v. v ≤ largest_number) two × (length (forms_of two) ≤ length (take (length out - at) (drop at out)))
    second-asked = (
      all-append-right (λ v. v ≤ largest_number) one two most,
      rw (take-drop-rest out at, length-drop at out) (omega (arith, second_fits)),
    )

    -- and both stand there
    module _ {last : List ℕ} {more : ℕ} (then : Wrote two (take (length out - at) (drop at out)) last more) where
      pub both-fit : at + more ≤ length out₀
      both-fit = omega (arith, both-length, wrote.0, then.0)

      pub both-written : Wrote (one ++ two) out₀ (given_back out at last) (at + more)
      both-written =
          let first-length : length (forms_of one) ≡ at = sym wrote.0 in
          let is : out ≡ forms_of one ++ drop at out₀ = rw (← first-length) wrote.1 in
          let end : at + length (forms_of two) ≡ length (forms_of (one ++ two)) = omega (arith, both-length) in (
            omega (arith, both-length, wrote.0, then.0),
            write-part (forms_of one) (forms_of two) out₀ out last at first-length is then.1
                ∙ (λ i. sym (forms_of-append one two) i ++ drop (end i) out₀),
          )
