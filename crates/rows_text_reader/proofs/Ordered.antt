-- What the line of s and k adds, where its numbers stand after those of the head so far. Assumes nothing.
use Prim.Native.Nat.{ℕ, ◌+◌, ◌-◌, ◌≤◌, ◌<◌}
use Rattle.std.specs.Prelude.{Ok, Err}
use native.Mathlib.Omega.{arith}
use native.Mathlib.Numerals.{add-one}
use mathlib.Core.Path.{◌≡◌, refl, ◌∙◌}
use mathlib.Core.Bool.{true, false, ◌&&◌}
use mathlib.Core.List.{List, [], ◌∷◌, ◌++◌, append_assoc}
use lib.ListN.{length, take, drop, get_or, set}
use lib.Dec.{leb, ltb}
use lib.Seq.{take-suc-set, take-add, get_or-take, get_or-set_same}
use borrow.Author.Tests.{eq-eqb, ne_eqb, lt-ltb, le-ltb, ltb-true, leb-true}
use Rattle.lists.proofs.Alls.{all_append}
use Rattle.lists.proofs.Tests.{T_true, true-T, and_left, and_right}
use Rattle.number.specs.Numbers.{largest_number}
use Rattle.table.specs.declared.Progress.{Progress}
use Rattle.table.specs.Told.{unreadable, outside}
use Rattle.table.specs.Progress.{Finds, Adds, found_in}
use Rattle.table_steps.proofs.Head.{take-two, room_after, found-length, head-length}
use Rattle.rows_text.specs.Reading.{order_taken, add_order}

-- what is taken is within these limits
pub record OrderKept (n r numbers s k : ℕ) : Type 0 where
  pub some-node : numbers < 4 + n
  pub s-most : s ≤ r
  pub k-most : k < n

pub order-kept : (n r numbers s k : ℕ) → order_taken n r numbers s k ≡ true → OrderKept n r numbers s k
unfolding order_taken
order-kept n r numbers s k e =
    let t₁ = T_true e in
    let a = ltb numbers (4 + n) in
    let t₂ = and_right a (leb 1 s && (leb s r && (leb s k && ltb k n))) t₁ in
    let t₃ = and_right (leb 1 s) (leb s r && (leb s k && ltb k n)) t₂ in
    let t₄ = and_right (leb s r) (leb s k && ltb k n) t₃ in
    record {
      some-node = ltb-true numbers (4 + n) (true-T a (and_left a (leb 1 s && (leb s r && (leb s k && ltb k n))) t₁));
      s-most = leb-true s r (true-T (leb s r) (and_left (leb s r) (leb s k && ltb k n) t₃));
      k-most = ltb-true k n (true-T (ltb k n) (and_right (leb s k) (ltb k n) t₄));
    }

module _ (p : Progress) (found : ℕ) (numbers : List ℕ) (finds : Finds p found numbers) (line : ℕ) where
  -- before `rows`
  pub order-early : p.r ≡ 0 → Adds (add_order line (found_in p found numbers)) p numbers (Err (unreadable line)) numbers
  unfolding add_order
  order-early z rows lines = rw (le-ltb 0 p.r (omega arith)) refl

  module _ (some-r : p.r ≡ 0 → ⊥) where
    -- a second `order`
    pub order-again : (p.layers ≡ 0 → ⊥) → Adds (add_order line (found_in p found numbers)) p numbers (Err (unreadable line)) numbers
    unfolding add_order
    order-again h rows lines = rw (lt-ltb 0 p.r (omega arith), ne_eqb p.layers 0 h) refl

    module _ (none : p.layers ≡ 0) where
      pub order-count : (found ≡ 2 → ⊥) → Adds (add_order line (found_in p found numbers)) p numbers (Err (unreadable line)) numbers
      unfolding add_order
      order-count h rows lines =
          rw (lt-ltb 0 p.r (omega arith), eq-eqb p.layers 0 none, found-length p found numbers finds, ne_eqb found 2 h) refl

      module _ (two : found ≡ 2) where
        abbrev s : ℕ
        s = get_or numbers p.count 0

        abbrev k : ℕ
        k = get_or numbers (p.count + 1) 0

        room : p.count + found + 1 < length numbers
        room = room_after p found numbers finds

        pair : found_in p found numbers ≡ s ∷ k ∷ []
        pair = rw two (take-two numbers p.count (omega (arith, room)))

        pub order-outside : order_taken p.n p.r p.count s k ≡ false
            → Adds (add_order line (found_in p found numbers)) p numbers (Err (outside line)) numbers
        unfolding add_order
        order-outside h rows lines =
            rw (pair, lt-ltb 0 p.r (omega arith), eq-eqb p.layers 0 none, head-length p found numbers finds, h) refl

        pub order-added : order_taken p.n p.r p.count s k ≡ true
            → Adds (add_order line (found_in p found numbers)) p numbers
            (Ok (record { n = p.n; r = p.r; count = p.count + 3; layers = 1; blocks = p.blocks; place = p.place }))
            (set numbers (p.count + 2) 0)
        unfolding add_order
        order-added h rows lines =
            let kept = finds.kept in
            let limits = order-kept p.n p.r p.count s k h in
            let begun = kept.begun (omega arith) in
            let e₁ : p.count + 2 + 1 ≡ p.count + 3 = omega arith in
            let e₃ : p.count + 3 - 1 ≡ p.count + 2 = omega arith in
            let two-found : take 2 (drop p.count numbers) ≡ s ∷ k ∷ [] = take-two numbers p.count (omega (arith, room)) in
            let whole : take (p.count + 3) (set numbers (p.count + 2) 0) ≡ take p.count numbers ++ ((s ∷ k ∷ []) ++ (0 ∷ [])) =
            (rw (← e₁, add-one (p.count + 2), take-suc-set numbers (p.count + 2) 0 (omega (arith, room)), take-add p.count 2 numbers, two-found)
            (append_assoc (take p.count numbers) (s ∷ k ∷ []) (0 ∷ []))) in
            let last : get_or (take (p.count + 3) (set numbers (p.count + 2) 0)) (p.count + 2) 0 ≡ 0 =
            get_or-take (p.count + 3) (set numbers (p.count + 2) 0) (p.count + 2) 0 (omega arith)
            ∙ get_or-set_same numbers (p.count + 2) 0 0 (omega (arith, room)) in
            rw (pair, lt-ltb 0 p.r (omega arith), eq-eqb p.layers 0 none, head-length p found numbers finds, h) (
              rw whole refl,
              record {
                n-most = kept.n-most;
                r-most = kept.r-most;
                layers-most = omega arith;
                blocks-most = kept.blocks-most;
                place-most = kept.place-most;
                fresh = λ e. absurd (some-r e);
                begun = λ e. omega (arith, begun);
                count_most = omega (arith, limits.some-node, kept.n-most);
                numbers-most = rw whole (all_append (λ v. v ≤ largest_number) (take p.count numbers) (s ∷ k ∷ 0 ∷ []) kept.numbers-most
                    (omega (arith, limits.s-most, kept.r-most), (omega (arith, limits.k-most, kept.n-most), (omega arith, tt))));
                size-most = λ e. rw (e₃, last) (omega arith);
              },
            )
