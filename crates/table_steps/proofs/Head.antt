-- What the lines of the head add, where their numbers stand after those of the head so far. Assumes nothing.
use Prim.Native.Nat.{ℕ, zero, suc, ◌+◌, ◌-◌, ◌≤◌, ◌<◌}
use Rattle.std.specs.Prelude.{Ok, Err}
use native.Mathlib.Omega.{arith}
use native.Mathlib.Numerals.{add-one}
use mathlib.Core.Path.{◌≡◌, refl, ◌∙◌}
use mathlib.Core.Bool.{true, false}
use mathlib.Core.List.{List, [], ◌∷◌, ◌++◌, append_assoc}
use lib.ListN.{length, take, drop, get_or, set, length-drop}
use lib.Seq.{drop-cons, length-take-le, take-suc-set, take-add, take-set-lt, drop-set-lt, get_or-take, get_or-set_same}
use borrow.Author.Tests.{eq-eqb, ne_eqb, lt-ltb, le-ltb, le-leb, lt-leb}
use Rattle.lists.specs.Lists.{All}
use Rattle.lists.proofs.Alls.{all_append, all-imp}
use Rattle.number.specs.Numbers.{largest_number}
use Rattle.packing.specs.Rows.{is_in_order}
use Rattle.table.specs.declared.Progress.{Progress}
use Rattle.table.specs.Told.{unreadable, outside}
use Rattle.table.specs.Reading.{head_taken, add_table, add_out, add_layer}
use Rattle.table.specs.Progress.{Finds, Adds, found_in}
use Rattle.table_steps.proofs.Ordering.{order_below, taken-limits}

-- one and two numbers from a place on
pub take-one : (l : List ℕ) (c : ℕ) → c < length l → take 1 (drop c l) ≡ get_or l c 0 ∷ []
take-one l c h = rw (drop-cons l c 0 h)

pub take-two : (l : List ℕ) (c : ℕ) → c + 1 < length l → take 2 (drop c l) ≡ get_or l c 0 ∷ get_or l (c + 1) 0 ∷ []
take-two l c h = rw (drop-cons l c 0 (omega arith), add-one c, drop-cons l (suc c) 0 (omega arith))

pub all_set : {A : Type 0} (P : A → Type 0) (l : List A) (i : ℕ) (a : A) → All P l → P a → All P (set l i a)
all_set P [] i a h p = tt
all_set P (b ∷ l) zero a h p = (p, h.1)
all_set P (b ∷ l) (suc i) a h p = (h.0, all_set P l i a h.1 p)

module _ (p : Progress) (found : ℕ) (numbers : List ℕ) (finds : Finds p found numbers) where
  -- there is room after the numbers that were found
  pub room_after : p.count + found + 1 < length numbers
  room_after =
      let k = finds.kept in
      omega (arith, finds.room, finds.few, k.count_most, k.layers-most, k.r-most)

  pub found-length : length (found_in p found numbers) ≡ found
  found-length = length-take-le found (drop p.count numbers) (rw length-drop (omega (arith, room_after)))

  pub head-length : length (take p.count numbers) ≡ p.count
  head-length = length-take-le p.count numbers (omega (arith, room_after))

  -- the numbers that were found join the head, and a 0 after them
  joined : take (p.count + found + 1) (set numbers (p.count + found) 0) ≡ take p.count numbers ++ (found_in p found numbers ++ (0 ∷ []))
  joined =
      rw (add-one (p.count + found), take-suc-set numbers (p.count + found) 0 (omega (arith, room_after)), take-add p.count found numbers)
      (append_assoc (take p.count numbers) (found_in p found numbers) (0 ∷ []))

  module _ (line : ℕ) where
    -- a second `table`
    pub table-again : (p.r ≡ 0 → ⊥) → Adds (add_table line (found_in p found numbers)) p numbers (Err (unreadable line)) numbers
    unfolding add_table
    table-again h rows lines = rw (ne_eqb p.r 0 h) refl

    pub table-count : p.r ≡ 0 → (found ≡ 2 → ⊥) → Adds (add_table line (found_in p found numbers)) p numbers (Err (unreadable line)) numbers
    unfolding add_table
    table-count z h rows lines = rw (eq-eqb p.r 0 z, found-length, ne_eqb found 2 h) refl

    module _ (z : p.r ≡ 0) (two : found ≡ 2) where
      pair : found_in p found numbers ≡ get_or numbers p.count 0 ∷ get_or numbers (p.count + 1) 0 ∷ []
      pair = rw two (take-two numbers p.count (omega (arith, room_after)))

      pub table-outside : head_taken (get_or numbers p.count 0) (get_or numbers (p.count + 1) 0) ≡ false
          → Adds (add_table line (found_in p found numbers)) p numbers (Err (outside line)) numbers
      unfolding add_table
      table-outside h rows lines = rw (pair, eq-eqb p.r 0 z, h) refl

      pub table_taken : {n r : ℕ} → n ≡ get_or numbers p.count 0 → r ≡ get_or numbers (p.count + 1) 0 → head_taken n r ≡ true
          → Adds (add_table line (found_in p found numbers)) p numbers
          (Ok (record { n = n; r = r; count = p.count + 3; layers = p.layers; blocks = p.blocks; place = p.place })) (set numbers (p.count + 2) 0)
      unfolding add_table
      table_taken {n} {r} n-is r-is h rows lines =
          let limits = taken-limits n r h in
          let k = finds.kept in
          let first = k.fresh z in
          let none : p.layers ≤ 0 = (rw z at k.layers-most) in
          let e₂ : p.count + found ≡ p.count + 2 = omega arith in
          let e₃ : p.count + 2 + 1 ≡ p.count + 3 = omega arith in
          let whole : take (p.count + 3) (set numbers (p.count + 2) 0) ≡ take p.count numbers ++ ((n ∷ r ∷ []) ++ (0 ∷ [])) =
          (rw (pair, e₂, e₃, ← n-is, ← r-is) at joined) in
          rw (pair, ← n-is, ← r-is, eq-eqb p.r 0 z, h) (
            rw whole refl,
            record {
              n-most = limits.n-most;
              r-most = limits.r-most;
              layers-most = omega (arith, none);
              blocks-most = k.blocks-most;
              place-most = k.place-most;
              fresh = λ e. absurd (omega (arith, limits.r-least));
              begun = λ e. omega (arith, first, none);
              count_most = omega (arith, first);
              numbers-most = rw whole (all_append (λ v. v ≤ largest_number) (take p.count numbers) (n ∷ r ∷ 0 ∷ []) k.numbers-most
                  (omega (arith, limits.n-most), (omega (arith, limits.r-most), (omega arith, tt))));
              size-most = λ e. absurd (omega (arith, none));
            },
          )

    -- `out` before `table`, or after another `out` or the first layer
    pub out-early : (p.count ≡ 4 → ⊥) → Adds (add_out line (found_in p found numbers)) p numbers (Err (unreadable line)) numbers
    unfolding add_out
    out-early h rows lines = rw (head-length, ne_eqb p.count 4 h) refl

    module _ (four : p.count ≡ 4) where
      -- the part of the slice that the code looks at
      part : take (p.count + found - p.count) (drop p.count numbers) ≡ found_in p found numbers
      part = let e : p.count + found - p.count ≡ found = omega arith in rw e

      pub out-outside : is_in_order p.n (take (p.count + found - p.count) (drop p.count numbers)) ≡ false
          → Adds (add_out line (found_in p found numbers)) p numbers (Err (outside line)) numbers
      unfolding add_out
      out-outside h rows lines = rw (head-length, eq-eqb p.count 4 four, rw part at h) refl

      pub out-taken : is_in_order p.n (take (p.count + found - p.count) (drop p.count numbers)) ≡ true
          → Adds (add_out line (found_in p found numbers)) p numbers
          (Ok (record { n = p.n; r = p.r; count = p.count + found; layers = p.layers; blocks = p.blocks; place = p.place })) (set numbers 3 found)
      unfolding add_out
      out-taken h rows lines =
          let k = finds.kept in
          let order : is_in_order p.n (found_in p found numbers) ≡ true = rw part at h in
          let small = all-imp (λ v. v < p.n) (λ v. v ≤ largest_number) (λ v b. omega (arith, k.n-most)) (found_in p found numbers)
          (order_below p.n (found_in p found numbers) order) in
          let whole : take (p.count + found) (set numbers 3 found) ≡ set (take p.count numbers) 3 found ++ found_in p found numbers =
          take-add p.count found (set numbers 3 found)
          ∙ rw (take-set-lt p.count numbers 3 found (omega arith), drop-set-lt p.count numbers 3 found (omega arith)) in
          let none : p.layers ≤ 0 = layers-none in
          rw (head-length, eq-eqb p.count 4 four, order, found-length) (
            rw whole refl,
            record {
              n-most = k.n-most;
              r-most = k.r-most;
              layers-most = k.layers-most;
              blocks-most = k.blocks-most;
              place-most = k.place-most;
              fresh = λ e. absurd (let one = k.fresh e in omega arith);
              begun = λ e. omega (arith, none);
              count_most = omega (arith, finds.few);
              numbers-most = rw whole (all_append (λ v. v ≤ largest_number) (set (take p.count numbers) 3 found) (found_in p found numbers)
                  (all_set (λ v. v ≤ largest_number) (take p.count numbers) 3 found k.numbers-most (omega (arith, finds.few))) small);
              size-most = λ e. absurd (omega (arith, none));
            },
          )
        where
          layers-none : p.layers ≤ 0
          layers-none = go p.r refl
            where
              go : (r : ℕ) → p.r ≡ r → p.layers ≤ 0
              go zero e = rw e at finds.kept.layers-most
              go (suc r) e = let b = finds.kept.begun (omega arith) in omega arith

    -- a `mu` too many, or too early
    pub layer-late : p.r ≤ p.layers → Adds (add_layer line (found_in p found numbers)) p numbers (Err (unreadable line)) numbers
    unfolding add_layer
    layer-late h rows lines = rw (le-ltb p.layers p.r h) refl

    module _ (due : p.layers < p.r) where
      pub layer-count : (found ≡ 1 → ⊥) → Adds (add_layer line (found_in p found numbers)) p numbers (Err (unreadable line)) numbers
      unfolding add_layer
      layer-count h rows lines = rw (lt-ltb p.layers p.r due, found-length, ne_eqb found 1 h) refl

      module _ (one : found ≡ 1) where
        single : found_in p found numbers ≡ get_or numbers p.count 0 ∷ []
        single = rw one (take-one numbers p.count (omega (arith, room_after)))

        pub layer-low : get_or numbers p.count 0 < 1 → Adds (add_layer line (found_in p found numbers)) p numbers (Err (outside line)) numbers
        unfolding add_layer
        layer-low h rows lines = rw (single, lt-ltb p.layers p.r due, lt-leb 1 (get_or numbers p.count 0) h) refl

        module _ (low : 1 ≤ get_or numbers p.count 0) where
          pub layer-high : 4_096 < get_or numbers p.count 0 → Adds (add_layer line (found_in p found numbers)) p numbers (Err (outside line)) numbers
          unfolding add_layer
          layer-high h rows lines =
              rw (single, lt-ltb p.layers p.r due, le-leb 1 (get_or numbers p.count 0) low, lt-leb (get_or numbers p.count 0) 4_096 h) refl

          pub layer-taken : get_or numbers p.count 0 ≤ 4_096
              → Adds (add_layer line (found_in p found numbers)) p numbers
              (Ok (record { n = p.n; r = p.r; count = p.count + 2; layers = p.layers + 1; blocks = p.blocks; place = p.place }))
              (set numbers (p.count + 1) 0)
          unfolding add_layer
          layer-taken high rows lines =
              let k = finds.kept in
              let mu = get_or numbers p.count 0 in
              let begun = k.begun (omega arith) in
              let e₁ : p.count + found ≡ p.count + 1 = omega arith in
              let e₂ : p.count + 1 + 1 ≡ p.count + 2 = omega arith in
              let e₃ : p.count + 2 - 1 ≡ p.count + 1 = omega arith in
              let whole : take (p.count + 2) (set numbers (p.count + 1) 0) ≡ take p.count numbers ++ ((mu ∷ []) ++ (0 ∷ [])) =
              (rw (single, e₁, e₂) at joined) in
              let last : get_or (take (p.count + 2) (set numbers (p.count + 1) 0)) (p.count + 1) 0 ≡ 0 =
              get_or-take (p.count + 2) (set numbers (p.count + 1) 0) (p.count + 1) 0 (omega arith)
              ∙ get_or-set_same numbers (p.count + 1) 0 0 (omega (arith, room_after)) in
              rw (single, lt-ltb p.layers p.r due, le-leb 1 mu low, le-leb mu 4_096 high) (
                rw (whole, add-one p.layers) refl,
                record {
                  n-most = k.n-most;
                  r-most = k.r-most;
                  layers-most = omega arith;
                  blocks-most = k.blocks-most;
                  place-most = k.place-most;
                  fresh = λ e. absurd (omega arith);
                  begun = λ e. omega (arith, begun);
                  count_most = omega (arith, k.count_most);
                  numbers-most = rw whole (all_append (λ v. v ≤ largest_number) (take p.count numbers) (mu ∷ 0 ∷ []) k.numbers-most
                      (omega arith, (omega arith, tt)));
                  size-most = λ e. rw (e₃, last) (omega arith);
                },
              )
