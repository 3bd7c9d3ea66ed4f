-- The check of bare rows is the same for a long enough beginning of the bytes, such as a program's buffer. Assumes nothing.
use Prim.Native.Nat.{ℕ, zero, suc, ◌+◌, ◌*◌, ◌-◌, ◌≤◌, ◌<◌, min}
use native.Mathlib.Omega.{arith}
use native.Mathlib.Nat.{mul-le-mul}
use mathlib.Core.Path.{◌≡◌, refl, ap}
use mathlib.Core.List.{List}
use lib.ListN.{length, take}
use lib.Seq.{length-take-le}
use lib.Dec.{eqb}
use borrow.Author.Tests.{le-leb, lt-leb}
use Rattle.lists.proofs.Prefixes.{take-elim}
use Rattle.refusal.specs.Checked.{accepted, map_accepted}
use Rattle.refusal.specs.declared.Refusal.TheVariants.{WrongKind}
use Rattle.refusal.proofs.Checked.{bind_congr, bind-elim, accepted-injective, require-bind-accepted}
use Rattle.number.specs.declared.Reading.{Reading}
use Rattle.number.specs.Numbers.{read_number}
use Rattle.number.proofs.Laws.{read_next, read-local}
use Rattle.number.proofs.Within.{read-of-read_within}
use Rattle.layers.specs.Layers.{Site, BaseReading, list_numbers, read_nodes, read_list, read_dark, check_length, check_end}
use Rattle.layers.proofs.Listing.{dark-count}
use Rattle.layers.proofs.NumbersRead.{reads-next}
use Rattle.layers.proofs.Prefix.{read_within-next, read_within-take}
use Rattle.certify.specs.Bare.{read_seven, read_start, read_order, check_bare_rows, read_bare, check_bare}
use Rattle.certify.proofs.Accepted.{start_numbers, order_numbers, held-of-read_start, held-of-read_order}

-- the place after the list: of 259 numbers at most
start-next : (s : List ℕ) {b : BaseReading} → read_start s ≡ accepted b → b.next ≤ 1_036
unfolding list_numbers
start-next s {b} e =
    let held = held-of-read_start s e in
    let count = dark-count b.base.n b.base.dark held.dark.ordered in
    let most = held.limits.n-most in
    omega (arith, reads-next (start_numbers b.base) s 0 b.next held.reads)

seven-next : (s : List ℕ) {first : Reading} → read_seven s ≡ accepted first → first.next ≤ 4
unfolding read_seven
seven-next s e =
    bind-elim (read_number s 0) _ e λ number read rest.
    let (test, same) = require-bind-accepted (eqb number.value 7) WrongKind _ rest in
    let is : number ≡ _ = accepted-injective same in
    let next = read_next s 0 read in
    rw (← is) (omega arith)

module _ (m : ℕ) (s : List ℕ) (long : m ≤ length s) where
  -- a number that starts four bytes or more before m is read from the first m bytes
  read_nodes-take : (n left lo at : ℕ) → at + left * 4 ≤ m → read_nodes n left lo (take m s) at ≡ read_nodes n left lo s at
  unfolding read_nodes
  read_nodes-take n zero lo at h = refl
  read_nodes-take n (suc left) lo at h =
      bind_congr _ _ _ _ (read_within-take m s long lo (n - 1) at (omega arith)) λ node e₁.
      let next = read_within-next lo (n - 1) (take m s) at e₁ in
      bind_congr _ _ _ _ (read_nodes-take n left (suc node.value) node.next (omega arith)) (λ rest e₂. refl)

  read_dark-take : (n at : ℕ) → n ≤ 255 → at + 1_024 ≤ m → read_dark 5 n (take m s) at ≡ read_dark 5 n s at
  unfolding read_dark read_list
  read_dark-take n at few h =
      bind_congr _ _ _ _ (read_within-take m s long 0 n at (omega arith)) λ count e₁.
      let next = read_within-next 0 n (take m s) at e₁ in
      let most = (read-of-read_within 0 n (take m s) at e₁).2 in
      read_nodes-take n count.value 0 count.next (omega arith)

  read_seven-take : 4 ≤ m → read_seven (take m s) ≡ read_seven s
  unfolding read_seven
  read_seven-take h = rw (read-local m s 0 (omega arith) long)

  read_start-take : 1_036 ≤ m → read_start (take m s) ≡ read_start s
  unfolding read_start read_seven
  read_start-take h =
      bind_congr _ _ _ _ (read_seven-take (omega arith)) λ first e₁.
      let next₁ = seven-next (take m s) e₁ in
      bind_congr _ _ _ _ (read_within-take m s long 2 255 first.next (omega arith)) λ n e₂.
      let next₂ = read_within-next 2 255 (take m s) first.next e₂ in
      let few = (read-of-read_within 2 255 (take m s) first.next e₂).2 in
      bind_congr _ _ _ _ (read_within-take m s long 2 (min 5 n.value) n.next (omega arith)) λ r e₃.
      let next₃ = read_within-next 2 (min 5 n.value) (take m s) n.next e₃ in
      bind_congr _ _ _ _ (read_dark-take n.value r.next few (omega arith)) (λ list e₄. refl)

  read_order-take : (base : Site) (at : ℕ) → at + 12 ≤ m → read_order base (take m s) at ≡ read_order base s at
  unfolding read_order
  read_order-take base at h =
      bind_congr _ _ _ _ (read_within-take m s long 1 base.r at (omega arith)) λ first e₁.
      let at₁ = read_within-next 1 base.r (take m s) at e₁ in
      bind_congr _ _ _ _ (read_within-take m s long first.value (base.n - 1) first.next (omega arith)) λ k e₂.
      let at₂ = read_within-next first.value (base.n - 1) (take m s) first.next e₂ in
      bind_congr _ _ _ _ (read_within-take m s long 1 4_096 k.next (omega arith)) (λ b e₃. refl)

  -- rows that end before m: the bytes from there to m are trailing, and so are all
  rows_take : (base : Site) (b at : ℕ) → at + b * base.r < m → check_bare_rows base b (take m s) at ≡ check_bare_rows base b s at
  unfolding check_bare_rows check_length check_end
  rows_take base b at h =
      let end = at + b * base.r in
      rw (
        length-take-le m s long,
        le-leb end m (omega arith),
        lt-leb m end h,
        le-leb end (length s) (omega arith),
        lt-leb (length s) end (omega arith),
      )

  within-reach : 21_528 < m → read_bare (take m s) ≡ read_bare s
  unfolding read_bare
  within-reach h =
      bind_congr _ _ _ _ (read_start-take (omega arith)) λ start e₁.
      let at₁ = start-next (take m s) e₁ in
      let base = (held-of-read_start (take m s) e₁).limits in
      bind_congr _ _ _ _ (read_order-take start.base start.next (omega arith)) λ numbers e₂.
      let (reads, limits) = held-of-read_order start.base (take m s) start.next e₂ base.n-least in
      let at₂ = reads-next (order_numbers numbers.order) (take m s) start.next numbers.next reads in
      let rows : numbers.order.b * start.base.r ≤ 4_096 * 5 = mul-le-mul limits.b-most base.r-most in
      bind_congr _ _ _ _ (rows_take start.base numbers.order.b numbers.next (omega arith)) (λ rows e₃. refl)

-- 262 numbers of at most four bytes, and 4,096 rows of 5 bytes: no byte after the first m is looked at
pub check_bare-take : (m : ℕ) (s : List ℕ) → 21_528 < m → check_bare (take m s) ≡ check_bare s
unfolding check_bare
check_bare-take m s h = ap (map_accepted (λ file. file.content)) (take-elim read_bare m s (λ long. within-reach m s long h))

-- A program reads 32,768 bytes: the rest of its input changes nothing.
pub check_bare-buffer : (s : List ℕ) → check_bare (take 32_768 s) ≡ check_bare s
check_bare-buffer s = check_bare-take 32_768 s (omega arith)
