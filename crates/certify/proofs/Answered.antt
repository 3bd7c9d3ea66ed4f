-- What the code's answers say of reading bare rows. Assumes nothing.
use Prim.Native.Nat.{ℕ, ◌+◌, ◌*◌, ◌≤◌, ◌<◌}
use Rattle.std.specs.Prelude.{⊤, Result, Ok, Err}
use native.Mathlib.Omega.{arith}
use native.Mathlib.Nat.{le_of_lt}
use mathlib.Core.Path.{◌≡◌, refl, sym, ◌∙◌, ap}
use mathlib.Core.List.{List, flatten}
use lib.ListN.{length, drop}
use borrow.Author.Tests.{le-leb, lt-leb}
use Rattle.lists.proofs.Alls.{all-imp}
use Rattle.refusal.specs.declared.Refusal.{Refusal}
use Rattle.refusal.specs.declared.Refusal.TheVariants.{Ended, Trailing}
use Rattle.refusal.specs.Checked.{Checked, accepted, refused, ◌>>=◌, verdict}
use Rattle.refusal.proofs.Answered.{answered-err, answered-ok}
use Rattle.packing.specs.Rows.{rows_at}
use Rattle.layers.specs.Layers.{Site, BaseReading, Located, check_length, check_end, check_ascending, check_service}
use Rattle.layers.specs.Answers.{dark_of, dark_list, site_of, base_of, DarkFits, base_read}
use Rattle.layers.specs.declared.BaseRead.{BaseRead}
use Rattle.layers.proofs.Listing.{dark-below, dark-count, dark_list-dark_of}
use Rattle.layers.proofs.NumbersRead.{reads-le-length}
use Rattle.placement.specs.Placement.{OrderLimits}
use Rattle.certify.specs.Answers.{order_read, bare_read}
use Rattle.certify.specs.Bare.{Bare, GoodBare, OrderReading, read_start, read_order, check_bare_rows, read_bare, check_bare}
use Rattle.certify.specs.declared.OrderRead.{OrderRead}
use Rattle.certify.specs.declared.BareRead.{BareRead}
use Rattle.certify.proofs.Accepted.{StartHeld, order_numbers, start_numbers, held-of-read_start, held-of-read_order, read-of-bare}

-- the start was read: its numbers are the code's, and within their limits
pub record StartGood (bytes : List ℕ) (read : BaseRead) : Type 0 where
  pub accepts : read_start bytes ≡ accepted (record { kind = 7; base = site_of read.base; next = read.next })
  pub array : read.base.dark ≡ dark_of (dark_list read.base.dark)
  pub fits : DarkFits read.base.dark
  pub held : StartHeld bytes (record { kind = 7; base = site_of read.base; next = read.next })
  pub inside : read.next ≤ length bytes

pub start-good : (bytes : List ℕ) {given : Result BaseRead Refusal} {read : BaseRead} → given ≡ base_read (read_start bytes)
    → given ≡ Ok read → StartGood bytes read
start-good bytes {read = read} is good = let (b, r, a) = answered-ok _ (read_start bytes) is good in go b r a
  where
    go : (b : BaseReading) → read_start bytes ≡ accepted b → read ≡ record { kind = b.kind; base = base_of b.base; next = b.next }
        → StartGood bytes read
    go b r a =
        let held = held-of-read_start bytes r in
        let n-most = held.limits.n-most in
        let count = dark-count b.base.n b.base.dark held.dark.ordered in
        let few : length b.base.dark ≤ 255 = omega arith in
        let list : dark_list read.base.dark ≡ b.base.dark =
        ap (λ (r : BaseRead). dark_list r.base.dark) a ∙ dark_list-dark_of b.base.dark few in
        let seven = held.seven in
        let same : ◌≡◌ {A = BaseReading} b (record { kind = 7; base = site_of read.base; next = read.next }) =
        rw (list, a, ← seven) refl in
        record {
          accepts = r ∙ ap accepted same;
          array = ap (λ (r : BaseRead). r.base.dark) a ∙ ap dark_of (sym list);
          fits =
              record {
                few = rw a few;
                bytes = rw list (all-imp (λ v. v < b.base.n) (λ v. v < 256) (λ v h. omega arith) b.base.dark (dark-below b.base.n b.base.dark held.dark.ordered));
              };
          held = rw (← same) held;
          inside = rw a (reads-le-length (start_numbers b.base) bytes 0 b.next (omega arith) held.reads);
        }

pub order-good : (m : Checked OrderReading) {given : Result OrderRead Refusal} {read : OrderRead} → given ≡ order_read m
    → given ≡ Ok read → m ≡ accepted (record { order = read.order; next = read.next })
order-good m is good = let (o, r, a) = answered-ok _ m is good in rw a r

-- The answers of checking the rows: 1 or 5 for their length, then 6 over all rows, then 15.
module _ (base : Site) (b : ℕ) (s : List ℕ) (at : ℕ) where
  pub rows_short : length s < at + b * base.r → Err (Ended (length s)) ≡ verdict (check_bare_rows base b s at)
  unfolding check_length check_bare_rows
  rows_short h = rw (lt-leb (at + b * base.r) (length s) h)

  pub rows_long : at + b * base.r < length s → Err (Trailing (at + b * base.r)) ≡ verdict (check_bare_rows base b s at)
  unfolding check_length check_end check_bare_rows
  rows_long h = rw (le-leb (at + b * base.r) (length s) (le_of_lt h), lt-leb (length s) (at + b * base.r) h)

  module _ (ends : at + b * base.r ≡ length s) where
    -- a last check says what is said with what is handed on after it
    last : {A : Type 0} (m : Checked Unit) (a : A) → verdict m ≡ verdict (m >>= λ u. accepted a)
    last (accepted u) a = refl
    last (refused e) a = refl

    pub rows-unordered : {e : Refusal} → check_ascending base at (rows_at base.r b (drop at s)) ≡ refused e
        → Err e ≡ verdict (check_bare_rows base b s at)
    unfolding check_length check_end check_bare_rows
    rows-unordered why =
        rw (le-leb (at + b * base.r) (length s) (omega arith), le-leb (length s) (at + b * base.r) (omega arith), why)

    pub rows_last : {u : Unit} {answer : Result ⊤ Refusal} → check_ascending base at (rows_at base.r b (drop at s)) ≡ accepted u
        → answer ≡ verdict (check_service base at (rows_at base.r b (drop at s)))
        → answer ≡ verdict (check_bare_rows base b s at)
    unfolding check_length check_end check_bare_rows
    rows_last order is =
        rw (le-leb (at + b * base.r) (length s) (omega arith), le-leb (length s) (at + b * base.r) (omega arith), order)
        (is ∙ last (check_service base at (rows_at base.r b (drop at s))) (rows_at base.r b (drop at s)))

-- The cases of reading bare rows.
module _ (bytes : List ℕ) where
  pub no_start : {e : Refusal} → read_start bytes ≡ refused e → read_bare bytes ≡ refused e
  unfolding read_bare
  no_start h = rw h

  module _ {start : BaseReading} (b : read_start bytes ≡ accepted start) where
    pub no-order : {e : Refusal} → read_order start.base bytes start.next ≡ refused e → read_bare bytes ≡ refused e
    unfolding read_bare
    no-order h = rw (b, h)

    module _ {numbers : OrderReading} (o : read_order start.base bytes start.next ≡ accepted numbers) where
      -- what checking the rows asks
      pub order-within : (2 ≤ start.base.n) → OrderLimits start.base.n start.base.r numbers.order
      order-within two = (held-of-read_order start.base bytes start.next o two).1

      pub order-inside : 2 ≤ start.base.n → start.next ≤ length bytes → numbers.next ≤ length bytes
      order-inside two inside =
          reads-le-length (order_numbers numbers.order) bytes start.next numbers.next inside
          (held-of-read_order start.base bytes start.next o two).0

      pub no_rows : {e : Refusal} → check_bare_rows start.base numbers.order.b bytes numbers.next ≡ refused e → read_bare bytes ≡ refused e
      unfolding read_bare
      no_rows h = rw (b, o, h)

      pub all_read : {rows : List (List ℕ)} → check_bare_rows start.base numbers.order.b bytes numbers.next ≡ accepted rows
          → read_bare bytes
          ≡ accepted (record { content = record { base = start.base; order = numbers.order; rows = rows }; first = numbers.next })
      unfolding read_bare
      all_read h = rw (b, o, h)

-- the answer where all is read and good
pub all-answered : (bytes : List ℕ) (start : BaseRead) (numbers : OrderRead) {rows : List (List ℕ)} → StartGood bytes start
    → read_order (site_of start.base) bytes start.next ≡ accepted (record { order = numbers.order; next = numbers.next })
    → check_bare_rows (site_of start.base) numbers.order.b bytes numbers.next ≡ accepted rows
    → Ok (record { base = start.base; order = numbers.order; first = numbers.next }) ≡ bare_read (read_bare bytes)
all-answered bytes start numbers g o taken =
    (λ i. Ok
    (record {
      base = record { n = start.base.n; r = start.base.r; dark = g.array i };
      order = numbers.order;
      first = numbers.next;
    }))
    ∙ sym (ap bare_read (all_read bytes g.accepts o taken))

-- What the answer of reading bare rows says: a refusal,
pub bare-refused : (bytes : List ℕ) {given : Result BareRead Refusal} {e : Refusal} → given ≡ bare_read (read_bare bytes) → given ≡ Err e
    → check_bare bytes ≡ refused e
unfolding check_bare
bare-refused bytes is why = rw (answered-err _ (read_bare bytes) is why)

-- or the bare rows that were read: the code's numbers, good, in the bytes from `first` to the end
pub record BareFound (bytes : List ℕ) (read : BareRead) : Type 0 where
  pub bare : Bare
  pub found : check_bare bytes ≡ accepted bare
  pub good : GoodBare bare
  pub base-is : read.base ≡ base_of bare.base
  pub order_is : read.order ≡ bare.order
  pub inside : read.first ≤ length bytes
  pub rest : drop read.first bytes ≡ flatten bare.rows

pub bare-found : (bytes : List ℕ) {given : Result BareRead Refusal} {read : BareRead} → given ≡ bare_read (read_bare bytes)
    → given ≡ Ok read → BareFound bytes read
unfolding check_bare
bare-found bytes {read = read} is good = let (file, r, a) = answered-ok _ (read_bare bytes) is good in go file r a
  where
    go : (file : Located Bare) → read_bare bytes ≡ accepted file
        → read ≡ record { base = base_of file.content.base; order = file.content.order; first = file.first } → BareFound bytes read
    go file r a =
        let (f, g) = read-of-bare bytes file.content file.first r in
        record {
          bare = file.content;
          found = rw r refl;
          good = g;
          base-is = ap (λ (r : BareRead). r.base) a;
          order_is = ap (λ (r : BareRead). r.order) a;
          inside = rw a f.inside;
          rest = rw a f.rest;
        }
