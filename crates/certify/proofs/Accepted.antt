-- A file of bare rows is accepted exactly where it has the layout, within the limits, with rows in order that name no node out of
-- service. Assumes nothing.
use Prim.Native.Nat.{ℕ, ◌+◌, ◌*◌, ◌-◌, ◌≤◌, min}
use native.Mathlib.Omega.{arith}
use native.Mathlib.Nat.{zero-add}
use mathlib.Core.Path.{◌≡◌, refl, sym, ◌∙◌, ap, subst}
use mathlib.Core.Logic.{◌↔◌}
use mathlib.Core.List.{List, [], ◌∷◌, ◌++◌, flatten, append-nil}
use lib.ListN.{length, take, drop, length-append, length-drop, take-append-drop}
use lib.Seq.{take_all, drop-append_seam}
use lib.Dec.{T, leb, eqb}
use borrow.Author.Tests.{leb-true, le-leb, eqb-true}
use Rattle.lists.specs.Lists.{All}
use Rattle.lists.proofs.Alls.{all_append, all_both, all-imp, length-flatten}
use Rattle.refusal.specs.declared.Refusal.TheVariants.{WrongKind, Ended, Trailing, BadRow, OutOfService}
use Rattle.refusal.specs.Checked.{accepted}
use Rattle.refusal.proofs.Checked.{accepted-injective, bind-elim, require-bind-accepted, map_accepted-accepted}
use Rattle.number.specs.Numbers.{Bytes, largest_number, forms_of, read_number, read_within}
use Rattle.number.specs.declared.Reading.{Reading}
use Rattle.number.proofs.Within.{read-of-read_within, read_within-accepted}
use Rattle.number.proofs.Forms.{forms-of}
use Rattle.packing.specs.Rows.{Row, is_in_order, rows_at, first_bad}
use Rattle.packing.proofs.RowsAt.{length-rows_at, flatten-rows_at, rows_at-lengths, rows_at-flatten}
use Rattle.packing.proofs.Test.{good-iff-in-order}
use Rattle.layers.specs.Layers.{Site, BaseReading, BaseLimits, DarkLimits, InService, list_numbers, read_dark, first_naming, check_length, check_end, check_ascending, check_service}
use Rattle.layers.proofs.Listing.{reads-of-read_dark, read_dark-accepted, list-most}
use Rattle.layers.proofs.NumbersRead.{Reads, reads-append, reads-split, reads-forms, forms-reads}
use Rattle.layers.proofs.RowsChecked.{refuse_row-bind-accepted}
use Rattle.layers.proofs.Service.{service-iff}
use Rattle.placement.specs.Placement.{OrderLimits}
use Rattle.placement.specs.declared.Order.{Order}
use Rattle.certify.specs.Bare.{Bare, BareFile, GoodBare, OrderReading, bare_numbers, read_seven, read_start, read_order, check_bare_rows, read_bare, check_bare, bare_bytes}

-- the numbers of the start, and those after them
abbrev pub start_numbers : Site → List ℕ
start_numbers base = 7 ∷ base.n ∷ base.r ∷ list_numbers 5 base.dark

abbrev pub order_numbers : Order → List ℕ
order_numbers order = order.s ∷ order.k ∷ order.b ∷ []

read-of-read_seven : (bytes : List ℕ) {first : Reading} → read_seven bytes ≡ accepted first
    → read_number bytes 0 ≡ accepted (record { value = 7; next = first.next })
unfolding read_seven
read-of-read_seven bytes {first} e =
    bind-elim (read_number bytes 0) _ e λ number read rest.
    let (test, same) = require-bind-accepted (eqb number.value 7) WrongKind _ rest in
    let is : number ≡ first = accepted-injective same in
    let seven : number.value ≡ 7 = eqb-true number.value 7 test in
    read ∙ (λ i. accepted (record { value = seven i; next = (is i).next }))

-- "the number 7; n; r; the count and list": accepted exactly where they are read and within their limits
pub record StartHeld (bytes : List ℕ) (start : BaseReading) : Type 0 where
  pub reads : Reads (start_numbers start.base) bytes 0 start.next
  pub limits : BaseLimits start.base.n start.base.r
  pub dark : DarkLimits 5 start.base.n start.base.dark
  pub seven : start.kind ≡ 7

pub held-of-read_start : (bytes : List ℕ) {start : BaseReading} → read_start bytes ≡ accepted start → StartHeld bytes start
unfolding read_start
held-of-read_start bytes e =
    bind-elim (read_seven bytes) _ e λ first e₁ r₁.
    bind-elim (read_within 2 255 bytes first.next) _ r₁ λ n e₂ r₂.
    bind-elim (read_within 2 (min 5 n.value) bytes n.next) _ r₂ λ r e₃ r₃.
    bind-elim (read_dark 5 n.value bytes r.next) _ r₃ λ list e₄ r₄.
    let (read₂, n-least, n-most) = read-of-read_within 2 255 bytes first.next e₂ in
    let (read₃, r-least, r-most) = read-of-read_within 2 (min 5 n.value) bytes n.next e₃ in
    let (read₄, dark) = reads-of-read_dark 5 n.value bytes r.next (omega arith) e₄ in
    subst
    (StartHeld bytes)
    (accepted-injective r₄)
    (record {
      reads = (first.next, read-of-read_seven bytes e₁, (n.next, read₂, (r.next, read₃, read₄)));
      limits =
          record { n-least = omega arith; n-most = omega arith; r-least = omega arith; r-most = omega arith; r-nodes = omega arith };
      dark = dark;
      seven = refl;
    })

pub read_start-accepted : (base : Site) (bytes : List ℕ) (next : ℕ) → Reads (start_numbers base) bytes 0 next
    → BaseLimits base.n base.r → DarkLimits 5 base.n base.dark
    → read_start bytes ≡ accepted (record { kind = 7; base = base; next = next })
unfolding read_start read_seven
read_start-accepted base bytes next (p, read₁, (q, read₂, (t, read₃, list))) l d =
    rw (
      read₁,
      read_within-accepted 2 255 bytes p read₂ (omega (arith, l.n-least)) (omega (arith, l.n-most)),
      read_within-accepted 2 (min 5 base.n) bytes q read₃ (omega (arith, l.r-least)) (omega (arith, l.r-most, l.r-nodes)),
      read_dark-accepted 5 base.n bytes t base.dark next list d,
    )

-- "s; k; b"
pub held-of-read_order : (base : Site) (bytes : List ℕ) (at : ℕ) {read : OrderReading} → read_order base bytes at ≡ accepted read
    → 2 ≤ base.n
    → Reads (order_numbers read.order) bytes at read.next × OrderLimits base.n base.r read.order
unfolding read_order
held-of-read_order base bytes at e two =
    bind-elim (read_within 1 base.r bytes at) _ e λ s e₁ r₁.
    bind-elim (read_within s.value (base.n - 1) bytes s.next) _ r₁ λ k e₂ r₂.
    bind-elim (read_within 1 4_096 bytes k.next) _ r₂ λ b e₃ r₃.
    let (s_read, s-least, s-most) = read-of-read_within 1 base.r bytes at e₁ in
    let (k-read, k-least, k-most) = read-of-read_within s.value (base.n - 1) bytes s.next e₂ in
    let (b-read, b-least, b-most) = read-of-read_within 1 4_096 bytes k.next e₃ in
    subst
    (λ read. Reads (order_numbers read.order) bytes at read.next × OrderLimits base.n base.r read.order)
    (accepted-injective r₃) (
      (s.next, s_read, (k.next, k-read, (b.next, b-read, refl))),
      record {
        s-least = s-least;
        s-most = s-most;
        k-least = k-least;
        k-most = omega arith;
        b-least = b-least;
        b-most = b-most;
      },
    )

pub read_order-accepted : (base : Site) (order : Order) (bytes : List ℕ) (at next : ℕ) → Reads (order_numbers order) bytes at next
    → OrderLimits base.n base.r order → read_order base bytes at ≡ accepted (record { order = order; next = next })
unfolding read_order
read_order-accepted base order bytes at next (at₁, read₁, (at₂, read₂, (at₃, read₃, e))) o =
    rw (
      read_within-accepted 1 base.r bytes at read₁ o.s-least o.s-most,
      read_within-accepted order.s (base.n - 1) bytes at₁ read₂ o.k-least (omega (arith, o.k-most)),
      read_within-accepted 1 4_096 bytes at₂ read₃ o.b-least o.b-most,
      e,
    )

-- the b rows that start at `at` and end with the bytes, in order, none naming a node out of service
pub record BareTaken (base : Site) (b : ℕ) (bytes : List ℕ) (at : ℕ) (rows : List (List ℕ)) : Type 0 where
  pub number : length rows ≡ b
  pub inside : at ≤ length bytes
  pub rest : drop at bytes ≡ flatten rows
  pub are-rows : All (Row base.n base.r) rows
  pub in-service : InService base.dark rows

pub taken-of-check_bare_rows : (base : Site) (b : ℕ) (bytes : List ℕ) (at : ℕ) {rows : List (List ℕ)}
    → check_bare_rows base b bytes at ≡ accepted rows → BareTaken base b bytes at rows
unfolding check_length check_end check_ascending check_service check_bare_rows
taken-of-check_bare_rows base b bytes at e =
    let rows = rows_at base.r b (drop at bytes) in
    let end = at + b * base.r in
    let (t₁, e₁) = require-bind-accepted (leb end (length bytes)) (Ended (length bytes)) _ e in
    let (t₂, e₂) = require-bind-accepted (leb (length bytes) end) (Trailing end) _ e₁ in
    let (t₃, e₃) = refuse_row-bind-accepted BadRow base.r at (first_bad base.n rows) _ e₂ in
    let (t₄, e₄) = refuse_row-bind-accepted OutOfService base.r at (first_naming base.dark rows) _ e₃ in
    let least = leb-true end (length bytes) t₁ in
    let most = leb-true (length bytes) end t₂ in
    let long : length (drop at bytes) ≡ b * base.r = rw length-drop (omega arith) in
    let lengths = rows_at-lengths base.r b (drop at bytes) (omega arith) in
    let ordered = (good-iff-in-order base.n rows).0 t₃ in
    subst
    (BareTaken base b bytes at)
    (accepted-injective e₄)
    (record {
      number = length-rows_at base.r b (drop at bytes);
      inside = omega arith;
      rest = sym (flatten-rows_at base.r b (drop at bytes) ∙ take_all (b * base.r) (drop at bytes) (omega arith));
      are-rows = all_both (λ row. length row ≡ base.r) (λ row. T (is_in_order base.n row)) rows lengths ordered;
      in-service = (service-iff base.dark rows).0 t₄;
    })

check_bare_rows-accepted : (base : Site) (b : ℕ) (bytes : List ℕ) (at : ℕ) {rows : List (List ℕ)}
    → BareTaken base b bytes at rows → check_bare_rows base b bytes at ≡ accepted rows
unfolding check_length check_end check_ascending check_service check_bare_rows
check_bare_rows-accepted base b bytes at {rows} h =
    let lengths = all-imp (Row base.n base.r) (λ row. length row ≡ base.r) (λ row g. g.0) rows h.are-rows in
    let ordered = all-imp (Row base.n base.r) (λ row. T (is_in_order base.n row)) (λ row g. g.1) rows h.are-rows in
    let len = length-flatten base.r rows lengths ∙ ap (λ c. c * base.r) h.number in
    let d = ap length h.rest in
    let ends : length bytes ≡ at + b * base.r = omega (arith, length-drop at bytes, h.inside) in
    let taken : rows_at base.r b (drop at bytes) ≡ rows =
    rw (h.rest, ← append-nil (flatten rows), ← h.number) (rows_at-flatten base.r rows [] lengths) in
    rw (
      le-leb (at + b * base.r) (length bytes) (omega arith),
      le-leb (length bytes) (at + b * base.r) (omega arith),
      taken,
      (good-iff-in-order base.n rows).1 ordered,
      (service-iff base.dark rows).1 h.in-service,
    )

-- the head's numbers are read from the start, and the rows stand from `first` to the end
pub record BareReads (q : Bare) (bytes : List ℕ) (first : ℕ) : Type 0 where
  pub reads : Reads (bare_numbers q) bytes 0 first
  pub inside : first ≤ length bytes
  pub rest : drop first bytes ≡ flatten q.rows

pub read-of-bare : (bytes : List ℕ) (q : Bare) (first : ℕ) → read_bare bytes ≡ accepted (record { content = q; first = first })
    → BareReads q bytes first × GoodBare q
unfolding read_bare
read-of-bare bytes q first e =
    bind-elim (read_start bytes) _ e λ start e₁ r₁.
    bind-elim (read_order start.base bytes start.next) _ r₁ λ numbers e₂ r₂.
    bind-elim (check_bare_rows start.base numbers.order.b bytes numbers.next) _ r₂ λ rows e₃ r₃.
    let held = held-of-read_start bytes e₁ in
    let (reads, limits) = held-of-read_order start.base bytes start.next e₂ held.limits.n-least in
    let taken = taken-of-check_bare_rows start.base numbers.order.b bytes numbers.next e₃ in
    subst
    (λ file. BareReads file.content bytes file.first × GoodBare file.content)
    (accepted-injective r₃) (
      record {
        reads = reads-append (start_numbers start.base) (order_numbers numbers.order) bytes 0 start.next numbers.next held.reads reads;
        inside = taken.inside;
        rest = taken.rest;
      },
      record {
        base = held.limits;
        dark = held.dark;
        order = limits;
        records-all = taken.number;
        rows = taken.are-rows;
        in-service = taken.in-service;
      },
    )

pub bare-accepted : (bytes : List ℕ) (q : Bare) (first : ℕ) → BareReads q bytes first → GoodBare q
    → read_bare bytes ≡ accepted (record { content = q; first = first })
unfolding read_bare
bare-accepted bytes q first f g =
    let (at, reads₁, reads₂) = reads-split (start_numbers q.base) (order_numbers q.order) bytes 0 first f.reads in
    let taken : BareTaken q.base q.order.b bytes first q.rows =
    record { number = g.records-all; inside = f.inside; rest = f.rest; are-rows = g.rows; in-service = g.in-service } in
    rw (
      read_start-accepted q.base bytes at reads₁ g.base g.dark,
      read_order-accepted q.base q.order bytes at first reads₂ g.order,
      check_bare_rows-accepted q.base q.order.b bytes first taken,
    )

-- the bare rows that were accepted are good
pub checked-good : (bytes : List ℕ) (q : Bare) → check_bare bytes ≡ accepted q → GoodBare q
unfolding check_bare
checked-good bytes q e =
    let (file, read, same) = map_accepted-accepted (λ file. file.content) (read_bare bytes) e in
    subst GoodBare same (read-of-bare bytes file.content file.first read).1

pub file-reads : (q : Bare) (bytes : List ℕ) → BareFile q bytes → (first : ℕ) × BareReads q bytes first
file-reads q bytes (h, forms, whole) = (
  length h,
  record {
    reads = rw whole (rw zero-add at (forms-reads (bare_numbers q) [] h (flatten q.rows) forms));
    inside = let l = ap length whole in omega (arith, length-append h (flatten q.rows));
    rest = rw whole (drop-append_seam h (flatten q.rows));
  },
)

-- a file of bare rows is accepted exactly where it has the layout and they are good
pub bare-accepted-iff : (bytes : List ℕ) (q : Bare) → Bytes bytes → (check_bare bytes ≡ accepted q) ↔ (BareFile q bytes × GoodBare q)
unfolding check_bare
bare-accepted-iff bytes q b = (to, from)
  where
    to : check_bare bytes ≡ accepted q → BareFile q bytes × GoodBare q
    to e =
        let (file, read, same) = map_accepted-accepted (λ file. file.content) (read_bare bytes) e in
        let (f, g) = read-of-bare bytes q file.first (read ∙ (λ i. accepted (record { content = same i; first = file.first }))) in
        let whole = sym (take-append-drop file.first bytes) ∙ ap (λ l. take file.first bytes ++ l) f.rest in
        ((take file.first bytes, reads-forms (bare_numbers q) bytes 0 file.first b (omega arith) f.reads, whole), g)

    from : BareFile q bytes × GoodBare q → check_bare bytes ≡ accepted q
    from (is-file, g) =
        let (first, f) = file-reads q bytes is-file in
        rw (bare-accepted bytes q first f g) refl

-- the numbers of a head within its limits can be written
pub numbers-most : (q : Bare) → BaseLimits q.base.n q.base.r → DarkLimits 5 q.base.n q.base.dark
    → OrderLimits q.base.n q.base.r q.order → All (λ v. v ≤ largest_number) (bare_numbers q)
numbers-most q b d o = (
  omega arith,
  (
    omega arith,
    (
      omega arith,
      all_append (λ v. v ≤ largest_number) (list_numbers 5 q.base.dark) (order_numbers q.order)
          (list-most q.base.n q.base.dark b.n-most d.ordered 5)
          (omega arith, (omega arith, (omega arith, tt))),
    ),
  ),
)

-- good bare rows as a file are accepted
module _ (q : Bare) (good : GoodBare q) where
  pub written-accepted : check_bare (bare_bytes q) ≡ accepted q
  unfolding check_bare bare_bytes
  written-accepted =
      let (first, f) = file-reads q (bare_bytes q) (forms_of (bare_numbers q), forms-of (bare_numbers q) (numbers-most q good.base good.dark good.order), refl) in
      rw (bare-accepted (bare_bytes q) q first f good) refl
