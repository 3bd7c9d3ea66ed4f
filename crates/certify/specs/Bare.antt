-- A file of bare rows: where the records of an estate stand that somebody else placed, without figure and layers. Assumes nothing.
use Rattle.std.specs.Prelude.{ℕ, ◌+◌, ◌*◌, ◌-◌, min, ◌≡◌, length, drop, eqb}
use mathlib.Core.List.{List, [], ◌∷◌, ◌++◌, flatten}
use Rattle.lists.specs.Lists.{All}
use Rattle.refusal.specs.declared.Refusal.TheVariants.{WrongKind}
use Rattle.refusal.specs.Checked.{Checked, accepted, ◌>>=◌, require, map_accepted}
use Rattle.number.specs.Numbers.{Forms, forms_of, read_number, read_within}
use Rattle.number.specs.declared.Reading.{Reading}
use Rattle.packing.specs.Rows.{Row, rows_at}
use Rattle.layers.specs.Layers.{Site, BaseReading, Located, BaseLimits, DarkLimits, InService, list_numbers, read_dark, check_length, check_end, check_ascending, check_service}
use Rattle.placement.specs.Placement.{OrderLimits}
use Rattle.placement.specs.declared.Order.{Order}

-- n nodes, r replicas and the nodes out of service; s, k and b; and the b rows
pub record Bare : Type 0 where
  pub base : Site
  pub order : Order
  pub rows : List (List ℕ)

-- "the number 7; n; r; the count and list of nodes out of service as in kind 5; s; k; b"
abbrev pub bare_numbers : Bare → List ℕ
bare_numbers q =
    7 ∷ q.base.n ∷ q.base.r
    ∷ (list_numbers 5 q.base.dark ++ (q.order.s ∷ q.order.k ∷ q.order.b ∷ []))

-- "then b rows; then the end"
abbrev pub BareFile : Bare → List ℕ → Type 0
BareFile q bytes = (h : List ℕ) × Forms (bare_numbers q) h × (bytes ≡ h ++ flatten q.rows)

-- what an accepted file of bare rows is: "Limits .. as for placements", rows that are rows, and no row names a node out of service
pub record GoodBare (q : Bare) : Type 0 where
  pub base : BaseLimits q.base.n q.base.r
  pub dark : DarkLimits 5 q.base.n q.base.dark
  pub order : OrderLimits q.base.n q.base.r q.order
  pub records-all : length q.rows ≡ q.order.b
  pub rows : All (Row q.base.n q.base.r) q.rows
  pub in-service : InService q.base.dark q.rows

-- "the number 7": any other is refusal 3
unfoldable pub read_seven : List ℕ → Checked Reading
read_seven bytes = do
  first ← read_number bytes 0
  _ ← require (eqb first.value 7) WrongKind
  accepted first

-- "the number 7; n; r; the count and list of nodes out of service as in kind 5", each with a placement's limits
unfoldable pub read_start : List ℕ → Checked BaseReading
read_start bytes = do
  first ← read_seven bytes
  n ← read_within 2 255 bytes first.next
  r ← read_within 2 (min 5 n.value) bytes n.next
  dark ← read_dark 5 n.value bytes r.next
  accepted
      (record {
        kind = 7;
        base = record { n = n.value; r = r.value; dark = dark.nodes };
        next = dark.next;
      })

-- s, k and b, and the next place
pub record OrderReading : Type 0 where
  pub order : Order
  pub next : ℕ

-- "s; k; b", with a placement's limits
unfoldable pub read_order : Site → List ℕ → (at : ℕ) → Checked OrderReading
read_order base bytes at = do
  s ← read_within 1 base.r bytes at
  k ← read_within s.value (base.n - 1) bytes s.next
  b ← read_within 1 4_096 bytes k.next
  accepted (record { order = record { s = s.value; k = k.value; b = b.value }; next = b.next })

-- "orders of checks, refusals and places as for placements": 1 or 5 for the rows' length, 6 over all rows, 15; the b rows start at
-- `at`
unfoldable pub check_bare_rows : Site → (b : ℕ) → List ℕ → (at : ℕ) → Checked (List (List ℕ))
check_bare_rows base b bytes at =
    let end = at + b * base.r in
    let rows = rows_at base.r b (drop at bytes) in
    do
      _ ← check_length bytes end
      _ ← check_end bytes end
      _ ← check_ascending base at rows
      _ ← check_service base at rows
      accepted rows

-- the bare rows with the place of the first, or the refusal
unfoldable pub read_bare : List ℕ → Checked (Located Bare)
read_bare bytes = do
  start ← read_start bytes
  numbers ← read_order start.base bytes start.next
  rows ← check_bare_rows start.base numbers.order.b bytes numbers.next
  accepted
      (record {
        content = record { base = start.base; order = numbers.order; rows = rows };
        first = numbers.next;
      })

-- the bare rows, or the refusal
unfoldable pub check_bare : List ℕ → Checked Bare
check_bare bytes = map_accepted (λ file. file.content) (read_bare bytes)

-- bare rows as a file: each number in its shortest form, then the rows
unfoldable pub bare_bytes : Bare → List ℕ
bare_bytes q = forms_of (bare_numbers q) ++ flatten q.rows
