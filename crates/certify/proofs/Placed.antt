-- Bare rows of which all is right but that a row may name a node out of service: nothing else can be refused. Assumes nothing.
use Prim.Native.Nat.{ℕ, ◌+◌, ◌*◌}
use native.Mathlib.Omega.{arith}
use mathlib.Core.Path.{◌≡◌, refl, sym, ◌∙◌, ap}
use mathlib.Core.List.{[], flatten, append-nil}
use mathlib.Core.Option.{Option, none, some}
use lib.ListN.{length, drop, length-drop}
use lib.Dec.{T}
use borrow.Author.Tests.{le-leb}
use Rattle.lists.specs.Lists.{All}
use Rattle.lists.proofs.Alls.{all-imp, length-flatten}
use Rattle.refusal.specs.declared.Refusal.{Refusal}
use Rattle.refusal.specs.declared.Refusal.TheVariants.{OutOfService}
use Rattle.refusal.specs.Checked.{Checked, accepted, refused, ◌>>=◌}
use Rattle.refusal.proofs.Checked.{accepted-injective, refused-not-accepted}
use Rattle.number.specs.Numbers.{forms_of}
use Rattle.number.proofs.Forms.{forms-of}
use Rattle.packing.specs.Rows.{Row, is_in_order, rows_at}
use Rattle.packing.proofs.RowsAt.{rows_at-flatten}
use Rattle.packing.proofs.Test.{good-iff-in-order}
use Rattle.layers.specs.Layers.{Located, BaseLimits, DarkLimits, first_naming, refuse_row, check_length, check_end, check_ascending, check_service}
use Rattle.layers.proofs.NumbersRead.{reads-split}
use Rattle.placement.specs.Placement.{OrderLimits}
use Rattle.certify.specs.Bare.{Bare, bare_numbers, check_bare_rows, read_bare, bare_bytes}
use Rattle.certify.proofs.Accepted.{start_numbers, order_numbers, BareReads, numbers-most, read_start-accepted, read_order-accepted, file-reads}

-- good bare rows but for the nodes out of service
pub record PlacedBare (q : Bare) : Type 0 where
  pub base : BaseLimits q.base.n q.base.r
  pub dark : DarkLimits 5 q.base.n q.base.dark
  pub order : OrderLimits q.base.n q.base.r q.order
  pub records-all : length q.rows ≡ q.order.b
  pub rows : All (Row q.base.n q.base.r) q.rows

-- what the check says of them by the first row that names such a node
abbrev pub served_as : (q : Bare) (first : ℕ) → Option ℕ → Checked (Located Bare)
served_as q first none = accepted (record { content = q; first = first })
served_as q first (some i) = refused (OutOfService (first + i * q.base.r))

served-as : (q : Bare) (first : ℕ) (o : Option ℕ)
    → ((refuse_row OutOfService q.base.r first o >>= λ _. accepted q.rows) >>= λ rows.
    accepted (record { content = record { base = q.base; order = q.order; rows = rows }; first = first }))
    ≡ served_as q first o
served-as q first none = refl
served-as q first (some i) = refl

refused-injective : {e f : Refusal} → ◌≡◌ {A = Checked (Located Bare)} (refused e) (refused f) → e ≡ f
refused-injective p = cc

module _ (q : Bare) (g : PlacedBare q) where
  rows-read : (first : ℕ) → BareReads q (bare_bytes q) first → (o : Option ℕ) → first_naming q.base.dark q.rows ≡ o
      → read_bare (bare_bytes q) ≡ served_as q first o
  unfolding read_bare check_length check_end check_ascending check_service check_bare_rows
  rows-read first f o named =
      let n = q.base.n in
      let r = q.base.r in
      let b = q.order.b in
      let bytes = bare_bytes q in
      let rows = q.rows in
      let lengths = all-imp (Row n r) (λ row. length row ≡ r) (λ row h. h.0) rows g.rows in
      let ordered = all-imp (Row n r) (λ row. T (is_in_order n row)) (λ row h. h.1) rows g.rows in
      let len = length-flatten r rows lengths ∙ ap (λ c. c * r) g.records-all in
      let d = ap length f.rest in
      let ends : length bytes ≡ first + b * r = omega (arith, length-drop first bytes, f.inside) in
      let taken : rows_at r b (drop first bytes) ≡ rows =
      rw (f.rest, ← append-nil (flatten rows), ← g.records-all) (rows_at-flatten r rows [] lengths) in
      let (at, reads₁, reads₂) = reads-split (start_numbers q.base) (order_numbers q.order) bytes 0 first f.reads in
      rw (
        read_start-accepted q.base bytes at reads₁ g.base g.dark,
        read_order-accepted q.base q.order bytes at first reads₂ g.order,
        le-leb (first + b * r) (length bytes) (omega arith),
        le-leb (length bytes) (first + b * r) (omega arith),
        taken,
        (good-iff-in-order n rows).1 ordered,
        named,
      )
      (served-as q first o)

  -- So the check says whether a row names a node out of service, and nothing else: it accepts these bare rows ..
  pub placed-read : (first : ℕ) × (read_bare (bare_bytes q) ≡ served_as q first (first_naming q.base.dark q.rows))
  unfolding bare_bytes
  placed-read =
      let forms = forms-of (bare_numbers q) (numbers-most q g.base g.dark g.order) in
      let (first, f) = file-reads q (bare_bytes q) (forms_of (bare_numbers q), forms, refl) in
      (first, rows-read first f (first_naming q.base.dark q.rows) refl)

  pub placed-accepted : (file : Located Bare) → read_bare (bare_bytes q) ≡ accepted file → file.content ≡ q
  placed-accepted file e = let (first, is) = placed-read in go first (first_naming q.base.dark q.rows) (sym is ∙ e)
    where
      go : (first : ℕ) (o : Option ℕ) → served_as q first o ≡ accepted file → file.content ≡ q
      go first none h = ap (λ (file : Located Bare). file.content) (sym (accepted-injective h))
      go first (some i) h = absurd (refused-not-accepted h)

  -- .. or refuses them with 15
  pub placed-refused : (e : Refusal) → read_bare (bare_bytes q) ≡ refused e → (p : ℕ) × (e ≡ OutOfService p)
  placed-refused e h = let (first, is) = placed-read in go first (first_naming q.base.dark q.rows) (sym is ∙ h)
    where
      go : (first : ℕ) (o : Option ℕ) → served_as q first o ≡ refused e → (p : ℕ) × (e ≡ OutOfService p)
      go first none p = absurd (refused-not-accepted (sym p))
      go first (some i) p = (first + i * q.base.r, sym (refused-injective p))
