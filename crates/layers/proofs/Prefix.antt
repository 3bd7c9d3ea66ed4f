-- A check looks no further than the head's numbers and the rows that they say, so it is the same for a long enough
-- beginning of the bytes. Assumes nothing.
use Prim.Native.Nat.{ℕ, zero, suc, ◌+◌, ◌*◌, ◌-◌, ◌≤◌, ◌<◌, min}
use native.Mathlib.Omega.{arith}
use native.Mathlib.Nat.{mul-le-mul_right}
use mathlib.Core.Path.{◌≡◌, refl}
use mathlib.Core.Bool.{Bool, true, false}
use mathlib.Core.List.{List, [], ◌∷◌}
use lib.ListN.{length, take}
use lib.Seq.{length-take-le}
use borrow.Author.Tests.{le-leb, lt-leb}
use Rattle.refusal.specs.Checked.{accepted}
use Rattle.refusal.proofs.Checked.{bind_congr}
use Rattle.number.specs.Numbers.{read_within}
use Rattle.number.specs.declared.Reading.{Reading}
use Rattle.number.proofs.Laws.{read_next, read-local}
use Rattle.number.proofs.Within.{read-of-read_within}
use Rattle.layers.specs.Layers.{LayerHeads, Site, head_numbers, sizes, BaseReading, least_size, listed, list_numbers, read_kind, read_nodes, read_list, read_dark, read_base, read_layers, check_length, check_end, check_rows}
use Rattle.layers.specs.declared.FileKind.{FileKind}
use Rattle.layers.specs.declared.LayerHead.{LayerHead}
use Rattle.layers.specs.declared.LayerLimits.{LayerLimits}
use Rattle.layers.proofs.NumbersRead.{reads-next}
use Rattle.layers.proofs.Listing.{dark-count}
use Rattle.layers.proofs.Heads.{fit-le, base_numbers, read-of-read_kind, held-of-read_base, reads-of-read_layers}

-- how many numbers a list of at most 255 nodes has
list_length : (kind : ℕ) (dark : List ℕ) → length dark ≤ 255 → length (list_numbers kind dark) ≤ 256
unfolding list_numbers
list_length kind dark few = go (listed kind) refl
  where
    go : (b : Bool) → listed kind ≡ b → length (list_numbers kind dark) ≤ 256
    go false is = rw is (omega arith)
    go true is = rw is (omega arith)

-- the place after a number that was accepted, and after n, r and the list: of 259 numbers at most
pub read_kind-next : (file : FileKind) (s : List ℕ) {n : Reading} → read_kind file s ≡ accepted n → n.next ≤ 4
read_kind-next file s e = omega (arith, read_next s 0 (read-of-read_kind file s e).0)

pub read_base-next : (file : FileKind) (s : List ℕ) {b : BaseReading} → read_base file s ≡ accepted b → b.next ≤ 1_036
read_base-next file s {b} e =
    let held = held-of-read_base file s e in
    let count = dark-count b.base.n b.base.dark held.dark.ordered in
    let most = held.limits.n-most in
    omega (
      arith,
      reads-next (base_numbers b.kind b.base) s 0 b.next held.reads,
      list_length b.kind b.base.dark (omega arith),
    )

pub read_within-next : (lo hi : ℕ) (s : List ℕ) (at : ℕ) {n : Reading} → read_within lo hi s at ≡ accepted n
    → n.next ≤ at + 4
read_within-next lo hi s at e = (read_next s at (read-of-read_within lo hi s at e).0).0

pub head_numbers-two : (heads : List LayerHead) → length (head_numbers heads) ≡ length heads * 2
unfolding head_numbers
head_numbers-two [] = refl
head_numbers-two (head ∷ heads) = let rest = head_numbers-two heads in omega arith

module _ (m : ℕ) (s : List ℕ) (long : m ≤ length s) where
  -- A number that starts four bytes or more before m is read from the first m bytes.
  pub read_kind-take : (file : FileKind) → 4 ≤ m → read_kind file (take m s) ≡ read_kind file s
  unfolding read_kind
  read_kind-take file h = rw (read-local m s 0 (omega arith) long)

  pub read_within-take : (lo hi at : ℕ) → at + 4 ≤ m → read_within lo hi (take m s) at ≡ read_within lo hi s at
  unfolding read_within
  read_within-take lo hi at h = rw (read-local m s at h long)

  read_nodes-take : (n left lo at : ℕ) → at + left * 4 ≤ m → read_nodes n left lo (take m s) at ≡ read_nodes n left lo s at
  unfolding read_nodes
  read_nodes-take n zero lo at h = refl
  read_nodes-take n (suc left) lo at h =
      bind_congr _ _ _ _ (read_within-take lo (n - 1) at (omega arith)) λ node e₁.
      let next = read_within-next lo (n - 1) (take m s) at e₁ in
      bind_congr _ _ _ _ (read_nodes-take n left (suc node.value) node.next (omega arith)) (λ rest e₂. refl)

  read_dark-take : (kind n at : ℕ) → n ≤ 255 → at + 1_024 ≤ m → read_dark kind n (take m s) at ≡ read_dark kind n s at
  unfolding read_dark read_list
  read_dark-take kind n at few h = go (listed kind) refl
    where
      go : (b : Bool) → listed kind ≡ b → read_dark kind n (take m s) at ≡ read_dark kind n s at
      go false is = rw is refl
      go true is =
          rw
          is
          (bind_congr _ _ _ _ (read_within-take 0 n at (omega arith)) λ count e₁.
          let next = read_within-next 0 n (take m s) at e₁ in
          let most = (read-of-read_within 0 n (take m s) at e₁).2 in
          read_nodes-take n count.value 0 count.next (omega arith))

  pub read_base-take : (file : FileKind) → 1_036 ≤ m → read_base file (take m s) ≡ read_base file s
  unfolding read_base
  read_base-take file h =
      bind_congr _ _ _ _ (read_kind-take file (omega arith)) λ first e₁.
      let next₁ = read_kind-next file (take m s) e₁ in
      bind_congr _ _ _ _ (read_within-take 2 255 first.next (omega arith)) λ n e₂.
      let next₂ = read_within-next 2 255 (take m s) first.next e₂ in
      let few = (read-of-read_within 2 255 (take m s) first.next e₂).2 in
      bind_congr _ _ _ _ (read_within-take 2 (min 5 n.value) n.next (omega arith)) λ r e₃.
      let next₃ = read_within-next 2 (min 5 n.value) (take m s) n.next e₃ in
      bind_congr _ _ _ _ (read_dark-take first.value n.value r.next few (omega arith)) (λ list e₄. refl)

  pub read_layers-take : (limits : LayerLimits) (left room at : ℕ) → at + left * 8 ≤ m
      → read_layers limits left room (take m s) at ≡ read_layers limits left room s at
  unfolding read_layers
  read_layers-take limits zero room at h = refl
  read_layers-take limits (suc left) room at h =
      bind_congr _ _ _ _ (read_within-take limits.lo limits.hi at (omega arith)) λ bound e₁.
      let next₁ = read_within-next limits.lo limits.hi (take m s) at e₁ in
      bind_congr _ _ _ _ (read_within-take (least_size limits.full left room) room bound.next (omega arith)) λ size e₂.
      let next₂ = read_within-next (least_size limits.full left room) room (take m s) bound.next e₂ in
      bind_congr _ _ _ _ (read_layers-take limits left (room - size.value) size.next (omega arith)) (λ rest e₃. refl)

  -- Rows that end before m: the bytes from there to m are trailing, and so are all.
  pub check_rows-take : (base : Site) (heads : List LayerHead) (at : ℕ) → at + sizes heads * base.r < m
      → check_rows base heads (take m s) at ≡ check_rows base heads s at
  unfolding check_length check_end check_rows
  check_rows-take base heads at h =
      let end = at + sizes heads * base.r in
      rw (
        length-take-le m s long,
        le-leb end m (omega arith),
        lt-leb m end h,
        le-leb end (length s) (omega arith),
        lt-leb (length s) end (omega arith),
      )

-- what the layers' numbers allow for: eight bytes a layer, and `room` rows
pub rows-end : (limits : LayerLimits) (left room r : ℕ) (s : List ℕ) (at : ℕ) {head : LayerHeads}
    → read_layers limits left room s at ≡ accepted head
    → head.next + sizes head.heads * r ≤ at + left * 8 + room * r
rows-end limits left room r s at {head} e =
    let (reads, within) = reads-of-read_layers limits left room s at e in
    let each = within.layer-each in
    let next = reads-next (head_numbers head.heads) s at head.next reads in
    let numbers = head_numbers-two head.heads in
    let rows = mul-le-mul_right r (fit-le limits.full left room (sizes head.heads) within.fit) in
    omega arith

-- The layers' numbers and rows, checked one after the other.
pub layers-take : (limits : LayerLimits) (base : Site) (left room : ℕ) (s : List ℕ) (at m : ℕ) {head : LayerHeads} → m ≤ length s
    → read_layers limits left room (take m s) at ≡ accepted head → at + left * 8 + room * base.r < m
    → check_rows base head.heads (take m s) head.next ≡ check_rows base head.heads s head.next
layers-take limits base left room s at m {head} long e h =
    let end = rows-end limits left room base.r (take m s) at e in
    check_rows-take m s long base head.heads head.next (omega arith)
