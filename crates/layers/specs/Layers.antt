-- What document 01's "Pack" and "Placement" share: layers, their numbers in the head, and their rows. Assumes nothing.
use Rattle.std.specs.Prelude.{ℕ, zero, suc, ◌+◌, ◌*◌, ◌-◌, ◌≤◌, min, ◌≡◌, Bool, true, false, cond, ◌||◌, length, drop, get_or, T, leb, eqb}
use mathlib.Core.List.{List, [], ◌∷◌, ◌++◌, map, flatten}
use Rattle.std.proofs.Math.Option.{Option, none, some}
use Rattle.lists.specs.Lists.{All, any, first_where, total}
use Rattle.refusal.specs.declared.Refusal.TheVariants.{WrongKind, Ended, Trailing, BadRow, OutOfService, Crowded}
use Rattle.refusal.specs.declared.Refusal.{Refusal}
use Rattle.refusal.specs.Checked.{Checked, accepted, refused, ◌>>=◌, require}
use Rattle.number.specs.Numbers.{Forms, read_number, read_within}
use Rattle.number.specs.declared.Reading.{Reading}
use Rattle.packing.specs.Rows.{Packing, is_in_order, member, rows_at, first_bad, first_crowded}
use Rattle.layers.specs.declared.FileKind.{FileKind}
use Rattle.layers.specs.declared.FileKind.TheVariants.{Pack, Placement}
use Rattle.layers.specs.declared.LayerHead.{LayerHead}
use Rattle.layers.specs.declared.LayerLimits.{LayerLimits}

-- A layer: its bound (mu or lambda), and its rows.
pub record Layer : Type 0 where
  pub bound : ℕ
  pub rows : List (List ℕ)

-- layer x; none where there is no such layer
abbrev pub blocks_at : List Layer → ℕ → Layer
blocks_at layers x = get_or layers x (record { bound = 0; rows = [] })

-- "layer by layer": the rows of all layers in the file's order
abbrev pub all_rows : List Layer → List (List ℕ)
all_rows layers = flatten (map (λ layer. layer.rows) layers)

-- "In layer x every set of x+1 nodes stands in at most" its bound of its rows, for the layers from x on
abbrev pub Packings : (x : ℕ) → List Layer → Type 0
Packings x [] = Unit
Packings x (layer ∷ layers) = Packing x layer.bound layer.rows × Packings (suc x) layers

-- a layer's two numbers in the head
abbrev pub head_of : Layer → LayerHead
head_of layer = record { bound = layer.bound; size = length layer.rows }

abbrev pub heads_of : List Layer → List LayerHead
heads_of layers = map head_of layers

-- "for each x .. the numbers mu .. and m", "lambda .. and c"
unfoldable pub head_numbers : List LayerHead → List ℕ
head_numbers [] = []
head_numbers (head ∷ heads) = head.bound ∷ head.size ∷ head_numbers heads

-- how many rows the layers have
abbrev pub sizes : List LayerHead → ℕ
sizes heads = total (map (λ head. head.size) heads)

-- a file is its head's numbers, then the rows, then the numbers after them, "then the end"
abbrev pub File : (head : List ℕ) (layers : List Layer) (after bytes : List ℕ) → Type 0
File head layers after bytes =
    (h : List ℕ) × (t : List ℕ) × Forms head h × Forms after t × (bytes ≡ h ++ (flatten (all_rows layers) ++ t))

-- the same where the head's bytes are the first `first`, so that the first row starts there
abbrev pub FileAt : (head : List ℕ) (layers : List Layer) (after : List ℕ) (first : ℕ) (bytes : List ℕ) → Type 0
FileAt head layers after first bytes =
    (h : List ℕ) × (t : List ℕ) × Forms head h × Forms after t × (bytes ≡ h ++ (flatten (all_rows layers) ++ t)) × (length h ≡ first)

-- What a check hands on: what the file says, and the place of its first row.
pub record Located (A : Type 0) : Type 0 where
  pub content : A
  pub first : ℕ

-- the rows of the layers stand from the place `first` to the end
abbrev pub Stands : List ℕ → (first : ℕ) → List Layer → Type 0
Stands s first layers = (first ≤ length s) × (drop first s ≡ flatten (all_rows layers))

-- "Limits: n 2..255; r 2..5 and at most n"
pub record BaseLimits (n r : ℕ) : Type 0 where
  pub n-least : 2 ≤ n
  pub n-most : n ≤ 255
  pub r-least : 2 ≤ r
  pub r-most : r ≤ 5
  pub r-nodes : r ≤ n

-- What every file has after its kind: n nodes, r replicas, and, by document 02's request (h), the nodes out of service.
pub record Site : Type 0 where
  pub n : ℕ
  pub r : ℕ
  pub dark : List ℕ

-- (h) "Packs of kind 4 and placements of kind 5 have, after r, a count from 0 to n of such nodes and then their numbers"; (n) "A
-- placement of kind 6 is one of kind 5 with" more after its rows
abbrev pub listed : (kind : ℕ) → Bool
listed kind = eqb kind 4 || eqb kind 5 || eqb kind 6

unfoldable pub list_numbers : (kind : ℕ) (dark : List ℕ) → List ℕ
list_numbers kind dark = cond (listed kind) (length dark ∷ dark) []

-- in a head that begins with these numbers: how many of them the list has, none or its count and as many as that says
abbrev pub list_size : List ℕ → ℕ
list_size numbers = cond (listed (get_or numbers 0 0)) (suc (get_or numbers 3 0)) 0

-- "strictly ascending and below n", so that there are at most n; "Kinds 1 to 3 count as having an empty list"
pub record DarkLimits (kind n : ℕ) (dark : List ℕ) : Type 0 where
  pub ordered : T (is_in_order n dark)
  pub unlisted : listed kind ≡ false → dark ≡ []

-- "a row naming such a node"
abbrev pub Names : (dark row : List ℕ) → Type 0
Names dark row = (v : ℕ) × T (member v row) × T (member v dark)

-- "No row may name one."
abbrev pub InService : (dark : List ℕ) (rows : List (List ℕ)) → Type 0
InService dark rows = All (λ row. Names dark row → ⊥) rows

-- the same as a test of a row, and the first row that names one
unfoldable pub names : (dark row : List ℕ) → Bool
names dark row = any (λ v. member v dark) row

unfoldable pub first_naming : (dark : List ℕ) (rows : List (List ℕ)) → Option ℕ
first_naming dark rows = first_where (names dark) rows

-- the least size of a layer with `after` layers after it and `room` left
abbrev pub least_size : (full : Bool) (after room : ℕ) → ℕ
least_size true zero room = room
least_size true (suc after) room = 0
least_size false after room = 0

-- the two numbers of each layer, and the next place
pub record LayerHeads : Type 0 where
  pub heads : List LayerHead
  pub next : ℕ

-- the first numbers of each file: a pack's is "The number 1" or, by document 02's request (h), 4; a placement's "The number 2"
-- or, by request (d), 3 or, by (h), 5 or, by (n), 6
abbrev pub is_kind : FileKind → (first : ℕ) → Bool
is_kind Pack first = eqb first 1 || eqb first 4
is_kind Placement first = eqb first 2 || eqb first 3 || eqb first 5 || eqb first 6

-- "the first number is not the file's kind": refusal 3
unfoldable pub read_kind : FileKind → List ℕ → Checked Reading
read_kind file s = do
  first ← read_number s 0
  _ ← require (is_kind file first.value) WrongKind
  accepted first

-- nodes that were read, and the next place
pub record NodesReading : Type 0 where
  pub nodes : List ℕ
  pub next : ℕ

-- "their numbers, strictly ascending and below n; a number that breaks this is refusal 4": `left` of them, from `lo` on
unfoldable pub read_nodes : (n left lo : ℕ) → List ℕ → (at : ℕ) → Checked NodesReading
read_nodes n zero lo s at = accepted (record { nodes = []; next = at })
read_nodes n (suc left) lo s at = do
  node ← read_within lo (n - 1) s at
  rest ← read_nodes n left (suc node.value) s node.next
  accepted (record { nodes = node.value ∷ rest.nodes; next = rest.next })

-- "after r, a count from 0 to n of such nodes and then their numbers"; "Kinds 1 to 3 count as having an empty list"
unfoldable pub read_list : (n : ℕ) → List ℕ → (at : ℕ) → Checked NodesReading
read_list n s at = do
  count ← read_within 0 n s at
  read_nodes n count.value 0 s count.next

unfoldable pub read_dark : (kind n : ℕ) → List ℕ → (at : ℕ) → Checked NodesReading
read_dark kind n s at = cond (listed kind) (read_list n s at) (accepted (record { nodes = []; next = at }))

-- the kind that was read, n, r and the nodes out of service, and the next place
pub record BaseReading : Type 0 where
  pub kind : ℕ
  pub base : Site
  pub next : ℕ

-- "The number 1; n; r", "The number 2; n; r", and in kinds 4, 5 and 6 the list: what every file begins with
unfoldable pub read_base : FileKind → List ℕ → Checked BaseReading
read_base file s = do
  first ← read_kind file s
  n ← read_within 2 255 s first.next
  r ← read_within 2 (min 5 n.value) s n.next
  dark ← read_dark first.value n.value s r.next
  accepted
      (record {
        kind = first.value;
        base = record { n = n.value; r = r.value; dark = dark.nodes };
        next = dark.next;
      })

-- the two numbers of each of `left` layers, where the sizes may still sum to `room`
unfoldable pub read_layers : LayerLimits → (left room : ℕ) → List ℕ → (at : ℕ) → Checked LayerHeads
read_layers limits zero room s at = accepted (record { heads = []; next = at })
read_layers limits (suc left) room s at = do
  bound ← read_within limits.lo limits.hi s at
  size ← read_within (least_size limits.full left room) room s bound.next
  rest ← read_layers limits left (room - size.value) s size.next
  accepted (record { heads = record { bound = bound.value; size = size.value } ∷ rest.heads; next = rest.next })

-- the layers whose rows s begins with
unfoldable pub layers_at : (r : ℕ) → List LayerHead → List ℕ → List Layer
layers_at r [] s = []
layers_at r (head ∷ heads) s =
    record { bound = head.bound; rows = rows_at r head.size s } ∷ layers_at r heads (drop (head.size * r) s)

-- the row found in a layer of `size` rows, else the one found after it
abbrev pub first_of : Option ℕ → (size : ℕ) → Option ℕ → Option ℕ
first_of (some i) size after = some i
first_of none size none = none
first_of none size (some i) = some (size + i)

-- the first crowded row of the layers from x on, counted from their first row
unfoldable pub first_crowded_of : (x : ℕ) → List Layer → Option ℕ
first_crowded_of x [] = none
first_crowded_of x (layer ∷ layers) =
    first_of (first_crowded x layer.bound layer.rows) (length layer.rows) (first_crowded_of (suc x) layers)

-- the refusal for the row that was found, if any: "the row's start"
abbrev pub refuse_row : (refusal : ℕ → Refusal) (r at : ℕ) → Option ℕ → Checked Unit
refuse_row refusal r at none = accepted tt
refuse_row refusal r at (some i) = refused (refusal (at + i * r))

-- refusal 1: "the input ends .. before the last row's end"
unfoldable pub check_length : List ℕ → (end : ℕ) → Checked Unit
check_length s end = require (leb end (length s)) (Ended (length s))

-- refusal 5: "bytes after the last row", at "the first of them"
unfoldable pub check_end : List ℕ → (end : ℕ) → Checked Unit
check_end s end = require (leb (length s) end) (Trailing end)

-- refusal 6: "a row not ascending or with a node at or above n", at "the row's start"; the first row is at `at`
unfoldable pub check_ascending : Site → (at : ℕ) → List (List ℕ) → Checked Unit
check_ascending base at rows = refuse_row BadRow base.r at (first_bad base.n rows)

-- refusal 15: (h) "at the row's start, a row naming such a node"
unfoldable pub check_service : Site → (at : ℕ) → List (List ℕ) → Checked Unit
check_service base at rows = refuse_row OutOfService base.r at (first_naming base.dark rows)

-- refusal 7: "x+1 nodes together in too many rows of layer x", at "the start of the first row in the file that holds such a
-- set of its own layer"
unfoldable pub check_packings : (r at : ℕ) → List Layer → Checked Unit
check_packings r at layers = refuse_row Crowded r at (first_crowded_of 0 layers)

-- "Then 1 or 5 for the rows' total length, then 6 over all rows", then 15, "after 6 and before 7": the layers whose rows start
-- at `at`
unfoldable pub check_rows : Site → List LayerHead → List ℕ → (at : ℕ) → Checked (List Layer)
check_rows base heads s at =
    let end = at + sizes heads * base.r in
    let layers = layers_at base.r heads (drop at s) in
    do
      _ ← check_length s end
      _ ← check_end s end
      _ ← check_ascending base at (all_rows layers)
      _ ← check_service base at (all_rows layers)
      _ ← check_packings base.r at layers
      accepted layers
