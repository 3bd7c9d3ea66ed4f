-- What the refusals of rows mean, in the words of document 01's table, apart from any test that finds them. Assumes nothing.
use Rattle.std.specs.Prelude.{ℕ, zero, suc, ◌+◌, ◌*◌, ◌-◌, ◌≤◌, ◌<◌, ◌≡◌, ◌⊎◌, List, [], ◌∷◌, length, drop, get_or, T}
use Rattle.lists.specs.Lists.{All}
use Rattle.refusal.specs.declared.Refusal.{Refusal}
use Rattle.refusal.specs.declared.Refusal.TheVariants.{Ended, Malformed, WrongKind, OutsideLimits, Trailing, BadRow, Crowded, WrongFigure, NoBlock, ShortWork, ShortOutput, BadOrder, Unjoinable, BadWish, OutOfService, BadCounts, TooManySets, BadRounds, EarlierEvent, BadEvent, SharedFeeder}
use Rattle.refusal.specs.Checked.{accepted}
use Rattle.number.specs.Numbers.{read_number, read_within}
use Rattle.number.specs.declared.Reading.{Reading}
use Rattle.number.specs.Meaning.{NumberRefused, WithinRefused}
use Rattle.packing.specs.Rows.{is_in_order, Row, CrowdedSet}
use Rattle.layers.specs.Layers.{Layer, Packings, Site, Names, InService, sizes, all_rows, layers_at, is_kind}
use Rattle.layers.specs.declared.FileKind.{FileKind}
use Rattle.layers.specs.declared.LayerHead.{LayerHead}

-- "the first": so at i, and at no place before it
pub record FirstAt (P : ℕ → Type 0) (i : ℕ) : Type 0 where
  pub here : P i
  pub none_before : (j : ℕ) → j < i → P j → ⊥

-- row i is "a row not ascending or with a node at or above n"
abbrev pub BadAt : (n : ℕ) (rows : List (List ℕ)) (i : ℕ) → Type 0
BadAt n rows i = (i < length rows) × (T (is_in_order n (get_or rows i [])) → ⊥)

-- row i is "a row naming such a node", one out of service
abbrev pub DarkAt : (dark : List ℕ) (rows : List (List ℕ)) (i : ℕ) → Type 0
DarkAt dark rows i = (i < length rows) × Names dark (get_or rows i [])

-- row i of the layers from x on, counted from their first row, holds "x+1 nodes together in too many rows of layer x", its
-- own layer
abbrev pub CrowdedAt : (x : ℕ) → List Layer → (i : ℕ) → Type 0
CrowdedAt x [] i = ⊥
CrowdedAt x (layer ∷ layers) i =
    ((i < length layer.rows) × CrowdedSet x layer.bound layer.rows (get_or layer.rows i []))
    ⊎ ((length layer.rows ≤ i) × CrowdedAt (suc x) layers (i - length layer.rows))

-- The first number is checked for 1, 2, then 3: "the first number is not the file's kind"
abbrev pub KindRefused : FileKind → List ℕ → Refusal → Type 0
KindRefused file s e =
    NumberRefused s 0 e
    ⊎ ((e ≡ WrongKind) × ((n : Reading) × (read_number s 0 ≡ accepted n) × (T (is_kind file n.value) → ⊥)))

-- "their numbers, strictly ascending and below n; a number that breaks this is refusal 4": the first number that is refused, for 1,
-- 2, then 4; `left` nodes are due, from `lo` on
abbrev pub NodesRefused : (n left lo : ℕ) → List ℕ → (at : ℕ) → Refusal → Type 0
NodesRefused n zero lo s at e = ⊥
NodesRefused n (suc left) lo s at e =
    WithinRefused lo (n - 1) s at e
    ⊎ ((node : Reading) × (read_within lo (n - 1) s at ≡ accepted node)
    × NodesRefused n left (suc node.value) s node.next e)

-- "a count from 0 to n of such nodes and then their numbers"
abbrev pub ListRefused : (n : ℕ) → List ℕ → (at : ℕ) → Refusal → Type 0
ListRefused n s at e =
    WithinRefused 0 n s at e
    ⊎ ((count : Reading) × (read_within 0 n s at ≡ accepted count) × NodesRefused n count.value 0 s count.next e)

-- The table's rows 1, 5, 6, 15 and 7 for rows that start at `at`, each with its place, where none of those before it holds; no
-- other refusal is given for rows.
module _ (base : Site) (heads : List LayerHead) (s : List ℕ) (at : ℕ) where
  -- the layers that stand there, and the end of their rows
  abbrev pub standing : List Layer
  standing = layers_at base.r heads (drop at s)

  abbrev pub rows_end : ℕ
  rows_end = at + sizes heads * base.r

  -- they end with the bytes, are rows, none names a node out of service, and every layer is a packing
  abbrev pub RowsGood : Type 0
  RowsGood =
      (length s ≡ rows_end)
      × All (Row base.n base.r) (all_rows standing)
      × InService base.dark (all_rows standing)
      × Packings 0 standing

  abbrev pub RowsRefused : Refusal → Type 0
  -- "the input ends .. before the last row's end": "input length"
  RowsRefused (Ended p) = (length s < rows_end) × (p ≡ length s)
  -- "bytes after the last row": "the first of them"
  RowsRefused (Trailing p) = (rows_end < length s) × (p ≡ rows_end)
  -- "a row not ascending or with a node at or above n": "the row's start"
  RowsRefused (BadRow p) =
      (length s ≡ rows_end)
      × ((i : ℕ) × FirstAt (BadAt base.n (all_rows standing)) i × (p ≡ at + i * base.r))
  -- (h) "at the row's start, a row naming such a node, after 6 and before 7"
  RowsRefused (OutOfService p) =
      (length s ≡ rows_end)
      × All (λ row. T (is_in_order base.n row)) (all_rows standing)
      × ((i : ℕ) × FirstAt (DarkAt base.dark (all_rows standing)) i × (p ≡ at + i * base.r))
  -- "x+1 nodes together in too many rows of layer x": "the start of the first row in the file that holds such a set"
  RowsRefused (Crowded p) =
      (length s ≡ rows_end)
      × All (λ row. T (is_in_order base.n row)) (all_rows standing)
      × InService base.dark (all_rows standing)
      × ((i : ℕ) × FirstAt (CrowdedAt 0 standing) i × (p ≡ at + i * base.r))
  RowsRefused (Malformed p) = ⊥
  RowsRefused WrongKind = ⊥
  RowsRefused (OutsideLimits p) = ⊥
  RowsRefused (WrongFigure p) = ⊥
  RowsRefused NoBlock = ⊥
  RowsRefused (ShortWork p) = ⊥
  RowsRefused (ShortOutput p) = ⊥
  RowsRefused (BadOrder p) = ⊥
  RowsRefused Unjoinable = ⊥
  RowsRefused BadWish = ⊥
  RowsRefused BadCounts = ⊥
  RowsRefused TooManySets = ⊥
  RowsRefused BadRounds = ⊥
  RowsRefused (EarlierEvent p) = ⊥
  RowsRefused (BadEvent p) = ⊥
  RowsRefused (SharedFeeder p) = ⊥
