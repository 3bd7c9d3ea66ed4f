-- Document 01, "Seven cabinets": the placement of order s = 2, k = 3, b = 9. Assumes nothing.
use Rattle.std.specs.Prelude.{ℕ}
use mathlib.Core.List.{List, [], ◌∷◌, ◌++◌, flatten}
use Rattle.std.proofs.Math.Option.{none}
use Rattle.packing.specs.SevenCabinets.{rows0, rows1, row245}
use Rattle.placement.specs.Placement.{Placement}

-- "the whole file 2 7 3 2 3 9 5, 1 2, 1 7, and P's nine rows in P's order", with another kind and figure where they are given
unfoldable pub placement_file : (kind figure : ℕ) → List ℕ
placement_file kind figure =
    (kind ∷ 7 ∷ 3 ∷ 2 ∷ 3 ∷ 9 ∷ figure ∷ 1 ∷ 2 ∷ 1 ∷ 7 ∷ []) ++ flatten rows0 ++ flatten (rows1 row245)

-- request (h): the same of kind 5, with a list after r; with an empty one "document 01's order gives 39, beginning 5 7 3 0 2"
unfoldable pub listed_file : (list : List ℕ) (figure : ℕ) → List ℕ
listed_file list figure =
    (5 ∷ 7 ∷ 3 ∷ []) ++ list ++ (2 ∷ 3 ∷ 9 ∷ figure ∷ 1 ∷ 2 ∷ 1 ∷ 7 ∷ []) ++ flatten rows0 ++ flatten (rows1 row245)

-- request (n): the same of kind 6 with no node listed, and these numbers after the rows
unfoldable pub fed_file : (figure : ℕ) (after : List ℕ) → List ℕ
fed_file figure after =
    (6 ∷ 7 ∷ 3 ∷ 0 ∷ 2 ∷ 3 ∷ 9 ∷ figure ∷ 1 ∷ 2 ∷ 1 ∷ 7 ∷ []) ++ flatten rows0 ++ flatten (rows1 row245) ++ after

-- seven records on P's layer 1, with s 3 and k 4
unfoldable pub seven_records : (kind figure : ℕ) → List ℕ
seven_records kind figure =
    (kind ∷ 7 ∷ 3 ∷ 3 ∷ 4 ∷ 7 ∷ figure ∷ 0 ∷ 0 ∷ 1 ∷ 7 ∷ 0 ∷ 0 ∷ []) ++ flatten (rows1 row245)

-- what the file says
unfoldable pub seven_placement : (kind : ℕ) → Placement
seven_placement kind =
    record {
      kind = kind;
      n = 7;
      r = 3;
      dark = [];
      s = 2;
      k = 3;
      b = 9;
      figure = 5;
      layers = record { bound = 1; rows = rows0 } ∷ record { bound = 1; rows = rows1 row245 } ∷ [];
      feeders = none;
    }
