-- Document 01, "Seven cabinets": the pack P. Assumes nothing.
use Rattle.std.specs.Prelude.{ℕ}
use mathlib.Core.List.{List, [], ◌∷◌, ◌++◌, flatten}
use Rattle.packing.specs.SevenCabinets.{rows0, rows1, row245}
use Rattle.pack.specs.Pack.{Pack}

-- "Pack P: 1 7 3, 1 2, 1 7, 1 0", and its rows, layer 1 ending in the row `last`
unfoldable pub pack_bytes : (last : List ℕ) → List ℕ
pack_bytes last =
    (1 ∷ 7 ∷ 3 ∷ 1 ∷ 2 ∷ 1 ∷ 7 ∷ 1 ∷ 0 ∷ []) ++ flatten rows0 ++ flatten (rows1 last)

-- request (h): the same of kind 4, with a list after r
unfoldable pub listed_bytes : (list last : List ℕ) → List ℕ
listed_bytes list last =
    (4 ∷ 7 ∷ 3 ∷ []) ++ list ++ (1 ∷ 2 ∷ 1 ∷ 7 ∷ 1 ∷ 0 ∷ []) ++ flatten rows0 ++ flatten (rows1 last)

-- what P's bytes say
unfoldable pub seven_pack : Pack
seven_pack =
    record {
      n = 7;
      r = 3;
      dark = [];
      layers =
          record { bound = 1; rows = rows0 }
          ∷ record { bound = 1; rows = rows1 row245 }
          ∷ record { bound = 1; rows = [] }
          ∷ [];
    }
