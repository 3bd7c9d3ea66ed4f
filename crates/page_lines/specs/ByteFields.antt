-- The fields of every byte. Assumes nothing.
use mathlib.Core.List.{List, map, flatten}
use Rattle.lists.specs.Lists.{up_to}
use Rattle.page.specs.Field.{field}
use Rattle.std.specs.Prelude.{ℕ}

-- those of 0, .., 255, one after another
abbrev pub byte_fields : List ℕ
byte_fields = flatten (map field (up_to 256))
