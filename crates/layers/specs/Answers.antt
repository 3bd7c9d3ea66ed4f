-- The answers of reading heads as values of the code's types, and what the code's answer of a row says. Assumes nothing.
use Rattle.std.specs.Prelude.{ℕ, ◌≤◌, ◌<◌, List, [], ◌∷◌, ◌++◌, length, take, replicate, Option, Some, None, Result}
use Rattle.lists.specs.Lists.{All}
use Rattle.refusal.specs.declared.Refusal.{Refusal}
use Rattle.refusal.specs.Checked.{Checked, answered}
use Rattle.refusal.specs.Refusals.{Outcome, result}
use Rattle.layers.specs.Layers.{Site, NodesReading, BaseReading, LayerHeads}
use Rattle.layers.specs.declared.Base.{Base}
use Rattle.layers.specs.declared.Dark.{Dark}
use Rattle.layers.specs.declared.DarkRead.{DarkRead}
use Rattle.layers.specs.declared.BaseRead.{BaseRead}
use Rattle.layers.specs.declared.LayerHead.{LayerHead}
use Rattle.layers.specs.declared.LayersRead.{LayersRead}
use Rattle.packing.specs.declared.Record.{Record}

-- the code's array of five for up to five layers, filled up with `none`
abbrev pub five : {A : Type 0} → (none : A) → List A → List A
five none l = take 5 (l ++ replicate 5 none)

-- what stands for the numbers of a layer that is not there
abbrev pub no_head : LayerHead
no_head = record { bound = 0; size = 0 }

abbrev pub five_heads : List LayerHead → List LayerHead
five_heads heads = five no_head heads

-- the code's array of 255 for a list of nodes, filled up with 0
unfoldable pub nodes_array : List ℕ → List ℕ
nodes_array nodes = take 255 (nodes ++ replicate 255 0)

-- a list of nodes as the code's count and array, and the list that these stand for
abbrev pub dark_of : List ℕ → Dark
dark_of nodes = record { count = length nodes; nodes = nodes_array nodes }

abbrev pub dark_list : Dark → List ℕ
dark_list dark = take dark.count dark.nodes

-- what they say: how many nodes, and these
abbrev pub dark_values : Dark → List ℕ
dark_values dark = dark.count ∷ dark_list dark

-- n, r and the nodes out of service, as the code has them, and back
abbrev pub base_of : Site → Base
base_of site = record { n = site.n; r = site.r; dark = dark_of site.dark }

abbrev pub site_of : Base → Site
site_of base = record { n = base.n; r = base.r; dark = dark_list base.dark }

-- a list that fits the code's marks: at most 255 nodes, each a byte
pub record DarkFits (dark : Dark) : Type 0 where
  pub few : dark.count ≤ 255
  pub bytes : All (λ v. v < 256) (dark_list dark)

abbrev pub dark_read : Checked NodesReading → Result DarkRead Refusal
dark_read = answered (λ d. record { dark = dark_of d.nodes; next = d.next })

abbrev pub base_read : Checked BaseReading → Result BaseRead Refusal
base_read = answered (λ b. record { kind = b.kind; base = base_of b.base; next = b.next })

abbrev pub layers_read : Checked LayerHeads → Result LayersRead Refusal
layers_read = answered (λ layers. record { heads = five_heads layers.heads; next = layers.next })

-- the value is the row's record number; there is none where no row was found
abbrev pub row_outcome : Option Record → Outcome
row_outcome (Some row) = result (row.0 ∷ [])
row_outcome None = result []
