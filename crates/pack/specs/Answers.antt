-- The answer of checking a pack as a value of the code's types, and what each case says. Assumes nothing.
use Rattle.std.specs.Prelude.{ℕ, List, [], ◌∷◌, ◌++◌, length, Result, Ok, Err}
use Rattle.refusal.specs.Refusals.{Outcome, result, refusal_outcome}
use Rattle.refusal.specs.Checked.{Checked, accepted, refused}
use Rattle.layers.specs.Layers.{Located, heads_of, head_numbers}
use Rattle.layers.specs.declared.LayerHead.{LayerHead}
use Rattle.layers.specs.declared.Dark.{Dark}
use Rattle.layers.specs.Answers.{five_heads, dark_of, dark_values}
use Rattle.pack.specs.Pack.{Pack}
use Rattle.pack.specs.declared.PackHead.{PackHead}
use Rattle.pack.specs.declared.PackCheck.{PackCheck}
use Rattle.refusal.specs.declared.Refusal.{Refusal}

-- the numbers of an accepted pack
abbrev pub pack_head : Located Pack → PackHead
pack_head file = record { n = file.content.n; r = file.content.r; first = file.first }

abbrev pub pack_checked : Checked (Located Pack) → PackCheck
pack_checked (accepted file) =
    record {
      answer = Ok (pack_head file);
      layers = five_heads (heads_of file.content.layers);
      dark = dark_of file.content.dark;
    }
pack_checked (refused e) = record { answer = Err e; layers = five_heads []; dark = dark_of [] }

-- an accepted pack's values: n, r, the place of its first block, mu and m of each of five layers, 0 and 0 from r on, how many nodes
-- are out of service, and these
abbrev pub pack_values : Located Pack → List ℕ
pack_values file =
    file.content.n ∷ file.content.r ∷ file.first
    ∷ (head_numbers (five_heads (heads_of file.content.layers)) ++ (length file.content.dark ∷ file.content.dark))

-- what the answer says, with the layers and the list beside it
abbrev pub pack_says : Result PackHead Refusal → List LayerHead → Dark → Outcome
pack_says (Ok head) layers dark =
    result (head.n ∷ head.r ∷ head.first ∷ (head_numbers layers ++ dark_values dark))
pack_says (Err e) layers dark = refusal_outcome e

abbrev pub pack_outcome : PackCheck → Outcome
pack_outcome check = pack_says check.answer check.layers check.dark
