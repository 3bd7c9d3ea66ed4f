-- What `join` prints. Assumes nothing.
use Rattle.std.specs.Prelude.{ℕ, cond, ◌≡◌, List, [], ◌∷◌, ltb, eqb, Result, Ok, Err}
use Rattle.refusal.specs.Checked.{Checked, map_accepted}
use Rattle.pack.specs.Pack.{Pack, bytes_of_pack}
use Rattle.join.specs.Join.{join}
use Rattle.report.specs.Programs.{refused_line, or_refused_line}
use Rattle.report.specs.Replies.{Replied}
use Rattle.text.specs.declared.TextRefusal.TheVariants.{Arguments}
use Rattle.replies.specs.Lines.{text_line}
use Rattle.refusal.specs.declared.Refusal.{Refusal}

-- the joined pack, or the line of the refusal
unfoldable pub joined_text : Checked Pack → List ℕ
joined_text joined = or_refused_line (map_accepted bytes_of_pack joined)

-- "one, two or three pack files named as arguments", with an output of so many bytes: where no file is named, the first is the one
-- on standard input; of more than three none is looked at
unfoldable pub join_reply : (named : ℕ) (first second third : List ℕ) (output : ℕ) → List ℕ
join_reply named first second third output =
    cond (ltb 3 named)
    (text_line (Arguments 3))
    (cond (ltb named 2)
    (joined_text (join (first ∷ []) output))
    (cond (eqb named 2)
    (joined_text (join (first ∷ second ∷ []) output))
    (joined_text (join (first ∷ second ∷ third ∷ []) output))))

-- what is said after a call of joining: nothing more where it has written, else the line of the refusal
abbrev pub Told : Result ℕ Refusal → (answer : ℕ) (before after : List ℕ) → Type 0
Told (Ok n) answer before after = (answer ≡ n) × (after ≡ before)
Told (Err e) answer before after = Replied (refused_line e) answer before after
