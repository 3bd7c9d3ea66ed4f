-- What is known of a draft that was read to the text's end, and of what is made. Assumes nothing.
use Prim.Native.Nat.{ℕ, suc, ◌-◌, ◌<◌}
use mathlib.Core.Path.{◌≡◌, refl}
use mathlib.Core.Bool.{Bool, true, false, ◌&&◌}
use mathlib.Core.List.{List, [], ◌∷◌}
use lib.Dec.{ltb}
use borrow.Author.Tests.{ltb-true}
use Rattle.lists.proofs.Tests.{T_true, true-T, and_left}
use Rattle.refusal.specs.Checked.{Checked, accepted, refused, map_accepted}
use Rattle.refusal.proofs.Checked.{map_accepted-accepted}
use Rattle.layers.specs.Layers.{Located}
use Rattle.certify.specs.Bare.{Bare, read_bare, check_bare}
use Rattle.table.specs.Told.{Told, good, bad, ◌>>=◌, unless, ends_early}
use Rattle.table.specs.Lines.{lines_of}
use Rattle.table.specs.Reading.{Draft, draft_bytes}
use Rattle.table.proofs.Made.{bad-not-good, good-injective}
use Rattle.rows_text.specs.Reading.{start_draft, add_line, read_lines, read_text}
use Rattle.rows_text.specs.Making.{rows_if, rows_draft, rows_of}

-- a text that is read to its end has an r
lines-replica : (line : ℕ) (lines : List (List ℕ)) (d : Draft) {made : Draft} → read_lines line lines d ≡ good made → 0 < made.r
unfolding read_lines
lines-replica line [] d {made} e = go (ltb 0 d.r && ltb 0 d.blocks) refl e
  where
    go : (b : Bool) → (ltb 0 d.r && ltb 0 d.blocks) ≡ b
        → (unless b (ends_early (line - 1)) >>= λ _. good d) ≡ good made → 0 < made.r
    go true t h =
        let same : d ≡ made = good-injective h in
        rw (← same) (ltb-true 0 d.r (true-T (ltb 0 d.r) (and_left (ltb 0 d.r) (ltb 0 d.blocks) (T_true t))))
    go false t h = absurd (bad-not-good h)
lines-replica line (bytes ∷ lines) d {made} e = go (λ next. lines-replica (suc line) lines next) (add_line line bytes d) e
  where
    go : ((next : Draft) → read_lines (suc line) lines next ≡ good made → 0 < made.r) → (told : Told Draft)
        → (told >>= read_lines (suc line) lines) ≡ good made → 0 < made.r
    go later (good next) h = later next h
    go later (bad f) h = absurd (bad-not-good h)

pub some-replica : (text : List ℕ) {made : Draft} → read_text text ≡ good made → 0 < made.r
unfolding read_text
some-replica text e = lines-replica 1 (lines_of text) start_draft e

-- Whatever is made of a text, the check accepts it as bare rows.
pub made-accepted : (text : List ℕ) {bytes : List ℕ} → rows_of text ≡ good bytes → (p : Bare) × (check_bare bytes ≡ accepted p)
unfolding rows_of rows_draft check_bare
made-accepted text {bytes} e = go (read_text text) e
  where
    checked : (d : Draft) (m : Checked (Located Bare)) → read_bare (draft_bytes d) ≡ m → rows_if d m ≡ good bytes
        → (p : Bare) × (map_accepted (λ file. file.content) (read_bare bytes) ≡ accepted p)
    checked d (accepted file) is h =
        let same : draft_bytes d ≡ bytes = good-injective h in
        (file.content, rw (← same, is) refl)
    checked d (refused why) is h = absurd (bad-not-good h)

    go : (told : Told Draft) → (told >>= rows_draft) ≡ good bytes
        → (p : Bare) × (map_accepted (λ file. file.content) (read_bare bytes) ≡ accepted p)
    go (good d) h = checked d (read_bare (draft_bytes d)) refl h
    go (bad f) h = absurd (bad-not-good h)

-- and it is what the text's lines say
pub made-of-lines : (text : List ℕ) {bytes : List ℕ} → rows_of text ≡ good bytes → (d : Draft) × (read_text text ≡ good d) × (draft_bytes d ≡ bytes)
unfolding rows_of rows_draft
made-of-lines text {bytes} e = go (read_text text) refl e
  where
    checked : (d : Draft) (m : Checked (Located Bare)) → rows_if d m ≡ good bytes → draft_bytes d ≡ bytes
    checked d (accepted file) h = good-injective h
    checked d (refused why) h = absurd (bad-not-good h)

    go : (told : Told Draft) → read_text text ≡ told → (told >>= rows_draft) ≡ good bytes
        → (d : Draft) × (read_text text ≡ good d) × (draft_bytes d ≡ bytes)
    go (good d) is h = (d, is, checked d (read_bare (draft_bytes d)) h)
    go (bad f) is h = absurd (bad-not-good h)

-- So bare rows are made exactly where the lines are read to the text's end and the check accepts what they say.
pub lines-made : (text : List ℕ) (d : Draft) → read_text text ≡ good d → (p : Bare) → check_bare (draft_bytes d) ≡ accepted p
    → rows_of text ≡ good (draft_bytes d)
unfolding rows_of rows_draft check_bare
lines-made text d is p e =
    let (file, read, content) = map_accepted-accepted (λ (file : Located Bare). file.content) (read_bare (draft_bytes d)) e in
    rw (is, read) refl
