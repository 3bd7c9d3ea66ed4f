-- What the lines of a text have made when its end is reached: bare rows of which all is right but that a row may name a node out of
-- service. Assumes nothing.
use Prim.Native.Nat.{ℕ, suc, ◌≤◌, ◌<◌}
use native.Mathlib.Omega.{arith}
use mathlib.Core.Path.{◌≡◌, refl, sym, ◌∙◌, ap, subst}
use mathlib.Core.Logic.{inl, inr}
use mathlib.Core.Bool.{◌&&◌}
use mathlib.Core.List.{List, [], ◌∷◌, ◌++◌}
use mathlib.Core.Option.{Option, none, some}
use lib.Dec.{ltb}
use borrow.Author.Tests.{ltb-true}
use Rattle.lists.proofs.Tests.{false-T}
use Rattle.refusal.specs.declared.Refusal.{Refusal}
use Rattle.refusal.specs.declared.Refusal.TheVariants.{OutOfService}
use Rattle.refusal.specs.Checked.{accepted, refused}
use Rattle.refusal.proofs.Checked.{map_accepted-accepted}
use Rattle.number.specs.Numbers.{forms_of}
use Rattle.layers.specs.Layers.{Located}
use Rattle.certify.specs.Bare.{Bare, bare_bytes, read_bare, check_bare}
use Rattle.certify.proofs.Placed.{PlacedBare, placed-accepted, placed-refused}
use Rattle.table.specs.Told.{Told, good, bad, ◌>>=◌}
use Rattle.table.specs.Lines.{lines_of, uncommented}
use Rattle.table.specs.Reading.{Draft, draft_bytes}
use Rattle.table.proofs.Made.{bad-not-good, good-injective, unless-good}
use Rattle.table.proofs.Headed.{both}
use Rattle.rows_text.specs.Words.{word_of, numbers_after}
use Rattle.rows_text.specs.Reading.{start_draft, add_read, add_content, add_line, read_lines, read_text}
use Rattle.rows_text.specs.Making.{rows_of}
use Rattle.rows_text.proofs.Stages.{Filled, Held, step}
use Rattle.rows_text.proofs.Made.{made-accepted, made-of-lines}

line-held : (line : ℕ) (bytes : List ℕ) (d : Draft) {made : Draft} → Held d → add_line line bytes d ≡ good made → Held made
unfolding add_line add_content
line-held line bytes d {made} held e =
    go (numbers_after (word_of (uncommented bytes)) (uncommented bytes)) e
  where
    go : (o : Option (List ℕ)) → add_read line (word_of (uncommented bytes)) o d ≡ good made → Held made
    go none h = absurd (bad-not-good h)
    go (some numbers) h = step line (word_of (uncommented bytes)) numbers d held h

lines-filled : (line : ℕ) (lines : List (List ℕ)) (d : Draft) {made : Draft} → Held d → read_lines line lines d ≡ good made
    → (f : Filled made) × (1 ≤ f.q.order.b)
unfolding read_lines
lines-filled line [] d {made} held e =
    let (due, same) = unless-good (ltb 0 d.r && ltb 0 d.blocks) _ _ e in
    let (some-r, some-b) = both (ltb 0 d.r) (ltb 0 d.blocks) due in
    go held (ltb-true 0 d.blocks some-b) (good-injective same)
  where
    go : Held d → 0 < d.blocks → d ≡ made → (f : Filled made) × (1 ≤ f.q.order.b)
    go (inl is) some-b same = absurd (let z = ap (λ (x : Draft). x.blocks) is in omega arith)
    go (inr (inl h)) some-b same = absurd (let z = ap (λ (x : Draft). x.blocks) h.is in omega arith)
    go (inr (inr f)) some-b same =
        subst (λ x. (f : Filled x) × (1 ≤ f.q.order.b)) same (f, let z = ap (λ (x : Draft). x.blocks) f.is in omega arith)
lines-filled line (bytes ∷ lines) d {made} held e =
    go (λ next h. lines-filled (suc line) lines next h) (add_line line bytes d) refl e
  where
    go : ((next : Draft) → Held next → read_lines (suc line) lines next ≡ good made → (f : Filled made) × (1 ≤ f.q.order.b))
        → (told : Told Draft) → add_line line bytes d ≡ told → (told >>= read_lines (suc line) lines) ≡ good made
        → (f : Filled made) × (1 ≤ f.q.order.b)
    go later (good next) is h = later next (line-held line bytes d held is) h
    go later (bad f) is h = absurd (bad-not-good h)

-- A text that is read to its end says bare rows of which all is right but that a row may name a node out of service, and what is made
-- is their file, each number in its shortest form.
pub drafted : (text : List ℕ) {d : Draft} → read_text text ≡ good d → (q : Bare) × PlacedBare q × (draft_bytes d ≡ bare_bytes q)
unfolding read_text draft_bytes bare_bytes
drafted text e =
    let (f, some-b) = lines-filled 1 (lines_of text) start_draft (inl refl) e in (
      f.q,
      record {
        base = f.base;
        dark = record { ordered = f.ordered; unlisted = λ u. absurd (false-T u tt) };
        order = record {
          s-least = f.s-least;
          s-most = f.s-most;
          k-least = f.k-least;
          k-most = f.k-most;
          b-least = some-b;
          b-most = f.b-most;
        };
        records-all = f.records-all;
        rows = f.rows;
      },
      ap (λ (x : Draft). forms_of x.numbers ++ x.rows) f.is,
    )

-- So after the lines the check can refuse with 15 only, a row that names a node out of service.
pub read-then-15 : (text : List ℕ) {d : Draft} → read_text text ≡ good d → (e : Refusal) → read_bare (draft_bytes d) ≡ refused e
    → (p : ℕ) × (e ≡ OutOfService p)
read-then-15 text is e h =
    let (q, placed, same) = drafted text is in
    placed-refused q placed e (ap read_bare (sym same) ∙ h)

-- And what is made of a text is the file of the bare rows that the check reads in it, each number in its shortest form.
pub made_bytes : (text : List ℕ) {bytes : List ℕ} → rows_of text ≡ good bytes → (q : Bare) × (check_bare bytes ≡ accepted q) × (bytes ≡ bare_bytes q)
unfolding check_bare
made_bytes text {bytes} e =
    let (d, read, is) = made-of-lines text e in
    let (q, placed, same) = drafted text read in
    let whole : bytes ≡ bare_bytes q = sym is ∙ same in
    let (p, checked) = made-accepted text e in
    let (file, found, content) = map_accepted-accepted (λ (file : Located Bare). file.content) (read_bare bytes) checked in
    let content-q = placed-accepted q placed file (ap read_bare (sym whole) ∙ found) in
    (q, checked ∙ ap accepted (sym content ∙ content-q), whole)
