-- What the lines of a text have made when its end is reached: a pack of which all is right but that a block may name a node out of
-- service or a layer may be crowded. Assumes nothing.
use Prim.Native.Nat.{ℕ, suc}
use native.Mathlib.Omega.{arith}
use mathlib.Core.Path.{◌≡◌, refl, sym, ◌∙◌, ap, subst}
use mathlib.Core.Logic.{◌⊎◌, inl, inr}
use mathlib.Core.Bool.{true, ◌&&◌}
use mathlib.Core.List.{List, [], ◌∷◌, ◌++◌, flatten}
use mathlib.Core.Option.{Option, none, some}
use lib.ListN.{length, length-append}
use lib.Dec.{ltb, eqb}
use borrow.Author.Tests.{ltb-true, eqb-true}
use Rattle.lists.specs.Lists.{All}
use Rattle.refusal.specs.declared.Refusal.{Refusal}
use Rattle.refusal.specs.declared.Refusal.TheVariants.{OutOfService, Crowded}
use Rattle.refusal.specs.Checked.{accepted, refused}
use Rattle.refusal.proofs.Checked.{map_accepted-accepted}
use Rattle.number.specs.Numbers.{forms_of}
use Rattle.packing.specs.Rows.{Row}
use Rattle.layers.specs.Layers.{Located, list_numbers}
use Rattle.pack.specs.Pack.{Pack, bytes_of_pack, read_pack, check_pack}
use Rattle.table.specs.Told.{Told, good, bad, ◌>>=◌}
use Rattle.table.specs.Lines.{lines_of, uncommented, word_of, numbers_after}
use Rattle.table.specs.Reading.{Draft, start_draft, add_read, add_content, add_line, read_lines, read_text, draft_bytes, pack_of}
use Rattle.table.proofs.Made.{bad-not-good, good-injective, unless-good, made-accepted, made-of-lines}
use Rattle.table.proofs.Headed.{both}
use Rattle.table.proofs.Placed.{PlacedPack, placed-accepted, placed-refused}
use Rattle.table.proofs.Stages.{Filled, Held, more_numbers, more_rows, more-sizes, step}

line-held : (line : ℕ) (bytes : List ℕ) (d : Draft) {made : Draft} → Held d → add_line line bytes d ≡ good made → Held made
unfolding add_line add_content
line-held line bytes d {made} held e =
    go (numbers_after (word_of (uncommented bytes)) (uncommented bytes)) e
  where
    go : (o : Option (List ℕ)) → add_read line (word_of (uncommented bytes)) o d ≡ good made → Held made
    go none h = absurd (bad-not-good h)
    go (some numbers) h = step line (word_of (uncommented bytes)) numbers d held h

-- the end is taken where there are r layers
abbrev Whole : Draft → Type 0
Whole d = (f : Filled d) × (suc (length f.done) ≡ f.r)

lines-filled : (line : ℕ) (lines : List (List ℕ)) (d : Draft) {made : Draft} → Held d → read_lines line lines d ≡ good made → Whole made
unfolding read_lines
lines-filled line [] d {made} held e =
    let (due, same) = unless-good (ltb 0 d.r && eqb d.layers d.r) _ _ e in
    let (some-r, all) = both (ltb 0 d.r) (eqb d.layers d.r) due in
    go held some-r (eqb-true d.layers d.r all) (good-injective same)
  where
    go : Held d → ltb 0 d.r ≡ true → d.layers ≡ d.r → d ≡ made → Whole made
    go (inl is) some-r all same =
        absurd (let z = ap (λ (x : Draft). x.r) is in omega (arith, ltb-true 0 d.r some-r))
    go (inr (inl h)) some-r all same =
        absurd (let l = ap (λ (x : Draft). x.layers) h.is in let z = ap (λ (x : Draft). x.r) h.is in omega (arith, h.base.r-least))
    go (inr (inr f)) some-r all same =
        subst Whole same (f, sym (ap (λ (x : Draft). x.layers) f.is) ∙ (all ∙ ap (λ (x : Draft). x.r) f.is))
lines-filled line (bytes ∷ lines) d {made} held e =
    go (λ next h. lines-filled (suc line) lines next h) (add_line line bytes d) refl e
  where
    go : ((next : Draft) → Held next → read_lines (suc line) lines next ≡ good made → Whole made)
        → (told : Told Draft) → add_line line bytes d ≡ told → (told >>= read_lines (suc line) lines) ≡ good made → Whole made
    go later (good next) is h = later next (line-held line bytes d held is) h
    go later (bad f) is h = absurd (bad-not-good h)

-- A text that is read to its end says such a pack, and what is made is its file of kind 4, each number in its shortest form.
pub drafted : (text : List ℕ) {d : Draft} → read_text text ≡ good d → (p : Pack) × PlacedPack p × (draft_bytes d ≡ bytes_of_pack p)
unfolding read_text draft_bytes bytes_of_pack list_numbers
drafted text e =
    let (f, each) = lines-filled 1 (lines_of text) start_draft (inl refl) e in
    let layers = f.done ++ (f.last ∷ []) in
    let p : Pack = record { n = f.n; r = f.r; dark = f.dark; layers = layers } in
    let head : List ℕ = 4 ∷ f.n ∷ f.r ∷ length f.dark ∷ f.dark in
    let numbers = sym (more_numbers f.done f.last) in
    let flat = sym (more_rows f.done f.last) in (
      p,
      record {
        limits = record {
          base = f.base;
          dark-order = f.ordered;
          layer-each = omega (arith, length-append f.done (f.last ∷ []));
          mu-limits = f.bounds;
          blocks-most = omega (arith, more-sizes f.done f.last, f.blocks-most);
        };
        rows = subst (All (Row f.n f.r)) flat f.rows;
      },
      ap (λ (x : Draft). forms_of x.numbers ++ x.rows) f.is
          ∙ λ i. forms_of (head ++ numbers i) ++ flatten (flat i),
    )

-- So after the lines the check can refuse with 15 only, a block that names a node out of service, or with 7, one of a crowded layer.
pub read-then-15-or-7 : (text : List ℕ) {d : Draft} → read_text text ≡ good d → (e : Refusal) → read_pack (draft_bytes d) ≡ refused e
    → ((at : ℕ) × (e ≡ OutOfService at)) ⊎ ((at : ℕ) × (e ≡ Crowded at))
read-then-15-or-7 text is e h =
    let (p, placed, same) = drafted text is in
    placed-refused p placed e (ap read_pack (sym same) ∙ h)

-- And what is made of a text is the file of kind 4 of the pack that the check reads in it, each number in its shortest form.
pub made_bytes : (text : List ℕ) {bytes : List ℕ} → pack_of text ≡ good bytes → (p : Pack) × (check_pack bytes ≡ accepted p) × (bytes ≡ bytes_of_pack p)
unfolding check_pack
made_bytes text {bytes} e =
    let (d, read, is) = made-of-lines text e in
    let (p, placed, same) = drafted text read in
    let whole : bytes ≡ bytes_of_pack p = sym is ∙ same in
    let (q, checked) = made-accepted text e in
    let (file, found, content) = map_accepted-accepted (λ (file : Located Pack). file.content) (read_pack bytes) checked in
    let content-p = placed-accepted p placed file (ap read_pack (sym whole) ∙ found) in
    (p, checked ∙ ap accepted (sym content ∙ content-p), whole)
