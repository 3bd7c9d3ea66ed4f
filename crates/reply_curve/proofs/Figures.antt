-- The lines of figures, put one after another. Assumes nothing.
use Prim.Native.Nat.{ℕ, suc, ◌+◌, ◌*◌, ◌≤◌, ◌<◌}
use native.Mathlib.Omega.{arith}
use native.Mathlib.Numerals.{add-one}
use mathlib.Core.Path.{◌≡◌, refl, sym, ◌∙◌, ap}
use mathlib.Core.List.{List, [], ◌∷◌, ◌++◌, append-nil, append_assoc}
use lib.ListN.{length, take, get_or, length-append}
use lib.Seq.{take-suc, take-length, length-take-le}
use Rattle.report.specs.Replies.{Replied}
use Rattle.report_lines.specs.Put.{Put}
use Rattle.replies.specs.Lines.{numbers_line, figure_lines}
use Rattle.reply_lines.proofs.Puts.{put-append, put-none, put-replied, numbers-length-le}

figure_lines-append : (k : ℕ) (a b : List ℕ) → figure_lines k (a ++ b) ≡ figure_lines k a ++ figure_lines (k + length a) b
unfolding figure_lines
figure_lines-append k [] b = let e : k + 0 ≡ k = omega arith in rw e
figure_lines-append k (figure ∷ a) b =
    let e : suc k + length a ≡ k + suc (length a) = omega arith in
    rw (figure_lines-append (suc k) a b, ← e) (sym (append_assoc (numbers_line k (figure ∷ [])) (figure_lines (suc k) a) (figure_lines (suc k + length a) b)))

-- a line has at most 42 bytes
figure_lines-length : (k : ℕ) (figures : List ℕ) → length (figure_lines k figures) ≤ 42 * length figures
unfolding figure_lines
figure_lines-length k [] = omega arith
figure_lines-length k (figure ∷ figures) =
    rw (length-append (numbers_line k (figure ∷ [])) (figure_lines (suc k) figures))
    (omega (arith, numbers-length-le k (figure ∷ []), figure_lines-length (suc k) figures))

-- The lines of the figures so far stand at the start.
pub record FigureTurn (figures before : List ℕ) (k : ℕ) (after : List ℕ) (place i : ℕ) : Type 0 where
  pub within : i ≤ length figures
  pub same_length : length after ≡ length before
  pub done : Put (figure_lines k (take i figures)) before 0 place after

pub figures-hold : (figures before : List ℕ) (k : ℕ) → FigureTurn figures before k before 0 0
unfolding figure_lines
figures-hold figures before k = record { within = omega arith; same_length = refl; done = put-none before 0 refl }

module _ {figures before : List ℕ} {k : ℕ} {after : List ℕ} {place i : ℕ} (turn : FigureTurn figures before k after place i)
    (few : length figures ≤ 254) (room : 10_668 ≤ length before) where
  place-most : place ≤ 42 * i
  place-most =
      omega (
        arith,
        turn.done.ends,
        figure_lines-length k (take i figures),
        length-take-le i figures turn.within,
      )

  -- the next line fits
  pub figures-fit : i < length figures → place + 42 ≤ length after
  figures-fit more = omega (arith, place-most, turn.same_length)

  pub figures-again : i < length figures → (next : ℕ) (out : List ℕ) → length out ≡ length after
      → Put (numbers_line (k + i) (get_or figures i 0 ∷ [])) after place next out → FigureTurn figures before k out next (i + 1)
  unfolding figure_lines
  figures-again more next out len put =
      let size : length (take i figures) ≡ i = length-take-le i figures turn.within in
      let one : take (i + 1) figures ≡ take i figures ++ (get_or figures i 0 ∷ []) = rw (add-one i) (take-suc figures i 0 more) in
      let line = numbers_line (k + i) (get_or figures i 0 ∷ []) in
      let whole : figure_lines k (take (i + 1) figures) ≡ figure_lines k (take i figures) ++ line =
      ap (figure_lines k) one
      ∙ figure_lines-append k (take i figures) (get_or figures i 0 ∷ [])
      ∙ rw (size, append-nil line) in
      record {
        within = omega arith;
        same_length = len ∙ turn.same_length;
        done = rw whole (put-append turn.done put);
      }

  pub figures-all : length figures ≤ i → Replied (figure_lines k figures) place before after
  figures-all last =
      let e : i ≡ length figures = omega (arith, turn.within) in
      let all : take i figures ≡ figures = rw e (take-length figures) in
      put-replied (rw all at turn.done) (omega (arith, place-most))
