-- The parts of a line, as the code lends them. Assumes nothing.
use Prim.Native.Nat.{ℕ, ◌+◌, ◌-◌, ◌≤◌, ◌<◌}
use Rattle.std.specs.Prelude.{Option}
use native.Mathlib.Omega.{arith}
use mathlib.Core.Path.{◌≡◌, refl, ◌∙◌}
use mathlib.Core.List.{List}
use lib.ListN.{length, take, drop, length-drop, drop_of_length-le}
use lib.Seq.{drop-cons}
use Rattle.lists.proofs.Writing.{take-drop-rest}
use Rattle.table.specs.Lines.{before, is_blank}
use Rattle.logs.specs.declared.State.{State}
use Rattle.logs.specs.declared.LogLine.TheVariants.{Nothing, Unreadable}
use Rattle.logs.specs.Lines.{no_blank, blanks, solid, word_of, after_word, number_of, state_of, with_time, last_word, two_words, three_words, content_line, line_of}
use Rattle.logs.proofs.Lines.{leading_le, after-word}
use Rattle.table.proofs.Places.{before-length, before-take}

module _ (bytes : List ℕ) where
  module _ {end : ℕ} (is : end ≡ solid bytes) where
    pub word-inside : end ≤ length bytes
    word-inside = omega (arith, leading_le no_blank bytes)

    -- the first word
    pub word-taken : take (end - 0) (drop 0 bytes) ≡ word_of bytes
    word-taken = let e : end - 0 ≡ solid bytes = omega arith in rw e refl

    -- the place after the blanks after it
    pub after-place : {more : ℕ} → more ≡ blanks (take (length bytes - end) (drop end bytes))
        → (end + more ≡ solid bytes + blanks (drop (solid bytes) bytes)) × (end + more ≤ length bytes)
    after-place {more} e =
        let m : more ≡ blanks (drop (solid bytes) bytes) = e ∙ rw (take-drop-rest bytes end, is) refl in
        let few = leading_le is_blank (drop (solid bytes) bytes) in
        (rw (is, m) refl, omega (arith, word-inside, length-drop (solid bytes) bytes))

  module _ {next : ℕ} (is : next ≡ solid bytes + blanks (drop (solid bytes) bytes)) where
    pub rest-after : take (length bytes - next) (drop next bytes) ≡ after_word bytes
    rest-after = take-drop-rest bytes next ∙ after-word bytes is

    -- the last word, with another after it or none
    pub last_more : (time node : Option ℕ) → next < length bytes → Unreadable ≡ last_word time node bytes
    unfolding last_word
    last_more time node more = rw (← after-word bytes is, drop-cons bytes next 0 more) refl

    pub last-all : (time node : Option ℕ) {state : State} → length bytes ≤ next → state ≡ state_of (word_of bytes)
        → with_time time node state ≡ last_word time node bytes
    unfolding last_word
    last-all time node all e = rw (← after-word bytes is, drop_of_length-le bytes all, e) refl

    pub two_is : (time : Option ℕ) {node : Option ℕ} → node ≡ number_of (word_of bytes)
        → last_word time node (take (length bytes - next) (drop next bytes)) ≡ two_words time bytes
    unfolding two_words
    two_is time e = rw (rest-after, e) refl

    pub three-is : {time : Option ℕ} → time ≡ number_of (word_of bytes)
        → two_words time (take (length bytes - next) (drop next bytes)) ≡ three_words bytes
    unfolding three_words
    three-is e = rw (rest-after, e) refl

  -- a line's blanks, and what follows
  module _ {start : ℕ} (is : start ≡ blanks bytes) where
    pub start-inside : start ≤ length bytes
    start-inside = omega (arith, leading_le is_blank bytes)

    pub content-none : start ≡ length bytes → Nothing ≡ content_line bytes
    unfolding content_line
    content-none e = let h : length bytes ≤ start = omega arith in rw (← is, drop_of_length-le bytes h) refl

    pub content-some : (start ≡ length bytes → ⊥) → three_words (take (length bytes - start) (drop start bytes)) ≡ content_line bytes
    unfolding content_line
    content-some h =
        let more : start < length bytes = omega (arith, start-inside) in
        rw (← is, take-drop-rest bytes start, drop-cons bytes start 0 more) refl

  -- a line's comment
  module _ {end : ℕ} (is : end ≡ length (before 35 bytes)) where
    pub comment-inside : end ≤ length bytes
    comment-inside = omega (arith, before-length 35 bytes)

    pub line-is : content_line (take (end - 0) (drop 0 bytes)) ≡ line_of bytes
    unfolding line_of
    line-is = let e : end - 0 ≡ length (before 35 bytes) = omega arith in rw (e, before-take 35 bytes) refl
