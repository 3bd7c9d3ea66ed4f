-- What `join` writes, from the answer of the call, and by how many files are named. Assumes nothing.
use Prim.Native.Nat.{ℕ, ◌≤◌, ◌<◌}
use Rattle.std.specs.Prelude.{Result, Ok}
use mathlib.Core.Path.{◌≡◌, ◌∙◌}
use mathlib.Core.List.{List, [], ◌∷◌}
use lib.ListN.{length}
use borrow.Author.Tests.{lt-ltb, le-ltb, eq-eqb, ne_eqb}
use Rattle.refusal.specs.Checked.{Checked, accepted, refused}
use Rattle.pack.specs.Pack.{Pack, bytes_of_pack}
use Rattle.join.specs.Join.{join}
use Rattle.join.specs.Answers.{JoinDone}
use Rattle.report.specs.Replies.{Replied}
use Rattle.report.proofs.Replies.{replied-of}
use Rattle.text.specs.declared.TextRefusal.TheVariants.{Arguments}
use Rattle.replies.specs.Lines.{text_line}
use Rattle.call_replies.specs.Join.{joined_text, join_reply, Told}
use Rattle.refusal.specs.declared.Refusal.{Refusal}

-- after a call, and what was told of its answer
pub told-replied : (m : Checked Pack) (before : List ℕ) {between after : List ℕ} {given : Result ℕ Refusal} {r : ℕ}
    → JoinDone m before between given → Told given r between after → Replied (joined_text m) r before after
unfolding joined_text
told-replied (accepted p) before {between} {after} {given} {r} done told =
    let t : Told (Ok (length (bytes_of_pack p))) r between after = rw done.given_is at told in
    replied-of (bytes_of_pack p) r before after t.0 (t.1 ∙ done.output-after)
told-replied (refused e) before {between} {after} {given} {r} done told =
    rw (done.given_is, done.output-after) at told

module _ (named : ℕ) (first second third : List ℕ) (output : ℕ) where
  pub joins-many : 3 < named → join_reply named first second third output ≡ text_line (Arguments 3)
  unfolding join_reply
  joins-many h = rw (lt-ltb 3 named h)

  module _ (few : named ≤ 3) where
    pub joins-one : named < 2 → join_reply named first second third output ≡ joined_text (join (first ∷ []) output)
    unfolding join_reply
    joins-one h = rw (le-ltb 3 named few, lt-ltb named 2 h)

    module _ (more : 2 ≤ named) where
      pub joins-two : named ≡ 2 → join_reply named first second third output ≡ joined_text (join (first ∷ second ∷ []) output)
      unfolding join_reply
      joins-two e = rw (le-ltb 3 named few, le-ltb named 2 more, eq-eqb named 2 e)

      pub joins-three : (named ≡ 2 → ⊥)
          → join_reply named first second third output ≡ joined_text (join (first ∷ second ∷ third ∷ []) output)
      unfolding join_reply
      joins-three h = rw (le-ltb 3 named few, le-ltb named 2 more, ne_eqb named 2 h)
