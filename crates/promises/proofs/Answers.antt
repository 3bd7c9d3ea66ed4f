-- Demand 1: every call "finishes with a result or a numbered refusal and its place, and after a refusal each lent buffer
-- holds what it held before". A call's contract equates its answer with a value of the code's enum; here is what that value
-- says, by the definition that "gives this paper's number and values for every case of that enum". Assumes nothing.
use Prim.Native.Nat.{ℕ, ◌≤◌}
use Rattle.std.specs.Prelude.{⊤, Result, Ok, Err}
use mathlib.Core.Path.{◌≡◌, refl}
use mathlib.Core.List.{List, [], ◌∷◌}
use mathlib.Core.Option.{Option, none, some}
use lib.ListN.{length}
use lib.Dec.{lit≤}
use Rattle.refusal.specs.declared.Refusal.{Refusal}
use Rattle.refusal.specs.declared.Refusal.TheVariants.{Ended, Malformed, WrongKind, OutsideLimits, Trailing, BadRow, Crowded, WrongFigure, NoBlock, ShortWork, ShortOutput, BadOrder, Unjoinable, BadWish, OutOfService, BadCounts, TooManySets, BadRounds, EarlierEvent, BadEvent, SharedFeeder}
use Rattle.refusal.specs.Refusals.{result, number_of}
use Rattle.refusal.specs.Checked.{Checked, accepted, refused, outcome, written, verdict, verdict_outcome, writing, writing_outcome}
use Rattle.number.specs.declared.Reading.{Reading}
use Rattle.number.specs.Answers.{number_read, read_outcome, number_written, written_outcome}
use Rattle.packing.specs.Answers.{row_found}
use Rattle.layers.specs.Layers.{Located, NodesReading, BaseReading, LayerHeads}
use Rattle.layers.specs.Answers.{dark_read, base_read, layers_read, row_outcome}
use Rattle.pack.specs.Pack.{Pack, read_pack}
use Rattle.pack.proofs.Accepted.{pack-told}
use Rattle.pack.specs.Answers.{pack_checked, pack_outcome, pack_values}
use Rattle.placement.specs.Placement.{Placement, TermsReading, read_placement}
use Rattle.placement.proofs.Answered.{placement-told}
use Rattle.placement.specs.Answers.{terms_read, placement_checked, placement_outcome, placement_values}
use Rattle.planner.specs.Answers.{plan_answer, plan_outcome, plan_values}
use Rattle.commit.specs.Asking.{Offer, ask_answer, ask_outcome, offer_values}
use Rattle.walk.specs.declared.Cursor.{Cursor}
use Rattle.walk.specs.RowWalk.{walk_opened, walk_outcome}
use Rattle.report.specs.Answers.{reply, reply_outcome}

-- "a numbered refusal": 1 to 21
pub demand-1-numbered : (e : Refusal) → (1 ≤ number_of e) × (number_of e ≤ 21)
demand-1-numbered (Ended p) = (lit≤ tt, lit≤ tt)
demand-1-numbered (Malformed p) = (lit≤ tt, lit≤ tt)
demand-1-numbered WrongKind = (lit≤ tt, lit≤ tt)
demand-1-numbered (OutsideLimits p) = (lit≤ tt, lit≤ tt)
demand-1-numbered (Trailing p) = (lit≤ tt, lit≤ tt)
demand-1-numbered (BadRow p) = (lit≤ tt, lit≤ tt)
demand-1-numbered (Crowded p) = (lit≤ tt, lit≤ tt)
demand-1-numbered (WrongFigure p) = (lit≤ tt, lit≤ tt)
demand-1-numbered NoBlock = (lit≤ tt, lit≤ tt)
demand-1-numbered (ShortWork p) = (lit≤ tt, lit≤ tt)
demand-1-numbered (ShortOutput p) = (lit≤ tt, lit≤ tt)
demand-1-numbered (BadOrder p) = (lit≤ tt, lit≤ tt)
demand-1-numbered Unjoinable = (lit≤ tt, lit≤ tt)
demand-1-numbered BadWish = (lit≤ tt, lit≤ tt)
demand-1-numbered (OutOfService p) = (lit≤ tt, lit≤ tt)
demand-1-numbered BadCounts = (lit≤ tt, lit≤ tt)
demand-1-numbered TooManySets = (lit≤ tt, lit≤ tt)
demand-1-numbered BadRounds = (lit≤ tt, lit≤ tt)
demand-1-numbered (EarlierEvent p) = (lit≤ tt, lit≤ tt)
demand-1-numbered (BadEvent p) = (lit≤ tt, lit≤ tt)
demand-1-numbered (SharedFeeder p) = (lit≤ tt, lit≤ tt)

-- "after a refusal each lent buffer holds what it held before": the slice that a number or a program's reply is put into
pub demand-1-unchanged : (e : Refusal) (out : List ℕ) → written (refused e) out ≡ out
demand-1-unchanged e out = refl

-- reading and writing a number
pub demand-1-read : (c : Checked Reading) → read_outcome (number_read c) ≡ outcome (λ n. n.value ∷ n.next ∷ []) c
demand-1-read (accepted n) = refl
demand-1-read (refused e) = refl

pub demand-1-write : (c : Checked (List ℕ)) → written_outcome (number_written c) ≡ outcome (λ bytes. length bytes ∷ []) c
demand-1-write (accepted bytes) = refl
demand-1-write (refused e) = refl

-- a check without a value of its own: the rows, the order, the slices
pub demand-1-verdict : {A : Type 0} (c : Checked A) → verdict_outcome (verdict c) ≡ outcome (λ a. []) c
demand-1-verdict (accepted a) = refl
demand-1-verdict (refused e) = refl

-- a part's answer without its value: good, or the refusal
abbrev pub verdict_of : {A : Type 0} → Result A Refusal → Result ⊤ Refusal
verdict_of (Ok a) = Ok tt
verdict_of (Err e) = Err e

-- the parts that both checkers have: n, r and the list, the layers' numbers, and a placement's s, k, b and F
pub demand-1-base : (c : Checked BaseReading) → verdict_outcome (verdict_of (base_read c)) ≡ outcome (λ b. []) c
demand-1-base (accepted b) = refl
demand-1-base (refused e) = refl

pub demand-1-list : (c : Checked NodesReading) → verdict_outcome (verdict_of (dark_read c)) ≡ outcome (λ list. []) c
demand-1-list (accepted list) = refl
demand-1-list (refused e) = refl

pub demand-1-layers : (c : Checked LayerHeads) → verdict_outcome (verdict_of (layers_read c)) ≡ outcome (λ layers. []) c
demand-1-layers (accepted layers) = refl
demand-1-layers (refused e) = refl

pub demand-1-terms : (c : Checked TermsReading) → verdict_outcome (verdict_of (terms_read c)) ≡ outcome (λ order. []) c
demand-1-terms (accepted order) = refl
demand-1-terms (refused e) = refl

-- the checkers, of any bytes: the list of nodes out of service is among the values
pub demand-1-pack : (bytes : List ℕ) → pack_outcome (pack_checked (read_pack bytes)) ≡ outcome pack_values (read_pack bytes)
demand-1-pack bytes = go (read_pack bytes) refl
  where
    go : (c : Checked (Located Pack)) → read_pack bytes ≡ c → pack_outcome (pack_checked c) ≡ outcome pack_values c
    go (accepted file) e = pack-told bytes file e
    go (refused why) e = refl

pub demand-1-placement : (bytes : List ℕ)
    → placement_outcome (placement_checked (read_placement bytes)) ≡ outcome placement_values (read_placement bytes)
demand-1-placement bytes = go (read_placement bytes) refl
  where
    go : (c : Checked (Located Placement)) → read_placement bytes ≡ c → placement_outcome (placement_checked c) ≡ outcome placement_values c
    go (accepted file) e = placement-told bytes file e
    go (refused why) e = refl

-- the planner: "The answer is the length, F and the counts."
pub demand-1-plan : (c : Checked Placement) → plan_outcome (plan_answer c) ≡ outcome plan_values c
demand-1-plan (accepted p) = refl
demand-1-plan (refused e) = refl

-- asking: the figure, the counts and the copies
pub demand-1-ask : (c : Checked Offer) → ask_outcome (ask_answer c) ≡ outcome offer_values c
demand-1-ask (accepted offer) = refl
demand-1-ask (refused e) = refl

-- the row walk
pub demand-1-walk : (c : Checked Cursor) → walk_outcome (walk_opened c) ≡ outcome (λ walk. walk.at ∷ walk.r ∷ walk.left ∷ []) c
demand-1-walk (accepted walk) = refl
demand-1-walk (refused e) = refl

-- the programs' replies
pub demand-1-reply : (c : Checked (List ℕ)) → reply_outcome (reply c) ≡ outcome (λ bytes. length bytes ∷ []) c
demand-1-reply (accepted bytes) = refl
demand-1-reply (refused e) = refl

-- a call that only writes
pub demand-1-writing : (c : Checked (List ℕ)) → writing_outcome (writing c) ≡ outcome (λ elements. length elements ∷ []) c
demand-1-writing (accepted elements) = refl
demand-1-writing (refused e) = refl

-- the row tests refuse nothing themselves: they name a row, or none
abbrev row_values : Option ℕ → List ℕ
row_values (some row) = row ∷ []
row_values none = []

pub demand-1-row : (row : Option ℕ) → row_outcome (row_found row) ≡ result (row_values row)
demand-1-row (some row) = refl
demand-1-row none = refl
