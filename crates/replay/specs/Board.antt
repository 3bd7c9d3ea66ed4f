-- How the code replays a log: one pass, which checks each event and counts after it, over a board of 25,089 numbers. The first
-- 20,737 are the index of the rows, which lists the records on each node; then 256 marks, of the nodes that are down; then the
-- records' replicas on nodes that are down. Assumes nothing.
use Rattle.std.specs.Prelude.{ℕ, zero, suc, ◌+◌, ◌≤◌, ◌<◌, ◌≡◌, Bool, true, false, cond, ◌&&◌, List, [], ◌∷◌, length, get_or, take, drop, T, eqb, ltb}
use Rattle.lists.specs.Lists.{count, up_to}
use Rattle.refusal.specs.Checked.{Checked, accepted, refused}
use Rattle.worst.specs.Records.{among, Index, on_node, few, raised_to, lowered_to as restored_to}
use Rattle.worst.specs.Searches.{Named}
use Rattle.worst.specs.declared.Entries.{Entries}
use Rattle.replay.specs.declared.Event.{Event}
use Rattle.replay.specs.declared.Progress.{Progress}
use Rattle.replay.specs.declared.Replayed.{Replayed}
use Rattle.replay.specs.declared.Replayed.TheVariants.{Lowest, Quiet, Refused}
use Rattle.replay.specs.Log.{down_after, check_event}
use Rattle.replay.specs.Replays.{check_replay}
use Rattle.replay.specs.Answers.{replay_answer}

-- the answer of the log so far after one event more
abbrev pub lowered_to : (number i : ℕ) → Replayed → Replayed
lowered_to number i (Lowest low j) = cond (ltb number low) (Lowest number i) (Lowest low j)
lowered_to number i (Quiet b) = Lowest number i
lowered_to number i (Refused e) = Refused e

-- what an event's check leaves of it
abbrev pub onward : Checked Unit → Replayed → Replayed
onward (accepted _) answer = answer
onward (refused why) answer = Refused why

-- the events from event i on: each is checked, then counted
unfoldable pub one_pass : (n : ℕ) (value : (ℕ → Bool) → ℕ) (i time : ℕ) (down : ℕ → Bool) → List Event → Replayed → Replayed
one_pass n value i time down [] answer = answer
one_pass n value i time down (e ∷ log) answer =
    onward (check_event n i time down e)
    (one_pass n value (suc i) e.time (down_after down e) log (lowered_to (value (down_after down e)) i answer))

abbrev pub index_of : (board : List ℕ) → List ℕ
index_of board = take 20_737 board

abbrev pub down_of : (board : List ℕ) → ℕ → Bool
down_of board v = ltb v 256 && ltb 0 (get_or board (20_737 + v) 0)

abbrev pub hits_of : (board : List ℕ) (b : ℕ) → List ℕ
hits_of board b = take b (drop 20_993 board)

-- a record's replicas on those of the first m nodes that are down
unfoldable pub on_down : (index : List ℕ) (down : ℕ → Bool) (i m : ℕ) → ℕ
on_down index down i zero = 0
on_down index down i (suc m) = cond (down m) (on_node index m i) 0 + on_down index down i m

-- how many of b records are usable, by the index
abbrev pub value_by : (index : List ℕ) (s b : ℕ) (down : ℕ → Bool) → ℕ
value_by index s b down = count (λ i. ltb (on_down index down i 256) s) (up_to b)

-- nothing is refused yet
abbrev pub running : Replayed → Bool
running (Lowest low j) = true
running (Quiet b) = true
running (Refused e) = false

-- the board fits what the progress says
pub record Counting (p : Progress) (board : List ℕ) : Type 0 where
  pub is-index : Index (index_of board) p.b
  pub n-most : p.n ≤ 255
  pub b-most : p.b ≤ 4_096
  pub counted : (i : ℕ) → i < p.b → get_or (hits_of board p.b) i 0 ≡ on_down (index_of board) (down_of board) i 256
  pub usable-is : p.usable ≡ value_by (index_of board) p.s p.b (down_of board)

pub record Standing (p : Progress) (board : List ℕ) : Type 0 where
  pub long : length board ≡ 25_089
  pub going : T (running p.answer) → Counting p board

-- what the rest of the log, from event i on, gives
abbrev pub rest : (p : Progress) (board : List ℕ) (i : ℕ) → List Event → Replayed
rest p board i log =
    cond (running p.answer) (one_pass p.n (value_by (index_of board) p.s p.b) i p.time (down_of board) log p.answer)
    p.answer

-- an event more
pub record Stepped (p : Progress) (board : List ℕ) (i : ℕ) (e : Event) (board' : List ℕ) (p' : Progress) : Type 0 where
  pub standing : Standing p' board'
  pub same : (log : List Event) → rest p board i (e ∷ log) ≡ rest p' board' (suc i) log

-- before the first event
pub record Begun (bytes board : List ℕ) (p : Progress) : Type 0 where
  pub standing : Standing p board
  pub same : (log : List Event) → replay_answer (check_replay bytes log) ≡ rest p board 0 log

-- the entries name records, and there is room to raise their replicas
pub record Raising (board : List ℕ) (b : ℕ) (entries : Entries) : Type 0 where
  pub named : Named (index_of board) (hits_of board b) entries
  pub room : (i : ℕ) → get_or (hits_of board b) i 0 + among (eqb i) (index_of board) entries.from entries.count ≤ 65_535

-- or to lower them
pub record Restoring (board : List ℕ) (b : ℕ) (entries : Entries) : Type 0 where
  pub named : Named (index_of board) (hits_of board b) entries
  pub held : (i : ℕ) → among (eqb i) (index_of board) entries.from entries.count ≤ get_or (hits_of board b) i 0

-- the records' replicas have become `hits`, the rest of the board is as it was
pub record Hit (s b : ℕ) (board hits board' : List ℕ) (left : ℕ) : Type 0 where
  pub before : take 20_993 board' ≡ take 20_993 board
  pub hits-are : hits_of board' b ≡ hits
  pub left_is : left ≡ few s hits

abbrev pub Raised : (s b : ℕ) (board : List ℕ) (entries : Entries) (board' : List ℕ) (left : ℕ) → Type 0
Raised s b board entries board' left = Hit s b board (raised_to (index_of board) (hits_of board b) entries.from entries.count) board' left

abbrev pub Restored : (s b : ℕ) (board : List ℕ) (entries : Entries) (board' : List ℕ) (left : ℕ) → Type 0
Restored s b board entries board' left = Hit s b board (restored_to (index_of board) (hits_of board b) entries.from entries.count) board' left

-- node v is down, or up, and the board and the usable records follow
pub record Moved (p : Progress) (board : List ℕ) (v : ℕ) (d : Bool) (board' : List ℕ) (usable : ℕ) : Type 0 where
  pub long : length board' ≡ 25_089
  pub same_index : index_of board' ≡ index_of board
  pub down_is : (w : ℕ) → down_of board' w ≡ cond (eqb w v) d (down_of board w)
  pub counted : (i : ℕ) → i < p.b → get_or (hits_of board' p.b) i 0 ≡ on_down (index_of board) (down_of board') i 256
  pub usable-is : usable ≡ value_by (index_of board) p.s p.b (down_of board')
