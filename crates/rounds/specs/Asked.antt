-- What the code's functions over rows ask and give. Assumes nothing.
use Rattle.std.specs.Prelude.{ℕ, ◌+◌, ◌*◌, ◌≤◌, ◌<◌, ◌≡◌, true, List, ◌++◌, length, take, drop, Result}
use Rattle.lists.specs.Lists.{All}
use Rattle.refusal.specs.declared.Refusal.TheVariants.{BadRounds}
use Rattle.refusal.specs.declared.Refusal.{Refusal}
use Rattle.refusal.specs.Checked.{Checked, accepted, ◌>>=◌, require}
use Rattle.packing.specs.Rows.{rows_at}
use Rattle.placement.specs.declared.PlacementHead.{PlacementHead}
use Rattle.placement.specs.declared.FeederTable.{FeederTable}
use Rattle.placement.specs.Answers.{rows_by_table}
use Rattle.rounds.specs.Game.{rounds}
use Rattle.rounds.specs.Rounds.{rounds_taken}
use Rattle.rounds.specs.Answers.{rounds_answer}

-- b rows of r bytes, of nodes below ten
pub record RowsAsked (rows : List ℕ) (r b : ℕ) : Type 0 where
  pub inside : b * r ≤ length rows
  pub nodes : All (All (λ v. v < 10)) (rows_at r b rows)

-- an accepted placement's rows, and a number of rounds, within the limits
pub record RoundsAsked (rows : List ℕ) (head : PlacementHead) (q : ℕ) : Type 0 where
  pub inside : head.b * head.r ≤ length rows
  pub nodes : All (All (λ v. v < head.n)) (rows_at head.r head.b rows)
  pub taken : rounds_taken head.n head.b q ≡ true

-- an accepted placement's rows in its bytes
pub record RowsHeld (bytes : List ℕ) (head : PlacementHead) : Type 0 where
  pub inside : head.first + head.b * head.r ≤ length bytes
  pub nodes : All (All (λ v. v < head.n)) (rows_at head.r head.b (drop head.first bytes))

-- (n) "rounds .. read feeders for nodes, g for n": the numbers of a placement whose rows of feeders are the first bytes
abbrev pub feeder_head : PlacementHead → (number : ℕ) → PlacementHead
feeder_head head number =
    record {
      kind = head.kind;
      n = number;
      r = head.r;
      s = head.s;
      k = head.k;
      b = head.b;
      figure = head.figure;
      first = 0;
    }

pub record FeedersHeld (bytes : List ℕ) (head : PlacementHead) (table : FeederTable) : Type 0 where
  pub inside : head.first + head.b * head.r ≤ length bytes
  pub below : All (λ v. v < 255) (take (head.b * head.r) (drop head.first bytes))
  pub entries : length table.each ≡ 255
  pub few : head.b * head.r ≤ 20_480
  pub long : length (rows_by_table table.each head.r head.b (drop head.first bytes)) ≡ head.b * head.r
  pub nodes : (t : List ℕ)
      → All (All (λ v. v < table.number)) (rows_at head.r head.b (rows_by_table table.each head.r head.b (drop head.first bytes) ++ t))

-- what is left to do once the placement is accepted
unfoldable pub rounds_from : (bytes : List ℕ) → PlacementHead → (q : ℕ) → Checked ℕ
rounds_from bytes head q = do
  _ ← require (rounds_taken head.n head.b q) BadRounds
  accepted (rounds head.n head.s (rows_at head.r head.b (drop head.first bytes)) q)

-- the answer from the rows of feeders in the code's bytes, whatever stands after them
pub record FeedersPlayed (bytes : List ℕ) (head : PlacementHead) (table : FeederTable) (q : ℕ) (given : Result ℕ Refusal) : Type 0 where
  pub after : List ℕ
  pub answer :
      given
      ≡ rounds_answer (rounds_from (rows_by_table table.each head.r head.b (drop head.first bytes) ++ after) (feeder_head head table.number) q)
