-- `rounds_code::play` meets its contract: the table lists every state, and the storm begins with all nodes working. Assumes nothing.
use Prim.Native.Nat.{ℕ}
use mathlib.Core.Path.{◌∙◌}
use lib.Pow.{pow_pos}
use lib.ListN.{length-replicate}
use Rattle.rounds.proofs.Listing.{played}
use Rattle.rounds.proofs.Checking.{Limits, limits_of, rows-asked}
use Rattle.rounds_code.proofs.play.Goals as goal

pub overflow_sub-repairs : goal.overflow_sub-repairs
overflow_sub-repairs c = ((let within-here : Limits c.args.head.n c.args.head.b c.args.q = limits_of c.args.head.n c.args.head.b c.args.q c.requires.taken in within-here)).least

pub count_states-requires : goal.count_states-requires
count_states-requires c =
    let limits = (let within-here : Limits c.args.head.n c.args.head.b c.args.q = limits_of c.args.head.n c.args.head.b c.args.q c.requires.taken in within-here) in
    record { rows_asked = rows-asked c.requires; n_bound = (limits.few, limits.records, length-replicate {A = ℕ} 1_024 0) }

pub storm-requires : goal.storm-requires
storm-requires c =
    record {
      few = ((let within-here : Limits c.args.head.n c.args.head.b c.args.q = limits_of c.args.head.n c.args.head.b c.args.q c.requires.taken in within-here)).few;
      inside = pow_pos c.args.head.n;
      held = c.count_states.auto.table ∙ length-replicate {A = ℕ} 1_024 0;
    }

pub returns : goal.returns
returns c =
    let head = c.args.head in
    played head.n head.s head.r head.b c.args.q c.args.rows.now _ _ c.storm.result ((let within-here : Limits c.args.head.n c.args.head.b c.args.q = limits_of c.args.head.n c.args.head.b c.args.q c.requires.taken in within-here)).few
    (length-replicate {A = ℕ} 1_024 0) c.count_states.ensures c.storm.ensures
