-- `split_lines::raise_by_both` meets its contract. Assumes nothing.
use Rattle.split_lines.proofs.Stepping.{periods-none}
use Rattle.split_lines.proofs.Both.{both-stepping, both-lowerable, both_below, both-aside, both-written}
use Rattle.split_lines.proofs.raise_by_both.Goals as goal

pub whole_periods-requires : goal.whole_periods-requires
whole_periods-requires c =
    let s = both-stepping c.requires.0 c.requires.1 c.min-whole.ensures in
    (s, periods-none s)

pub lower-requires : goal.lower-requires
lower-requires c =
    both-lowerable c.requires.0 c.requires.1 c.min-whole.ensures c.whole_periods.ensures c.raise_by_records.ensures

pub lower_by_copies-requires : goal.lower_by_copies-requires
lower_by_copies-requires c = (
  c.requires.0,
  both_below c.requires.0 c.requires.1 c.min-whole.ensures c.whole_periods.ensures c.raise_by_records.ensures c.lower.ensures,
  both-aside c.requires.0 c.requires.1 c.min-whole.ensures c.whole_periods.ensures c.raise_by_records.ensures c.lower.ensures,
)

pub returns : goal.returns
returns c =
    both-written c.requires.0 c.requires.1 c.min-whole.ensures c.whole_periods.ensures c.raise_by_records.ensures c.lower.ensures
    c.lower_by_copies.ensures
