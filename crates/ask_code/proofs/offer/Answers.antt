-- `ask_code::offer` meets its contract: the chosen counts are the named split's, and the figure and the copies are theirs.
-- Assumes nothing.
use Rattle.commit.proofs.Offers.{Choice, shares-fit, copies-fit, figure-limits, offered}
use Rattle.ask_code.proofs.offer.Goals as goal

pub choose_counts-counts-requires : goal.choose_counts-counts-requires
choose_counts-counts-requires c = let pre = c.requires in (pre.limits, pre.work-fits)

pub split_heads-heads-requires : goal.split_heads-heads-requires
split_heads-heads-requires c = shares-fit ((let choice-here : Choice c.args.layers c.args.order c.args.work.now c.choose_counts-counts.new.work c.choose_counts-counts.result = let pre = c.requires in
    record { limits = pre.limits; block = pre.block; chosen = c.choose_counts-counts.ensures } in choice-here))

pub figure_of-figure-requires : goal.figure_of-figure-requires
figure_of-figure-requires c = let w = figure-limits ((let choice-here : Choice c.args.layers c.args.order c.args.work.now c.choose_counts-counts.new.work c.choose_counts-counts.result = let pre = c.requires in
    record { limits = pre.limits; block = pre.block; chosen = c.choose_counts-counts.ensures } in choice-here)) c.split_heads-heads.ensures in record { s_bound = w.0; all = w.1 }

pub copies_of-copies-requires : goal.copies_of-copies-requires
copies_of-copies-requires c = copies-fit ((let choice-here : Choice c.args.layers c.args.order c.args.work.now c.choose_counts-counts.new.work c.choose_counts-counts.result = let pre = c.requires in
    record { limits = pre.limits; block = pre.block; chosen = c.choose_counts-counts.ensures } in choice-here))

pub returns : goal.returns
returns c =
    offered ((let choice-here : Choice c.args.layers c.args.order c.args.work.now c.choose_counts-counts.new.work c.choose_counts-counts.result = let pre = c.requires in
    record { limits = pre.limits; block = pre.block; chosen = c.choose_counts-counts.ensures } in choice-here)) c.split_heads-heads.ensures c.figure_of-figure.ensures c.copies_of-copies.ensures
