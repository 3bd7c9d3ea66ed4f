-- `worst_code::worst_of_feeders` meets its contract, over the rows of feeders in its buffer. Assumes nothing.
use Prim.Native.Nat.{ℕ, ◌*◌, ◌≤◌}
use native.Mathlib.Omega.{arith}
use mathlib.Core.List.{List}
use lib.ListN.{length, replicate, length-replicate}
use Rattle.lists.proofs.Alls.{all_take}
use Rattle.placement.specs.Answers.{rows_by_table}
use Rattle.worst.proofs.Filling.{bytes_most}
use Rattle.worst.proofs.Call.{fed-length, fed-part}
use Rattle.worst_code.proofs.worst_of_feeders.Goals as goal

pub feeder_rows-requires : goal.feeder_rows-requires
feeder_rows-requires c =
    let p = c.requires in record { r_in_bounds = (omega (arith, p.inside), omega (arith, (let few-here : c.args.order.b * c.args.r ≤ 20480 = bytes_most c.args.order.b c.args.r c.requires.asked.b-most c.requires.asked.r-most in few-here), length-replicate {A = ℕ} 20_480 0), p.entries); all = all_take _ (c.args.order.b * c.args.r) c.args.rows.now p.below }

pub overflow_mul-end : goal.overflow_mul-end
overflow_mul-end c = omega (arith, (let few-here : c.args.order.b * c.args.r ≤ 20480 = bytes_most c.args.order.b c.args.r c.requires.asked.b-most c.requires.asked.r-most in few-here))

pub slice_bounds-worst_of_rows-end : goal.slice_bounds-worst_of_rows-end
slice_bounds-worst_of_rows-end c =
    omega (arith, (let few-here : c.args.order.b * c.args.r ≤ 20480 = bytes_most c.args.order.b c.args.r c.requires.asked.b-most c.requires.asked.r-most in few-here), length-replicate {A = ℕ} 20_480 0, fed-length c.feeder_rows.new.out (replicate 20_480 0) ((let fed_rows-here : List ℕ = rows_by_table c.args.table.each c.args.r c.args.order.b c.args.rows.now in fed_rows-here)) _ c.requires.asked.whole ((let room-here : c.args.order.b * c.args.r ≤ length (replicate {A = ℕ} 20_480 0) = omega (arith, (let few-here : c.args.order.b * c.args.r ≤ 20480 = bytes_most c.args.order.b c.args.r c.requires.asked.b-most c.requires.asked.r-most in few-here), length-replicate {A = ℕ} 20_480 0) in room-here)) c.feeder_rows.ensures)

pub worst_of_rows-requires : goal.worst_of_rows-requires
worst_of_rows-requires c =
    rw (fed-part c.feeder_rows.new.out (replicate 20_480 0) ((let fed_rows-here : List ℕ = rows_by_table c.args.table.each c.args.r c.args.order.b c.args.rows.now in fed_rows-here)) _ c.requires.asked.whole ((let room-here : c.args.order.b * c.args.r ≤ length (replicate {A = ℕ} 20_480 0) = omega (arith, (let few-here : c.args.order.b * c.args.r ≤ 20480 = bytes_most c.args.order.b c.args.r c.requires.asked.b-most c.requires.asked.r-most in few-here), length-replicate {A = ℕ} 20_480 0) in room-here)) c.feeder_rows.ensures) c.requires.asked

pub returns : goal.returns
returns c =
    rw (fed-part c.feeder_rows.new.out (replicate 20_480 0) ((let fed_rows-here : List ℕ = rows_by_table c.args.table.each c.args.r c.args.order.b c.args.rows.now in fed_rows-here)) _ c.requires.asked.whole ((let room-here : c.args.order.b * c.args.r ≤ length (replicate {A = ℕ} 20_480 0) = omega (arith, (let few-here : c.args.order.b * c.args.r ≤ 20480 = bytes_most c.args.order.b c.args.r c.requires.asked.b-most c.requires.asked.r-most in few-here), length-replicate {A = ℕ} 20_480 0) in room-here)) c.feeder_rows.ensures)
    at c.worst_of_rows.ensures
