-- `layers_code::check_rows` meets its contract: each return is a case of `check_rows`, over what the counting of rows, the test
-- of their order, of the nodes out of service and the packing test ensure. Assumes nothing.
use Prim.Native.Nat.{ℕ, ◌+◌, ◌*◌, ◌^◌, ◌≤◌, ◌<◌}
use Rattle.std.specs.Prelude.{⊤, Result, Ok, Err}
use native.Mathlib.Omega.{arith}
use mathlib.Core.Path.{◌≡◌, sym, ap, ◌∙◌}
use lib.ListN.{length, drop, get_or}
use lib.Seq.{get_or-drop}
use Rattle.refusal.specs.declared.Refusal.{Refusal}
use Rattle.refusal.specs.Checked.{verdict}
use Rattle.packing.specs.Rows.{rows_at}
use Rattle.packing.specs.Load.{most}
use Rattle.layers.specs.Answers.{no_head}
use Rattle.crowding_code.proofs.AllRows.{rows-small}
use Rattle.crowding_code.proofs.Settled.{load-settles}
use Rattle.layers_code.proofs.RowsAnswers.{rows_short, rows_long, rows-unordered, rows-ordered, rows-dark, rows_left}
use Rattle.layers_code.proofs.check_rows.Goals as goal

-- an answer that refuses hands on no load
refusing : {v w : Result ⊤ Refusal} {e : Refusal} {X : Type 0} → v ≡ Err e → Err e ≡ w → (v ≡ w) × (v ≡ Ok tt → X)
refusing is why = (is ∙ why, λ good. absurd (let z : ◌≡◌ {A = ℕ} 0 1 = cc in omega arith))

pub overflow_mul-end : goal.overflow_mul-end
overflow_mul-end c =
    omega (arith, (let fits-here : (c.count_rows-rows.result * c.args.base.r ≤ 20480) × (c.args.at ≤ length c.args.bytes.now) × (length c.args.bytes.now < 2 ^ 63) = (rows-small (omega arith) c.requires.layers_le_r.1, c.requires.layers_le_r.2, omega (arith, c.well_formed.0)) in fits-here))

pub overflow_add-end : goal.overflow_add-end
overflow_add-end c =
    omega (arith, (let fits-here : (c.count_rows-rows.result * c.args.base.r ≤ 20480) × (c.args.at ≤ length c.args.bytes.now) × (length c.args.bytes.now < 2 ^ 63) = (rows-small (omega arith) c.requires.layers_le_r.1, c.requires.layers_le_r.2, omega (arith, c.well_formed.0)) in fits-here))

pub returns-then-bytes-end : goal.returns-then-bytes-end
returns-then-bytes-end c = let w = refusing c.refuse.ensures (rows_short _ _ _ _ _ c.count_rows-rows.ensures c.if-bytes-end.true) in record { verdict_value = w.0; loaded = w.1 }

pub returns-then-end-bytes : goal.returns-then-end-bytes
returns-then-end-bytes c = let w = refusing c.refuse-then-end-bytes.ensures (rows_long _ _ _ _ _ c.count_rows-rows.ensures c.if-end-bytes.true) in record { verdict_value = w.0; loaded = w.1 }

pub check_order-order-requires : goal.check_order-order-requires
check_order-order-requires c =
    record { r_in_bounds = omega (arith, (let ends-here : c.args.at + c.count_rows-rows.result * c.args.base.r ≡ length c.args.bytes.now = omega (arith, c.if-end-bytes.false, c.if-bytes-end.false) in ends-here)); c_le_rows = (omega (arith, c.first_size-c.ensures.1), omega (arith, c.requires.heads_bound), c.requires.layers_le_r.1) }

pub returns-in-Err : goal.returns-in-Err
returns-in-Err c = let w = refusing c.refuse-in-Err.ensures
    (rows-unordered _ _ _ _ _ c.count_rows-rows.ensures ((let ends-here : c.args.at + c.count_rows-rows.result * c.args.base.r ≡ length c.args.bytes.now = omega (arith, c.if-end-bytes.false, c.if-bytes-end.false) in ends-here)) _
    c.check_order-order.ensures.verdict_value c.in-Err.is) in record { verdict_value = w.0; loaded = w.1 }

pub check_service-service-requires : goal.check_service-service-requires
check_service-service-requires c =
    record { r_in_bounds = omega (arith, (let ends-here : c.args.at + c.count_rows-rows.result * c.args.base.r ≡ length c.args.bytes.now = omega (arith, c.if-end-bytes.false, c.if-bytes-end.false) in ends-here)); dark_fits = c.requires.dark_fits }

pub returns-in-Err-service : goal.returns-in-Err-service
returns-in-Err-service c = let w = refusing c.refuse-in-Err-service.ensures
    (rows-dark _ _ _ _ _ c.count_rows-rows.ensures ((let ends-here : c.args.at + c.count_rows-rows.result * c.args.base.r ≡ length c.args.bytes.now = omega (arith, c.if-end-bytes.false, c.if-bytes-end.false) in ends-here)) _ c.check_order-order.ensures.verdict_value
    c.in_default.is _ c.check_service-service.ensures c.in-Err-service.is) in record { verdict_value = w.0; loaded = w.1 }

pub returns-then-load-heads : goal.returns-then-load-heads
returns-then-load-heads c =
    let load = c.check_order-order.result.load in
    let bound = (get_or c.args.heads 0 no_head).bound in
    let low : load ≤ bound = c.if-load-heads.true in
    let bytes : (i : ℕ) → get_or (drop c.args.at c.args.bytes.now) i 0 < 256 =
    λ i. rw (get_or-drop c.args.at c.args.bytes.now i 0) (c.type_inv.bytes (c.args.at + i)).fits in record {
      verdict_value = rows_left _ _ _ _ _ c.count_rows-rows.ensures ((let ends-here : c.args.at + c.count_rows-rows.result * c.args.base.r ≡ length c.args.bytes.now = omega (arith, c.if-end-bytes.false, c.if-bytes-end.false) in ends-here)) _ c.check_order-order.ensures.verdict_value
          c.in_default.is _ c.check_service-service.ensures c.in_default-service.is
          (sym
          (ap verdict
          (load-settles c.args.base.r c.args.layers c.args.heads (drop c.args.at c.args.bytes.now) c.args.at c.first_size-c.result bytes
          c.first_size-c.ensures.0 (c.if-c-rows.true ∙ c.count_rows-rows.ensures) (rw (← (let loaded-here : c.check_order-order.result.load
          ≡ most 256 (rows_at c.args.base.r c.first_size-c.result (drop c.args.at c.args.bytes.now)) = c.check_order-order.ensures.load_value c.in_default.is in loaded-here)) low))));
      loaded = λ good. (λ lt. (let loaded-here : c.check_order-order.result.load
          ≡ most 256 (rows_at c.args.base.r c.first_size-c.result (drop c.args.at c.args.bytes.now)) = c.check_order-order.ensures.load_value c.in_default.is in loaded-here)
          ∙ ap (λ size. most 256 (rows_at c.args.base.r size (drop c.args.at c.args.bytes.now))) (c.first_size-c.ensures.0 lt));
    }

pub check_packings-verdict-requires : goal.check_packings-verdict-requires
check_packings-verdict-requires c =
    record {
      packings_asked = record {
        few = c.requires.layers_le_r.0;
        r-most = c.requires.layers_le_r.1;
        rows-most = c.requires.heads_bound;
        within = rw (← c.count_rows-rows.ensures) (omega (arith, c.if-bytes-end.false));
        ordered = rows-ordered _ _ _ _ _ c.count_rows-rows.ensures ((let ends-here : c.args.at + c.count_rows-rows.result * c.args.base.r ≡ length c.args.bytes.now = omega (arith, c.if-end-bytes.false, c.if-bytes-end.false) in ends-here)) _ c.check_order-order.ensures.verdict_value c.in_default.is;
      };
      counted = (λ lt. (let loaded-here : c.check_order-order.result.load
          ≡ most 256 (rows_at c.args.base.r c.first_size-c.result (drop c.args.at c.args.bytes.now)) = c.check_order-order.ensures.load_value c.in_default.is in loaded-here)
          ∙ ap (λ size. most 256 (rows_at c.args.base.r size (drop c.args.at c.args.bytes.now))) (c.first_size-c.ensures.0 lt));
    }

pub returns : goal.returns
returns c = record {
  verdict_value = rows_left _ _ _ _ _ c.count_rows-rows.ensures ((let ends-here : c.args.at + c.count_rows-rows.result * c.args.base.r ≡ length c.args.bytes.now = omega (arith, c.if-end-bytes.false, c.if-bytes-end.false) in ends-here)) _ c.check_order-order.ensures.verdict_value
      c.in_default.is _ c.check_service-service.ensures c.in_default-service.is c.check_packings-verdict.ensures;
  loaded = λ good. (λ lt. (let loaded-here : c.check_order-order.result.load
      ≡ most 256 (rows_at c.args.base.r c.first_size-c.result (drop c.args.at c.args.bytes.now)) = c.check_order-order.ensures.load_value c.in_default.is in loaded-here)
      ∙ ap (λ size. most 256 (rows_at c.args.base.r size (drop c.args.at c.args.bytes.now))) (c.first_size-c.ensures.0 lt));
}
