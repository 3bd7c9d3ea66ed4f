-- `crowding_code::few_sums` meets its contract: a yes is given only where none of the rows that are kept is crowded. Assumes nothing.
use Prim.Native.Nat.{ℕ, ◌≤◌}
use native.Mathlib.Nat.{mul-le-mul}
use native.Mathlib.Omega.{arith}
use mathlib.Core.Path.{◌≡◌, sym, ◌∙◌}
use mathlib.Core.List.{List}
use mathlib.Core.Option.{none}
use lib.ListN.{length-replicate}
use Rattle.lists.proofs.Tests.{false-T}
use Rattle.packing.specs.Rows.{rows_at, first_crowded}
use Rattle.packing.proofs.RowsAt.{length-rows_at}
use Rattle.packing.proofs.Found.{row_found-nothing}
use Rattle.crowding.proofs.Crowded.{first-none-of-few}
use Rattle.crowding_sums.specs.Sums.{Sifted}
use Rattle.crowding_sums.specs.declared.Sets.{Sets}
use Rattle.crowding_code.proofs.few_sums.Goals as goal

-- no more rows are kept than may hold a set
none_kept : {r : ℕ} {sets : Sets} {rows : List ℕ} {m : ℕ} {kept : List ℕ} → Sifted r sets rows m kept → m ≤ sets.bound
    → first_crowded sets.x sets.bound (rows_at r sets.c rows) ≡ none
none_kept {r} {sets} {rows} {m} {kept} sifted le =
    sifted.enough (first-none-of-few sets.x sets.bound (rows_at r m kept) (omega (arith, le, length-rows_at r m kept)))

pub returns-then-x-lt2 : goal.returns-then-x-lt2
returns-then-x-lt2 c e = absurd (false-T (sym e) tt)

pub returns-then-c-lt256 : goal.returns-then-c-lt256
returns-then-c-lt256 c e = absurd (false-T (sym e) tt)

pub returns-then-bound-lt8 : goal.returns-then-bound-lt8
returns-then-bound-lt8 c e = absurd (false-T (sym e) tt)

pub keep_rows-m-requires : goal.keep_rows-m-requires
keep_rows-m-requires c =
    record {
      fit = record { few = c.requires.c_bound.0; five = c.requires.c_bound.1; whole = c.requires.c_bound.3 };
      three = omega (arith, c.if-x-lt2.false);
      small = c.requires.c_bound.2;
      order = c.requires.order;
      room = omega (arith, mul-le-mul c.requires.c_bound.0 c.requires.c_bound.1, length-replicate {A = ℕ} 20480 0);
    }

pub returns-then-m-bound : goal.returns-then-m-bound
returns-then-m-bound c e = none_kept c.keep_rows-m.ensures c.if-m-bound.true

pub search-found-requires : goal.search-found-requires
search-found-requires c =
    record { c_bound = (omega (arith, c.keep_rows-m.ensures.fewer, c.requires.c_bound.0), c.requires.c_bound.1, c.requires.c_bound.2, c.keep_rows-m.ensures.whole); order = c.keep_rows-m.ensures.order }

pub returns-in-Some : goal.returns-in-Some
returns-in-Some c e = absurd (false-T (sym e) tt)

pub returns : goal.returns
returns c e =
    c.keep_rows-m.ensures.enough (row_found-nothing _ (sym c.in_default.is ∙ c.search-found.ensures))
