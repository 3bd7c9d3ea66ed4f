-- `binomial_table::binomial` meets its contract: the table has Pascal's rule, tested here over all of its entries by one
-- computation. Assumes nothing.
use mathlib.Core.Path.{◌≡◌, refl}
use mathlib.Core.Bool.{true}
use borrow.Author.Rules.{rules}
use Rattle.binomial_table.specs.declared.table.TheConstants.{BINOMIALS}
use Rattle.binomial_table.proofs.Pascal.{pascal-test, table-entry}
use Rattle.binomial_table.proofs.binomial.Goals as goal

-- Pascal's rule, tested over the whole table
table-pascal : pascal-test 6 BINOMIALS ≡ true
table-pascal = refl

pub returns : goal.returns
returns c = table-entry 6 BINOMIALS table-pascal c.args.m c.args.j (search rules) (search rules)
