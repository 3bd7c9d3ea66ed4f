-- `certify_code::certify` meets its contract: a refused file's refusal is the answer; the rows of an accepted one are the bytes from its
-- first row on. Assumes nothing.
use native.Mathlib.Omega.{arith}
use Rattle.certify.specs.Certify.{certify}
use Rattle.certify.proofs.Answered.{bare-refused, bare-found}
use Rattle.certify.proofs.Writing.{refused-done, held-of-found, found-is}
use Rattle.certify_code.proofs.certify.Goals as goal

pub returns-in-Err : goal.returns-in-Err
unfolding certify
returns-in-Err c =
    refused-done c.args.out.now
    (rw (bare-refused c.args.bytes.now c.read_bare.ensures c.in-Err.is))
    c.refuse.ensures

pub slice_bounds-certify_bare-count : goal.slice_bounds-certify_bare-count
slice_bounds-certify_bare-count c = omega (arith, (bare-found _ c.read_bare.ensures c.in-Ok.is).inside)

pub slice_bounds-certify_bare-start : goal.slice_bounds-certify_bare-start
slice_bounds-certify_bare-start c = omega (arith, (bare-found _ c.read_bare.ensures c.in-Ok.is).inside)

pub certify_bare-requires : goal.certify_bare-requires
certify_bare-requires c = held-of-found _ (bare-found _ c.read_bare.ensures c.in-Ok.is)

pub returns-in-Ok : goal.returns-in-Ok
unfolding certify
returns-in-Ok c =
    rw (found-is _ (bare-found _ c.read_bare.ensures c.in-Ok.is)) c.certify_bare.ensures
