-- `certify_reader::start::read_start` meets its contract: each return is a case of `read_start`, over what the readings of the
-- numbers ensure. Assumes nothing.
use Prim.Native.Nat.{ℕ, min}
use native.Mathlib.Omega.{arith}
use mathlib.Core.Path.{◌≡◌, sym, ◌∙◌, ap}
use Rattle.refusal.proofs.Answered.{passed-on, answered-err, answered-ok}
use Rattle.number.specs.Numbers.{read_within}
use Rattle.number.proofs.Within.{was_read, was-refused, read-of-read_within}
use Rattle.layers.specs.Layers.{read_dark}
use Rattle.certify.specs.Bare.{read_seven}
use Rattle.layers.specs.Answers.{base_read}
use Rattle.certify_reader.proofs.start.Started.{no_kind, no-n, no-r, no-list, list-good}
use Rattle.certify_reader.proofs.start.read_start.Goals as goal

lower-five : (n : ℕ) {low : ℕ} → low ≡ min n 5 → low ≡ min 5 n
lower-five n h = omega (arith, h)

pub returns-in_err-kind : goal.returns-in_err-kind
returns-in_err-kind c =
    let none = was-refused (read_seven c.args.bytes.now) c.read_seven.ensures c.in_err-kind.was in
    passed-on _ c.from_residual.ensures.1 ∙ sym (ap base_read (no_kind c.args.bytes.now none))

pub returns-in_err-n : goal.returns-in_err-n
returns-in_err-n c =
    let kind-read = was_read (read_seven c.args.bytes.now) c.read_seven.ensures c.in_ok-kind.was in
    let none = was-refused (read_within 2 255 c.args.bytes.now _) c.read_within.ensures c.in_err-n.was in
    passed-on _ c.from_residual-in_err-n.ensures.1 ∙ sym (ap base_read (no-n c.args.bytes.now kind-read none))

pub returns-in_err-r : goal.returns-in_err-r
returns-in_err-r c =
    let kind-read = was_read (read_seven c.args.bytes.now) c.read_seven.ensures c.in_ok-kind.was in
    let n-read = was_read (read_within 2 255 c.args.bytes.now _) c.read_within.ensures c.in_ok-n.was in
    let none = was-refused (read_within 2 (min 5 _) c.args.bytes.now _) (rw (lower-five _ c.min.ensures) at c.read_within-2.ensures) c.in_err-r.was in
    passed-on _ c.from_residual-in_err-r.ensures.1
    ∙ sym (ap base_read (no-r c.args.bytes.now kind-read n-read none))

pub read_dark-requires : goal.read_dark-requires
read_dark-requires c =
    let bytes = c.args.bytes.now in
    let n-read = was_read (read_within 2 255 bytes _) c.read_within.ensures c.in_ok-n.was in
    let (read, least, most) = read-of-read_within 2 255 bytes _ n-read in
    (omega arith, most)

pub returns-in_err-list : goal.returns-in_err-list
returns-in_err-list c =
    let kind-read = was_read (read_seven c.args.bytes.now) c.read_seven.ensures c.in_ok-kind.was in
    let n-read = was_read (read_within 2 255 c.args.bytes.now _) c.read_within.ensures c.in_ok-n.was in
    let r-read = was_read (read_within 2 (min 5 _) c.args.bytes.now _) (rw (lower-five _ c.min.ensures) at c.read_within-2.ensures) c.in_ok-r.was in
    let none = answered-err _ (read_dark _ _ c.args.bytes.now _) c.read_dark.ensures c.in_err-list.was in
    passed-on _ c.from_residual-in_err-list.ensures.1
    ∙ sym (ap base_read (no-list c.args.bytes.now kind-read n-read r-read none))

pub returns : goal.returns
returns c =
    let kind-read = was_read (read_seven c.args.bytes.now) c.read_seven.ensures c.in_ok-kind.was in
    let n-read = was_read (read_within 2 255 c.args.bytes.now _) c.read_within.ensures c.in_ok-n.was in
    let r-read = was_read (read_within 2 (min 5 _) c.args.bytes.now _) (rw (lower-five _ c.min.ensures) at c.read_within-2.ensures) c.in_ok-r.was in
    list-good c.args.bytes.now kind-read n-read r-read c.read_dark.ensures c.in_ok-list.was
