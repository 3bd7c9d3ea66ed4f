-- Which records are accepted: rows within the bytes, the feeders after them, then the end; rows in order that name no node out of service
-- and have no two nodes on one feeder, and packings of what can fail. Assumes nothing.
use Prim.Native.Nat.{ℕ, ◌+◌, ◌*◌, ◌≤◌}
use native.Mathlib.Omega.{arith}
use native.Mathlib.Nat.{zero-add}
use mathlib.Core.Path.{◌≡◌, refl, sym, ◌∙◌, ap, subst}
use mathlib.Core.List.{List, [], ◌++◌, flatten, append_assoc, append-nil}
use lib.ListN.{length, take, drop, length-append, length-take, length-drop, take-append-drop}
use lib.Seq.{take_all, take_at, drop_at, drop-drop}
use lib.Dec.{T, leb}
use borrow.Author.Tests.{leb-true, le-leb}
use Rattle.lists.specs.Lists.{All}
use Rattle.lists.proofs.Alls.{all-imp, all_both, length-flatten}
use Rattle.refusal.specs.declared.Refusal.TheVariants.{Ended, Trailing, BadRow, OutOfService, SharedFeeder, Crowded}
use Rattle.refusal.specs.Checked.{accepted}
use Rattle.refusal.proofs.Checked.{accepted-injective, bind-elim, require-bind-accepted}
use Rattle.number.specs.Numbers.{Bytes}
use Rattle.packing.specs.Rows.{Row, is_in_order, first_bad}
use Rattle.packing.proofs.Members.{rows-distinct}
use Rattle.packing.proofs.Test.{good-iff-in-order}
use Rattle.layers.specs.Layers.{Layer, Packings, Site, InService, FileAt, sizes, all_rows, heads_of, layers_at, first_naming, first_crowded_of, check_length, check_end, check_ascending, check_service, check_packings}
use Rattle.layers.specs.declared.LayerHead.{LayerHead}
use Rattle.layers.proofs.Lengths.{length-all_rows}
use Rattle.layers.proofs.Layouts.{heads_of-layers_at, flatten-layers_at, layers_at-lengths, layers_at-flatten}
use Rattle.layers.proofs.NumbersRead.{Reads, reads-forms, forms-reads, reads-le-length}
use Rattle.layers.proofs.Packings.{packings-iff-uncrowded}
use Rattle.layers.proofs.Service.{service-iff}
use Rattle.layers.proofs.RowsChecked.{refuse_row-bind-accepted}
use Rattle.placement.specs.Feeders.{FeedersFit, Apart, feeder_numbers, unit_layers, units_of, first_sharing, read_feeders, check_apart}
use Rattle.placement.specs.Placement.{Rows, check_records}
use Rattle.placement.proofs.FeederRows.{apart-iff, unit-rows}
use Rattle.placement.proofs.FeederNumbers.{reads-of-read_feeders, read_feeders-accepted}

module _ (kind : ℕ) (base : Site) (k : ℕ) (heads : List LayerHead) (s : List ℕ) (at : ℕ) where
  -- such rows, with the feeders from their end to the bytes' end
  pub record RecordsTaken (rows : Rows) : Type 0 where
    pub fits : at + sizes heads * base.r ≤ length s
    pub taken : layers_at base.r heads (drop at s) ≡ rows.layers
    pub after : Reads (feeder_numbers rows.feeders) s (at + sizes heads * base.r) (length s)
    pub fit : FeedersFit kind base.n base.r k rows.feeders
    pub in_order : All (Row base.n base.r) (all_rows rows.layers)
    pub in-service : InService base.dark (all_rows rows.layers)
    pub apart : Apart rows.feeders (all_rows rows.layers)
    pub packings : Packings 0 (unit_layers rows.feeders rows.layers)

  pub taken-of-check_records : {rows : Rows} → check_records kind base k heads s at ≡ accepted rows → RecordsTaken rows
  unfolding check_length check_end check_ascending check_service check_apart check_packings check_records
  taken-of-check_records e =
      let layers = layers_at base.r heads (drop at s) in
      let end = at + sizes heads * base.r in
      let (t₁, e₁) = require-bind-accepted (leb end (length s)) (Ended (length s)) _ e in
      bind-elim (read_feeders kind base.n base.r k s end) _ e₁ λ after a r₁.
      let (t₂, e₂) = require-bind-accepted (leb (length s) after.next) (Trailing after.next) _ r₁ in
      let (t₃, e₃) = refuse_row-bind-accepted BadRow base.r at (first_bad base.n (all_rows layers)) _ e₂ in
      let (t₄, e₄) = refuse_row-bind-accepted OutOfService base.r at (first_naming base.dark (all_rows layers)) _ e₃ in
      let (t₅, e₅) = refuse_row-bind-accepted SharedFeeder base.r at (first_sharing after.feeders (all_rows layers)) _ e₄ in
      let (t₆, e₆) = refuse_row-bind-accepted Crowded base.r at (first_crowded_of 0 (unit_layers after.feeders layers)) _ e₅ in
      let least = leb-true end (length s) t₁ in
      let (reads, fit) = reads-of-read_feeders kind base.n base.r k s end a in
      let inside = reads-le-length (feeder_numbers after.feeders) s end after.next least reads in
      let most = leb-true (length s) after.next t₂ in
      let ends : after.next ≡ length s = omega arith in
      let lengths = layers_at-lengths base.r heads (drop at s) (rw length-drop (omega arith)) in
      let ordered = (good-iff-in-order base.n (all_rows layers)).0 t₃ in
      let rows = all_both (λ row. length row ≡ base.r) (λ row. T (is_in_order base.n row)) (all_rows layers) lengths ordered in
      let apart = (apart-iff after.feeders (all_rows layers) (rows-distinct base.n base.r (all_rows layers) rows)).0 t₅ in
      subst
      RecordsTaken
      (accepted-injective e₆)
      (record {
        fits = least;
        taken = refl;
        after = rw ends at reads;
        fit = fit;
        in_order = rows;
        in-service = (service-iff base.dark (all_rows layers)).0 t₄;
        apart = apart;
        packings =
            (packings-iff-uncrowded (units_of base.n after.feeders) base.r 0 (unit_layers after.feeders layers)
            (unit-rows kind base.n base.r k after.feeders layers fit rows apart)).0 t₆;
      })

  pub check_records-accepted : {rows : Rows} → RecordsTaken rows → check_records kind base k heads s at ≡ accepted rows
  unfolding check_length check_end check_ascending check_service check_apart check_packings check_records
  check_records-accepted {rows} h =
      let layers = rows.layers in
      let fits = h.fits in
      let ordered = all-imp (Row base.n base.r) (λ row. T (is_in_order base.n row)) (λ row g. g.1) (all_rows layers) h.in_order in
      let apart = (apart-iff rows.feeders (all_rows layers) (rows-distinct base.n base.r (all_rows layers) h.in_order)).1 h.apart in
      rw (
        le-leb (at + sizes heads * base.r) (length s) fits,
        read_feeders-accepted kind base.n base.r k s (at + sizes heads * base.r) rows.feeders (length s) h.after h.fit,
        le-leb (length s) (length s) (omega arith),
        h.taken,
        (good-iff-in-order base.n (all_rows layers)).1 ordered,
        (service-iff base.dark (all_rows layers)).1 h.in-service,
        apart,
        (packings-iff-uncrowded (units_of base.n rows.feeders) base.r 0 (unit_layers rows.feeders layers)
            (unit-rows kind base.n base.r k rows.feeders layers h.fit h.in_order h.apart)).1 h.packings,
      ) refl

  -- their layers have the head's numbers, and their rows one after another stand there
  pub taken-heads : {rows : Rows} → RecordsTaken rows → heads_of rows.layers ≡ heads
  taken-heads h = rw (← h.taken) (heads_of-layers_at base.r heads (drop at s))

  pub taken-bytes : {rows : Rows} → RecordsTaken rows → flatten (all_rows rows.layers) ≡ take (sizes heads * base.r) (drop at s)
  taken-bytes h = rw (← h.taken) (flatten-layers_at base.r heads (drop at s))

-- A file as it is read: the head's numbers from the start, the rows from `first` on, and the numbers after them, to the end.
pub record FileReadAt (head : List ℕ) (layers : List Layer) (after s : List ℕ) (first : ℕ) : Type 0 where
  pub reads : Reads head s 0 first
  pub fits : first + length (flatten (all_rows layers)) ≤ length s
  pub rest : take (length (flatten (all_rows layers))) (drop first s) ≡ flatten (all_rows layers)
  pub tail : Reads after s (first + length (flatten (all_rows layers))) (length s)

pub file-read_at : (head : List ℕ) (layers : List Layer) (after s : List ℕ) (first : ℕ) → FileAt head layers after first s
    → FileReadAt head layers after s first
file-read_at head layers after s first (h, t, forms, forms', e, len) =
    let flat = flatten (all_rows layers) in
    let whole : s ≡ (h ++ flat) ++ (t ++ []) = e ∙ sym (append_assoc h flat t) ∙ ap (λ l. (h ++ flat) ++ l) (sym (append-nil t)) in
    let end : length (h ++ flat) ≡ first + length flat = length-append h flat ∙ ap (λ n. n + length flat) len in
    let all : length s ≡ first + length flat + length t = ap length e ∙ simp (length-append) (omega arith) in
    record {
      reads = rw (e, ← len) (rw zero-add at (forms-reads head [] h (flat ++ t) forms));
      fits = omega arith;
      rest = rw e (ap (take (length flat)) (drop_at h (flat ++ t) first len) ∙ take_at flat t (length flat) refl);
      tail = rw (all, ← end) (rw whole (forms-reads after (h ++ flat) t [] forms'));
    }

pub read-file_at : (head : List ℕ) (layers : List Layer) (after s : List ℕ) (first : ℕ) → Bytes s → FileReadAt head layers after s first
    → FileAt head layers after first s
read-file_at head layers after s first b f =
    let flat = flatten (all_rows layers) in
    let fits = f.fits in
    let whole : s ≡ take first s ++ (flat ++ drop (first + length flat) s) =
    sym (take-append-drop first s)
    ∙ ap (λ l. take first s ++ l)
    (sym (take-append-drop (length flat) (drop first s))
    ∙ rw (f.rest, drop-drop (length flat) first s) refl) in
    let inside : first ≤ length s = omega arith in (
      take first s,
      drop (first + length flat) s,
      reads-forms head s 0 first b (omega arith) f.reads,
      rw (take_all (length s) s (omega arith)) at (reads-forms after s (first + length flat) (length s) b fits f.tail),
      whole,
      length-take first s ∙ omega arith,
    )

-- rows that stand so are taken
pub taken-of-read : (kind : ℕ) (base : Site) (k : ℕ) (head : List ℕ) (s : List ℕ) (first : ℕ) (rows : Rows)
    → FileReadAt head rows.layers (feeder_numbers rows.feeders) s first
    → FeedersFit kind base.n base.r k rows.feeders
    → All (Row base.n base.r) (all_rows rows.layers) → InService base.dark (all_rows rows.layers)
    → Apart rows.feeders (all_rows rows.layers) → Packings 0 (unit_layers rows.feeders rows.layers)
    → RecordsTaken kind base k (heads_of rows.layers) s first rows
taken-of-read kind base k head s first rows f fit in_order service apart packings =
    let layers = rows.layers in
    let flat = flatten (all_rows layers) in
    let lengths = all-imp (Row base.n base.r) (λ row. length row ≡ base.r) (λ row g. g.0) (all_rows layers) in_order in
    let len : length flat ≡ sizes (heads_of layers) * base.r =
    length-flatten base.r (all_rows layers) lengths ∙ ap (λ c. c * base.r) (length-all_rows layers) in
    let split : drop first s ≡ flat ++ drop (length flat) (drop first s) =
    sym (take-append-drop (length flat) (drop first s)) ∙ ap (λ l. l ++ drop (length flat) (drop first s)) f.rest in
    record {
      fits = rw (← len) f.fits;
      taken = rw split (layers_at-flatten base.r layers (drop (length flat) (drop first s)) lengths);
      after = rw (← len) f.tail;
      fit = fit;
      in_order = in_order;
      in-service = service;
      apart = apart;
      packings = packings;
    }
