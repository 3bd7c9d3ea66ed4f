-- A file is its head's numbers, read from the start, and then its rows: layers that are accepted, and files. Assumes nothing.
use Prim.Native.Nat.{ℕ, ◌≤◌}
use native.Mathlib.Omega.{arith}
use native.Mathlib.Nat.{zero-add}
use mathlib.Core.Path.{◌≡◌, refl, sym, ◌∙◌, ap}
use mathlib.Core.List.{List, [], ◌++◌, flatten, append-nil}
use lib.ListN.{length, take, drop, length-append, take-append-drop}
use lib.Seq.{drop-append_seam}
use Rattle.lists.specs.Lists.{All}
use Rattle.refusal.specs.Checked.{accepted}
use Rattle.number.specs.Numbers.{Bytes}
use Rattle.packing.specs.Rows.{Row}
use Rattle.layers.specs.Layers.{Layer, LayerHeads, Site, InService, all_rows, heads_of, head_numbers, Packings, File, read_layers, check_rows}
use Rattle.layers.specs.declared.LayerLimits.{LayerLimits}
use Rattle.layers.proofs.NumbersRead.{Reads, reads-forms, forms-reads}
use Rattle.layers.proofs.Heads.{HeadsWithin, reads-of-read_layers, read_layers-accepted}
use Rattle.layers.proofs.RowsChecked.{taken-of-check_rows, check_rows-accepted, taken-heads, taken-bytes, taken-of-bytes}

-- the head's numbers are read from the start, and the rows stand from `first` to the end
pub record FileRead (head : List ℕ) (layers : List Layer) (s : List ℕ) (first : ℕ) : Type 0 where
  pub reads : Reads head s 0 first
  pub inside : first ≤ length s
  pub rest : drop first s ≡ flatten (all_rows layers)

pub file-read : (head : List ℕ) (layers : List Layer) (s : List ℕ) → File head layers [] s
    → (first : ℕ) × FileRead head layers s first
file-read head layers s (h, t, forms, none, e) =
    let flat = flatten (all_rows layers) in
    let whole : s ≡ h ++ flat = e ∙ rw (none, append-nil flat) refl in (
      length h,
      record {
        reads = rw whole (rw zero-add at (forms-reads head [] h flat forms));
        inside = let l = ap length whole in omega (arith, length-append h flat);
        rest = rw whole (drop-append_seam h flat);
      },
    )

pub read-file : (head : List ℕ) (layers : List Layer) (s : List ℕ) (first : ℕ) → Bytes s → FileRead head layers s first
    → File head layers [] s
read-file head layers s first b f =
    let whole = sym (take-append-drop first s) ∙ ap (λ l. take first s ++ l) (f.rest ∙ sym (append-nil (flatten (all_rows layers)))) in
    (take first s, [], reads-forms head s 0 first b (omega arith) f.reads, refl, whole)

-- Layers whose numbers are read from `at` to `first`, and whose rows stand from there to the end: all within their limits,
-- in order, in service and packings.
pub record LayersHeld (limits : LayerLimits) (base : Site) (left room : ℕ) (s : List ℕ) (at first : ℕ) (layers : List Layer) : Type 0 where
  pub reads : Reads (head_numbers (heads_of layers)) s at first
  pub within : HeadsWithin limits left room (heads_of layers)
  pub inside : first ≤ length s
  pub rest : drop first s ≡ flatten (all_rows layers)
  pub rows : All (Row base.n base.r) (all_rows layers)
  pub in-service : InService base.dark (all_rows layers)
  pub packings : Packings 0 layers

module _ (limits : LayerLimits) (base : Site) (left room : ℕ) (s : List ℕ) (at : ℕ) where
  -- The layers' numbers and rows are accepted exactly where they are read so.
  pub held-of-layers : {head : LayerHeads} {layers : List Layer} → read_layers limits left room s at ≡ accepted head
      → check_rows base head.heads s head.next ≡ accepted layers
      → LayersHeld limits base left room s at head.next layers
  held-of-layers {head} {layers} e₁ e₂ =
      let (reads, within) = reads-of-read_layers limits left room s at e₁ in
      let taken = taken-of-check_rows base head.heads s head.next e₂ in
      let heads : heads_of layers ≡ head.heads = taken-heads base head.heads s head.next taken in
      let ends = taken.ends in
      record {
        reads = rw heads reads;
        within = rw heads within;
        inside = omega arith;
        rest = taken-bytes base head.heads s head.next taken;
        rows = taken.rows;
        in-service = taken.in-service;
        packings = taken.packings;
      }

  pub heads-accepted : {first : ℕ} {layers : List Layer} → LayersHeld limits base left room s at first layers
      → read_layers limits left room s at ≡ accepted (record { heads = heads_of layers; next = first })
  heads-accepted {first} {layers} l =
      read_layers-accepted limits left room s at (heads_of layers) first l.reads l.within

  pub rows-accepted : {first : ℕ} {layers : List Layer} → LayersHeld limits base left room s at first layers
      → check_rows base (heads_of layers) s first ≡ accepted layers
  rows-accepted {first} {layers} l =
      check_rows-accepted base (heads_of layers) s first (taken-of-bytes base s first layers l.inside l.rest l.rows l.in-service l.packings)
