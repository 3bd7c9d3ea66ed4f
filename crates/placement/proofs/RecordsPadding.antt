-- Request (b): the rows of two placements that differ only in the padding of their heads, and what follows the rows. Assumes nothing.
use Prim.Native.Nat.{ℕ, zero, suc, ◌+◌, ◌*◌, ◌-◌, ◌≤◌, max}
use native.Mathlib.Omega.{arith}
use mathlib.Core.Path.{◌≡◌, refl, sym, ◌∙◌, ap}
use mathlib.Core.Bool.{Bool, true, false}
use mathlib.Core.List.{List, [], ◌∷◌}
use mathlib.Core.Option.{Option, none, some}
use lib.ListN.{length, drop, length-drop}
use lib.Seq.{drop-drop}
use lib.Dec.{leb}
use borrow.Author.Tests.{leb-true, leb-false, le-leb, lt-leb}
use Rattle.refusal.specs.declared.Refusal.TheVariants.{SharedFeeder}
use Rattle.refusal.specs.Agree.{Agree, both-accepted, both-refused}
use Rattle.refusal.proofs.Agree.{agree-bind, agree-require}
use Rattle.layers.specs.Layers.{Site, NodesReading, all_rows, sizes, layers_at, refuse_row, check_length, check_end}
use Rattle.layers.specs.declared.LayerHead.{LayerHead}
use Rattle.layers.proofs.Padding.{Padded, padded-none, read_within-padded}
use Rattle.layers.proofs.RowsPadding.{leb-same, ascending-agree, service-agree, packings-agree}
use Rattle.placement.specs.Feeders.{Feeders, FeedersReading, fed, unit_layers, first_sharing, read_each, read_numbered, read_feeders, check_apart}
use Rattle.placement.specs.Placement.{check_records}

-- the same row found
apart-agree : (feeders : Option Feeders) (r at at' : ℕ) (rows : List (List ℕ))
    → Agree (λ u u'. Unit) (check_apart feeders r at rows) (check_apart feeders r at' rows)
unfolding check_apart
apart-agree feeders r at at' rows = go (first_sharing feeders rows)
  where
    go : (found : Option ℕ) → Agree (λ u u'. Unit) (refuse_row SharedFeeder r at found) (refuse_row SharedFeeder r at' found)
    go none = both-accepted tt
    go (some i) = both-refused refl

module _ (s s' : List ℕ) where
  -- the same feeders, and the same bytes after them
  record EachPadded (d d' : NodesReading) : Type 0 where
    nodes : d.nodes ≡ d'.nodes
    after : Padded [] s s' d.next d'.next

  record AfterPadded (a a' : FeedersReading) : Type 0 where
    feeders : a.feeders ≡ a'.feeders
    after : Padded [] s s' a.next a'.next

  read_each-padded : (g left at at' : ℕ) → Padded [] s s' at at' → Agree EachPadded (read_each g left s at) (read_each g left s' at')
  unfolding read_each
  read_each-padded g zero at at' p = both-accepted (record { nodes = refl; after = p })
  read_each-padded g (suc left) at at' p =
      agree-bind _ _ (read_within-padded s s' 0 (g - 1) [] at at' p) λ feeder feeder' r₁.
      rw
      r₁.value
      (agree-bind _ _ (read_each-padded g left feeder.next feeder'.next r₁.after) λ rest rest' r₂.
      both-accepted (record { nodes = ap (λ l. feeder'.value ∷ l) r₂.nodes; after = r₂.after }))

  read_feeders-padded : (kind n r k at at' : ℕ) → Padded [] s s' at at'
      → Agree AfterPadded (read_feeders kind n r k s at) (read_feeders kind n r k s' at')
  unfolding read_feeders read_numbered
  read_feeders-padded kind n r k at at' p = go (fed kind) refl
    where
      go : (b : Bool) → fed kind ≡ b → Agree AfterPadded (read_feeders kind n r k s at) (read_feeders kind n r k s' at')
      go false is = rw is (both-accepted (record { feeders = refl; after = p }))
      go true is =
          rw
          is
          (agree-bind _ _ (read_within-padded s s' (max (suc k) r) n [] at at' p) λ g g' r₁.
          rw
          r₁.value
          (agree-bind _ _ (read_each-padded g'.value n g.next g'.next r₁.after) λ each each' r₂.
          both-accepted
          (record { feeders = ap (λ l. some (record { number = g'.value; each = l })) r₂.nodes; after = r₂.after })))

  -- The same bytes from the rows on.
  pub check_records-padded : (kind : ℕ) (base : Site) (k : ℕ) (heads : List LayerHead) (at at' : ℕ) → Padded [] s s' at at'
      → Agree (λ rows rows'. rows ≡ rows') (check_records kind base k heads s at) (check_records kind base k heads s' at')
  unfolding check_records check_length check_end
  check_records-padded kind base k heads at at' p = go (leb end (length s)) refl
    where
      end : ℕ
      end = at + sizes heads * base.r

      end' : ℕ
      end' = at' + sizes heads * base.r

      here : drop at s ≡ drop at' s'
      here = padded-none p

      long : length s - at ≡ length s' - at'
      long = sym (length-drop at s) ∙ ap length here ∙ length-drop at' s'

      inside : at ≤ length s
      inside = rw p.reads p.inside

      inside' : at' ≤ length s'
      inside' = rw p.reads' p.inside'

      rest : end ≤ length s → Padded [] s s' end end'
      rest h =
          record {
            end = end;
            end' = end';
            reads = refl;
            reads' = refl;
            inside = h;
            inside' = omega (arith, long, inside, inside');
            same = sym (drop-drop (sizes heads * base.r) at s) ∙ ap (drop (sizes heads * base.r)) here ∙ drop-drop (sizes heads * base.r) at' s';
          }

      go : (b : Bool) → leb end (length s) ≡ b
          → Agree (λ rows rows'. rows ≡ rows') (check_records kind base k heads s at) (check_records kind base k heads s' at')
      go false e =
          let h = leb-false end (length s) e in
          rw (e, lt-leb end' (length s') (omega (arith, long, inside, inside'))) (both-refused refl)
      go true e =
          let h = leb-true end (length s) e in
          rw
          (e, le-leb end' (length s') (omega (arith, long, inside, inside')), here)
          (agree-bind _ _ (read_feeders-padded kind base.n base.r k end end' (rest h)) λ a a' r.
          let q = r.after in
          let more : length s - a.next ≡ length s' - a'.next = sym (length-drop a.next s) ∙ ap length (padded-none q) ∙ length-drop a'.next s' in
          let within : a.next ≤ length s = rw q.reads q.inside in
          let within' : a'.next ≤ length s' = rw q.reads' q.inside' in
          let layers = layers_at base.r heads (drop at' s') in
          agree-require _ _ _ _ _ _
          (leb-same (length s) a.next (length s') a'.next (λ h. omega arith) (λ h. omega arith)) refl
          (agree-bind _ _ (ascending-agree base at at' (all_rows layers)) λ u u' t.
          agree-bind _ _ (service-agree base at at' (all_rows layers)) λ u u' t.
          rw
          r.feeders
          (agree-bind _ _ (apart-agree a'.feeders base.r at at' (all_rows layers)) λ u u' t.
          agree-bind _ _ (packings-agree base.r at at' (unit_layers a'.feeders layers)) λ u u' t.
          both-accepted refl)))
