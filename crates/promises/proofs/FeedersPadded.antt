-- Document 02, (b) and (n): two files of kind 6 that differ only in the padding of the numbers after their rows. Assumes nothing.
use Prim.Native.Nat.{ℕ, zero, suc, ◌+◌, ◌*◌, ◌-◌, ◌≤◌, max}
use native.Mathlib.Omega.{arith}
use mathlib.Core.Path.{◌≡◌, refl, sym, ◌∙◌, ap, subst}
use mathlib.Core.Bool.{true}
use mathlib.Core.List.{List, [], ◌∷◌, ◌++◌, flatten}
use mathlib.Core.Option.{Option, none, some}
use lib.ListN.{length, drop, length-append, length-drop}
use lib.Seq.{slice, drop-drop, drop_at, drop-append-le, drop-append-add, take-append-le, take_all}
use borrow.Author.Tests.{le-leb}
use Rattle.refusal.specs.declared.Refusal.TheVariants.{SharedFeeder}
use Rattle.refusal.specs.Checked.{accepted}
use Rattle.refusal.specs.Agree.{Agree, both-accepted, both-refused}
use Rattle.refusal.proofs.Agree.{agree-bind, agree-require, agree_same}
use Rattle.refusal.proofs.Checked.{bind-elim, accepted-injective}
use Rattle.number.specs.Numbers.{Bytes, Form, Forms, read_number, read_within}
use Rattle.number.specs.declared.Reading.{Reading}
use Rattle.number.proofs.Laws.{read-iff-form, read_next}
use Rattle.number.proofs.Within.{read-of-read_within, read_within-accepted}
use Rattle.layers.specs.Layers.{Site, NodesReading, BaseReading, LayerHeads, all_rows, heads_of, head_numbers, sizes, layers_at, refuse_row, read_base, read_layers, check_length, check_end}
use Rattle.layers.specs.Meaning.{rows_end}
use Rattle.layers.specs.declared.FileKind.TheVariants.{Placement as PlacementKind}
use Rattle.layers.specs.declared.LayerHead.{LayerHead}
use Rattle.layers.proofs.Heads.{base_numbers, held-of-read_base, read_base-accepted, reads-of-read_layers, read_layers-accepted}
use Rattle.layers.proofs.Layouts.{heads_of-layers_at, flatten-layers_at, layers_at-lengths, layers_at-flatten}
use Rattle.layers.proofs.NumbersRead.{Reads, reads-le, forms-reads}
use Rattle.layers.proofs.Padding.{Padded, padded-none, read_within-padded}
use Rattle.layers.proofs.RowsPadding.{leb-same, ascending-agree, service-agree, packings-agree}
use Rattle.placement.specs.Feeders.{Feeders, FeedersReading, fed, unit_layers, first_sharing, read_each, read_numbered, read_feeders, check_apart}
use Rattle.placement.specs.Figure.{rule_of}
use Rattle.placement.specs.Placement.{TermsReading, placement_layer_limits, read_terms, read_placement, check_records, check_figure}
use Rattle.placement.proofs.Accepted.{term_numbers, reads-of-read_terms}
use Rattle.promises.proofs.Requests.{SameContent}

apart-agree : (feeders : Option Feeders) (r at : ℕ) (rows : List (List ℕ))
    → Agree (λ u u'. Unit) (check_apart feeders r at rows) (check_apart feeders r at rows)
unfolding check_apart
apart-agree feeders r at rows = go (first_sharing feeders rows)
  where
    go : (found : Option ℕ) → Agree (λ u u'. Unit) (refuse_row SharedFeeder r at found) (refuse_row SharedFeeder r at found)
    go none = both-accepted tt
    go (some i) = both-refused refl

-- none is left past the last
drop-none : (n : ℕ) (l : List ℕ) → length l ≤ n → drop n l ≡ []
drop-none zero [] h = refl
drop-none zero (v ∷ l) h = absurd (omega arith)
drop-none (suc n) [] h = refl
drop-none (suc n) (v ∷ l) h = drop-none n l (omega arith)

module _ (s s' : List ℕ) where
  -- the same feeders, and those of the numbers that are left
  record EachPadded (left : List ℕ) (d d' : NodesReading) : Type 0 where
    nodes : d.nodes ≡ d'.nodes
    after : Padded left s s' d.next d'.next

  record AfterPadded (left : List ℕ) (a a' : FeedersReading) : Type 0 where
    feeders : a.feeders ≡ a'.feeders
    after : Padded left s s' a.next a'.next

  each-padded : (g left : ℕ) (vs : List ℕ) (at at' : ℕ) → Padded vs s s' at at'
      → Agree (EachPadded (drop left vs)) (read_each g left s at) (read_each g left s' at')
  unfolding read_each
  each-padded g zero vs at at' p = both-accepted (record { nodes = refl; after = p })
  each-padded g (suc left) vs at at' p =
      let past : drop left (drop 1 vs) ≡ drop (suc left) vs =
      drop-drop left 1 vs ∙ (let e : 1 + left ≡ suc left = omega arith in ap (λ m. drop m vs) e) in
      agree-bind _ _ (read_within-padded s s' 0 (g - 1) vs at at' p) λ feeder feeder' r₁.
      rw
      r₁.value
      (agree-bind _ _ (each-padded g left (drop 1 vs) feeder.next feeder'.next r₁.after) λ rest rest' r₂.
      both-accepted (record {
        nodes = ap (λ l. feeder'.value ∷ l) r₂.nodes;
        after = subst (λ l. Padded l s s' rest.next rest'.next) past r₂.after;
      }))

  feeders-padded : (kind n r k : ℕ) (vs : List ℕ) (at at' : ℕ) → fed kind ≡ true → length vs ≤ suc n → Padded vs s s' at at'
      → Agree (AfterPadded []) (read_feeders kind n r k s at) (read_feeders kind n r k s' at')
  unfolding read_feeders read_numbered
  feeders-padded kind n r k vs at at' is few p =
      let past : drop n (drop 1 vs) ≡ [] = drop-drop n 1 vs ∙ drop-none (1 + n) vs (omega arith) in
      rw
      is
      (agree-bind _ _ (read_within-padded s s' (max (suc k) r) n vs at at' p) λ g g' r₁.
      rw
      r₁.value
      (agree-bind _ _ (each-padded g'.value n (drop 1 vs) g.next g'.next r₁.after) λ each each' r₂.
      both-accepted
      (record {
        feeders = ap (λ l. some (record { number = g'.value; each = l })) r₂.nodes;
        after = subst (λ l. Padded l s s' each.next each'.next) past r₂.after;
      })))

-- rows that fill the rest of `pre`, whatever follows
rows-of-pre : (r : ℕ) (heads : List LayerHead) (l x : List ℕ) → length l ≡ sizes heads * r
    → layers_at r heads (l ++ x) ≡ layers_at r heads l
rows-of-pre r heads l x size =
    let layers = layers_at r heads l in
    let flat : flatten (all_rows layers) ≡ l = flatten-layers_at r heads l ∙ take_all (sizes heads * r) l (omega arith) in
    (λ i. layers_at r (sym (heads_of-layers_at r heads l) i) (sym flat i ++ x))
    ∙ layers_at-flatten r layers x (layers_at-lengths r heads l (omega arith))

-- two files that begin with `pre`: its rows end there, and then the same numbers are read
module _ (pre t t' : List ℕ) where
  number-there : Bytes (pre ++ t) → Bytes (pre ++ t') → (at : ℕ) (n : Reading) → n.next ≤ length pre
      → read_number (pre ++ t) at ≡ accepted n → read_number (pre ++ t') at ≡ accepted n
  number-there b b' at n inside e =
      let (_, form) = (read-iff-form (pre ++ t) at n b).0 e in
      let same : slice at n.next (pre ++ t) ≡ slice at n.next (pre ++ t') =
      ap (drop at) (take-append-le n.next pre t inside ∙ sym (take-append-le n.next pre t' inside)) in
      (read-iff-form (pre ++ t') at n b').1 (omega (arith, length-append pre t'), subst (Form n.value) same form)

  reads-there : Bytes (pre ++ t) → Bytes (pre ++ t') → (vs : List ℕ) (at end : ℕ) → end ≤ length pre
      → Reads vs (pre ++ t) at end → Reads vs (pre ++ t') at end
  reads-there b b' [] at end inside h = h
  reads-there b b' (v ∷ vs) at end inside (mid, read, rest) =
      let before = reads-le vs (pre ++ t) mid end rest in
      (mid, number-there b b' at (record { value = v; next = mid }) (omega arith) read, reads-there b b' vs mid end inside rest)

  within-there : Bytes (pre ++ t) → Bytes (pre ++ t') → (lo hi at : ℕ) {n : Reading} → n.next ≤ length pre
      → read_within lo hi (pre ++ t) at ≡ accepted n → read_within lo hi (pre ++ t') at ≡ accepted n
  within-there b b' lo hi at {n} inside e =
      let (read, least, most) = read-of-read_within lo hi (pre ++ t) at e in
      read_within-accepted lo hi (pre ++ t') at (number-there b b' at n inside read) least most

  terms-there : Bytes (pre ++ t) → Bytes (pre ++ t') → (base : Site) (at : ℕ) {order : TermsReading} → order.next ≤ length pre
      → read_terms base (pre ++ t) at ≡ accepted order → read_terms base (pre ++ t') at ≡ accepted order
  unfolding read_terms
  terms-there b b' base at inside e =
      bind-elim (read_within 1 base.r (pre ++ t) at) _ e λ s e₁ r₁.
      bind-elim (read_within s.value (base.n - 1) (pre ++ t) s.next) _ r₁ λ k e₂ r₂.
      bind-elim (read_within 1 4_096 (pre ++ t) k.next) _ r₂ λ c e₃ r₃.
      bind-elim (read_within 0 c.value (pre ++ t) c.next) _ r₃ λ figure e₄ r₄.
      let last = ap (λ (o : TermsReading). o.next) (accepted-injective r₄) in
      let n₂ = read_next (pre ++ t) s.next (read-of-read_within s.value (base.n - 1) (pre ++ t) s.next e₂).0 in
      let n₃ = read_next (pre ++ t) k.next (read-of-read_within 1 4_096 (pre ++ t) k.next e₃).0 in
      let n₄ = read_next (pre ++ t) c.next (read-of-read_within 0 c.value (pre ++ t) c.next e₄).0 in
      rw (
        within-there b b' 1 base.r at (omega arith) e₁,
        within-there b b' s.value (base.n - 1) s.next (omega arith) e₂,
        within-there b b' 1 4_096 k.next (omega arith) e₃,
        within-there b b' 0 c.value c.next (omega arith) e₄,
      ) r₄

  records-agree : (kind : ℕ) (base : Site) (k : ℕ) (heads : List LayerHead) (at : ℕ) (vs : List ℕ) → fed kind ≡ true
      → at + sizes heads * base.r ≡ length pre → length vs ≤ suc base.n
      → Padded vs (pre ++ t) (pre ++ t') (at + sizes heads * base.r) (at + sizes heads * base.r)
      → Agree (λ rows rows'. rows ≡ rows') (check_records kind base k heads (pre ++ t) at) (check_records kind base k heads (pre ++ t') at)
  unfolding check_records check_length check_end
  records-agree kind base k heads at vs is ends few p =
      let end = at + sizes heads * base.r in
      let s = pre ++ t in
      let s' = pre ++ t' in
      let size : length (drop at pre) ≡ sizes heads * base.r = length-drop at pre ∙ omega arith in
      let rows : layers_at base.r heads (drop at (pre ++ t)) ≡ layers_at base.r heads (drop at (pre ++ t')) =
      ap (layers_at base.r heads) (drop-append-le at pre t (omega arith)) ∙ rows-of-pre base.r heads (drop at pre) t size
      ∙ sym (ap (layers_at base.r heads) (drop-append-le at pre t' (omega arith)) ∙ rows-of-pre base.r heads (drop at pre) t' size) in
      let layers = layers_at base.r heads (drop at (pre ++ t')) in
      rw
      (le-leb end (length s) (omega (arith, length-append pre t)), le-leb end (length s') (omega (arith, length-append pre t')), rows)
      (agree-bind _ _ (feeders-padded s s' kind base.n base.r k vs end end is few p) λ a a' r.
      let q = r.after in
      let more : length s - a.next ≡ length s' - a'.next =
      sym (length-drop a.next s) ∙ ap length (padded-none q) ∙ length-drop a'.next s' in
      let within : a.next ≤ length s = rw q.reads q.inside in
      let within' : a'.next ≤ length s' = rw q.reads' q.inside' in
      agree-require _ _ _ _ _ _
      (leb-same (length s) a.next (length s') a'.next (λ h. omega arith) (λ h. omega arith)) refl
      (agree-bind _ _ (ascending-agree base at at (all_rows layers)) λ u u' t.
      agree-bind _ _ (service-agree base at at (all_rows layers)) λ u u' t.
      rw
      r.feeders
      (agree-bind _ _ (apart-agree a'.feeders base.r at (all_rows layers)) λ u u' t.
      agree-bind _ _ (packings-agree base.r at at (unit_layers a'.feeders layers)) λ u u' t.
      both-accepted refl)))

-- what is read of s, k, b and F is theirs
terms-le : (base : Site) (s : List ℕ) (at : ℕ) {order : TermsReading} → 2 ≤ base.n
    → read_terms base s at ≡ accepted order → at ≤ order.next
terms-le base s at {order} least e = reads-le (term_numbers order.terms) s at order.next (reads-of-read_terms base s at e least).0

-- "two files that differ only in such padding are both accepted or both refused", of the numbers after the rows too: a head in order and
-- the rows, which end with `pre`; then f in one file and g in the other, forms of the same first of the n + 1 numbers after the rows; then
-- the same bytes. Both files are accepted, with the same placement, or both are refused, with the same number, also where they are bad
-- further on. That the heads' numbers may be padded as well is `b-same-placement`.
pub n-same-feeders : (pre f g rest after : List ℕ) → Bytes (pre ++ (f ++ rest)) → Bytes (pre ++ (g ++ rest)) → Forms after f → Forms after g
    → {head : BaseReading} {order : TermsReading} {numbers : LayerHeads}
    → read_base PlacementKind (pre ++ (f ++ rest)) ≡ accepted head
    → read_terms head.base (pre ++ (f ++ rest)) head.next ≡ accepted order
    → read_layers placement_layer_limits order.terms.s order.terms.b (pre ++ (f ++ rest)) order.next ≡ accepted numbers
    → head.kind ≡ 6
    → rows_end head.base numbers.heads (pre ++ (f ++ rest)) numbers.next ≡ length pre
    → length after ≤ suc head.base.n
    → Agree SameContent (read_placement (pre ++ (f ++ rest))) (read_placement (pre ++ (g ++ rest)))
unfolding read_placement
n-same-feeders pre f g rest after bytes bytes' forms forms' {head} {order} {numbers} b o l six ends few =
    let s = pre ++ (f ++ rest) in
    let s' = pre ++ (g ++ rest) in
    let held = held-of-read_base PlacementKind s b in
    let (layer-reads, layer-limits) = reads-of-read_layers placement_layer_limits order.terms.s order.terms.b s order.next l in
    let le₃ = reads-le (head_numbers numbers.heads) s order.next numbers.next layer-reads in
    let le₂ = terms-le head.base s head.next held.limits.n-least o in
    let b' : read_base PlacementKind s' ≡ accepted head =
    read_base-accepted PlacementKind head.kind head.base s' head.next
    (reads-there pre (f ++ rest) (g ++ rest) bytes bytes' (base_numbers head.kind head.base) 0 head.next (omega arith) held.reads)
    held.kind held.limits held.dark in
    let o' : read_terms head.base s' head.next ≡ accepted order =
    terms-there pre (f ++ rest) (g ++ rest) bytes bytes' head.base head.next (omega arith) o in
    let l' : read_layers placement_layer_limits order.terms.s order.terms.b s' order.next ≡ accepted numbers =
    read_layers-accepted placement_layer_limits order.terms.s order.terms.b s' order.next numbers.heads numbers.next
    (reads-there pre (f ++ rest) (g ++ rest) bytes bytes' (head_numbers numbers.heads) order.next numbers.next (omega arith)
    layer-reads)
    layer-limits in
    let end = numbers.next + sizes numbers.heads * head.base.r in
    let same : Padded after s s' end end =
    record {
      end = length pre + length f;
      end' = length pre + length g;
      reads = rw ends (forms-reads after pre f rest forms);
      reads' = rw ends (forms-reads after pre g rest forms');
      inside = omega (arith, length-append pre (f ++ rest), length-append f rest);
      inside' = omega (arith, length-append pre (g ++ rest), length-append g rest);
      same =
          drop-append-add pre (f ++ rest) (length f) ∙ drop_at f rest (length f) refl
          ∙ sym (drop-append-add pre (g ++ rest) (length g) ∙ drop_at g rest (length g) refl);
    } in
    rw
    (b, b', o, o', l, l')
    (agree-bind _ _
    (records-agree pre (f ++ rest) (g ++ rest) head.kind head.base order.terms.k numbers.heads numbers.next after
    (rw six refl) ends few same)
    λ rows rows' same_rows.
    rw
    same_rows
    (agree-bind _ _ (agree_same {m = check_figure (rule_of head.kind) order.terms (heads_of rows'.layers)} refl) λ u u' t.
    both-accepted refl))
