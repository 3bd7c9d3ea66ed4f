-- Request (b): placements that differ only in the padding of their first numbers are both accepted or both refused. Assumes
-- nothing.
use Prim.Native.Nat.{ℕ, ◌+◌, ◌*◌, ◌-◌, ◌≤◌, ◌<◌}
use native.Mathlib.Omega.{arith}
use mathlib.Core.Path.{◌≡◌, refl, ◌∙◌, ap}
use mathlib.Core.Bool.{Bool, true, false}
use mathlib.Core.List.{List, [], ◌∷◌}
use lib.ListN.{length, get_or, drop, length-drop}
use lib.Seq.{get_or-drop}
use lib.Dec.{leb, eqb}
use borrow.Author.Tests.{leb-true, leb-false}
use Rattle.refusal.specs.declared.Refusal.TheVariants.{WrongFigure}
use Rattle.refusal.specs.Checked.{require}
use Rattle.refusal.specs.Agree.{Agree, both-accepted, both-refused}
use Rattle.refusal.proofs.Agree.{agree-bind}
use Rattle.layers.specs.Layers.{Site, heads_of, list_numbers, list_size, read_layers}
use Rattle.layers.specs.declared.FileKind.TheVariants.{Placement as PlacementKind}
use Rattle.layers.specs.declared.LayerHead.{LayerHead}
use Rattle.layers.proofs.Padding.{Padded, HeadsPadded, read_within-padded, read_base-padded, read_layers-padded}
use Rattle.placement.proofs.RecordsPadding.{check_records-padded}
use Rattle.placement.specs.Figure.{rule_of, figure_of}
use Rattle.placement.specs.declared.Terms.{Terms}
use Rattle.placement.specs.Placement.{TermsReading, Rows, placement_layer_limits, placement_of, read_terms, check_records, check_figure, read_placement}

-- the same s, k, b and F; only F's place may differ
record SameTerms (t t' : Terms) : Type 0 where
  s-same : t.s ≡ t'.s
  k-same : t.k ≡ t'.k
  b-same : t.b ≡ t'.b
  figure-same : t.figure ≡ t'.figure

-- What two readings of them give.
record TermsPadded (vs s s' : List ℕ) (t t' : TermsReading) : Type 0 where
  same : SameTerms t.terms t'.terms
  first : 0 < length vs → t.terms.s ≡ get_or vs 0 0
  after : Padded (drop 4 vs) s s' t.next t'.next

after-fourth : (vs : List ℕ) → drop 1 (drop 1 (drop 1 (drop 1 vs))) ≡ drop 4 vs
after-fourth [] = refl
after-fourth (a ∷ []) = refl
after-fourth (a ∷ b ∷ []) = refl
after-fourth (a ∷ b ∷ c ∷ []) = refl
after-fourth (a ∷ b ∷ c ∷ d ∷ vs) = refl

read_terms-padded : (base : Site) (vs bytes bytes' : List ℕ) (at at' : ℕ) → Padded vs bytes bytes' at at'
    → Agree (TermsPadded vs bytes bytes') (read_terms base bytes at) (read_terms base bytes' at')
unfolding read_terms
read_terms-padded base vs bytes bytes' at at' p =
    agree-bind _ _ (read_within-padded bytes bytes' 1 base.r vs at at' p) λ s s' r₁.
    rw
    r₁.value
    (agree-bind _ _
    (read_within-padded bytes bytes' s'.value (base.n - 1) (drop 1 vs) s.next s'.next r₁.after) λ k k' r₂.
    agree-bind _ _ (read_within-padded bytes bytes' 1 4_096 (drop 1 (drop 1 vs)) k.next k'.next r₂.after) λ b b' r₃.
    rw
    r₃.value
    (agree-bind _ _
    (read_within-padded bytes bytes' 0 b'.value (drop 1 (drop 1 (drop 1 vs))) b.next b'.next r₃.after)
    λ figure figure' r₄.
    both-accepted
    (record {
      same = record { s-same = refl; k-same = r₂.value; b-same = refl; figure-same = r₄.value };
      first = rw r₁.value at r₁.first;
      after = rw (← after-fourth vs) r₄.after;
    })))

-- after seven numbers and the list at most two for each of s layers are left
layers-left : (vs : List ℕ) (s list : ℕ) → length vs ≤ 7 + list_size vs + 2 * get_or vs (3 + list_size vs) 0
    → (3 < length vs → list ≡ list_size vs)
    → (0 < length (drop (3 + list) vs) → s ≡ get_or (drop (3 + list) vs) 0 0)
    → length (drop 4 (drop (3 + list) vs)) ≤ s * 2
layers-left vs s list most size is =
    rw (length-drop 4 (drop (3 + list) vs), length-drop (3 + list) vs) (go (leb (length vs) (3 + list)) refl)
  where
    go : (b : Bool) → leb (length vs) (3 + list) ≡ b → length vs - (3 + list) - 4 ≤ s * 2
    go true e = let few = leb-true (length vs) (3 + list) e in omega arith
    go false e =
        let many = leb-false (length vs) (3 + list) e in
        let list-is = size (omega arith) in
        let s-is = is (rw (length-drop (3 + list) vs) (omega arith)) ∙ get_or-drop (3 + list) vs 0 0 in
        let place : 3 + list + 0 ≡ 3 + list_size vs = omega arith in
        let s-there : s ≡ get_or vs (3 + list_size vs) 0 = s-is ∙ ap (λ i. get_or vs i 0) place in
        omega arith

module _ (kind : ℕ) {terms terms' : Terms} (same : SameTerms terms terms') where
  -- the figure by the same numbers
  figure-agree : (heads : List LayerHead) → Agree (λ u u'. Unit) (check_figure (rule_of kind) terms heads) (check_figure (rule_of kind) terms' heads)
  unfolding check_figure
  figure-agree heads =
      rw
      (same.s-same, same.k-same, same.b-same, same.figure-same)
      (go (eqb terms'.figure (figure_of (rule_of kind) terms'.s terms'.k terms'.b heads)))
    where
      go : (t : Bool)
          → Agree (λ u u'. Unit) (require t (WrongFigure terms.place)) (require t (WrongFigure terms'.place))
      go true = both-accepted tt
      go false = both-refused refl

  same-placement : (base : Site) (rows : Rows) → placement_of kind base terms rows ≡ placement_of kind base terms' rows
  same-placement base rows = rw (same.s-same, same.k-same, same.b-same, same.figure-same)

-- the rows, with the same k
records-agree : (kind : ℕ) (base : Site) (heads : List LayerHead) (s s' : List ℕ) (at at' : ℕ) {terms terms' : Terms} → SameTerms terms terms'
    → Padded [] s s' at at'
    → Agree (λ rows rows'. rows ≡ rows') (check_records kind base terms.k heads s at) (check_records kind base terms'.k heads s' at')
records-agree kind base heads s s' at at' {terms} {terms'} same p =
    rw same.k-same (check_records-padded s s' kind base terms'.k heads at at' p)

-- The head has 7 + 2s numbers, and those of the list: where the first of them are the same, and the same bytes follow them, so is the answer.
pub read_placement-padded : (vs bytes bytes' : List ℕ) → length vs ≤ 7 + list_size vs + 2 * get_or vs (3 + list_size vs) 0 → Padded vs bytes bytes' 0 0
    → Agree (λ file file'. file.content ≡ file'.content) (read_placement bytes) (read_placement bytes')
unfolding read_placement
read_placement-padded vs bytes bytes' most p =
    agree-bind _ _ (read_base-padded bytes bytes' PlacementKind vs p) λ head head' r₁.
    let list = length (list_numbers head.kind head.base.dark) in
    rw
    (r₁.kind, r₁.base)
    (agree-bind _ _ (read_terms-padded head'.base (drop (3 + list) vs) bytes bytes' head.next head'.next r₁.after)
    λ order order' r₂.
    let left = layers-left vs order.terms.s list most r₁.size r₂.first in
    let layers-agree : Agree (HeadsPadded bytes bytes')
    (read_layers placement_layer_limits order.terms.s order.terms.b bytes order.next)
    (read_layers placement_layer_limits order'.terms.s order'.terms.b bytes' order'.next) =
    rw
    (← r₂.same.s-same, ← r₂.same.b-same)
    (read_layers-padded bytes bytes' placement_layer_limits order.terms.s order.terms.b (drop 4 (drop (3 + list) vs))
    order.next order'.next left r₂.after) in
    agree-bind _ _ layers-agree λ numbers numbers' r₃.
    rw
    r₃.heads
    (agree-bind _ _ (records-agree head'.kind head'.base numbers'.heads bytes bytes' numbers.next numbers'.next r₂.same r₃.after)
    λ rows rows' same.
    rw
    same
    (agree-bind _ _ (figure-agree head'.kind r₂.same (heads_of rows'.layers)) λ u u' t.
    both-accepted (same-placement head'.kind r₂.same head'.base rows'))))
