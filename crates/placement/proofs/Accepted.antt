-- Demand 2 for placements: the check accepts exactly the files of good placements. Assumes nothing.
use Prim.Native.Nat.{ℕ, zero, suc, ◌+◌, ◌*◌, ◌-◌, ◌≤◌}
use native.Mathlib.Omega.{arith}
use mathlib.Core.Path.{◌≡◌, refl, sym, ◌∙◌, ap, subst}
use mathlib.Core.Logic.{◌↔◌}
use mathlib.Core.Bool.{true}
use mathlib.Core.List.{List, [], ◌∷◌, flatten}
use lib.ListN.{length, take, drop, length-drop, length-map}
use lib.Seq.{length-take-le}
use lib.Dec.{eqb}
use borrow.Author.Tests.{eqb-true, eq-eqb}
use Rattle.lists.proofs.Alls.{all_map, all_of_map, all-imp}
use Rattle.refusal.specs.declared.Refusal.TheVariants.{WrongFigure}
use Rattle.refusal.specs.Checked.{accepted}
use Rattle.refusal.proofs.Checked.{accepted-injective, bind-elim, require-bind-accepted, map_accepted-accepted}
use Rattle.number.specs.Numbers.{Bytes, read_within}
use Rattle.number.proofs.Within.{read-of-read_within, read_within-accepted}
use Rattle.layers.specs.Layers.{Located, Site, sizes, all_rows, heads_of, head_numbers, read_base, read_layers}
use Rattle.layers.specs.declared.FileKind.TheVariants.{Placement as PlacementKind}
use Rattle.layers.proofs.NumbersRead.{Reads, reads-append, reads-split}
use Rattle.layers.proofs.Heads.{SizesFit, HeadsWithin, base_numbers, held-of-read_base, read_base-accepted, reads-of-read_layers, read_layers-accepted, fit-full}
use Rattle.placement.proofs.Records.{FileReadAt, taken-of-check_records, check_records-accepted, taken-heads, taken-bytes, taken-of-read, file-read_at, read-file_at}
use Rattle.placement.proofs.Losses.{figure_of-le}
use Rattle.placement.specs.Figure.{rule_of, figure_of}
use Rattle.placement.specs.declared.Order.{Order}
use Rattle.placement.specs.declared.Terms.{Terms}
use Rattle.placement.specs.Feeders.{feeder_numbers}
use Rattle.placement.specs.Placement.{Placement, PlacementFile, PlacementFileAt, OrderLimits, PlacementLimits, GoodPlacement, TermsReading, Rows, placement_numbers, placement_layer_limits, read_terms, check_records, check_figure, read_placement, check_placement}

-- sizes that are the room fill it
full-fit : (left room sum : ℕ) → sum ≡ room → SizesFit true left room sum
full-fit zero room sum e = omega arith
full-fit (suc left) room sum e = e

-- a placement's layers within their limits, in the terms of the head
heads-within : (p : Placement) → PlacementLimits p
    → HeadsWithin placement_layer_limits p.s p.b (heads_of p.layers)
heads-within p l =
    record {
      layer-each = length-map p.layers _ ∙ l.layer-each;
      bounds =
          all_map _ _ p.layers
          (all-imp (λ layer. layer.bound ≤ 16_777_216) _ (λ layer h. (omega arith, h)) p.layers l.lambda-most);
      fit = full-fit p.s p.b (sizes (heads_of p.layers)) l.records-all;
    }

-- the numbers s, k, b and F as a list, and the order that they are
abbrev pub term_numbers : Terms → List ℕ
term_numbers t = t.s ∷ t.k ∷ t.b ∷ t.figure ∷ []

abbrev pub order_of : Terms → Order
order_of t = record { s = t.s; k = t.k; b = t.b }

-- "s; k; b; the figure F (0..b)": accepted exactly where they are read and within their limits
pub reads-of-read_terms : (base : Site) (bytes : List ℕ) (at : ℕ) {order : TermsReading} → read_terms base bytes at ≡ accepted order
    → 2 ≤ base.n
    → Reads (term_numbers order.terms) bytes at order.next × OrderLimits base.n base.r (order_of order.terms)
unfolding read_terms
reads-of-read_terms base bytes at e two =
    bind-elim (read_within 1 base.r bytes at) _ e λ s e₁ r₁.
    bind-elim (read_within s.value (base.n - 1) bytes s.next) _ r₁ λ k e₂ r₂.
    bind-elim (read_within 1 4_096 bytes k.next) _ r₂ λ b e₃ r₃.
    bind-elim (read_within 0 b.value bytes b.next) _ r₃ λ figure e₄ r₄.
    let (s_read, s-least, s-most) = read-of-read_within 1 base.r bytes at e₁ in
    let (k-read, k-least, k-most) = read-of-read_within s.value (base.n - 1) bytes s.next e₂ in
    let (b-read, b-least, b-most) = read-of-read_within 1 4_096 bytes k.next e₃ in
    let (figure-read, low, high) = read-of-read_within 0 b.value bytes b.next e₄ in
    subst
    (λ order. Reads (term_numbers order.terms) bytes at order.next × OrderLimits base.n base.r (order_of order.terms))
    (accepted-injective r₄) (
      (s.next, s_read, (k.next, k-read, (b.next, b-read, (figure.next, figure-read, refl)))),
      record {
        s-least = s-least;
        s-most = s-most;
        k-least = k-least;
        k-most = omega arith;
        b-least = b-least;
        b-most = b-most;
      },
    )

-- The numbers of a placement are read, with the place of F.
terms-accepted : (p : Placement) (bytes : List ℕ) (at next : ℕ)
    → Reads (p.s ∷ p.k ∷ p.b ∷ p.figure ∷ []) bytes at next → PlacementLimits p → p.figure ≤ p.b
    → (place : ℕ) × (read_terms (record { n = p.n; r = p.r; dark = p.dark }) bytes at
    ≡ accepted
    (record { terms = record { s = p.s; k = p.k; b = p.b; figure = p.figure; place = place }; next = next }))
unfolding read_terms
terms-accepted p bytes at next (at₁, read₁, (at₂, read₂, (at₃, read₃, (at₄, read₄, e)))) l most =
    let o = l.order in (
      at₃,
      rw (
        read_within-accepted 1 p.r bytes at read₁ o.s-least o.s-most,
        read_within-accepted p.s (p.n - 1) bytes at₁ read₂ o.k-least (omega arith),
        read_within-accepted 1 4_096 bytes at₂ read₃ o.b-least o.b-most,
        read_within-accepted 0 p.b bytes at₃ read₄ (omega arith) most,
        e,
      ),
    )

-- A placement's file as it is read.
abbrev pub PlacementRead : Placement → (bytes : List ℕ) (first : ℕ) → Type 0
PlacementRead p bytes first = FileReadAt (placement_numbers p) p.layers (feeder_numbers p.feeders) bytes first

-- A placement is accepted, with the place of its first row, exactly where it is read as a file with its rows from there on,
-- and is good.
pub read-of-placement : (bytes : List ℕ) (p : Placement) (first : ℕ)
    → read_placement bytes ≡ accepted (record { content = p; first = first })
    → PlacementRead p bytes first × GoodPlacement p
unfolding read_placement check_figure
read-of-placement bytes p first e =
    bind-elim (read_base PlacementKind bytes) _ e λ head e₁ r₁.
    bind-elim (read_terms head.base bytes head.next) _ r₁ λ order e₂ r₂.
    let t = order.terms in
    bind-elim (read_layers placement_layer_limits t.s t.b bytes order.next) _ r₂ λ numbers e₃ r₃.
    bind-elim (check_records head.kind head.base t.k numbers.heads bytes numbers.next) _ r₃ λ rows e₄ r₄.
    let layers = rows.layers in
    let formula = figure_of (rule_of head.kind) t.s t.k t.b (heads_of layers) in
    let (test, same) = require-bind-accepted (eqb t.figure formula) (WrongFigure t.place) _ r₄ in
    let held = held-of-read_base PlacementKind bytes e₁ in
    let (reads, limits) = reads-of-read_terms head.base bytes head.next e₂ held.limits.n-least in
    let (numbers-read, within) = reads-of-read_layers placement_layer_limits t.s t.b bytes order.next e₃ in
    let taken = taken-of-check_records head.kind head.base t.k numbers.heads bytes numbers.next e₄ in
    let heads : heads_of layers ≡ numbers.heads = taken-heads head.kind head.base t.k numbers.heads bytes numbers.next taken in
    let w : HeadsWithin placement_layer_limits t.s t.b (heads_of layers) = rw heads within in
    let size = sizes numbers.heads * head.base.r in
    let flat = flatten (all_rows layers) in
    let stands : flat ≡ take size (drop numbers.next bytes) = taken-bytes head.kind head.base t.k numbers.heads bytes numbers.next taken in
    let fits = taken.fits in
    let len : length flat ≡ size = ap length stands ∙ length-take-le size (drop numbers.next bytes) (rw length-drop (omega arith)) in
    subst
    (λ file. PlacementRead file.content bytes file.first × GoodPlacement file.content)
    (accepted-injective same) (
      record {
        reads =
            reads-append (base_numbers head.kind head.base) (t.s ∷ t.k ∷ t.b ∷ t.figure ∷ head_numbers (heads_of layers)) bytes 0 head.next numbers.next held.reads
            (reads-append (term_numbers t) (head_numbers (heads_of layers)) bytes head.next order.next numbers.next reads (rw heads numbers-read));
        fits = rw len fits;
        rest = ap (λ n. take n (drop numbers.next bytes)) len ∙ sym stands;
        tail = rw len taken.after;
      },
      record {
        limits =
            record {
              kind = held.kind;
              base = held.limits;
              dark = held.dark;
              order = limits;
              layer-each = sym (length-map layers _) ∙ w.layer-each;
              lambda-most = all-imp _ (λ layer. layer.bound ≤ 16_777_216) (λ layer h. h.1) layers (all_of_map _ _ layers w.bounds);
              records-all = fit-full t.s t.b (sizes (heads_of layers)) limits.s-least w.fit;
              feeders = taken.fit;
            };
        rows = taken.in_order;
        in-service = taken.in-service;
        apart = taken.apart;
        packings = taken.packings;
        formula = eqb-true t.figure formula test;
      },
    )

pub placement-accepted : (bytes : List ℕ) (p : Placement) (first : ℕ) → PlacementRead p bytes first
    → GoodPlacement p → read_placement bytes ≡ accepted (record { content = p; first = first })
unfolding read_placement check_figure
placement-accepted bytes p first f g =
    let l = g.limits in
    let base : Site = record { n = p.n; r = p.r; dark = p.dark } in
    let rows : Rows = record { layers = p.layers; feeders = p.feeders } in
    let heads = head_numbers (heads_of p.layers) in
    let terms = p.s ∷ p.k ∷ p.b ∷ p.figure ∷ [] in
    let most : p.figure ≤ p.b = rw g.formula (figure_of-le (rule_of p.kind) p.s p.k p.b (heads_of p.layers)) in
    let (at₁, reads₁, after₁) = reads-split (base_numbers p.kind base) (p.s ∷ p.k ∷ p.b ∷ p.figure ∷ heads) bytes 0 first f.reads in
    let (at₂, reads₂, reads₃) = reads-split terms heads bytes at₁ first after₁ in
    let (place, terms-read) = terms-accepted p bytes at₁ at₂ reads₂ l most in
    let taken = taken-of-read p.kind base p.k (placement_numbers p) bytes first rows f l.feeders g.rows g.in-service g.apart g.packings in
    rw (
      read_base-accepted PlacementKind p.kind base bytes at₁ reads₁ l.kind l.base l.dark,
      terms-read,
      read_layers-accepted placement_layer_limits p.s p.b bytes at₂ (heads_of p.layers) first reads₃ (heads-within p l),
      check_records-accepted p.kind base p.k (heads_of p.layers) bytes first taken,
      eq-eqb p.figure (figure_of (rule_of p.kind) p.s p.k p.b (heads_of p.layers)) g.formula,
    )

-- The rows of an accepted placement stand from its first row's place on.
pub rows-stand : (bytes : List ℕ) (file : Located Placement) → read_placement bytes ≡ accepted file
    → (file.first + length (flatten (all_rows file.content.layers)) ≤ length bytes)
    × (take (length (flatten (all_rows file.content.layers))) (drop file.first bytes) ≡ flatten (all_rows file.content.layers))
rows-stand bytes file e = let f = (read-of-placement bytes file.content file.first e).0 in (f.fits, f.rest)

-- Demand 2, with the place of the first row.
pub placement-located-iff : (bytes : List ℕ) (file : Located Placement) → Bytes bytes
    → (read_placement bytes ≡ accepted file) ↔ (PlacementFileAt file bytes × GoodPlacement file.content)
placement-located-iff bytes file h = (to, from)
  where
    to : read_placement bytes ≡ accepted file → PlacementFileAt file bytes × GoodPlacement file.content
    to e =
        let (f, g) = read-of-placement bytes file.content file.first e in
        (read-file_at (placement_numbers file.content) file.content.layers (feeder_numbers file.content.feeders) bytes file.first h f, g)

    from : PlacementFileAt file bytes × GoodPlacement file.content → read_placement bytes ≡ accepted file
    from (is-file, g) =
        placement-accepted bytes file.content file.first
        (file-read_at (placement_numbers file.content) file.content.layers (feeder_numbers file.content.feeders) bytes file.first is-file) g

-- Demand 2: the check accepts exactly the files of placements within limits, with rows in order that name no node out of
-- service and have no two nodes on one feeder, a packing in every layer and the figure of the formula, and its result is that
-- placement.
pub placement-accepted-iff : (bytes : List ℕ) (p : Placement) → Bytes bytes
    → (check_placement bytes ≡ accepted p) ↔ (PlacementFile p bytes × GoodPlacement p)
unfolding check_placement
placement-accepted-iff bytes p h = (to, from)
  where
    to : check_placement bytes ≡ accepted p → PlacementFile p bytes × GoodPlacement p
    to e =
        let (file, read, same) = map_accepted-accepted (λ file. file.content) (read_placement bytes) e in
        let at : Located Placement = record { content = p; first = file.first } in
        let ((head, tail, forms, forms', whole, len), g) = (placement-located-iff bytes at h).0 (read ∙ (λ i. accepted (record { content = same i; first = file.first }))) in
        ((head, tail, forms, forms', whole), g)

    from : PlacementFile p bytes × GoodPlacement p → check_placement bytes ≡ accepted p
    from ((head, tail, forms, forms', whole), g) =
        rw ((placement-located-iff bytes (record { content = p; first = length head }) h).1 ((head, tail, forms, forms', whole, refl), g)) refl
