-- The cases of checking a placement, step by step, and what the steps ask of each other. Assumes nothing.
use Prim.Native.Nat.{ℕ, ◌≤◌}
use Rattle.std.specs.Prelude.{Result, Ok, IsOk}
use native.Mathlib.Omega.{arith}
use mathlib.Core.Path.{◌≡◌, refl, ◌∙◌, ap, subst}
use mathlib.Core.Bool.{true}
use mathlib.Core.List.{List}
use lib.ListN.{length, take}
use borrow.Author.Tests.{eq-eqb, ne_eqb}
use Rattle.lists.specs.Lists.{All}
use Rattle.lists.proofs.Alls.{all-imp}
use Rattle.refusal.specs.declared.Refusal.{Refusal}
use Rattle.refusal.specs.declared.Refusal.TheVariants.{WrongFigure}
use Rattle.refusal.specs.Checked.{accepted, refused}
use Rattle.layers.specs.Layers.{BaseReading, BaseLimits, sizes, heads_of, head_numbers, read_base, read_layers}
use Rattle.layers.specs.declared.FileKind.TheVariants.{Placement as PlacementKind}
use Rattle.layers.specs.Answers.{dark_of, site_of, DarkFits, layers_read}
use Rattle.layers.specs.declared.Base.{Base}
use Rattle.layers.specs.declared.Dark.{Dark}
use Rattle.layers.specs.declared.LayerHead.{LayerHead}
use Rattle.layers.specs.declared.LayersRead.{LayersRead}
use Rattle.layers.proofs.NumbersRead.{reads-le-length, reads-next}
use Rattle.layers.proofs.Heads.{fit-le, held-of-read_base, read_base-inside, reads-of-read_layers}
use Rattle.layers.proofs.Prefix.{read_base-next, head_numbers-two}
use Rattle.placement.proofs.Records.{taken-of-check_records, taken-heads}
use Rattle.layers.proofs.Answered.{LayersGood, layers-good}
use Rattle.placement.specs.Figure.{rule_of, figure_of}
use Rattle.placement.specs.Placement.{OrderLimits, TermsReading, Rows, placement_layer_limits, placement_of, read_terms, check_records, check_figure, read_placement}
use Rattle.placement.specs.Answers.{table_of, records_check, placement_checked, placement_head}
use Rattle.placement.specs.Asked.{RecordsAsked}
use Rattle.placement.specs.declared.FeederTable.{FeederTable}
use Rattle.placement.specs.declared.PlacementCheck.{PlacementCheck}
use Rattle.placement.specs.declared.PlacementHead.{PlacementHead}
use Rattle.crowding_code.specs.Load.{first_load}
use Rattle.placement_code.specs.Loaded.{Handed}
use Rattle.placement.proofs.Accepted.{term_numbers, order_of, reads-of-read_terms}

-- beside a refusal no load is handed on
pub handed-refused : {s : List ℕ} {check answer : PlacementCheck} {load : ℕ} {e : Refusal} → check ≡ placement_checked (refused e)
    → placement_checked (refused e) ≡ answer → (check ≡ answer) × Handed s check load
handed-refused is why = (
  is ∙ why,
  record { counted = λ head yes fed. absurd (let v = ap (λ c. c.answer) is in let z : ◌≡◌ {A = ℕ} 0 1 = cc in omega arith) },
)

-- what is handed on beside an accepted head
pub handed-on : {s : List ℕ} {load : ℕ} (check : PlacementCheck) (h : PlacementHead) → check.answer ≡ Ok h
    → ((h.kind ≡ 6 → ⊥) → load ≡ first_load h.r check.layers s h.first) → Handed s check load
handed-on {s} {load} check h answer is =
    record {
      counted =
          λ head yes.
          let same : h ≡ head = cc in
          subst (λ (g : PlacementHead). (g.kind ≡ 6 → ⊥) → load ≡ first_load g.r check.layers s g.first) same is;
    }

-- what is known of n, r, s, k and b that were read
pub order-limits : (s : List ℕ) {head : BaseReading} {order : TermsReading} → read_base PlacementKind s ≡ accepted head
    → read_terms head.base s head.next ≡ accepted order
    → BaseLimits head.base.n head.base.r × OrderLimits head.base.n head.base.r (order_of order.terms)
    × (order.next ≤ length s)
order-limits s {head} {order} b o =
    let base = (held-of-read_base PlacementKind s b).limits in
    let (reads, limits) = reads-of-read_terms head.base s head.next o base.n-least in
    (base, limits, reads-le-length (term_numbers order.terms) s head.next order.next (read_base-inside PlacementKind s b) reads)

-- what is known of the layers' numbers that were read
pub numbers-good : (s : List ℕ) {head : BaseReading} {order : TermsReading} → read_base PlacementKind s ≡ accepted head
    → read_terms head.base s head.next ≡ accepted order → {given : Result LayersRead Refusal} {numbers : LayersRead}
    → given ≡ layers_read (read_layers placement_layer_limits order.terms.s order.terms.b s order.next) → given ≡ Ok numbers
    → LayersGood placement_layer_limits order.terms.s order.terms.b s order.next numbers
numbers-good s {order = order} b o is good =
    let (base, limits, inside) = order-limits s b o in
    layers-good placement_layer_limits order.terms.s order.terms.b s order.next is good (omega (arith, limits.s-most, base.r-most))

-- a value is there
pub is-ok : {A : Type 0} {r : Result A Refusal} {a : A} → r ≡ Ok a → IsOk r
is-ok e = rw e refl

module _ (s : List ℕ) where
  pub placement-no-base : {e : Refusal} → read_base PlacementKind s ≡ refused e → placement_checked (refused e) ≡ placement_checked (read_placement s)
  unfolding read_placement
  placement-no-base h = rw h

  module _ {head : BaseReading} (b : read_base PlacementKind s ≡ accepted head) where
    pub no-terms : {e : Refusal} → read_terms head.base s head.next ≡ refused e
        → placement_checked (refused e) ≡ placement_checked (read_placement s)
    unfolding read_placement
    no-terms h = rw (b, h)

    module _ {order : TermsReading} (o : read_terms head.base s head.next ≡ accepted order) where
      pub placement-no-layers : {e : Refusal} → read_layers placement_layer_limits order.terms.s order.terms.b s order.next ≡ refused e
          → placement_checked (refused e) ≡ placement_checked (read_placement s)
      unfolding read_placement
      placement-no-layers h = rw (b, o, h)

      module _ {numbers : LayersRead}
          (l : LayersGood placement_layer_limits order.terms.s order.terms.b s order.next numbers) where
        heads : List LayerHead
        heads = take order.terms.s numbers.heads

        sum-le : sizes heads ≤ order.terms.b
        unfolding heads
        sum-le = fit-le true order.terms.s order.terms.b (sizes heads) l.within.fit

        -- the rows start after at most 259 + 4 + 10 numbers of four bytes
        start-most : numbers.next ≤ 1_092
        unfolding heads
        start-most =
            let (base, limits, inside) = order-limits s b o in
            let at₁ = read_base-next PlacementKind s b in
            let at₂ = reads-next (term_numbers order.terms) s head.next order.next (reads-of-read_terms head.base s head.next o base.n-least).0 in
            let (reads, within) = reads-of-read_layers placement_layer_limits order.terms.s order.terms.b s order.next l.accepts in
            let at₃ = reads-next (head_numbers heads) s order.next numbers.next reads in
            omega (arith, head_numbers-two heads, within.layer-each, limits.s-most, base.r-most)

        -- what checking the rows asks
        pub placement-rows-asked : {coded : Base} → site_of coded ≡ head.base → DarkFits coded.dark
            → RecordsAsked coded order.terms numbers.heads s numbers.next
        unfolding heads
        placement-rows-asked {coded} is dark =
            let (base, limits, inside) = order-limits s b o in
            let n-is : coded.n ≡ head.base.n = ap (λ site. site.n) is in
            let r-is : coded.r ≡ head.base.r = ap (λ site. site.r) is in
            record {
              rows =
                  record {
                    few = omega (arith, limits.s-most);
                    r-most = omega (arith, base.r-most);
                    rows-most = omega (arith, sum-le, limits.b-most);
                    start-most = start-most;
                  };
              inside = l.inside inside;
              dark = dark;
              k-most = omega (arith, limits.k-most);
              r-nodes = omega (arith, base.r-nodes);
              n-most = omega (arith, base.n-most);
            }

        -- what the figure asks
        pub figure-asked : ((order.terms.s ≤ 5) × (order.terms.s ≤ order.terms.k) × (order.terms.k ≤ 255)
            × (sizes (take order.terms.s numbers.heads) ≤ order.terms.b))
            × All (λ head. head.bound ≤ 16_777_216) (take order.terms.s numbers.heads)
        unfolding heads
        figure-asked =
            let (base, limits, inside) = order-limits s b o in (
              (omega (arith, limits.s-most, base.r-most), limits.k-least, omega (arith, limits.k-most, base.n-most), sum-le),
              all-imp _ (λ head. head.bound ≤ 16_777_216) (λ head h. h.1) heads l.within.bounds,
            )

        pub placement-no-rows : {e : Refusal} → check_records head.kind head.base order.terms.k (take order.terms.s numbers.heads) s numbers.next ≡ refused e
            → placement_checked (refused e) ≡ placement_checked (read_placement s)
        unfolding read_placement
        placement-no-rows h = rw (b, o, l.accepts, h)

        module _ {rows : Rows}
            (r : check_records head.kind head.base order.terms.k (take order.terms.s numbers.heads) s numbers.next ≡ accepted rows) {figure : ℕ}
            (is : figure ≡ figure_of (rule_of head.kind) order.terms.s order.terms.k order.terms.b (take order.terms.s numbers.heads)) where
          same-heads : heads_of rows.layers ≡ heads
          unfolding heads
          same-heads =
              taken-heads head.kind head.base order.terms.k heads s numbers.next
              (taken-of-check_records head.kind head.base order.terms.k heads s numbers.next r)

          -- the code's figure is that of the file's layers
          formula : figure ≡ figure_of (rule_of head.kind) order.terms.s order.terms.k order.terms.b (heads_of rows.layers)
          unfolding heads
          formula = is ∙ rw same-heads refl

          pub wrong-figure : (order.terms.figure ≡ figure → ⊥)
              → placement_checked (refused (WrongFigure order.terms.place)) ≡ placement_checked (read_placement s)
          unfolding read_placement check_figure
          wrong-figure h = rw (b, o, l.accepts, r, ← formula, ne_eqb order.terms.figure figure h)

          pub right-figure : order.terms.figure ≡ figure
              → {dark : Dark} → dark ≡ dark_of head.base.dark → {table : FeederTable} → table ≡ table_of rows.feeders
              → ◌≡◌ {A = PlacementCheck}
              (record {
                answer = Ok (placement_head (record { content = placement_of head.kind head.base order.terms rows; first = numbers.next }));
                layers = numbers.heads;
                dark = dark;
                feeders = table;
              })
              (placement_checked (read_placement s))
          unfolding heads read_placement check_figure
          right-figure h array entries =
              rw (b, o, l.accepts, r, ← formula, eq-eqb order.terms.figure figure h, same-heads, ← l.array, array, entries) refl
