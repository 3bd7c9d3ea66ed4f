-- Rows of feeders: a row without two nodes on one feeder is a row of feeders, in order; refusal 21's test says what document 02 says;
-- replicas on failed feeders are counted through their nodes. Assumes nothing.
use Prim.Native.Nat.{ℕ, ◌<◌}
use native.Mathlib.Omega.{arith}
use mathlib.Core.Path.{◌≡◌, refl, sym, ◌∙◌, ap, subst}
use mathlib.Core.Logic.{◌↔◌, ◌⊎◌, inl, inr}
use mathlib.Core.Bool.{Bool, true, false, not, ◌&&◌}
use mathlib.Core.List.{List, [], ◌∷◌, ◌++◌, map, flatten}
use mathlib.Core.Option.{Option, none, some}
use lib.ListN.{length, get_or, length-map}
use lib.Dec.{T, ltb, ltb→lt, lt→ltb}
use Rattle.lists.specs.Lists.{All, every, first_where}
use Rattle.lists.proofs.Tests.{T_true, true-T, false-T, bool-ext, and_left, and_right, and_both}
use Rattle.lists.proofs.Alls.{all-imp, all_get_d, all_map, every-all, all-every}
use Rattle.lists.proofs.Counts.{count_map, count-congr}
use Rattle.lists.proofs.Finds.{first_where-none, none-first_where, some-first_where}
use Rattle.lists.proofs.Listed.{first_where-some}
use Rattle.packing.specs.Rows.{ascending, is_in_order, Row, member, distinct, first_bad}
use Rattle.packing.specs.Failures.{hits, usable}
use Rattle.packing.proofs.Members.{member-cases, member-here, member-later, distinct_head, distinct_tail, distinct_cons, ascending-distinct, row-distinct}
use Rattle.layers.specs.Layers.{Layer, all_rows, heads_of}
use Rattle.layers.specs.Meaning.{FirstAt}
use Rattle.placement.specs.Feeders.{Feeders, FeederLimits, FeedersFit, Shares, Apart, feeder_of, feeder_row, unit_layers, units_of, shares, first_sharing}
use Rattle.placement.specs.Meaning.{SharedAt}
use Rattle.placement.proofs.Ordered.{count-ordered, length-ordered, all-ordered, distinct-ordered, ascending-ordered}

-- a number of which a member comes
pub record Comes (g : ℕ → ℕ) (u : ℕ) (l : List ℕ) : Type 0 where
  pub from : ℕ
  pub listed : T (member from l)
  pub gives : g from ≡ u

comes-of-member : (g : ℕ → ℕ) (u : ℕ) (l : List ℕ) → T (member u (map g l)) → Comes g u l
unfolding member
comes-of-member g u [] m = absurd m
comes-of-member g u (v ∷ l) m = go (member-cases u (g v) (map g l) m) (comes-of-member g u l)
  where
    go : (u ≡ g v) ⊎ T (member u (map g l)) → (T (member u (map g l)) → Comes g u l) → Comes g u (v ∷ l)
    go (inl e) ih = record { from = v; listed = member-here v v l refl; gives = sym e }
    go (inr n) ih = let c = ih n in record { from = c.from; listed = member-later c.from v l c.listed; gives = c.gives }

member-of-comes : (g : ℕ → ℕ) (v : ℕ) (l : List ℕ) → T (member v l) → T (member (g v) (map g l))
unfolding member
member-of-comes g v [] m = m
member-of-comes g v (w ∷ l) m = go (member-cases v w l m) (member-of-comes g v l)
  where
    go : (v ≡ w) ⊎ T (member v l) → (T (member v l) → T (member (g v) (map g l))) → T (member (g v) (map g (w ∷ l)))
    go (inl e) ih = member-here (g v) (g w) (map g l) (ap g e)
    go (inr n) ih = member-later (g v) (g w) (map g l) (ih n)

module _ (feeders : Feeders) where
  feeder : ℕ → ℕ
  feeder v = feeder_of feeders v

  -- different nodes with different feeders
  apart-of-distinct : (row : List ℕ) → T (distinct (map (feeder_of feeders) row)) → Shares feeders row → ⊥
  unfolding member
  apart-of-distinct [] d h = h.node_in
  apart-of-distinct (v ∷ row) d h =
      go (member-cases h.node v row h.node_in) (member-cases h.other v row h.other-in)
      (apart-of-distinct row (distinct_tail (feeder_of feeders v) (map (feeder_of feeders) row) d))
    where
      head : (w : ℕ) → T (member w row) → feeder_of feeders w ≡ feeder_of feeders v → ⊥
      head w m e =
          distinct_head (feeder_of feeders v) (map (feeder_of feeders) row) d
          (subst (λ u. T (member u (map (feeder_of feeders) row))) e (member-of-comes (feeder_of feeders) w row m))

      go : (h.node ≡ v) ⊎ T (member h.node row) → (h.other ≡ v) ⊎ T (member h.other row) → (Shares feeders row → ⊥) → ⊥
      go (inl a) (inl b) ih = h.two (a ∙ sym b)
      go (inl a) (inr b) ih = head h.other b (sym h.one-feeder ∙ ap (feeder_of feeders) a)
      go (inr a) (inl b) ih = head h.node a (h.one-feeder ∙ ap (feeder_of feeders) b)
      go (inr a) (inr b) ih =
          ih (record { node = h.node; other = h.other; node_in = a; other-in = b; two = h.two; one-feeder = h.one-feeder })

  distinct-of-apart : (row : List ℕ) → T (distinct row) → (Shares feeders row → ⊥) → T (distinct (map (feeder_of feeders) row))
  unfolding distinct
  distinct-of-apart [] d h = tt
  distinct-of-apart (v ∷ row) d h =
      distinct_cons (feeder_of feeders v) (map (feeder_of feeders) row) other
      (distinct-of-apart row (distinct_tail v row d) (λ s. h
      (record {
        node = s.node;
        other = s.other;
        node_in = member-later s.node v row s.node_in;
        other-in = member-later s.other v row s.other-in;
        two = s.two;
        one-feeder = s.one-feeder;
      })))
    where
      other : T (member (feeder_of feeders v) (map (feeder_of feeders) row)) → ⊥
      other m =
          let c = comes-of-member (feeder_of feeders) (feeder_of feeders v) row m in
          h
          (record {
            node = v;
            other = c.from;
            node_in = member-here v v row refl;
            other-in = member-later c.from v row c.listed;
            two = λ same. distinct_head v row d (subst (λ u. T (member u row)) (sym same) c.listed);
            one-feeder = sym c.gives;
          })

  -- "a row with two nodes on one feeder": the test of a row of different nodes
  pub shares-false : (row : List ℕ) → T (distinct row) → (Shares feeders row → ⊥) → shares feeders row ≡ false
  unfolding shares
  shares-false row d h = rw (true-T (distinct (map (feeder_of feeders) row)) (distinct-of-apart row d h)) refl

  pub apart-of-shares : (row : List ℕ) → shares feeders row ≡ false → Shares feeders row → ⊥
  unfolding shares
  apart-of-shares row e h = go (distinct (map (feeder_of feeders) row)) refl
    where
      go : (b : Bool) → distinct (map (feeder_of feeders) row) ≡ b → ⊥
      go true p = apart-of-distinct row (T_true p) h
      go false p = false-T (sym (ap not p) ∙ e) tt

  pub shares-true : (row : List ℕ) → Shares feeders row → shares feeders row ≡ true
  shares-true row h = true-T (shares feeders row) (go (shares feeders row) refl)
    where
      go : (b : Bool) → shares feeders row ≡ b → T (shares feeders row)
      go true e = T_true e
      go false e = absurd (apart-of-shares row e h)

  -- by search through the row
  pub found-sharing : (row : List ℕ) → T (distinct row) → shares feeders row ≡ true → Shares feeders row
  unfolding shares distinct
  found-sharing [] d e = absurd (false-T (sym e) tt)
  found-sharing (v ∷ row) d e =
      go (member (feeder_of feeders v) (map (feeder_of feeders) row)) refl e (found-sharing row (distinct_tail v row d))
    where
      go : (b : Bool) → member (feeder_of feeders v) (map (feeder_of feeders) row) ≡ b
          → not (not b && distinct (map (feeder_of feeders) row)) ≡ true
          → (not (distinct (map (feeder_of feeders) row)) ≡ true → Shares feeders row) → Shares feeders (v ∷ row)
      go true m p ih =
          let c = comes-of-member (feeder_of feeders) (feeder_of feeders v) row (T_true m) in
          record {
            node = v;
            other = c.from;
            node_in = member-here v v row refl;
            other-in = member-later c.from v row c.listed;
            two = λ same. distinct_head v row d (subst (λ u. T (member u row)) (sym same) c.listed);
            one-feeder = sym c.gives;
          }
      go false m p ih =
          let s = ih p in
          record {
            node = s.node;
            other = s.other;
            node_in = member-later s.node v row s.node_in;
            other-in = member-later s.other v row s.other-in;
            two = s.two;
            one-feeder = s.one-feeder;
          }

-- none is found exactly where no row has two nodes on one feeder
pub apart-iff : (feeders : Option Feeders) (rows : List (List ℕ)) → All (λ row. T (distinct row)) rows
    → (first_sharing feeders rows ≡ none) ↔ Apart feeders rows
apart-iff none rows d = (λ e. tt, λ h. refl)
apart-iff (some feeders) rows d = (
  λ e. all-imp (λ row. shares feeders row ≡ false) (λ row. Shares feeders row → ⊥) (λ row f. apart-of-shares feeders row f) rows
      (none-first_where (shares feeders) rows e),
  λ h. first_where-none (shares feeders) rows (quiet rows d h),
)
  where
    quiet : (rows : List (List ℕ)) → All (λ row. T (distinct row)) rows → All (λ row. Shares feeders row → ⊥) rows
        → All (λ row. shares feeders row ≡ false) rows
    quiet [] d h = tt
    quiet (row ∷ rows) d h = (shares-false feeders row d.0 h.0, quiet rows d.1 h.1)

-- refusal 21's row
pub first-sharing-meaning : (feeders : Option Feeders) (rows : List (List ℕ)) (i : ℕ) → All (λ row. T (distinct row)) rows
    → (first_sharing feeders rows ≡ some i) ↔ FirstAt (SharedAt feeders rows) i
first-sharing-meaning none rows i d =
    (λ e. absurd (let z : ◌≡◌ {A = ℕ} 0 1 = cc in omega arith), λ f. absurd f.here)
first-sharing-meaning (some feeders) rows i d = (found, finds)
  where
    found : first_where (shares feeders) rows ≡ some i → FirstAt (SharedAt (some feeders) rows) i
    found e =
        let f = some-first_where (shares feeders) rows [] i e in
        record {
          here = (f.within, found-sharing feeders (get_or rows i []) (all_get_d (λ row. T (distinct row)) rows i [] d f.within) f.passes);
          none_before = λ j lt h. apart-of-shares feeders (get_or rows j []) (f.first j lt) h.1;
        }

    finds : FirstAt (SharedAt (some feeders) rows) i → first_where (shares feeders) rows ≡ some i
    finds f =
        first_where-some (shares feeders) rows [] i
        (record {
          within = f.here.0;
          passes = shares-true feeders (get_or rows i []) f.here.1;
          first = λ j lt.
              let within : j < length rows = omega (arith, f.here.0) in
              shares-false feeders (get_or rows j []) (all_get_d (λ row. T (distinct row)) rows j [] d within)
              (λ h. f.none_before j lt (within, h));
        })

module _ (n r k : ℕ) (feeders : Feeders) (limits : FeederLimits n r k feeders) where
  -- a node's feeder
  feeders-below : (row : List ℕ) → All (λ v. v < n) row → All (λ f. f < feeders.number) (map (feeder_of feeders) row)
  feeders-below row below =
      all_map (λ f. f < feeders.number) (feeder_of feeders) row
      (all-imp (λ v. v < n) (λ v. feeder_of feeders v < feeders.number)
      (λ v h. all_get_d (λ f. f < feeders.number) feeders.each v 0 limits.below (omega (arith, limits.node-each))) row below)

  nodes-below : (row : List ℕ) → T (is_in_order n row) → All (λ v. v < n) row
  nodes-below row t =
      all-imp (λ v. T (ltb v n)) (λ v. v < n) (λ v. ltb→lt v n) row
      (every-all (λ v. ltb v n) row (and_right (ascending 0 row) (every (λ v. ltb v n) row) t))

  every-below : (row : List ℕ) → T (is_in_order n row) → T (every (λ f. ltb f feeders.number) (feeder_row feeders row))
  every-below row t =
      all-every (λ f. ltb f feeders.number) (feeder_row feeders row)
      (all-imp (λ f. f < feeders.number) (λ f. T (ltb f feeders.number)) (λ f. lt→ltb f feeders.number) (feeder_row feeders row)
      (all-ordered (λ f. f < feeders.number) (map (feeder_of feeders) row) (feeders-below row (nodes-below row t))))

  -- its feeders in order are found bad exactly where two nodes are on one
  pub bad-is-sharing : (row : List ℕ) → T (is_in_order n row) → not (is_in_order feeders.number (feeder_row feeders row)) ≡ shares feeders row
  unfolding shares
  bad-is-sharing row t = ap not (bool-ext (is_in_order feeders.number (feeder_row feeders row)) (distinct (map (feeder_of feeders) row)) to from)
    where
      to : T (is_in_order feeders.number (feeder_row feeders row)) → T (distinct (map (feeder_of feeders) row))
      to h =
          subst T (distinct-ordered (map (feeder_of feeders) row))
          (ascending-distinct 0 (feeder_row feeders row) (and_left (ascending 0 (feeder_row feeders row)) _ h))

      from : T (distinct (map (feeder_of feeders) row)) → T (is_in_order feeders.number (feeder_row feeders row))
      from d =
          and_both (ascending 0 (feeder_row feeders row)) (every (λ f. ltb f feeders.number) (feeder_row feeders row))
          (ascending-ordered (map (feeder_of feeders) row) d) (every-below row t)

  -- a row of feeders
  pub feeder-row : (row : List ℕ) → Row n r row → (Shares feeders row → ⊥) → Row feeders.number r (feeder_row feeders row)
  feeder-row row h apart = (
    length-ordered (map (feeder_of feeders) row) ∙ length-map row (feeder_of feeders) ∙ h.0,
    and_both (ascending 0 (feeder_row feeders row)) (every (λ f. ltb f feeders.number) (feeder_row feeders row))
        (ascending-ordered (map (feeder_of feeders) row) (distinct-of-apart feeders row (row-distinct n r row h) apart))
        (every-below row h.1),
  )

  pub feeder-rows : (rows : List (List ℕ)) → All (Row n r) rows → All (λ row. Shares feeders row → ⊥) rows
      → All (Row feeders.number r) (map (feeder_row feeders) rows)
  feeder-rows [] h a = tt
  feeder-rows (row ∷ rows) h a = (feeder-row row h.0 a.0, feeder-rows rows h.1 a.1)

  -- refusal 21's row, by the order of the rows of feeders
  pub first-bad-is-sharing : (rows : List (List ℕ)) → All (λ row. T (is_in_order n row)) rows
      → first_bad feeders.number (map (feeder_row feeders) rows) ≡ first_where (shares feeders) rows
  unfolding first_bad first_where
  first-bad-is-sharing [] h = refl
  first-bad-is-sharing (row ∷ rows) h = rw (bad-is-sharing row h.0, first-bad-is-sharing rows h.1) refl

map-append : {A B : Type 0} (f : A → B) (l m : List A) → map f (l ++ m) ≡ map f l ++ map f m
map-append f [] m = refl
map-append f (a ∷ l) m = ap (λ t. f a ∷ t) (map-append f l m)

-- the rows of the layers of feeders, layer by layer
pub feeder-all_rows : (feeders : Feeders) (layers : List Layer)
    → all_rows (unit_layers (some feeders) layers) ≡ map (feeder_row feeders) (all_rows layers)
unfolding flatten
feeder-all_rows feeders [] = refl
feeder-all_rows feeders (layer ∷ layers) =
    ap (λ l. map (feeder_row feeders) layer.rows ++ l) (feeder-all_rows feeders layers)
    ∙ sym (map-append (feeder_row feeders) layer.rows (all_rows layers))

-- "The packing test and the figure": the layers' numbers are the same
pub unit-heads : (feeders : Option Feeders) (layers : List Layer) → heads_of (unit_layers feeders layers) ≡ heads_of layers
unit-heads none layers = refl
unit-heads (some feeders) [] = refl
unit-heads (some feeders) (layer ∷ layers) =
    rw (length-map layer.rows (feeder_row feeders), unit-heads (some feeders) layers) refl

-- in a placement without two nodes of a row on one feeder the rows of what can fail are rows of that
pub unit-rows : (kind n r k : ℕ) (feeders : Option Feeders) (layers : List Layer) → FeedersFit kind n r k feeders
    → All (Row n r) (all_rows layers) → Apart feeders (all_rows layers)
    → All (Row (units_of n feeders) r) (all_rows (unit_layers feeders layers))
unit-rows kind n r k none layers f rows apart = rows
unit-rows kind n r k (some feeders) layers f rows apart =
    rw (feeder-all_rows feeders layers) (feeder-rows n r k feeders f.1 (all_rows layers) rows apart)

-- replicas on failed feeders are those whose node's feeder is failed
pub hits-feeders : (feeders : Feeders) (failed : ℕ → Bool) (row : List ℕ)
    → hits failed (feeder_row feeders row) ≡ hits (λ v. failed (feeder_of feeders v)) row
hits-feeders feeders failed row =
    count-ordered failed (map (feeder_of feeders) row) ∙ count_map failed (feeder_of feeders) row

pub usable-feeders : (feeders : Feeders) (s : ℕ) (rows : List (List ℕ)) (failed : ℕ → Bool)
    → usable s (map (feeder_row feeders) rows) failed ≡ usable s rows (λ v. failed (feeder_of feeders v))
unfolding usable
usable-feeders feeders s rows failed =
    count_map (λ row. ltb (hits failed row) s) (feeder_row feeders) rows
    ∙ count-congr (λ row. ltb (hits failed (feeder_row feeders row)) s) (λ row. ltb (hits (λ v. failed (feeder_of feeders v)) row) s)
    (λ row. ap (λ h. ltb h s) (hits-feeders feeders failed row)) rows
