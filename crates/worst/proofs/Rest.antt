-- Choosing every node that is left, and leaving them again. Assumes nothing.
use Prim.Native.Nat.{ℕ, suc, ◌+◌, ◌-◌, ◌≤◌, ◌<◌}
use native.Mathlib.Omega.{arith}
use native.Mathlib.Nat.{le_refl}
use native.Mathlib.Numerals.{add-one}
use mathlib.Core.Path.{◌≡◌, refl, sym, ◌∙◌, ap}
use mathlib.Core.Logic.{⊎_elim}
use mathlib.Core.List.{List, [], ◌∷◌, ◌++◌, append-nil, append_assoc}
use lib.ListN.{length, get_or, take, drop, set, length-set, get_or-eq_default}
use lib.Seq.{take-suc, take-suc-set, take-take, take_at, drop_at, length-take-le}
use borrow.Author.Tests.{lt-ltb, le-ltb}
use Rattle.lists.specs.Lists.{over_start}
use Rattle.lists.proofs.Arith.{le-or-lt}
use Rattle.worst.specs.Worst.{lower, through, nodes_from}
use Rattle.worst.specs.Records.{begin, size, on_set, usable_by, Index, HitsOf, few, raised_to, lowered_to, entries_of}
use Rattle.worst.specs.Searches.{Named, Raising, Raised, Lowering, Searching, Searched, RestAsked, RestRaised}
use Rattle.worst.specs.declared.Search.{Search}
use Rattle.worst.specs.declared.Entries.{Entries}
use Rattle.worst.proofs.Through.{at, length-nodes_from, through-all}
use Rattle.worst.proofs.Exact.{nodes_from-snoc}
use Rattle.worst.proofs.Hits.{length-raised, on_set-snoc, few-hits, hits-raised, hits-lowered, entries-inside}

-- the entries of any node
module _ {index : List ℕ} {b : ℕ} (is : Index index b) (v : ℕ) (node : v < 256) where
  pub node-ordered : (257 ≤ length index) × (get_or index v 0 ≤ get_or index (v + 1) 0)
  node-ordered = (is.all-nodes, is.ordered v node)

  -- name records, and the hits have room for them, or hold them
  node-named : (hits : List ℕ) → length hits ≡ b → Named index hits (entries_of index v)
  node-named hits same =
      record {
        inside = omega (arith, is.ordered v node, is.inside v node);
        records = rw same (entries-inside is v node);
      }

  pub node-raising : {entries : Entries} → entries ≡ entries_of index v → (hits nodes : List ℕ) → length hits ≡ b → HitsOf index nodes b hits
      → ((i : ℕ) → on_set index nodes i ≤ 254) → Raising index hits entries
  node-raising e hits nodes same counted most =
      rw e
      (record {
        named = node-named hits same;
        room = λ i. ⊎_elim (λ no. omega (arith, is.once v i node, get_or-eq_default hits 0 {n = i} (rw same no)))
            (λ lt. omega (arith, counted i lt, most i, is.once v i node)) (le-or-lt b i);
      })

  pub node-lowering : {entries : Entries} → entries ≡ entries_of index v → (hits nodes : List ℕ) → length hits ≡ b
      → HitsOf index (nodes ++ (v ∷ [])) b hits → Lowering index hits entries
  node-lowering e hits nodes same counted =
      rw e
      (record {
        named = node-named hits same;
        held = λ i. ⊎_elim (λ no. omega (arith, is.records v i node no))
            (λ lt. omega (arith, counted i lt, on_set-snoc index nodes v i)) (le-or-lt b i);
      })

-- So far the first `place` nodes of the set are chosen, and node v is next.
pub record Choosing (search : Search) (index hits nodes : List ℕ) (place v usable : ℕ) (hits' nodes' : List ℕ) : Type 0 where
  pub least : search.chosen ≤ place
  pub most : place ≤ search.k
  pub next-is : v + search.chosen ≡ search.next.0 + place
  pub chosen-are : take place nodes' ≡ take search.chosen nodes ++ nodes_from search.next.0 (place - search.chosen)
  pub counted : HitsOf index (take place nodes') (length hits) hits'
  pub hits-most : (i : ℕ) → on_set index (take place nodes') i ≤ place
  pub usable-is : usable ≡ few search.s hits'
  pub same-hits : length hits' ≡ length hits
  pub same-nodes : length nodes' ≡ length nodes

module _ {search : Search} {index hits nodes : List ℕ} (pre : RestAsked search index hits nodes) where
  pub choosing-start : Choosing search index hits nodes search.chosen search.next.0 search.usable hits nodes
  unfolding nodes_from
  choosing-start =
      let none : search.chosen - search.chosen ≡ 0 = omega arith in
      record {
        least = le_refl search.chosen;
        most = omega (arith, pre.more);
        next-is = refl;
        chosen-are = rw none (sym (append-nil (take search.chosen nodes)));
        counted = pre.counted;
        hits-most = pre.hits-most;
        usable-is = pre.usable-is ∙ sym (few-hits index (take search.chosen nodes) search.s hits pre.counted);
        same-hits = refl;
        same-nodes = refl;
      }

  module _ {place v usable : ℕ} {hits' nodes' : List ℕ} (c : Choosing search index hits nodes place v usable hits' nodes') where
    pub choosing-node : place < search.k → v < search.n
    choosing-node more = omega (arith, c.next-is, pre.all)

    pub choosing-place : place < search.k → place < length nodes'
    choosing-place more = omega (arith, pre.set_room, c.same-nodes)

    is-index : Index index (length hits')
    is-index = rw c.same-hits pre.is-index

    pub choosing-ordered : place < search.k → (257 ≤ length index) × (get_or index v 0 ≤ get_or index (v + 1) 0)
    choosing-ordered more = node-ordered is-index v (omega (arith, choosing-node more, pre.n-most))

    pub choosing-asks : place < search.k → {entries : Entries} → entries ≡ entries_of index v → Raising index hits' entries
    choosing-asks more e =
        node-raising is-index v (omega (arith, choosing-node more, pre.n-most)) e hits' (take place nodes') refl (rw c.same-hits c.counted)
        (λ i. omega (arith, c.hits-most i, pre.k-most))

    pub choosing-next : place < search.k → {entries : Entries} → entries ≡ entries_of index v → {hits'' : List ℕ} {left : ℕ}
        → Raised search.s index hits' entries hits'' left
        → Choosing search index hits nodes (place + 1) (v + 1) left hits'' (set nodes' place v)
    choosing-next more e {hits''} {left} up =
        let node : v < 256 = omega (arith, choosing-node more, pre.n-most) in
        let raised : hits'' ≡ raised_to index hits' (begin index v) (size index v) =
        up.hits-are ∙ ap (λ (e : Entries). raised_to index hits' e.from e.count) e in
        let long : length hits'' ≡ length hits' = ap length raised ∙ length-raised index hits' (begin index v) (size index v) in
        let taken : take (place + 1) (set nodes' place v) ≡ take place nodes' ++ (v ∷ []) =
        rw (add-one place) (take-suc-set nodes' place v (choosing-place more)) in
        let one : place + 1 - search.chosen ≡ suc (place - search.chosen) = omega (arith, c.least) in
        let here : search.next.0 + (place - search.chosen) ≡ v = omega (arith, c.next-is, c.least) in
        let nodes-are : take (place + 1) (set nodes' place v) ≡ take search.chosen nodes ++ nodes_from search.next.0 (place + 1 - search.chosen) =
        taken ∙ ap (λ l. l ++ (v ∷ [])) c.chosen-are
        ∙ append_assoc (take search.chosen nodes) (nodes_from search.next.0 (place - search.chosen)) (v ∷ [])
        ∙ rw (one, nodes_from-snoc search.next.0 (place - search.chosen), here) refl in
        let counts : HitsOf index (take place nodes' ++ (v ∷ [])) (length hits') (raised_to index hits' (begin index v) (size index v)) =
        hits-raised hits' (take place nodes') is-index v node (rw c.same-hits c.counted) in
        record {
          least = omega (arith, c.least);
          most = more' more;
          next-is = omega (arith, c.next-is);
          chosen-are = nodes-are;
          counted = rw (taken, raised, ← c.same-hits) counts;
          hits-most = λ i. rw (taken, on_set-snoc index (take place nodes') v i) (omega (arith, c.hits-most i, is-index.once v i node));
          usable-is = up.usable-is;
          same-hits = long ∙ c.same-hits;
          same-nodes = length-set nodes' place v ∙ c.same-nodes;
        }
      where
        more' : place < search.k → place + 1 ≤ search.k
        more' h = omega arith

    pub choosing-end : search.k ≤ place → RestRaised search index hits nodes hits' nodes' usable
    choosing-end done =
        let e : place ≡ search.k = omega (arith, c.most) in
        let m : place - search.chosen ≡ search.n - search.next.0 = omega (arith, pre.all, c.least) in
        record {
          whole = ap (λ p. take p nodes') (sym e) ∙ c.chosen-are
              ∙ ap (λ m. take search.chosen nodes ++ nodes_from search.next.0 m) m;
          counted = rw (← e) c.counted;
          usable-is =
              c.usable-is
              ∙ few-hits index (take place nodes') search.s hits' (rw c.same-hits c.counted)
              ∙ rw (c.same-hits, e) refl;
        }

-- from the end of the set down to its first nodes
pub leaving-from : (index nodes hits : List ℕ) (place : ℕ) {b : ℕ} → 0 < place → HitsOf index (take place nodes) b hits
    → HitsOf index (take (place - 1 + 1) nodes) b hits
leaving-from index nodes hits place some counted =
    let e : place - 1 + 1 ≡ place = omega arith in
    rw e counted

pub leaving-next : {index : List ℕ} (b : ℕ) → Index index b → (nodes hits : List ℕ) (place : ℕ) → length hits ≡ b → place < length nodes → get_or nodes place 0 < 256
    → HitsOf index (take (place + 1) nodes) b hits → {entries : Entries} → entries ≡ entries_of index (get_or nodes place 0) → {hits' : List ℕ}
    → hits' ≡ lowered_to index hits entries.from entries.count → HitsOf index (take place nodes) b hits'
leaving-next {index} b is nodes hits place long inside node counted e {hits'} lowered =
    let v = get_or nodes place 0 in
    let taken : take (place + 1) nodes ≡ take place nodes ++ (v ∷ []) = rw (add-one place) (take-suc nodes place 0 inside) in
    let down : hits' ≡ lowered_to index hits (begin index v) (size index v) =
    lowered ∙ ap (λ (e : Entries). lowered_to index hits e.from e.count) e in
    let same : Index index (length hits) = rw long is in
    let counts = hits-lowered hits (take place nodes) same v node (rw (long, ← taken) counted) in
    rw (down, ← long) counts

pub leaving-asks : {index : List ℕ} (b : ℕ) → Index index b → (nodes hits : List ℕ) (place : ℕ) → length hits ≡ b → place < length nodes → get_or nodes place 0 < 256
    → HitsOf index (take (place + 1) nodes) b hits → {entries : Entries} → entries ≡ entries_of index (get_or nodes place 0) → Lowering index hits entries
leaving-asks {index} b is nodes hits place long inside node counted e =
    let v = get_or nodes place 0 in
    let taken : take (place + 1) nodes ≡ take place nodes ++ (v ∷ []) = rw (add-one place) (take-suc nodes place 0 inside) in
    node-lowering is v node e hits (take place nodes) long (rw (← taken) counted)

-- the one set that has them all
module _ {search : Search} {index hits nodes out : List ℕ} (pre : Searching search index hits nodes out)
    (all : search.n - search.next.0 ≡ search.k - search.chosen) where
  pub rest-asked : RestAsked search index hits nodes
  rest-asked =
      record {
        is-index = pre.is-index;
        n-most = pre.n-most;
        all = omega (arith, pre.below, pre.more);
        k-most = pre.k-most;
        more = pre.more;
        set_room = pre.set_room;
        counted = pre.counted;
        hits-most = pre.hits-most;
        usable-is = pre.usable-is;
      }

  module _ {hits' nodes' : List ℕ} {number : ℕ} (up : RestRaised search index hits nodes hits' nodes' number)
      (same-nodes : length nodes' ≡ length nodes) where
    abbrev nodes-all : List ℕ
    nodes-all = take search.chosen nodes ++ nodes_from search.next.0 (search.n - search.next.0)

    number_is : usable_by index search.s (length hits) nodes-all ≡ number
    number_is = sym (up.usable-is ∙ ap (usable_by index search.s (length hits)) up.whole)

    kept : take search.chosen nodes' ≡ take search.chosen nodes
    kept =
        sym (take-take search.chosen search.k nodes' (omega (arith, pre.more)))
        ∙ ap (take search.chosen) up.whole
        ∙ take_at (take search.chosen nodes) (nodes_from search.next.0 (search.n - search.next.0)) search.chosen
        (length-take-le search.chosen nodes (omega (arith, pre.more, pre.set_room)))

    one : through (usable_by index search.s (length hits)) (take search.chosen nodes) (search.k - search.chosen)
        (nodes_from search.next.0 (search.n - search.next.0)) (at search.least (take search.k out))
        ≡ lower number nodes-all (at search.least (take search.k out))
    one =
        through-all (usable_by index search.s (length hits)) (take search.chosen nodes) (search.k - search.chosen)
        (nodes_from search.next.0 (search.n - search.next.0)) (at search.least (take search.k out))
        (length-nodes_from search.next.0 (search.n - search.next.0) ∙ all)
        ∙ ap (λ n. lower n nodes-all (at search.least (take search.k out))) number_is

    pub rest-same : (hits'' : List ℕ) → length hits' ≡ length hits → HitsOf index (take search.chosen nodes') (length hits') hits''
        → search.least ≤ number → Searched search index hits nodes out hits'' nodes' out search.least
    rest-same hits'' same down more =
        record {
          found = one ∙ rw (le-ltb number search.least more) refl;
          rest = refl;
          counted = rw (← kept, ← same) down;
          same_chosen = kept;
        }

    pub rest_lower : (hits'' : List ℕ) → length hits' ≡ length hits → HitsOf index (take search.chosen nodes') (length hits') hits''
        → {out' : List ℕ} → out' ≡ over_start (take search.k nodes') out → number < search.least
        → Searched search index hits nodes out hits'' nodes' out' number
    rest_lower hits'' same down {out'} e less =
        let k = search.k in
        let long : length (take k nodes') ≡ k = length-take-le k nodes' (omega (arith, pre.set_room)) in
        let start : take k out' ≡ nodes-all = ap (take k) e ∙ take_at (take k nodes') (drop (length (take k nodes')) out) k long ∙ up.whole in
        record {
          found = one ∙ rw (lt-ltb number search.least less) (ap (at number) (sym start));
          rest = ap (drop k) e ∙ drop_at (take k nodes') (drop (length (take k nodes')) out) k long ∙ ap (λ m. drop m out) long;
          counted = rw (← kept, ← same) down;
          same_chosen = kept;
        }

-- leaving them again: what is asked
pub rest-counted : {search : Search} {index hits nodes out : List ℕ} → Searching search index hits nodes out
    → {hits' nodes' : List ℕ} {number : ℕ} → RestRaised search index hits nodes hits' nodes' number
    → length hits' ≡ length hits → length nodes' ≡ length nodes
    → Index index (length hits') × ((search.chosen ≤ search.k) × (search.k ≤ length nodes') × HitsOf index (take search.k nodes') (length hits') hits')
rest-counted pre up same-hits same-nodes = (
  rw same-hits pre.is-index,
  (omega (arith, pre.more), omega (arith, pre.set_room), rw same-hits up.counted),
)
