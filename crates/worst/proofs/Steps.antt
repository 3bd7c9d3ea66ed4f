-- A search, step by step: each way in which a step ends, from what the functions that it calls give. Assumes nothing.
use Prim.Native.Nat.{ℕ, ◌+◌, ◌-◌, ◌≤◌, ◌<◌}
use native.Mathlib.Omega.{arith}
use native.Mathlib.Nat.{le_refl, eq-or-lt_of_le}
use native.Mathlib.Numerals.{add-one}
use mathlib.Core.Path.{◌≡◌, refl, sym, ◌∙◌, ap}
use mathlib.Core.Logic.{⊎_elim}
use mathlib.Core.List.{List, [], ◌∷◌, ◌++◌}
use lib.ListN.{length, get_or, take, drop, set, length-set, get_or-eq_default}
use lib.Seq.{take-take, take_at, drop_at, length-take-le, take-set-le, take-suc-set}
use borrow.Author.Tests.{lt-ltb, le-ltb}
use Rattle.lists.specs.Lists.{over_start}
use Rattle.lists.proofs.Arith.{le-or-lt}
use Rattle.worst.specs.Worst.{through, nodes_from}
use Rattle.worst.specs.Records.{begin, size, usable_by, Index, HitsOf, few, raised_to, lowered_to, lost_to, entries_of}
use Rattle.worst.specs.Searches.{Named, Raising, Raised, Lowering, Searching, LastChosen, NextChosen, Searched}
use Rattle.worst.specs.declared.Search.{Search}
use Rattle.worst.specs.declared.Entries.{Entries}
use Rattle.worst.proofs.Through.{at, length-nodes_from, through-none, through-step}
use Rattle.worst.proofs.Hits.{length-raised, on_set-snoc, few-hits, hits-raised, hits-lowered, usable-lost, node-entries}

-- the search after the next node is left, and after it is chosen
abbrev pub left : (search : Search) (least : ℕ) → Search
left search least =
    record {
      n = search.n;
      k = search.k;
      s = search.s;
      next = record { 0 = search.next.0 + 1 };
      chosen = search.chosen;
      usable = search.usable;
      least = least;
    }

abbrev pub with : (search : Search) (usable : ℕ) → Search
with search usable =
    record {
      n = search.n;
      k = search.k;
      s = search.s;
      next = record { 0 = search.next.0 + 1 };
      chosen = search.chosen + 1;
      usable = usable;
      least = search.least;
    }

module _ {search : Search} {index hits nodes out : List ℕ} (pre : Searching search index hits nodes out) where
  abbrev value : List ℕ → ℕ
  value = usable_by index search.s (length hits)

  abbrev v : ℕ
  v = search.next.0

  abbrev k : ℕ
  k = search.k

  abbrev chosen : List ℕ
  chosen = take search.chosen nodes

  node : search.next.0 < 256
  node = omega (arith, pre.below, pre.n-most)

  -- the entries of the next node
  pub next-ordered : (257 ≤ length index) × (get_or index search.next.0 0 ≤ get_or index (search.next.0 + 1) 0)
  next-ordered = (pre.is-index.all-nodes, pre.is-index.ordered v node)

  -- the node stands after those chosen
  take-chosen : take (search.chosen + 1) (set nodes search.chosen search.next.0) ≡ take search.chosen nodes ++ (search.next.0 ∷ [])
  take-chosen = rw (add-one search.chosen) (take-suc-set nodes search.chosen v (omega (arith, pre.more, pre.set_room)))

  -- what the last node of a set loses
  pub lost-usable : usable_by index search.s (length hits) (take search.chosen nodes ++ (search.next.0 ∷ [])) + lost_to search.s index hits (begin index search.next.0) (size index search.next.0)
      ≡ search.usable
  lost-usable = usable-lost hits chosen pre.is-index v node search.s pre.counted ∙ sym pre.usable-is

  pub lost-le : lost_to search.s index hits (begin index search.next.0) (size index search.next.0) ≤ search.usable
  lost-le = omega (arith, lost-usable)

  module _ (number : ℕ) (is : number ≡ search.usable - lost_to search.s index hits (begin index search.next.0) (size index search.next.0)) (last : search.chosen + 1 ≡ search.k) where
    number_is : usable_by index search.s (length hits) (take search.chosen nodes ++ (search.next.0 ∷ [])) ≡ number
    number_is = omega (arith, lost-usable)

    -- the set is written where it leaves fewer
    pub last-lower : {out' : List ℕ} → out' ≡ over_start (take k (set nodes search.chosen search.next.0)) out → number < search.least
        → LastChosen search index hits nodes out (set nodes search.chosen search.next.0) out' number
    last-lower {out'} e less =
        let whole : take k (set nodes search.chosen v) ≡ chosen ++ (v ∷ []) = rw last at take-chosen in
        let long : length (take k (set nodes search.chosen v)) ≡ k =
        length-take-le k (set nodes search.chosen v) (rw (length-set nodes search.chosen v) pre.set_room) in
        let start : take k out' ≡ chosen ++ (v ∷ []) =
        ap (take k) e ∙ take_at (take k (set nodes search.chosen v)) (drop (length (take k (set nodes search.chosen v))) out) k long ∙ whole in
        record {
          found = rw (number_is, lt-ltb number search.least less) (ap (at number) (sym start));
          rest = ap (drop k) e
              ∙ drop_at (take k (set nodes search.chosen v)) (drop (length (take k (set nodes search.chosen v))) out) k long
              ∙ ap (λ m. drop m out) long;
          same_chosen = take-set-le search.chosen nodes search.chosen v (le_refl search.chosen);
        }

    -- and not where it does not
    pub last-same : search.least ≤ number
        → LastChosen search index hits nodes out (set nodes search.chosen search.next.0) out search.least
    last-same more =
        record {
          found = rw (number_is, le-ltb number search.least more) refl;
          rest = refl;
          same_chosen = take-set-le search.chosen nodes search.chosen v (le_refl search.chosen);
        }

  -- the next node was the last one of a set
  pub chosen_last : {nodes' out' : List ℕ} {least : ℕ} → LastChosen search index hits nodes out nodes' out' least
      → search.chosen + 1 ≡ search.k → NextChosen search index hits nodes out hits nodes' out' least
  unfolding through
  chosen_last l last =
      let none : k - (search.chosen + 1) ≡ 0 = omega arith in
      record { found = rw none l.found; rest = l.rest; counted = pre.counted; same_chosen = l.same_chosen }

  -- choosing it: what is asked of the hits, and of the search for the other nodes
  entries-named : (hits'' : List ℕ) → length hits'' ≡ length hits → Named index hits'' (entries_of index search.next.0)
  entries-named hits'' same = node-entries (rw same pre.is-index) v node refl

  pub to-lose : {entries : Entries} → entries ≡ entries_of index search.next.0 → Named index hits entries
  to-lose e = rw e (entries-named hits refl)

  -- what holds below the number of records holds of every number: there are no others
  each : (i : ℕ) {P : Type 0} → (i < length hits → P) → (length hits ≤ i → P) → P
  each i below above = ⊎_elim above below (le-or-lt (length hits) i)

  pub to-raise : {entries : Entries} → entries ≡ entries_of index search.next.0 → Raising index hits entries
  to-raise e =
      rw e
      (record {
        named = entries-named hits refl;
        room = λ i. each i
            (λ lt. omega (arith, pre.counted i lt, pre.hits-most i, pre.is-index.once v i node, pre.more, pre.k-most))
            (λ no. omega (arith, pre.is-index.once v i node, get_or-eq_default hits 0 no));
      })

  pub usable-few : search.usable ≡ few search.s hits
  usable-few = pre.usable-is ∙ sym (few-hits index chosen search.s hits pre.counted)

  module _ {entries : Entries} (these : entries ≡ entries_of index search.next.0) {hits' : List ℕ} {usable : ℕ}
      (up : Raised search.s index hits entries hits' usable) where
    raised_is : hits' ≡ raised_to index hits (begin index search.next.0) (size index search.next.0)
    raised_is = up.hits-are ∙ ap (λ (e : Entries). raised_to index hits e.from e.count) these

    longs : length hits' ≡ length hits
    longs = ap length raised_is ∙ length-raised index hits (begin index v) (size index v)

    pub to-search : search.chosen + 1 < search.k
        → Searching (with search usable) index hits' (set nodes search.chosen search.next.0) out
    to-search more =
        let counts : HitsOf index (take (search.chosen + 1) (set nodes search.chosen v)) (length hits') hits' =
        rw (take-chosen, longs, raised_is) (hits-raised hits chosen pre.is-index v node pre.counted) in
        record {
          is-index = rw longs pre.is-index;
          below = omega (arith, pre.enough);
          n-most = pre.n-most;
          more = more;
          enough = omega (arith, pre.enough);
          k-most = pre.k-most;
          set_room = rw (length-set nodes search.chosen v) pre.set_room;
          out-room = pre.out-room;
          counted = counts;
          hits-most = λ i. rw (take-chosen, on_set-snoc index chosen v i) (omega (arith, pre.hits-most i, pre.is-index.once v i node));
          usable-is =
              up.usable-is
              ∙ few-hits index (take (search.chosen + 1) (set nodes search.chosen v)) search.s hits' counts;
        }

    -- and leaving it
    module _ {hits'' nodes'' out'' : List ℕ} {least : ℕ}
        (l : Searched (with search usable) index hits' (set nodes search.chosen search.next.0) out hits'' nodes'' out'' least)
        (same-hits : length hits'' ≡ length hits') where
      counts : HitsOf index (take search.chosen nodes ++ (search.next.0 ∷ [])) (length hits'') hits''
      counts = rw (same-hits, ← take-chosen) l.counted

      pub to-lower : Lowering index hits'' entries
      to-lower =
          rw these
          (record {
            named = entries-named hits'' (same-hits ∙ longs);
            held = λ i. each i
                (λ lt. omega (arith, counts i (omega (arith, same-hits, longs)), on_set-snoc index chosen v i))
                (λ no. omega (arith, pre.is-index.records v i node no));
          })

      pub chosen_more : {last : List ℕ} → last ≡ lowered_to index hits'' entries.from entries.count
          → NextChosen search index hits nodes out last nodes'' out'' least
      chosen_more {last} e =
          let same : length hits'' ≡ length hits = same-hits ∙ longs in
          let index_is : Index index (length hits'') = rw same pre.is-index in
          let lowered = e ∙ ap (λ (e : Entries). lowered_to index hits'' e.from e.count) these in
          record {
            found = rw (longs, take-chosen) at l.found;
            rest = l.rest;
            counted = rw (lowered, ← same) (hits-lowered hits'' chosen index_is v node counts);
            same_chosen =
                sym (take-take search.chosen (search.chosen + 1) nodes'' (omega arith)) ∙ ap (take search.chosen) l.same_chosen
                ∙ take-take search.chosen (search.chosen + 1) (set nodes search.chosen v) (omega arith)
                ∙ take-set-le search.chosen nodes search.chosen v (le_refl search.chosen);
          }

  -- after the sets that have the node, those that do not
  module _ {hits' nodes' out' : List ℕ} {least : ℕ} (h : NextChosen search index hits nodes out hits' nodes' out' least)
      (same-hits : length hits' ≡ length hits) where
    both : through (usable_by index search.s (length hits)) (take search.chosen nodes) (search.k - search.chosen)
        (nodes_from search.next.0 (search.n - search.next.0)) (at search.least (take search.k out))
        ≡ through (usable_by index search.s (length hits)) (take search.chosen nodes) (search.k - search.chosen)
        (nodes_from (search.next.0 + 1) (search.n - (search.next.0 + 1))) (at least (take search.k out'))
    both =
        through-step value chosen k search.chosen search.n v (at search.least (take k out)) pre.more pre.below
        ∙ ap (through value chosen (k - search.chosen) (nodes_from (v + 1) (search.n - (v + 1)))) h.found

    -- there are none where all nodes that are left had to be chosen
    pub all-chosen : search.n - search.next.0 ≡ search.k - search.chosen → Searched search index hits nodes out hits' nodes' out' least
    all-chosen e =
        record {
          found = both
              ∙ through-none value chosen (k - search.chosen) (nodes_from (v + 1) (search.n - (v + 1))) (at least (take k out'))
              (omega (arith, length-nodes_from (v + 1) (search.n - (v + 1)), pre.more));
          rest = h.rest;
          counted = h.counted;
          same_chosen = h.same_chosen;
        }

    pub to-leave : length nodes' ≡ length nodes → length out' ≡ length out → (search.n - search.next.0 ≡ search.k - search.chosen → ⊥)
        → Searching (left search least) index hits' nodes' out'
    to-leave same-nodes same_out other =
        let room : search.k + search.next.0 < search.n + search.chosen = spare other in
        record {
          is-index = rw (same-hits) pre.is-index;
          below = omega (arith, pre.more);
          n-most = pre.n-most;
          more = pre.more;
          enough = omega arith;
          k-most = pre.k-most;
          set_room = omega (arith, pre.set_room);
          out-room = omega (arith, pre.out-room);
          counted = rw (h.same_chosen, same-hits) h.counted;
          hits-most = rw h.same_chosen pre.hits-most;
          usable-is = rw (h.same_chosen, same-hits) pre.usable-is;
        }
      where
        spare : (search.n - search.next.0 ≡ search.k - search.chosen → ⊥) → search.k + search.next.0 < search.n + search.chosen
        spare other =
            ⊎_elim (λ e. absurd (other (omega (arith, pre.more, pre.below)))) (λ lt. lt) (eq-or-lt_of_le pre.enough)

    pub left-searched : {hits'' nodes'' out'' : List ℕ} {fewest : ℕ} → Searched (left search least) index hits' nodes' out' hits'' nodes'' out'' fewest
        → Searched search index hits nodes out hits'' nodes'' out'' fewest
    left-searched l =
        record {
          found = both ∙ (rw (h.same_chosen, same-hits) at l.found);
          rest = l.rest ∙ h.rest;
          counted = rw (h.same_chosen, same-hits) at l.counted;
          same_chosen = l.same_chosen ∙ h.same_chosen;
        }
