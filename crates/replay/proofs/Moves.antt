-- A node goes down or comes up on the board. Assumes nothing.
use Prim.Native.Nat.{ℕ, ◌+◌, ◌≤◌, ◌<◌}
use native.Mathlib.Omega.{arith}
use mathlib.Core.Path.{◌≡◌, refl, sym, ◌∙◌, ap, subst}
use mathlib.Core.Logic.{⊎_elim}
use mathlib.Core.Bool.{Bool, true, false, cond}
use mathlib.Core.List.{List}
use lib.ListN.{length, get_or, set, length-set, get_or-eq_default}
use lib.Dec.{ltb, eqb}
use borrow.Author.Tests.{eq-eqb, ne_eqb}
use Rattle.lists.specs.Lists.{count, up_to}
use Rattle.lists.proofs.Arith.{le-or-lt}
use Rattle.lists.proofs.CountUpTo.{count-up_to-congr, count-get_d}
use Rattle.worst.specs.Records.{begin, size, entries_of, on_node, few, raised_to, lowered_to}
use Rattle.worst.specs.Searches.{Named}
use Rattle.worst.specs.declared.Entries.{Entries}
use Rattle.worst.proofs.Hits.{entries-inside, length-raised, length-lowered, get_d-raised, get_d-lowered}
use Rattle.replay.specs.declared.Progress.{Progress}
use Rattle.replay.specs.Board.{index_of, down_of, hits_of, on_down, value_by, Counting, Raising, Restoring, Hit, Raised, Restored, Moved}
use Rattle.replay.proofs.Parts.{entries-same, length-hits, index-mark, hits-mark, down-mark, index-before, down-before, get_d-index}
use Rattle.replay.proofs.Down.{on_down-congr, on_down-change, on_down-le}

-- usable records by the replicas and by the index
few-value : (index : List ℕ) (s b : ℕ) (down : ℕ → Bool) (hits : List ℕ) → length hits ≡ b
    → ((i : ℕ) → i < b → get_or hits i 0 ≡ on_down index down i 256) → few s hits ≡ value_by index s b down
few-value index s b down hits long h =
    count-get_d (λ a. ltb a s) 0 hits
    ∙ ap (λ n. count (λ i. ltb (get_or hits i 0) s) (up_to n)) long
    ∙ count-up_to-congr (λ i. ltb (get_or hits i 0) s) (λ i. ltb (on_down index down i 256) s) b (λ i lt. ap (λ n. ltb n s) (h i lt))

module _ (p : Progress) (board : List ℕ) (v : ℕ) (long : length board ≡ 25_089) (node : v < 255) (c : Counting p board) where
  abbrev index : List ℕ
  index = index_of board

  -- where the records on the node begin does not pass where they end
  pub entries-ordered : get_or board v 0 ≤ get_or board (v + 1) 0
  entries-ordered =
      rw (get_d-index board v (omega arith), get_d-index board (v + 1) (omega arith)) at (c.is-index.ordered v (omega arith))

  pub usable-few : p.usable ≡ few p.s (hits_of board p.b)
  usable-few =
      c.usable-is
      ∙ sym (few-value (index_of board) p.s p.b (down_of board) (hits_of board p.b) (length-hits board long p.b c.b-most) c.counted)

  names : Named (index_of board) (hits_of board p.b) (entries_of (index_of board) v)
  names =
      record {
        inside = omega (arith, c.is-index.ordered v (omega arith), c.is-index.inside v (omega arith));
        records = λ q lt.
            omega (arith, entries-inside c.is-index v (omega arith) q lt, length-hits board long p.b c.b-most);
      }

  -- a mark changed: the index, the replicas and so the entries are as they were
  module _ (m : ℕ) where
    abbrev marked : List ℕ
    marked = set board (20_737 + v) m

    pub marked-long : length (set board (20_737 + v) m) ≡ 25_089
    marked-long = length-set board (20_737 + v) m ∙ long

    pub marked-ordered : get_or (set board (20_737 + v) m) v 0 ≤ get_or (set board (20_737 + v) m) (v + 1) 0
    marked-ordered =
        let e = index-mark board v m (omega arith) in
        let same : (q : ℕ) → q < 20_737 → get_or (set board (20_737 + v) m) q 0 ≡ get_or board q 0 = λ q lt.
        sym (get_d-index (set board (20_737 + v) m) q lt) ∙ ap (λ l. get_or l q 0) e ∙ get_d-index board q lt in
        rw (same v (omega arith), same (v + 1) (omega arith)) entries-ordered

    pub marked-entries : entries_of (set board (20_737 + v) m) v ≡ entries_of (index_of board) v
    marked-entries =
        entries-same (set board (20_737 + v) m) v (omega arith) ∙ ap (λ l. entries_of l v) (index-mark board v m (omega arith))

    pub marked-usable : p.usable ≡ few p.s (hits_of (set board (20_737 + v) m) p.b)
    marked-usable = usable-few ∙ ap (few p.s) (sym (hits-mark board v m (omega arith) p.b))

  -- a record's replicas
  hits_at : (i : ℕ) → (get_or (hits_of board p.b) i 0 ≤ 256) × (p.b ≤ i → get_or (hits_of board p.b) i 0 ≡ 0)
  hits_at i = ⊎_elim inside outside (le-or-lt (i + 1) p.b)
    where
      past : p.b ≤ i → get_or (hits_of board p.b) i 0 ≡ 0
      past h = get_or-eq_default (hits_of board p.b) 0 {n = i} (omega (arith, length-hits board long p.b c.b-most))

      inside : i + 1 ≤ p.b → (get_or (hits_of board p.b) i 0 ≤ 256) × (p.b ≤ i → get_or (hits_of board p.b) i 0 ≡ 0)
      inside h =
          let e = c.counted i (omega arith) in
          (omega (arith, on_down-le (index_of board) i c.is-index (down_of board) 256 (omega arith)), past)

      outside : p.b < i + 1 → (get_or (hits_of board p.b) i 0 ≤ 256) × (p.b ≤ i → get_or (hits_of board p.b) i 0 ≡ 0)
      outside h = (omega (arith, past (omega arith)), past)

  -- what the node's new mark says
  down-new : (m : ℕ) (d : Bool) → ltb 0 m ≡ d → (w : ℕ) → down_of (set board (20_737 + v) m) w ≡ cond (eqb w v) d (down_of board w)
  down-new m d e w = down-mark board v m (omega arith) long w ∙ ap (λ t. cond (eqb w v) t (down_of board w)) e

  -- the replicas have become those of the new marks
  module _ (m : ℕ) (d : Bool) (mark : ltb 0 m ≡ d) (hits board' : List ℕ) (left : ℕ) (same : length board' ≡ 25_089)
      (hit : Hit p.s p.b (set board (20_737 + v) m) hits board' left) (size_is : length hits ≡ p.b)
      (counts : (i : ℕ) → i < p.b → get_or hits i 0 ≡ on_down (index_of board) (λ w. cond (eqb w v) d (down_of board w)) i 256) where
    down-now : (w : ℕ) → down_of board' w ≡ cond (eqb w v) d (down_of board w)
    down-now w = down-before (set board (20_737 + v) m) board' hit.before w ∙ down-new m d mark w

    counts-now : (i : ℕ) → i < p.b → get_or hits i 0 ≡ on_down (index_of board) (down_of board') i 256
    counts-now i lt =
        counts i lt ∙ sym (on_down-congr (index_of board) i (down_of board') (λ w. cond (eqb w v) d (down_of board w)) 256 (λ w less. down-now w))

    moved : Moved p board v d board' left
    moved =
        record {
          long = same;
          same_index = index-before (set board (20_737 + v) m) board' hit.before ∙ index-mark board v m (omega arith);
          down_is = down-now;
          counted = λ i lt. ap (λ l. get_or l i 0) hit.hits-are ∙ counts-now i lt;
          usable-is = hit.left_is ∙ few-value (index_of board) p.s p.b (down_of board') hits size_is counts-now;
        }

  changed-at : (d : Bool) → cond (eqb v v) d (down_of board v) ≡ d
  changed-at d = rw (eq-eqb v v refl) refl

  changed-other : (d : Bool) (w : ℕ) → (w ≡ v → ⊥) → cond (eqb w v) d (down_of board w) ≡ down_of board w
  changed-other d w apart = rw (ne_eqb w v apart) refl

  -- it was up and goes down
  module _ (up : down_of board v ≡ false) where
    pub raising : {entries : Entries} → entries ≡ entries_of (set board (20_737 + v) 1) v → Raising (set board (20_737 + v) 1) p.b entries
    raising is =
        rw (is ∙ marked-entries 1)
        (record {
          named = rw (index-mark board v 1 (omega arith), hits-mark board v 1 (omega arith) p.b) names;
          room = λ i.
              rw (index-mark board v 1 (omega arith), hits-mark board v 1 (omega arith) p.b)
              (omega (arith, (hits_at i).0, c.is-index.once v i (omega arith)));
        })

    pub moved_down : {entries : Entries} (board' : List ℕ) (left : ℕ) → entries ≡ entries_of (set board (20_737 + v) 1) v → length board' ≡ 25_089
        → Raised p.s p.b (set board (20_737 + v) 1) entries board' left
        → Moved p board v true board' left
    moved_down board' left is same hit =
        moved 1 true refl (raised_to (index_of board) (hits_of board p.b) (begin (index_of board) v) (size (index_of board) v)) board' left same (subst (λ hits. Hit p.s p.b (set board (20_737 + v) 1) hits board' left)
        (λ k. raised_to (index-mark board v 1 (omega arith) k) (hits-mark board v 1 (omega arith) p.b k) ((is ∙ marked-entries 1) k).from ((is ∙ marked-entries 1) k).count) hit)
        (length-raised (index_of board) (hits_of board p.b) (begin (index_of board) v) (size (index_of board) v) ∙ length-hits board long p.b c.b-most)
        (λ i lt.
        get_d-raised (index_of board) (hits_of board p.b) (begin (index_of board) v) (size (index_of board) v) names.records i
        ∙ ap (λ n. n + on_node (index_of board) v i) (c.counted i lt)
        ∙ sym (on_down-change (index_of board) i (λ w. cond (eqb w v) true (down_of board w)) (down_of board) v (changed-at true) up (changed-other true) 256 (omega arith)))

  -- it was down and comes up
  module _ (is_down : down_of board v ≡ true) where
    less : (i : ℕ) → on_down (index_of board) (down_of board) i 256
        ≡ on_down (index_of board) (λ w. cond (eqb w v) false (down_of board w)) i 256 + on_node (index_of board) v i
    less i =
        on_down-change (index_of board) i (down_of board) (λ w. cond (eqb w v) false (down_of board w)) v is_down (changed-at false)
        (λ w apart. sym (changed-other false w apart)) 256 (omega arith)

    held : (i : ℕ) → on_node (index_of board) v i ≤ get_or (hits_of board p.b) i 0
    held i =
        ⊎_elim (λ h. omega (arith, c.counted i (omega arith), less i))
        (λ h. omega (arith, c.is-index.records v i (omega arith) (omega arith)))
        (le-or-lt (i + 1) p.b)

    pub restoring : {entries : Entries} → entries ≡ entries_of (set board (20_737 + v) 0) v → Restoring (set board (20_737 + v) 0) p.b entries
    restoring is =
        rw (is ∙ marked-entries 0)
        (record {
          named = rw (index-mark board v 0 (omega arith), hits-mark board v 0 (omega arith) p.b) names;
          held = λ i. rw (index-mark board v 0 (omega arith), hits-mark board v 0 (omega arith) p.b) (held i);
        })

    pub moved_up : {entries : Entries} (board' : List ℕ) (left : ℕ) → entries ≡ entries_of (set board (20_737 + v) 0) v → length board' ≡ 25_089
        → Restored p.s p.b (set board (20_737 + v) 0) entries board' left
        → Moved p board v false board' left
    moved_up board' left is same hit =
        moved 0 false refl (lowered_to (index_of board) (hits_of board p.b) (begin (index_of board) v) (size (index_of board) v)) board' left same (subst (λ hits. Hit p.s p.b (set board (20_737 + v) 0) hits board' left)
        (λ k. lowered_to (index-mark board v 0 (omega arith) k) (hits-mark board v 0 (omega arith) p.b k) ((is ∙ marked-entries 0) k).from ((is ∙ marked-entries 0) k).count) hit)
        (length-lowered (index_of board) (hits_of board p.b) (begin (index_of board) v) (size (index_of board) v) ∙ length-hits board long p.b c.b-most)
        (λ i lt.
        omega (
          arith,
          get_d-lowered (index_of board) (hits_of board p.b) (begin (index_of board) v) (size (index_of board) v) names.records i (held i),
          c.counted i lt,
          less i,
        ))

pub moved_as : {p : Progress} {board : List ℕ} {v : ℕ} {d other : Bool} {board' : List ℕ} {left : ℕ} → d ≡ other → Moved p board v d board' left
    → Moved p board v other board' left
moved_as {p} {board} {v} {d} {other} {board'} {left} e m = subst (λ t. Moved p board v t board' left) e m
