-- A loop over next nodes, each of which is chosen and then left. Assumes nothing.
use Prim.Native.Nat.{ℕ, ◌+◌, ◌-◌}
use mathlib.Core.Path.{◌≡◌, refl, ◌∙◌}
use mathlib.Core.List.{List}
use lib.ListN.{length}
use Rattle.worst.specs.Searches.{Searching, NextChosen, Searched}
use Rattle.worst.specs.declared.Search.{Search}
use Rattle.worst.proofs.Steps.{all-chosen, to-leave, left-searched}

-- the search from node v on, with what was found before it
abbrev pub moved : (search : Search) (v least : ℕ) → Search
moved search v least =
    record {
      n = search.n;
      k = search.k;
      s = search.s;
      next = record { 0 = v };
      chosen = search.chosen;
      usable = search.usable;
      least = least;
    }

-- what was to be found is what is found from node v on
pub record Going (search : Search) (index hits nodes out : List ℕ) (v least : ℕ) (hits' nodes' out' : List ℕ) : Type 0 where
  pub here : Searching (moved search v least) index hits' nodes' out'
  pub onward : (hits'' nodes'' out'' : List ℕ) (fewest : ℕ)
      → Searched (moved search v least) index hits' nodes' out' hits'' nodes'' out'' fewest
      → Searched search index hits nodes out hits'' nodes'' out'' fewest
  pub same-hits : length hits' ≡ length hits
  pub same-nodes : length nodes' ≡ length nodes
  pub same_out : length out' ≡ length out

pub going_start : {search : Search} {index hits nodes out : List ℕ} → Searching search index hits nodes out
    → Going search index hits nodes out search.next.0 search.least hits nodes out
going_start pre =
    record { here = pre; onward = λ hits'' nodes'' out'' fewest l. l; same-hits = refl; same-nodes = refl; same_out = refl }

module _ {search : Search} {index hits nodes out : List ℕ} {v least : ℕ} {hits' nodes' out' : List ℕ}
    (g : Going search index hits nodes out v least hits' nodes' out') {hits'' nodes'' out'' : List ℕ} {fewest : ℕ}
    (h : NextChosen (moved search v least) index hits' nodes' out' hits'' nodes'' out'' fewest) (same : length hits'' ≡ length hits') where
  -- the node was the last that could be chosen
  pub going_end : search.n - v ≡ search.k - search.chosen → Searched search index hits nodes out hits'' nodes'' out'' fewest
  going_end e = g.onward hits'' nodes'' out'' fewest (all-chosen g.here h same e)

  -- or it is left
  pub going_next : length nodes'' ≡ length nodes' → length out'' ≡ length out' → (search.n - v ≡ search.k - search.chosen → ⊥)
      → Going search index hits nodes out (v + 1) fewest hits'' nodes'' out''
  going_next same-nodes same_out other =
      record {
        here = to-leave g.here h same same-nodes same_out other;
        onward = λ a b c d l. g.onward a b c d (left-searched g.here h same l);
        same-hits = same ∙ g.same-hits;
        same-nodes = same-nodes ∙ g.same-nodes;
        same_out = same_out ∙ g.same_out;
      }
