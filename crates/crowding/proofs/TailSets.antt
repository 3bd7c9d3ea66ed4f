-- A set whose least node is v: as many tails hold it as tails after v hold the rest of it. Assumes nothing.
use Prim.Native.Nat.{ℕ, suc, ◌+◌, ◌<◌}
use mathlib.Core.Path.{◌≡◌, refl, sym, ap, subst, ◌∙◌}
use mathlib.Core.Logic.{◌⊎◌, inl, inr}
use mathlib.Core.Bool.{Bool, true, false, cond, ◌&&◌, and-false}
use mathlib.Core.List.{List, [], ◌∷◌}
use native.Mathlib.Nat.{zero-add}
use native.Mathlib.Omega.{arith}
use lib.ListN.{length}
use lib.Dec.{T, leb, eqb}
use borrow.Author.Tests.{eqb-true, eqb-false, leb-false}
use Rattle.lists.specs.Lists.{All, count, every, tally}
use Rattle.lists.proofs.Tests.{T_true, true-T, and_left, cond-elim}
use Rattle.lists.proofs.Counts.{tally-add, add-tally}
use Rattle.packing.specs.Rows.{ascending, member, holds}
use Rattle.packing.proofs.Members.{member-cases, ascending-tail, le-of-member}
use Rattle.crowding.specs.Tails.{Tail, past, leaves, tails_after}
use Rattle.crowding.proofs.Sets.{ascending-mono, subsets-short, same_nodes, holds-cons, count-subsets}

-- ascending nodes from lo on, each a byte
abbrev pub GoodFrom : (lo : ℕ) → List ℕ → Type 0
GoodFrom lo nodes = T (ascending lo nodes) × All (λ v. v < 256) nodes

abbrev pub GoodTails : (lo : ℕ) → List Tail → Type 0
GoodTails lo tails = All (λ t. GoodFrom lo t.nodes) tails

-- the nodes after v are nodes above v
ascending-past : (lo v : ℕ) (nodes : List ℕ) → T (ascending lo nodes) → T (ascending (suc v) (past v nodes))
unfolding past ascending
ascending-past lo v [] a = tt
ascending-past lo v (u ∷ nodes) a =
    let above = ascending-tail lo u nodes a in
    cond-elim (λ l. T (ascending (suc v) l)) (eqb v u)
    (λ e. subst (λ n. T (ascending (suc n) nodes)) (sym (eqb-true v u e)) above)
    (λ e. ascending-past (suc u) v nodes above)

all_past : (P : ℕ → Type 0) (v : ℕ) (nodes : List ℕ) → All P nodes → All P (past v nodes)
unfolding past
all_past P v [] h = tt
all_past P v (u ∷ nodes) h = cond-elim (All P) (eqb v u) (λ e. h.1) (λ e. all_past P v nodes h.1)

-- the tails after v have nodes above v
pub good-after : (lo w v : ℕ) (tails found : List Tail) → GoodTails lo tails
    → GoodTails (suc v) found → GoodTails (suc v) (tails_after w v tails found)
unfolding tails_after
good-after lo w v [] found g h = h
good-after lo w v (t ∷ tails) found g h =
    good-after lo w v tails (cond (leaves w v t.nodes) (record { row = t.row; nodes = past v t.nodes } ∷ found) found) g.1
    (cond-elim (GoodTails (suc v)) (leaves w v t.nodes)
    (λ e. ((ascending-past lo v t.nodes g.0.0, all_past (λ u. u < 256) v t.nodes g.0.1), h)) (λ e. h))

-- a row that has v holds nodes above v where what comes after v holds them
holds-past : (lo v : ℕ) (nodes set : List ℕ) → T (ascending lo nodes) → T (ascending (suc v) set) → T (member v nodes)
    → holds nodes set ≡ holds (past v nodes) set
unfolding past member
holds-past lo v [] set na sa m = absurd m
holds-past lo v (u ∷ nodes) set na sa m = go (eqb v u) refl (holds-past (suc u) v nodes set above sa)
  where
    above : T (ascending (suc u) nodes)
    above = ascending-tail lo u nodes na

    later : (v ≡ u) ⊎ T (member v nodes) → eqb v u ≡ false → T (member v nodes)
    later (inl same) e = absurd (eqb-false v u e same)
    later (inr n) e = n

    go : (b : Bool) → eqb v u ≡ b → (T (member v nodes) → holds nodes set ≡ holds (past v nodes) set)
        → holds (u ∷ nodes) set ≡ holds (cond b nodes (past v nodes)) set
    go true e ih = holds-cons u nodes set (subst (λ n. T (ascending (suc n) set)) (eqb-true v u e) sa)
    go false e ih =
        let n = later (member-cases v u nodes m) e in
        holds-cons u nodes set
        (ascending-mono (suc u) (suc v) set (omega (arith, le-of-member (suc u) nodes above v n)) sa)
        ∙ ih n

-- a row does not hold more nodes than it has
holds-short : (lo mo : ℕ) (nodes set : List ℕ) → T (ascending lo nodes) → T (ascending mo set) → length nodes < length set
    → holds nodes set ≡ false
unfolding count
holds-short lo mo nodes set na sa h =
    go (holds nodes set)
    (sym (count-subsets lo mo nodes set na sa) ∙ ap (count (λ s. same_nodes s set)) (subsets-short (length set) nodes h))
  where
    go : (b : Bool) → tally b 0 ≡ 0 → b ≡ false
    go true e = absurd (omega arith)
    go false e = refl

-- the tail's row number passes the test, and its nodes hold the set
abbrev pub meets : (P : ℕ → Bool) (set : List ℕ) (t : Tail) → Bool
meets P set t = P t.row && holds t.nodes set

module _ (lo w v : ℕ) (set : List ℕ) (size : length set ≡ w) (above : T (ascending (suc v) set)) where
  holds-leaves : (nodes : List ℕ) → T (ascending lo nodes) → leaves w v nodes ≡ true
      → holds nodes (v ∷ set) ≡ holds (past v nodes) set
  unfolding holds every
  holds-leaves nodes a e =
      let m = and_left (member v nodes) (leb w (length (past v nodes))) (T_true e) in
      ap (λ (b : Bool). b && holds nodes set) (true-T (member v nodes) m) ∙ holds-past lo v nodes set a above m

  -- a tail that is left out does not hold the set
  holds-left-out : (nodes : List ℕ) → T (ascending lo nodes) → leaves w v nodes ≡ false → holds nodes (v ∷ set) ≡ false
  unfolding holds every
  holds-left-out nodes a = go (member v nodes) refl
    where
      go : (b : Bool) → member v nodes ≡ b → (b && leb w (length (past v nodes))) ≡ false → (b && holds nodes set) ≡ false
      go true m e =
          holds-past lo v nodes set a above (T_true m)
          ∙ holds-short (suc v) (suc v) (past v nodes) set (ascending-past lo v nodes a) above
          (omega (arith, leb-false w (length (past v nodes)) e))
      go false m e = refl

  module _ (P : ℕ → Bool) where
    count-one : (t : Tail) (found : List Tail) → T (ascending lo t.nodes)
        → count (meets P set) (cond (leaves w v t.nodes) (record { row = t.row; nodes = past v t.nodes } ∷ found) found)
        ≡ tally (meets P (v ∷ set) t) (count (meets P set) found)
    unfolding count
    count-one t found a = go (leaves w v t.nodes) refl
      where
        n : ℕ
        n = count (meets P set) found

        go : (b : Bool) → leaves w v t.nodes ≡ b
            → count (meets P set) (cond b (record { row = t.row; nodes = past v t.nodes } ∷ found) found)
            ≡ tally (P t.row && holds t.nodes (v ∷ set)) n
        go true e = ap (λ (b : Bool). tally (P t.row && b) n) (sym (holds-leaves t.nodes a e))
        go false e =
            ap (λ (b : Bool). tally b n)
            (sym (ap (λ (b : Bool). P t.row && b) (holds-left-out t.nodes a e) ∙ and-false (P t.row)))

    count-onto : (tails found : List Tail) → GoodTails lo tails
        → count (meets P set) (tails_after w v tails found)
        ≡ count (meets P (v ∷ set)) tails + count (meets P set) found
    unfolding tails_after count
    count-onto [] found g = sym (zero-add _)
    count-onto (t ∷ tails) found g =
        count-onto tails (cond (leaves w v t.nodes) (record { row = t.row; nodes = past v t.nodes } ∷ found) found) g.1
        ∙ ap (λ (n : ℕ). count (meets P (v ∷ set)) tails + n) (count-one t found g.0.0)
        ∙ add-tally (meets P (v ∷ set) t) (count (meets P (v ∷ set)) tails) (count (meets P set) found)
        ∙ sym (tally-add (meets P (v ∷ set) t) (count (meets P (v ∷ set)) tails) (count (meets P set) found))

    -- as many tails hold v and the set as tails after v hold the set
    pub count-after : (tails : List Tail) → GoodTails lo tails
        → count (meets P set) (tails_after w v tails []) ≡ count (meets P (v ∷ set)) tails
    unfolding count
    count-after tails g = count-onto tails [] g ∙ omega arith
