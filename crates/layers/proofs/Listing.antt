-- The list of nodes out of service: which numbers are accepted as one, how many nodes and bytes it has, and the code's array
-- for it. Assumes nothing.
use Prim.Native.Nat.{ℕ, zero, suc, ◌+◌, ◌-◌, ◌≤◌, ◌<◌}
use native.Mathlib.Omega.{arith}
use native.Mathlib.Numerals.{add-one}
use mathlib.Core.Path.{◌≡◌, refl, sym, ◌∙◌, ap, subst}
use mathlib.Core.Bool.{Bool, true, false}
use mathlib.Core.List.{List, [], ◌∷◌, ◌++◌, flatten, append_assoc}
use lib.ListN.{length, take, set, replicate, length-append, length-replicate, replicate-append-replicate}
use lib.Seq.{take-append-le, take-set-lt, set_at, take-take, take_all, length-take-le}
use lib.Dec.{T, leb, ltb, le→leb, lt→ltb, ltb→lt}
use borrow.Author.Tests.{ltb-true, ltb-false}
use Rattle.lists.specs.Lists.{All, every}
use Rattle.lists.proofs.Alls.{all-imp, every-all}
use Rattle.lists.proofs.Tests.{and_left, and_right, and_both}
use Rattle.refusal.specs.Checked.{accepted}
use Rattle.refusal.proofs.Checked.{accepted-injective, bind-elim}
use Rattle.number.specs.Numbers.{largest_number, number_bytes, forms_of, read_within}
use Rattle.number.proofs.Laws.{number_bytes-length-one, number_bytes-length-le-two}
use Rattle.number.proofs.Within.{read-of-read_within, read_within-accepted}
use Rattle.packing.specs.Rows.{ascending, is_in_order}
use Rattle.packing.proofs.Members.{ascending-head, ascending-tail}
use Rattle.layers.specs.Layers.{NodesReading, DarkLimits, listed, list_numbers, read_nodes, read_list, read_dark}
use Rattle.layers.specs.Answers.{nodes_array, dark_of, dark_list}
use Rattle.layers.proofs.NumbersRead.{Reads}

-- `left` nodes, strictly ascending from `lo` on and below n
pub record NodesIn (n left lo : ℕ) (nodes : List ℕ) : Type 0 where
  pub number : length nodes ≡ left
  pub ascends : T (ascending lo nodes)
  pub below : T (every (λ v. ltb v n) nodes)

nodes-cons : (n left lo v : ℕ) (nodes : List ℕ) → lo ≤ v → v < n → NodesIn n left (suc v) nodes
    → NodesIn n (suc left) lo (v ∷ nodes)
unfolding ascending every
nodes-cons n left lo v nodes least most rest =
    record {
      number = ap suc rest.number;
      ascends = and_both (leb lo v) (ascending (suc v) nodes) (le→leb lo v least) rest.ascends;
      below = and_both (ltb v n) (every (λ v. ltb v n) nodes) (lt→ltb v n most) rest.below;
    }

-- "their numbers, strictly ascending and below n": accepted exactly where they are read and are so
pub reads-of-read_nodes : (n left lo : ℕ) (s : List ℕ) (at : ℕ) {d : NodesReading} → 1 ≤ n → read_nodes n left lo s at ≡ accepted d
    → Reads d.nodes s at d.next × NodesIn n left lo d.nodes
unfolding read_nodes ascending every
reads-of-read_nodes n zero lo s at some e =
    subst (λ d. Reads d.nodes s at d.next × NodesIn n zero lo d.nodes) (accepted-injective e)
    (refl, record { number = refl; ascends = tt; below = tt })
reads-of-read_nodes n (suc left) lo s at some e =
    bind-elim (read_within lo (n - 1) s at) _ e λ node e₁ r₁.
    bind-elim (read_nodes n left (suc node.value) s node.next) _ r₁ λ rest e₂ r₂.
    let (read, least, most) = read-of-read_within lo (n - 1) s at e₁ in
    let (reads, within) = reads-of-read_nodes n left (suc node.value) s node.next some e₂ in
    subst (λ d. Reads d.nodes s at d.next × NodesIn n (suc left) lo d.nodes) (accepted-injective r₂) (
      (node.next, read, reads),
      nodes-cons n left lo node.value rest.nodes least (omega arith) within,
    )

pub read_nodes-accepted : (n left lo : ℕ) (s : List ℕ) (at : ℕ) (nodes : List ℕ) (next : ℕ) → Reads nodes s at next
    → NodesIn n left lo nodes → read_nodes n left lo s at ≡ accepted (record { nodes = nodes; next = next })
unfolding read_nodes ascending every
read_nodes-accepted n zero lo s at [] next reads w = rw reads
read_nodes-accepted n zero lo s at (v ∷ nodes) next reads w = let e = w.number in absurd (omega arith)
read_nodes-accepted n (suc left) lo s at [] next reads w = let e = w.number in absurd (omega arith)
read_nodes-accepted n (suc left) lo s at (v ∷ nodes) next (mid, read, reads) w =
    let most = ltb→lt v n (and_left (ltb v n) (every (λ v. ltb v n) nodes) w.below) in
    let number = w.number in
    rw (
      read_within-accepted lo (n - 1) s at read (ascending-head lo v nodes w.ascends) (omega arith),
      read_nodes-accepted n left (suc v) s mid nodes next reads
          (record {
            number = omega arith;
            ascends = ascending-tail lo v nodes w.ascends;
            below = and_right (ltb v n) (every (λ v. ltb v n) nodes) w.below;
          }),
    )

-- "below n"
pub dark-below : (n : ℕ) (dark : List ℕ) → T (is_in_order n dark) → All (λ v. v < n) dark
dark-below n dark t =
    all-imp (λ v. T (ltb v n)) (λ v. v < n) (λ v. ltb→lt v n) dark
    (every-all (λ v. ltb v n) dark (and_right (ascending 0 dark) (every (λ v. ltb v n) dark) t))

-- so there are at most n
few-nodes : (lo n : ℕ) (nodes : List ℕ) → lo ≤ n → T (ascending lo nodes) → All (λ v. v < n) nodes → lo + length nodes ≤ n
few-nodes lo n [] h t below = omega arith
few-nodes lo n (v ∷ nodes) h t below =
    let least = ascending-head lo v nodes t in
    let rest = few-nodes (suc v) n nodes below.0 (ascending-tail lo v nodes t) below.1 in
    omega arith

pub dark-count : (n : ℕ) (dark : List ℕ) → T (is_in_order n dark) → length dark ≤ n
dark-count n dark t =
    let few = few-nodes 0 n dark (omega arith) (and_left (ascending 0 dark) (every (λ v. ltb v n) dark) t) (dark-below n dark t) in
    omega arith

-- The list of a file of a kind is accepted exactly where its numbers are read, and it is within its limits.
pub reads-of-read_dark : (kind n : ℕ) (s : List ℕ) (at : ℕ) {d : NodesReading} → 1 ≤ n → read_dark kind n s at ≡ accepted d
    → Reads (list_numbers kind d.nodes) s at d.next × DarkLimits kind n d.nodes
unfolding read_dark read_list list_numbers ascending every
reads-of-read_dark kind n s at {d} some e = go (listed kind) refl
  where
    go : (b : Bool) → listed kind ≡ b → Reads (list_numbers kind d.nodes) s at d.next × DarkLimits kind n d.nodes
    go false is =
        let same = accepted-injective (rw is at e) in
        subst (λ d. Reads (list_numbers kind d.nodes) s at d.next × DarkLimits kind n d.nodes) same
        (rw is refl, record { ordered = tt; unlisted = λ u. refl })
    go true is =
        bind-elim (read_within 0 n s at) _ (rw is at e) λ count e₁ r₁.
        let (read, least, most) = read-of-read_within 0 n s at e₁ in
        let (reads, within) = reads-of-read_nodes n count.value 0 s count.next some r₁ in
        let number = within.number in (
          rw (is, number) (count.next, read, reads),
          record {
            ordered = and_both (ascending 0 d.nodes) (every (λ v. ltb v n) d.nodes) within.ascends within.below;
            unlisted = λ u. absurd (let z : ◌≡◌ {A = ℕ} 0 1 = cc in omega arith);
          },
        )

pub read_dark-accepted : (kind n : ℕ) (s : List ℕ) (at : ℕ) (dark : List ℕ) (next : ℕ) → Reads (list_numbers kind dark) s at next
    → DarkLimits kind n dark → read_dark kind n s at ≡ accepted (record { nodes = dark; next = next })
unfolding read_dark read_list list_numbers
read_dark-accepted kind n s at dark next reads l = go (listed kind) refl
  where
    go : (b : Bool) → listed kind ≡ b → read_dark kind n s at ≡ accepted (record { nodes = dark; next = next })
    go false is =
        let here : at ≡ next = rw is at reads in
        rw (is, here, l.unlisted is)
    go true is =
        let (mid, read, nodes) = rw is at reads in
        let count = dark-count n dark l.ordered in
        rw (
          is,
          read_within-accepted 0 n s at read (omega arith) count,
          read_nodes-accepted n (length dark) 0 s mid dark next nodes
              (record {
                number = refl;
                ascends = and_left (ascending 0 dark) (every (λ v. ltb v n) dark) l.ordered;
                below = and_right (ascending 0 dark) (every (λ v. ltb v n) dark) l.ordered;
              }),
        )

-- Document 02, (h): "448 + b × r": 128 nodes take a byte each and 127 two, and their count at most two.
nodes-bytes : (lo : ℕ) (nodes : List ℕ) → lo ≤ 255 → T (ascending lo nodes) → All (λ v. v < 255) nodes
    → length (forms_of nodes) + lo + (lo - 128) ≤ 382
unfolding flatten
nodes-bytes lo [] h t below = omega arith
nodes-bytes lo (v ∷ nodes) h t below =
    let least = ascending-head lo v nodes t in
    let rest = nodes-bytes (suc v) nodes below.0 (ascending-tail lo v nodes t) below.1 in
    rw (length-append (number_bytes v)) (go least rest (ltb v 128) refl)
  where
    go : lo ≤ v → length (forms_of nodes) + suc v + (suc v - 128) ≤ 382 → (b : Bool) → ltb v 128 ≡ b
        → length (number_bytes v) + length (forms_of nodes) + lo + (lo - 128) ≤ 382
    go least rest true e = omega (arith, ltb-true v 128 e, number_bytes-length-one v (ltb-true v 128 e))
    go least rest false e = omega (arith, ltb-false v 128 e, number_bytes-length-le-two v (omega (arith, below.0)))

module _ (n : ℕ) (dark : List ℕ) (few : n ≤ 255) (ordered : T (is_in_order n dark)) where
  -- in whatever kind of file
  pub list-bytes : (kind : ℕ) → length (forms_of (list_numbers kind dark)) ≤ 384
  unfolding list_numbers flatten
  list-bytes kind = go (listed kind) refl
    where
      go : (b : Bool) → listed kind ≡ b → length (forms_of (list_numbers kind dark)) ≤ 384
      go false is = rw is (omega arith)
      go true is =
          let count = dark-count n dark ordered in
          let below = all-imp (λ v. v < n) (λ v. v < 255) (λ v h. omega arith) dark (dark-below n dark ordered) in
          let nodes = nodes-bytes 0 dark (omega arith) (and_left (ascending 0 dark) (every (λ v. ltb v n) dark) ordered) below in
          rw (is, length-append (number_bytes (length dark))) (omega (arith, number_bytes-length-le-two (length dark) (omega arith)))

  pub list-most : (kind : ℕ) → All (λ v. v ≤ largest_number) (list_numbers kind dark)
  unfolding list_numbers
  list-most kind = go (listed kind) refl
    where
      go : (b : Bool) → listed kind ≡ b → All (λ v. v ≤ largest_number) (list_numbers kind dark)
      go false is = rw is tt
      go true is =
          let count = dark-count n dark ordered in
          rw is (omega arith, all-imp (λ v. v < n) (λ v. v ≤ largest_number) (λ v h. omega arith) dark (dark-below n dark ordered))

-- The code's array of no node.
pub nodes_array-nil : ◌≡◌ {A = List ℕ} (replicate 255 0) (nodes_array [])
unfolding nodes_array
nodes_array-nil = refl

-- The code's array: up to 255 nodes are its first, it has 255 entries, and one node more is stored after them.
pub length-nodes_array : (nodes : List ℕ) → length (nodes_array nodes) ≡ 255
unfolding nodes_array
length-nodes_array nodes =
    length-take-le 255 (nodes ++ replicate 255 0) (omega (arith, length-append nodes (replicate 255 0), length-replicate {A = ℕ} 255 0))

pub dark_list-dark_of : (nodes : List ℕ) → length nodes ≤ 255 → dark_list (dark_of nodes) ≡ nodes
unfolding nodes_array
dark_list-dark_of nodes h =
    take-take (length nodes) 255 (nodes ++ replicate 255 0) h
    ∙ take-append-le (length nodes) nodes (replicate 255 0) (omega arith)
    ∙ take_all (length nodes) nodes (omega arith)

snoc-in : (k : ℕ) (l : List ℕ) (i v : ℕ) → length l ≡ i → i < suc k
    → set (take (suc k) (l ++ replicate (suc k) 0)) i v ≡ take (suc k) ((l ++ (v ∷ [])) ++ replicate (suc k) 0)
snoc-in k l i v e h =
    let long : suc k ≤ length (l ++ (v ∷ replicate k 0)) = omega (arith, length-append l (v ∷ replicate k 0), length-replicate {A = ℕ} k 0) in
    let zeros : ◌≡◌ {A = List ℕ} (replicate k 0 ++ (0 ∷ [])) (replicate (suc k) 0) =
    replicate-append-replicate k 1 0 ∙ ap (λ m. replicate m 0) (add-one k) in
    sym (take-set-lt (suc k) (l ++ replicate (suc k) 0) i v h)
    ∙ ap (take (suc k)) (set_at l 0 (replicate k 0) v i e)
    ∙ sym (take-append-le (suc k) (l ++ (v ∷ replicate k 0)) (0 ∷ []) long)
    ∙ ap (take (suc k))
    (append_assoc l (v ∷ replicate k 0) (0 ∷ [])
    ∙ ap (λ zs. l ++ (v ∷ zs)) zeros
    ∙ sym (append_assoc l (v ∷ []) (replicate (suc k) 0)))

pub nodes_array-snoc : (nodes : List ℕ) (i v : ℕ) → length nodes ≡ i → i < 255
    → set (nodes_array nodes) i v ≡ nodes_array (nodes ++ (v ∷ []))
unfolding nodes_array
nodes_array-snoc nodes i v e h = snoc-in 254 nodes i v e h
