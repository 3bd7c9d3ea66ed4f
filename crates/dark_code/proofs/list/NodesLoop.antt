-- Reading the nodes' numbers one at a time: what each turn of the loop keeps, and what it answers; and the cases of reading the
-- list. Assumes nothing.
use Prim.Native.Nat.{ℕ, suc, ◌+◌, ◌-◌, ◌≤◌, ◌<◌}
use Rattle.std.specs.Prelude.{Ok}
use native.Mathlib.Omega.{arith}
use native.Mathlib.Numerals.{add-one}
use native.Mathlib.Nat.{sub-zero}
use mathlib.Core.Path.{◌≡◌, refl, sym, ◌∙◌, ap}
use mathlib.Core.Bool.{true, false}
use mathlib.Core.List.{List, [], ◌∷◌, ◌++◌, append_assoc, append-nil}
use lib.ListN.{length, set, replicate, length-append}
use Rattle.refusal.specs.declared.Refusal.{Refusal}
use Rattle.refusal.specs.Checked.{Checked, accepted, refused, ◌>>=◌, map_accepted}
use Rattle.number.specs.Numbers.{read_within}
use Rattle.number.specs.declared.Reading.{Reading}
use Rattle.number.proofs.Within.{read-of-read_within}
use Rattle.layers.specs.Layers.{NodesReading, listed, read_nodes, read_list, read_dark}
use Rattle.layers.specs.Answers.{nodes_array, dark_read}
use Rattle.layers.proofs.Listing.{nodes_array-nil, nodes_array-snoc}

-- what was read before, put in front of what is read from here on
abbrev in_front : List ℕ → Checked NodesReading → Checked NodesReading
in_front nodes m = map_accepted (λ rest. record { nodes = nodes ++ rest.nodes; next = rest.next }) m

in_front-nil : (m : Checked NodesReading) → in_front [] m ≡ m
in_front-nil (accepted rest) = refl
in_front-nil (refused e) = refl

in_front-snoc : (nodes : List ℕ) (v : ℕ) (m : Checked NodesReading)
    → in_front (nodes ++ (v ∷ [])) m ≡ in_front nodes (m >>= λ rest. accepted (record { nodes = v ∷ rest.nodes; next = rest.next }))
in_front-snoc nodes v (accepted rest) = rw (append_assoc nodes (v ∷ []) rest.nodes)
in_front-snoc nodes v (refused e) = refl

-- What each turn keeps: the nodes read so far, in front of what is read from the present place on, are the whole.
pub record NodesTurn (n count : ℕ) (s : List ℕ) (at : ℕ) (nodes : List ℕ) (next least i : ℕ) : Type 0 where
  pub done : List ℕ
  pub number : length done ≡ i
  pub inside : i ≤ count
  pub least-most : least ≤ 255
  pub nodes-are : nodes ≡ nodes_array done
  pub same : in_front done (read_nodes n (count - i) least s next) ≡ read_nodes n count 0 s at

pub nodes-hold : (n count : ℕ) (s : List ℕ) (at : ℕ) → NodesTurn n count s at (replicate 255 0) at 0 0
nodes-hold n count s at =
    record {
      done = [];
      number = refl;
      inside = omega arith;
      least-most = omega arith;
      nodes-are = nodes_array-nil;
      same = rw (sub-zero count) (in_front-nil (read_nodes n count 0 s at));
    }

module _ (n count : ℕ) (s : List ℕ) (at : ℕ) (nodes : List ℕ) (next least i : ℕ) (turn : NodesTurn n count s at nodes next least i) where
  -- the loop ends: what was read is all
  pub nodes-done : count ≤ i
      → Ok (record { dark = record { count = count; nodes = nodes }; next = next }) ≡ dark_read (read_nodes n count 0 s at)
  unfolding read_nodes
  nodes-done h =
      let none : count - i ≡ 0 = omega arith in
      let done = turn.done in
      let number : length done ≡ count = omega (arith, turn.number, turn.inside) in
      let all : read_nodes n count 0 s at ≡ accepted (record { nodes = done; next = next }) =
      sym turn.same ∙ rw (none, append-nil done) in
      rw (all, number, turn.nodes-are)

  module _ (h : i < count) where
    left : count - i ≡ suc (count - i - 1)
    left = omega arith

    one-more : in_front turn.done (read_nodes n (suc (count - i - 1)) least s next) ≡ read_nodes n count 0 s at
    one-more = ap (λ k. in_front turn.done (read_nodes n k least s next)) (sym left) ∙ turn.same

    pub nodes-no-node : {why : Refusal} → read_within least (n - 1) s next ≡ refused why → read_nodes n count 0 s at ≡ refused why
    unfolding read_nodes
    nodes-no-node e = sym one-more ∙ rw e

    module _ {node : Reading} (e : read_within least (n - 1) s next ≡ accepted node) (few : n ≤ 255) where
      pub node-most : node.value ≤ 254
      node-most = omega (arith, read-of-read_within least (n - 1) s next e)

      pub nodes-again : count ≤ 255 → NodesTurn n count s at (set nodes i node.value) node.next (node.value + 1) (i + 1)
      unfolding read_nodes
      nodes-again most =
          let v = node.value in
          let done = turn.done in
          let fewer : count - (i + 1) ≡ count - i - 1 = omega arith in
          let after = read_nodes n (count - i - 1) (suc v) s node.next in
          let here : read_nodes n (suc (count - i - 1)) least s next
          ≡ (after >>= λ rest. accepted (record { nodes = v ∷ rest.nodes; next = rest.next })) = rw e in
          record {
            done = done ++ (v ∷ []);
            number = length-append done (v ∷ []) ∙ omega (arith, turn.number);
            inside = omega arith;
            least-most = omega (arith, node-most);
            nodes-are = rw turn.nodes-are (nodes_array-snoc done i v turn.number (omega arith));
            same = rw (fewer, add-one v) (in_front-snoc done v after ∙ ap (in_front done) (sym here) ∙ one-more);
          }

-- The cases of `read_dark`.
module _ (kind n : ℕ) (s : List ℕ) (at : ℕ) where
  pub dark-none : listed kind ≡ false → read_dark kind n s at ≡ accepted (record { nodes = []; next = at })
  unfolding read_dark
  dark-none is = rw is

  module _ (is : listed kind ≡ true) where
    pub dark-no-count : {e : Refusal} → read_within 0 n s at ≡ refused e → read_dark kind n s at ≡ refused e
    unfolding read_dark read_list
    dark-no-count e = rw (is, e)

    pub dark-counted : {count : Reading} → read_within 0 n s at ≡ accepted count
        → read_dark kind n s at ≡ read_nodes n count.value 0 s count.next
    unfolding read_dark read_list
    dark-counted e = rw (is, e)
