-- Refusals of the list of nodes out of service mean what document 02's request (h) says. Assumes nothing.
use Prim.Native.Nat.{ℕ, zero, suc, ◌-◌}
use native.Mathlib.Omega.{arith}
use mathlib.Core.Path.{◌≡◌, refl, ◌∙◌}
use mathlib.Core.Logic.{◌↔◌, inl, inr}
use mathlib.Core.Bool.{Bool, true, false}
use mathlib.Core.List.{List, ◌∷◌}
use lib.Dec.{T}
use Rattle.lists.proofs.Tests.{true-T}
use Rattle.refusal.specs.declared.Refusal.{Refusal}
use Rattle.refusal.specs.Checked.{Checked, accepted, refused, ◌>>=◌}
use Rattle.refusal.proofs.Checked.{handed_on-refused}
use Rattle.number.specs.Numbers.{read_within}
use Rattle.number.specs.declared.Reading.{Reading}
use Rattle.number.proofs.Meaning.{within-refused-iff}
use Rattle.layers.specs.Layers.{NodesReading, listed, read_nodes, read_list, read_dark}
use Rattle.layers.specs.Meaning.{NodesRefused, ListRefused}

-- what follows a node that was read
abbrev AfterNode : (n left : ℕ) → List ℕ → Refusal → Type 0
AfterNode n left s e =
    (node : Reading) → (read_nodes n left (suc node.value) s node.next ≡ refused e)
    ↔ NodesRefused n left (suc node.value) s node.next e

abbrev node_first : ℕ → NodesReading → NodesReading
node_first v rest = record { nodes = v ∷ rest.nodes; next = rest.next }

pub nodes-refused-iff : (n left lo : ℕ) (s : List ℕ) (at : ℕ) (e : Refusal)
    → (read_nodes n left lo s at ≡ refused e) ↔ NodesRefused n left lo s at e
unfolding read_nodes
nodes-refused-iff n zero lo s at e = (λ p. absurd (let z : ◌≡◌ {A = ℕ} 0 1 = cc in omega arith), λ h. absurd h)
nodes-refused-iff n (suc left) lo s at e =
    let later : AfterNode n left s e = λ node. nodes-refused-iff n left (suc node.value) s node.next e in
    (λ p. to later (read_within lo (n - 1) s at) refl p, from later)
  where
    to : AfterNode n left s e → (m : Checked Reading) → read_within lo (n - 1) s at ≡ m
        → (m >>= λ node. read_nodes n left (suc node.value) s node.next >>= λ rest.
        accepted (node_first node.value rest)) ≡ refused e
        → NodesRefused n (suc left) lo s at e
    to later (accepted node) r q =
        inr (node, r, (later node).0 ((handed_on-refused (read_nodes n left (suc node.value) s node.next) _ e).0 q))
    to later (refused why) r q = inl ((within-refused-iff lo (n - 1) s at e).0 (r ∙ cc))

    from : AfterNode n left s e → NodesRefused n (suc left) lo s at e → read_nodes n (suc left) lo s at ≡ refused e
    from later (inl h) = rw ((within-refused-iff lo (n - 1) s at e).1 h)
    from later (inr (node, r, h)) = rw (r, (later node).1 h)

-- the list of a file of a kind that has one; of another kind none is refused
pub list-refused-iff : (kind n : ℕ) (s : List ℕ) (at : ℕ) (e : Refusal)
    → (read_dark kind n s at ≡ refused e) ↔ (T (listed kind) × ListRefused n s at e)
unfolding read_dark read_list
list-refused-iff kind n s at e = (to (listed kind) refl, from)
  where
    counted : (m : Checked Reading) → read_within 0 n s at ≡ m → (m >>= λ count. read_nodes n count.value 0 s count.next) ≡ refused e
        → ListRefused n s at e
    counted (accepted count) r q = inr (count, r, (nodes-refused-iff n count.value 0 s count.next e).0 q)
    counted (refused why) r q = inl ((within-refused-iff 0 n s at e).0 (r ∙ cc))

    to : (b : Bool) → listed kind ≡ b → read_dark kind n s at ≡ refused e → T (listed kind) × ListRefused n s at e
    to true is p = (rw is tt, counted (read_within 0 n s at) refl (rw is at p))
    to false is p = absurd (let q = rw is at p in let z : ◌≡◌ {A = ℕ} 0 1 = cc in omega arith)

    from : T (listed kind) × ListRefused n s at e → read_dark kind n s at ≡ refused e
    from (is, inl h) = rw (true-T (listed kind) is, (within-refused-iff 0 n s at e).1 h)
    from (is, inr (count, r, h)) = rw (true-T (listed kind) is, r, (nodes-refused-iff n count.value 0 s count.next e).1 h)
