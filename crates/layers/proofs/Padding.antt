-- Request (b): "two files that differ only in such padding are both accepted or both refused". Heads of two files where the
-- same numbers are read, in whatever forms, and then the same bytes stand: each step of reading them agrees. Assumes nothing.
use Prim.Native.Nat.{ℕ, zero, suc, ◌+◌, ◌*◌, ◌-◌, ◌≤◌, ◌<◌, min}
use native.Mathlib.Omega.{arith}
use native.Mathlib.Nat.{zero-add}
use mathlib.Core.Path.{◌≡◌, refl, sym, ◌∙◌, ap}
use mathlib.Core.Bool.{Bool, true, false, cond, ◌&&◌}
use mathlib.Core.List.{List, [], ◌∷◌, ◌++◌}
use lib.ListN.{length, get_or, drop, length-append, length-drop}
use lib.Seq.{drop-append_seam, drop-drop}
use lib.Dec.{leb}
use Rattle.refusal.specs.Checked.{Checked}
use Rattle.refusal.specs.Agree.{Agree, both-accepted, both-refused}
use Rattle.refusal.proofs.Agree.{agree-bind, agree-require}
use Rattle.number.specs.Numbers.{Forms, read_number, read_within}
use Rattle.number.specs.declared.Reading.{Reading}
use Rattle.number.proofs.Alike.{ReadAlike, read_number-alike}
use Rattle.layers.specs.Layers.{LayerHeads, NodesReading, BaseReading, least_size, is_kind, listed, list_numbers, list_size, read_kind, read_nodes, read_list, read_dark, read_base, read_layers}
use Rattle.layers.specs.declared.FileKind.{FileKind}
use Rattle.layers.specs.declared.LayerLimits.{LayerLimits}
use Rattle.layers.proofs.NumbersRead.{Reads, forms-reads}

-- At these places of two files the same numbers are read one after another, and after them the same bytes stand.
pub record Padded (vs s s' : List ℕ) (at at' : ℕ) : Type 0 where
  pub end : ℕ
  pub end' : ℕ
  pub reads : Reads vs s at end
  pub reads' : Reads vs s' at' end'
  pub inside : end ≤ length s
  pub inside' : end' ≤ length s'
  pub same : drop end s ≡ drop end' s'

-- Forms of the same numbers, and the same bytes after them.
pub padded-forms : (vs f f' rest : List ℕ) → Forms vs f → Forms vs f' → Padded vs (f ++ rest) (f' ++ rest) 0 0
padded-forms vs f f' rest h h' =
    record {
      end = length f;
      end' = length f';
      reads = rw zero-add at (forms-reads vs [] f rest h);
      reads' = rw zero-add at (forms-reads vs [] f' rest h');
      inside = omega (arith, length-append f rest);
      inside' = omega (arith, length-append f' rest);
      same = drop-append_seam f rest ∙ sym (drop-append_seam f' rest);
    }

-- where none of the numbers is left, the same bytes stand
pub padded-none : {s s' : List ℕ} {at at' : ℕ} → Padded [] s s' at at' → drop at s ≡ drop at' s'
padded-none p = rw (p.reads, p.reads') p.same

-- What two readings of a number give: the same value, the first of the numbers where there is one, and the numbers after it.
pub record NumberPadded (vs s s' : List ℕ) (n n' : Reading) : Type 0 where
  pub value : n.value ≡ n'.value
  pub first : 0 < length vs → n.value ≡ get_or vs 0 0
  pub after : Padded (drop 1 vs) s s' n.next n'.next

module _ (s s' : List ℕ) where
  pub read_number-padded : (vs : List ℕ) (at at' : ℕ) → Padded vs s s' at at'
      → Agree (NumberPadded vs s s') (read_number s at) (read_number s' at')
  read_number-padded [] at at' p = go (read_number-alike s s' at at' (padded-none p))
    where
      go : {m m' : Checked Reading} → Agree (ReadAlike s s') m m' → Agree (NumberPadded [] s s') m m'
      go (both-refused e) = both-refused e
      go (both-accepted {a = n} {b = n'} r) =
          both-accepted
          (record {
            value = r.value;
            first = λ some. absurd (omega arith);
            after = record {
              end = n.next;
              end' = n'.next;
              reads = refl;
              reads' = refl;
              inside = r.inside;
              inside' = r.inside';
              same = r.same;
            };
          })
  read_number-padded (v ∷ vs) at at' p =
      let (next, read, rest) = p.reads in
      let (next', read', rest') = p.reads' in
      rw
      (read, read')
      (both-accepted
      (record {
        value = refl;
        first = λ some. refl;
        after = record {
          end = p.end;
          end' = p.end';
          reads = rest;
          reads' = rest';
          inside = p.inside;
          inside' = p.inside';
          same = p.same;
        };
      }))

  pub read_within-padded : (lo hi : ℕ) (vs : List ℕ) (at at' : ℕ) → Padded vs s s' at at'
      → Agree (NumberPadded vs s s') (read_within lo hi s at) (read_within lo hi s' at')
  unfolding read_within
  read_within-padded lo hi vs at at' p =
      agree-bind _ _ (read_number-padded vs at at' p) λ n n' r.
      agree-require _ _ _ _ _ _ (ap (λ v. leb lo v && leb v hi) r.value) refl (both-accepted r)

  -- the kind, n and r
  read_kind-padded : (file : FileKind) (vs : List ℕ) → Padded vs s s' 0 0
      → Agree (NumberPadded vs s s') (read_kind file s) (read_kind file s')
  unfolding read_kind
  read_kind-padded file vs p =
      agree-bind _ _ (read_number-padded vs 0 0 p) λ n n' r.
      agree-require _ _ _ _ _ _ (ap (is_kind file) r.value) refl (both-accepted r)

-- What two readings of `taken` nodes give: the same nodes, and the numbers after them.
record NodesPadded (taken : ℕ) (vs s s' : List ℕ) (d d' : NodesReading) : Type 0 where
  nodes : d.nodes ≡ d'.nodes
  number : length d.nodes ≡ taken
  after : Padded (drop taken vs) s s' d.next d'.next

-- What two readings of the list give: the same nodes, as many as the first of the numbers says where there is one.
record ListPadded (kind : ℕ) (vs s s' : List ℕ) (d d' : NodesReading) : Type 0 where
  nodes : d.nodes ≡ d'.nodes
  size : 0 < length vs → length (list_numbers kind d.nodes) ≡ cond (listed kind) (suc (get_or vs 0 0)) 0
  after : Padded (drop (length (list_numbers kind d.nodes)) vs) s s' d.next d'.next

pub agree-imp : {A B : Type 0} {R Q : A → B → Type 0} {m : Checked A} {m' : Checked B} → Agree R m m'
    → ((a : A) (b : B) → R a b → Q a b) → Agree Q m m'
agree-imp (both-accepted {a} {b} r) h = both-accepted (h a b r)
agree-imp (both-refused e) h = both-refused e

drop-one : (taken : ℕ) (vs : List ℕ) → drop taken (drop 1 vs) ≡ drop (suc taken) vs
drop-one zero [] = refl
drop-one (suc taken) [] = refl
drop-one taken (v ∷ vs) = refl

module _ (s s' : List ℕ) where
  read_nodes-padded : (n left lo : ℕ) (vs : List ℕ) (at at' : ℕ) → Padded vs s s' at at'
      → Agree (NodesPadded left vs s s') (read_nodes n left lo s at) (read_nodes n left lo s' at')
  unfolding read_nodes
  read_nodes-padded n zero lo vs at at' p = both-accepted (record { nodes = refl; number = refl; after = p })
  read_nodes-padded n (suc left) lo vs at at' p =
      agree-bind _ _ (read_within-padded s s' lo (n - 1) vs at at' p) λ node node' r₁.
      rw
      r₁.value
      (agree-bind _ _ (read_nodes-padded n left (suc node'.value) (drop 1 vs) node.next node'.next r₁.after)
      λ rest rest' r₂.
      both-accepted
      (record {
        nodes = ap (λ l. node'.value ∷ l) r₂.nodes;
        number = ap suc r₂.number;
        after = rw (← drop-one left vs) r₂.after;
      }))

  read_dark-padded : (kind n : ℕ) (vs : List ℕ) (at at' : ℕ) → Padded vs s s' at at'
      → Agree (ListPadded kind vs s s') (read_dark kind n s at) (read_dark kind n s' at')
  unfolding read_dark read_list list_numbers
  read_dark-padded kind n vs at at' p = go (listed kind) refl
    where
      go : (b : Bool) → listed kind ≡ b → Agree (ListPadded kind vs s s') (read_dark kind n s at) (read_dark kind n s' at')
      go false is =
          let size : length (list_numbers kind []) ≡ cond (listed kind) (suc (get_or vs 0 0)) 0 = rw is refl in
          let after : Padded (drop (length (list_numbers kind [])) vs) s s' at at' = rw is p in
          rw is (both-accepted (record { nodes = refl; size = λ some. size; after = after }))
      go true is =
          rw
          is
          (agree-bind _ _ (read_within-padded s s' 0 n vs at at' p) λ count count' r₁.
          rw
          r₁.value
          (agree-imp (read_nodes-padded n count'.value 0 (drop 1 vs) count.next count'.next r₁.after) λ d d' r₂.
          let numbers : length (list_numbers kind d.nodes) ≡ suc count'.value = rw is (ap suc r₂.number) in
          let test : cond (listed kind) (suc (get_or vs 0 0)) 0 ≡ suc (get_or vs 0 0) = rw is refl in
          record {
            nodes = r₂.nodes;
            size = λ some. numbers ∙ ap suc (sym r₁.value ∙ r₁.first some) ∙ sym test;
            after = rw (numbers, ← drop-one count'.value vs) r₂.after;
          }))

-- What two readings of the kind, n, r and the list give.
pub record BasePadded (vs s s' : List ℕ) (b b' : BaseReading) : Type 0 where
  pub kind : b.kind ≡ b'.kind
  pub base : b.base ≡ b'.base
  pub third : 2 < length vs → b.base.r ≡ get_or vs 2 0
  pub size : 3 < length vs → length (list_numbers b.kind b.base.dark) ≡ list_size vs
  pub after : Padded (drop (3 + length (list_numbers b.kind b.base.dark)) vs) s s' b.next b'.next

-- What two readings of the layers' numbers give: none of the same numbers is left.
pub record HeadsPadded (s s' : List ℕ) (h h' : LayerHeads) : Type 0 where
  pub heads : h.heads ≡ h'.heads
  pub after : Padded [] s s' h.next h'.next

-- the third of the numbers, as the first of those after two
third_of : (vs : List ℕ) {v : ℕ} → (0 < length (drop 1 (drop 1 vs)) → v ≡ get_or (drop 1 (drop 1 vs)) 0 0)
    → 2 < length vs → v ≡ get_or vs 2 0
third_of [] h few = absurd (omega arith)
third_of (a ∷ []) h few = absurd (omega arith)
third_of (a ∷ b ∷ []) h few = absurd (omega arith)
third_of (a ∷ b ∷ c ∷ vs) h few = h (omega arith)

-- how many the list has, by the first and the fourth
size_of : (vs : List ℕ) {kind size : ℕ} → (0 < length vs → kind ≡ get_or vs 0 0)
    → (0 < length (drop 1 (drop 1 (drop 1 vs))) → size ≡ cond (listed kind) (suc (get_or (drop 1 (drop 1 (drop 1 vs))) 0 0)) 0)
    → 3 < length vs → size ≡ list_size vs
size_of [] h k few = absurd (omega arith)
size_of (a ∷ []) h k few = absurd (omega arith)
size_of (a ∷ b ∷ []) h k few = absurd (omega arith)
size_of (a ∷ b ∷ c ∷ []) h k few = absurd (omega arith)
size_of (a ∷ b ∷ c ∷ d ∷ vs) h k few = k (omega arith) ∙ rw (h (omega arith)) refl

after-third : (vs : List ℕ) → drop 1 (drop 1 (drop 1 vs)) ≡ drop 3 vs
after-third [] = refl
after-third (a ∷ []) = refl
after-third (a ∷ b ∷ []) = refl
after-third (a ∷ b ∷ c ∷ vs) = refl

module _ (s s' : List ℕ) where
  pub read_base-padded : (file : FileKind) (vs : List ℕ) → Padded vs s s' 0 0
      → Agree (BasePadded vs s s') (read_base file s) (read_base file s')
  unfolding read_base
  read_base-padded file vs p =
      agree-bind _ _ (read_kind-padded s s' file vs p) λ first first' r₁.
      agree-bind _ _ (read_within-padded s s' 2 255 (drop 1 vs) first.next first'.next r₁.after) λ n n' r₂.
      rw
      r₂.value
      (agree-bind _ _
      (read_within-padded s s' 2 (min 5 n'.value) (drop 1 (drop 1 vs)) n.next n'.next r₂.after) λ r r' r₃.
      rw
      (← r₁.value)
      (agree-bind _ _
      (read_dark-padded s s' first.value n'.value (drop 1 (drop 1 (drop 1 vs))) r.next r'.next r₃.after) λ d d' r₄.
      both-accepted
      (record {
        kind = refl;
        base = λ i. record { n = n'.value; r = r₃.value i; dark = r₄.nodes i };
        third = third_of vs r₃.first;
        size = size_of vs r₁.first r₄.size;
        after = rw (← drop-drop (length (list_numbers first.value d.nodes)) 3 vs, ← after-third vs) r₄.after;
      })))

  -- The layers' numbers, two for each layer.
  pub read_layers-padded : (limits : LayerLimits) (left room : ℕ) (vs : List ℕ) (at at' : ℕ) → length vs ≤ left * 2
      → Padded vs s s' at at'
      → Agree (HeadsPadded s s') (read_layers limits left room s at) (read_layers limits left room s' at')
  unfolding read_layers
  read_layers-padded limits zero room [] at at' few p = both-accepted (record { heads = refl; after = p })
  read_layers-padded limits zero room (v ∷ vs) at at' few p = absurd (omega arith)
  read_layers-padded limits (suc left) room vs at at' few p =
      agree-bind _ _ (read_within-padded s s' limits.lo limits.hi vs at at' p) λ bound bound' r₁.
      agree-bind _ _
      (read_within-padded s s' (least_size limits.full left room) room (drop 1 vs) bound.next bound'.next r₁.after)
      λ size size' r₂.
      rw
      (r₁.value, r₂.value)
      (agree-bind _ _
      (read_layers-padded limits left (room - size'.value) (drop 1 (drop 1 vs)) size.next size'.next
      (rw (length-drop 1 (drop 1 vs), length-drop 1 vs) (omega arith)) r₂.after)
      λ rest rest' r₃.
      both-accepted
      (record {
        heads = ap (λ heads. record { bound = bound'.value; size = size'.value } ∷ heads) r₃.heads;
        after = r₃.after;
      }))
