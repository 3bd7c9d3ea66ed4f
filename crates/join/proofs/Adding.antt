-- A list of nodes added to another in an array, and three lists joined so. Assumes nothing.
use Prim.Native.Nat.{ℕ, suc, ◌+◌, ◌≤◌, ◌<◌}
use native.Mathlib.Omega.{arith}
use native.Mathlib.Numerals.{add-one}
use mathlib.Core.Path.{◌≡◌, refl, ◌∙◌, subst}
use mathlib.Core.List.{List, [], ◌∷◌, ◌++◌, map, map-append, append_assoc, append-nil}
use lib.ListN.{length, get_or, take, set, length-set}
use lib.Seq.{take-suc, take-suc-set, get_or-take}
use Rattle.lists.specs.Lists.{All}
use Rattle.lists.proofs.Alls.{all-get_d-default}
use Rattle.layers.specs.Answers.{dark_list}
use Rattle.layers.specs.declared.Dark.{Dark}
use Rattle.join.specs.Estate.{ListsFit, ListJoined}

-- a node of the list is a byte
pub node-most : (nodes : List ℕ) (count i : ℕ) → i < count → All (λ v. v < 256) (take count nodes) → get_or nodes i 0 < 256
node-most nodes count i lt h =
    subst (λ v. v < 256) (get_or-take count nodes i 0 lt) (all-get_d-default (λ v. v < 256) (take count nodes) i 0 (omega arith) h)

-- The first i nodes stand in the array after the first `at` of the list.
pub record Adding (list nodes : List ℕ) (at before count : ℕ) (whole : List ℕ) (i : ℕ) : Type 0 where
  pub within : i ≤ count
  pub long : length whole ≡ 255
  pub added : take (at + i) whole ≡ take at list ++ map (λ v. before + v) (take i nodes)

pub adding-none : (list nodes : List ℕ) (at before count : ℕ) → length list ≡ 255 → Adding list nodes at before count list 0
adding-none list nodes at before count long =
    let none : at + 0 ≡ at = omega arith in
    record { within = omega arith; long = long; added = rw (none, append-nil (take at list)) }

module _ {list nodes : List ℕ} {at before count : ℕ} {whole : List ℕ} {i : ℕ} (w : Adding list nodes at before count whole i) where
  pub adding-next : i < count → at + count ≤ 255 → length nodes ≡ 255
      → Adding list nodes at before count (set whole (at + i) (before + get_or nodes i 0)) (i + 1)
  adding-next turn few long =
      let next : at + (i + 1) ≡ suc (at + i) = omega arith in
      record {
        within = omega arith;
        long = length-set whole (at + i) (before + get_or nodes i 0) ∙ w.long;
        added =
            rw (next, take-suc-set whole (at + i) (before + get_or nodes i 0) (omega (arith, w.long)), w.added, add-one i, take-suc nodes i 0 (omega arith), map-append (λ v. before + v) (take i nodes) (get_or nodes i 0 ∷ []))
            (append_assoc (take at list) (map (λ v. before + v) (take i nodes)) ((before + get_or nodes i 0) ∷ []));
      }

  pub adding-all : count ≤ i → take (at + count) whole ≡ take at list ++ map (λ v. before + v) (take count nodes)
  adding-all done = let all : i ≡ count = omega (arith, w.within) in rw (← all) w.added

-- Three lists: the second added to the first, and the third to both.
module _ {a b c : Dark} {second third : ℕ} (fit : ListsFit a b c second third) where
  module _ (two three : List ℕ)
      (two_is : take (a.count + b.count) two ≡ take a.count a.nodes ++ map (λ v. second + v) (take b.count b.nodes))
      (three-is : take (a.count + b.count + c.count) three
      ≡ take (a.count + b.count) two ++ map (λ v. third + v) (take c.count c.nodes)) where
    pub three-joined : ListJoined a b c second third (record { count = a.count + b.count + c.count; nodes = three })
    three-joined =
        record {
          counted = refl;
          joined =
              three-is
              ∙ rw two_is (append_assoc (dark_list a) (map (λ v. second + v) (dark_list b)) (map (λ v. third + v) (dark_list c)));
        }
