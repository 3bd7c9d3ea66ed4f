-- The pack that the check of its bytes found, from the numbers of the check's answer. Assumes nothing.
use Prim.Native.Nat.{ℕ, ◌-◌, ◌≤◌}
use Rattle.std.specs.Prelude.{Ok, Err}
use native.Mathlib.Omega.{arith}
use native.Mathlib.Nat.{le_refl}
use mathlib.Core.Path.{◌≡◌, refl, sym, ◌∙◌, ap}
use mathlib.Core.List.{List, [], ◌∷◌, ◌++◌, flatten, append-nil}
use lib.ListN.{length, take, drop, replicate, length-map}
use Rattle.lists.specs.Lists.{All, total}
use Rattle.lists.proofs.Alls.{all_append, all_both, all-get_d-default, all-imp, all_map, all_take, length-flatten}
use Rattle.lists.proofs.Writing.{take-drop-rest}
use Rattle.refusal.specs.declared.Refusal.{Refusal}
use Rattle.refusal.specs.Checked.{Checked, accepted, refused, map_accepted}
use Rattle.layers.specs.Layers.{Layer, Located, sizes, all_rows, head_of, heads_of, layers_at}
use Rattle.layers.specs.Answers.{no_head, five_heads, dark_of, dark_list}
use Rattle.layers.specs.declared.Base.{Base}
use Rattle.layers.specs.declared.Dark.{Dark}
use Rattle.layers.specs.declared.LayerHead.{LayerHead}
use Rattle.layers.proofs.Arrays.{take-five}
use Rattle.layers.proofs.Lengths.{length-all_rows}
use Rattle.layers.proofs.Layouts.{layers_at-flatten}
use Rattle.layers.proofs.Listing.{dark-count, dark_list-dark_of}
use Rattle.pack.specs.Pack.{Pack, GoodPack, read_pack, check_pack}
use Rattle.pack.specs.Answers.{pack_checked}
use Rattle.pack.specs.declared.PackHead.{PackHead}
use Rattle.pack.specs.declared.PackCheck.{PackCheck}
use Rattle.pack.proofs.Accepted.{read-of-pack, blocks-stand}
use Rattle.planner.specs.Writing.{held_pack, PackHeld}

-- what holds of every layer's numbers, and of 0 and 0, holds of the code's five
five-all : (P : LayerHead → Type 0) → P no_head → (heads : List LayerHead) → All P heads → All P (five_heads heads)
five-all P none heads h =
    all_take P 5 (heads ++ replicate 5 no_head) (all_append P heads (replicate 5 no_head) h (none, (none, (none, (none, (none, tt))))))

-- a layer has at most the rows of all layers
sizes-most : (most : ℕ) (layers : List Layer) → sizes (heads_of layers) ≤ most → All (λ layer. length layer.rows ≤ most) layers
unfolding total
sizes-most most [] h = tt
sizes-most most (layer ∷ layers) h = (omega arith, sizes-most most layers (omega arith))

-- the part of the bytes from `at` on, as it is lent
abbrev pub lent_from : List ℕ → ℕ → List ℕ
lent_from bytes at = take (length bytes - at) (drop at bytes)

-- n, r and the list of the check's answer
abbrev pub base_of : PackHead → Dark → Base
base_of head dark = record { n = head.n; r = head.r; dark = dark }

-- the pack, its blocks in the bytes from `first` on, and what planning asks of it
pub record PackFound (bytes : List ℕ) (head : PackHead) (layers : List LayerHead) (dark : Dark) : Type 0 where
  pub found : check_pack bytes ≡ accepted (held_pack (base_of head dark) layers (lent_from bytes head.first))
  pub inside : head.first ≤ length bytes
  pub held : PackHeld (base_of head dark) layers (lent_from bytes head.first)

module _ (bytes : List ℕ) (file : Located Pack) (read : read_pack bytes ≡ accepted file) where
  abbrev p : Pack
  p = file.content

  abbrev base : Base
  base = record { n = p.n; r = p.r; dark = dark_of p.dark }

  abbrev layers : List LayerHead
  layers = five_heads (heads_of p.layers)

  abbrev blocks : List ℕ
  blocks = drop file.first bytes

  good : GoodPack p
  good = (read-of-pack bytes p file.first read).1

  rows-r : All (λ row. length row ≡ p.r) (all_rows p.layers)
  rows-r = all-imp _ _ (λ row h. h.0) (all_rows p.layers) good.rows

  blocks-are : blocks ≡ flatten (all_rows p.layers)
  blocks-are = (blocks-stand bytes file read).1

  heads-are : take p.r layers ≡ heads_of p.layers
  heads-are =
      take-five no_head (heads_of p.layers) p.r (length-map p.layers head_of ∙ good.limits.layer-each) good.limits.base.r-most

  list-is : dark_list (dark_of p.dark) ≡ p.dark
  list-is =
      dark_list-dark_of p.dark (omega (arith, dark-count p.n p.dark good.limits.dark-order, good.limits.base.n-most))

  pack-is : held_pack base layers blocks ≡ p
  pack-is =
      let layers-are : layers_at p.r (take p.r layers) blocks ≡ p.layers =
      rw (heads-are, blocks-are, ← append-nil (flatten (all_rows p.layers))) (layers_at-flatten p.r p.layers [] rows-r)
      in
      λ i. record { n = p.n; r = p.r; dark = list-is i; layers = layers-are i }

  numbers-most : All (λ head. (head.bound ≤ 4_096) × (head.size ≤ 4_096)) (heads_of p.layers)
  numbers-most =
      all_map _ head_of p.layers
      (all_both _ _ p.layers
      (all-imp _ (λ layer. layer.bound ≤ 4_096) (λ layer h. h.1) p.layers good.limits.mu-limits)
      (sizes-most 4_096 p.layers good.limits.blocks-most))

  pack-held : PackHeld base layers blocks
  pack-held =
      record {
        good = rw pack-is good;
        counted = ap length list-is;
        whole = rw (heads-are, blocks-are, length-flatten p.r (all_rows p.layers) rows-r, length-all_rows p.layers) (le_refl _);
        most =
            λ x.
            all-get_d-default _ layers x no_head (omega arith, omega arith)
            (five-all _ (omega arith, omega arith) (heads_of p.layers) numbers-most);
      }

  pack-found : PackFound bytes (record { n = p.n; r = p.r; first = file.first }) layers (dark_of p.dark)
  unfolding check_pack
  pack-found =
      record {
        found = rw (take-drop-rest bytes file.first, read) (ap accepted (sym pack-is));
        inside = (blocks-stand bytes file read).0;
        held = rw (take-drop-rest bytes file.first) pack-held;
      }

-- what the check's answer says
module _ (bytes : List ℕ) {check : PackCheck} (is : check ≡ pack_checked (read_pack bytes)) where
  pub check-refused : {e : Refusal} → check.answer ≡ Err e → check_pack bytes ≡ refused e
  unfolding check_pack
  check-refused {e} a = go (read_pack bytes) (sym a ∙ ap (λ (c : PackCheck). c.answer) is)
    where
      go : (m : Checked (Located Pack)) → Err e ≡ (pack_checked m).answer → map_accepted (λ file. file.content) m ≡ refused e
      go (accepted file) q = cc
      go (refused why) q = cc

  pub check-accepted : {head : PackHead} → check.answer ≡ Ok head → PackFound bytes head check.layers check.dark
  check-accepted {head} a = go (read_pack bytes) refl is
    where
      go : (m : Checked (Located Pack)) → read_pack bytes ≡ m → check ≡ pack_checked m → PackFound bytes head check.layers check.dark
      go (accepted file) read q =
          let answer : Ok head ≡ (pack_checked (accepted file)).answer = sym a ∙ ap (λ (c : PackCheck). c.answer) q in
          let head-is : head ≡ record { n = file.content.n; r = file.content.r; first = file.first } = cc in
          rw (head-is, q) (pack-found bytes file read)
      go (refused why) read q =
          let answer : Ok head ≡ Err why = sym a ∙ ap (λ (c : PackCheck). c.answer) q in
          absurd (let z : ◌≡◌ {A = ℕ} 0 1 = cc in omega arith)
