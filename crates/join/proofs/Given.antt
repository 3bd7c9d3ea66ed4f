-- The packs of a call as the code finds them: what a check says of each, one that is not there, and that all are within what the
-- code asks. Assumes nothing.
use Prim.Native.Nat.{ℕ, ◌*◌, ◌≤◌, ◌<◌}
use Rattle.std.specs.Prelude.{Ok, Err}
use native.Mathlib.Omega.{arith}
use native.Mathlib.Nat.{le_refl}
use mathlib.Core.Path.{◌≡◌, refl, sym, ◌∙◌, ap, subst}
use mathlib.Core.Bool.{Bool, true, false}
use mathlib.Core.List.{List, [], ◌∷◌, ◌++◌, flatten, append-nil}
use lib.ListN.{length, get_or, take, drop, replicate, length-map, length-drop, drop_of_length-le}
use lib.Dec.{T}
use Rattle.lists.specs.Lists.{All, every, total}
use Rattle.lists.proofs.Alls.{all_append, all_both, all-flatten, all-get_d-default, all-imp, all_map, all_take, length-flatten}
use Rattle.refusal.specs.declared.Refusal.{Refusal}
use Rattle.refusal.specs.Checked.{Checked, accepted, refused}
use Rattle.refusal.proofs.Checked.{accepted-injective}
use Rattle.layers.specs.Layers.{Layer, Located, blocks_at, sizes, all_rows, head_of, heads_of, layers_at}
use Rattle.layers.specs.Answers.{no_head, five_heads, dark_of, dark_list}
use Rattle.layers.specs.declared.LayerHead.{LayerHead}
use Rattle.layers.proofs.Arrays.{take-five}
use Rattle.packing.specs.Rows.{ascending, is_in_order, rows_at}
use Rattle.layers.proofs.Each.{row_below, head_of-blocks_at}
use Rattle.layers.proofs.Lengths.{length-all_rows}
use Rattle.layers.proofs.Layouts.{heads_of-layers_at, layers_at-flatten, blocks_at-layers_at}
use Rattle.layers.proofs.Listing.{dark-count, dark_list-dark_of}
use Rattle.pack.specs.Pack.{Pack, GoodPack, read_pack}
use Rattle.pack.specs.Answers.{pack_head, pack_checked}
use Rattle.pack.specs.declared.PackHead.{PackHead}
use Rattle.pack.specs.declared.PackCheck.{PackCheck}
use Rattle.pack.proofs.Accepted.{read-of-pack, blocks-stand}
use Rattle.join.specs.Estate.{piece_pack, read_piece, HeadFits, PieceFits}
use Rattle.join.specs.declared.Piece.{Piece}
use Rattle.join.specs.declared.Estate.{Estate}
use Rattle.join.proofs.Pieces.{Absent}

-- what a check's answer says of the reading
pub was-refused : (m : Checked (Located Pack)) {check : PackCheck} {e : Refusal} → check ≡ pack_checked m → check.answer ≡ Err e → m ≡ refused e
was-refused (accepted file) is why = let v = ap (λ (c : PackCheck). c.answer) is in cc
was-refused (refused e) is why = let v = ap (λ (c : PackCheck). c.answer) is in cc

pub record Found (m : Checked (Located Pack)) (check : PackCheck) (head : PackHead) : Type 0 where
  pub file : Located Pack
  pub read : m ≡ accepted file
  pub head-is : head ≡ pack_head file
  pub layers-are : check.layers ≡ five_heads (heads_of file.content.layers)
  pub list-is : check.dark ≡ dark_of file.content.dark

pub was-accepted : (m : Checked (Located Pack)) {check : PackCheck} {head : PackHead} → check ≡ pack_checked m → check.answer ≡ Ok head
    → Found m check head
was-accepted (accepted file) is why =
    let v = ap (λ (c : PackCheck). c.answer) is in
    record {
      file = file;
      read = refl;
      head-is = cc;
      layers-are = ap (λ (c : PackCheck). c.layers) is;
      list-is = ap (λ (c : PackCheck). c.dark) is;
    }
was-accepted (refused e) is why =
    absurd (let v = ap (λ (c : PackCheck). c.answer) is in let z : ◌≡◌ {A = ℕ} 0 1 = cc in omega arith)

-- what an accepted pack is to the code
abbrev pub piece_of : Located Pack → Piece
piece_of file =
    record {
      nodes = file.content.n;
      place = file.first;
      layers = five_heads (heads_of file.content.layers);
      dark = dark_of file.content.dark;
    }

sizes-each : (most : ℕ) (layers : List Layer) → sizes (heads_of layers) ≤ most → All (λ layer. length layer.rows ≤ most) layers
unfolding total
sizes-each most [] h = tt
sizes-each most (layer ∷ layers) h = (omega arith, sizes-each most layers (omega arith))

module _ (bytes : List ℕ) (file : Located Pack) (read : read_pack bytes ≡ accepted file) where
  abbrev p : Pack
  p = file.content

  pub good : GoodPack p
  good = (read-of-pack bytes p file.first read).1

  blocks-are : drop file.first bytes ≡ flatten (all_rows p.layers)
  blocks-are = (blocks-stand bytes file read).1

  heads-are : take p.r (five_heads (heads_of p.layers)) ≡ heads_of p.layers
  heads-are =
      take-five no_head (heads_of p.layers) p.r (length-map p.layers head_of ∙ good.limits.layer-each) good.limits.base.r-most

  rows-r : All (λ row. length row ≡ p.r) (all_rows p.layers)
  rows-r = all-imp _ _ (λ row h. h.0) (all_rows p.layers) good.rows

  list-whole : dark_list (dark_of p.dark) ≡ p.dark
  list-whole =
      dark_list-dark_of p.dark (omega (arith, dark-count p.n p.dark good.limits.dark-order, good.limits.base.n-most))

  pub piece-pack : piece_pack p.r (piece_of file) bytes ≡ p
  piece-pack =
      let layers : layers_at p.r (take p.r (five_heads (heads_of p.layers))) (drop file.first bytes) ≡ p.layers =
      rw (heads-are, blocks-are, ← append-nil (flatten (all_rows p.layers))) (layers_at-flatten p.r p.layers [] rows-r) in
      λ i. record { n = p.n; r = p.r; dark = list-whole i; layers = layers i }

  each-head : All HeadFits (heads_of p.layers)
  each-head =
      all_map HeadFits head_of p.layers
      (all-imp _ _ (λ layer h. record { mu-most = h.0.1; size-most = h.1; mu-least = λ some. h.0.0 }) p.layers
      (all_both _ _ p.layers good.limits.mu-limits (sizes-each 4_096 p.layers good.limits.blocks-most)))

  no-head-fits : HeadFits no_head
  no-head-fits = record { mu-most = omega arith; size-most = omega arith; mu-least = λ some. absurd (omega arith) }

  pub piece-fits : PieceFits p.r (piece_of file) bytes
  piece-fits =
      record {
        list = record { counted = ap length list-whole; ordered = rw list-whole good.limits.dark-order };
        heads = λ x.
            all-get_d-default HeadFits (five_heads (heads_of p.layers)) x no_head no-head-fits
            (all_take HeadFits 5 (heads_of p.layers ++ replicate 5 no_head)
            (all_append HeadFits (heads_of p.layers) (replicate 5 no_head) each-head
            (no-head-fits, (no-head-fits, (no-head-fits, (no-head-fits, (no-head-fits, tt)))))));
        whole =
            let size : length (flatten (all_rows p.layers)) ≡ sizes (heads_of p.layers) * p.r =
            length-flatten p.r (all_rows p.layers) rows-r ∙ ap (λ n. n * p.r) (length-all_rows p.layers) in
            rw heads-are (omega (arith, size, ap length blocks-are, length-drop file.first bytes, (blocks-stand bytes file read).0));
        below =
            rw blocks-are
            (all-flatten (λ v. v < p.n) (all_rows p.layers) (all-imp _ _ (row_below p.n p.r) (all_rows p.layers) good.rows));
      }

-- A pack that is not there.
abbrev pub no_piece : (bytes : List ℕ) → Piece
no_piece bytes = record { nodes = 0; place = length bytes; layers = five_heads []; dark = dark_of [] }

zeros : (r : ℕ) → All (λ head. head ≡ no_head) (take r (five_heads []))
zeros r = all_take (λ head. head ≡ no_head) r (five_heads []) (refl, (refl, (refl, (refl, (refl, tt)))))

sizes-zero : (heads : List LayerHead) → All (λ head. head ≡ no_head) heads → sizes heads ≡ 0
unfolding total
sizes-zero [] h = refl
sizes-zero (head ∷ heads) h = let rest = sizes-zero heads h.1 in omega (arith, ap (λ (head : LayerHead). head.size) h.0)

head-none : (r x : ℕ) → get_or (take r (five_heads [])) x no_head ≡ no_head
head-none r x = all-get_d-default (λ head. head ≡ no_head) (take r (five_heads [])) x no_head refl (zeros r)

nil-ordered : (nodes : ℕ) → T (is_in_order nodes [])
unfolding ascending every
nil-ordered nodes = tt

no-nodes : dark_list (dark_of []) ≡ []
no-nodes = dark_list-dark_of [] (omega arith)

pub absent-piece : (r : ℕ) (bytes : List ℕ) → Absent r (piece_pack r (no_piece bytes) bytes)
unfolding rows_at
absent-piece r bytes = record { no-nodes = refl; no-list = no-nodes; same-r = refl; no_blocks = none }
  where
    none : (x : ℕ) → blocks_at (layers_at r (take r (five_heads [])) (drop (length bytes) bytes)) x ≡ record { bound = 0; rows = [] }
    none x =
        let layers = layers_at r (take r (five_heads [])) (drop (length bytes) bytes) in
        let bound-is : (blocks_at layers x).bound ≡ 0 =
        ap (λ (head : LayerHead). head.bound)
        (sym (head_of-blocks_at layers x)
        ∙ ap (λ (l : List LayerHead). get_or l x no_head) (heads_of-layers_at r (take r (five_heads [])) (drop (length bytes) bytes))
        ∙ head-none r x) in
        let rows_are : (blocks_at layers x).rows ≡ [] =
        blocks_at-layers_at r (take r (five_heads [])) (drop (length bytes) bytes) x
        ∙ ap (λ (head : LayerHead). rows_at r head.size (drop (sizes (take x (take r (five_heads []))) * r) (drop (length bytes) bytes))) (head-none r x) in
        λ i. record { bound = bound-is i; rows = rows_are i }

absent-fits : (r : ℕ) (bytes : List ℕ) → PieceFits r (no_piece bytes) bytes
absent-fits r bytes =
    record {
      list = record { counted = ap length no-nodes; ordered = rw no-nodes (nil-ordered 0) };
      heads = λ x. subst HeadFits (sym (all-get_d-default (λ head. head ≡ no_head) (five_heads []) x no_head refl (zeros 5))) none-fits;
      whole = let none = sizes-zero (take r (five_heads [])) (zeros r) in rw none (omega arith);
      below = rw (drop_of_length-le bytes {i = length bytes} (le_refl (length bytes))) tt;
    }
  where
    none-fits : HeadFits no_head
    none-fits = record { mu-most = omega arith; size-most = omega arith; mu-least = λ some. absurd (omega arith) }

-- what is read, given or not, is within what the code asks
pub read_fits : (b : Bool) (r : ℕ) (bytes : List ℕ) (file : Located Pack) → read_piece b r bytes ≡ accepted file
    → PieceFits file.content.r (piece_of file) bytes × (file.content.n ≤ 255)
read_fits true r bytes file e = (piece-fits bytes file e, (good bytes file e).limits.base.n-most)
read_fits false r bytes file e =
    subst (λ found. PieceFits found.content.r (piece_of found) bytes × (found.content.n ≤ 255)) (accepted-injective e) (absent-fits r bytes, omega arith)

pub piece_is : {m : Checked (Located Pack)} {check : PackCheck} {head : PackHead} (f : Found m check head)
    → ◌≡◌ {A = Piece} (record { nodes = head.n; place = head.first; layers = check.layers; dark = check.dark }) (piece_of f.file)
piece_is f = λ i. record { nodes = (f.head-is i).n; place = (f.head-is i).first; layers = f.layers-are i; dark = f.list-is i }

abbrev pub estate_of : (a b c : Located Pack) → Estate
estate_of a b c = record { r = a.content.r; a = piece_of a; b = piece_of b; c = piece_of c }
