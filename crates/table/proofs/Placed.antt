-- A pack of which all is right but that a block may name a node out of service or a layer may be crowded: nothing else can be refused.
-- Assumes nothing.
use Prim.Native.Nat.{ℕ, ◌+◌, ◌*◌}
use native.Mathlib.Omega.{arith}
use mathlib.Core.Path.{◌≡◌, refl, sym, ◌∙◌, ap}
use mathlib.Core.Logic.{◌⊎◌, inl, inr}
use mathlib.Core.List.{List, [], flatten, append-nil}
use mathlib.Core.Option.{Option, none, some}
use lib.ListN.{length, drop, length-drop, length-map}
use lib.Dec.{T}
use borrow.Author.Tests.{le-leb}
use Rattle.lists.specs.Lists.{All}
use Rattle.lists.proofs.Alls.{all-imp, all_map, length-flatten}
use Rattle.refusal.specs.declared.Refusal.{Refusal}
use Rattle.refusal.specs.declared.Refusal.TheVariants.{OutOfService, Crowded}
use Rattle.refusal.specs.Checked.{Checked, accepted, refused, ◌>>=◌}
use Rattle.refusal.proofs.Checked.{accepted-injective, refused-not-accepted}
use Rattle.packing.specs.Rows.{Row, is_in_order}
use Rattle.packing.proofs.Test.{good-iff-in-order}
use Rattle.layers.specs.Layers.{Site, Located, all_rows, heads_of, head_numbers, sizes, layers_at, first_naming, first_crowded_of, refuse_row, check_length, check_end, check_ascending, check_service, check_packings, check_rows}
use Rattle.layers.specs.declared.FileKind.TheVariants.{Pack as PackKind}
use Rattle.layers.proofs.NumbersRead.{reads-split}
use Rattle.layers.proofs.Heads.{base_numbers, read_base-accepted, read_layers-accepted}
use Rattle.layers.proofs.Lengths.{length-all_rows}
use Rattle.layers.proofs.Layouts.{layers_at-flatten}
use Rattle.pack.specs.Pack.{Pack, PackLimits, pack_layer_limits, bytes_of_pack, read_pack}
use Rattle.pack.proofs.Accepted.{PackRead, pack-read}
use Rattle.pack.proofs.Written.{pack-written-file}

-- a good pack but for the nodes out of service and the packings
pub record PlacedPack (p : Pack) : Type 0 where
  pub limits : PackLimits p
  pub rows : All (Row p.n p.r) (all_rows p.layers)

-- what the check says of it by the first block that names such a node, and the first that is crowded
abbrev pub placed_as : (p : Pack) (first : ℕ) → (naming crowded : Option ℕ) → Checked (Located Pack)
placed_as p first (some i) crowded = refused (OutOfService (first + i * p.r))
placed_as p first none (some i) = refused (Crowded (first + i * p.r))
placed_as p first none none = accepted (record { content = p; first = first })

placed-as : (p : Pack) (first : ℕ) (naming crowded : Option ℕ)
    → ((refuse_row OutOfService p.r first naming >>= λ _. refuse_row Crowded p.r first crowded >>= λ _. accepted p.layers) >>= λ layers.
    accepted (record { content = record { n = p.n; r = p.r; dark = p.dark; layers = layers }; first = first }))
    ≡ placed_as p first naming crowded
placed-as p first (some i) crowded = refl
placed-as p first none (some i) = refl
placed-as p first none none = refl

refused-injective : {e f : Refusal} → ◌≡◌ {A = Checked (Located Pack)} (refused e) (refused f) → e ≡ f
refused-injective p = cc

module _ (p : Pack) (g : PlacedPack p) where
  abbrev naming : Option ℕ
  naming = first_naming p.dark (all_rows p.layers)

  abbrev crowded_row : Option ℕ
  crowded_row = first_crowded_of 0 p.layers

  blocks-read : (s : List ℕ) (first : ℕ) → PackRead p s first → read_pack s ≡ placed_as p first naming crowded_row
  unfolding read_pack check_length check_end check_ascending check_service check_packings check_rows
  blocks-read s first f =
      let base : Site = record { n = p.n; r = p.r; dark = p.dark } in
      let l = g.limits in
      let heads = heads_of p.layers in
      let all = all_rows p.layers in
      let lengths = all-imp (Row p.n p.r) (λ row. length row ≡ p.r) (λ row h. h.0) all g.rows in
      let ordered = all-imp (Row p.n p.r) (λ row. T (is_in_order p.n row)) (λ row h. h.1) all g.rows in
      let len = length-flatten p.r all lengths ∙ ap (λ c. c * p.r) (length-all_rows p.layers) in
      let d = ap length f.file.rest in
      let ends : length s ≡ first + sizes heads * p.r = omega (arith, length-drop first s, f.file.inside) in
      let taken : layers_at p.r heads (drop first s) ≡ p.layers =
      rw (f.file.rest, ← append-nil (flatten all)) (layers_at-flatten p.r p.layers [] lengths) in
      let (at, reads, numbers) = reads-split (base_numbers f.kind base) (head_numbers heads) s 0 first f.file.reads in
      rw (
        read_base-accepted PackKind f.kind base s at reads f.is-kind l.base (record { ordered = l.dark-order; unlisted = f.unlisted }),
        read_layers-accepted pack_layer_limits p.r 4_096 s at heads first numbers
            (record {
              layer-each = length-map p.layers _ ∙ l.layer-each;
              bounds = all_map _ _ p.layers l.mu-limits;
              fit = l.blocks-most;
            }),
        le-leb (first + sizes heads * p.r) (length s) (omega arith),
        le-leb (length s) (first + sizes heads * p.r) (omega arith),
        taken,
        (good-iff-in-order p.n all).1 ordered,
      )
      (placed-as p first naming crowded_row)

  placed-read : (first : ℕ) × (read_pack (bytes_of_pack p) ≡ placed_as p first naming crowded_row)
  placed-read =
      let l = g.limits in
      let (first, f) = pack-read p (bytes_of_pack p) (pack-written-file p
      (record {
        n-most = l.base.n-most;
        dark-order = l.dark-order;
        r-most = l.base.r-most;
        layer-each = l.layer-each;
        mu-most = all-imp _ _ (λ layer h. h.1) p.layers l.mu-limits;
        blocks-most = l.blocks-most;
      })) in
      (first, blocks-read (bytes_of_pack p) first f)

  -- So the check accepts this pack ..
  pub placed-accepted : (file : Located Pack) → read_pack (bytes_of_pack p) ≡ accepted file → file.content ≡ p
  placed-accepted file e = let (first, is) = placed-read in go first naming crowded_row (sym is ∙ e)
    where
      go : (first : ℕ) (a b : Option ℕ) → placed_as p first a b ≡ accepted file → file.content ≡ p
      go first (some i) b h = absurd (refused-not-accepted h)
      go first none (some i) h = absurd (refused-not-accepted h)
      go first none none h = ap (λ (file : Located Pack). file.content) (sym (accepted-injective h))

  -- .. or refuses it with 15 or 7
  pub placed-refused : (e : Refusal) → read_pack (bytes_of_pack p) ≡ refused e → ((at : ℕ) × (e ≡ OutOfService at)) ⊎ ((at : ℕ) × (e ≡ Crowded at))
  placed-refused e h = let (first, is) = placed-read in go first naming crowded_row (sym is ∙ h)
    where
      go : (first : ℕ) (a b : Option ℕ) → placed_as p first a b ≡ refused e
          → ((at : ℕ) × (e ≡ OutOfService at)) ⊎ ((at : ℕ) × (e ≡ Crowded at))
      go first (some i) b q = inl (first + i * p.r, sym (refused-injective q))
      go first none (some i) q = inr (first + i * p.r, sym (refused-injective q))
      go first none none q = absurd (refused-not-accepted (sym q))
