-- Demand 2 for packs: the check accepts exactly the files of good packs. Assumes nothing.
use Prim.Native.Nat.{ℕ, ◌≤◌}
use native.Mathlib.Omega.{arith}
use mathlib.Core.Path.{◌≡◌, refl, sym, ◌∙◌, subst}
use mathlib.Core.Logic.{◌↔◌}
use mathlib.Core.Bool.{false}
use mathlib.Core.List.{List, [], flatten}
use lib.ListN.{drop, length, length-map}
use lib.Dec.{T}
use Rattle.lists.proofs.Alls.{all_map, all_of_map}
use Rattle.refusal.specs.Refusals.{result}
use Rattle.refusal.specs.Checked.{accepted}
use Rattle.refusal.proofs.Checked.{accepted-injective, bind-elim, map_accepted-accepted}
use Rattle.number.specs.Numbers.{Bytes}
use Rattle.packing.specs.Rows.{is_in_order}
use Rattle.layers.specs.Layers.{Layer, Located, Site, BaseLimits, all_rows, heads_of, head_numbers, is_kind, listed, read_base, read_layers, check_rows}
use Rattle.layers.specs.declared.FileKind.TheVariants.{Pack as PackKind}
use Rattle.layers.proofs.Listing.{dark-count, dark_list-dark_of}
use Rattle.layers.proofs.NumbersRead.{reads-append, reads-split}
use Rattle.layers.proofs.Heads.{HeadsWithin, base_numbers, held-of-read_base, read_base-accepted}
use Rattle.layers.proofs.Files.{FileRead, LayersHeld, file-read, read-file, held-of-layers, heads-accepted, rows-accepted}
use Rattle.pack.specs.Answers.{pack_checked, pack_values, pack_outcome}
use Rattle.pack.specs.Pack.{Pack, PackFile, PackLimits, GoodPack, pack_numbers, pack_layer_limits, read_pack, check_pack}

-- a pack's layers within their limits, in the terms of the head
heads-within : (p : Pack) → PackLimits p → HeadsWithin pack_layer_limits p.r 4_096 (heads_of p.layers)
heads-within p l =
    record {
      layer-each = length-map p.layers _ ∙ l.layer-each;
      bounds = all_map _ _ p.layers l.mu-limits;
      fit = l.blocks-most;
    }

-- the pack of a head that was accepted is within its limits
pack-limits : (base : Site) (layers : List Layer) → BaseLimits base.n base.r → T (is_in_order base.n base.dark)
    → HeadsWithin pack_layer_limits base.r 4_096 (heads_of layers)
    → PackLimits (record { n = base.n; r = base.r; dark = base.dark; layers = layers })
pack-limits base layers b order w =
    record {
      base = b;
      dark-order = order;
      layer-each = sym (length-map layers _) ∙ w.layer-each;
      mu-limits = all_of_map _ _ layers w.bounds;
      blocks-most = w.fit;
    }

-- a pack's file of some kind, as it is read: its blocks stand from `first` to the end
pub record PackRead (p : Pack) (s : List ℕ) (first : ℕ) : Type 0 where
  pub kind : ℕ
  pub is-kind : T (is_kind PackKind kind)
  pub unlisted : listed kind ≡ false → p.dark ≡ []
  pub file : FileRead (pack_numbers kind p) p.layers s first

pub pack-read : (p : Pack) (s : List ℕ) → PackFile p s → (first : ℕ) × PackRead p s first
pack-read p s f =
    let (first, file) = file-read (pack_numbers f.kind p) p.layers s f.file in
    (first, record { kind = f.kind; is-kind = f.is-kind; unlisted = f.unlisted; file = file })

pub read-pack : (p : Pack) (s : List ℕ) (first : ℕ) → Bytes s → PackRead p s first → PackFile p s
read-pack p s first b f =
    record {
      kind = f.kind;
      is-kind = f.is-kind;
      unlisted = f.unlisted;
      file = read-file (pack_numbers f.kind p) p.layers s first b f.file;
    }

-- A pack is accepted, with the place of its first block, exactly where it is read as a file with its blocks from there on, and
-- is good.
pub read-of-pack : (s : List ℕ) (p : Pack) (first : ℕ) → read_pack s ≡ accepted (record { content = p; first = first })
    → PackRead p s first × GoodPack p
unfolding read_pack
read-of-pack s p first e =
    bind-elim (read_base PackKind s) _ e λ head e₁ r₁.
    bind-elim (read_layers pack_layer_limits head.base.r 4_096 s head.next) _ r₁ λ numbers e₂ r₂.
    bind-elim (check_rows head.base numbers.heads s numbers.next) _ r₂ λ layers e₃ r₃.
    let held = held-of-read_base PackKind s e₁ in
    let l = held-of-layers pack_layer_limits head.base head.base.r 4_096 s head.next e₂ e₃ in
    subst
    (λ file. PackRead file.content s file.first × GoodPack file.content)
    (accepted-injective r₃) (
      record {
        kind = head.kind;
        is-kind = held.kind;
        unlisted = held.dark.unlisted;
        file = record {
          reads = reads-append (base_numbers head.kind head.base) (head_numbers (heads_of layers)) s 0 head.next numbers.next held.reads l.reads;
          inside = l.inside;
          rest = l.rest;
        };
      },
      record {
        limits = pack-limits head.base layers held.limits held.dark.ordered l.within;
        rows = l.rows;
        in-service = l.in-service;
        packings = l.packings;
      },
    )

pub pack-accepted : (s : List ℕ) (p : Pack) (first : ℕ) → PackRead p s first → GoodPack p
    → read_pack s ≡ accepted (record { content = p; first = first })
unfolding read_pack
pack-accepted s p first f g =
    let base : Site = record { n = p.n; r = p.r; dark = p.dark } in
    let (at, reads, numbers) = reads-split (base_numbers f.kind base) (head_numbers (heads_of p.layers)) s 0 first f.file.reads in
    let layers : LayersHeld pack_layer_limits base p.r 4_096 s at first p.layers = record {
      reads = numbers;
      within = heads-within p g.limits;
      inside = f.file.inside;
      rest = f.file.rest;
      rows = g.rows;
      in-service = g.in-service;
      packings = g.packings;
    } in
    rw (
      read_base-accepted PackKind f.kind base s at reads f.is-kind g.limits.base
          (record { ordered = g.limits.dark-order; unlisted = f.unlisted }),
      heads-accepted pack_layer_limits base p.r 4_096 s at layers,
      rows-accepted pack_layer_limits base p.r 4_096 s at layers,
    )

-- What the checker's answer says of an accepted pack: its values, the list among them, which the code's array holds whole.
pub pack-told : (s : List ℕ) (file : Located Pack) → read_pack s ≡ accepted file
    → pack_outcome (pack_checked (accepted file)) ≡ result (pack_values file)
pack-told s file e =
    let l = (read-of-pack s file.content file.first e).1.limits in
    let n-most = l.base.n-most in
    let count = dark-count file.content.n file.content.dark l.dark-order in
    rw (dark_list-dark_of file.content.dark (omega arith))

-- The blocks of an accepted pack stand from its first block's place to the end.
pub blocks-stand : (s : List ℕ) (file : Located Pack) → read_pack s ≡ accepted file
    → (file.first ≤ length s) × (drop file.first s ≡ flatten (all_rows file.content.layers))
blocks-stand s file e = let f = (read-of-pack s file.content file.first e).0.file in (f.inside, f.rest)

-- Demand 2: the check accepts exactly the files of packs within limits, with rows in order that name no node out of service and
-- a packing in every layer, and its result is that pack.
pub pack-accepted-iff : (s : List ℕ) (p : Pack) → Bytes s → (check_pack s ≡ accepted p) ↔ (PackFile p s × GoodPack p)
unfolding check_pack
pack-accepted-iff s p b = (to, from)
  where
    to : check_pack s ≡ accepted p → PackFile p s × GoodPack p
    to e =
        let (file, read, same) = map_accepted-accepted (λ file. file.content) (read_pack s) e in
        let (f, g) = read-of-pack s p file.first (read ∙ (λ i. accepted (record { content = same i; first = file.first }))) in
        (read-pack p s file.first b f, g)

    from : PackFile p s × GoodPack p → check_pack s ≡ accepted p
    from h =
        let (first, f) = pack-read p s h.0 in
        rw (pack-accepted s p first f h.1) refl
