-- A good pack's bytes are its file, of kind 4, and are accepted as it. Assumes nothing.
use Prim.Native.Nat.{ℕ, ◌*◌, ◌≤◌}
use native.Mathlib.Omega.{arith}
use mathlib.Core.Path.{◌≡◌, refl, sym, ◌∙◌, ap}
use mathlib.Core.List.{[], ◌++◌, flatten, append-nil}
use lib.ListN.{length, length-append}
use lib.Dec.{T}
use Rattle.lists.specs.Lists.{All}
use Rattle.lists.proofs.Alls.{all_append, all-imp, all-flatten, length-flatten}
use Rattle.refusal.specs.Checked.{accepted}
use Rattle.number.specs.Numbers.{Bytes, largest_number, forms_of}
use Rattle.number.proofs.Laws.{number_bytes-length-one, number_bytes-length-le-two}
use Rattle.number.proofs.Forms.{forms-of, forms-bytes, forms_of-append}
use Rattle.packing.specs.Rows.{is_in_order, Row}
use Rattle.layers.specs.Layers.{all_rows, sizes, heads_of, head_numbers, list_numbers}
use Rattle.layers.proofs.Listing.{list-bytes, list-most}
use Rattle.layers.proofs.Each.{row-bytes}
use Rattle.layers.proofs.Lengths.{length-all_rows, length-head_numbers, head_numbers-most}
use Rattle.pack.specs.Pack.{Pack, PackLimits, GoodPack, PackFile, pack_numbers, bytes_of_pack, check_pack}
use Rattle.pack.proofs.Accepted.{pack-accepted-iff}

-- a pack's limits from above
pub record AtMost (p : Pack) : Type 0 where
  pub n-most : p.n ≤ 255
  pub dark-order : T (is_in_order p.n p.dark)
  pub r-most : p.r ≤ 5
  pub layer-each : length p.layers ≡ p.r
  pub mu-most : All (λ layer. layer.bound ≤ 4_096) p.layers
  pub blocks-most : sizes (heads_of p.layers) ≤ 4_096

limits-most : (p : Pack) → PackLimits p → AtMost p
limits-most p l =
    record {
      n-most = l.base.n-most;
      dark-order = l.dark-order;
      r-most = l.base.r-most;
      layer-each = l.layer-each;
      mu-most = all-imp _ _ (λ layer h. h.1) p.layers l.mu-limits;
      blocks-most = l.blocks-most;
    }

module _ (p : Pack) (limits : AtMost p) where
  bounds-most : All (λ layer. layer.bound ≤ largest_number) p.layers
  bounds-most = all-imp (λ layer. layer.bound ≤ 4_096) _ (λ layer h. omega arith) p.layers limits.mu-most

  pub numbers-most : All (λ v. v ≤ largest_number) (pack_numbers 4 p)
  numbers-most =
      let n = limits.n-most in
      let r = limits.r-most in
      let rows = limits.blocks-most in (
        omega arith,
        (
          omega arith,
          (
            omega arith,
            all_append (λ v. v ≤ largest_number) (list_numbers 4 p.dark) (head_numbers (heads_of p.layers))
                (list-most p.n p.dark n limits.dark-order 4)
                (head_numbers-most p.layers bounds-most (omega arith)),
          ),
        ),
      )

  -- the head's numbers take at most 448 bytes: 64 without the list, and 384 for that
  pub pack-head-length : length (forms_of (pack_numbers 4 p)) ≤ 448
  unfolding flatten
  pack-head-length =
      let n = limits.n-most in
      let r = limits.r-most in
      let rows = limits.blocks-most in
      let each = limits.layer-each in
      rw (forms_of-append (list_numbers 4 p.dark) (head_numbers (heads_of p.layers)))
      (simp length-append
      (omega (
        arith,
        number_bytes-length-one 4 (omega arith),
        list-bytes p.n p.dark n limits.dark-order 4,
        number_bytes-length-le-two p.n (omega arith),
        number_bytes-length-le-two p.r (omega arith),
        length-head_numbers p.layers bounds-most (omega arith),
      )))

  -- what is written is the pack's file
  pub pack-written-file : PackFile p (bytes_of_pack p)
  unfolding bytes_of_pack
  pack-written-file =
      record {
        kind = 4;
        is-kind = tt;
        unlisted = λ u. absurd (let z : ◌≡◌ {A = ℕ} 0 1 = cc in omega arith);
        file = (
          forms_of (pack_numbers 4 p),
          [],
          forms-of (pack_numbers 4 p) numbers-most,
          refl,
          ap (λ l. forms_of (pack_numbers 4 p) ++ l) (sym (append-nil (flatten (all_rows p.layers)))),
        );
      }

module _ (p : Pack) (good : GoodPack p) where
  pub pack-written-bytes : Bytes (bytes_of_pack p)
  unfolding bytes_of_pack
  pack-written-bytes =
      all_append _ (forms_of (pack_numbers 4 p)) (flatten (all_rows p.layers))
      (forms-bytes (pack_numbers 4 p) _ (forms-of (pack_numbers 4 p) (numbers-most p (limits-most p good.limits))))
      (all-flatten _ (all_rows p.layers) (all-imp _ Bytes (row-bytes p.n p.r good.limits.base.n-most) (all_rows p.layers) good.rows))

  -- the check accepts them, and its result is the pack
  pub pack-written-accepted : check_pack (bytes_of_pack p) ≡ accepted p
  pack-written-accepted = (pack-accepted-iff (bytes_of_pack p) p pack-written-bytes).1 (pack-written-file p (limits-most p good.limits), good)

  pub pack-blocks-length : length (flatten (all_rows p.layers)) ≡ sizes (heads_of p.layers) * p.r
  pack-blocks-length =
      length-flatten p.r (all_rows p.layers) (all-imp (Row p.n p.r) _ (λ row h. h.0) (all_rows p.layers) good.rows)
      ∙ ap (λ n. n * p.r) (length-all_rows p.layers)
