-- A line of the table, written entry by entry from the line below it: the losses by records, which both ways of raising a
-- line keep, and the losses by copies. Assumes nothing.
use Prim.Native.Nat.{ℕ, ◌+◌, ◌*◌, ◌-◌, ◌≤◌, ◌<◌, min}
use native.Mathlib.Nat.{mul-pos, mul-le-mul}
use native.Mathlib.Omega.{arith}
use mathlib.Core.Path.{◌≡◌, refl, sym, ap, ◌∙◌}
use mathlib.Core.List.{List}
use lib.ListN.{length, get_or, set, take, drop, length-set, length-drop}
use lib.Seq.{sets, sets-eq, paste, length-take-le}
use Rattle.lists.proofs.UpTo.{map-up_to-congr, map-get_d-up_to}
use Rattle.split.specs.declared.Steps.{Steps}
use Rattle.split.specs.Splits.{no_split}
use Rattle.split.specs.Table.{StepLimits, stepped, line_entry}
use Rattle.split.specs.Working.{part, LineBelow}
use Rattle.split.proofs.Stepped.{stepped-zero, stepped-le-mark, stepped-dear, record-step}
use Rattle.split.proofs.LineSteps.{line_entry-records}
use Rattle.lists.proofs.Stores.{stored_to, stored-none, stored_next}
use Rattle.split.proofs.Parts.{under-eq}

-- the line below place `at`
abbrev pub line_under : (at w : ℕ) (work : List ℕ) → List ℕ
line_under at w work = part (at - w) w work

-- as it is lent
abbrev pub lent : (at w : ℕ) (work : List ℕ) → List ℕ
lent at w work = take (at - (at - w)) (drop (at - w) work)

pub length_part : (a k : ℕ) (l : List ℕ) → a + k ≤ length l → length (part a k l) ≡ k
length_part a k l h = length-take-le k (drop a l) (let e = length-drop a l in omega arith)

module _ {at w : ℕ} {before : List ℕ} (below : LineBelow at w before) where
  pub lent-eq : lent at w before ≡ line_under at w before
  lent-eq =
      let b = below.back in
      let e : at - (at - w) ≡ w = omega arith in
      ap (λ n. take n (drop (at - w) before)) e

  pub length-lent : length (lent at w before) ≡ w
  length-lent = ap length lent-eq ∙ (let b = below.back in let f = below.fits in length_part (at - w) w before (omega arith))

-- the entries f 0, f 1, .. before place i are written; `records` has the last one's loss by records
pub record Raised (each at w : ℕ) (before : List ℕ) (f : ℕ → ℕ) (i records : ℕ) (work : List ℕ) : Type 0 where
  pub within : i ≤ w
  pub same : length work ≡ length before
  pub written : work ≡ stored_to at before f i
  pub by-records : records ≡ stepped 1 each (line_under at w before) (i - 1)

module _ {each at w : ℕ} {before : List ℕ} {f : ℕ → ℕ} (below : LineBelow at w before) where
  pub raised-none : Raised each at w before f 0 0 before
  raised-none =
      record {
        within = omega arith;
        same = refl;
        written = stored-none at before f;
        by-records = sym (stepped-zero 1 each _ (omega arith) below.rising);
      }

  module _ {i records : ℕ} {work : List ℕ} (r : Raised each at w before f i records work) where
    pub records-le : records ≤ no_split
    records-le =
        let h = stepped-le-mark 1 each (line_under at w before) (omega arith) below.rising (i - 1) in
        omega (arith, r.by-records)

    module _ (turn : i < w) where
      pub under : get_or work (at - w + i) 0 ≡ get_or (line_under at w before) i 0
      under = under-eq at w before f i below.back turn r.written

      pub under-le : get_or work (at - w + i) 0 ≤ no_split
      under-le = rw under (below.rising.marked i)

      pub by-record : {more : ℕ} → more ≡ min (get_or work (at - w + i) 0) (records + each) → more ≡ stepped 1 each (line_under at w before) i
      by-record e = record-step each (line_under at w before) i r.by-records under e

      -- one entry more
      pub raised-next : (more entry : ℕ) → more ≡ min (get_or work (at - w + i) 0) (records + each) → entry ≡ f i
          → Raised each at w before f (i + 1) more (set work (at + i) entry)
      raised-next more entry e q =
          record {
            within = omega arith;
            same = length-set work (at + i) entry ∙ r.same;
            written = stored_next at before f i entry r.written q;
            by-records = let here : i + 1 - 1 ≡ i = omega arith in rw here (by-record e);
          }

    -- all entries are written
    pub raised_all : w ≤ i → work ≡ stored_to at before f w
    raised_all h = let e : i ≡ w = let g = r.within in omega arith in r.written ∙ ap (stored_to at before f) e

-- where a copy costs the mark, or all the records that it holds, the line by records is the line
pub raised-by-records : {u : Steps} {at w : ℕ} {before after : List ℕ} → StepLimits u → LineBelow at w before
    → min no_split (u.size * u.each) ≤ get_or u.costs 1 0
    → after ≡ stored_to at before (stepped 1 u.each (line_under at w before)) w
    → after ≡ stored_to at before (line_entry u (line_under at w before)) w
raised-by-records {u} {at} {w} {before} limits below dear e =
    e ∙ ap (sets before at) (map-up_to-congr _ _ w (λ b h. sym (line_entry-records limits _ below.rising dear b)))

-- the line below, copied
pub repeated : {at w : ℕ} {before : List ℕ} → LineBelow at w before
    → paste before at (drop (at - w) before) (at - (at - w)) ≡ stored_to at before (λ j. get_or (line_under at w before) j 0) w
repeated {at} {w} {before} below =
    let line : List ℕ = line_under at w before in
    let b = below.back in
    let f = below.fits in
    let e : at - (at - w) ≡ w = omega arith in
    let l : length line ≡ w = length_part (at - w) w before (omega arith) in
    let same = sym (sets-eq line before at (omega arith)) in
    ap (λ (n : ℕ). paste before at (drop (at - w) before) n) e
    ∙ rw l at same ∙ ap (sets before at) (sym (map-get_d-up_to line 0 w l))

-- and where a record costs the mark too, it is the line below again
pub raised-repeated : {u : Steps} {at w : ℕ} {before after : List ℕ} → StepLimits u → LineBelow at w before
    → min no_split (u.size * u.each) ≤ get_or u.costs 1 0 → no_split ≤ u.each
    → after ≡ stored_to at before (λ j. get_or (line_under at w before) j 0) w
    → after ≡ stored_to at before (line_entry u (line_under at w before)) w
raised-repeated {u} {at} {w} {before} limits below dear each e =
    raised-by-records limits below dear
    (e ∙ ap (sets before at) (map-up_to-congr _ _ w (λ b h. sym (stepped-dear 1 u.each _ (omega arith) below.rising each b))))

-- a period of copies holds a record
pub whole_pos : {u : Steps} → StepLimits u → 0 < u.period * u.size
whole_pos limits = mul-pos limits.period-pos limits.size-pos

pub whole_le : {u : Steps} → StepLimits u → u.period * u.size ≤ 491_520
whole_le limits = mul-le-mul limits.period-le limits.size-le
