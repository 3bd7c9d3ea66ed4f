-- Reading group by group: what each step can meet, and what a run of steps has read. Assumes nothing.
use Prim.Native.Nat.{ℕ, zero, suc, ◌+◌, ◌*◌, ◌-◌, ◌%◌, ◌≤◌, ◌<◌}
use native.Mathlib.Omega.{arith}
use native.Mathlib.Nat.{le_refl}
use native.Mathlib.Numerals.{add-one}
use mathlib.Core.Path.{◌≡◌, refl, sym, ◌∙◌, ap}
use mathlib.Core.Logic.{◌⊎◌, inl, inr}
use mathlib.Core.List.{List, [], ◌∷◌, ◌++◌}
use lib.ListN.{length, get_or, take, drop}
use lib.Seq.{slice, slice-cons, slice_empty, get_or-take, length-take-le}
use lib.Dec.{leb}
use borrow.Author.Tests.{leb-true, leb-false, le-leb, lt-leb}
use Rattle.refusal.specs.declared.Refusal.{Refusal}
use Rattle.refusal.specs.declared.Refusal.TheVariants.{Ended, Malformed}
use Rattle.refusal.specs.Checked.{Checked, accepted, refused}
use Rattle.number.specs.Numbers.{Bytes, Grouped, count_up, read_groups}
use Rattle.number.specs.declared.Reading.{Reading}
use Rattle.lists.proofs.Tests.{cond-elim}
use Rattle.lists.proofs.Alls.{all_get_d}
use Rattle.lists.proofs.Parts.{lt-of-drop-cons, get_d-of-drop-cons, drop-suc-of-drop-cons}
use Rattle.refusal.proofs.Checked.{accepted-injective, refused-not-accepted}
use Rattle.number.proofs.Groups.{grouped-cons}

accepted-eq : {v w n m : ℕ} → v ≡ w → n ≡ m
    → ◌≡◌ {A = Checked Reading} (accepted (record { value = v; next = n })) (accepted (record { value = w; next = m }))
accepted-eq p q = λ i. accepted (record { value = p i; next = q i })

-- The three cases of a step, each with what it gives.
module _ (left : ℕ) (s : List ℕ) (start at weight sum : ℕ) where
  pub read_groups-ends : length s ≤ at → read_groups (suc left) s start at weight sum ≡ refused (Ended (length s))
  unfolding read_groups
  read_groups-ends ends = rw (le-leb (length s) at ends)

  pub read_groups-follows : at < length s → 128 ≤ get_or s at 0
      → read_groups (suc left) s start at weight sum
      ≡ read_groups left s start (suc at) (weight * 128) (sum + weight * (get_or s at 0 - 128))
  unfolding read_groups
  read_groups-follows inside follows = rw (lt-leb (length s) at inside, le-leb 128 (get_or s at 0) follows)

  pub read_groups-last : at < length s → get_or s at 0 < 128
      → read_groups (suc left) s start at weight sum ≡ accepted (record { value = sum + weight * get_or s at 0; next = suc at })
  unfolding read_groups
  read_groups-last inside last = rw (lt-leb (length s) at inside, lt-leb 128 (get_or s at 0) last)

module _ (P : Checked Reading → Type 0) (left : ℕ) (s : List ℕ) (start at weight sum : ℕ) where
  -- What holds in each of the three cases holds of the reading: the input ends, another group follows, the last group.
  pub read_groups-elim : (length s ≤ at → P (refused (Ended (length s))))
      → (at < length s → 128 ≤ get_or s at 0 → P (read_groups left s start (suc at) (weight * 128) (sum + weight * (get_or s at 0 - 128))))
      → (at < length s → get_or s at 0 < 128 → P (accepted (record { value = sum + weight * get_or s at 0; next = suc at })))
      → P (read_groups (suc left) s start at weight sum)
  unfolding read_groups
  read_groups-elim ends follows last =
      cond-elim P (leb (length s) at) (λ e. ends (leb-true _ _ e)) λ e.
      let inside : at < length s = leb-false _ _ e in
      cond-elim P (leb 128 (get_or s at 0)) (λ e₁. follows inside (leb-true _ _ e₁)) λ e₁. last inside (leb-false _ _ e₁)

-- the groups after this one count 128 times as much
value-step : (sum weight v q r : ℕ) → v ≡ r + 128 * q → sum + weight * r + weight * 128 * q ≡ sum + weight * v
value-step sum weight v q r e = rw e (omega arith)

-- The last group counts what its byte is.
count_up-last : (byte : ℕ) → byte < 128 → count_up (byte ∷ []) ≡ byte
unfolding count_up
count_up-last byte h = omega arith

-- Groups that stand at a place are read, as what they count up to.
pub read_groups-grouped : (more : ℕ) (f s t : List ℕ) (start at weight sum : ℕ) → drop at s ≡ f ++ t
    → Grouped f → length f ≤ suc more
    → read_groups (suc more) s start at weight sum
    ≡ accepted (record { value = sum + weight * count_up f; next = at + length f })
unfolding count_up
read_groups-grouped more [] s t start at weight sum e h le = absurd h
read_groups-grouped more (byte ∷ []) s t start at weight sum e h le =
    let inside : at < length s = lt-of-drop-cons s at e in
    let here : get_or s at 0 ≡ byte = get_d-of-drop-cons s at 0 e in
    rw
    (count_up-last byte h, add-one)
    (rw here at (read_groups-last more s start at weight sum inside (rw here h)))
read_groups-grouped zero (byte ∷ next ∷ f) s t start at weight sum e h le = absurd (omega arith)
read_groups-grouped (suc more) (byte ∷ next ∷ f) s t start at weight sum e (top, small, h) le =
    let inside : at < length s = lt-of-drop-cons s at e in
    let here : get_or s at 0 ≡ byte = get_d-of-drop-cons s at 0 e in
    let rest = drop-suc-of-drop-cons s at e in
    let bits : get_or s at 0 - 128 ≡ byte % 128 = omega arith in
    let q = count_up (next ∷ f) in
    read_groups-follows (suc more) s start at weight sum inside (omega arith)
    ∙ read_groups-grouped more (next ∷ f) s t start (suc at) (weight * 128) (sum + weight * (get_or s at 0 - 128)) rest h (omega arith)
    ∙ accepted-eq (value-step sum weight (byte % 128 + 128 * q) q (get_or s at 0 - 128) (rw bits)) (omega arith)

-- A reading takes at least one byte and at most one a group, and ends inside the input.
pub read_groups-next : (left : ℕ) (s : List ℕ) (start at weight sum : ℕ) (n : Reading)
    → read_groups left s start at weight sum ≡ accepted n → (at < n.next) × (n.next ≤ at + left) × (n.next ≤ length s)
unfolding read_groups
read_groups-next zero s start at weight sum n e = let f : ◌≡◌ {A = ℕ} 0 1 = cc in omega arith
read_groups-next (suc left) s start at weight sum n e =
    read_groups-elim
    (λ r. r ≡ accepted n → (at < n.next) × (n.next ≤ at + suc left) × (n.next ≤ length s))
    left
    s
    start
    at
    weight
    sum
    (λ ends e. absurd (refused-not-accepted e))
    (λ inside follows e. omega (arith, read_groups-next left s start (suc at) _ _ n e))
    (λ inside last e. let next : suc at ≡ n.next = ap (λ (r : Reading). r.next) (accepted-injective e) in omega arith)
    e

-- What a run of steps has read: the bytes up to the next place are groups, and the value is what they count up to.
pub record GroupsRead (s : List ℕ) (at weight sum : ℕ) (n : Reading) : Type 0 where
  pub grouped : Grouped (slice at n.next s)
  pub value-is : n.value ≡ sum + weight * count_up (slice at n.next s)

-- the last group
groups_read-last : (s : List ℕ) (at weight sum : ℕ) (n : Reading) → at < length s → get_or s at 0 < 128
    → record { value = sum + weight * get_or s at 0; next = suc at } ≡ n → GroupsRead s at weight sum n
groups_read-last s at weight sum n inside small e =
    let here : slice at (suc at) s ≡ get_or s at 0 ∷ [] = slice-cons at (suc at) s 0 (le_refl (suc at)) inside ∙ rw slice_empty in
    rw
    (← e)
    record {
      grouped = rw here small;
      value-is = rw (here, count_up-last (get_or s at 0) small);
    }

-- a group before others
groups_read-follows : (s : List ℕ) (at weight sum : ℕ) (n : Reading) → Bytes s
    → at < length s → 128 ≤ get_or s at 0 → at < n.next → n.next ≤ length s
    → GroupsRead s (suc at) (weight * 128) (sum + weight * (get_or s at 0 - 128)) n
    → GroupsRead s at weight sum n
unfolding count_up
groups_read-follows s at weight sum n bytes inside follows before end r =
    let byte : get_or s at 0 < 256 = all_get_d (λ b. b < 256) s at 0 bytes inside in
    let here : slice at n.next s ≡ get_or s at 0 ∷ slice (suc at) n.next s = slice-cons at n.next s 0 before end in
    let bits : get_or s at 0 - 128 ≡ get_or s at 0 % 128 = omega arith in
    let q = count_up (slice (suc at) n.next s) in
    record {
      grouped = rw here (grouped-cons (get_or s at 0) (slice (suc at) n.next s) follows byte r.grouped);
      value-is = rw here (r.value-is ∙ value-step sum weight (get_or s at 0 % 128 + 128 * q) q (get_or s at 0 - 128) (rw bits));
    }

pub grouped-read_groups : (left : ℕ) (s : List ℕ) (start at weight sum : ℕ) (n : Reading) → Bytes s
    → read_groups left s start at weight sum ≡ accepted n → GroupsRead s at weight sum n
unfolding read_groups
grouped-read_groups zero s start at weight sum n bytes e = absurd (refused-not-accepted e)
grouped-read_groups (suc left) s start at weight sum n bytes e =
    read_groups-elim
    (λ r. r ≡ accepted n → GroupsRead s at weight sum n)
    left
    s
    start
    at
    weight
    sum
    (λ ends e. absurd (refused-not-accepted e))
    (λ inside follows e.
    let place = read_groups-next left s start (suc at) _ _ n e in
    groups_read-follows s at weight sum n bytes inside follows (omega arith) place.2
    (grouped-read_groups left s start (suc at) _ _ n bytes e))
    (λ inside last e. groups_read-last s at weight sum n inside last (accepted-injective e))
    e

-- A refused reading: the input ended, or the number is malformed.
pub read_groups-refused : (left : ℕ) (s : List ℕ) (start at weight sum : ℕ) (why : Refusal)
    → read_groups left s start at weight sum ≡ refused why → (why ≡ Ended (length s)) ⊎ (why ≡ Malformed start)
unfolding read_groups
read_groups-refused zero s start at weight sum why e = inr (cc)
read_groups-refused (suc left) s start at weight sum why e =
    read_groups-elim
    (λ r. r ≡ refused why → (why ≡ Ended (length s)) ⊎ (why ≡ Malformed start))
    left
    s
    start
    at
    weight
    sum
    (λ ends e. inl (cc))
    (λ inside follows e. read_groups-refused left s start (suc at) _ _ why e)
    (λ inside last e. absurd (refused-not-accepted (sym e)))
    e

-- Where the groups that may come are all inside the first m bytes, the bytes after those don't matter.
pub read_groups-take : (left m : ℕ) (s : List ℕ) (start at weight sum : ℕ) → at + left ≤ m → m ≤ length s
    → read_groups left (take m s) start at weight sum ≡ read_groups left s start at weight sum
unfolding read_groups
read_groups-take zero m s start at weight sum h le = refl
read_groups-take (suc left) m s start at weight sum h le =
    let short : at < length (take m s) = rw (length-take-le m s le) (omega arith) in
    let within : at < m = omega arith in
    rw (
      lt-leb (length (take m s)) at short,
      lt-leb (length s) at (omega arith),
      get_or-take m s at 0 within,
      read_groups-take left m s start (suc at) (weight * 128) (sum + weight * (get_or s at 0 - 128)) (omega arith) le,
    )
