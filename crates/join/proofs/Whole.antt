-- Joining as a whole: what an accepted answer is, and the order of refusals. Assumes nothing.
use Prim.Native.Nat.{ℕ, suc, ◌≤◌, ◌<◌}
use native.Mathlib.Omega.{arith}
use mathlib.Core.Path.{◌≡◌, refl, sym, ◌∙◌, ap, subst}
use mathlib.Core.Bool.{true, false}
use mathlib.Core.List.{List, [], ◌∷◌, ◌++◌}
use lib.ListN.{length}
use lib.Dec.{leb}
use borrow.Author.Tests.{leb-true, lt-leb}
use Rattle.lists.specs.Lists.{All}
use Rattle.lists.proofs.Tests.{T_true}
use Rattle.refusal.specs.declared.Refusal.{Refusal}
use Rattle.refusal.specs.declared.Refusal.TheVariants.{Unjoinable, ShortOutput}
use Rattle.refusal.specs.Checked.{accepted, refused}
use Rattle.refusal.proofs.Checked.{accepted-injective, bind-elim, map_accepted-accepted, require-bind-accepted}
use Rattle.pack.specs.Pack.{Pack, GoodPack, bytes_of_pack, read_pack, check_pack}
use Rattle.pack.proofs.Accepted.{read-of-pack}
use Rattle.join.specs.Join.{joined_pack, joinable, check_packs, write_joined, join_packs, join}
use Rattle.join.proofs.Good.{Joins, joins_of, joined-good, joined-accepted}

-- an accepted pack is good
good_of : (file : List ℕ) (p : Pack) → check_pack file ≡ accepted p → GoodPack p
unfolding check_pack
good_of file p e =
    let (found, read, same) = map_accepted-accepted (λ f. f.content) (read_pack file) e in
    (read-of-pack file p found.first (read ∙ (λ i. accepted (record { content = same i; first = found.first })))).1

pub checked-good : (files : List (List ℕ)) (packs : List Pack) → check_packs files ≡ accepted packs
    → All GoodPack packs × (length packs ≡ length files)
unfolding check_packs
checked-good [] packs e = subst (λ ps. All GoodPack ps × (length ps ≡ 0)) (accepted-injective e) (tt, refl)
checked-good (file ∷ files) packs e =
    bind-elim (check_pack file) _ e λ p e₁ r₁.
    bind-elim (check_packs files) _ r₁ λ more e₂ r₂.
    let (good, count) = checked-good files more e₂ in
    subst (λ ps. All GoodPack ps × (length ps ≡ suc (length files))) (accepted-injective r₂) ((good_of file p e₁, good), ap suc count)

-- What an accepted answer is: the joined pack of the packs, which can be joined and fits the output.
pub record JoinedFrom (files : List (List ℕ)) (output : ℕ) (p : Pack) : Type 0 where
  pub packs : List Pack
  pub checked : check_packs files ≡ accepted packs
  pub joins : Joins packs
  pub is-joined : p ≡ joined_pack packs
  pub fits : length (bytes_of_pack p) ≤ output

pub joined-from : (files : List (List ℕ)) (output : ℕ) (p : Pack) → join files output ≡ accepted p → JoinedFrom files output p
unfolding join join_packs write_joined
joined-from files output p e =
    bind-elim (check_packs files) _ e λ packs e₁ r₁.
    let (can, r₂) = require-bind-accepted (joinable packs) Unjoinable _ r₁ in
    let size = length (bytes_of_pack (joined_pack packs)) in
    let (room, r₃) = require-bind-accepted (leb size output) (ShortOutput size) _ r₂ in
    let same : joined_pack packs ≡ p = accepted-injective r₃ in
    record {
      packs = packs;
      checked = e₁;
      joins = joins_of packs (T_true can);
      is-joined = sym same;
      fits = rw same at (leb-true size output room);
    }

-- "The joined pack is accepted by the pack checker", as exactly the joined pack.
pub join-accepted : (files : List (List ℕ)) (output : ℕ) (p : Pack) → 0 < length files → join files output ≡ accepted p
    → GoodPack p × (check_pack (bytes_of_pack p) ≡ accepted p)
join-accepted files output p some e =
    let j = joined-from files output p e in
    let (good, count) = checked-good files j.packs j.checked in
    let are : 0 < length j.packs = omega arith in
    subst (λ q. GoodPack q × (check_pack (bytes_of_pack q) ≡ accepted q)) (sym j.is-joined)
    (joined-good j.packs are good j.joins, joined-accepted j.packs are good j.joins)

-- "The first pack that isn't accepted gives its refusal, the place counted from that pack's first byte"
stops : (before : List (List ℕ)) (packs : List Pack) (file : List ℕ) (after : List (List ℕ)) (e : Refusal)
    → check_packs before ≡ accepted packs → check_pack file ≡ refused e → check_packs (before ++ (file ∷ after)) ≡ refused e
unfolding check_packs
stops [] packs file after e good bad = rw bad
stops (first ∷ before) packs file after e good bad =
    bind-elim (check_pack first) _ good λ p e₁ r₁.
    bind-elim (check_packs before) _ r₁ λ more e₂ r₂.
    rw (e₁, stops before more file after e e₂ bad)

pub first-refused : (before : List (List ℕ)) (packs : List Pack) (file : List ℕ) (after : List (List ℕ)) (output : ℕ) (e : Refusal)
    → check_packs before ≡ accepted packs → check_pack file ≡ refused e → join (before ++ (file ∷ after)) output ≡ refused e
unfolding join
first-refused before packs file after output e good bad = rw (stops before packs file after e good bad)

-- "then 13", and "then 11"
pub then-13 : (files : List (List ℕ)) (packs : List Pack) (output : ℕ) → check_packs files ≡ accepted packs → joinable packs ≡ false
    → join files output ≡ refused Unjoinable
unfolding join join_packs
then-13 files packs output good cannot = rw (good, cannot)

pub then-11 : (files : List (List ℕ)) (packs : List Pack) (output : ℕ) → check_packs files ≡ accepted packs → joinable packs ≡ true
    → output < length (bytes_of_pack (joined_pack packs))
    → join files output ≡ refused (ShortOutput (length (bytes_of_pack (joined_pack packs))))
unfolding join join_packs write_joined
then-11 files packs output good can short = rw (good, can, lt-leb (length (bytes_of_pack (joined_pack packs))) output short)
