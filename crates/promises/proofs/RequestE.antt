-- Document 02's request (e), "Estates made of chunks", as theorems in its words: of joining as it is defined, then of the calls, whose
-- contract is `JoinDone` of `join`. Assumes nothing.
use Prim.Native.Nat.{ℕ, ◌+◌, ◌*◌, ◌/◌, ◌≤◌, ◌<◌, ◌∣◌}
use Rattle.std.specs.Prelude.{Result}
use native.Mathlib.Omega.{arith}
use mathlib.Core.Path.{◌≡◌, refl, sym, ◌∙◌, ap, subst}
use mathlib.Core.Logic.{◌↔◌}
use mathlib.Core.Bool.{true, false, ◌&&◌}
use mathlib.Core.List.{List, [], ◌∷◌, ◌++◌, map}
use lib.ListN.{length, take, drop, length-append, length-drop}
use lib.Seq.{take_at, drop_at}
use lib.Dec.{T, leb, eqb, le→leb}
use borrow.Author.Tests.{le-leb, eq-eqb}
use Rattle.lists.specs.Lists.{All, every, largest}
use Rattle.lists.proofs.Tests.{T_true, true-T, T-not-false, and_both}
use Rattle.lists.proofs.Alls.{all-imp, all_map, all-every}
use Rattle.refusal.specs.declared.Refusal.{Refusal}
use Rattle.refusal.specs.declared.Refusal.TheVariants.{Unjoinable, ShortOutput}
use Rattle.refusal.specs.Refusals.{result, refusal}
use Rattle.refusal.specs.Checked.{Checked, accepted, refused, outcome}
use Rattle.refusal.proofs.Checked.{map_accepted-accepted}
use Rattle.number.specs.Numbers.{Bytes}
use Rattle.packing.specs.Rows.{member, Packing}
use Rattle.layers.specs.Layers.{Layer, Located, heads_of, sizes}
use Rattle.layers.specs.declared.LayerHead.{LayerHead}
use Rattle.pack.specs.Pack.{Pack, GoodPack, bytes_of_pack, read_pack, check_pack}
use Rattle.pack.specs.Answers.{pack_checked, pack_outcome, pack_values}
use Rattle.pack.proofs.Accepted.{pack-accepted-iff, pack-told}
use Rattle.pack.proofs.Written.{pack-written-bytes}
use Rattle.placement.specs.Placement.{OrderLimits}
use Rattle.split.specs.Splits.{has_block}
use Rattle.planner.specs.Planning.{plan, work_needed, output_needed}
use Rattle.planner.specs.Answers.{PlanDone}
use Rattle.planner.specs.declared.PlanResult.{PlanResult}
use Rattle.join.specs.Lcm.{lcm}
use Rattle.join.specs.Join.{Chunk, joint_mu, joint_rows, joint_layer, first_r, joined_pack, within_limits, joinable, check_packs, write_joined, join_packs, join}
use Rattle.join.specs.Answers.{joined, join_outcome, join_values, JoinDone}
use Rattle.join.proofs.Lcm.{lcm-left, lcm-right, lcm-divides}
use Rattle.join.proofs.Mu.{MuLeast, MultipleOf, joint_mu-multiple, joint_mu-divides, copies-times-mu}
use Rattle.join.proofs.Layers.{ChunkPacking, part, nodes_of, joint-packing, joint-split, parts-apart}
use Rattle.join.proofs.Good.{Joins, joins_of}
use Rattle.join.proofs.Whole.{JoinedFrom, joined-from, join-accepted, first-refused, then-13, then-11}
use Rattle.promises.proofs.Says.{not-both}
use Rattle.promises.proofs.Planned.{Kept, demand-3-written}

-- "the least common multiple": a multiple of each, and it divides every common multiple
pub e-least-common-multiple : (a b : ℕ) → 0 < a → 0 < b
    → (a ∣ lcm a b) × (b ∣ lcm a b) × ((c : ℕ) → a ∣ c → b ∣ c → lcm a b ∣ c)
e-least-common-multiple a b pa pb = (lcm-left a b, lcm-right a b pb, λ c ha hb. lcm-divides a b c pa pb ha hb)

-- "The joined mu is the least common multiple of the mu's of the packs that have blocks in that layer, or 1 if none has."
pub e-joined-mu : (heads : List LayerHead) → All MuLeast heads
    → All (MultipleOf (joint_mu heads)) heads × ((c : ℕ) → All (MultipleOf c) heads → joint_mu heads ∣ c)
e-joined-mu heads least = (joint_mu-multiple heads least, λ c h. joint_mu-divides heads c least h)

-- "repeated .. until its mu times the copies is the joined mu"
pub e-copies : (mu : ℕ) (head : LayerHead) → MultipleOf mu head → 0 < head.size → mu / head.bound * head.bound ≡ mu
e-copies = copies-times-mu

-- "The joining fact is shown for any x": the joined layer of any list of packings is a packing with the joined mu.
pub e-packing : (x : ℕ) (chunks : List Chunk) → All (ChunkPacking x) chunks
    → Packing x (joint_layer chunks).bound (joint_layer chunks).rows
e-packing = joint-packing

-- Each pack's rows stand after those of the packs before it, its node numbers "after the ones before".
pub e-rows : (mu before : ℕ) (first : List Chunk) (chunk : Chunk) (more : List Chunk)
    → joint_rows mu before (first ++ (chunk ∷ more))
    ≡ joint_rows mu before first ++ (part mu (before + nodes_of first) chunk ++ joint_rows mu (before + nodes_of first + chunk.nodes) more)
e-rows = joint-split

-- Blocks of different chunks share no node.
pub e-share-no-node : (mu x before after : ℕ) (chunk other : Chunk) → ChunkPacking x chunk → before + chunk.nodes ≤ after
    → All (λ a. All (λ b. (v : ℕ) → T (member v a) → T (member v b) → ⊥) (part mu after other)) (part mu before chunk)
e-share-no-node = parts-apart

-- What a result is: every pack is accepted, they can be joined, and it is their joined pack, which fits the output.
pub e-joined : (files : List (List ℕ)) (output : ℕ) (p : Pack) → join files output ≡ accepted p → JoinedFrom files output p
e-joined = joined-from

-- "The joined pack is accepted by the pack checker", as exactly the joined pack
pub e-accepted : (files : List (List ℕ)) (output : ℕ) (p : Pack) → 0 < length files → join files output ≡ accepted p
    → GoodPack p × (check_pack (bytes_of_pack p) ≡ accepted p)
e-accepted = join-accepted

-- "and planning on it has the same guarantee": demand 3 for the joined bytes
pub e-guarantee : (files : List (List ℕ)) (output : ℕ) (p : Pack) → 0 < length files → join files output ≡ accepted p
    → (s k b : ℕ) → OrderLimits p.n p.r (record { s = s; k = k; b = b }) → T (has_block (heads_of p.layers) s)
    → (work work-left out out-left : List ℕ) (given : PlanResult)
    → work_needed s b ≤ length work → output_needed b p.r ≤ length out
    → PlanDone (plan (bytes_of_pack p) (record { s = s; k = k; b = b }) (length work) (length out)) work work-left out out-left given
    → Kept p s k b work work-left out out-left given
e-guarantee files output p some e s k b =
    let (good, checked) = join-accepted files output p some e in
    let bytes = pack-written-bytes p good in
    demand-3-written (bytes_of_pack p) p bytes ((pack-accepted-iff (bytes_of_pack p) p bytes).0 checked) s k b

-- "The first pack that isn't accepted gives its refusal, the place counted from that pack's first byte"
pub e-first-refused : (before : List (List ℕ)) (packs : List Pack) (file : List ℕ) (after : List (List ℕ)) (output : ℕ) (e : Refusal)
    → check_packs before ≡ accepted packs → check_pack file ≡ refused e → join (before ++ (file ∷ after)) output ≡ refused e
e-first-refused = first-refused

-- "then 13 if r differs or if joined nodes, rows or a mu pass document 01's limits"
pub e-then-13 : (files : List (List ℕ)) (packs : List Pack) (output : ℕ) → check_packs files ≡ accepted packs → joinable packs ≡ false
    → join files output ≡ refused Unjoinable
e-then-13 = then-13

-- "then 11 if the output is shorter than the joined pack"
pub e-then-11 : (files : List (List ℕ)) (packs : List Pack) (output : ℕ) → check_packs files ≡ accepted packs → joinable packs ≡ true
    → output < length (bytes_of_pack (joined_pack packs))
    → join files output ≡ refused (ShortOutput (length (bytes_of_pack (joined_pack packs))))
e-then-11 = then-11

-- "A call that only writes answers the bytes .. written", or a refusal's number and place.
pub e-answer : (c : Checked Pack) → join_outcome (joined c) ≡ outcome join_values c
e-answer (accepted p) = refl
e-answer (refused e) = refl

-- A refusal leaves the output as it was.
pub e-unchanged : (e : Refusal) (out out-left : List ℕ) (given : Result ℕ Refusal) → JoinDone (refused e) out out-left given → out-left ≡ out
e-unchanged e out out-left given done = done.output-after

-- the largest is at most what every number is at most
largest-within : (l : List ℕ) (m : ℕ) → All (λ v. v ≤ m) l → largest l ≤ m
unfolding largest
largest-within [] m h = omega arith
largest-within (n ∷ l) m h = omega (arith, h.0, largest-within l m h.1)

-- What 13 is not given for, in its words: every pack has the first one's r, and the joined nodes are at most 255, the joined rows 4,096
-- and every joined mu 4,096.
pub e-joinable : (packs : List Pack) → T (joinable packs) ↔ Joins packs
unfolding joinable
e-joinable packs = (
  joins_of packs,
  λ j.
      let p = joined_pack packs in
      let bounds : List ℕ = map (λ (layer : Layer). layer.bound) p.layers in
      let rows = sizes (heads_of p.layers) in
      let mu = largest-within bounds 4_096 (all_map (λ v. v ≤ 4_096) (λ (layer : Layer). layer.bound) p.layers j.mu-most) in
      and_both (every (λ (q : Pack). eqb q.r (first_r packs)) packs) (within_limits p)
      (all-every (λ (q : Pack). eqb q.r (first_r packs)) packs
      (all-imp _ _ (λ (q : Pack) e. T_true (eq-eqb q.r (first_r packs) e)) packs j.same-r))
      (and_both (leb p.n 255 && leb rows 4_096) (leb (largest bounds) 4_096)
      (and_both (leb p.n 255) (leb rows 4_096) (le→leb p.n 255 j.n-most) (le→leb rows 4_096 j.rows-most))
      (le→leb (largest bounds) 4_096 mu)),
)

-- What is promised of a call on packs that are all accepted and can be joined. It was lent `out`, left `out-left` in it and answered
-- `given`.
pub record JoinKept (packs : List Pack) (out out-left : List ℕ) (given : Result ℕ Refusal) : Type 0 where
  -- "A call that only writes answers the bytes .. written."
  pub answered : join_outcome given ≡ result (length (bytes_of_pack (joined_pack packs)) ∷ [])
  -- the joined pack stands at the output's start, a file of kind 4; the bytes after it are as before
  pub written : take (length (bytes_of_pack (joined_pack packs))) out-left ≡ bytes_of_pack (joined_pack packs)
  pub are-bytes : Bytes (bytes_of_pack (joined_pack packs))
  pub rest : drop (length (bytes_of_pack (joined_pack packs))) out-left ≡ drop (length (bytes_of_pack (joined_pack packs))) out
  pub same_length : length out-left ≡ length out
  -- "The joined pack is accepted by the pack checker": of exactly these bytes it answers the joined pack's values
  pub first : ℕ
  pub checked : pack_outcome (pack_checked (read_pack (bytes_of_pack (joined_pack packs))))
      ≡ result (pack_values (record { content = joined_pack packs; first = first }))
  pub accepts : check_pack (bytes_of_pack (joined_pack packs)) ≡ accepted (joined_pack packs)

-- "and planning on it has the same guarantee": demand 3 for a plan from the bytes that the call has written
pub e-call-guarantee : {packs : List Pack} {joint joint-left : List ℕ} {wrote : Result ℕ Refusal} → JoinKept packs joint joint-left wrote
    → (s k b : ℕ) → OrderLimits (joined_pack packs).n (joined_pack packs).r (record { s = s; k = k; b = b })
    → T (has_block (heads_of (joined_pack packs).layers) s)
    → (work work-left out out-left : List ℕ) (given : PlanResult)
    → work_needed s b ≤ length work → output_needed b (joined_pack packs).r ≤ length out
    → PlanDone (plan (take (length (bytes_of_pack (joined_pack packs))) joint-left) (record { s = s; k = k; b = b }) (length work) (length out))
    work work-left out out-left given
    → Kept (joined_pack packs) s k b work work-left out out-left given
e-call-guarantee {packs} kept s k b limits block work work-left out out-left given hw ho done =
    let p = joined_pack packs in
    demand-3-written (bytes_of_pack p) p kept.are-bytes ((pack-accepted-iff (bytes_of_pack p) p kept.are-bytes).0 kept.accepts)
    s k b limits block work work-left out out-left given hw ho (rw kept.written at done)

-- The calls' contract: `files` are the one, two or three packs that `join_one`, `join_two` or `join_three` was given.
module _ (files : List (List ℕ)) (out out-left : List ℕ) (given : Result ℕ Refusal) (done : JoinDone (join files (length out)) out out-left given) where
  -- what an accepted answer leaves
  join_kept : (packs : List Pack) → 0 < length files → join files (length out) ≡ accepted (joined_pack packs)
      → JoinKept packs out out-left given
  unfolding check_pack
  join_kept packs some is =
      let p = joined_pack packs in
      let wrote = bytes_of_pack p in
      let (good, accept) = e-accepted files (length out) p some is in
      let fits = (e-joined files (length out) p is).fits in
      let d : JoinDone (accepted p) out out-left given = subst (λ m. JoinDone m out out-left given) is done in
      let (file, read, same) = map_accepted-accepted (λ (f : Located Pack). f.content) (read_pack wrote) accept in
      let found : read_pack wrote ≡ accepted (record { content = p; first = file.first }) =
      read ∙ (λ i. accepted (record { content = same i; first = file.first })) in
      record {
        answered = ap join_outcome d.given_is;
        written = rw d.output-after (take_at wrote (drop (length wrote) out) (length wrote) refl);
        are-bytes = pack-written-bytes p good;
        rest = rw d.output-after (drop_at wrote (drop (length wrote) out) (length wrote) refl);
        same_length =
            ap length d.output-after ∙ omega (arith, length-append wrote (drop (length wrote) out), length-drop (length wrote) out);
        first = file.first;
        checked = ap (λ c. pack_outcome (pack_checked c)) found ∙ pack-told wrote (record { content = p; first = file.first }) found;
        accepts = accept;
      }

  -- packs that are all accepted and can be joined, with an output as long as the joined pack, are joined
  pub e-call : (packs : List Pack) → 0 < length files → check_packs files ≡ accepted packs → Joins packs
      → length (bytes_of_pack (joined_pack packs)) ≤ length out → JoinKept packs out out-left given
  unfolding join join_packs write_joined
  e-call packs some good joins fits =
      join_kept packs some
      (rw (good, true-T (joinable packs) ((e-joinable packs).1 joins), le-leb (length (bytes_of_pack (joined_pack packs))) (length out) fits))

  -- a result is given for no others
  pub e-call-result : {values : List ℕ} → 0 < length files → join_outcome given ≡ result values
      → (packs : List Pack) × (check_packs files ≡ accepted packs) × Joins packs × JoinKept packs out out-left given
  e-call-result {values} some says = go (join files (length out)) refl
    where
      go : (c : Checked Pack) → join files (length out) ≡ c
          → (packs : List Pack) × (check_packs files ≡ accepted packs) × Joins packs × JoinKept packs out out-left given
      go (accepted p) is =
          let j = e-joined files (length out) p is in
          (j.packs, j.checked, j.joins, join_kept j.packs some (is ∙ ap accepted j.is-joined))
      go (refused e) is = absurd (not-both (sym (ap join_outcome (subst (λ m. JoinDone m out out-left given) is done).given_is) ∙ says))

  -- a refusal is answered with its number and place, and leaves the output as it was
  join-refused : (e : Refusal) {number place : ℕ} → join files (length out) ≡ refused e → join_outcome (joined (refused e)) ≡ refusal number place
      → (join_outcome given ≡ refusal number place) × (out-left ≡ out)
  join-refused e is says =
      let d : JoinDone (refused e) out out-left given = subst (λ m. JoinDone m out out-left given) is done in
      (ap join_outcome d.given_is ∙ says, e-unchanged e out out-left given d)

  -- "then 13 if r differs or if joined nodes, rows or a mu pass document 01's limits"
  pub e-call-13 : (packs : List Pack) → check_packs files ≡ accepted packs → (Joins packs → ⊥)
      → (join_outcome given ≡ refusal 13 0) × (out-left ≡ out)
  e-call-13 packs good cannot =
      let no_joins = T-not-false (joinable packs) (λ t. cannot ((e-joinable packs).0 t)) in
      join-refused Unjoinable (e-then-13 files packs (length out) good no_joins) refl

  -- "then 11 if the output is shorter than the joined pack", its place the bytes needed
  pub e-call-11 : (packs : List Pack) → check_packs files ≡ accepted packs → Joins packs
      → length out < length (bytes_of_pack (joined_pack packs))
      → (join_outcome given ≡ refusal 11 (length (bytes_of_pack (joined_pack packs)))) × (out-left ≡ out)
  e-call-11 packs good joins short =
      join-refused (ShortOutput (length (bytes_of_pack (joined_pack packs))))
      (e-then-11 files packs (length out) good (true-T (joinable packs) ((e-joinable packs).1 joins)) short) refl

-- "The first pack that isn't accepted gives its refusal, the place counted from that pack's first byte": what the pack checker answers
-- of it alone
pub e-call-refused : (before : List (List ℕ)) (packs : List Pack) (file : List ℕ) (after : List (List ℕ)) (out out-left : List ℕ)
    (given : Result ℕ Refusal) {number place : ℕ}
    → JoinDone (join (before ++ (file ∷ after)) (length out)) out out-left given
    → check_packs before ≡ accepted packs
    → pack_outcome (pack_checked (read_pack file)) ≡ refusal number place
    → (join_outcome given ≡ refusal number place) × (out-left ≡ out)
unfolding check_pack
e-call-refused before packs file after out out-left given {number} {place} done good says = go (read_pack file) refl says
  where
    go : (c : Checked (Located Pack)) → read_pack file ≡ c → pack_outcome (pack_checked c) ≡ refusal number place
        → (join_outcome given ≡ refusal number place) × (out-left ≡ out)
    go (accepted found) is p = absurd (not-both (sym p))
    go (refused e) is p =
        let bad : check_pack file ≡ refused e = rw is in
        join-refused (before ++ (file ∷ after)) out out-left given done e (e-first-refused before packs file after (length out) e good bad) p
