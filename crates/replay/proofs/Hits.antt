-- The records' replicas on nodes that are down, raised and lowered one entry at a time. Assumes nothing.
use Prim.Native.Nat.{ℕ, suc, ◌+◌, ◌-◌, ◌≤◌, ◌<◌}
use native.Mathlib.Omega.{arith}
use native.Mathlib.Numerals.{add-one}
use mathlib.Core.Path.{◌≡◌, refl, sym, ◌∙◌, ap}
use mathlib.Core.List.{List}
use lib.ListN.{length, get_or, set, length-set}
use lib.Dec.{ltb, eqb}
use Rattle.lists.specs.Lists.{tally}
use Rattle.lists.proofs.Counts.{count-le-length}
use Rattle.worst.specs.Records.{few, raised_to, lowered_to}
use Rattle.worst.specs.Searches.{Named}
use Rattle.worst.specs.declared.Entries.{Entries}
use Rattle.worst.proofs.Among.{among-mono}
use Rattle.worst.proofs.Hits.{count_set, threshold, reached-le, few-after, among-itself, Inside, get_d-raised, get_d-lowered}
use Rattle.replay.specs.Board.{index_of, hits_of, Raising, Restoring, Hit}
use Rattle.replay.proofs.Parts.{get_d-index, get_d-hits, length-hits, length-index, before-hit, hits-hit, index-before}

-- one record with a replica less
module _ (s : ℕ) (hits : List ℕ) (i : ℕ) (lt : i < length hits) (some : 1 ≤ get_or hits i 0) where
  pub few-lowered : few s (set hits i (get_or hits i 0 - 1)) ≡ few s hits + tally (eqb (get_or hits i 0) s) 0
  few-lowered =
      let e : get_or hits i 0 - 1 + 1 ≡ get_or hits i 0 = omega arith in
      let t = rw e at (threshold (get_or hits i 0 - 1) s) in
      omega (arith, count_set (λ h. ltb h s) hits i (get_or hits i 0 - 1) lt, t)

pub few-le : (s : ℕ) (hits : List ℕ) → few s hits ≤ length hits
few-le s hits = count-le-length (λ h. ltb h s) hits

-- both loops: entry `seen` names record i
module _ (s b : ℕ) (board : List ℕ) (entries : Entries) (long : length board ≡ 25_089) (small : b ≤ 4_096)
    (named : Named (index_of board) (hits_of board b) entries) (hits bd : List ℕ) (left seen : ℕ) (hit : Hit s b board hits bd left)
    (same : length bd ≡ 25_089) (more : seen < entries.count) (i : ℕ)
    (names : i ≡ get_or bd (entries.from + seen) 0) where
  pub place_inside : entries.from + seen < 20_737
  place_inside = omega (arith, named.inside, length-index board long)

  pub names-index : i ≡ get_or (index_of board) (entries.from + seen) 0
  names-index =
      names ∙ sym (get_d-index bd (entries.from + seen) place_inside)
      ∙ ap (λ l. get_or l (entries.from + seen) 0) (index-before board bd hit.before)

  pub record-small : i < b
  record-small = omega (arith, named.records seen more, names-index, length-hits board long b small)

  pub replicas-are : get_or bd (20_993 + i) 0 ≡ get_or hits i 0
  replicas-are = sym (get_d-hits bd b i record-small) ∙ ap (λ l. get_or l i 0) hit.hits-are

  pub hits-long : length hits ≡ b
  hits-long = sym (ap length hit.hits-are) ∙ length-hits bd same b small

  -- a store there
  pub stored : (h left' : ℕ) → left' ≡ few s (set hits i h) → Hit s b board (set hits i h) (set bd (20_993 + i) h) left'
  stored h left' e =
      record {
        before = before-hit bd i h ∙ hit.before;
        hits-are = hits-hit bd b i h record-small ∙ ap (λ l. set l i h) hit.hits-are;
        left_is = e;
      }

-- a node goes down
module _ (s b : ℕ) (board : List ℕ) (entries : Entries) (long : length board ≡ 25_089) (small : b ≤ 4_096)
    (pre : Raising board b entries) where
  abbrev pub raised_by : ℕ → List ℕ
  raised_by seen = raised_to (index_of board) (hits_of board b) entries.from seen

  pub raise-start : {left : ℕ} → left ≡ few s (hits_of board b) → Hit s b board (raised_to (index_of board) (hits_of board b) entries.from 0) board left
  unfolding raised_to
  raise-start e = record { before = refl; hits-are = refl; left_is = e }

  module _ (bd : List ℕ) (left seen : ℕ) (hit : Hit s b board (raised_to (index_of board) (hits_of board b) entries.from seen) bd left) (same : length bd ≡ 25_089)
      (more : seen < entries.count) (i : ℕ) (names : i ≡ get_or bd (entries.from + seen) 0) where
    inside : Inside (index_of board) entries.from seen (length (hits_of board b))
    inside q lt = pre.named.records q (omega arith)

    at-index : i ≡ get_or (index_of board) (entries.from + seen) 0
    at-index = names-index s b board entries long small pre.named (raised_by seen) bd left seen hit same more i names

    raise-lt : i < length (raised_to (index_of board) (hits_of board b) entries.from seen)
    raise-lt =
        omega (
          arith,
          record-small s b board entries long small pre.named (raised_by seen) bd left seen hit same more i names,
          hits-long s b board entries long small pre.named (raised_by seen) bd left seen hit same more i names,
        )

    pub raise-replicas : get_or bd (20_993 + i) 0 ≡ get_or (raised_to (index_of board) (hits_of board b) entries.from seen) i 0
    raise-replicas = replicas-are s b board entries long small pre.named (raised_by seen) bd left seen hit same more i names

    -- one more fits
    pub raise-room : get_or bd (20_993 + i) 0 + 1 ≤ 65_535
    raise-room =
        omega (
          arith,
          raise-replicas,
          get_d-raised (index_of board) (hits_of board b) entries.from seen inside i,
          pre.room i,
          among-mono (eqb i) (index_of board) entries.from (suc seen) entries.count more,
          rw (← at-index) at (among-itself (index_of board) entries.from seen),
        )

    pub raise-left : tally (eqb (get_or bd (20_993 + i) 0 + 1) s) 0 ≤ left
    raise-left =
        rw raise-replicas (omega (arith, hit.left_is, reached-le s (raised_by seen) i raise-lt))

    pub raise-next : {reached : ℕ} → reached ≡ tally (eqb (get_or bd (20_993 + i) 0 + 1) s) 0
        → Hit s b board (raised_to (index_of board) (hits_of board b) entries.from (seen + 1)) (set bd (20_993 + i) (get_or bd (20_993 + i) 0 + 1)) (left - reached)
    unfolding raised_to
    raise-next {reached} e =
        let next : set (raised_by seen) i (get_or (raised_by seen) i 0 + 1) ≡ raised_to (index_of board) (hits_of board b) entries.from (suc seen) =
        ap (λ j. set (raised_by seen) j (get_or (raised_by seen) j 0 + 1)) at-index in
        let reaches : reached ≡ tally (eqb (get_or (raised_by seen) i 0 + 1) s) 0 = e ∙ ap (λ h. tally (eqb (h + 1) s) 0) raise-replicas in
        rw (add-one seen, ← next, raise-replicas)
        (stored s b board entries long small pre.named (raised_by seen) bd left seen hit same more i names (get_or (raised_by seen) i 0 + 1) (left - reached)
        (few-after s (raised_by seen) i raise-lt hit.left_is reaches))

-- a node comes up
module _ (s b : ℕ) (board : List ℕ) (entries : Entries) (long : length board ≡ 25_089) (small : b ≤ 4_096)
    (pre : Restoring board b entries) where
  abbrev restored_by : ℕ → List ℕ
  restored_by seen = lowered_to (index_of board) (hits_of board b) entries.from seen

  pub restore-start : {left : ℕ} → left ≡ few s (hits_of board b) → Hit s b board (lowered_to (index_of board) (hits_of board b) entries.from 0) board left
  unfolding lowered_to
  restore-start e = record { before = refl; hits-are = refl; left_is = e }

  module _ (bd : List ℕ) (left seen : ℕ) (hit : Hit s b board (lowered_to (index_of board) (hits_of board b) entries.from seen) bd left) (same : length bd ≡ 25_089)
      (more : seen < entries.count) (i : ℕ) (names : i ≡ get_or bd (entries.from + seen) 0) where
    inside' : Inside (index_of board) entries.from seen (length (hits_of board b))
    inside' q lt = pre.named.records q (omega arith)

    at-index' : i ≡ get_or (index_of board) (entries.from + seen) 0
    at-index' = names-index s b board entries long small pre.named (restored_by seen) bd left seen hit same more i names

    restore-lt : i < length (lowered_to (index_of board) (hits_of board b) entries.from seen)
    restore-lt =
        omega (
          arith,
          record-small s b board entries long small pre.named (restored_by seen) bd left seen hit same more i names,
          hits-long s b board entries long small pre.named (restored_by seen) bd left seen hit same more i names,
        )

    pub restore-replicas : get_or bd (20_993 + i) 0 ≡ get_or (lowered_to (index_of board) (hits_of board b) entries.from seen) i 0
    restore-replicas = replicas-are s b board entries long small pre.named (restored_by seen) bd left seen hit same more i names

    -- there is one to take away
    pub restore-some : 1 ≤ get_or bd (20_993 + i) 0
    restore-some =
        let held = pre.held i in
        let upto = among-mono (eqb i) (index_of board) entries.from (suc seen) entries.count more in
        let itself = rw (← at-index') at (among-itself (index_of board) entries.from seen) in
        omega (
          arith,
          restore-replicas,
          get_d-lowered (index_of board) (hits_of board b) entries.from seen inside' i (omega arith),
        )

    pub restore-left : {back : ℕ} → back ≡ tally (eqb (get_or bd (20_993 + i) 0) s) 0 → left + back ≤ b
    restore-left {back} e =
        let law = few-lowered s (restored_by seen) i restore-lt (rw restore-replicas at restore-some) in
        let back_is : back ≡ tally (eqb (get_or (restored_by seen) i 0) s) 0 = e ∙ ap (λ h. tally (eqb h s) 0) restore-replicas in
        omega (
          arith,
          hit.left_is,
          few-le s (set (restored_by seen) i (get_or (restored_by seen) i 0 - 1)),
          length-set (restored_by seen) i (get_or (restored_by seen) i 0 - 1),
          hits-long s b board entries long small pre.named (restored_by seen) bd left seen hit same more i names,
        )

    pub restore-next : {back : ℕ} → back ≡ tally (eqb (get_or bd (20_993 + i) 0) s) 0
        → Hit s b board (lowered_to (index_of board) (hits_of board b) entries.from (seen + 1)) (set bd (20_993 + i) (get_or bd (20_993 + i) 0 - 1)) (left + back)
    unfolding lowered_to
    restore-next {back} e =
        let next : set (restored_by seen) i (get_or (restored_by seen) i 0 - 1) ≡ lowered_to (index_of board) (hits_of board b) entries.from (suc seen) =
        ap (λ j. set (restored_by seen) j (get_or (restored_by seen) j 0 - 1)) at-index' in
        let back_is : back ≡ tally (eqb (get_or (restored_by seen) i 0) s) 0 = e ∙ ap (λ h. tally (eqb h s) 0) restore-replicas in
        let law = few-lowered s (restored_by seen) i restore-lt (rw restore-replicas at restore-some) in
        rw (add-one seen, ← next, restore-replicas)
        (stored s b board entries long small pre.named (restored_by seen) bd left seen hit same more i names (get_or (restored_by seen) i 0 - 1) (left + back)
        (omega (arith, hit.left_is, law, back_is)))
