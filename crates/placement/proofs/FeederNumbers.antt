-- The numbers after the rows: accepted exactly where they are read and within their limits. Assumes nothing.
use Prim.Native.Nat.{ℕ, zero, suc, ◌+◌, ◌*◌, ◌-◌, ◌≤◌, ◌<◌, max}
use native.Mathlib.Omega.{arith}
use mathlib.Core.Path.{◌≡◌, refl, ap, subst}
use mathlib.Core.Bool.{Bool, true, false}
use mathlib.Core.List.{List, [], ◌∷◌}
use mathlib.Core.Option.{Option, none, some}
use lib.ListN.{length, take}
use Rattle.lists.specs.Lists.{All}
use Rattle.refusal.specs.Checked.{accepted}
use Rattle.refusal.proofs.Checked.{accepted-injective, bind-elim, bind_congr}
use Rattle.number.specs.Numbers.{read_within}
use Rattle.number.proofs.Within.{read-of-read_within, read_within-accepted}
use Rattle.layers.specs.Layers.{NodesReading}
use Rattle.layers.proofs.NumbersRead.{Reads, reads-le, reads-next}
use Rattle.layers.proofs.Prefix.{read_within-next, read_within-take}
use Rattle.placement.specs.Feeders.{Feeders, FeederLimits, FeedersFit, FeedersReading, fed, feeder_numbers, read_each, read_numbered, read_feeders}

-- `left` feeders below g
pub record EachBelow (g left : ℕ) (each : List ℕ) : Type 0 where
  pub number : length each ≡ left
  pub below : All (λ f. f < g) each

-- "a feeder below g for each node"
pub reads-of-read_each : (g left : ℕ) (s : List ℕ) (at : ℕ) {d : NodesReading} → 1 ≤ g → read_each g left s at ≡ accepted d
    → Reads d.nodes s at d.next × EachBelow g left d.nodes
unfolding read_each
reads-of-read_each g zero s at least e =
    subst (λ d. Reads d.nodes s at d.next × EachBelow g zero d.nodes) (accepted-injective e)
    (refl, record { number = refl; below = tt })
reads-of-read_each g (suc left) s at one e =
    bind-elim (read_within 0 (g - 1) s at) _ e λ feeder e₁ r₁.
    bind-elim (read_each g left s feeder.next) _ r₁ λ rest e₂ r₂.
    let (read, least, most) = read-of-read_within 0 (g - 1) s at e₁ in
    let (reads, within) = reads-of-read_each g left s feeder.next one e₂ in
    subst (λ d. Reads d.nodes s at d.next × EachBelow g (suc left) d.nodes) (accepted-injective r₂) (
      (feeder.next, read, reads),
      record { number = ap suc within.number; below = (omega arith, within.below) },
    )

pub read_each-accepted : (g left : ℕ) (s : List ℕ) (at : ℕ) (each : List ℕ) (next : ℕ) → Reads each s at next
    → EachBelow g left each → read_each g left s at ≡ accepted (record { nodes = each; next = next })
unfolding read_each
read_each-accepted g zero s at [] next reads w = rw reads
read_each-accepted g zero s at (v ∷ each) next reads w = let e = w.number in absurd (omega arith)
read_each-accepted g (suc left) s at [] next reads w = let e = w.number in absurd (omega arith)
read_each-accepted g (suc left) s at (v ∷ each) next (mid, read, reads) w =
    let most = w.below.0 in
    let number = w.number in
    rw (
      read_within-accepted 0 (g - 1) s at read (omega arith) (omega arith),
      read_each-accepted g left s mid each next reads (record { number = omega arith; below = w.below.1 }),
    )

module _ (n r k : ℕ) (s : List ℕ) (at : ℕ) where
  -- g, and these
  pub record Numbered (after : FeedersReading) : Type 0 where
    pub table : Feeders
    pub is : after.feeders ≡ some table
    pub reads : Reads (table.number ∷ table.each) s at after.next
    pub limits : FeederLimits n r k table

  pub reads-of-read_numbered : {after : FeedersReading} → read_numbered n r k s at ≡ accepted after → Numbered after
  unfolding read_numbered
  reads-of-read_numbered e =
      bind-elim (read_within (max (suc k) r) n s at) _ e λ g e₁ r₁.
      bind-elim (read_each g.value n s g.next) _ r₁ λ each e₂ r₂.
      let (read, least, most) = read-of-read_within (max (suc k) r) n s at e₁ in
      let (reads, within) = reads-of-read_each g.value n s g.next (omega arith) e₂ in
      subst Numbered (accepted-injective r₂)
      (record {
        table = record { number = g.value; each = each.nodes };
        is = refl;
        reads = (g.next, read, reads);
        limits =
            record {
              above-k = omega arith;
              least = omega arith;
              most = most;
              node-each = within.number;
              below = within.below;
            };
      })

  read_numbered-accepted : (table : Feeders) (next : ℕ) → Reads (table.number ∷ table.each) s at next → FeederLimits n r k table
      → read_numbered n r k s at ≡ accepted (record { feeders = some table; next = next })
  unfolding read_numbered
  read_numbered-accepted table next (mid, read, reads) l =
      let above = l.above-k in
      let least = l.least in
      rw (
        read_within-accepted (max (suc k) r) n s at read (omega arith) l.most,
        read_each-accepted table.number n s mid table.each next reads (record { number = l.node-each; below = l.below }),
      )

module _ (kind n r k : ℕ) (s : List ℕ) (at : ℕ) where
  -- in kind 6; a placement of another kind has none
  pub reads-of-read_feeders : {after : FeedersReading} → read_feeders kind n r k s at ≡ accepted after
      → Reads (feeder_numbers after.feeders) s at after.next × FeedersFit kind n r k after.feeders
  unfolding read_feeders
  reads-of-read_feeders {after} e = go (fed kind) refl
    where
      go : (b : Bool) → fed kind ≡ b
          → Reads (feeder_numbers after.feeders) s at after.next × FeedersFit kind n r k after.feeders
      go false is =
          subst (λ after. Reads (feeder_numbers after.feeders) s at after.next × FeedersFit kind n r k after.feeders)
          (accepted-injective (rw is at e)) (refl, is)
      go true is =
          let h = reads-of-read_numbered n r k s at (rw is at e) in
          rw h.is (h.reads, (is, h.limits))

  pub read_feeders-accepted : (feeders : Option Feeders) (next : ℕ) → Reads (feeder_numbers feeders) s at next
      → FeedersFit kind n r k feeders
      → read_feeders kind n r k s at ≡ accepted (record { feeders = feeders; next = next })
  unfolding read_feeders
  read_feeders-accepted none next here is = rw (is, here) refl
  read_feeders-accepted (some table) next reads (is, l) = rw is (read_numbered-accepted n r k s at table next reads l)

-- how many numbers there are
pub feeders-count : (kind n r k : ℕ) (feeders : Option Feeders) → FeedersFit kind n r k feeders → length (feeder_numbers feeders) ≤ suc n
feeders-count kind n r k none f = omega arith
feeders-count kind n r k (some table) f = let number = f.1.node-each in omega arith

-- They end at most 1,024 bytes further on.
pub read_feeders-next : (kind n r k : ℕ) (s : List ℕ) (at : ℕ) {after : FeedersReading} → n ≤ 255
    → read_feeders kind n r k s at ≡ accepted after → (at ≤ after.next) × (after.next ≤ at + 1_024)
read_feeders-next kind n r k s at {after} few e =
    let (reads, fit) = reads-of-read_feeders kind n r k s at e in
    let count = feeders-count kind n r k after.feeders fit in
    let next = reads-next (feeder_numbers after.feeders) s at after.next reads in
    (reads-le (feeder_numbers after.feeders) s at after.next reads, omega arith)

module _ (m : ℕ) (s : List ℕ) (long : m ≤ length s) where
  read_each-take : (g left at : ℕ) → at + left * 4 ≤ m → read_each g left (take m s) at ≡ read_each g left s at
  unfolding read_each
  read_each-take g zero at h = refl
  read_each-take g (suc left) at h =
      bind_congr _ _ _ _ (read_within-take m s long 0 (g - 1) at (omega arith)) λ feeder e₁.
      let next = read_within-next 0 (g - 1) (take m s) at e₁ in
      bind_congr _ _ _ _ (read_each-take g left feeder.next (omega arith)) (λ rest e₂. refl)

  -- from the first m bytes
  pub read_feeders-take : (kind n r k at : ℕ) → n ≤ 255 → at + 1_024 ≤ m
      → read_feeders kind n r k (take m s) at ≡ read_feeders kind n r k s at
  unfolding read_feeders read_numbered
  read_feeders-take kind n r k at few h = go (fed kind) refl
    where
      go : (b : Bool) → fed kind ≡ b → read_feeders kind n r k (take m s) at ≡ read_feeders kind n r k s at
      go false is = rw is refl
      go true is =
          rw
          is
          (bind_congr _ _ _ _ (read_within-take m s long (max (suc k) r) n at (omega arith)) λ g e₁.
          let next = read_within-next (max (suc k) r) n (take m s) at e₁ in
          bind_congr _ _ _ _ (read_each-take g.value n g.next (omega arith)) (λ each e₂. refl))
