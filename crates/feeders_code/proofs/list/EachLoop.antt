-- Reading the feeders of the nodes one at a time: what each turn of the loop keeps, and what it answers; and the cases of reading
-- their number first. Assumes nothing.
use Prim.Native.Nat.{ℕ, suc, ◌+◌, ◌-◌, ◌≤◌, ◌<◌, max}
use Rattle.std.specs.Prelude.{Ok}
use native.Mathlib.Omega.{arith}
use native.Mathlib.Nat.{sub-zero}
use native.Mathlib.Numerals.{add-one}
use mathlib.Core.Path.{◌≡◌, refl, sym, ◌∙◌, ap}
use mathlib.Core.List.{List, [], ◌∷◌, ◌++◌, append_assoc, append-nil}
use mathlib.Core.Option.{some}
use lib.ListN.{length, set, replicate, length-append}
use Rattle.refusal.specs.declared.Refusal.{Refusal}
use Rattle.refusal.specs.Checked.{Checked, accepted, refused, ◌>>=◌, map_accepted}
use Rattle.number.specs.Numbers.{read_within}
use Rattle.number.specs.declared.Reading.{Reading}
use Rattle.number.proofs.Within.{read-of-read_within}
use Rattle.layers.specs.Layers.{NodesReading}
use Rattle.layers.specs.Answers.{nodes_array}
use Rattle.layers.proofs.Listing.{nodes_array-nil, nodes_array-snoc}
use Rattle.placement.specs.Feeders.{FeedersReading, read_each, read_numbered}
use Rattle.placement.specs.Answers.{feeders_read}

-- g, the feeders read before, and those that are read from here on
abbrev pub numbered : (g : ℕ) (done : List ℕ) → Checked NodesReading → Checked FeedersReading
numbered g done m =
    map_accepted (λ rest. record { feeders = some (record { number = g; each = done ++ rest.nodes }); next = rest.next }) m

numbered-snoc : (g : ℕ) (done : List ℕ) (v : ℕ) (m : Checked NodesReading)
    → numbered g (done ++ (v ∷ [])) m
    ≡ numbered g done (m >>= λ rest. accepted (record { nodes = v ∷ rest.nodes; next = rest.next }))
numbered-snoc g done v (accepted rest) = rw (append_assoc done (v ∷ []) rest.nodes)
numbered-snoc g done v (refused e) = refl

-- What each turn keeps: the feeders read so far, and those that are read from the present place on, are the whole.
pub record EachTurn (g count : ℕ) (s : List ℕ) (at : ℕ) (each : List ℕ) (next i : ℕ) : Type 0 where
  pub done : List ℕ
  pub number : length done ≡ i
  pub inside : i ≤ count
  pub each-are : each ≡ nodes_array done
  pub same : numbered g done (read_each g (count - i) s next) ≡ numbered g [] (read_each g count s at)

pub each-hold : (g count : ℕ) (s : List ℕ) (at : ℕ) → EachTurn g count s at (replicate 255 0) at 0
each-hold g count s at =
    record {
      done = [];
      number = refl;
      inside = omega arith;
      each-are = nodes_array-nil;
      same = rw (sub-zero count);
    }

module _ (g count : ℕ) (s : List ℕ) (at : ℕ) (each : List ℕ) (next i : ℕ) (turn : EachTurn g count s at each next i) where
  -- the loop ends: what was read is all
  pub each-done : count ≤ i
      → Ok (record { table = record { number = g; each = each }; next = next })
      ≡ feeders_read (numbered g [] (read_each g count s at))
  unfolding read_each
  each-done h =
      let none : count - i ≡ 0 = omega arith in
      let done = turn.done in
      let all : numbered g [] (read_each g count s at)
      ≡ accepted (record { feeders = some (record { number = g; each = done }); next = next }) =
      sym turn.same ∙ rw (none, append-nil done) in
      rw (all, turn.each-are)

  module _ (h : i < count) where
    left : count - i ≡ suc (count - i - 1)
    left = omega arith

    one-more : numbered g turn.done (read_each g (suc (count - i - 1)) s next) ≡ numbered g [] (read_each g count s at)
    one-more = ap (λ k. numbered g turn.done (read_each g k s next)) (sym left) ∙ turn.same

    pub each-no-feeder : {why : Refusal} → read_within 0 (g - 1) s next ≡ refused why
        → numbered g [] (read_each g count s at) ≡ refused why
    unfolding read_each
    each-no-feeder e = sym one-more ∙ rw e

    module _ {feeder : Reading} (e : read_within 0 (g - 1) s next ≡ accepted feeder) where
      pub feeder-most : g ≤ 255 → feeder.value ≤ 254
      feeder-most few = omega (arith, read-of-read_within 0 (g - 1) s next e)

      pub each_again : count ≤ 255 → EachTurn g count s at (set each i feeder.value) feeder.next (i + 1)
      unfolding read_each
      each_again most =
          let v = feeder.value in
          let done = turn.done in
          let fewer : count - (i + 1) ≡ count - i - 1 = omega arith in
          let after = read_each g (count - i - 1) s feeder.next in
          let here : read_each g (suc (count - i - 1)) s next
          ≡ (after >>= λ rest. accepted (record { nodes = v ∷ rest.nodes; next = rest.next })) = rw e in
          record {
            done = done ++ (v ∷ []);
            number = length-append done (v ∷ []) ∙ omega (arith, turn.number);
            inside = omega arith;
            each-are = rw turn.each-are (nodes_array-snoc done i v turn.number (omega arith));
            same = rw fewer (numbered-snoc g done v after ∙ ap (numbered g done) (sym here) ∙ one-more);
          }

-- The cases of `read_numbered`; `least` is the least number of feeders.
module _ (n r k least : ℕ) (s : List ℕ) (at : ℕ) (is : least ≡ max (k + 1) r) where
  pub no_number : {e : Refusal} → read_within least n s at ≡ refused e → read_numbered n r k s at ≡ refused e
  unfolding read_numbered
  no_number e = rw (rw (is, add-one k) at e)

  pub number-read : {g : Reading} → read_within least n s at ≡ accepted g
      → read_numbered n r k s at ≡ numbered g.value [] (read_each g.value n s g.next)
  unfolding read_numbered
  number-read {g} e = rw (rw (is, add-one k) at e) (each_of (read_each g.value n s g.next))
    where
      each_of : (m : Checked NodesReading)
          → (m >>= λ each. accepted (record { feeders = some (record { number = g.value; each = each.nodes }); next = each.next }))
          ≡ numbered g.value [] m
      each_of (accepted each) = refl
      each_of (refused e) = refl

  -- what reading the feeders asks of their number
  pub number_fits : {g : Reading} → read_within least n s at ≡ accepted g → n ≤ 255 → (1 ≤ g.value) × (g.value ≤ 255) × (n ≤ 255)
  number_fits e few =
      let (read, low, high) = read-of-read_within least n s at e in
      (omega arith, omega arith, few)
