-- What the code's answers say of reading n, r and the list, and the layers' numbers. Assumes nothing.
use Prim.Native.Nat.{ℕ, ◌≤◌, ◌<◌}
use Rattle.std.specs.Prelude.{Result, Ok}
use native.Mathlib.Omega.{arith}
use mathlib.Core.Path.{◌≡◌, refl, sym, ◌∙◌, ap}
use mathlib.Core.List.{List}
use lib.ListN.{length, take}
use Rattle.lists.proofs.Alls.{all-imp}
use Rattle.refusal.specs.declared.Refusal.{Refusal}
use Rattle.refusal.specs.Checked.{accepted}
use Rattle.refusal.proofs.Answered.{answered-ok}
use Rattle.layers.specs.Layers.{BaseReading, LayerHeads, head_numbers, read_base, read_layers}
use Rattle.layers.specs.Answers.{no_head, five_heads, dark_of, dark_list, site_of, base_of, DarkFits, base_read, layers_read}
use Rattle.layers.specs.declared.BaseRead.{BaseRead}
use Rattle.layers.specs.declared.FileKind.{FileKind}
use Rattle.layers.specs.declared.LayerLimits.{LayerLimits}
use Rattle.layers.specs.declared.LayersRead.{LayersRead}
use Rattle.layers.proofs.NumbersRead.{reads-le-length}
use Rattle.layers.proofs.Listing.{dark-below, dark-count, dark_list-dark_of}
use Rattle.layers.proofs.Heads.{HeadsWithin, BaseHeld, held-of-read_base, read_base-inside, reads-of-read_layers}
use Rattle.layers.proofs.Arrays.{take-five}

-- The kind, n, r and the list were read: they are the code's numbers, and within their limits.
pub record BaseGood (file : FileKind) (s : List ℕ) (read : BaseRead) : Type 0 where
  pub accepts : read_base file s ≡ accepted (record { kind = read.kind; base = site_of read.base; next = read.next })
  pub array : read.base.dark ≡ dark_of (dark_list read.base.dark)
  pub fits : DarkFits read.base.dark
  pub held : BaseHeld file s (record { kind = read.kind; base = site_of read.base; next = read.next })
  pub inside : read.next ≤ length s

pub base-good : (file : FileKind) (s : List ℕ) {given : Result BaseRead Refusal} {read : BaseRead}
    → given ≡ base_read (read_base file s) → given ≡ Ok read → BaseGood file s read
base-good file s {read = read} is good = let (b, r, a) = answered-ok _ (read_base file s) is good in go b r a
  where
    go : (b : BaseReading) → read_base file s ≡ accepted b → read ≡ record { kind = b.kind; base = base_of b.base; next = b.next }
        → BaseGood file s read
    go b r a =
        let held = held-of-read_base file s r in
        let n-most = held.limits.n-most in
        let count = dark-count b.base.n b.base.dark held.dark.ordered in
        let few : length b.base.dark ≤ 255 = omega arith in
        let list : dark_list read.base.dark ≡ b.base.dark =
        ap (λ (r : BaseRead). dark_list r.base.dark) a ∙ dark_list-dark_of b.base.dark few in
        let same : ◌≡◌ {A = BaseReading} b (record { kind = read.kind; base = site_of read.base; next = read.next }) =
        rw (list, a) refl in
        record {
          accepts = r ∙ ap accepted same;
          array = ap (λ (r : BaseRead). r.base.dark) a ∙ ap dark_of (sym list);
          fits =
              record {
                few = rw a few;
                bytes = rw list (all-imp (λ v. v < b.base.n) (λ v. v < 256) (λ v h. omega arith) b.base.dark (dark-below b.base.n b.base.dark held.dark.ordered));
              };
          held = rw (← same) held;
          inside = rw a (read_base-inside file s r);
        }

module _ (limits : LayerLimits) (layers room : ℕ) (s : List ℕ) (at : ℕ) where
  -- The layers' numbers were read: they are the array's first, and within their limits.
  pub record LayersGood (read : LayersRead) : Type 0 where
    pub accepts : read_layers limits layers room s at ≡ accepted (record { heads = take layers read.heads; next = read.next })
    pub array : read.heads ≡ five_heads (take layers read.heads)
    pub within : HeadsWithin limits layers room (take layers read.heads)
    pub inside : at ≤ length s → read.next ≤ length s

  pub layers-good : {given : Result LayersRead Refusal} {read : LayersRead}
      → given ≡ layers_read (read_layers limits layers room s at) → given ≡ Ok read → layers ≤ 5 → LayersGood read
  layers-good {read = read} is good few = let (h, r, a) = answered-ok _ (read_layers limits layers room s at) is good in go h r a
    where
      go : (h : LayerHeads) → read_layers limits layers room s at ≡ accepted h
          → read ≡ record { heads = five_heads h.heads; next = h.next } → LayersGood read
      go h r a =
          let (reads, within) = reads-of-read_layers limits layers room s at r in
          let heads : take layers read.heads ≡ h.heads =
          rw a (take-five no_head h.heads layers within.layer-each few) in
          let next : read.next ≡ h.next = ap (λ r. r.next) a in
          record {
            accepts = r ∙ (λ i. accepted (record { heads = sym heads i; next = sym next i }));
            array = ap (λ r. r.heads) a ∙ ap five_heads (sym heads);
            within = rw heads within;
            inside = λ k. rw next (reads-le-length (head_numbers h.heads) s at h.next k reads);
          }
