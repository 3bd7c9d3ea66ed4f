-- Parts of a working slice, and entries that are stored in it one after another. Assumes nothing.
use Prim.Native.Nat.{ℕ, zero, suc, ◌+◌, ◌-◌, ◌≤◌, ◌<◌}
use native.Mathlib.Nat.{le_refl, add-zero, add-suc}
use native.Mathlib.Omega.{arith}
use mathlib.Core.Path.{◌≡◌, refl, sym, ap, ◌∙◌}
use mathlib.Core.List.{List, [], ◌∷◌, ◌++◌, map, append-nil, append_assoc}
use lib.ListN.{length, get_or, take, drop, take-append-drop}
use lib.Seq.{sets, sets-eq, length-sets, get_or-take, get_or-drop, take-add}
use Rattle.lists.specs.Lists.{up_to}
use Rattle.lists.proofs.UpTo.{map-up_to-suc, map-up_to-congr, length-map-up_to, get_d-map-up_to}
use Rattle.lists.proofs.Parts.{slice-eq-take-drop}
use Rattle.lists.proofs.Stores.{take-sets-le, drop-sets-ge, take-drop-sets, sets-append, stored_to}
use Rattle.split.specs.Working.{part}

get_d_part : (a k : ℕ) (l : List ℕ) (i : ℕ) → i < k → get_or (part a k l) i 0 ≡ get_or l (a + i) 0
get_d_part a k l i h = get_or-take k (drop a l) i 0 h ∙ get_or-drop a l i 0

-- a part depends on the entries before its end
part-of-take : (a k : ℕ) (l : List ℕ) → part a k l ≡ drop a (take (a + k) l)
part-of-take a k l =
    let e : a + k - a ≡ k = omega arith in
    sym (slice-eq-take-drop a (a + k) l ∙ rw e refl)

-- a run of stores leaves the parts before it
pub part-sets-before : (ys l : List ℕ) (at a k : ℕ) → a + k ≤ at → part a k (sets l at ys) ≡ part a k l
part-sets-before ys l at a k h =
    part-of-take a k (sets l at ys) ∙ ap (drop a) (take-sets-le ys l at (a + k) h) ∙ sym (part-of-take a k l)

-- entries stored from place `at` on leave what stands before it
get_d-before : (at : ℕ) (l : List ℕ) (f : ℕ → ℕ) (i j : ℕ) {work : List ℕ} → work ≡ stored_to at l f i → j < at
    → get_or work j 0 ≡ get_or l j 0
get_d-before at l f i j e h =
    rw e
    (sym (get_or-take at (stored_to at l f i) j 0 h)
    ∙ ap (λ (z : List ℕ). get_or z j 0) (take-sets-le (map f (up_to i)) l at at (omega arith))
    ∙ get_or-take at l j 0 h)

-- the entry below place i, which the entries written before it leave as it was
pub under-eq : (at w : ℕ) (before : List ℕ) (f : ℕ → ℕ) (i : ℕ) {work : List ℕ} → w ≤ at → i < w → work ≡ stored_to at before f i
    → get_or work (at - w + i) 0 ≡ get_or (part (at - w) w before) i 0
under-eq at w before f i back turn e =
    get_d-before at before f i (at - w + i) e (omega arith) ∙ sym (get_d_part (at - w) w before i turn)

-- entries stored from place `at` on: one of them, and the one that comes next
module _ (at : ℕ) (l : List ℕ) (f : ℕ → ℕ) where
  pub part-stored : (n : ℕ) → at + n ≤ length l → part at n (stored_to at l f n) ≡ map f (up_to n)
  part-stored n h =
      let e = length-map-up_to f n in
      rw e at (take-drop-sets (map f (up_to n)) l at (rw e h))

  pub get_d-stored : (n i : ℕ) → at + n ≤ length l → i < n → get_or (stored_to at l f n) (at + i) 0 ≡ f i
  get_d-stored n i h g =
      sym (get_d_part at n (stored_to at l f n) i g) ∙ ap (λ (z : List ℕ). get_or z i 0) (part-stored n h) ∙ get_d-map-up_to f n i 0 g

  pub get_d-next : (i : ℕ) {work : List ℕ} → work ≡ stored_to at l f i → get_or work (at + i) 0 ≡ get_or l (at + i) 0
  get_d-next i {work} e =
      let r = length-map-up_to f i in
      let d : drop (at + i) work ≡ drop (at + i) l = rw e (drop-sets-ge (map f (up_to i)) l at (at + i) (omega arith)) in
      let q : at + i + 0 ≡ at + i = omega arith in
      let a : get_or (drop (at + i) work) 0 0 ≡ get_or work (at + i) 0 = rw q at (get_or-drop (at + i) work 0 0) in
      let b : get_or (drop (at + i) l) 0 0 ≡ get_or l (at + i) 0 = rw q at (get_or-drop (at + i) l 0 0) in
      sym a ∙ ap (λ (z : List ℕ). get_or z 0 0) d ∙ b

-- a run stored over a run of the same length
pub sets-sets : (l : List ℕ) (at : ℕ) (xs ys : List ℕ) → length xs ≡ length ys → at + length ys ≤ length l
    → sets (sets l at xs) at ys ≡ sets l at ys
sets-sets l at xs ys e h =
    let r = length-sets l at xs in
    sets-eq ys (sets l at xs) at (rw r h)
    ∙ rw (take-sets-le xs l at at (le_refl at), drop-sets-ge xs l at (at + length ys) (omega arith)) (sym (sets-eq ys l at h))

-- what stands there already is stored
pub stored_same : (at : ℕ) (l : List ℕ) (f : ℕ → ℕ) (n : ℕ) → at + n ≤ length l → part at n l ≡ map f (up_to n) → l ≡ stored_to at l f n
stored_same at l f n h e =
    let r = length-map-up_to f n in
    sym (sets-eq (map f (up_to n)) l at (rw r h) ∙ rw (r, ← e) (ap (λ (z : List ℕ). z ++ drop (at + n) l) (sym (take-add at n l)) ∙ take-append-drop (at + n) l))

map-up_to-add : (f : ℕ → ℕ) (a b : ℕ) → map f (up_to (a + b)) ≡ map f (up_to a) ++ map (λ i. f (a + i)) (up_to b)
unfolding up_to
map-up_to-add f a zero = rw (add-zero a) (sym (append-nil (map f (up_to a))))
map-up_to-add f a (suc b) =
    rw (add-suc a b, map-up_to-suc f (a + b), map-up_to-suc (λ i. f (a + i)) b, map-up_to-add f a b)
    (append_assoc (map f (up_to a)) (map (λ i. f (a + i)) (up_to b)) (f (a + b) ∷ []))

-- the entries from place `back` on are stored anew, and those before it stay
pub stored-tail : (at : ℕ) (l : List ℕ) (f g h : ℕ → ℕ) (back n : ℕ) → at + (back + n) ≤ length l
    → ((i : ℕ) → i < back → f i ≡ g i) → ((i : ℕ) → i < n → h i ≡ g (back + i))
    → sets (stored_to at l f (back + n)) (at + back) (map h (up_to n)) ≡ stored_to at l g (back + n)
stored-tail at l f g h back n fits same anew =
    let head = map-up_to-congr f g back same in
    let tail = map-up_to-congr h (λ i. g (back + i)) n anew in
    let len = length-map-up_to g back in
    let parts : (k : ℕ → ℕ) → map k (up_to back) ≡ map g (up_to back)
    → stored_to at l k (back + n) ≡ sets (stored_to at l g back) (at + back) (map (λ i. k (back + i)) (up_to n)) =
    λ k e. rw (map-up_to-add k back n, sets-append l at (map k (up_to back)) (map (λ i. k (back + i)) (up_to n)), e, len) refl in
    let a = length-map-up_to (λ i. f (back + i)) n in
    let b = length-map-up_to h n in
    let s = length-sets l at (map g (up_to back)) in
    rw (parts f head)
    (sets-sets (stored_to at l g back) (at + back) (map (λ i. f (back + i)) (up_to n)) (map h (up_to n)) (a ∙ sym b) (rw (b, s) (omega arith))
    ∙ rw tail (sym (parts g refl)))
