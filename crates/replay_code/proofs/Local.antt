-- A local array of 16-bit numbers in a walk: it is made of zeros, lent as a slice for a call, and comes back as room. Its length n is a
-- variable here, so that no list of it is ever written out.
--     big              a constant whose bound a proof shows, as an operand
--     zeros-typed, zeros-lie      the array of n zeros is one of its type; where it was stored its n elements are in memory
--     lends-numbers    n numbers in memory are lent for κ as a `&mut [u16]` of length n
--     numbers-back     once κ is over, the numbers that the slice showed last are in memory
--     numbers-room     n numbers in memory are room for an array of n
-- Assumes `Logic`.
use mathlib.Core.Path.{◌≡◌, refl, sym, subst}
use Prim.Native.Nat.{ℕ, zero, suc}
use mathlib.Core.List.{List, [], ◌∷◌}
use lib.ListN.{length, get_or, replicate, length-replicate}
use lib.Dec.{T, lit<}
use Rattle.lists.proofs.Parts.{get_d-zeros}
use seplogic.Ra.Ura.{Ura}
use base.Fraction.{full_share}
use mir.Syntax.{Lifetime, Width, w16, ty_int, ty_array, int_big}
use mir.Val.{Val, vint, Fits, WT, has_ty}
use base.Logic.{ent, sep, ex, via, guard_i}
use base.Fml.{Lft, GName, Fml, fat}
use prog.Wp.{Env}
use types.Logic.{Logic, sem}
use types.Kit.{Item, ‵, ◌⊛◌, some, ◌$◌, ◌∵◌, !, qed, by, move, keep, drop, use0, use1, use2, split, pick, rewrite, fsplit, fjoin, feq_l, feq_i, show, done}
use types.Run.{Opd, forget}
use types.SemTy.{cells, Arr}
use types.Share.{arr_parts}
use denote.Builtin.{u16}
use denote.Memory.{part_at, mem, shares}
use denote.Shadow.{shadow}
use denote.Laws.{Is}
use denote.Plain.{uint_Lawful, uint_Makes}
use denote.Array.{Array, array_val, each, Array-Lawful, Array-Makes}
use denote.ArrayMemory.{Array-apart, Array-whole}
use denote.Slice.{slice_val, MutSlice, Room, finally}
use denote.Lend.{Held, lends_slice, slice_back}
use borrow.Table.OneValue.{part_in, part_out}
use borrow.Rule.Slice.Shared.{parts-cells}

module _ {M : Type 1} {𝓤 : Ura M} {𝓛 : Logic 𝓤} {K : Type 0} {Γ : List (Item 𝓤)} {E : Env 𝓤 𝓛.H} where
  pub big : K → {w : Width} {n : ℕ} → Fits w n → Opd K 𝓛 Γ E (int_big w n) (vint w n)
  big t {w} {n} fits = record { go = λ Kt h. via 𝓤 (Kt (vint w n)) h (guard_i 𝓤 (Fits w n) (Kt (vint w n)) fits) }

-- n zeros, as a list of which no more is said
abbrev pub Zeros : ℕ → Type 0
Zeros n = (ys : List ℕ) × ((length ys ≡ n) × ((i : ℕ) → get_or ys i 0 ≡ 0))

-- an array of n zeros as a machine value
abbrev pub zeros : ℕ → Val
zeros n = array_val (replicate n (vint w16 0))

each-is : (n : ℕ) → shadow (each ℕ u16.own_val (replicate n 0) (replicate n (vint w16 0)))
each-is zero = tt
each-is (suc n) = ((refl, lit< tt), each-is n)

zeros-is : (n : ℕ) → Is (Array u16 n) (replicate n 0) (zeros n ∷ [])
zeros-is n = (replicate n (vint w16 0), ((refl, length-replicate n 0), each-is n))

module _ {M : Type 1} {𝓤 : Ura M} (𝓛 : Logic 𝓤) (n b : ℕ) where
  open 𝓛 use {H, A}

  pub zeros-typed : T (has_ty (ty_array (ty_int w16) n) (zeros n)) × WT (zeros n)
  zeros-typed = ((Array-Lawful 𝓛 u16 (uint_Lawful 𝓛 w16) n).typed (replicate n 0) (zeros n ∷ []) (zeros-is n)).0

  -- n numbers in memory, at the block's start
  abbrev pub Lies : List ℕ → Fml
  Lies ys = (Arr (mem u16) n).own_at ys b 0

  pub zeros-lie : ent 𝓤 (H.at full_share (ty_array (ty_int w16) n) b 0 (zeros n)) (ex 𝓤 (λ (z : Zeros n). sem 𝓛 (Lies z.0)))
  zeros-lie =
      qed 𝓛 (‵ (fat full_share (ty_array (ty_int w16) n) b 0 (zeros n)) ∷ []) ∵
      use0 𝓛 (‵ ((Array u16 n).own_val (replicate n 0) (zeros n ∷ []))) (Array-Makes 𝓛 u16 (uint_Makes 𝓛 w16) n (replicate n 0) (zeros n ∷ []) (zeros-is n)) $ move ! (1 ∷ 0 ∷ []) $
      use2 𝓛 (‵ (part_at (Array u16 n) full_share (replicate n 0) b 0)) (part_in 𝓛 (Array u16 n) refl full_share (replicate n 0) b 0 (zeros n)) $
      use1 𝓛 (‵ ((arr_parts (shares u16) n).part full_share (replicate n 0) b 0)) (Array-apart 𝓛 u16 full_share tt n (replicate n 0) b 0) $
      fsplit ! $ drop ! $ rewrite ! 0 (λ (F : Fml). ‵ F) (parts-cells u16 full_share (replicate n 0) b 0) refl $
      feq_i ! ℕ (length (replicate n 0)) n (length-replicate n 0) $ fjoin ! $
      show ! (λ (z : Zeros n). sem 𝓛 (Lies z.0)) (replicate n 0, (length-replicate n 0, get_d-zeros n)) $ done !

  abbrev lent_at : GName → List ℕ → Lifetime → Lft → Fml
  lent_at γ ys ℓ κ = (MutSlice ℓ κ u16).own_val (record { ref_ptr = (b, 0); ghost_name = γ; now = ys }) (slice_val (b, 0) n ∷ [])

  pub lends-numbers : (ys : List ℕ) (ℓ : Lifetime) (κ : Lft) → length ys ≡ n → Room u16 n → ent 𝓤 (sem 𝓛 (Lies ys))
      (H.⇛ (ex 𝓤 (λ (γ : GName). sep 𝓤 (sem 𝓛 (lent_at γ ys ℓ κ)) (A.lent κ (Held u16 n b 0 γ)))))
  lends-numbers ys ℓ κ e room =
      qed 𝓛 (‵ (Lies ys) ∷ []) ∵ fsplit ! $ drop ! $
      by ! (subst (λ (m : ℕ). ent 𝓤 (sem 𝓛 (cells (mem u16) ys b 0))
      (H.⇛ (ex 𝓤 (λ (γ : GName). sep 𝓤 (sem 𝓛 ((MutSlice ℓ κ u16).own_val (record { ref_ptr = (b, 0); ghost_name = γ; now = ys }) (slice_val (b, 0) m ∷ []))) (A.lent κ (Held u16 m b 0 γ)))))) e
      (lends_slice 𝓛 u16 ℓ κ ys b 0 (subst (Room u16) (sym e) room)))

  pub numbers-back : (κ : Lft) (γ : GName) (ys : List ℕ) → ent 𝓤 (sep 𝓤 (A.dead κ) (sep 𝓤 (A.lent κ (Held u16 n b 0 γ)) (sem 𝓛 (finally u16 γ ys))))
      (H.⇛ (sem 𝓛 (Lies ys)))
  numbers-back κ γ ys = slice_back 𝓛 u16 κ γ ys n b 0

  pub numbers-room : (ys : List ℕ) → ent 𝓤 (sem 𝓛 (Lies ys)) (H.room (ty_array (ty_int w16) n) b 0)
  numbers-room ys =
      qed 𝓛 (‵ (Lies ys) ∷ []) ∵ fsplit ! $ feq_l ! (λ l. rewrite ! 0 (λ (F : Fml). ‵ F) (sym (parts-cells u16 full_share ys b 0)) refl $
      feq_i ! ℕ (length ys) n l $ fjoin ! $ use1 𝓛 (‵ (part_at (Array u16 n) full_share ys b 0)) (Array-whole 𝓛 u16 full_share n ys b 0) $
      use1 𝓛 (some (λ (v : Val). ‵ (fat full_share (ty_array (ty_int w16) n) b 0 v) ⊛ ‵ ((Array u16 n).own_val ys (v ∷ []))))
      (part_out 𝓛 (Array u16 n) refl full_share ys b 0) $ pick ! (λ v. split ! $ forget ! 0 refl $ keep ! (0 ∷ []) $ done !))
