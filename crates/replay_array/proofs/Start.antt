-- A local array in a walk whose first m elements are lent as a `&[T]` for a call. Its length n is a variable here, so that no list of it
-- is ever written out.
--     lends-start      the array, where it was stored, is lent for κ as a `&[T]` of its first m elements, where its elements can be shared
--                      for as long as the tokens ts last, which are handed back
--     start_back       once κ is over, it is room again
-- Assumes `Logic`.
use mathlib.Core.Path.{◌≡◌, refl, sym, subst}
use Prim.Native.Nat.{ℕ, ◌≤◌}
use mathlib.Core.List.{List, [], ◌∷◌, ◌++◌}
use lib.ListN.{length, take, drop, take-append-drop}
use seplogic.Ra.Ura.{Ura}
use base.Fraction.{full_share}
use mir.Syntax.{Lifetime, Ty, ty_array}
use mir.Val.{Val}
use base.Logic.{ent, sep}
use base.Fml.{Lft, Fml, Incl, fat, fdead, flent}
use ghost.Rules.{Toks, span}
use denote.Shares.{SharesAsFrom}
use types.Logic.{Logic, sem, lfts}
use types.Kit.{‵, raw, move, ◌⊛◌, some, later, ◌$◌, ◌∵◌, !, qed, keep, drop as drops, use1, use2, split, pick, rewrite, fsplit, fjoin, feq_i, frame, await, updating, now as at_once, done}
use types.Run.{forget}
use types.Tokens.{lent_back}
use types.SemTy.{cells}
use types.Share.{arr_parts}
use denote.RattleType.{RattleType}
use denote.Memory.{part_at, lone, mem, shares, shared_of}
use denote.Array.{Array}
use denote.ArrayMemory.{Single, Array-apart, Array-whole}
use denote.Slice.{slice_val, ShrSlice, Room}
use denote.Lend.{lends_shr_slice}
use borrow.Table.OneValue.{part_in, part_out}
use borrow.Table.Elements.{at, cut_app, join_app}
use lib.Seq.{length-take-le}
use borrow.Rule.Slice.Shared.{parts-cells}

module _ {M : Type 1} {𝓤 : Ura M} (𝓛 : Logic 𝓤) (R : RattleType) (single : Single R.mir)
    (n b m : ℕ) (xs : List R.Denot) where
  open 𝓛 use {H, A}

  abbrev cell : Ty
  cell = ty_array (lone R.mir) n

  -- the first m elements in memory, as a slice has them, and the others
  abbrev pub Start : Fml
  Start = (arr_parts (shares R) m).part full_share (take m xs) b 0

  abbrev pub Others : Fml
  Others = cells (mem R) (drop m xs) b (at 0 (mem R).size (length (take m xs)))

  abbrev lent_at : Lifetime → Lft → Fml
  lent_at ℓ κ = (ShrSlice ℓ κ R).own_val (record { ref_ptr = (b, 0); now = take m xs }) (slice_val (b, 0) m ∷ [])

  taken : length xs ≡ n → m ≤ n → length (take m xs) ≡ m
  taken e le = length-take-le m xs (subst (λ (k : ℕ). m ≤ k) (sym e) le)

  pub lends-start : (v : Val) (ℓ : Lifetime) (κ : Lft) → length xs ≡ n → m ≤ n → Room R m
      → (l : Lft) → SharesAsFrom 𝓛 full_share R (shared_of R) l → (ts : Toks) → Incl (span ts) l → Incl (span ts) κ
      → ent 𝓤 (sep 𝓤 (H.at full_share cell b 0 v) (sep 𝓤 (sem 𝓛 ((Array R n).own_val xs (v ∷ []))) (lfts 𝓛 ts)))
      (H.⇛ (sep 𝓤 (sem 𝓛 (lent_at ℓ κ)) (sep 𝓤 (A.lent κ Start) (sep 𝓤 (lfts 𝓛 ts) (sem 𝓛 Others)))))
  lends-start v ℓ κ e le room l shared ts within long =
      qed 𝓛 (‵ (fat full_share cell b 0 v) ∷ ‵ ((Array R n).own_val xs (v ∷ [])) ∷ raw (lfts 𝓛 ts) ∷ []) ∵ updating ! $
      use2 𝓛 (‵ (part_at (Array R n) full_share xs b 0)) (part_in 𝓛 (Array R n) refl full_share xs b 0 v) $
      use1 𝓛 (‵ ((arr_parts (shares R) n).part full_share xs b 0)) (Array-apart 𝓛 R full_share single n xs b 0) $
      fsplit ! $ drops ! $ rewrite ! 0 (λ (F : Fml). ‵ F) (parts-cells R full_share xs b 0) refl $
      rewrite ! 0 (λ (ys : List R.Denot). ‵ (cells (mem R) ys b 0)) (sym (take-append-drop m xs)) refl $
      use1 𝓛 (‵ (cells (mem R) (take m xs) b 0) ⊛ ‵ Others) (cut_app 𝓛 (mem R) (take m xs) (drop m xs) b 0) $ split ! $
      rewrite ! 0 (λ (F : Fml). ‵ F) (sym (parts-cells R full_share (take m xs) b 0)) refl $
      feq_i ! ℕ (length (take m xs)) m (taken e le) $ fjoin ! $ move ! (0 ∷ 2 ∷ []) $
      use2 𝓛 (later ((‵ (lent_at ℓ κ) ⊛ ‵ (flent κ Start)) ⊛ raw (lfts 𝓛 ts)))
      (subst (λ (k : ℕ). ent 𝓤 (sep 𝓤 (sem 𝓛 ((arr_parts (shares R) k).part full_share (take m xs) b 0)) (lfts 𝓛 ts))
      (H.⇛ (sep 𝓤 (sep 𝓤 (sem 𝓛 ((ShrSlice ℓ κ R).own_val (record { ref_ptr = (b, 0); now = take m xs }) (slice_val (b, 0) k ∷ [])))
      (A.lent κ ((arr_parts (shares R) k).part full_share (take m xs) b 0))) (lfts 𝓛 ts)))) (taken e le)
      (lends_shr_slice 𝓛 R ℓ κ full_share (take m xs) b 0 (subst (Room R) (sym (taken e le)) room) l shared ts within long)) $ await ! tt $
      split ! $ split ! $ at_once ! $ frame ! $ frame ! $ frame ! $ done !

  pub start_back : (κ : Lft) → length xs ≡ n → ent 𝓤 (sep 𝓤 (A.dead κ) (sep 𝓤 (A.lent κ Start) (sem 𝓛 Others))) (H.⇛ (H.room cell b 0))
  start_back κ e =
      qed 𝓛 (‵ (fdead κ) ∷ ‵ (flent κ Start) ∷ ‵ Others ∷ []) ∵ updating ! $ lent_back ! tt $ fsplit ! $ drops ! $
      rewrite ! 0 (λ (F : Fml). ‵ F) (parts-cells R full_share (take m xs) b 0) refl $
      use2 𝓛 (‵ (cells (mem R) (take m xs ++ drop m xs) b 0)) (join_app 𝓛 (mem R) (take m xs) (drop m xs) b 0) $
      rewrite ! 0 (λ (ys : List R.Denot). ‵ (cells (mem R) ys b 0)) (take-append-drop m xs) refl $
      rewrite ! 0 (λ (F : Fml). ‵ F) (sym (parts-cells R full_share xs b 0)) refl $ feq_i ! ℕ (length xs) n e $ fjoin ! $
      use1 𝓛 (‵ (part_at (Array R n) full_share xs b 0)) (Array-whole 𝓛 R full_share n xs b 0) $
      use1 𝓛 (some (λ (v : Val). ‵ (fat full_share cell b 0 v) ⊛ ‵ ((Array R n).own_val xs (v ∷ []))))
      (part_out 𝓛 (Array R n) refl full_share xs b 0) $ pick ! (λ v. split ! $ forget ! 0 refl $ at_once ! $ keep ! (0 ∷ []) $ done !)
