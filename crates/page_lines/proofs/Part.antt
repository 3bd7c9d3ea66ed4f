-- A part of a slice that is written anew. Assumes nothing.
use Prim.Native.Nat.{ℕ, ◌+◌, ◌-◌, ◌≤◌}
use native.Mathlib.Omega.{arith}
use mathlib.Core.Path.{◌≡◌, sym, ◌∙◌, ap}
use mathlib.Core.List.{List, ◌++◌, append_assoc}
use lib.ListN.{length, take, drop}
use lib.Seq.{sets, sets-eq, drop-drop}
use borrow.Rule.Slice.PartMut.{put_mid}

-- a text of n characters in the part from `at` to `at + n`
pub put-part : (out text : List ℕ) (at n : ℕ) → n ≡ length text → at + n ≤ length out → put_mid at (at + n - at) out text ≡ sets out at text
put-part out text at n e h =
    let wide : at + n - at ≡ length text = omega arith in
    ap (λ k. take at out ++ (text ++ drop k (drop at out))) wide
    ∙ ap (λ l. take at out ++ (text ++ l)) (drop-drop (length text) at out)
    ∙ sym (append_assoc (take at out) text (drop (at + length text) out))
    ∙ sym (sets-eq text out at (omega arith))
