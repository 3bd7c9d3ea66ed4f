-- What `certify` writes is the same for the first 32,768 bytes of the input, which is what it reads. Assumes nothing.
use Prim.Native.Nat.{ℕ}
use native.Mathlib.Omega.{arith}
use mathlib.Core.Path.{◌≡◌}
use mathlib.Core.List.{List}
use lib.ListN.{take}
use Rattle.certify.specs.Certify.{certify}
use Rattle.certify.proofs.Prefix.{check_bare-take}
use Rattle.replies.proofs.Prefix.{numbers-buffer}
use Rattle.reply_certify.specs.Certify.{certify_text, certify_reply}

-- no byte after the first 32,768 changes what `certify` writes
pub certify-buffer : (arguments input : List ℕ) → certify_reply arguments (take 32_768 input) ≡ certify_reply arguments input
unfolding certify_text certify
certify-buffer arguments input =
    numbers-buffer 0 _ (λ _ bare. certify_text bare) (omega arith)
    (λ m numbers file h. rw (check_bare-take m file (omega arith))) arguments input
