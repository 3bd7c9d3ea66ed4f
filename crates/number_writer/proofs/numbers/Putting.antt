-- Numbers written one after another to a slice. Assumes nothing.
use Prim.Native.Nat.{ℕ, ◌+◌, ◌-◌, ◌≤◌, ◌<◌}
use Rattle.std.specs.Prelude.{Result, Ok, Err}
use native.Mathlib.Omega.{arith}
use mathlib.Core.Path.{◌≡◌, refl, sym, ◌∙◌, ap}
use mathlib.Core.List.{List, ◌++◌, flatten, append_assoc}
use lib.ListN.{length, get_or, take, drop, length-append, length-drop}
use lib.Seq.{take_at, take-length, drop_at, drop-drop}
use Rattle.lists.specs.Lists.{over_start}
use Rattle.lists.proofs.Writing.{given_back, take-drop-rest, append-rest}
use Rattle.refusal.specs.declared.Refusal.{Refusal}
use Rattle.refusal.specs.Checked.{accepted}
use Rattle.number.specs.Numbers.{largest_number, number_bytes, forms_of, write_number}
use Rattle.number.specs.Answers.{number_written}
use Rattle.number.proofs.Writing.{Answers, write_number-accepted}
use Rattle.number.proofs.Forms.{forms_of-take-suc, forms_of-take-le}

-- A number that fits was written into the part from `at` on, which was given back as `last`.
pub record Put (out last : List ℕ) (at v : ℕ) (answer : Result ℕ Refusal) : Type 0 where
  pub answered : answer ≡ Ok (length (number_bytes v))
  pub bytes : given_back out at last ≡ take at out ++ over_start (number_bytes v) (drop at out)

pub number_put : (out last : List ℕ) (at v : ℕ) (answer : Result ℕ Refusal)
    → (v ≤ largest_number) × (at + length (number_bytes v) ≤ length out)
    → Answers (take (length out - at) (drop at out)) v answer last → Put out last at v answer
number_put out last at v answer (fits, room) (is, left) =
    let part = take (length out - at) (drop at out) in
    let enough : length (number_bytes v) ≤ length part = rw (take-drop-rest out at, length-drop at out) (omega arith) in
    let accepts : write_number (length part) v ≡ accepted (number_bytes v) = write_number-accepted (length part) v fits enough in
    record {
      answered = is ∙ ap number_written accepts;
      bytes = append-rest out last at ∙ rw (left, accepts, take-drop-rest out at);
    }

module _ {out last : List ℕ} {at v : ℕ} {answer : Result ℕ Refusal} (put : Put out last at v answer) where
  pub put-length : {n : ℕ} → answer ≡ Ok n → n ≡ length (number_bytes v)
  put-length e = let a = put.answered in cc

  pub put-not-refused : {e : Refusal} → answer ≡ Err e → ⊥
  put-not-refused e = let a = put.answered in let z : ◌≡◌ {A = ℕ} 0 1 = cc in omega arith

-- `i` of the numbers are written. The next one begins at byte `at`; from there on the bytes are as they were.
pub record NumbersWritten (out₀ numbers out : List ℕ) (at i : ℕ) : Type 0 where
  pub within : i ≤ length numbers
  pub place : at ≡ length (forms_of (take i numbers))
  pub same : length out ≡ length out₀
  pub bytes : out ≡ forms_of (take i numbers) ++ drop at out₀

pub numbers_none : (out numbers : List ℕ) → NumbersWritten out numbers out 0 0
unfolding flatten
numbers_none out numbers = record { within = omega arith; place = refl; same = refl; bytes = refl }

module _ {out₀ numbers out : List ℕ} {at i : ℕ} (w : NumbersWritten out₀ numbers out at i) where
  module _ (h : i < length numbers) (room : length (forms_of numbers) ≤ length out₀) where
    pub number_fits : at + length (number_bytes (get_or numbers i 0)) ≤ length out
    number_fits =
        omega (
          arith,
          w.place,
          w.same,
          forms_of-take-le numbers (i + 1),
          simp length-append at (ap length (forms_of-take-suc numbers i h)),
        )

    pub numbers_next : {last : List ℕ} {next : ℕ} → (next ≡ at + length (number_bytes (get_or numbers i 0)))
        × (last ≡ take at out ++ over_start (number_bytes (get_or numbers i 0)) (drop at out))
        → length last ≡ length out
        → NumbersWritten out₀ numbers last next (i + 1)
    numbers_next (n≡, e) len = record {
      within = omega arith;
      place = n≡ ∙ rw (forms_of-take-suc numbers i h, length-append (forms_of (take i numbers)) (number_bytes (get_or numbers i 0)), w.place);
      same = len ∙ w.same;
      bytes =
          e
          ∙ rw (
            w.bytes,
            take_at (forms_of (take i numbers)) (drop at out₀) at (sym w.place),
            drop_at (forms_of (take i numbers)) (drop at out₀) at (sym w.place),
            drop-drop (length (number_bytes (get_or numbers i 0))) at out₀,
            n≡,
            forms_of-take-suc numbers i h,
          )
          (sym (append_assoc (forms_of (take i numbers)) (number_bytes (get_or numbers i 0)) _));
    }

  pub numbers_all : length numbers ≤ i → (at ≡ length (forms_of numbers)) × (out ≡ over_start (forms_of numbers) out₀)
  numbers_all h =
      let all : i ≡ length numbers = omega (arith, w.within) in
      let whole : take i numbers ≡ numbers = rw all (take-length numbers) in
      let place : at ≡ length (forms_of numbers) = w.place ∙ ap (λ (l : List ℕ). length (forms_of l)) whole in
      (place, rw (← place) (w.bytes ∙ ap (λ (l : List ℕ). forms_of l ++ drop at out₀) whole))
