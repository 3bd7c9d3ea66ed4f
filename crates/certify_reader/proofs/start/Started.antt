-- The answers of reading the number 7, n, r and the list, over what the readings of the numbers answered. Assumes nothing.
use Prim.Native.Nat.{ℕ, min}
use Rattle.std.specs.Prelude.{Result, Ok, Err}
use native.Mathlib.Omega.{arith}
use mathlib.Core.Path.{◌≡◌, refl, sym, ◌∙◌, ap}
use mathlib.Core.Bool.{true, false}
use mathlib.Core.List.{List}
use lib.Dec.{eqb}
use Rattle.refusal.specs.declared.Refusal.{Refusal}
use Rattle.refusal.specs.declared.Refusal.TheVariants.{WrongKind}
use Rattle.refusal.specs.Checked.{accepted, refused}
use Rattle.refusal.proofs.Answered.{answered-ok}
use Rattle.number.specs.Numbers.{read_number, read_within}
use Rattle.number.specs.declared.Reading.{Reading}
use Rattle.number.specs.Answers.{number_read}
use Rattle.number.proofs.Within.{number_read-refused, was_read}
use Rattle.layers.specs.Layers.{NodesReading, read_dark}
use Rattle.layers.specs.Answers.{dark_read, base_read}
use Rattle.layers.specs.declared.DarkRead.{DarkRead}
use Rattle.certify.specs.Bare.{read_seven, read_start}

-- The answers of `read_seven`, over what `read_number` answered.
module _ (s : List ℕ) (first : Result Reading Refusal) (is : first ≡ number_read (read_number s 0)) where
  pub kind-not-read : {why : Refusal} → first ≡ Err why → first ≡ number_read (read_seven s)
  unfolding read_seven
  kind-not-read {why} e =
      let same : read_seven s ≡ refused why = rw (number_read-refused (read_number s 0) (sym e ∙ is)) in
      e ∙ sym (ap number_read same)

  module _ {n : Reading} (e : first ≡ Ok n) where
    pub kind-is : eqb n.value 7 ≡ true → Ok n ≡ number_read (read_seven s)
    unfolding read_seven
    kind-is k =
        let same : read_seven s ≡ accepted n = rw (was_read (read_number s 0) is e, k) in
        sym (ap number_read same)

    pub kind-is-not : eqb n.value 7 ≡ false → Err WrongKind ≡ number_read (read_seven s)
    unfolding read_seven
    kind-is-not k =
        let same : read_seven s ≡ refused WrongKind = rw (was_read (read_number s 0) is e, k) in
        sym (ap number_read same)

-- The cases of `read_start`.
module _ (s : List ℕ) where
  pub no_kind : {e : Refusal} → read_seven s ≡ refused e → read_start s ≡ refused e
  unfolding read_start
  no_kind k = rw k

  module _ {first : Reading} (k : read_seven s ≡ accepted first) where
    pub no-n : {e : Refusal} → read_within 2 255 s first.next ≡ refused e → read_start s ≡ refused e
    unfolding read_start
    no-n n = rw (k, n)

    module _ {n : Reading} (nodes : read_within 2 255 s first.next ≡ accepted n) where
      pub no-r : {e : Refusal} → read_within 2 (min 5 n.value) s n.next ≡ refused e → read_start s ≡ refused e
      unfolding read_start
      no-r r = rw (k, nodes, r)

      module _ {r : Reading} (replicas : read_within 2 (min 5 n.value) s n.next ≡ accepted r) where
        pub no-list : {e : Refusal} → read_dark 5 n.value s r.next ≡ refused e → read_start s ≡ refused e
        unfolding read_start
        no-list list = rw (k, nodes, replicas, list)

        pub start-read : {list : NodesReading} → read_dark 5 n.value s r.next ≡ accepted list
            → read_start s
            ≡ accepted
            (record {
              kind = 7;
              base = record { n = n.value; r = r.value; dark = list.nodes };
              next = list.next;
            })
        unfolding read_start
        start-read list = rw (k, nodes, replicas, list)

-- The answer where all is read.
pub list-good : (s : List ℕ) {first n r : Reading} → read_seven s ≡ accepted first → read_within 2 255 s first.next ≡ accepted n
    → read_within 2 (min 5 n.value) s n.next ≡ accepted r → {given : Result DarkRead Refusal} {list : DarkRead}
    → given ≡ dark_read (read_dark 5 n.value s r.next) → given ≡ Ok list
    → Ok (record { kind = 7; base = record { n = n.value; r = r.value; dark = list.dark }; next = list.next }) ≡ base_read (read_start s)
list-good s {n = n} {r = r} k nodes replicas is good =
    let (d, read, made) = answered-ok _ (read_dark 5 n.value s r.next) is good in
    rw made (sym (ap base_read (start-read s k nodes replicas read)))
