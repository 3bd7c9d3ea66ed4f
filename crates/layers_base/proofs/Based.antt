-- The answers of reading the kind, n, r and the list, over what the readings of the numbers answered. Assumes nothing.
use Prim.Native.Nat.{ℕ, min}
use Rattle.std.specs.Prelude.{Result, Ok, Err}
use native.Mathlib.Omega.{arith}
use mathlib.Core.Path.{◌≡◌, refl, sym, ◌∙◌, ap}
use mathlib.Core.Bool.{true, false}
use mathlib.Core.List.{List}
use Rattle.refusal.specs.declared.Refusal.{Refusal}
use Rattle.refusal.specs.declared.Refusal.TheVariants.{WrongKind}
use Rattle.refusal.specs.Checked.{accepted, refused}
use Rattle.refusal.proofs.Answered.{answered-ok}
use Rattle.number.specs.Numbers.{read_number, read_within}
use Rattle.number.specs.declared.Reading.{Reading}
use Rattle.number.specs.Answers.{number_read}
use Rattle.number.proofs.Within.{number_read-refused, was_read}
use Rattle.layers.specs.Layers.{NodesReading, is_kind, read_kind, read_dark, read_base}
use Rattle.layers.specs.Answers.{dark_read, base_read}
use Rattle.layers.specs.declared.DarkRead.{DarkRead}
use Rattle.layers.specs.declared.FileKind.{FileKind}

-- The answers of `read_kind`, over what `read_number` answered.
module _ (file : FileKind) (s : List ℕ) (first : Result Reading Refusal) (is : first ≡ number_read (read_number s 0)) where
  pub kind-not-read : {why : Refusal} → first ≡ Err why → first ≡ number_read (read_kind file s)
  unfolding read_kind
  kind-not-read {why} e =
      let same : read_kind file s ≡ refused why = rw (number_read-refused (read_number s 0) (sym e ∙ is)) in
      e ∙ sym (ap number_read same)

  module _ {n : Reading} (e : first ≡ Ok n) where
    pub kind-is : is_kind file n.value ≡ true → Ok n ≡ number_read (read_kind file s)
    unfolding read_kind
    kind-is k =
        let same : read_kind file s ≡ accepted n = rw (was_read (read_number s 0) is e, k) in
        sym (ap number_read same)

    pub kind-is-not : is_kind file n.value ≡ false → Err WrongKind ≡ number_read (read_kind file s)
    unfolding read_kind
    kind-is-not k =
        let same : read_kind file s ≡ refused WrongKind = rw (was_read (read_number s 0) is e, k) in
        sym (ap number_read same)

-- The cases of `read_base`.
module _ (file : FileKind) (s : List ℕ) where
  pub base-no-kind : {e : Refusal} → read_kind file s ≡ refused e → read_base file s ≡ refused e
  unfolding read_base
  base-no-kind k = rw k

  module _ {first : Reading} (k : read_kind file s ≡ accepted first) where
    pub base-no-n : {e : Refusal} → read_within 2 255 s first.next ≡ refused e → read_base file s ≡ refused e
    unfolding read_base
    base-no-n n = rw (k, n)

    module _ {n : Reading} (nodes : read_within 2 255 s first.next ≡ accepted n) where
      pub base-no-r : {e : Refusal} → read_within 2 (min 5 n.value) s n.next ≡ refused e → read_base file s ≡ refused e
      unfolding read_base
      base-no-r r = rw (k, nodes, r)

      module _ {r : Reading} (replicas : read_within 2 (min 5 n.value) s n.next ≡ accepted r) where
        pub base-no-list : {e : Refusal} → read_dark first.value n.value s r.next ≡ refused e → read_base file s ≡ refused e
        unfolding read_base
        base-no-list list = rw (k, nodes, replicas, list)

        pub base-read : {list : NodesReading} → read_dark first.value n.value s r.next ≡ accepted list
            → read_base file s
            ≡ accepted
            (record {
              kind = first.value;
              base = record { n = n.value; r = r.value; dark = list.nodes };
              next = list.next;
            })
        unfolding read_base
        base-read list = rw (k, nodes, replicas, list)

-- The answer where all is read.
pub list-good : (file : FileKind) (s : List ℕ) {first n r : Reading} → read_kind file s ≡ accepted first
    → read_within 2 255 s first.next ≡ accepted n → read_within 2 (min 5 n.value) s n.next ≡ accepted r
    → {given : Result DarkRead Refusal} {list : DarkRead} → given ≡ dark_read (read_dark first.value n.value s r.next) → given ≡ Ok list
    → Ok
    (record {
      kind = first.value;
      base = record { n = n.value; r = r.value; dark = list.dark };
      next = list.next;
    })
    ≡ base_read (read_base file s)
list-good file s {first} {n} {r} k nodes replicas is good =
    let (d, read, made) = answered-ok _ (read_dark first.value n.value s r.next) is good in
    rw made (sym (ap base_read (base-read file s k nodes replicas read)))
