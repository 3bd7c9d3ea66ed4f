-- Joining one, two or three packs, from what the code finds of each. Assumes nothing.
use Prim.Native.Nat.{ℕ, zero, suc, ◌≤◌}
use Rattle.std.specs.Prelude.{Result, Ok, Err}
use native.Mathlib.Omega.{arith}
use mathlib.Core.Path.{◌≡◌, refl, sym, ◌∙◌, ap, subst}
use mathlib.Core.Bool.{true}
use mathlib.Core.List.{List, [], ◌∷◌}
use lib.ListN.{length, take}
use lib.Dec.{ltb}
use borrow.Author.Tests.{eq-eqb, ne_eqb}
use Rattle.lists.specs.Lists.{every}
use Rattle.refusal.specs.declared.Refusal.{Refusal}
use Rattle.refusal.specs.declared.Refusal.TheVariants.{Unjoinable}
use Rattle.refusal.specs.Checked.{Checked, accepted, refused}
use Rattle.refusal.proofs.Checked.{accepted-injective, refused-not-accepted}
use Rattle.layers.specs.Layers.{Located}
use Rattle.pack.specs.Pack.{Pack, read_pack, check_pack}
use Rattle.pack.specs.Answers.{pack_checked}
use Rattle.pack.specs.declared.PackHead.{PackHead}
use Rattle.pack.specs.declared.PackCheck.{PackCheck}
use Rattle.join.specs.Join.{joinable, check_packs, join_packs, join}
use Rattle.join.specs.Answers.{JoinDone}
use Rattle.join.specs.Estate.{piece_pack, estate_packs, read_piece, refusal_of, PieceFits, EstateFits}
use Rattle.join.specs.declared.Estate.{Estate}
use Rattle.join.proofs.Pieces.{join-none}
use Rattle.join.proofs.Given.{was-refused, Found, was-accepted, piece_of, good, piece-pack, no_piece, absent-piece, read_fits, piece_is, estate_of}

read-checked : (bytes : List ℕ) (file : Located Pack) → read_pack bytes ≡ accepted file → check_pack bytes ≡ accepted file.content
unfolding check_pack
read-checked bytes file e = rw e

same-pack : (r : ℕ) (bytes : List ℕ) (file : Located Pack) → read_pack bytes ≡ accepted file → file.content.r ≡ r
    → file.content ≡ piece_pack r (piece_of file) bytes
same-pack r bytes file e is = subst (λ q. file.content ≡ piece_pack q (piece_of file) bytes) is (sym (piece-pack bytes file e))

-- Joining one, two or three packs is joining three, some of which are not there.
module _ (f s t : List ℕ) (a b c : Located Pack) (ra : read_pack f ≡ accepted a) (output : ℕ) where
  pub joined-all : (packs : ℕ) → 1 ≤ packs → packs ≤ 3 → read_piece (ltb 1 packs) a.content.r s ≡ accepted b
      → read_piece (ltb 2 packs) a.content.r t ≡ accepted c → b.content.r ≡ a.content.r → c.content.r ≡ a.content.r
      → join (take packs (f ∷ s ∷ t ∷ [])) output ≡ join_packs (estate_packs (estate_of a b c) f s t) output
  unfolding join check_packs
  joined-all zero some few rb rc sb sc = absurd (omega arith)
  joined-all (suc zero) some few rb rc sb sc =
      let one = same-pack a.content.r f a ra refl in
      let first = piece_pack a.content.r (piece_of a) f in
      let n1 = piece_pack a.content.r (no_piece s) s in
      let n2 = piece_pack a.content.r (no_piece t) t in
      let is : join (f ∷ []) output ≡ join_packs (a.content ∷ []) output = rw (read-checked f a ra) in
      is
      ∙ (λ i. join_packs (one i ∷ []) output)
      ∙ sym (join-none first (n1 ∷ []) n2 (absent-piece a.content.r t) output ∙ join-none first [] n1 (absent-piece a.content.r s) output)
      ∙ (λ i. join_packs (first ∷ piece_pack a.content.r (piece_of (accepted-injective rb i)) s
      ∷ piece_pack a.content.r (piece_of (accepted-injective rc i)) t ∷ []) output)
  joined-all (suc (suc zero)) some few rb rc sb sc =
      let one = same-pack a.content.r f a ra refl in
      let two = same-pack a.content.r s b rb sb in
      let first = piece_pack a.content.r (piece_of a) f in
      let second = piece_pack a.content.r (piece_of b) s in
      let n2 = piece_pack a.content.r (no_piece t) t in
      let is : join (f ∷ s ∷ []) output ≡ join_packs (a.content ∷ b.content ∷ []) output = rw (read-checked f a ra, read-checked s b rb) in
      is
      ∙ (λ i. join_packs (one i ∷ two i ∷ []) output)
      ∙ sym (join-none first (second ∷ []) n2 (absent-piece a.content.r t) output)
      ∙ (λ i. join_packs (first ∷ second ∷ piece_pack a.content.r (piece_of (accepted-injective rc i)) t ∷ []) output)
  joined-all (suc (suc (suc zero))) some few rb rc sb sc =
      let one = same-pack a.content.r f a ra refl in
      let two = same-pack a.content.r s b rb sb in
      let three = same-pack a.content.r t c rc sc in
      let is : join (f ∷ s ∷ t ∷ []) output ≡ join_packs (a.content ∷ b.content ∷ c.content ∷ []) output =
      rw (read-checked f a ra, read-checked s b rb, read-checked t c rc) in
      is ∙ (λ i. join_packs (one i ∷ two i ∷ three i ∷ []) output)
  joined-all (suc (suc (suc (suc n)))) some few rb rc sb sc = absurd (omega arith)

  -- "13 if r differs"
  pub second-differs : (packs : ℕ) → 1 ≤ packs → packs ≤ 3 → read_piece (ltb 1 packs) a.content.r s ≡ accepted b
      → read_piece (ltb 2 packs) a.content.r t ≡ accepted c → (b.content.r ≡ a.content.r → ⊥)
      → join (take packs (f ∷ s ∷ t ∷ [])) output ≡ refused Unjoinable
  unfolding join check_packs join_packs joinable every
  second-differs zero some few rb rc differ = absurd (omega arith)
  second-differs (suc zero) some few rb rc differ = absurd (differ (sym (ap (λ (q : Located Pack). q.content.r) (accepted-injective rb))))
  second-differs (suc (suc zero)) some few rb rc differ =
      rw (read-checked f a ra, read-checked s b rb, eq-eqb a.content.r a.content.r refl, ne_eqb b.content.r a.content.r differ)
  second-differs (suc (suc (suc zero))) some few rb rc differ =
      rw (
        read-checked f a ra,
        read-checked s b rb,
        read-checked t c rc,
        eq-eqb a.content.r a.content.r refl,
        ne_eqb b.content.r a.content.r differ,
      )
  second-differs (suc (suc (suc (suc n)))) some few rb rc differ = absurd (omega arith)

  pub third-differs : (packs : ℕ) → 1 ≤ packs → packs ≤ 3 → read_piece (ltb 1 packs) a.content.r s ≡ accepted b
      → read_piece (ltb 2 packs) a.content.r t ≡ accepted c → b.content.r ≡ a.content.r → (c.content.r ≡ a.content.r → ⊥)
      → join (take packs (f ∷ s ∷ t ∷ [])) output ≡ refused Unjoinable
  unfolding join check_packs join_packs joinable every
  third-differs zero some few rb rc sb differ = absurd (omega arith)
  third-differs (suc zero) some few rb rc sb differ = absurd (differ (sym (ap (λ (q : Located Pack). q.content.r) (accepted-injective rc))))
  third-differs (suc (suc zero)) some few rb rc sb differ = absurd (differ (sym (ap (λ (q : Located Pack). q.content.r) (accepted-injective rc))))
  third-differs (suc (suc (suc zero))) some few rb rc sb differ =
      rw (
        read-checked f a ra,
        read-checked s b rb,
        read-checked t c rc,
        eq-eqb a.content.r a.content.r refl,
        eq-eqb b.content.r a.content.r sb,
        ne_eqb c.content.r a.content.r differ,
      )
  third-differs (suc (suc (suc (suc n)))) some few rb rc sb differ = absurd (omega arith)

-- The refusal of a pack.
read-refused : (bytes : List ℕ) {e : Refusal} → read_pack bytes ≡ refused e → check_pack bytes ≡ refused e
unfolding check_pack
read-refused bytes why = rw why

module _ (f s t : List ℕ) (output : ℕ) {e : Refusal} where
  pub refused-first : (packs : ℕ) → 1 ≤ packs → read_pack f ≡ refused e → join (take packs (f ∷ s ∷ t ∷ [])) output ≡ refused e
  unfolding join check_packs
  refused-first zero some why = absurd (omega arith)
  refused-first (suc n) some why = rw (read-refused f why)

  pub refused-second : (packs : ℕ) → 1 ≤ packs → packs ≤ 3 → (a : Located Pack) (r : ℕ) → read_pack f ≡ accepted a → read_piece (ltb 1 packs) r s ≡ refused e
      → join (take packs (f ∷ s ∷ t ∷ [])) output ≡ refused e
  unfolding join check_packs
  refused-second zero some few a r ra why = absurd (omega arith)
  refused-second (suc zero) some few a r ra why = absurd (refused-not-accepted (sym why))
  refused-second (suc (suc zero)) some few a r ra why = rw (read-checked f a ra, read-refused s why)
  refused-second (suc (suc (suc zero))) some few a r ra why = rw (read-checked f a ra, read-refused s why)
  refused-second (suc (suc (suc (suc n)))) some few a r ra why = absurd (omega arith)

  pub refused-third : (packs : ℕ) → 1 ≤ packs → packs ≤ 3 → (a b : Located Pack) (r : ℕ) → read_pack f ≡ accepted a → read_piece (ltb 1 packs) r s ≡ accepted b
      → read_piece (ltb 2 packs) r t ≡ refused e → join (take packs (f ∷ s ∷ t ∷ [])) output ≡ refused e
  unfolding join check_packs
  refused-third zero some few a b r ra rb why = absurd (omega arith)
  refused-third (suc zero) some few a b r ra rb why = absurd (refused-not-accepted (sym why))
  refused-third (suc (suc zero)) some few a b r ra rb why = absurd (refused-not-accepted (sym why))
  refused-third (suc (suc (suc zero))) some few a b r ra rb why = rw (read-checked f a ra, read-checked s b rb, read-refused t why)
  refused-third (suc (suc (suc (suc n)))) some few a b r ra rb why = absurd (omega arith)

pub done_refused : {m : Checked Pack} {e : Refusal} (out : List ℕ) → m ≡ refused e → JoinDone m out out (Err e)
done_refused out is = rw is (record { given_is = refl; output-after = refl })

-- What the code finds, pack by pack.
module _ (f s t out : List ℕ) (packs : ℕ) (some : 1 ≤ packs) (few : packs ≤ 3) where
  abbrev whole : Checked Pack
  whole = join (take packs (f ∷ s ∷ t ∷ [])) (length out)

  given-refused : {e : Refusal} {given : Result ℕ Refusal} {answer : Result PackHead Refusal} → whole ≡ refused e → answer ≡ Err e → given ≡ Err (refusal_of answer)
      → JoinDone whole out out given
  given-refused is why given_is = rw (given_is, why) (done_refused out is)

  pub first_found : {check : PackCheck} {e : Refusal} {given : Result ℕ Refusal} → check ≡ pack_checked (read_piece true 0 f) → check.answer ≡ Err e
      → given ≡ Err (refusal_of check.answer) → JoinDone whole out out given
  first_found is why given_is = given-refused (refused-first f s t (length out) packs some (was-refused (read_pack f) is why)) why given_is

  module _ {ca cb : PackCheck} {ha : PackHead} (is-a : ca ≡ pack_checked (read_piece true 0 f)) (ok-a : ca.answer ≡ Ok ha)
      (is_b : cb ≡ pack_checked (read_piece (ltb 1 packs) ha.r s)) where
    one : Found (read_pack f) ca ha
    one = was-accepted (read_pack f) is-a ok-a

    pub second-found : {e : Refusal} {given : Result ℕ Refusal} → cb.answer ≡ Err e → given ≡ Err (refusal_of cb.answer) → JoinDone whole out out given
    second-found why given_is =
        given-refused (refused-second f s t (length out) packs some few one.file ha.r one.read (was-refused (read_piece (ltb 1 packs) ha.r s) is_b why)) why given_is

    module _ {cd : PackCheck} {hb : PackHead} (ok-b : cb.answer ≡ Ok hb) (is_c : cd ≡ pack_checked (read_piece (ltb 2 packs) ha.r t)) where
      two : Found (read_piece (ltb 1 packs) ha.r s) cb hb
      two = was-accepted (read_piece (ltb 1 packs) ha.r s) is_b ok-b

      pub third-found : {e : Refusal} {given : Result ℕ Refusal} → cd.answer ≡ Err e → given ≡ Err (refusal_of cd.answer) → JoinDone whole out out given
      third-found why given_is =
          given-refused
          (refused-third f s t (length out) packs some few one.file two.file ha.r one.read two.read
          (was-refused (read_piece (ltb 2 packs) ha.r t) is_c why))
          why given_is

      module _ {hc : PackHead} (ok-c : cd.answer ≡ Ok hc) where
        three : Found (read_piece (ltb 2 packs) ha.r t) cd hc
        three = was-accepted (read_piece (ltb 2 packs) ha.r t) is_c ok-c

        r-is : ha.r ≡ one.file.content.r
        r-is = ap (λ (h : PackHead). h.r) one.head-is

        r-b : hb.r ≡ two.file.content.r
        r-b = ap (λ (h : PackHead). h.r) two.head-is

        r-c : hc.r ≡ three.file.content.r
        r-c = ap (λ (h : PackHead). h.r) three.head-is

        read-b : read_piece (ltb 1 packs) one.file.content.r s ≡ accepted two.file
        read-b = subst (λ r. read_piece (ltb 1 packs) r s ≡ accepted two.file) r-is two.read

        read-c : read_piece (ltb 2 packs) one.file.content.r t ≡ accepted three.file
        read-c = subst (λ r. read_piece (ltb 2 packs) r t ≡ accepted three.file) r-is three.read

        pub differs-b : (hb.r ≡ ha.r → ⊥) → JoinDone whole out out (Err Unjoinable)
        differs-b differ =
            done_refused out (second-differs f s t one.file two.file three.file one.read (length out) packs some few read-b read-c
            (λ same. differ (r-b ∙ same ∙ sym r-is)))

        pub differs-c : hb.r ≡ ha.r → (hc.r ≡ ha.r → ⊥) → JoinDone whole out out (Err Unjoinable)
        differs-c sb differ =
            done_refused out (third-differs f s t one.file two.file three.file one.read (length out) packs some few read-b read-c
            (sym r-b ∙ sb ∙ r-is) (λ same. differ (r-c ∙ same ∙ sym r-is)))

        abbrev found : Estate
        found =
            record {
              r = ha.r;
              a = record { nodes = ha.n; place = ha.first; layers = ca.layers; dark = ca.dark };
              b = record { nodes = hb.n; place = hb.first; layers = cb.layers; dark = cb.dark };
              c = record { nodes = hc.n; place = hc.first; layers = cd.layers; dark = cd.dark };
            }

        found-is : found ≡ estate_of one.file two.file three.file
        found-is = λ i. record { r = r-is i; a = piece_is one i; b = piece_is two i; c = piece_is three i }

        module _ (sb : hb.r ≡ ha.r) (sc : hc.r ≡ ha.r) where
          same-b : two.file.content.r ≡ one.file.content.r
          same-b = sym r-b ∙ sb ∙ r-is

          same-c : three.file.content.r ≡ one.file.content.r
          same-c = sym r-c ∙ sc ∙ r-is

          pub estate-fits : EstateFits found f s t
          estate-fits =
              let fa = read_fits true 0 f one.file one.read in
              let fb = read_fits (ltb 1 packs) ha.r s two.file two.read in
              let fc = read_fits (ltb 2 packs) ha.r t three.file three.read in
              subst (λ e. EstateFits e f s t) (sym found-is)
              (record {
                r-most = (good f one.file one.read).limits.base.r-most;
                fits-a = fa.0;
                fits-b = subst (λ r. PieceFits r (piece_of two.file) s) same-b fb.0;
                fits-c = subst (λ r. PieceFits r (piece_of three.file) t) same-c fc.0;
                nodes-most = (fa.1, fb.1, fc.1);
              })

          pub found-done : (left : List ℕ) (given : Result ℕ Refusal) → JoinDone (join_packs (estate_packs found f s t) (length out)) out left given
              → JoinDone whole out left given
          found-done left given done =
              subst (λ m. JoinDone m out left given)
              (ap (λ e. join_packs (estate_packs e f s t) (length out)) found-is
              ∙ sym (joined-all f s t one.file two.file three.file one.read (length out) packs some few read-b read-c same-b same-c))
              done
