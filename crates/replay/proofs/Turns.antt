-- The turns of the walk over a log: what the rest of the log gives stays the same. Assumes nothing.
use Prim.Native.Nat.{ℕ, suc, ◌+◌, ◌≤◌, ◌<◌, zero-le}
use native.Mathlib.Omega.{arith}
use native.Mathlib.Numerals.{add-one}
use mathlib.Core.Path.{◌≡◌, refl, sym, ◌∙◌, ap}
use mathlib.Core.Bool.{Bool, true, false, cond}
use mathlib.Core.List.{List, ◌∷◌}
use lib.ListN.{length, get_or, drop, drop_of_length-le}
use lib.Seq.{drop-cons}
use Rattle.replay.specs.declared.Event.{Event}
use Rattle.replay.specs.declared.Progress.{Progress}
use Rattle.replay.specs.Log.{no_event}
use Rattle.replay.specs.Board.{one_pass, running, rest, Standing, Stepped}

-- where the walk stands before event i: the progress, the board, and what is left
pub record Turn (start : Progress) (board : List ℕ) (log : List Event) : Type 0 where
  pub i : ℕ
  pub p : Progress
  pub l : List ℕ
  pub upto : i ≤ length log
  pub standing : Standing p l
  pub same : rest start board 0 log ≡ rest p l i (drop i log)

-- before the first event, and after one event more; both compute, as the walk reads their parts
abbrev pub turn-start : (start : Progress) (board : List ℕ) (log : List Event) → Standing start board → Turn start board log
turn-start start board log s = record { i = 0; p = start; l = board; upto = zero-le; standing = s; same = refl }

pub less-next : (i n : ℕ) → i < n → i + 1 ≤ n
less-next i n lt = omega arith

pub same_next : (start : Progress) (board : List ℕ) (log : List Event) (t : Turn start board log) → t.i < length log
    → (e : Event) → e ≡ get_or log t.i no_event → (l' : List ℕ) (p' : Progress) → Stepped t.p t.l t.i e l' p'
    → rest start board 0 log ≡ rest p' l' (t.i + 1) (drop (t.i + 1) log)
same_next start board log t lt e is l' p' st =
    t.same
    ∙ ap (rest t.p t.l t.i) (drop-cons log t.i no_event lt ∙ ap (λ x. x ∷ drop (suc t.i) log) (sym is))
    ∙ st.same (drop (suc t.i) log)
    ∙ ap (λ j. rest p' l' j (drop j log)) (sym (add-one t.i))

abbrev pub turn-next : (start : Progress) (board : List ℕ) (log : List Event) (t : Turn start board log) → t.i < length log
    → (e : Event) → e ≡ get_or log t.i no_event → (l' : List ℕ) (p' : Progress) → Stepped t.p t.l t.i e l' p' → Turn start board log
turn-next start board log t lt e is l' p' st =
    record {
      i = t.i + 1;
      p = p';
      l = l';
      upto = less-next t.i (length log) lt;
      standing = st.standing;
      same = same_next start board log t lt e is l' p' st;
    }

module _ (start : Progress) (board : List ℕ) (log : List Event) where
  -- at the log's end the answer so far is the answer
  pub turn_end : (t : Turn start board log) → length log ≤ t.i → t.p.answer ≡ rest start board 0 log
  unfolding one_pass
  turn_end t over =
      sym
      (t.same ∙ ap (rest t.p t.l t.i) (drop_of_length-le log over)
      ∙ both (running t.p.answer))
    where
      both : (b : Bool) → cond b t.p.answer t.p.answer ≡ t.p.answer
      both true = refl
      both false = refl
