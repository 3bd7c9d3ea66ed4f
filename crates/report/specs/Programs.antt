-- Document 01, "Row walk and programs": the programs' lines, and what `check` writes for any input. Assumes nothing.
use Rattle.std.specs.Prelude.{ℕ, zero, suc, ◌+◌, ◌/◌, ◌%◌, cond, List, [], ◌∷◌, ◌++◌, ltb}
use Rattle.refusal.specs.declared.Refusal.{Refusal}
use Rattle.refusal.specs.Refusals.{number_of, place_of}
use Rattle.refusal.specs.Checked.{Checked, accepted, refused, map_accepted}
use Rattle.layers.specs.Layers.{all_rows}
use Rattle.placement.specs.Placement.{Placement, check_placement}
use Rattle.packing.specs.Load.{most}
use Rattle.report.specs.declared.Summary.{Summary}
use Rattle.report.specs.Load.{mean}

-- n in decimal ASCII digits, at most `more` of them before the last
unfoldable pub digits : (more n : ℕ) → List ℕ
digits zero n = (48 + n % 10) ∷ []
digits (suc more) n = cond (ltb n 10) ((48 + n) ∷ []) (digits more (n / 10) ++ ((48 + n % 10) ∷ []))

-- n in as few decimal digits as hold it; 20 hold every 64-bit number
unfoldable pub decimal : ℕ → List ℕ
decimal n = digits 19 n

-- "A line has one space between its parts and ends in one newline": the numbers after the line's first word
unfoldable pub rest : List ℕ → List ℕ
rest [] = 10 ∷ []
rest (n ∷ numbers) = 32 ∷ decimal n ++ rest numbers

-- `accepted`
abbrev pub accepted_word : List ℕ
accepted_word = 97 ∷ 99 ∷ 99 ∷ 101 ∷ 112 ∷ 116 ∷ 101 ∷ 100 ∷ []

-- `refused`
abbrev pub refused_word : List ℕ
refused_word = 114 ∷ 101 ∷ 102 ∷ 117 ∷ 115 ∷ 101 ∷ 100 ∷ []

-- "It prints `accepted F b k n most mean`"
abbrev pub accepted_line : Summary → List ℕ
accepted_line a = accepted_word ++ rest (a.figure ∷ a.b ∷ a.k ∷ a.n ∷ a.most ∷ a.mean ∷ [])

-- "most is the largest number of rows holding one node, mean is b × r / n to the nearest whole"
unfoldable pub summary : Placement → Summary
summary p =
    record {
      figure = p.figure;
      b = p.b;
      k = p.k;
      n = p.n;
      most = most p.n (all_rows p.layers);
      mean = mean p.b p.r p.n;
    }

-- "Otherwise it prints `refused number place`."
abbrev pub refused_line : Refusal → List ℕ
refused_line e = refused_word ++ rest (number_of e ∷ place_of e ∷ [])

-- what is written, or the line of the refusal
abbrev pub or_refused_line : Checked (List ℕ) → List ℕ
or_refused_line (accepted bytes) = bytes
or_refused_line (refused e) = refused_line e

-- "`check` reads a placement on standard input": what it writes
unfoldable pub check_line : (input : List ℕ) → List ℕ
check_line input = or_refused_line (map_accepted (λ p. accepted_line (summary p)) (check_placement input))
