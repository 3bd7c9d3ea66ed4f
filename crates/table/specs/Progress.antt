-- What the code that reads a text goes by: where it has what is read so far. Assumes nothing.
use Rattle.std.specs.Prelude.{ℕ, ◌+◌, ◌*◌, ◌-◌, ◌/◌, ◌≤◌, ◌<◌, ◌≡◌, cond, List, length, take, drop, get_or, Option as Given, Some, None, Result, Ok, Err}
use Rattle.std.proofs.Math.Option.{Option, none, some}
use Rattle.lists.specs.Lists.{All, over_start}
use Rattle.refusal.specs.Refusals.{number_of, place_of}
use Rattle.refusal.specs.Checked.{Checked, accepted, refused}
use Rattle.number.specs.Numbers.{largest_number}
use Rattle.layers.specs.Layers.{Located}
use Rattle.pack.specs.Pack.{Pack}
use Rattle.table.specs.declared.Progress.{Progress}
use Rattle.table.specs.declared.Fault.{Fault}
use Rattle.table.specs.Told.{Told, good, bad}
use Rattle.table.specs.Lines.{is_digit, is_blank}
use Rattle.table.specs.Reading.{Draft}

-- the digit that a byte is; 10 for a blank, 11 for any other byte
abbrev pub digit_of : ℕ → ℕ
digit_of byte = cond (is_blank byte) 10 (cond (is_digit byte) (byte - 48) 11)

-- the numbers of a line, at the start of a slice, at most 255 of them
abbrev pub NumbersIn : Option (List ℕ) → Given ℕ → (slice : List ℕ) → Type 0
NumbersIn none read slice = read ≡ None
NumbersIn (some numbers) read slice =
    (read ≡ Some (length numbers)) × (take (length numbers) slice ≡ numbers) × (length numbers ≤ 255)

-- the draft that stands in three slices
abbrev pub draft_of : Progress → (numbers rows lines : List ℕ) → Draft
draft_of p numbers rows lines =
    record {
      n = p.n;
      r = p.r;
      layers = p.layers;
      blocks = p.blocks;
      numbers = take p.count numbers;
      rows = take p.place rows;
      lines = take p.blocks lines;
    }

-- what holds of it after every line, where these are the head's numbers so far
pub record Kept (p : Progress) (head : List ℕ) : Type 0 where
  pub n-most : p.n ≤ 255
  pub r-most : p.r ≤ 5
  pub layers-most : p.layers ≤ p.r
  pub blocks-most : p.blocks ≤ 4_096
  pub place-most : p.place ≤ 5 * p.blocks
  pub fresh : p.r ≡ 0 → p.count ≡ 1
  pub begun : 0 < p.r → 4 + 2 * p.layers ≤ p.count
  pub count_most : p.count ≤ 259 + 2 * p.layers
  pub numbers-most : All (λ v. v ≤ largest_number) head
  pub size-most : 0 < p.layers → get_or head (p.count - 1) 0 ≤ p.blocks

-- what a line added to the draft, as the code answers it
abbrev pub Grown : Told Draft → Result Progress Fault → (numbers rows lines : List ℕ) → Type 0
Grown (good d) (Ok p) numbers rows lines = (draft_of p numbers rows lines ≡ d) × Kept p (take p.count numbers)
Grown (good d) (Err e) numbers rows lines = ⊥
Grown (bad e) (Ok p) numbers rows lines = ⊥
Grown (bad e) (Err f) numbers rows lines = f ≡ e

-- the numbers of the line that was read: those after the head's
abbrev pub found_in : Progress → (found : ℕ) (numbers : List ℕ) → List ℕ
found_in p found numbers = take found (drop p.count numbers)

-- a step that leaves the blocks and their lines as they are
abbrev pub Adds : (Draft → Told Draft) → Progress → (numbers : List ℕ) → Result Progress Fault → (after : List ℕ) → Type 0
Adds step p numbers answer after = (rows lines : List ℕ) → Grown (step (draft_of p numbers rows lines)) answer after rows lines

-- a line's numbers, as the steps find them
pub record Finds (p : Progress) (found : ℕ) (numbers : List ℕ) : Type 0 where
  pub kept : Kept p (take p.count numbers)
  pub room : 600 ≤ length numbers
  pub few : found ≤ 255

-- slices that hold every table
pub record Room (numbers rows lines : List ℕ) : Type 0 where
  pub for-numbers : 600 ≤ length numbers
  pub for-rows : 20_480 ≤ length rows
  pub for-lines : 4_096 ≤ length lines

-- a text that was read to its end: its draft in slices that hold it, with an r
pub record DraftFits (p : Progress) (numbers rows lines : List ℕ) : Type 0 where
  pub kept : Kept p (take p.count numbers)
  pub room : Room numbers rows lines
  pub some-r : 0 < p.r

-- the bytes that `pack` asks for, whatever the text: 269 numbers of four bytes and 4,096 blocks of five are fewer
abbrev pub pack_most : ℕ
pack_most = 21_760

-- a pack at the start of a slice that was lent, as the code answers it
abbrev pub PackedIn : Told (List ℕ) → Result ℕ Fault → (before after : List ℕ) → Type 0
PackedIn (good bytes) (Ok size) before after = (size ≡ length bytes) × (after ≡ over_start bytes before)
PackedIn (good bytes) (Err e) before after = ⊥
PackedIn (bad e) (Ok size) before after = ⊥
PackedIn (bad e) (Err f) before after = f ≡ e

-- what the check of a pack's bytes says, where `lines` has the lines of its blocks and these begin at `first`
abbrev pub packed_as : Checked (Located Pack) → (size : ℕ) (lines : List ℕ) (first r : ℕ) → Result ℕ Fault
packed_as (accepted file) size lines first r = Ok size
packed_as (refused e) size lines first r =
    Err (record { number = number_of e; place = get_or lines ((place_of e - first) / r) 0 })
