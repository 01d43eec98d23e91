-- What each layer does to the table below it, charge by charge and mark by mark.
use Rattle.std.specs.Prelude.{◌≡◌, ℕ, ◌+◌, ◌-◌, min, Bool, true, false, not, List, length, slice_index}
use Rattle.marks.specs.Numbers.{InRange, bit_of}
use Rattle.marks.specs.Sets.{has}
use Rattle.tables.specs.Meaning.{Meaning, count_of, row_of}

-- a charge has a mark
abbrev pub has_mark : Meaning → ℕ → ℕ → Bool
has_mark m charge mark = has (row_of m charge) (bit_of mark)

-- The charges are those below. Of the marks up to the width, a charge has one of `flipped` exactly where it has it not below, and another exactly where it has it below.
pub record ReversesMarks (flipped : ℕ) (below above : Meaning) : Type 0 where
  pub width : above.width ≡ below.width
  pub count : count_of above ≡ count_of below
  pub reversed : (charge mark : ℕ) → InRange (count_of below) charge → InRange below.width mark → has flipped (bit_of mark) ≡ true
      → has_mark above charge mark ≡ not (has_mark below charge mark)
  pub kept : (charge mark : ℕ) → InRange below.width mark → has flipped (bit_of mark) ≡ false → has_mark above charge mark ≡ has_mark below charge mark

-- The charges are those below from `first` on, as many as `most`, or as many as are left.
pub record ShowsCharges (first most : ℕ) (below above : Meaning) : Type 0 where
  pub width : above.width ≡ below.width
  pub count : count_of above ≡ min most (count_of below - (first - 1))
  pub rows : (charge : ℕ) → InRange (count_of above) charge → row_of above charge ≡ row_of below (first - 1 + charge)

-- The charges are those below, and a charge has mark j exactly where it has the j-th of `marks` below.
pub record ShowsMarks (marks : List ℕ) (below above : Meaning) : Type 0 where
  pub width : above.width ≡ length marks
  pub count : count_of above ≡ count_of below
  pub shown : (charge j : ℕ) → InRange (length marks) j → has_mark above charge j ≡ has_mark below charge (slice_index marks (j - 1))
