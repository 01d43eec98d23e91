-- What a table means.
use Rattle.std.specs.Prelude.{ℕ, ◌-◌, ◌%◌, ◌^◌, ◌<◌, ◌≤◌, min, max, List, map, length, take, slice_index}
use Rattle.marks.specs.Numbers.{most_marks, most_charges, InRange}

-- A table means a width and the rows of its charges, from charge 1 on, each a set of marks.
pub record Meaning : Type 0 where
  pub width : ℕ
  pub rows : List ℕ

-- A meaning is proper if its width is 1 to 32, its rows are few enough to be charges, and no row has a mark above the width.
pub record Proper (m : Meaning) : Type 0 where
  pub wide : InRange most_marks m.width
  pub few : length m.rows ≤ most_charges
  pub within : (k : ℕ) → slice_index m.rows k < 2 ^ m.width

-- how many charges there are
abbrev pub count_of : Meaning → ℕ
count_of m = length m.rows

-- the row of a charge: the empty set past the count
abbrev pub row_of : Meaning → ℕ → ℕ
row_of m charge = slice_index m.rows (charge - 1)

-- A proper meaning from any number and any rows: the width nearest to the number, no more rows than there can be charges, and of each row the
-- marks up to the width. A width, rows and marks that are proper already are kept as they are.
abbrev pub nearest_width : ℕ → ℕ
nearest_width n = max 1 (min n most_marks)

unfoldable pub trimmed : ℕ → List ℕ → Meaning
trimmed n rows = record { width = nearest_width n; rows = map (λ row. row % 2 ^ nearest_width n) (take most_charges rows) }
