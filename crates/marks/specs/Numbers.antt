-- The ranges of marks, charges, widths and supports.
use Rattle.std.specs.Prelude.{ℕ, ◌-◌, ◌≤◌, Bool, ◌&&◌, nat_le}

-- A mark is one of the events that a control can log at a charge. Marks are 1 to this, and so are widths: a width is how many marks a table has.
abbrev pub most_marks : ℕ
most_marks = 32

-- A charge is one feeding of the furnace, and a row of a table. Charges are 1 to this, and so are supports: a support is how many charges hold a set.
abbrev pub most_charges : ℕ
most_charges = 65536

-- n is one of 1 to most
abbrev pub InRange : ℕ → ℕ → Type 0
InRange most n = (1 ≤ n) × (n ≤ most)

-- the same, as a test
abbrev pub in_range : ℕ → ℕ → Bool
in_range most n = nat_le 1 n && nat_le n most

-- the bit of mark i in a set of marks
abbrev pub bit_of : ℕ → ℕ
bit_of i = i - 1
