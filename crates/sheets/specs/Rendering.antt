-- A sheet as text, with one line for each row and no empty line, and its bytes when it is packed.
use Rattle.std.specs.Prelude.{ℕ, ◌+◌, List, [], ◌∷◌, ◌++◌, map, codes, decimal, flat_map}
use Rattle.std.specs.List.{join_by}
use Rattle.marks.specs.Bytes.{four_bytes}
use Rattle.marks.specs.Numbers.{most_marks}
use Rattle.marks.specs.Sets.{bits_below}

-- the marks of a row, from the lowest on
abbrev pub marks_of : ℕ → List ℕ
marks_of row = map (λ b. b + 1) (bits_below most_marks row)

-- the numbers that stand for marks: these, or a single 0 where there are none
abbrev pub or_zero : List ℕ → List ℕ
or_zero [] = 0 ∷ []
or_zero (mark ∷ marks) = mark ∷ marks

-- numbers in decimal, one blank between neighbours
abbrev pub spaced : List ℕ → List ℕ
spaced numbers = join_by decimal (codes " ") numbers

-- what the line of a row says: its marks, or 0 if it has none
abbrev pub row_words : ℕ → List ℕ
row_words row = spaced (or_zero (marks_of row))

-- the line of a row, with its line end
abbrev pub row_text : ℕ → List ℕ
row_text row = row_words row ++ codes "\n"

-- the sheet of a list of rows without empty lines
abbrev pub render : List ℕ → List ℕ
render rows = flat_map row_text rows

-- rows one after another, each in four bytes
abbrev pub packed_bytes : List ℕ → List ℕ
packed_bytes rows = flat_map four_bytes rows

-- a sheet has no more bytes than this
abbrev pub most_bytes : ℕ
most_bytes = 1048576
