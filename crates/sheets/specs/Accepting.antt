-- Which texts are sheets.
use Rattle.std.specs.Prelude.{◌≡◌, ℕ, ◌*◌, ◌^◌, ◌<◌, ◌≤◌, Bool, false, cond, not, ◌==◌, List, [], ◌∷◌, length, take, map, filter, All, Ok, Err, Result, slice_index}
use Rattle.marks.specs.declared.refusal.Refusal.{Refusal}
use Rattle.marks.specs.Numbers.{most_charges}
use Rattle.tables.specs.Packed.{row_bytes, packed_rows}
use Rattle.sheets.specs.Reading.{packed_into}
use Rattle.sheets.specs.Cutting.{line_end}
use Rattle.sheets.specs.Rendering.{row_text, most_bytes}

-- a byte before lines, which is no line end: it begins the first of them, or is a line of its own
abbrev pub in_line : ℕ → List (List ℕ) → List (List ℕ)
in_line b [] = (b ∷ []) ∷ []
in_line b (line ∷ lines) = (b ∷ line) ∷ lines

-- the lines of a text, each with the line end behind it; the last may lack that
abbrev pub lines_of : List ℕ → List (List ℕ)
lines_of [] = []
lines_of (b ∷ text) = cond (b == line_end) ((line_end ∷ []) ∷ lines_of text) (in_line b (lines_of text))

-- an empty line is a line end alone
abbrev pub is_empty_line : List ℕ → Bool
is_empty_line [] = false
is_empty_line (b ∷ []) = b == line_end
is_empty_line (b ∷ c ∷ line) = false

-- the lines of a text that are not empty
abbrev pub filled_lines : List ℕ → List (List ℕ)
filled_lines text = filter (λ line. not (is_empty_line line)) (lines_of text)

-- The text is a sheet of these rows, each a set of marks up to n, and they fit into memory of so many bytes: its lines, but for the empty ones, are the lines of the rows.
pub record IsSheet (n room : ℕ) (text rows : List ℕ) : Type 0 where
  pub lines : filled_lines text ≡ map row_text rows
  pub within : (k : ℕ) → slice_index rows k < 2 ^ n
  pub few : length rows ≤ most_charges
  pub fits : row_bytes * length rows ≤ room
  pub short : length text ≤ most_bytes

-- no line of the text is empty
abbrev pub HasNoEmptyLine : List ℕ → Type 0
HasNoEmptyLine text = All (λ line. is_empty_line line ≡ false) (lines_of text)

-- Each sheet of rows that fit is accepted, and its rows are packed.
abbrev pub AcceptsSheets : ℕ → List ℕ → List ℕ → List ℕ → Result ℕ Refusal → Type 0
AcceptsSheets n text old new result = (rows : List ℕ) → IsSheet n (length old) text rows → (result ≡ Ok (length rows)) × (new ≡ packed_into rows old)

-- What is accepted is a sheet of the rows that are packed, which a packed table over these bytes has; and what is refused is no sheet.
abbrev pub AcceptsOnlySheets : ℕ → List ℕ → List ℕ → List ℕ → Result ℕ Refusal → Type 0
AcceptsOnlySheets n text old new (Ok count) = (rows : List ℕ) × IsSheet n (length old) text rows × (count ≡ length rows) × (new ≡ packed_into rows old) × (packed_rows (take (row_bytes * count) new) ≡ rows)
AcceptsOnlySheets n text old new (Err refusal) = (rows : List ℕ) → IsSheet n (length old) text rows → ⊥

-- A text is a sheet of one list of rows at most.
abbrev pub IsOneSheet : ℕ → ℕ → List ℕ → Type 0
IsOneSheet n room text = (rows other : List ℕ) → IsSheet n room text rows → IsSheet n room text other → rows ≡ other
