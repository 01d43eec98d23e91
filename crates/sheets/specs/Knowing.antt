-- What is known of a sheet while it is read.
use Rattle.std.specs.Prelude.{◌≡◌, ℕ, ◌+◌, ◌*◌, ◌<◌, Bool, true, false, List, [], ◌∷◌, ◌++◌, length, take, drop, Result, ⊤}
use Rattle.std.specs.Str.{all_ascii_digits}
use Rattle.marks.specs.Bytes.{four_bytes}
use Rattle.marks.specs.declared.refusal.Refusal.{Refusal}
use Rattle.marks.specs.Refusals.{Answers}
use Rattle.marks.specs.Sets.{no_marks}
use Rattle.tables.specs.Packed.{row_bytes}
use Rattle.sheets.specs.Ahead.{is_line_end, is_end_of_line}
use Rattle.sheets.specs.Cutting.{Part, Digits, Gap, Break, Odd, part_of_piece, place_of}
use Rattle.sheets.specs.Lines.{is_nothing, is_zero, is_blank, left_of, fault_at}
use Rattle.sheets.specs.Reading.{is_single_zero, open_row, rows_of, left_number, at_line_start, after_blank, breaks, ends_line, fault_after, part_fault, packed_into}
use Rattle.sheets.specs.declared.line.Left.TheVariants.{Nothing}
use Rattle.sheets.specs.declared.piece.Ahead.{Ahead}
use Rattle.sheets.specs.declared.piece.Piece.{Piece}
use Rattle.sheets.specs.declared.reading.Sheet.{Sheet}

-- the digits of a number are digits, and there is one
abbrev pub IsSound : Part → Type 0
IsSound (Digits ds) = (0 < length ds) × (all_ascii_digits ds ≡ true)
IsSound Gap = ⊤
IsSound Break = ⊤
IsSound (Odd b) = ⊤

-- the last of the parts that are passed is a single 0
abbrev pub after_zero : List Part → Bool
after_zero [] = false
after_zero (Digits ds ∷ passed) = is_single_zero ds
after_zero (Gap ∷ passed) = false
after_zero (Break ∷ passed) = false
after_zero (Odd b ∷ passed) = false

-- a single 0 that is passed ends its line
abbrev pub ZeroEndsLine : List Part → List Part → Type 0
ZeroEndsLine passed parts = after_zero passed ≡ true → ends_line parts ≡ true

-- what a sheet and memory hold once these parts are passed; at the start memory held these bytes
pub record Knows (passed : List Part) (start now : List ℕ) (sheet : Sheet) : Type 0 where
  pub row : sheet.line.row.bits ≡ open_row passed
  pub left : left_of sheet.line.left ≡ left_number passed
  pub nothing : is_nothing sheet.line.left ≡ at_line_start passed
  pub zero : is_zero sheet.line.left ≡ after_zero passed
  pub blank : is_blank sheet.line.left ≡ after_blank passed
  pub counted : sheet.count ≡ length (rows_of passed)
  pub memory : now ≡ packed_into (rows_of passed) start

-- a sheet of which a row more is packed, and what memory then holds
pub record HasPacked (old new : Sheet) (held now : List ℕ) : Type 0 where
  pub count : new.count ≡ old.count + 1
  pub row : new.line.row.bits ≡ no_marks
  pub left : new.line.left ≡ Nothing
  pub bytes : now ≡ take (row_bytes * old.count) held ++ (four_bytes old.line.row.bits ++ drop (row_bytes * (old.count + 1)) held)

-- a sheet of which a line is ended: an empty one leaves all as it was, and any other is packed
pub record HasEnded (old new : Sheet) (held now : List ℕ) : Type 0 where
  pub empty : is_nothing old.line.left ≡ true → (new ≡ old) × (now ≡ held)
  pub filled : is_nothing old.line.left ≡ false → HasPacked old new held now

-- what comes next is what the parts begin with
pub record Precedes (ahead : Ahead) (parts : List Part) : Type 0 where
  pub line_end : is_line_end ahead ≡ breaks parts
  pub end_of_line : is_end_of_line ahead ≡ ends_line parts

-- A piece is taken as the part that it is, whatever was passed without a fault before it and whatever follows.
abbrev pub Takes : Piece → Ahead → Sheet → Sheet → List ℕ → List ℕ → Result (Unit {0}) Refusal → Type 0
Takes piece ahead old new held now result =
    (passed parts : List Part) (start : List ℕ)
    → Knows passed start held old → length held ≡ length start → fault_at (place_of piece) ≡ fault_after passed → ZeroEndsLine passed (part_of_piece piece ∷ parts) → Precedes ahead parts
    → Answers (part_fault old.width.number (length start) passed (part_of_piece piece) parts) (λ _. Knows (part_of_piece piece ∷ passed) start now new) result
