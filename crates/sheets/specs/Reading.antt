-- Reading a sheet: which fault is the first, and which rows are packed.
use Rattle.std.specs.Prelude.{ℕ, ◌+◌, ◌-◌, ◌*◌, Bool, true, false, cond, not, ◌||◌, ◌&&◌, List, [], ◌∷◌, ◌++◌, length, fold, Some, None, Option, ◌==◌, nat_le, nat_lt, slice_index}
use Rattle.marks.specs.declared.refusal.Reason.{Reason}
use Rattle.marks.specs.declared.refusal.Reason.TheVariants.{BadByte, BadNumber, BadRise, BadBlank, NoLineEnd, TooMany, NoPlace, Long}
use Rattle.marks.specs.declared.refusal.Refusal.{Refusal}
use Rattle.marks.specs.Memory.{put_in_front}
use Rattle.marks.specs.Numbers.{most_charges, bit_of}
use Rattle.marks.specs.Refusals.{unplaced, placed_at_two, due_if, first_due}
use Rattle.marks.specs.Sets.{no_marks, with_bit}
use Rattle.tables.specs.Packed.{row_bytes}
use Rattle.sheets.specs.Cutting.{Part, Digits, Gap, Break, Odd, part_bytes, line_after, column_after, parts_of}
use Rattle.sheets.specs.Rendering.{most_bytes, packed_bytes}

-- Parts that were passed are listed from the nearest on.

-- their text
abbrev pub text_of : List Part → List ℕ
text_of [] = []
text_of (part ∷ passed) = text_of passed ++ part_bytes part

-- the number that digits write
abbrev pub worth : List ℕ → ℕ
worth ds = fold (λ n d. n * 10 + (d - 48)) 0 ds

-- a number that is the digit 0
abbrev pub is_single_zero : List ℕ → Bool
is_single_zero [] = false
is_single_zero (d ∷ []) = d == 48
is_single_zero (d ∷ c ∷ ds) = false

-- a row with the mark that a number is; 0 is none
abbrev pub with_number : ℕ → ℕ → ℕ
with_number row number = cond (number == 0) row (with_bit row (bit_of number))

-- the marks of the line that is not yet ended
abbrev pub open_row : List Part → ℕ
open_row [] = no_marks
open_row (Digits ds ∷ passed) = with_number (open_row passed) (worth ds)
open_row (Gap ∷ passed) = open_row passed
open_row (Break ∷ passed) = no_marks
open_row (Odd b ∷ passed) = open_row passed

-- a line begins after them
abbrev pub at_line_start : List Part → Bool
at_line_start [] = true
at_line_start (Digits ds ∷ passed) = false
at_line_start (Gap ∷ passed) = false
at_line_start (Break ∷ passed) = true
at_line_start (Odd b ∷ passed) = false

-- the rows of the lines that are ended: an empty line is no charge
abbrev pub rows_of : List Part → List ℕ
rows_of [] = []
rows_of (Digits ds ∷ passed) = rows_of passed
rows_of (Gap ∷ passed) = rows_of passed
rows_of (Break ∷ passed) = rows_of passed ++ cond (at_line_start passed) [] (open_row passed ∷ [])
rows_of (Odd b ∷ passed) = rows_of passed

-- the number at the left in the same line, or 0
abbrev pub left_number : List Part → ℕ
left_number [] = 0
left_number (Digits ds ∷ passed) = worth ds
left_number (Gap ∷ passed) = left_number passed
left_number (Break ∷ passed) = 0
left_number (Odd b ∷ passed) = left_number passed

abbrev pub after_blank : List Part → Bool
after_blank [] = false
after_blank (Digits ds ∷ passed) = false
after_blank (Gap ∷ passed) = true
after_blank (Break ∷ passed) = false
after_blank (Odd b ∷ passed) = false

-- they begin with a line end
abbrev pub breaks : List Part → Bool
breaks [] = false
breaks (Digits ds ∷ parts) = false
breaks (Gap ∷ parts) = false
breaks (Break ∷ parts) = true
breaks (Odd b ∷ parts) = false

-- the line ends before them, by a line end or by the end of the text
abbrev pub ends_line : List Part → Bool
ends_line [] = true
ends_line (Digits ds ∷ parts) = false
ends_line (Gap ∷ parts) = false
ends_line (Break ∷ parts) = true
ends_line (Odd b ∷ parts) = false

-- the refusal that is placed after them
abbrev pub fault_after : List Part → Reason → Refusal
fault_after passed reason = placed_at_two reason (line_after (text_of passed)) (column_after (text_of passed))

-- a 0 that is all of its line stands for a charge without marks
abbrev pub is_no_marks : List Part → List ℕ → List Part → Bool
is_no_marks passed ds parts = is_single_zero ds && (at_line_start passed && ends_line parts)

-- a number that starts with 0, or exceeds the width n
abbrev pub is_bad_number : ℕ → List ℕ → Bool
is_bad_number n ds = slice_index ds 0 == 48 || nat_lt n (worth ds)

-- a blank that begins a line, follows a blank or stands before a line end
abbrev pub is_bad_blank : List Part → List Part → Bool
is_bad_blank passed parts = at_line_start passed || (after_blank passed || breaks parts)

-- Faults, by where they are placed. A number of a sheet of the width n, with this number at its left.
abbrev pub number_fault : (Reason → Refusal) → ℕ → ℕ → List ℕ → Option Refusal
number_fault placed n left ds =
    first_due
    (due_if (is_bad_number n ds) (placed BadNumber)
    ∷ due_if (nat_le (worth ds) left) (placed BadRise)
    ∷ [])

-- a line end after so many charges, with memory of so many bytes
abbrev pub charge_fault : (Reason → Refusal) → ℕ → ℕ → Option Refusal
charge_fault placed room count =
    first_due
    (due_if (nat_le most_charges count) (placed TooMany)
    ∷ due_if (nat_lt room (row_bytes * (count + 1))) (placed NoPlace)
    ∷ [])

-- The fault at a part of a sheet, where these parts are passed and those follow: none at the 0 of a charge without marks, and none at the end of an empty line.
abbrev pub part_fault : ℕ → ℕ → List Part → Part → List Part → Option Refusal
part_fault n room passed (Digits ds) parts = cond (is_no_marks passed ds parts) None (number_fault (fault_after passed) n (left_number passed) ds)
part_fault n room passed Gap parts = due_if (is_bad_blank passed parts) (fault_after passed BadBlank)
part_fault n room passed Break parts = cond (at_line_start passed) None (charge_fault (fault_after passed) room (length (rows_of passed)))
part_fault n room passed (Odd b) parts = Some (fault_after passed BadByte)

-- the fault at the end of the text
abbrev pub end_fault : List Part → Option Refusal
end_fault passed = due_if (not (at_line_start passed)) (fault_after passed NoLineEnd)

-- What comes of reading a sheet: the refusal, if there is one, and the rows that are packed.
pub record Reading : Type 0 where
  pub refusal : Option Refusal
  pub rows : List ℕ

-- reading stops at a fault, and else goes on
abbrev pub unless_fault : Option Refusal → List ℕ → Reading → Reading
unless_fault (Some refusal) rows rest = record { refusal = Some refusal; rows = rows }
unless_fault None rows rest = rest

-- reading parts from the left to the right, up to the first fault
abbrev pub reading_on : ℕ → ℕ → List Part → List Part → Reading
reading_on n room passed [] = record { refusal = end_fault passed; rows = rows_of passed }
reading_on n room passed (part ∷ parts) = unless_fault (part_fault n room passed part parts) (rows_of passed) (reading_on n room (part ∷ passed) parts)

-- reading a text of any length, from its start on
abbrev pub text_reading : ℕ → ℕ → List ℕ → Reading
text_reading n room text = reading_on n room [] (parts_of text)

-- Reading a text as a sheet of the width n into memory of so many bytes.
unfoldable pub reading : ℕ → ℕ → List ℕ → Reading
reading n room text = cond (nat_lt most_bytes (length text)) (record { refusal = Some (unplaced Long); rows = [] }) (text_reading n room text)

-- what memory holds once these rows are packed into it
abbrev pub packed_into : List ℕ → List ℕ → List ℕ
packed_into rows memory = put_in_front (packed_bytes rows) memory
