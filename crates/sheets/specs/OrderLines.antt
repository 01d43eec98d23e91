-- The order line, which stands before a sheet: what a right line is, what a text says, and what is refused.
use Rattle.std.specs.Prelude.{◌≡◌, ℕ, zero, suc, ◌+◌, ◌^◌, ◌<◌, ◌≤◌, Bool, not, ◌&&◌, ◌⊎◌, List, [], ◌∷◌, ◌++◌, length, take, drop, decimal, None, Err, Option, Result, ◌==◌, nat_le, nat_lt, slice_index}
use Rattle.std.specs.Option.{option_or}
use Rattle.marks.specs.declared.refusal.Reason.TheVariants.{Form, Range}
use Rattle.marks.specs.declared.refusal.Refusal.{Refusal}
use Rattle.marks.specs.Numbers.{most_marks, most_charges}
use Rattle.marks.specs.Refusals.{Answers, placed_at_two, due_if}
use Rattle.sheets.specs.Cutting.{blank, line_end}
use Rattle.sheets.specs.Digits.{most_digits, leading_digits}
use Rattle.sheets.specs.Reading.{worth}
use Rattle.sheets.specs.declared.order.Order.{Order}

-- ---- right lines

-- what ends each of the five numbers of an order line: a blank, and the line end after the last
abbrev pub number_ends : List ℕ
number_ends = blank ∷ blank ∷ blank ∷ blank ∷ line_end ∷ []

-- each number in decimal, and what ends it
abbrev pub ended_numbers : List ℕ → List ℕ → List ℕ
ended_numbers [] numbers = []
ended_numbers (end ∷ ends) [] = []
ended_numbers (end ∷ ends) (n ∷ numbers) = decimal n ++ (end ∷ ended_numbers ends numbers)

-- as many numbers as there are ends, each of as many digits as a number can have
pub record FitFor (ends numbers : List ℕ) : Type 0 where
  pub count : length numbers ≡ length ends
  pub short : (k : ℕ) → slice_index numbers k < 10 ^ most_digits

-- the text begins with the line
abbrev pub Begins : List ℕ → List ℕ → Type 0
Begins text line = (rest : List ℕ) × (text ≡ line ++ rest)

-- these bytes begin a right line
abbrev pub BeginRightLine : List ℕ → List ℕ → Type 0
BeginRightLine ends bytes = (numbers : List ℕ) × FitFor ends numbers × Begins (ended_numbers ends numbers) bytes

-- Behind k bytes of the text stands the first byte that no right line could have after them, or the text ends there before a line is whole.
pub record FormFault (ends text : List ℕ) (k : ℕ) : Type 0 where
  pub within : k ≤ length text
  pub before : BeginRightLine ends (take k text)
  pub past : k < length text → BeginRightLine ends (take (k + 1) text) → ⊥
  pub none : (numbers : List ℕ) → FitFor ends numbers → Begins text (ended_numbers ends numbers) → ⊥

-- ---- what a text says

-- the number at the front of a text is one, and this byte ends it: past the end of a text stands 0, which ends none
abbrev pub is_ended : ℕ → List ℕ → Bool
is_ended end text = nat_lt 0 (length (leading_digits text)) && slice_index text (length (leading_digits text)) == end

-- how many bytes stand before the byte that ends the number at a place
abbrev pub number_end : List ℕ → ℕ → ℕ
number_end text at = at + length (leading_digits (drop at text))

-- how many bytes stand before the number k, which counts from 0
unfoldable pub number_start : List ℕ → ℕ → ℕ
number_start text zero = 0
number_start text (suc k) = number_end text (number_start text k) + 1

-- the number k
abbrev pub number_in : List ℕ → ℕ → ℕ
number_in text k = worth (leading_digits (drop (number_start text k) text))

-- taking the number at a place, which has to be ended so
abbrev pub end_refusal : ℕ → List ℕ → ℕ → Option Refusal
end_refusal end text at = due_if (not (is_ended end (drop at text))) (placed_at_two Form 0 (number_end text at + 1))

-- the first fault of form from the number k on, of numbers that have to be ended so
abbrev pub form_refusal : List ℕ → List ℕ → ℕ → Option Refusal
form_refusal [] text k = None
form_refusal (end ∷ ends) text k = option_or (end_refusal end text (number_start text k)) (form_refusal ends text (k + 1))

-- the numbers, and the column of the first byte of each
abbrev pub numbers_in : List ℕ → List ℕ
numbers_in text = number_in text 0 ∷ number_in text 1 ∷ number_in text 2 ∷ number_in text 3 ∷ number_in text 4 ∷ []

abbrev pub columns_in : List ℕ → List ℕ
columns_in text =
    (number_start text 0 + 1) ∷ (number_start text 1 + 1) ∷ (number_start text 2 + 1) ∷ (number_start text 3 + 1) ∷ (number_start text 4 + 1) ∷ []

-- the least and the greatest that each may be: a width, a support, how many marks, a charge, how many charges
abbrev pub number_ranges : List (ℕ × ℕ)
number_ranges = (1, most_marks) ∷ (1, most_charges) ∷ (0, most_marks) ∷ (1, most_charges) ∷ (0, most_charges) ∷ []

-- a number that begins at a column, and has to be low to high
abbrev pub bounds_refusal : ℕ → ℕ → ℕ → ℕ → Option Refusal
bounds_refusal low high n column = due_if (not (nat_le low n && nat_le n high)) (placed_at_two Range 0 column)

-- of numbers that begin at columns, the first that is out of range
abbrev pub ranges_refusal : List (ℕ × ℕ) → List ℕ → List ℕ → Option Refusal
ranges_refusal [] numbers columns = None
ranges_refusal (r ∷ ranges) [] columns = None
ranges_refusal (r ∷ ranges) (n ∷ numbers) [] = None
ranges_refusal (r ∷ ranges) (n ∷ numbers) (column ∷ columns) = option_or (bounds_refusal r.0 r.1 n column) (ranges_refusal ranges numbers columns)

-- reading an order: form is judged over the whole line, and then the range of each number
unfoldable pub order_refusal : List ℕ → Option Refusal
order_refusal text = option_or (form_refusal number_ends text 0) (ranges_refusal number_ranges (numbers_in text) (columns_in text))

-- the numbers of an order
abbrev pub numbers_of : Order → List ℕ
numbers_of o = o.width.number ∷ o.support.number ∷ o.size ∷ o.first.number ∷ o.count ∷ []

-- the order that a text says, before the sheet whose first byte is at a place, which counts from 1
abbrev pub Says : List ℕ → Order → Type 0
Says text o = (numbers_of o ≡ numbers_in text) × (o.sheet ≡ number_start text 5 + 1)

-- ---- that what a text says is what right lines say

-- where the numbers of a line begin, the first of them at a column
abbrev pub columns_from : ℕ → List ℕ → List ℕ
columns_from column [] = []
columns_from column (n ∷ numbers) = column ∷ columns_from (column + length (decimal n) + 1) numbers

-- A text that begins with a right line is answered by its numbers alone, and any other is refused FORM at the first byte that no right line could have.
pub record ReadsRightLines (text : List ℕ) (answer : Result Order Refusal) : Type 0 where
  pub right : (numbers : List ℕ) → FitFor number_ends numbers → Begins text (ended_numbers number_ends numbers)
      → Answers (ranges_refusal number_ranges numbers (columns_from 1 numbers))
      (λ o. (numbers_of o ≡ numbers) × (o.sheet ≡ length (ended_numbers number_ends numbers) + 1)) answer
  pub wrong : (k : ℕ) → FormFault number_ends text k → answer ≡ Err (placed_at_two Form 0 (k + 1))
  pub either : ((numbers : List ℕ) × FitFor number_ends numbers × Begins text (ended_numbers number_ends numbers)) ⊎ ((k : ℕ) × FormFault number_ends text k)
