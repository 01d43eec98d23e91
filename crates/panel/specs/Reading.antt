-- Reading a sheet for the panel.
use Rattle.std.specs.Prelude.{◌≡◌, ℕ, ◌*◌, ◌<◌, List, [], ◌∷◌, length, take, Option, Result}
use Rattle.marks.specs.declared.refusal.Refusal.{Refusal}
use Rattle.marks.specs.Numbers.{most_marks, InRange}
use Rattle.marks.specs.Refusals.{first_due, range_refusal}
use Rattle.tables.specs.Packed.{row_bytes, packed_rows}
use Rattle.sheets.specs.Accepting.{IsSheet}
use Rattle.sheets.specs.Reading.{reading, packed_into}
use Rattle.panel.specs.Answers.{refusal_base, result_of, unless_due}

-- reading a text as a sheet of the width n into memory of so many bytes
abbrev pub read_refusal : ℕ → ℕ → List ℕ → Option Refusal
read_refusal n room text = first_due (range_refusal most_marks n ∷ (reading n room text).refusal ∷ [])

-- the refusal, or how many charges were packed
unfoldable pub read_result : ℕ → ℕ → List ℕ → Result ℕ Refusal
read_result n room text = result_of (read_refusal n room text) (length (reading n room text).rows)

-- What memory then holds: the rows that were packed, and past them what it held; and all of that where the width is out of range.
unfoldable pub read_memory : ℕ → List ℕ → List ℕ → List ℕ
read_memory n text memory = unless_due (range_refusal most_marks n) (packed_into (reading n (length memory) text).rows memory) memory

-- Where a count is answered, the width is in range, and the lines of the text, but for the empty ones, are those of the rows that so many charges have in the front of memory. Where the width is in range, and the text is a sheet of rows that fit, their count is answered.
pub record ReadsSheets (n : ℕ) (text old new : List ℕ) (answer : ℕ) : Type 0 where
  pub wide : answer < refusal_base → InRange most_marks n
  pub counted : answer < refusal_base → IsSheet n (length old) text (packed_rows (take (row_bytes * answer) new))
  pub sheets : InRange most_marks n → (rows : List ℕ) → IsSheet n (length old) text rows → answer ≡ length rows
