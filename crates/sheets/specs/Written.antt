-- Writing packed bytes as a sheet.
use Rattle.std.specs.Prelude.{◌≡◌, ℕ, ◌≤◌, List, [], ◌∷◌, length, None, Option, Result, nat_lt}
use Rattle.marks.specs.declared.refusal.Reason.TheVariants.{NoPlace, Long}
use Rattle.marks.specs.declared.refusal.Refusal.{Refusal}
use Rattle.marks.specs.Memory.{put_in_front}
use Rattle.marks.specs.Refusals.{Answers, unplaced, due_if, first_due}
use Rattle.tables.specs.Packed.{packed_rows, packed_refusal}
use Rattle.sheets.specs.Accepting.{HasNoEmptyLine}
use Rattle.sheets.specs.Reading.{reading, packed_into}
use Rattle.sheets.specs.Rendering.{render, packed_bytes, most_bytes}

-- the sheet of packed bytes without empty lines
abbrev pub sheet_of : List ℕ → List ℕ
sheet_of bytes = render (packed_rows bytes)

-- writing packed bytes of the width n into memory of so many bytes
unfoldable pub write_refusal : List ℕ → ℕ → ℕ → Option Refusal
write_refusal bytes n room =
    first_due
    (packed_refusal bytes n
    ∷ due_if (nat_lt most_bytes (length (sheet_of bytes))) (unplaced Long)
    ∷ due_if (nat_lt room (length (sheet_of bytes))) (unplaced NoPlace)
    ∷ [])

-- what is answered, and what memory then holds
abbrev pub Writes : List ℕ → ℕ → List ℕ → List ℕ → Result ℕ Refusal → Type 0
Writes bytes n old new =
    Answers (write_refusal bytes n (length old)) (λ size. (size ≡ length (sheet_of bytes)) × (new ≡ put_in_front (sheet_of bytes) old))

-- The text is the sheet of packed bytes at the width n, and none of its lines is empty: read into memory that has room for them, it is accepted, and packs to the same bytes; and no other text without an empty line that is accepted packs to them.
pub record IsSheetOf (n : ℕ) (bytes text : List ℕ) : Type 0 where
  pub filled : HasNoEmptyLine text
  pub back : (memory : List ℕ) → length bytes ≤ length memory
      → ((reading n (length memory) text).refusal ≡ None) × (packed_into (reading n (length memory) text).rows memory ≡ put_in_front bytes memory)
  pub only : (other : List ℕ) (room : ℕ) → HasNoEmptyLine other → (reading n room other).refusal ≡ None → packed_bytes (reading n room other).rows ≡ bytes → other ≡ text
