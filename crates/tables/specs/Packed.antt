-- A packed table: four bytes to a charge, low byte first.
use Rattle.std.specs.Prelude.{ℕ, ◌/◌, ◌%◌, Bool, not, List, [], ◌∷◌, map, length, Option, ◌==◌, nat_lt}
use Rattle.std.specs.Option.{option_map}
use Rattle.marks.specs.declared.refusal.Reason.TheVariants.{Ragged, TooMany, Stray}
use Rattle.marks.specs.declared.refusal.Refusal.{Refusal}
use Rattle.marks.specs.Bytes.{four_at}
use Rattle.marks.specs.Numbers.{most_charges}
use Rattle.marks.specs.Places.{first_place}
use Rattle.marks.specs.Refusals.{unplaced, placed_at, due_if, first_due}
use Rattle.marks.specs.Sets.{part_of, all_below}
use Rattle.tables.specs.Meaning.{Meaning}

-- how many bytes a row has
abbrev pub row_bytes : ℕ
row_bytes = 4

-- the rows that bytes hold; fewer than four at the end are no row
abbrev pub packed_rows : List ℕ → List ℕ
packed_rows [] = []
packed_rows (a ∷ []) = []
packed_rows (a ∷ b ∷ []) = []
packed_rows (a ∷ b ∷ c ∷ []) = []
packed_rows (a ∷ b ∷ c ∷ d ∷ rest) = four_at (a ∷ b ∷ c ∷ d ∷ []) 0 ∷ packed_rows rest

-- the row that a chunk of four bytes holds, and those of a list of chunks
abbrev pub chunk_row : List ℕ → ℕ
chunk_row bytes = four_at bytes 0

abbrev pub chunk_rows : List (List ℕ) → List ℕ
chunk_rows chunks = map chunk_row chunks

-- a row has a mark that is not among all of them
abbrev pub strays : ℕ → ℕ → Bool
strays all row = not (part_of row all)

-- standing up a packed table of the width n over bytes
unfoldable pub packed_refusal : List ℕ → ℕ → Option Refusal
packed_refusal bytes n =
    first_due
    (due_if (not (length bytes % row_bytes == 0)) (unplaced Ragged)
    ∷ due_if (nat_lt most_charges (length bytes / row_bytes)) (unplaced TooMany)
    ∷ option_map (placed_at Stray) (first_place (strays (all_below n)) (packed_rows bytes))
    ∷ [])

-- what a packed table of the width n over chunks means
abbrev pub packed_meaning : ℕ → List (List ℕ) → Meaning
packed_meaning n chunks = record { width = n; rows = chunk_rows chunks }
