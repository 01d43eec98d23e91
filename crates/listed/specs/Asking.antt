-- What an input asks for: an order line, and the sheet behind it.
use Rattle.std.specs.Prelude.{◌≡◌, ℕ, ◌*◌, ◌<◌, ◌≤◌, List, [], ◌∷◌, ◌++◌, length, take, drop, None, Option, nat_le}
use Rattle.marks.specs.declared.refusal.Reason.TheVariants.{Long}
use Rattle.marks.specs.declared.refusal.Refusal.{Refusal}
use Rattle.marks.specs.Numbers.{most_marks, most_charges, InRange}
use Rattle.marks.specs.Refusals.{unplaced, due_if, first_due}
use Rattle.tables.specs.Meaning.{Meaning}
use Rattle.tables.specs.Packed.{row_bytes, packed_refusal}
use Rattle.tables.specs.Layers.{windowed}
use Rattle.limits.specs.Limits.{small}
use Rattle.closed.specs.Closed.{Query, query}
use Rattle.sheets.specs.Accepting.{IsSheet}
use Rattle.sheets.specs.OrderLines.{number_ends, ended_numbers, number_start, number_in, numbers_of, numbers_in, order_refusal}
use Rattle.sheets.specs.Reading.{Reading, reading}
use Rattle.listed.specs.declared.asking.Asked.{Asked}

-- an input has fewer bytes than this
abbrev pub input_limit : ℕ
input_limit = 65536

-- a sheet has no more charges than this, and there is memory for so many
abbrev pub most_rows : ℕ
most_rows = 4096

abbrev pub sheet_room : ℕ
sheet_room = row_bytes * most_rows

-- the sheet: what stands behind the order line
abbrev pub sheet_in : List ℕ → List ℕ
sheet_in input = drop (number_start input 5) input

-- what comes of reading it as a text of its own, at the width of the order
unfoldable pub sheet_reading : List ℕ → Reading
sheet_reading input = reading (number_in input 0) sheet_room (sheet_in input)

-- the rows of its charges
abbrev pub rows_in : List ℕ → List ℕ
rows_in input = (sheet_reading input).rows

-- the fault of an input: its length is judged first, then its order line, then its sheet
unfoldable pub input_refusal : List ℕ → Option Refusal
input_refusal input =
    first_due
    (due_if (nat_le input_limit (length input)) (unplaced Long)
    ∷ order_refusal input
    ∷ (sheet_reading input).refusal
    ∷ [])

-- the list of sets of at most so many marks, with this least support, in the window of so many charges from a first one on
abbrev pub windowed_query : Meaning → ℕ → ℕ → ℕ → ℕ → Query
windowed_query charges least most first count = query (windowed first count charges) (small most) least

-- the charges of an input
abbrev pub charges_in : List ℕ → Meaning
charges_in input = record { width = number_in input 0; rows = rows_in input }

-- the list that an input asks for
abbrev pub query_in : List ℕ → Query
query_in input = windowed_query (charges_in input) (number_in input 1) (number_in input 2) (number_in input 3) (number_in input 4)

-- the order and the count of charges are those of the input
abbrev pub Asks : List ℕ → Asked → Type 0
Asks input asked = (numbers_of asked.order ≡ numbers_in input) × (asked.count ≡ length (rows_in input))

-- The input is an order line of these five numbers, each in its range, and behind it a sheet of these rows, each a set of marks up to the width n, for which there is memory; and it is not too long.
pub record IsAsked (n least most first count : ℕ) (rows input : List ℕ) : Type 0 where
  pub text : List ℕ
  pub written : input ≡ ended_numbers number_ends (n ∷ least ∷ most ∷ first ∷ count ∷ []) ++ text
  pub sheet : IsSheet n sheet_room text rows
  pub width : InRange most_marks n
  pub support : InRange most_charges least
  pub size : most ≤ most_marks
  pub start : InRange most_charges first
  pub charges : count ≤ most_charges
  pub short : length input < input_limit

-- whatever an input asks for is what is understood
abbrev pub IsUnderstood : List ℕ → Type 0
IsUnderstood input = (n least most first count : ℕ) (rows : List ℕ) → IsAsked n least most first count rows input
    → (input_refusal input ≡ None) × (query_in input ≡ windowed_query (record { width = n; rows = rows }) least most first count)

-- what has no fault asks for something
abbrev pub AsksUnlessFaulty : List ℕ → Type 0
AsksUnlessFaulty input = input_refusal input ≡ None
    → (n : ℕ) × (least : ℕ) × (most : ℕ) × (first : ℕ) × (count : ℕ) × (rows : List ℕ) × IsAsked n least most first count rows input

-- the bytes of the charges, in the front of memory
abbrev pub charge_bytes : List ℕ → Asked → List ℕ
charge_bytes memory asked = take (row_bytes * asked.count) memory

-- the charges are a packed table in the front of memory
pub record IsPacked (memory : List ℕ) (asked : Asked) : Type 0 where
  pub within : row_bytes * asked.count ≤ length memory
  pub accepted : packed_refusal (charge_bytes memory asked) asked.order.width.number ≡ None
