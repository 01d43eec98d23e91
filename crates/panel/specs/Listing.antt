-- Listing for the panel.
use Rattle.std.specs.Prelude.{◌≡◌, ℕ, ◌+◌, ◌*◌, ◌/◌, ◌<◌, List, [], ◌∷◌, length, take, flat_map, Option, Result, nat_lt}
use Rattle.marks.specs.declared.refusal.Reason.TheVariants.{NoPlace}
use Rattle.marks.specs.declared.refusal.Refusal.{Refusal}
use Rattle.marks.specs.Memory.{put_in_front}
use Rattle.marks.specs.Numbers.{most_marks, most_charges}
use Rattle.marks.specs.Refusals.{number_of, unplaced, due_if, first_due, range_refusal}
use Rattle.tables.specs.Packed.{packed_rows, packed_refusal}
use Rattle.limits.specs.Limits.{small}
use Rattle.found.specs.declared.record.Record.{Record}
use Rattle.found.specs.Records.{record_bytes, record_length, found_records}
use Rattle.closed.specs.Closed.{Query, query}
use Rattle.finder.specs.Found.{how_many, records}
use Rattle.panel.specs.Answers.{refusal_base, result_of, unless_due}

-- the list of the packed bytes as a table of the width n, with the least support θ, of sets of at most so many marks
abbrev pub packed_query : List ℕ → ℕ → ℕ → ℕ → Query
packed_query bytes n θ most = query (record { width = n; rows = packed_rows bytes }) (small most) θ

-- what is judged before anything is written
abbrev pub judged : List ℕ → ℕ → ℕ → Option Refusal
judged bytes n θ = first_due (range_refusal most_marks n ∷ range_refusal most_charges θ ∷ packed_refusal bytes n ∷ [])

-- how many records have place in so many bytes
abbrev pub places : ℕ → ℕ
places room = room / record_length

-- records of the list are left over
abbrev pub left_over : Query → ℕ → Option Refusal
left_over q room = due_if (nat_lt (places room) (how_many q)) (unplaced NoPlace)

-- the refusal, or how many records the list has, which are then all written
unfoldable pub list_result : List ℕ → ℕ → ℕ → ℕ → ℕ → Result ℕ Refusal
list_result bytes n θ most room =
    result_of (first_due (judged bytes n θ ∷ left_over (packed_query bytes n θ most) room ∷ [])) (how_many (packed_query bytes n θ most))

-- what memory holds once these records are written into it, one after another
abbrev pub written_into : List Record → List ℕ → List ℕ
written_into rs memory = put_in_front (flat_map record_bytes rs) memory

-- the list is written into memory, or as many of its records as have place
abbrev pub listed_into : Query → List ℕ → List ℕ
listed_into q memory = written_into (take (places (length memory)) (records q)) memory

-- What memory then holds: the records that have place, and past them what it held; and all of that where something is refused before.
unfoldable pub list_memory : List ℕ → ℕ → ℕ → ℕ → List ℕ → List ℕ
list_memory bytes n θ most memory = unless_due (judged bytes n θ) (listed_into (packed_query bytes n θ most) memory) memory

-- the records in the front of memory, so many
abbrev pub front_records : ℕ → List ℕ → List Record
front_records count memory = found_records (take (record_length * count) memory)

-- Where a count is answered, the front of memory holds so many records, which are those of the list; where NO PLACE is, it holds as many as have place in so many bytes, which are the first of the list.
pub record HoldsList (q : Query) (room : ℕ) (memory : List ℕ) (answer : ℕ) : Type 0 where
  pub all : answer < refusal_base → front_records answer memory ≡ records q
  pub first : answer ≡ refusal_base + number_of NoPlace → front_records (places room) memory ≡ take (places room) (records q)
