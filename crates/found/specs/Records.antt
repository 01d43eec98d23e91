-- Found records: how they lie in bytes, and which records bytes hold.
use Rattle.std.specs.Prelude.{ℕ, ◌+◌, ◌-◌, ◌*◌, ◌/◌, ◌%◌, ◌^◌, ◌<◌, Bool, cond, not, ◌&&◌, List, [], ◌∷◌, ◌++◌, map, length, Decides, Option, ◌==◌, nat_le, nat_lt, slice_index_or}
use Rattle.std.specs.Int.Count.{count_trailing_zeros}
use Rattle.std.specs.List.{range_with_len}
use Rattle.std.specs.Option.{option_map}
use Rattle.marks.specs.declared.refusal.Reason.TheVariants.{ShortSlot, Ragged, NoPlace, OutOfOrder}
use Rattle.marks.specs.declared.refusal.Refusal.{Refusal}
use Rattle.marks.specs.Bytes.{four_bytes, eight_bytes, four_at, eight_at}
use Rattle.marks.specs.Memory.{put_in_front}
use Rattle.marks.specs.Numbers.{most_marks}
use Rattle.marks.specs.Orders.{Before}
use Rattle.marks.specs.Places.{first_place}
use Rattle.marks.specs.Refusals.{unplaced, placed_at, due_if, first_due}
use Rattle.marks.specs.Sets.{has, differing}
use Rattle.found.specs.declared.record.Record.{Record}

-- The layout of a record, and how many bytes it has.
unfoldable pub record_bytes : Record → List ℕ
record_bytes r = four_bytes r.set.bits ++ (four_bytes r.support ++ (eight_bytes r.ordinal ++ eight_bytes r.opened))

abbrev pub record_length : ℕ
record_length = 24

-- the record in the bytes from a place on
unfoldable pub record_at : List ℕ → ℕ → Record
record_at bytes at = record {
  set = record { bits = four_at bytes at };
  support = four_at bytes (at + 4);
  ordinal = eight_at bytes (at + 8);
  opened = eight_at bytes (at + 16);
}

-- the records that bytes hold
unfoldable pub found_records : List ℕ → List Record
found_records bytes = map (λ k. record_at bytes (k * record_length)) (range_with_len 0 (length bytes / record_length))

-- what a slot holds once a record is written into it
abbrev pub written : Record → List ℕ → List ℕ
written r slot = put_in_front (record_bytes r) slot

-- writing a record into a slot of so many bytes
abbrev pub slot_refusal : ℕ → Option Refusal
slot_refusal size = due_if (nat_lt size record_length) (unplaced ShortSlot)

-- x holds the lowest mark on which the sets x and y differ: the list order, as a test
abbrev pub comes_before : ℕ → ℕ → Bool
comes_before x y = has x (count_trailing_zeros most_marks (differing x y))

-- the test tells exactly which of two sets comes before the other in the list order
abbrev pub TellsListOrder : Type 0
TellsListOrder = (x y : ℕ) → x < 2 ^ most_marks → y < 2 ^ most_marks → Decides (comes_before x y) (Before x y)

-- what stands past the end of a list
abbrev pub no_record : Record
no_record = record { set = record { bits = 0 }; support = 0; ordinal = 0; opened = 0 }

-- the set of the record at k, which counts from 0, does not come after the one at its left
abbrev pub unordered : List Record → ℕ → Bool
unordered records k = nat_lt 0 k && not (comes_before (slice_index_or records (k - 1) no_record).set.bits (slice_index_or records k no_record).set.bits)

-- reading bytes back into memory for so many records
unfoldable pub read_back_refusal : List ℕ → ℕ → Option Refusal
read_back_refusal bytes room =
    first_due
    (due_if (not (length bytes % record_length == 0)) (unplaced Ragged)
    ∷ due_if (nat_lt room (length bytes / record_length)) (unplaced NoPlace)
    ∷ option_map (placed_at OutOfOrder) (first_place (unordered (found_records bytes)) (range_with_len 0 (length bytes / record_length)))
    ∷ [])

-- What memory holds after bytes were read back: the records, and past them what it held; where they are ragged or do not fit, what it held.
unfoldable pub read_back_memory : List ℕ → List Record → List Record
read_back_memory bytes old =
    cond (length bytes % record_length == 0 && nat_le (length bytes / record_length) (length old)) (put_in_front (found_records bytes) old) old
