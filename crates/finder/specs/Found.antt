-- The records of a list, and what is opened on the way.
use Rattle.std.specs.Prelude.{ℕ, ◌+◌, ◌-◌, ◌*◌, cond, List, [], ◌∷◌, map, length, Some, None, Option, ◌==◌, slice_index, slice_index_or}
use Rattle.std.specs.List.{range_with_len}
use Rattle.std.specs.Option.{is_none, option_map_or}
use Rattle.marks.specs.declared.refusal.Reason.TheVariants.{NothingYet}
use Rattle.marks.specs.declared.refusal.Refusal.{Refusal}
use Rattle.marks.specs.Refusals.{unplaced, due_if, first_due}
use Rattle.tables.specs.Holding.{support_of}
use Rattle.found.specs.declared.record.Record.{Record}
use Rattle.found.specs.Records.{slot_refusal, no_record}
use Rattle.closed.specs.Families.{turns, turn_count}
use Rattle.closed.specs.Closed.{Query, listed, the_list}
use Rattle.finder.specs.declared.finder.Last.{Last}

-- how many sets are listed
abbrev pub how_many : Query → ℕ
how_many q = length (the_list q)

-- the record of the set x as the k-th of the list, counted from 1: up to it, 2 k - 1 nodes are opened and one for each of its turns
abbrev pub record_of : Query → ℕ → ℕ → Record
record_of q k x = record {
  set = record { bits = x };
  support = support_of q.table x;
  ordinal = k;
  opened = 2 * k - 1 + turn_count (listed q) q.table.width x;
}

-- the records of the list, in its order
unfoldable pub records : Query → List Record
records q = map (λ k. record_of q (k + 1) (slice_index (the_list q) k)) (range_with_len 0 (how_many q))

-- the record of the k-th set, counted from 1
abbrev pub kth_record : Query → ℕ → Record
kth_record q k = slice_index_or (records q) (k - 1) no_record

-- the set of a record with its turns, as it is remembered
abbrev pub last_of : Query → Record → Last
last_of q r = record { found = r; turns = record { bits = turns (listed q) q.table.width r.set.bits } }

-- the k-th set, as it is remembered; before the first set, none
unfoldable pub last_at_place : Query → ℕ → Option Last
last_at_place q k = cond (k == 0) None (Some (last_of q (kth_record q k)))

-- the ordinal of the set that is remembered; before the first set, 0
abbrev pub ordinal_of : Option Last → ℕ
ordinal_of last = option_map_or (λ l. l.found.ordinal) last 0

-- how many nodes are opened once the list is out after k sets: those up to the last set, or the root alone where there is none
abbrev pub opened_at_end : Query → ℕ → ℕ
opened_at_end q k = cond (k == 0) 1 (kth_record q k).opened

-- looking at the last set, if there is one, with a slot of so many bytes
abbrev pub look_refusal : ℕ → Option Last → Option Refusal
look_refusal size last = first_due (slot_refusal size ∷ due_if (is_none last) (unplaced NothingYet) ∷ [])
