-- Where a finder stands in its list, and what each call does to it.
use Rattle.std.specs.Prelude.{◌≡◌, ℕ, ◌+◌, ◌<◌, List, length, Some, None, Ok, Err, Result}
use Rattle.marks.specs.declared.refusal.Refusal.{Refusal}
use Rattle.tables.specs.declared.table.Table.{Ghosts as Tables}
use Rattle.limits.specs.declared.limit.Limit.{Ghosts as Limits}
use Rattle.found.specs.Records.{written, slot_refusal}
use Rattle.closed.specs.Closed.{Query}
use Rattle.finder.specs.Asked.{asked}
use Rattle.finder.specs.declared.finder.Finder.{Finder}
use Rattle.finder.specs.declared.narrowing.Query.{Query as Asked}
use Rattle.finder.specs.declared.step.Step.{Step}
use Rattle.finder.specs.declared.step.Step.TheVariants.{Found, End}
use Rattle.finder.specs.Found.{how_many, kth_record, ordinal_of, opened_at_end, look_refusal}

-- A finder's type rests on what its tables mean and its limits allow, since it says that the finder stands at a place of its list: it remembers the set of its ordinal.
module _ {T W : Type 0} {tables : Tables T} {limits : Limits W} where
  -- what the finder lists
  abbrev pub query_of : Finder T W tables limits → Query
  query_of f = asked tables.meaning limits.allowed f.query

  -- a finder of what is asked for, as begin gives it: no set came yet, so it stands before the first
  abbrev pub Fresh : Asked T W → Finder T W tables limits → Type 0
  Fresh a f = (f.query ≡ a) × (f.last ≡ None)

  -- What next does, by its answer, with a slot that held `before` and then holds `after`, to the finder f, which then is h. Found: the list has a set after the one at
  -- which f stands; its record is written, and h stands at it. End: the list is out; the numbers are those of the last record, or 0 and 1 for an empty list; nothing
  -- changes. A refusal changes nothing.
  abbrev pub NextDone : Finder T W tables limits → List ℕ → Result Step Refusal → List ℕ → Finder T W tables limits → Type 0
  NextDone f before (Ok Found) after h =
      (slot_refusal (length before) ≡ None)
      × (ordinal_of f.last < how_many (query_of f)) × (after ≡ written (kth_record (query_of f) (ordinal_of f.last + 1)) before)
      × (h.query ≡ f.query) × (ordinal_of h.last ≡ ordinal_of f.last + 1)
  NextDone f before (Ok (End ordinal opened)) after h =
      (slot_refusal (length before) ≡ None)
      × (ordinal_of f.last ≡ how_many (query_of f)) × (ordinal ≡ ordinal_of f.last) × (opened ≡ opened_at_end (query_of f) (ordinal_of f.last))
      × (after ≡ before) × (h ≡ f)
  NextDone f before (Err refusal) after h = (slot_refusal (length before) ≡ Some refusal) × (after ≡ before) × (h ≡ f)

  -- What look does: the record of the set at which the finder stands is written again, or the refusal that is due comes and the slot is as it was.
  abbrev pub LookDone : Finder T W tables limits → List ℕ → Result (Unit {0}) Refusal → List ℕ → Type 0
  LookDone f before (Ok done) after = (look_refusal (length before) f.last ≡ None) × (after ≡ written (kth_record (query_of f) (ordinal_of f.last)) before)
  LookDone f before (Err refusal) after = (look_refusal (length before) f.last ≡ Some refusal) × (after ≡ before)
