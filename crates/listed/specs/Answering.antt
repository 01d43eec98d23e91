-- What is printed for an input.
use Rattle.std.specs.Prelude.{◌≡◌, ℕ, List, ◌++◌, length, flat_map, Some, None, Option}
use Rattle.marks.specs.declared.refusal.Refusal.{Refusal}
use Rattle.marks.specs.Refusals.{number_of}
use Rattle.found.specs.declared.record.Record.{Record}
use Rattle.found.specs.Lines.{line_text, fault_text, end_text}
use Rattle.closed.specs.Closed.{Query}
use Rattle.finder.specs.Found.{how_many, records}
use Rattle.finder.specs.Runs.{nodes_of}
use Rattle.listed.specs.Asking.{input_refusal, windowed_query, query_in, IsAsked, AsksUnlessFaulty}

-- the line of a record: the marks of its set, and its support
abbrev pub record_text : Record → List ℕ
record_text r = line_text r.set.bits r.support

-- a list: a line for each set, in its order, and at the end how many sets there are and how many nodes are opened for them
unfoldable pub list_text : Query → List ℕ
list_text q = flat_map record_text (records q) ++ end_text (how_many q) (length (nodes_of q))

-- a fault alone, where one is due, and else the list
abbrev pub fault_or_list : Option Refusal → Query → List ℕ
fault_or_list (Some refusal) q = fault_text (number_of refusal.reason) refusal.first refusal.second
fault_or_list None q = list_text q

-- what is printed for an input
unfoldable pub answer_text : List ℕ → List ℕ
answer_text input = fault_or_list (input_refusal input) (query_in input)

-- Whatever an input asks for is listed, and what asks for nothing has a fault.
pub record AnswersAsked (input text : List ℕ) : Type 0 where
  pub lists : (n least most first count : ℕ) (rows : List ℕ) → IsAsked n least most first count rows input
      → text ≡ list_text (windowed_query (record { width = n; rows = rows }) least most first count)
  pub faults : AsksUnlessFaulty input
