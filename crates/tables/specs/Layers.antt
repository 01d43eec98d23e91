-- What each layer makes of the table below it.
use Rattle.std.specs.Prelude.{ℕ, ◌-◌, Bool, not, List, [], ◌∷◌, map, length, take, drop, is_some, Option, ◌==◌, nat_eq, slice_index}
use Rattle.std.specs.List.{range_with_len}
use Rattle.std.specs.Option.{option_map}
use Rattle.marks.specs.declared.refusal.Reason.TheVariants.{Range, BadChoice}
use Rattle.marks.specs.declared.refusal.Refusal.{Refusal}
use Rattle.marks.specs.Numbers.{most_marks, in_range, bit_of}
use Rattle.marks.specs.Places.{first_place}
use Rattle.marks.specs.Refusals.{placed_at, due_if, first_due}
use Rattle.marks.specs.Sets.{has, both, differing, all_below, picked}
use Rattle.tables.specs.Meaning.{Meaning}

-- the marks of `flipped` up to the width are in each row exactly where they were not
unfoldable pub reversed : ℕ → Meaning → Meaning
reversed flipped m = record { width = m.width; rows = map (λ row. differing row (both flipped (all_below m.width))) m.rows }

-- `count` charges from the charge `first` on, or as many as there are
unfoldable pub windowed : ℕ → ℕ → Meaning → Meaning
windowed first count m = record { width = m.width; rows = take count (drop (first - 1) m.rows) }

-- of a row the marks of a list, in the order of the list
abbrev pub chosen_from : List ℕ → ℕ → ℕ
chosen_from marks row = picked (λ j. has row (bit_of (slice_index marks j))) (length marks)

-- the table that shows the marks of a list, in its order
unfoldable pub selected : List ℕ → Meaning → Meaning
selected marks m = record { width = length marks; rows = map (chosen_from marks) m.rows }

-- x stands in the list
abbrev pub occurs : ℕ → List ℕ → Bool
occurs x list = is_some (first_place (nat_eq x) list)

-- the entry at the place i, which counts from 0, stands before it too
abbrev pub repeats : List ℕ → ℕ → Bool
repeats marks i = occurs (slice_index marks i) (take i marks)

-- the number is no mark
abbrev pub outside : ℕ → Bool
outside mark = not (in_range most_marks mark)

-- choosing the marks of a list
unfoldable pub choice_refusal : List ℕ → Option Refusal
choice_refusal marks =
    first_due
    (option_map (placed_at Range) (first_place outside marks)
    ∷ due_if (length marks == 0) (placed_at BadChoice 1)
    ∷ option_map (placed_at BadChoice) (first_place (repeats marks) (range_with_len 0 (length marks)))
    ∷ [])
