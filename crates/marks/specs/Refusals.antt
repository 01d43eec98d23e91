-- Refusals: the number of each reason, and what a call answers that may refuse.
use Rattle.std.specs.Prelude.{◌≡◌, ℕ, Bool, cond, not, List, [], ◌∷◌, ◌++◌, length, codes, decimal, Some, None, Ok, Err, Option, Result}
use Rattle.marks.specs.declared.refusal.Reason.{Reason}
use Rattle.marks.specs.declared.refusal.Reason.TheVariants.{Form, Range, BadByte, BadNumber, BadRise, BadBlank, NoLineEnd, TooMany, NoPlace, Long, Ragged, Stray, WordCount, BadChoice, BadPair, OutOfOrder, ShortSlot, NothingYet, Clash, DeadEnd}
use Rattle.marks.specs.declared.refusal.Refusal.{Refusal}
use Rattle.marks.specs.Numbers.{in_range}

-- the number by which users know each reason
abbrev pub number_of : Reason → ℕ
number_of Form = 1
number_of Range = 2
number_of BadByte = 3
number_of BadNumber = 4
number_of BadRise = 5
number_of BadBlank = 6
number_of NoLineEnd = 7
number_of TooMany = 8
number_of NoPlace = 9
number_of Long = 10
number_of Ragged = 11
number_of Stray = 12
number_of WordCount = 13
number_of BadChoice = 14
number_of BadPair = 15
number_of OutOfOrder = 16
number_of ShortSlot = 17
number_of NothingYet = 18
number_of Clash = 19
number_of DeadEnd = 20

-- a refusal as it is shown: its number and its two places
abbrev pub refusal_text : ℕ → ℕ → ℕ → List ℕ
refusal_text number first second = (codes "fault " ++ decimal number) ++ ((codes " line " ++ decimal first) ++ (codes " column " ++ decimal second))

-- a refusal that names two places, one, or none: a place that is not named is 0
abbrev pub placed_at_two : Reason → ℕ → ℕ → Refusal
placed_at_two reason first second = record { reason = reason; first = first; second = second }

abbrev pub placed_at : Reason → ℕ → Refusal
placed_at reason place = placed_at_two reason place 0

abbrev pub unplaced : Reason → Refusal
unplaced reason = placed_at reason 0

-- a refusal that is due where the test holds
abbrev pub due_if : Bool → Refusal → Option Refusal
due_if test refusal = cond test (Some refusal) None

-- of the refusals of a call, in the order of its rules, the first that is due
abbrev pub first_due : List (Option Refusal) → Option Refusal
first_due [] = None
first_due (Some refusal ∷ rest) = Some refusal
first_due (None ∷ rest) = first_due rest

-- What a call answers: the refusal that is due, and where none is, a value of which P holds.
abbrev pub Answers : {A : Type 0} → Option Refusal → (A → Type 0) → Result A Refusal → Type 0
Answers due P (Ok x) = (due ≡ None) × P x
Answers due P (Err refusal) = due ≡ Some refusal

-- What a call leaves of memory that it may write to: on acceptance as many bytes, and after a refusal the same.
abbrev pub Kept : {A B : Type 0} → List B → List B → Result A Refusal → Type 0
Kept old new (Ok x) = length new ≡ length old
Kept old new (Err refusal) = new ≡ old

-- making one of 1 to most from the number n
abbrev pub range_refusal : ℕ → ℕ → Option Refusal
range_refusal most n = due_if (not (in_range most n)) (unplaced Range)
