-- The printed lines, as bytes, and what is written into memory.
use Rattle.std.specs.Prelude.{◌≡◌, ℕ, zero, suc, ◌+◌, cond, List, [], ◌++◌, length, codes, decimal, Option, Result, nat_lt}
use Rattle.marks.specs.declared.refusal.Reason.TheVariants.{NoPlace}
use Rattle.marks.specs.declared.refusal.Refusal.{Refusal}
use Rattle.marks.specs.Memory.{put_in_front}
use Rattle.marks.specs.Numbers.{most_marks}
use Rattle.marks.specs.Refusals.{Answers, unplaced, due_if, refusal_text}
use Rattle.marks.specs.Sets.{has}

-- the mark at bit b and a blank, if it is in the set
abbrev pub mark_text : ℕ → ℕ → List ℕ
mark_text set b = cond (has set b) (decimal (b + 1) ++ codes " ") []

-- the marks of a set at the bits below n, from the lowest on
unfoldable pub marks_text : ℕ → ℕ → List ℕ
marks_text set zero = []
marks_text set (suc n) = marks_text set n ++ mark_text set n

-- a found set: its marks, then its support in brackets and a line end
abbrev pub line_text : ℕ → ℕ → List ℕ
line_text set support = marks_text set most_marks ++ ((codes "(" ++ decimal support) ++ codes ")\n")

-- a refusal, as it is shown, and a line end
abbrev pub fault_text : ℕ → ℕ → ℕ → List ℕ
fault_text number line column = refusal_text number line column ++ codes "\n"

-- the end of a list: how many sets it has, and how many nodes were opened
abbrev pub end_text : ℕ → ℕ → List ℕ
end_text sets opened = (codes "sets " ++ decimal sets) ++ ((codes " opened " ++ decimal opened) ++ codes "\n")

-- writing a text of so many bytes into so much memory
abbrev pub place_refusal : ℕ → ℕ → Option Refusal
place_refusal size room = due_if (nat_lt room size) (unplaced NoPlace)

-- a text handed out into memory, and how many bytes it has
abbrev pub HandedOut : List ℕ → List ℕ → List ℕ → Result ℕ Refusal → Type 0
HandedOut text old new = Answers (place_refusal (length text) (length old)) (λ n. (n ≡ length text) × (new ≡ put_in_front text old))
