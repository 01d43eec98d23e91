-- No printed line is longer than the memory that there is for it.
use Rattle.std.proofs.Common.{◌≡◌, ℕ, ◌^◌, ◌<◌, ◌≤◌, List, length, decimal, IsOk, None, Result, arith, length-append}
use Rattle.std.proofs.lemmas.Bool.{le-ltb}
use Rattle.std.proofs.lemmas.Fmt.{length-decimal-le}
use Rattle.marks.specs.declared.refusal.Reason.{Reason}
use Rattle.marks.specs.declared.refusal.Reason.TheVariants.{Form, Range, BadByte, BadNumber, BadRise, BadBlank, NoLineEnd, TooMany, NoPlace, Long, Ragged, Stray, WordCount, BadChoice, BadPair, OutOfOrder, ShortSlot, NothingYet, Clash, DeadEnd}
use Rattle.marks.specs.declared.refusal.Refusal.{Refusal}
use Rattle.marks.specs.Numbers.{most_marks}
use Rattle.marks.specs.Refusals.{number_of}
use Rattle.marks.proofs.Due.{not_due}
use Rattle.found.specs.Lines.{line_text, fault_text, end_text, place_refusal, HandedOut}
use Rattle.found.proofs.Marked.{marks_short}

-- a text that fits is handed out
pub fits : (text old new : List ℕ) (r : Result ℕ Refusal) → length text ≤ length old → HandedOut text old new r → IsOk r
fits text old new r h out =
    let none : place_refusal (length text) (length old) ≡ None = rw (le-ltb (length old) (length text) h) in
    not_due (place_refusal (length text) (length old)) _ r none out

digits : (n : ℕ) → n < 2 ^ 64 → length (decimal n) ≤ 20
digits n h = length-decimal-le 20 n (omega arith) (omega arith) h

-- how long each line is at most
pub line_short : (set support : ℕ) → support < 2 ^ 64 → length (line_text set support) ≤ 119
line_short set support h = simp length-append (omega (arith, marks_short set most_marks (omega arith), digits support h))

pub end_short : (sets opened : ℕ) → sets < 2 ^ 64 → opened < 2 ^ 64 → length (end_text sets opened) ≤ 54
end_short sets opened h l = simp length-append (omega (arith, digits sets h, digits opened l))

pub fault_short : (number line column : ℕ) → number < 2 ^ 64 → line < 2 ^ 64 → column < 2 ^ 64 → length (fault_text number line column) ≤ 81
fault_short number line column n l c = simp length-append (omega (arith, digits number n, digits line l, digits column c))

pub number_small : (r : Reason) → number_of r ≤ 20
number_small Form = omega arith
number_small Range = omega arith
number_small BadByte = omega arith
number_small BadNumber = omega arith
number_small BadRise = omega arith
number_small BadBlank = omega arith
number_small NoLineEnd = omega arith
number_small TooMany = omega arith
number_small NoPlace = omega arith
number_small Long = omega arith
number_small Ragged = omega arith
number_small Stray = omega arith
number_small WordCount = omega arith
number_small BadChoice = omega arith
number_small BadPair = omega arith
number_small OutOfOrder = omega arith
number_small ShortSlot = omega arith
number_small NothingYet = omega arith
number_small Clash = omega arith
number_small DeadEnd = omega arith
