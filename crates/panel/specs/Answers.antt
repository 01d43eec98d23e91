-- What a call answers to C: one number of 64 bits.
use Rattle.std.specs.Prelude.{ℕ, ◌+◌, ◌^◌, ◌<◌, ◌≤◌, List, Some, None, Ok, Err, Option, Result}
use Rattle.marks.specs.declared.refusal.Refusal.{Refusal}
use Rattle.marks.specs.Refusals.{number_of}

-- a refusal is told as this plus its number
abbrev pub refusal_base : ℕ
refusal_base = 2 ^ 40

-- the number that tells a count or a refusal
abbrev pub panel_answer : Result ℕ Refusal → ℕ
panel_answer (Ok count) = count
panel_answer (Err refusal) = refusal_base + number_of refusal.reason

-- A count is told below the base, and a refusal from the base on: so the number says which of the two it tells.
abbrev pub IsToldApart : Result ℕ Refusal → ℕ → Type 0
IsToldApart (Ok count) answer = answer < refusal_base
IsToldApart (Err refusal) answer = refusal_base ≤ answer

-- the refusal that is due, or, where none is, the count
abbrev pub result_of : Option Refusal → ℕ → Result ℕ Refusal
result_of (Some refusal) count = Err refusal
result_of None count = Ok count

-- memory as it becomes where no refusal is due, and else as it was
abbrev pub unless_due : Option Refusal → List ℕ → List ℕ → List ℕ
unless_due (Some refusal) new old = old
unless_due None new old = new
