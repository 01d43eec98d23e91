use Rattle.std.proofs.Common.{◌≡◌, ℕ, ◌<◌, get_or, None, Ok, Err, Result, sym, inl, inr, rules, arith}
use Rattle.std.proofs.lemmas.Bool.{cases_lt}
use Rattle.std.specs.Result.{result_ok}
use Rattle.marks.specs.declared.refusal.Refusal.{Refusal}
use Rattle.marks.specs.Kinds.{Mark}
use Rattle.marks.specs.Refusals.{Answers, range_refusal}
use Rattle.sheets.proofs.Numbers.{in_range, worth_some, big_number, in_due}
use Rattle.sheets.proofs.line.mark.Goals as goal

-- what is no mark, and not 0, is too great
too_great : (number : ℕ) (r : Result Mark Refusal) → Answers (range_refusal 32 number) (λ m. m.number ≡ number) r → result_ok r ≡ None → 0 < number → 32 < number
too_great number (Ok m) a none some = absurd (cc)
too_great number (Err refusal) a none some =
    elim (cases_lt 32 number) [ inl high ↦ high | inr low ↦ (let due = in_due number some low in absurd (cc)) ]

pub returns-in_err-mark : goal.returns-in_err-mark
returns-in_err-mark c =
    let ds = c.args.digits.now in
    let first = in_range ds 0 c.requires.all c.requires.some in
    let other : get_or ds 0 0 ≡ 48 → ⊥ = search rules in
    let some = worth_some ds (omega (arith, other)) in
    let high = too_great c.from.result c.new.result c.new.ensures (sym c.in_err-mark.ensures.value) (omega (arith, c.from.ensures, c.worth.ensures)) in
    let big = big_number c.args.width.number ds (omega (arith, c.from.ensures, c.worth.ensures)) in
    grind arith
