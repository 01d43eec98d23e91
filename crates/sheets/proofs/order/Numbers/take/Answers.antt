use Rattle.std.proofs.Common.{◌≡◌, ◌^◌, ◌<◌, sym, subst, arith}
use Rattle.std.proofs.lemmas.Grind.{common_steps}
use Rattle.sheets.specs.Digits.{most_digits}
use Rattle.sheets.specs.Reading.{worth}
use Rattle.sheets.proofs.Numerals.{small_number}
use Rattle.sheets.proofs.order.Numbers.take.Goals as goal

pub returns-in-Some-clause-answer : goal.returns-in-Some-clause-answer
returns-in-Some-clause-answer c =
    let small = subst (λ digits. worth digits < 10 ^ most_digits) (sym c.leading_digits-digits.ensures) (small_number _) in
    let value : c.worth.result ≡ worth c.leading_digits-digits.result.now = omega (arith, small) in
    grind (arith, common_steps)
