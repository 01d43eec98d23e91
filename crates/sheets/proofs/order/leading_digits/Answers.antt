use Rattle.std.proofs.Common.{◌≡◌, length, take, ap, ◌∙◌, rules, arith, tests}
use Rattle.std.proofs.lemmas.Bool.Decides.{nat_tests}
use Rattle.std.proofs.lemmas.Iterator.{YieldsList-from_slice, YieldsList-from_take}
use Rattle.std.proofs.lemmas.List.{get_or_past}
use Rattle.std.proofs.lemmas.Iterator.Search.{YieldsList-from_take_while}
use Rattle.std.proofs.lemmas.Iterator.Consumers.{count_from_yields_List}
use Rattle.std.specs.Char.{is_ascii_digit}
use Rattle.std.specs.List.{take_while}
use Rattle.sheets.specs.Digits.{leading_digits}
use Rattle.sheets.proofs.Numerals.{most_of, taken}
use Rattle.sheets.proofs.order.leading_digits.Goals as goal
use Rattle.sheets.proofs.order.leading_digits.Goals.{in-48, in_default, in_default-2}

pub returns : goal.returns
unfolding leading_digits
returns c =
    let text = c.args.text.now in
    let most : c.if-text-lt1.most ≡ most_of text =
    elim c.if-text-lt1.branch [ in-48 w ↦ grind (arith, nat_tests) | in_default w ↦ (let past = get_or_past text 0 0 in grind (arith, nat_tests)) | in_default-2 w ↦ grind (arith, nat_tests) ]
    in
    let size : c.count-size.result ≡ length (take_while is_ascii_digit (take c.if-text-lt1.most text)) =
    count_from_yields_List c.take_while.result _ c.count-size.ensures.ran
    (YieldsList-from_take_while _ is_ascii_digit (YieldsList-from_take c.if-text-lt1.most (YieldsList-from_slice text (cc)) (cc)) c.take_while.ensures.closure
    c.take_while.ensures.done (λ x b q k. search (rules, tests)))
    in
    taken text c.count-size.result (size ∙ ap (λ most. length (take_while is_ascii_digit (take most text))) most)
