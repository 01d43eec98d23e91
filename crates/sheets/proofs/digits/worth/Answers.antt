use Rattle.std.proofs.Common.{◌≡◌, ◌+◌, ◌-◌, ◌*◌, ◌^◌, min, subst, rules, arith}
use Rattle.std.proofs.lemmas.Fn.{fold_over, slice_gives, fronts}
use Rattle.std.proofs.lemmas.List.Sums.{fold_push}
use Rattle.sheets.specs.Reading.{worth}
use Rattle.sheets.proofs.Numbers.{step}
use Rattle.sheets.proofs.digits.worth.Goals as goal

pub returns : goal.returns
returns c =
    subst (λ digits. c.fold.result ≡ min (worth digits) (2 ^ 32 - 1)) c.iter.ensures.rest
    (fold_over fronts (λ y. y.now) _ (λ passed n. n ≡ min (worth passed) (2 ^ 32 - 1)) _
    (λ passed a x b f' before ran.
    let more = fold_push step 0 passed x.now in
    let next : b ≡ min (min (a * 10) (2 ^ 32 - 1) + (x.now - 48)) (2 ^ 32 - 1) = search rules in
    (omega arith, search rules))
    _ _ _ _ (slice_gives c.iter.result) (omega arith) c.fold.ensures.ran)
