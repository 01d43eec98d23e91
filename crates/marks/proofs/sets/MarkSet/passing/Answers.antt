use Rattle.std.proofs.Common.{◌≡◌, ℕ, ◌+◌, ◌-◌, ◌<◌, length, sym, ap, ap₂, ◌∙◌, subst, arith}
use Rattle.std.specs.List.{range_with_len}
use Rattle.std.proofs.lemmas.Bool.{lt-ltb}
use Rattle.std.proofs.lemmas.List.{length_push}
use Rattle.marks.specs.Members.{has_all_below}
use Rattle.marks.specs.Numbers.{bit_of}
use Rattle.marks.proofs.Counting.{left, comes, all_passed}
use Rattle.marks.proofs.Gathering.{Asked, asked_start, asked_more, asked_all}
use Rattle.marks.proofs.sets.MarkSet.passing.Goals as goal

pub loop-mark-init : goal.loop-mark-init
loop-mark-init g c =
    let marks = c.into_iter-mark-iterator.result in
    let none : marks.passed ≡ 0 = cc in
    let whole : marks.width.number ≡ c.args.width.number = cc in
    (sym (ap₂ (λ (p w : ℕ). range_with_len (p + 1) (w - p)) none whole), asked_start (goal.F-post g c.args.test) c.args.width.number c.empty-passed.result.bits c.empty-passed.ensures)

pub test-requires : goal.test-requires
test-requires g c =
    let n = c.args.width.number in
    let next = comes n (length c.loop-mark.yielded) c.in-Some.mark.number _ (c.loop-mark.invariant.0 ∙ c.in-Some.ensures.steps) in
    let low : bit_of c.in-Some.mark.number < n = omega (arith, next.is_next, next.within) in
    c.requires c.in-Some.mark (has_all_below n (bit_of c.in-Some.mark.number) ∙ lt-ltb (bit_of c.in-Some.mark.number) n low)

pub loop-mark-preserved : goal.loop-mark-preserved
loop-mark-preserved g c =
    let n = c.args.width.number in
    let k = length c.loop-mark.yielded in
    let next = comes n k c.in-Some.mark.number _ (c.loop-mark.invariant.0 ∙ c.in-Some.ensures.steps) in
    let long = length_push c.loop-mark.yielded c.in-Some.mark in (
      ap (left n) long ∙ sym next.others,
      subst (λ (i : ℕ). Asked (goal.F-post g c.args.test) n i c.with_if-passed.result.bits) (sym long)
          (asked_more (goal.F-post g c.args.test) n k c.loop-mark.passed.bits c.with_if-passed.result.bits c.in-Some.mark c.test.result next.within next.is_next c.loop-mark.invariant.1 c.test.ensures
          c.with_if-passed.ensures),
    )

pub returns : goal.returns
returns g c =
    let n = c.args.width.number in
    let k = length c.loop-mark.yielded in
    asked_all (goal.F-post g c.args.test) n k c.loop-mark.passed.bits (all_passed n k (c.loop-mark.invariant.0 ∙ c.in-None.ensures.steps.0)) c.loop-mark.invariant.1
