use Rattle.std.proofs.Common.{◌≡◌, ℕ, ◌+◌, ◌-◌, ◌<◌, ◌≤◌, ⊎_elim, Bool, true, false, not, List, length, get_or, take, Some, None, Option, nat_lt, rules, arith, sym, refl, ap, ◌∙◌, subst}
use Rattle.std.specs.Bool.{then_some}
use Rattle.std.specs.List.{range_with_len}
use Rattle.std.specs.Option.{option_or}
use Rattle.std.proofs.lemmas.Bool.{cases_lt, lt-ltb, le-ltb, ltb-true, ltb-false, not-true, not-false}
use Rattle.std.proofs.lemmas.List.{get_or-take, length-take-le}
use borrow.Author.Tests.{tests}
use Rattle.marks.specs.Orders.{After, Rising}
use Rattle.marks.specs.Places.{first_place, FirstPassing}
use Rattle.marks.proofs.Places.{first_number_some, first_number_none}
use Rattle.limits.specs.declared.bars.Pair.{Pair}
use Rattle.limits.specs.Pairs.{PairBefore, misplaced, no_pair}
use Rattle.limits.proofs.Barring.{placed, turned, unordered}
use Rattle.limits.proofs.bars.first_misplaced.Goals as goal

abbrev is_turned : Pair → Bool
is_turned pair = not (nat_lt pair.first pair.second)

-- The place of the first misplaced pair, where the first n are in order, and the one at n is not.
module _ (pairs : List Pair) (n : ℕ) (within : n ≤ length pairs) (rising : Rising PairBefore pairs n)
    (some : n < length pairs → 0 < n) (stops : n < length pairs → After PairBefore pairs n → ⊥) where
  low : (k : ℕ) → k < n → is_turned (get_or pairs k no_pair) ≡ false → misplaced pairs k ≡ false
  low k h e = placed pairs k (λ some. rising k some h) (ltb-true _ _ (not-false _ e))

  all_low : ((k : ℕ) → k < n → is_turned (get_or pairs k no_pair) ≡ false)
      → then_some (nat_lt n (length pairs)) (n + 1) ≡ first_place (misplaced pairs) (range_with_len 0 (length pairs))
  all_low each =
      ⊎_elim
      (λ h. rw (lt-ltb n (length pairs) h) (sym (first_number_some (misplaced pairs) (length pairs) n h (unordered pairs n (some h) h (stops h)) (λ k l. low k l (each k l)))))
      (λ h. rw (le-ltb n (length pairs) h) (sym (first_number_none (misplaced pairs) (length pairs) (λ k l. low k (omega arith) (each k (omega arith))))))
      (cases_lt n (length pairs))

  -- `may pair answer` says that the test may answer so
  module _ (may : Pair → Bool → Type 0) where
    answered : ((pair : Pair) (answer : Bool) → may pair answer → answer ≡ is_turned pair) → (k : ℕ) (answer : Bool) → k < n → may (get_or (take n pairs) k no_pair) answer
        → is_turned (get_or pairs k no_pair) ≡ answer
    answered sure k answer h told = sym (sure _ answer told ∙ ap is_turned (get_or-take n pairs k no_pair h))

    place_of : (found : Option ℕ) → FirstPassing may (take n pairs) found → ((pair : Pair) (answer : Bool) → may pair answer → answer ≡ is_turned pair)
        → option_or found (then_some (nat_lt n (length pairs)) (n + 1)) ≡ first_place (misplaced pairs) (range_with_len 0 (length pairs))
    place_of None f sure = all_low (λ k h. answered sure k false h (f.first k no_pair (omega (arith, length-take-le n pairs within))))
    place_of (Some p) f sure =
        let long : length (take n pairs) ≡ n = length-take-le n pairs within in
        let back : p - 1 + 1 ≡ p = omega (arith, f.first.0) in
        let inside : p - 1 < n = omega (arith, f.first.0, f.first.1, long) in
        let high = ltb-false _ _ (not-true _ (answered sure (p - 1) true inside (f.first.2 no_pair))) in
        sym
        (first_number_some (misplaced pairs) (length pairs) (p - 1) (omega arith) (turned pairs (p - 1) high)
        (λ k l. low k (omega arith) (answered sure k false (omega arith) (f.first.3 k no_pair (omega arith) l)))
        ∙ ap (λ (k : ℕ). Some k) back)

    place : (front : List Pair) → front ≡ take n pairs → (found : Option ℕ) → FirstPassing may front found → ((pair : Pair) (answer : Bool) → may pair answer → answer ≡ is_turned pair)
        → option_or found (then_some (nat_lt n (length pairs)) (n + 1)) ≡ first_place (misplaced pairs) (range_with_len 0 (length pairs))
    place front e found f sure = place_of found (subst (λ l. FirstPassing may l found) e f) sure

pub returns : goal.returns
returns c =
    let n = c.ordered_front-ordered.result in
    let ordered = c.ordered_front-ordered.ensures in
    let whole : n - 0 ≡ n = omega arith in
    c.or.ensures ∙ ap (option_or c.first_passing.result) c.then_some.ensures
    ∙ place c.args.pairs.now n ordered.within ordered.rising ordered.some ordered.stops _ (take (n - 0) c.args.pairs.now) (ap (λ k. take k c.args.pairs.now) whole)
    c.first_passing.result c.first_passing.ensures (λ pair answer given. search (rules, tests))
