-- Which pairs are misplaced, and when a list of pairs is refused.
use Rattle.std.proofs.Common.{◌≡◌, ℕ, ◌-◌, ◌<◌, ◌≤◌, ⊎_elim, false, true, not, ◌&&◌, List, length, get_or, Some, None, nat_lt, arith, ap₂, ◌∙◌}
use Rattle.std.specs.List.{range_with_len}
use Rattle.std.proofs.lemmas.Bool.{false_from_ne_true, cases_lt, lt-ltb, le-ltb}
use Rattle.std.proofs.lemmas.List.{get_or_default}
use Rattle.marks.specs.declared.refusal.Reason.TheVariants.{Range, BadPair}
use Rattle.marks.specs.Orders.{After}
use Rattle.marks.specs.Places.{first_place}
use Rattle.marks.specs.Refusals.{placed_at}
use Rattle.limits.specs.declared.bars.Pair.{Pair}
use Rattle.limits.specs.Pairs.{PairBefore, pair_before, off_range, misplaced, no_pair, bars_refusal}

module _ (pairs : List Pair) where
  -- in order, and its lower mark first
  pub placed : (k : ℕ) → (0 < k → After PairBefore pairs k) → (get_or pairs k no_pair).first < (get_or pairs k no_pair).second
      → misplaced pairs k ≡ false
  placed k after low = rw (lt-ltb (get_or pairs k no_pair).first (get_or pairs k no_pair).second low) (⊎_elim in_order (λ none. rw (le-ltb 0 k none)) (cases_lt 0 k))
    where
      in_order : 0 < k → (nat_lt 0 k && not (pair_before (get_or pairs (k - 1) no_pair) (get_or pairs k no_pair))) ≡ false
      in_order some = rw (after some no_pair) (grind arith)

  -- its lower mark not first
  pub turned : (k : ℕ) → (get_or pairs k no_pair).second ≤ (get_or pairs k no_pair).first → misplaced pairs k ≡ true
  turned k high = rw (le-ltb (get_or pairs k no_pair).first (get_or pairs k no_pair).second high)

  -- not after the one at its left
  pub unordered : (k : ℕ) → 0 < k → k < length pairs → (After PairBefore pairs k → ⊥) → misplaced pairs k ≡ true
  unordered k some inside not_after =
      rw (lt-ltb 0 k some, before) (grind arith)
    where
      before : pair_before (get_or pairs (k - 1) no_pair) (get_or pairs k no_pair) ≡ false
      before =
          false_from_ne_true _
          (λ t. not_after (λ d. ap₂ pair_before (get_or_default pairs (k - 1) d no_pair (omega arith)) (get_or_default pairs k d no_pair inside) ∙ t))

  -- what is refused, and what is not
  pub refused_range : (place : ℕ) → first_place off_range pairs ≡ Some place → bars_refusal pairs ≡ Some (placed_at Range place)
  unfolding bars_refusal
  refused_range place e = rw e

  pub refused_pair : first_place off_range pairs ≡ None → (place : ℕ) → first_place (misplaced pairs) (range_with_len 0 (length pairs)) ≡ Some place
      → bars_refusal pairs ≡ Some (placed_at BadPair place)
  unfolding bars_refusal
  refused_pair marks place e = rw (marks, e)

  pub accepted : first_place off_range pairs ≡ None → first_place (misplaced pairs) (range_with_len 0 (length pairs)) ≡ None → bars_refusal pairs ≡ None
  unfolding bars_refusal
  accepted marks e = rw (marks, e)
