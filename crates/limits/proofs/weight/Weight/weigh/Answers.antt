use Rattle.std.proofs.Common.{◌≡◌, ℕ, zero, suc, ◌+◌, ◌≤◌, Bool, true, false, cond, not, List, [], ◌∷◌, length, get_or, refl, sym, ap, ap₂, ◌∙◌, add-one, rules, arith}
use Rattle.std.proofs.lemmas.Iterator.{YieldsList-from_map}
use Rattle.std.proofs.lemmas.Iterator.Consumers.{YieldsList-from_first, sum_by_from_yields_List}
use Rattle.std.proofs.lemmas.Iterator.Adapters.{at_most_from_yields_List, fits_from_length}
use Rattle.std.specs.List.{range_with_len, sum_by}
use Rattle.std.proofs.lemmas.List.Filters.{length-filter_both}
use Rattle.std.proofs.lemmas.List.FromFn.{length-range_with_len}
use Rattle.std.proofs.lemmas.List.Sums.{sum_by-append}
use borrow.Author.Tests.{tests}
use Rattle.marks.specs.Numbers.{most_marks, bit_of}
use Rattle.marks.specs.Sets.{has, bits_below}
use Rattle.marks.proofs.Enumerated.{bits_start, bits_more}
use Rattle.limits.specs.Limits.{weight_below}
use Rattle.limits.proofs.weight.Weight.weigh.Goals as goal

-- the weight of the mark at bit b
abbrev weight_at : List ℕ → ℕ → ℕ
weight_at weights b = get_or weights b 0

-- a set has at most as many marks as are looked at
few_bits : (n s : ℕ) → length (bits_below n s) ≤ n
unfolding bits_below
few_bits n s = omega (arith, length-filter_both (has s) (λ b. not (has s b)) (λ b. refl) (range_with_len 0 n), length-range_with_len 0 n)

module _ (weight : ℕ → ℕ) where
  -- the weights of the marks, one after the other
  weight_sum : (n s : ℕ) → weight_below weight n s ≡ sum_by weight (bits_below n s)
  unfolding weight_below
  weight_sum zero s = ap (sum_by weight) (sym (bits_start s))
  weight_sum (suc n) s =
      ap₂ (λ (a b : ℕ). a + b) (weight_sum n s) (by (has s n)) ∙ sym (sum_by-append weight (bits_below n s) (cond (has s n) (n ∷ []) [])) ∙ ap (sum_by weight) (sym (bits_more s n)) ∙ ap (λ k. sum_by weight (bits_below k s)) (add-one n)
    where
      by : (b : Bool) → cond b (weight n) 0 ≡ sum_by weight (cond b (n ∷ []) [])
      by true = omega arith
      by false = refl

pub sum-requires-clause-fits : goal.sum-requires-clause-fits
sum-requires-clause-fits c =
    fits_from_length _ _ most_marks _
    (at_most_from_yields_List
    (YieldsList-from_first (λ mark. bit_of mark.number) (λ marks. bits_below most_marks marks.rest.bits) (bits_below most_marks c.args.set.bits) cc)
    (few_bits most_marks c.args.set.bits))
    c.map.ensures.closure (omega arith) (λ x r q k. search (rules, tests))

pub returns : goal.returns
returns c =
    sum_by_from_yields_List (weight_at c.args.self.now.weights) (bits_below most_marks c.args.set.bits) c.map.result _ c.sum.ensures.ran
    (YieldsList-from_map _ (weight_at c.args.self.now.weights)
    (YieldsList-from_first (λ mark. bit_of mark.number) (λ marks. bits_below most_marks marks.rest.bits) (bits_below most_marks c.args.set.bits) cc)
    c.map.ensures.closure (λ x r q k. search (rules, tests)))
    ∙ sym (weight_sum (weight_at c.args.self.now.weights) most_marks c.args.set.bits)
