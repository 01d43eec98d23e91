-- Each limit allows every part of a set that it allows.
use Rattle.std.specs.Prelude.{◌≡◌, ℕ, zero, suc, ◌+◌, ◌≤◌, Bool, true, false, cond, List, [], ◌∷◌, refl, slice_index}
use Rattle.std.proofs.Common.{arith}
use Rattle.std.specs.List.{list_any}
use Rattle.std.proofs.lemmas.Bool.{both_ways, le-leb, leb-true}
use Rattle.marks.specs.Numbers.{most_marks, bit_of}
use Rattle.marks.specs.Sets.{has, size_of, PartOf}
use Rattle.marks.specs.Sizes.{ones_part}
use Rattle.marks.specs.Parts.{part_has}
use Rattle.limits.specs.declared.bars.Pair.{Pair}
use Rattle.limits.specs.Limits.{AllowsParts, small, weight_below, weight_of, light}
use Rattle.limits.specs.Pairs.{holds_number, holds_pair, unbarred}

-- ---- small sets

pub small_parts : (most : ℕ) → AllowsParts (small most)
small_parts most x y l part h = le-leb (size_of x) most (omega (arith, leb-true (size_of y) most h, ones_part x y part))

-- ---- light sets

module _ (weight : ℕ → ℕ) where
  -- a part weighs no more
  pub weight_part : (n x y : ℕ) → PartOf x y → weight_below weight n x ≤ weight_below weight n y
  unfolding weight_below
  weight_part zero x y part = omega arith
  weight_part (suc n) x y part = by (has x n) (has y n) refl refl (weight_part n x y part)
    where
      by : (a b : Bool) → has x n ≡ a → has y n ≡ b → weight_below weight n x ≤ weight_below weight n y
          → weight_below weight n x + cond a (weight n) 0 ≤ weight_below weight n y + cond b (weight n) 0
      by true true e f h = omega arith
      by true false e f h = absurd (both_ways (has y n) f (part_has x y n part e))
      by false true e f h = omega arith
      by false false e f h = omega arith

pub light_parts : (weights : List ℕ) (cap : ℕ) → AllowsParts (light weights cap)
light_parts weights cap x y l part h =
    le-leb (weight_of weights x) cap (omega (arith, leb-true (weight_of weights y) cap h, weight_part (λ b. slice_index weights b) most_marks x y part))

-- ---- sets with no barred pair

number_part : (x y number : ℕ) → PartOf x y → holds_number x number ≡ true → holds_number y number ≡ true
number_part x y number part h = grind (arith, part_has x y (bit_of number) part)

pair_part : (x y : ℕ) (pair : Pair) → PartOf x y → holds_pair x pair ≡ true → holds_pair y pair ≡ true
pair_part x y pair part h = grind (arith, number_part x y pair.first part, number_part x y pair.second part)

one_part : (x y : ℕ) (pairs : List Pair) → PartOf x y → list_any (holds_pair x) pairs ≡ true → list_any (holds_pair y) pairs ≡ true
one_part x y [] part h = h
one_part x y (pair ∷ pairs) part h = grind (arith, pair_part x y pair part, one_part x y pairs part)

pub unbarred_parts : (pairs : List Pair) → AllowsParts (unbarred pairs)
unfolding unbarred
unbarred_parts pairs x y l part h = grind (arith, one_part x y pairs part)
