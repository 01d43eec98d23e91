-- House limits: which sets each allows.
use Rattle.std.specs.Prelude.{◌≡◌, ℕ, zero, suc, ◌+◌, ◌^◌, ◌<◌, Bool, true, cond, List, nat_le, slice_index}
use Rattle.marks.specs.Numbers.{most_marks}
use Rattle.marks.specs.Sets.{has, size_of, PartOf}

-- a test on sets that allows every part of a set that it allows
abbrev pub AllowsParts : (ℕ → Bool) → Type 0
AllowsParts allowed = (x y : ℕ) → y < 2 ^ most_marks → PartOf x y → allowed y ≡ true → allowed x ≡ true

-- sets of at most so many marks
abbrev pub small : ℕ → ℕ → Bool
small most s = nat_le (size_of s) most

-- the sum of the weights of the marks of s at the bits below n
unfoldable pub weight_below : (ℕ → ℕ) → ℕ → ℕ → ℕ
weight_below weight zero s = 0
weight_below weight (suc n) s = weight_below weight n s + cond (has s n) (weight n) 0

-- the weight of s: the sum of the weights of its marks, where the weight of mark i stands at i - 1
abbrev pub weight_of : List ℕ → ℕ → ℕ
weight_of weights s = weight_below (λ b. slice_index weights b) most_marks s

-- sets whose weight is at most the cap
abbrev pub light : List ℕ → ℕ → ℕ → Bool
light weights cap s = nat_le (weight_of weights s) cap
