-- Going over all marks up to a width.
use Rattle.std.proofs.Common.{◌≡◌, ℕ, zero, suc, ◌+◌, ◌-◌, ◌≤◌, Bool, true, false, cond, List, [], ◌∷◌, filter, Some, None, Option, refl, ap, ap₂, ◌∙◌, arith, pow_pos}
use Rattle.std.specs.Iterator.{YieldsFirstBy}
use Rattle.std.specs.List.{range_with_len, find}
use Rattle.std.specs.Option.{option_map}
use Rattle.std.proofs.lemmas.Bool.{lt-ltb, le-ltb}
use Rattle.std.proofs.lemmas.Iterator.{YieldsList}
use Rattle.std.proofs.lemmas.Iterator.Consumers.{YieldsList-from_first}
use Rattle.marks.specs.declared.numbers.mark.FirstMarks.{FirstMarks}
use Rattle.marks.specs.declared.sets.Marks.{Marks}
use Rattle.marks.specs.Kinds.{Mark}
use Rattle.marks.specs.Numbers.{bit_of}
use Rattle.marks.specs.Members.{has_all_below, has_below}
use Rattle.marks.specs.Places.{first_place}
use Rattle.marks.specs.Sets.{has, all_below, bits_below}

-- of the numbers from n on, none is the bit of a mark up to n
none_from : (n a m : ℕ) → n ≤ a → filter (has (all_below n)) (range_with_len a m) ≡ []
none_from n a zero h = refl
none_from n a (suc m) h = rw (has_all_below n a ∙ le-ltb a n h) (none_from n (a + 1) m (omega arith))

all_from : (n a k m : ℕ) → a + k ≡ n → k ≤ m → filter (has (all_below n)) (range_with_len a m) ≡ range_with_len a k
all_from n a zero m e l = none_from n a m (omega arith)
all_from n a (suc k) zero e l = absurd (omega arith)
all_from n a (suc k) (suc m) e l =
    rw (has_all_below n a ∙ lt-ltb a n (omega arith)) (ap (λ (bits : List ℕ). a ∷ bits) (all_from n (a + 1) k m (omega arith) (omega arith)))

-- the bits of all marks up to n
all_bits : (n : ℕ) → n ≤ 32 → bits_below 32 (all_below n) ≡ range_with_len 0 n
unfolding bits_below
all_bits n h = all_from n 0 n 32 (omega arith) h

-- they come one after the other
pub each_mark : (n : ℕ) → n ≤ 32 → (marks : Marks) → marks.rest.bits ≡ all_below n
    → YieldsList (YieldsFirstBy (λ (mark : Mark). bit_of mark.number) (λ (left : Marks). bits_below 32 left.rest.bits)) (λ mark. bit_of mark.number) marks (range_with_len 0 n)
each_mark n h marks e =
    YieldsList-from_first (λ (mark : Mark). bit_of mark.number) (λ (left : Marks). bits_below 32 left.rest.bits) (range_with_len 0 n) (ap (bits_below 32) e ∙ all_bits n h)

-- places counted from a later number
further : (a : ℕ) (o : Option ℕ) → option_map (λ k. k + (a + 1)) o ≡ option_map (λ k. k + a) (option_map (λ k. k + 1) o)
further a None = refl
further a (Some k) = let e : k + (a + 1) ≡ k + 1 + a = omega arith in ap (λ (n : ℕ). Some n) e

unmoved : (o : Option ℕ) → option_map (λ k. k + 0) o ≡ o
unmoved None = refl
unmoved (Some k) = let e : k + 0 ≡ k = omega arith in ap (λ (n : ℕ). Some n) e

-- the first number that passes is at the place that is one more
place_found : (test : ℕ → Bool) (a n : ℕ) → option_map (λ b. b + 1) (find test (range_with_len a n)) ≡ option_map (λ k. k + a) (first_place test (range_with_len a n))
place_found test a zero = refl
place_found test a (suc n) = by (test a) (place_found test (a + 1) n)
  where
    by : (t : Bool) → option_map (λ b. b + 1) (find test (range_with_len (a + 1) n)) ≡ option_map (λ k. k + (a + 1)) (first_place test (range_with_len (a + 1) n))
        → option_map (λ b. b + 1) (cond t (Some a) (find test (range_with_len (a + 1) n)))
        ≡ option_map (λ k. k + a) (cond t (Some 1) (option_map (λ k. k + 1) (first_place test (range_with_len (a + 1) n))))
    by true ih = let e : a + 1 ≡ 1 + a = omega arith in ap (λ (n : ℕ). Some n) e
    by false ih = ih ∙ further a (first_place test (range_with_len (a + 1) n))

-- the first mark that passes is at its own place
pub mark_found : (test : ℕ → Bool) (n : ℕ) (first : Option Mark) → option_map (λ mark. bit_of mark.number) first ≡ find test (range_with_len 0 n)
    → option_map (λ mark. mark.number) first ≡ first_place test (range_with_len 0 n)
mark_found test n first e =
    numbered first ∙ ap (option_map (λ (b : ℕ). b + 1)) e ∙ place_found test 0 n ∙ unmoved (first_place test (range_with_len 0 n))
  where
    numbered : (o : Option Mark) → option_map (λ mark. mark.number) o ≡ option_map (λ b. b + 1) (option_map (λ mark. bit_of mark.number) o)
    numbered None = refl
    numbered (Some mark) = let e : mark.number ≡ mark.number - 1 + 1 = omega (arith, mark.range.0) in ap (λ (n : ℕ). Some n) e

-- ---- by their numbers

-- the marks up to n come one after the other
pub each_number : (n : ℕ) (marks : FirstMarks) → marks.passed ≡ 0 → marks.width.number ≡ n
    → YieldsList (YieldsFirstBy (λ (mark : Mark). mark.number) (λ (left : FirstMarks). range_with_len (left.passed + 1) (left.width.number - left.passed))) (λ mark. mark.number) marks (range_with_len 1 n)
each_number n marks none whole =
    let first : marks.passed + 1 ≡ 1 = omega (arith, none) in
    let size : marks.width.number - marks.passed ≡ n = omega (arith, none, whole) in
    YieldsList-from_first (λ (mark : Mark). mark.number) (λ (left : FirstMarks). range_with_len (left.passed + 1) (left.width.number - left.passed)) (range_with_len 1 n)
    (ap₂ range_with_len first size)

-- the first mark whose bit passes is at its own place
number_from : (test : ℕ → Bool) (a n : ℕ) → find (λ m. test (bit_of m)) (range_with_len (a + 1) n) ≡ option_map (λ k. k + a) (first_place test (range_with_len a n))
number_from test a zero = refl
number_from test a (suc n) = let same : bit_of (a + 1) ≡ a = omega arith in rw same (by (test a) (number_from test (a + 1) n))
  where
    by : (t : Bool) → find (λ m. test (bit_of m)) (range_with_len (a + 1 + 1) n) ≡ option_map (λ k. k + (a + 1)) (first_place test (range_with_len (a + 1) n))
        → cond t (Some (a + 1)) (find (λ m. test (bit_of m)) (range_with_len (a + 1 + 1) n))
        ≡ option_map (λ k. k + a) (cond t (Some 1) (option_map (λ k. k + 1) (first_place test (range_with_len (a + 1) n))))
    by true ih = let e : a + 1 ≡ 1 + a = omega arith in ap (λ (n : ℕ). Some n) e
    by false ih = ih ∙ further a (first_place test (range_with_len (a + 1) n))

pub number_found : (test : ℕ → Bool) (n : ℕ) (first : Option ℕ) → first ≡ find (λ m. test (bit_of m)) (range_with_len 1 n) → first ≡ first_place test (range_with_len 0 n)
number_found test n first e = e ∙ number_from test 0 n ∙ unmoved (first_place test (range_with_len 0 n))

-- a mark that is among all marks up to n is no more than n
pub mark_within : (n all : ℕ) → all ≡ all_below n → (mark : Mark) → has all (bit_of mark.number) ≡ true → mark.number ≤ n
mark_within n all e mark h = omega (arith, has_below n all (bit_of mark.number) (omega (arith, e, pow_pos n)) h, mark.range.0)
