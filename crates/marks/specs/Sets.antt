-- Sets of marks, each kept as a number: the mark at bit b is in the set s where bit b of s is 1. Mark i is at bit i - 1.
use Rattle.std.specs.Prelude.{◌≡◌, ℕ, zero, suc, ◌-◌, ◌/◌, ◌%◌, ◌^◌, ◌<◌, Bool, true, false, cond, not, ◌&&◌, ◌||◌, List, length, Decides, filter, ◌==◌, bit_and, bit_or, bit_xor, count_ones, nat_lt}
use Rattle.std.specs.List.{range_with_len}
use Rattle.marks.specs.Kinds.{Width}
use Rattle.marks.specs.Numbers.{most_marks}

-- the mark at bit b is in s
unfoldable pub has : ℕ → ℕ → Bool
has s b = s / 2 ^ b % 2 == 1

-- the set with no mark
abbrev pub no_marks : ℕ
no_marks = 0

-- the mark at bit b alone
abbrev pub only : ℕ → ℕ
only b = 2 ^ b

-- the marks at the bits below n: all marks up to n
abbrev pub all_below : ℕ → ℕ
all_below n = 2 ^ n - 1

-- all marks up to a width
abbrev pub up_to : Width → ℕ
up_to width = all_below width.number

-- the marks that are in s or in t
abbrev pub either : ℕ → ℕ → ℕ
either s t = bit_or s t

-- the marks that are in s and in t
abbrev pub both : ℕ → ℕ → ℕ
both s t = bit_and s t

-- the marks that are in just one of s and t
abbrev pub differing : ℕ → ℕ → ℕ
differing s t = bit_xor s t

-- the marks that are in s and not in t, for sets s and t of marks up to the last
abbrev pub minus : ℕ → ℕ → ℕ
minus s t = both s (all_below most_marks - t)

-- s and the mark at bit b
abbrev pub with_bit : ℕ → ℕ → ℕ
with_bit s b = either s (only b)

-- s without the mark at bit b
abbrev pub without_bit : ℕ → ℕ → ℕ
without_bit s b = minus s (only b)

-- every mark of x is in y: x is a part of y
abbrev pub PartOf : ℕ → ℕ → Type 0
PartOf x y = both x y ≡ x

-- the same, as a test
abbrev pub part_of : ℕ → ℕ → Bool
part_of x y = both x y == x

-- how many marks s has
abbrev pub size_of : ℕ → ℕ
size_of s = count_ones s

-- the bits of the marks of s that are below n, from the lowest on
unfoldable pub bits_below : ℕ → ℕ → List ℕ
bits_below n s = filter (has s) (range_with_len 0 n)

-- the marks at the bits below n that pass a test
unfoldable pub picked : (ℕ → Bool) → ℕ → ℕ
picked test zero = no_marks
picked test (suc n) = cond (test n) (with_bit (picked test n) n) (picked test n)

-- b is the bit of the lowest mark of x
pub record Lowest (x b : ℕ) : Type 0 where
  pub held : has x b ≡ true
  pub none_below : (j : ℕ) → j < b → has x j ≡ false

-- b is the bit of the highest mark of x
pub record Highest (x b : ℕ) : Type 0 where
  pub held : has x b ≡ true
  pub none_above : (j : ℕ) → b < j → has x j ≡ false

-- just one of the two holds
abbrev pub differ : Bool → Bool → Bool
differ true y = not y
differ false y = y

-- Which marks each of these sets has, and that a set is known by its marks.
pub record Membership : Type 0 where
  pub of_none : (b : ℕ) → has no_marks b ≡ false
  pub of_only : (a b : ℕ) → has (only a) b ≡ (a == b)
  pub of_all_below : (n b : ℕ) → has (all_below n) b ≡ nat_lt b n
  pub of_either : (s t b : ℕ) → has (either s t) b ≡ (has s b || has t b)
  pub of_both : (s t b : ℕ) → has (both s t) b ≡ (has s b && has t b)
  pub of_differing : (s t b : ℕ) → has (differing s t) b ≡ differ (has s b) (has t b)
  pub of_picked : (test : ℕ → Bool) (n b : ℕ) → has (picked test n) b ≡ (nat_lt b n && test b)
  pub of_minus : (s t b : ℕ) → s < 2 ^ most_marks → t < 2 ^ most_marks → has (minus s t) b ≡ (has s b && not (has t b))
  pub same : (s t : ℕ) → ((b : ℕ) → has s b ≡ has t b) → s ≡ t
  pub part : (x y : ℕ) → Decides (part_of x y) ((b : ℕ) → has x b ≡ true → has y b ≡ true)
  pub sized : (n s : ℕ) → s < 2 ^ n → length (bits_below n s) ≡ size_of s
  pub lowest_one : (x a b : ℕ) → Lowest x a → Lowest x b → a ≡ b
  pub highest_one : (x a b : ℕ) → Highest x a → Highest x b → a ≡ b
