-- The marks of a set that pass a test.
use Rattle.std.specs.Prelude.{◌≡◌, ℕ, Bool, true}
use Rattle.marks.specs.Kinds.{Mark}
use Rattle.marks.specs.Numbers.{bit_of}
use Rattle.marks.specs.Sets.{has}

-- kept has of the marks of s just those for which the test answered true, and no other mark. `may mark answer` says that the test may answer so: where its own contract leaves the
-- answer open, each mark is kept or left by one of those that it may give.
pub record Filtered (may : Mark → Bool → Type 0) (s kept : ℕ) : Type 0 where
  pub asked : (b : ℕ) → has s b ≡ true → (mark : Mark) × (bit_of mark.number ≡ b) × may mark (has kept b)
  pub part : (b : ℕ) → has kept b ≡ true → has s b ≡ true
