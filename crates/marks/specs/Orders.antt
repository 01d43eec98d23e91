-- Strict orders: the list order of sets, and the first element of a list that is out of order.
use Rattle.std.specs.Prelude.{◌≡◌, ℕ, ◌-◌, ◌<◌, ◌≤◌, true, false, List, length, Some, None, Option, slice_index_or}
use Rattle.marks.specs.Sets.{has}

-- The list order: the set x comes before the set y if x holds the lowest mark on which they differ.
pub record Before (x y : ℕ) : Type 0 where
  pub at : ℕ
  pub held : has x at ≡ true
  pub lacks : has y at ≡ false
  pub same : (j : ℕ) → j < at → has x j ≡ has y j

module _ {A : Type 0} (before : A → A → Type 0) where
  -- the element at k, which counts from 0, comes after the one at its left
  abbrev pub After : List A → ℕ → Type 0
  After list k = (d : A) → before (slice_index_or list (k - 1) d) (slice_index_or list k d)

  -- each of the first n elements but the first comes after the one at its left
  abbrev pub Rising : List A → ℕ → Type 0
  Rising list n = (k : ℕ) → 0 < k → k < n → After list k

  -- What the check of neighbours answers: the place, from 1, of the first element that does not come after the one at its left, or none if each does.
  abbrev pub FirstUnordered : List A → Option ℕ → Type 0
  FirstUnordered list None = Rising list (length list)
  FirstUnordered list (Some place) = (1 < place) × (place ≤ length list) × Rising list (place - 1) × (After list (place - 1) → ⊥)
