-- How proofs speak of a walk over the nodes of a family: a node narrowed, the mark at which it is split, a descent, and the set that comes next.
use Rattle.std.specs.Prelude.{◌≡◌, ℕ, ◌+◌, ◌<◌, ◌≤◌, Bool, true, false, ◌||◌}
use Rattle.marks.specs.Orders.{Before}
use Rattle.marks.specs.Sets.{has, either, minus, all_below, size_of}
use Rattle.closed.specs.Families.{Listed, Fits, First}
use Rattle.closed.specs.Walks.{Tight, Reached, Opened}

-- the node (i, o) narrowed to (u, v): the same sets fit, and u and v are all that they have in common
pub record Narrowed (p : ℕ → Bool) (n i o u v : ℕ) : Type 0 where
  pub keeps : (z : ℕ) → Fits p n i o z → Fits p n u v z
  pub same : (z : ℕ) → Fits p n u v z → Fits p n i o z
  pub tight : Tight p n u v

-- f is the lowest mark below n that is neither put in nor put out
pub record Free (n i o f : ℕ) : Type 0 where
  pub below : f < n
  pub not_in : has i f ≡ false
  pub not_out : has o f ≡ false
  pub decided : (j : ℕ) → j < f → (has i j || has o j) ≡ true

-- every mark below n is put in or put out
abbrev pub Done : ℕ → ℕ → ℕ → Type 0
Done n i o = (j : ℕ) → j < n → (has i j || has o j) ≡ true

-- the marks below n that are neither put in nor put out
abbrev pub free_marks : ℕ → ℕ → ℕ → ℕ
free_marks n i o = minus (all_below n) (either i o)

-- A descent for the k-th set has come from the node (i₀, o₀), all of whose marks below q₀ are decided and at which c₀ nodes were opened, to the node (i, o),
-- with the turns t and c nodes opened.
pub record Descent (p : ℕ → Bool) (n k c₀ q₀ i₀ o₀ i o t c : ℕ) : Type 0 where
  pub upto : ℕ
  pub reached : Reached p n upto i o t
  pub tight : Tight p n i o
  pub leads : (y : ℕ) → First p n i o y → First p n i₀ o₀ y
  pub opened : Opened k (size_of t) c
  pub grown : c + q₀ ≤ c₀ + upto

-- y is the next set of the family after x, which need not be of the family itself
pub record Follows (p : ℕ → Bool) (n x y : ℕ) : Type 0 where
  pub listed : Listed p n y
  pub after : Before x y
  pub between : (z : ℕ) → Listed p n z → Before x z → Before z y → ⊥
