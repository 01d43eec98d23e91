-- A walk over the nodes of a family, from one that fits to the next.
use Rattle.std.specs.Prelude.{◌≡◌, ℕ, ◌+◌, ◌-◌, ◌*◌, ◌<◌, ◌≤◌, Bool, true, false, ◌||◌, length, slice_index_or}
use Rattle.marks.specs.Sets.{has, minus, all_below, with_bit, size_of}
use Rattle.closed.specs.Families.{Listed, Fits, Agree, Turn, Turns, First, list_of}

-- The marks of the node (i, o) are all that the sets that fit it have in common: some set fits, a mark that is not put out is in one that does, and one
-- that is not put in is missing in one that does.
pub record Tight (p : ℕ → Bool) (n i o : ℕ) : Type 0 where
  pub some : ℕ
  pub fit : Fits p n i o some
  pub with_it : (b : ℕ) → b < n → has o b ≡ false → (x : ℕ) × Fits p n i o x × (has x b ≡ true)
  pub without_it : (b : ℕ) → b < n → has i b ≡ false → (x : ℕ) × Fits p n i o x × (has x b ≡ false)

-- u has just the marks that are in every set that fits the node (i, o), and v those below n that are in none
pub record Exact (p : ℕ → Bool) (n i o u v : ℕ) : Type 0 where
  pub in_all : (b : ℕ) → has u b ≡ true → (z : ℕ) → Fits p n i o z → has z b ≡ true
  pub all_in : (b : ℕ) → ((z : ℕ) → Fits p n i o z → has z b ≡ true) → has u b ≡ true
  pub out_below : (b : ℕ) → has v b ≡ true → b < n
  pub out_none : (b : ℕ) → has v b ≡ true → (z : ℕ) → Fits p n i o z → has z b ≡ false
  pub none_out : (b : ℕ) → b < n → ((z : ℕ) → Fits p n i o z → has z b ≡ false) → has v b ≡ true

-- the marks below the one at b that x lacks, and that one: with the marks of x below b put in, these put out are the node of the sets that turn aside from x at b
abbrev pub aside_out : ℕ → ℕ → ℕ
aside_out x b = with_bit (minus (all_below b) x) b

-- A walk has come to the node (i, o): the marks below q are decided, the sets that fit are those of the family that agree with i below q,
-- and t has the marks below q at which some set turns aside from all that fit.
pub record Reached (p : ℕ → Bool) (n q i o t : ℕ) : Type 0 where
  pub low : q ≤ n
  pub decided : (j : ℕ) → j < q → (has i j || has o j) ≡ true
  pub prefix : (z : ℕ) → Listed p n z → Agree q z i → Fits p n i o z
  pub within : (b : ℕ) → has t b ≡ true → (b < q) × (has i b ≡ true)
  pub turn : (b : ℕ) → has t b ≡ true → Turn p n i b
  pub only : (b : ℕ) → b < q → has i b ≡ true → Turn p n i b → has t b ≡ true

-- c nodes were opened up to the k-th set, which has t turns: c is 2 k - 1 + t
abbrev pub Opened : ℕ → ℕ → ℕ → Type 0
Opened k t c = c + 1 ≡ 2 * k + t

-- What the descent finds: x is the first set that fits the node at which it began, with the turns t; and c nodes are then opened, at most one for each mark from q₀ on.
pub record Descended (p : ℕ → Bool) (n k c₀ q₀ i₀ o₀ x t c : ℕ) : Type 0 where
  pub first : First p n i₀ o₀ x
  pub turns : Turns p n x t
  pub opened : Opened k (size_of t) c
  pub grown : c + q₀ ≤ c₀ + n

-- x is the k-th set of the list, counted from 1, its turns are t, and c nodes were opened
pub record At (p : ℕ → Bool) (n k x t c : ℕ) : Type 0 where
  pub counted : 1 ≤ k
  pub within : k ≤ length (list_of p n)
  pub entry : slice_index_or (list_of p n) (k - 1) 0 ≡ x
  pub turns : Turns p n x t
  pub opened : Opened k (size_of t) c
