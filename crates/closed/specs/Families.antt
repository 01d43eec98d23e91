-- Families of sets: the sets of marks below n that pass a test p, their list, and which of them fit a node.
use Rattle.std.specs.Prelude.{◌≡◌, ℕ, zero, suc, ◌+◌, ◌*◌, ◌^◌, ◌<◌, Bool, true, false, not, ◌&&◌, List, [], ◌∷◌, ◌++◌, map, filter, ◌==◌}
use Rattle.std.specs.List.{list_any}
use Rattle.marks.specs.Orders.{Before}
use Rattle.marks.specs.Sets.{has, no_marks, all_below, both, part_of, PartOf, size_of, picked}

-- All sets of marks below n, in list order: those with the lowest mark, then those without it, each in the order of what is left.
unfoldable pub subsets : ℕ → List ℕ
subsets zero = no_marks ∷ []
subsets (suc n) = map (λ x. x * 2 + 1) (subsets n) ++ map (λ x. x * 2) (subsets n)

-- the list of the family: its sets, each once, in list order
abbrev pub list_of : (ℕ → Bool) → ℕ → List ℕ
list_of p n = filter p (subsets n)

-- x is a set of the family
pub record Listed (p : ℕ → Bool) (n x : ℕ) : Type 0 where
  pub below : x < 2 ^ n
  pub passes : p x ≡ true

-- ---- nodes: marks that are put in, and marks that are put out

-- x is a set of the family that holds all of i and none of o: it fits the node (i, o)
pub record Fits (p : ℕ → Bool) (n i o x : ℕ) : Type 0 where
  pub below : x < 2 ^ n
  pub passes : p x ≡ true
  pub holds : PartOf i x
  pub avoids : both x o ≡ no_marks

-- x holds all of i and none of o
abbrev pub fits_node : ℕ → ℕ → ℕ → Bool
fits_node i o x = part_of i x && both x o == no_marks

-- the sets of the family that fit the node, in list order
abbrev pub fitting : (ℕ → Bool) → ℕ → ℕ → ℕ → List ℕ
fitting p n i o = filter (fits_node i o) (list_of p n)

-- no set of the family fits the node
abbrev pub dead : (ℕ → Bool) → ℕ → ℕ → ℕ → Bool
dead p n i o = not (list_any (fits_node i o) (list_of p n))

-- the marks below n that are in every set of a list, and those that are in none
abbrev pub in_every : ℕ → List ℕ → ℕ
in_every n xs = picked (λ b. not (list_any (λ x. not (has x b)) xs)) n

abbrev pub in_none : ℕ → List ℕ → ℕ
in_none n xs = picked (λ b. not (list_any (λ x. has x b) xs)) n

-- ---- where other sets turn aside

-- the marks of x that are below the mark at b
abbrev pub part_in : ℕ → ℕ → ℕ
part_in x b = both x (all_below b)

-- y agrees with x on every mark below the one at b, and lacks that
abbrev pub lacks_first : ℕ → ℕ → ℕ → Bool
lacks_first x b y = part_in y b == part_in x b && not (has y b)

-- The turns of x: its marks at which some set of the family turns aside, which is to agree with x on every mark below and to lack the mark.
-- x is any set of marks below n, in the family or not.
unfoldable pub turns : (ℕ → Bool) → ℕ → ℕ → ℕ
turns p n x = picked (λ b. has x b && list_any (lacks_first x b) (list_of p n)) n

-- how many there are
abbrev pub turn_count : (ℕ → Bool) → ℕ → ℕ → ℕ
turn_count p n x = size_of (turns p n x)

-- x and y have the same marks below the one at b
abbrev pub Agree : ℕ → ℕ → ℕ → Type 0
Agree b x y = (j : ℕ) → j < b → has x j ≡ has y j

-- some set of the family agrees with x below b, and lacks b
pub record Turn (p : ℕ → Bool) (n x b : ℕ) : Type 0 where
  pub to : ℕ
  pub listed : Listed p n to
  pub lacks : has to b ≡ false
  pub same : Agree b to x

-- t has just the marks of x at which some set of the family turns aside
pub record Turns (p : ℕ → Bool) (n x t : ℕ) : Type 0 where
  pub within : (b : ℕ) → has t b ≡ true → has x b ≡ true
  pub turn : (b : ℕ) → has t b ≡ true → Turn p n x b
  pub only : (b : ℕ) → has x b ≡ true → Turn p n x b → has t b ≡ true

-- ---- the first that fits a node

-- y fits the node (i, o), and no set of the family that fits it comes before y
pub record First (p : ℕ → Bool) (n i o y : ℕ) : Type 0 where
  pub fits : Fits p n i o y
  pub none_before : (z : ℕ) → Fits p n i o z → Before z y → ⊥
