-- The tree of the nodes of a family.
use Rattle.std.specs.Prelude.{◌≡◌, ℕ, zero, suc, ◌+◌, ◌-◌, ◌*◌, ◌≤◌, Bool, cond, ◌||◌, List, [], ◌∷◌, ◌++◌, length, slice_index}
use Rattle.marks.specs.Sets.{has, no_marks, with_bit}
use Rattle.closed.specs.Families.{list_of, dead, fitting, in_every, in_none, turn_count}

-- A node has marks that are put in and marks that are put out: those that are in every set that fits it, and those that are in none. A node that no set fits is a dead
-- end. A node at which every mark is put in or out is a leaf; any other is split at its lowest mark that is neither: that mark put in for the first child, and put out for the second.
pub data Tree : Type 0 where
  dead_end : Tree
  leaf : ℕ → ℕ → Tree
  fork : ℕ → ℕ → ℕ → Tree → Tree → Tree

-- the sets at the leaves, from left to right: the marks that are put in there
abbrev pub leaves : Tree → List ℕ
leaves dead_end = []
leaves (leaf i o) = i ∷ []
leaves (fork i o f l r) = leaves l ++ leaves r

-- the nodes in the order in which they are opened: each before those below it, the first child before the second
abbrev pub nodes : Tree → List Tree
nodes dead_end = dead_end ∷ []
nodes (leaf i o) = leaf i o ∷ []
nodes (fork i o f l r) = fork i o f l r ∷ (nodes l ++ nodes r)

-- how many nodes of such a list there are up to and including its leaf k, which counts from 0
abbrev pub upto_leaf : List Tree → ℕ → ℕ
upto_leaf [] k = 0
upto_leaf (dead_end ∷ ts) k = suc (upto_leaf ts k)
upto_leaf (leaf i o ∷ ts) zero = 1
upto_leaf (leaf i o ∷ ts) (suc k) = suc (upto_leaf ts k)
upto_leaf (fork i o f l r ∷ ts) k = suc (upto_leaf ts k)

-- no node of the tree is a dead end
abbrev pub Alive : Tree → Type 0
Alive dead_end = ⊥
Alive (leaf i o) = Unit {0}
Alive (fork i o f l r) = Alive l × Alive r

module _ (p : ℕ → Bool) (n : ℕ) where
  -- The tree below the node with i put in and o put out, where of its marks those from b on, m of them, are still to be looked at.
  abbrev pub grow : ℕ → ℕ → ℕ → ℕ → Tree
  grow zero b i o = leaf i o
  grow (suc m) b i o =
      cond (has i b || has o b) (grow m (suc b) i o)
      (fork i o b
      (cond (dead p n (with_bit i b) o) dead_end (grow m (suc b) (in_every n (fitting p n (with_bit i b) o)) (in_none n (fitting p n (with_bit i b) o))))
      (cond (dead p n i (with_bit o b)) dead_end (grow m (suc b) (in_every n (fitting p n i (with_bit o b))) (in_none n (fitting p n i (with_bit o b))))))

  -- the whole tree, from the root, which starts with nothing put in and nothing put out
  unfoldable pub node_tree : Tree
  node_tree =
      cond (dead p n no_marks no_marks) dead_end (grow n 0 (in_every n (fitting p n no_marks no_marks)) (in_none n (fitting p n no_marks no_marks)))

  -- What the tree says of the list: its leaves are the list; up to and including the k-th leaf, counted from 1, there are 2 k - 1 nodes and one for each turn of
  -- that set; with L sets there are 2 L - 1 nodes in all, and none is a dead end; with none there is the root alone, a dead end.
  pub record TreeLaw : Type 0 where
    pub leaves_are : leaves node_tree ≡ list_of p n
    pub counted : (k : ℕ) → 1 ≤ k → k ≤ length (list_of p n) → upto_leaf (nodes node_tree) (k - 1) + 1 ≡ 2 * k + turn_count p n (slice_index (list_of p n) (k - 1))
    pub all : 1 ≤ length (list_of p n) → length (nodes node_tree) + 1 ≡ 2 * length (list_of p n)
    pub alive : 1 ≤ length (list_of p n) → Alive node_tree
    pub empty : length (list_of p n) ≡ 0 → node_tree ≡ dead_end
