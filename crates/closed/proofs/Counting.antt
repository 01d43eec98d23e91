-- How many nodes there are up to a leaf, in any tree with no dead end.
use Rattle.std.proofs.Common.{◌≡◌, ℕ, zero, suc, ◌+◌, ◌-◌, ◌*◌, ◌<◌, ◌≤◌, Bool, true, false, cond, ltb, List, [], ◌∷◌, ◌++◌, length, refl, ap, ◌∙◌, arith}
use Rattle.std.proofs.lemmas.List.{length-append}
use Rattle.std.proofs.lemmas.Bool.{ltb-true, ltb-false}
use Rattle.closed.specs.Trees.{Tree, dead_end, leaf, fork, leaves, nodes, upto_leaf, Alive}

-- how many leaves a list of nodes has
abbrev leaf_count : List Tree → ℕ
leaf_count [] = 0
leaf_count (dead_end ∷ ts) = leaf_count ts
leaf_count (leaf i o ∷ ts) = suc (leaf_count ts)
leaf_count (fork i o f l r ∷ ts) = leaf_count ts

-- at how many nodes the way to the leaf k goes to the first child
abbrev pub lefts : Tree → ℕ → ℕ
lefts dead_end k = 0
lefts (leaf i o) k = 0
lefts (fork i o f l r) k = cond (ltb k (length (leaves l))) (suc (lefts l k)) (lefts r (k - length (leaves l)))

leaf_count_append : (xs ys : List Tree) → leaf_count (xs ++ ys) ≡ leaf_count xs + leaf_count ys
leaf_count_append [] ys = omega arith
leaf_count_append (dead_end ∷ xs) ys = leaf_count_append xs ys
leaf_count_append (leaf i o ∷ xs) ys = omega (arith, leaf_count_append xs ys)
leaf_count_append (fork i o f l r ∷ xs) ys = leaf_count_append xs ys

leaf_count_nodes : (t : Tree) → leaf_count (nodes t) ≡ length (leaves t)
leaf_count_nodes dead_end = refl
leaf_count_nodes (leaf i o) = refl
leaf_count_nodes (fork i o f l r) =
    omega (arith, leaf_count_append (nodes l) (nodes r), leaf_count_nodes l, leaf_count_nodes r, length-append (leaves l) (leaves r))

-- there is one leaf more than there are forks
pub length_nodes : (t : Tree) → Alive t → length (nodes t) + 1 ≡ 2 * length (leaves t)
length_nodes dead_end a = absurd a
length_nodes (leaf i o) a = refl
length_nodes (fork i o f l r) a =
    omega (arith, length_nodes l a.0, length_nodes r a.1, length-append (leaves l) (leaves r), length-append (nodes l) (nodes r))

upto_left : (xs ys : List Tree) (k : ℕ) → k < leaf_count xs → upto_leaf (xs ++ ys) k ≡ upto_leaf xs k
upto_left [] ys k h = absurd (omega arith)
upto_left (dead_end ∷ xs) ys k h = ap suc (upto_left xs ys k h)
upto_left (leaf i o ∷ xs) ys zero h = refl
upto_left (leaf i o ∷ xs) ys (suc k) h = ap suc (upto_left xs ys k (omega arith))
upto_left (fork i o f l r ∷ xs) ys k h = ap suc (upto_left xs ys k h)

upto_right : (xs ys : List Tree) (k : ℕ) → leaf_count xs ≤ k → upto_leaf (xs ++ ys) k ≡ length xs + upto_leaf ys (k - leaf_count xs)
upto_right [] ys k h = ap (upto_leaf ys) (let e : k ≡ k - 0 = omega arith in e) ∙ omega arith
upto_right (dead_end ∷ xs) ys k h = omega (arith, upto_right xs ys k h)
upto_right (leaf i o ∷ xs) ys zero h = absurd (omega arith)
upto_right (leaf i o ∷ xs) ys (suc k) h =
    let e : suc k - suc (leaf_count xs) ≡ k - leaf_count xs = omega arith in
    omega (arith, upto_right xs ys k (omega arith), ap (upto_leaf ys) e)
upto_right (fork i o f l r ∷ xs) ys k h = omega (arith, upto_right xs ys k h)

-- the nodes up to the leaf k: 2 (k + 1) - 1, and one for each time that the way goes to the first child
pub upto_lefts : (t : Tree) (k : ℕ) → Alive t → k < length (leaves t) → upto_leaf (nodes t) k + 1 ≡ 2 * (k + 1) + lefts t k
upto_lefts dead_end k a h = absurd a
upto_lefts (leaf i o) zero a h = refl
upto_lefts (leaf i o) (suc k) a h = absurd (omega arith)
upto_lefts (fork i o f l r) k a h =
    by (ltb k (length (leaves l))) refl (λ g. upto_lefts l k a.0 g) (λ g. upto_lefts r (k - length (leaves l)) a.1 g)
  where
    by : (b : Bool) → ltb k (length (leaves l)) ≡ b
        → (k < length (leaves l) → upto_leaf (nodes l) k + 1 ≡ 2 * (k + 1) + lefts l k)
        → (k - length (leaves l) < length (leaves r)
        → upto_leaf (nodes r) (k - length (leaves l)) + 1 ≡ 2 * (k - length (leaves l) + 1) + lefts r (k - length (leaves l)))
        → suc (upto_leaf (nodes l ++ nodes r) k) + 1 ≡ 2 * (k + 1) + cond b (suc (lefts l k)) (lefts r (k - length (leaves l)))
    by true e p q =
        let g : k < length (leaves l) = ltb-true k (length (leaves l)) e in
        let u : upto_leaf (nodes l ++ nodes r) k ≡ upto_leaf (nodes l) k = upto_left (nodes l) (nodes r) k (omega (arith, leaf_count_nodes l)) in
        omega (arith, p g)
    by false e p q =
        let g : length (leaves l) ≤ k = ltb-false k (length (leaves l)) e in
        let u : upto_leaf (nodes l ++ nodes r) k ≡ length (nodes l) + upto_leaf (nodes r) (k - leaf_count (nodes l)) =
        upto_right (nodes l) (nodes r) k (omega (arith, leaf_count_nodes l)) in
        let v : upto_leaf (nodes r) (k - leaf_count (nodes l)) ≡ upto_leaf (nodes r) (k - length (leaves l)) =
        ap (λ c. upto_leaf (nodes r) (k - c)) (leaf_count_nodes l) in
        let s : k - length (leaves l) < length (leaves r) = omega (arith, length-append (leaves l) (leaves r)) in
        omega (arith, q s, length_nodes l a.0)
