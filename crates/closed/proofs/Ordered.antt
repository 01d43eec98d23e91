-- Lists in an order, what a list has, and the list of a family.
use Rattle.std.proofs.Common.{◌≡◌, ℕ, zero, suc, ◌+◌, ◌*◌, ◌/◌, ◌%◌, ◌^◌, ◌<◌, Bool, true, false, cond, ◌⊎◌, List, [], ◌∷◌, ◌++◌, map, length, get_or, filter, sym, refl, ap, ◌∙◌, subst, ap₂, inl, inr, ⊎_elim, mod-lt, zero-lt-suc, arith}
use Rattle.std.specs.List.{ContainsAt as Has, AllByRecursion, AllPairs, list_any}
use Rattle.std.proofs.lemmas.List.{length-append, length-map, get_or-map}
use Rattle.std.proofs.lemmas.List.Elements.{All-from_recursion, recursion_from_All}
use Rattle.std.proofs.lemmas.List.Kept.{AllPairs-cons, AllPairs-filter}
use Rattle.std.proofs.ByRecursion.{All-append, All-map, All-weaker, all_kept_by, all-has, all_has_itself, kept_by_passes, has_get_or, has_append_left, has_append_right}
use Rattle.std.proofs.lemmas.Bool.{cases_order, cases_Bool, both_ways, or_left, or_right, or_cases}
use Rattle.marks.specs.Orders.{Before}
use Rattle.marks.specs.SetOrder.{before_irrefl, before_trans, before_half, before_odd}
use Rattle.closed.specs.Families.{subsets, list_of, Listed}
use Rattle.closed.proofs.WalkSteps.{Follows}

-- ---- lists in an order

module _ (R : ℕ → ℕ → Type 0) where
  pairs_head : (x : ℕ) (xs : List ℕ) → AllPairs R (x ∷ xs) → AllByRecursion (R x) xs
  pairs_head x xs p = recursion_from_All (R x) xs (λ k d h. p 0 (suc k) d (omega arith) (omega arith))

  pairs_tail : (x : ℕ) (xs : List ℕ) → AllPairs R (x ∷ xs) → AllPairs R xs
  pairs_tail x xs p = λ i j d l h. p (suc i) (suc j) d (omega arith) (omega arith)

  pub pairs_append : (xs ys : List ℕ) → AllPairs R xs → AllPairs R ys → AllByRecursion (λ x. AllByRecursion (R x) ys) xs → AllPairs R (xs ++ ys)
  pairs_append [] ys p q a = q
  pairs_append (x ∷ xs) ys p q a =
      AllPairs-cons R x (xs ++ ys) (All-from_recursion (R x) (xs ++ ys) (All-append (R x) xs ys (pairs_head x xs p) a.0)) (pairs_append xs ys (pairs_tail x xs p) q a.1)

  pairs_map : (f : ℕ → ℕ) → ((x y : ℕ) → R x y → R (f x) (f y)) → (xs : List ℕ) → AllPairs R xs → AllPairs R (map f xs)
  pairs_map f up [] p = p
  pairs_map f up (x ∷ xs) p =
      AllPairs-cons R (f x) (map f xs)
      (All-from_recursion (R (f x)) (map f xs) (All-map (R (f x)) f xs (All-weaker (R x) (λ y. R (f x) (f y)) (up x) xs (pairs_head x xs p))))
      (pairs_map f up xs (pairs_tail x xs p))

  module _ (never : (x : ℕ) → R x x → ⊥) (trans : (x y z : ℕ) → R x y → R y z → R x z) where
    -- places follow the relation
    pub place_lt : (xs : List ℕ) (i j d : ℕ) → AllPairs R xs → i < length xs → R (get_or xs i d) (get_or xs j d) → i < j
    place_lt xs i j d p hi r = by (cases_order i j)
      where
        by : (i ≡ j) ⊎ ((i < j) ⊎ (j < i)) → i < j
        by (inl e) = absurd (never (get_or xs i d) (subst (λ k. R (get_or xs i d) (get_or xs k d)) (sym e) r))
        by (inr (inl l)) = l
        by (inr (inr l)) = absurd (never (get_or xs i d) (trans (get_or xs i d) (get_or xs j d) (get_or xs i d) r (p j i d l hi)))

    -- x stands at k, and y is the nearest member after it: y stands at k + 1
    pub next_place : (xs : List ℕ) (k x y : ℕ) → AllPairs R xs → k < length xs → get_or xs k 0 ≡ x → Has xs y → R x y
        → ((z : ℕ) → Has xs z → R x z → R z y → ⊥) → (k + 1 < length xs) × (get_or xs (k + 1) 0 ≡ y)
    next_place xs k x y p h e m r between = by (cases_order (k + 1) m.0)
      where
        is : get_or xs m.0 0 ≡ y
        is = m.2 0

        after : k < m.0
        after = place_lt xs k m.0 0 p h (subst (λ a. R a (get_or xs m.0 0)) (sym e) (subst (R x) (sym is) r))

        by : (k + 1 ≡ m.0) ⊎ ((k + 1 < m.0) ⊎ (m.0 < k + 1)) → (k + 1 < length xs) × (get_or xs (k + 1) 0 ≡ y)
        by (inl q) = (omega (arith, m.1), ap (λ i. get_or xs i 0) q ∙ is)
        by (inr (inl l)) =
            let in' : k + 1 < length xs = omega (arith, m.1) in
            absurd (between (get_or xs (k + 1) 0) (has_get_or xs (k + 1) 0 in')
            (subst (λ a. R a (get_or xs (k + 1) 0)) e (p k (k + 1) 0 (omega arith) in'))
            (subst (R (get_or xs (k + 1) 0)) is (p (k + 1) m.0 0 l m.1)))
        by (inr (inr l)) = absurd (omega (arith, after))

-- ---- what a list has, from its front on

pub has_here : (x : ℕ) (xs : List ℕ) → Has (x ∷ xs) x
has_here x xs = (0, omega arith, λ d. refl)

pub has_later : (y : ℕ) (xs : List ℕ) (x : ℕ) → Has xs x → Has (y ∷ xs) x
has_later y xs x m = (suc m.0, omega (arith, m.1), λ d. m.2 d)

pub has_cons_cases : (y : ℕ) (xs : List ℕ) (x : ℕ) → Has (y ∷ xs) x → (y ≡ x) ⊎ Has xs x
has_cons_cases y xs x m = by m.0 m.1 m.2
  where
    by : (k : ℕ) → k < suc (length xs) → ((d : ℕ) → get_or (y ∷ xs) k d ≡ x) → (y ≡ x) ⊎ Has xs x
    by zero h e = inl (e 0)
    by (suc k) h e = inr (k, omega arith, e)

pub has_map : (f : ℕ → ℕ) (xs : List ℕ) (x : ℕ) → Has xs x → Has (map f xs) (f x)
has_map f xs x m = (m.0, omega (arith, m.1, length-map xs f), λ d. get_or-map f xs m.0 0 d m.1 ∙ ap f (m.2 0))

-- a filter keeps what passes
pub has_filter : (t : ℕ → Bool) (xs : List ℕ) (x : ℕ) → Has xs x → t x ≡ true → Has (filter t xs) x
has_filter t [] x m e = absurd (omega (arith, m.1))
has_filter t (y ∷ xs) x m e = by (t y) refl (has_cons_cases y xs x m) (λ m. has_filter t xs x m e)
  where
    by : (b : Bool) → t y ≡ b → (y ≡ x) ⊎ Has xs x → (Has xs x → Has (filter t xs) x) → Has (cond b (y ∷ filter t xs) (filter t xs)) x
    by true f (inl q) ih = subst (Has (y ∷ filter t xs)) q (has_here y (filter t xs))
    by true f (inr m) ih = has_later y (filter t xs) x (ih m)
    by false f (inl q) ih = absurd (both_ways (t x) (sym (ap t q) ∙ f) e)
    by false f (inr m) ih = ih m

-- and nothing else
pub has_from_filter : (t : ℕ → Bool) (xs : List ℕ) (x : ℕ) → Has (filter t xs) x → Has xs x × (t x ≡ true)
has_from_filter t xs x m = (
  all-has (Has xs) (filter t xs) x (all_kept_by t (Has xs) xs (all_has_itself xs)) m,
  all-has (λ y. t y ≡ true) (filter t xs) x (kept_by_passes t xs) m,
)

-- ---- some element passes a test

module _ (test : ℕ → Bool) where
  pub any_some : (xs : List ℕ) → list_any test xs ≡ true → (x : ℕ) × Has xs x × (test x ≡ true)
  any_some [] e = absurd (both_ways false refl e)
  any_some (y ∷ xs) e =
      ⊎_elim (λ h. (y, has_here y xs, h)) (λ h. let m = any_some xs h in (m.0, has_later y xs m.0 m.1, m.2))
      (or_cases (test y) (list_any test xs) e)

  pub some_any : (xs : List ℕ) (x : ℕ) → Has xs x → test x ≡ true → list_any test xs ≡ true
  some_any [] x m e = absurd (omega (arith, m.1))
  some_any (y ∷ xs) x m e =
      ⊎_elim (λ q. or_left (test y) (list_any test xs) (ap test q ∙ e)) (λ k. or_right (test y) (list_any test xs) (some_any xs x k e))
      (has_cons_cases y xs x m)

  pub none_any : (xs : List ℕ) (x : ℕ) → list_any test xs ≡ false → Has xs x → test x ≡ false
  none_any xs x e m = ⊎_elim (λ h. absurd (both_ways (list_any test xs) e (some_any xs x m h))) (λ h. h) (cases_Bool (test x))

  pub any_none : (xs : List ℕ) → ((x : ℕ) → Has xs x → test x ≡ false) → list_any test xs ≡ false
  any_none xs f =
      ⊎_elim (λ h. let m = any_some xs h in absurd (both_ways (test m.0) (f m.0 m.1) m.2)) (λ h. h) (cases_Bool (list_any test xs))

-- ---- the list of all sets

abbrev odd : ℕ → ℕ
odd x = x * 2 + 1

abbrev even : ℕ → ℕ
even x = x * 2

pub length_subsets : (n : ℕ) → length (subsets n) ≡ 2 ^ n
unfolding subsets
length_subsets zero = refl
length_subsets (suc n) = simp (length-append, length-map) (omega (arith, length_subsets n))

pub subsets_below : (n : ℕ) → AllByRecursion (λ x. x < 2 ^ n) (subsets n)
unfolding subsets
subsets_below zero = (omega arith, tt)
subsets_below (suc n) =
    All-append (λ x. x < 2 ^ suc n) (map odd (subsets n)) (map even (subsets n))
    (All-map (λ x. x < 2 ^ suc n) odd (subsets n) (All-weaker (λ x. x < 2 ^ n) (λ x. x * 2 + 1 < 2 ^ suc n) (λ x h. omega arith) (subsets n) (subsets_below n)))
    (All-map (λ x. x < 2 ^ suc n) even (subsets n) (All-weaker (λ x. x < 2 ^ n) (λ x. x * 2 < 2 ^ suc n) (λ x h. omega arith) (subsets n) (subsets_below n)))

-- it is in order
pub subsets_ordered : (n : ℕ) → AllPairs Before (subsets n)
unfolding subsets
subsets_ordered zero = λ i j d l h. absurd (omega arith)
subsets_ordered (suc n) =
    pairs_append Before (map odd (subsets n)) (map even (subsets n))
    (pairs_map Before odd (λ x y b. before_half (odd x) (odd y) (omega arith) (halves (odd x) (odd y) x y (omega arith) (omega arith) b))
    (subsets n) (subsets_ordered n))
    (pairs_map Before even (λ x y b. before_half (even x) (even y) (omega arith) (halves (even x) (even y) x y (omega arith) (omega arith) b))
    (subsets n) (subsets_ordered n))
    (All-map (λ x. AllByRecursion (Before x) (map even (subsets n))) odd (subsets n)
    (all_of (λ x. AllByRecursion (Before (odd x)) (map even (subsets n)))
    (λ x. All-map (Before (odd x)) even (subsets n)
    (all_of (λ y. Before (odd x) (even y)) (λ y. before_odd (odd x) (even y) (omega arith) (omega arith)) (subsets n))) (subsets n)))
  where
    halves : (a b x y : ℕ) → a / 2 ≡ x → b / 2 ≡ y → Before x y → Before (a / 2) (b / 2)
    halves a b x y e f h = subst (λ z. Before z (b / 2)) (sym e) (subst (Before x) (sym f) h)

    all_of : (P : ℕ → Type 0) → ((x : ℕ) → P x) → (xs : List ℕ) → AllByRecursion P xs
    all_of P f [] = tt
    all_of P f (x ∷ xs) = (f x, all_of P f xs)

-- and has every set of marks below n
pub subsets_has : (n x : ℕ) → x < 2 ^ n → Has (subsets n) x
unfolding subsets
subsets_has zero x h = subst (Has (0 ∷ [])) (let e : 0 ≡ x = omega arith in e) (has_here 0 [])
subsets_has (suc n) x h = by (x % 2) refl (mod-lt x (zero-lt-suc 1)) (subsets_has n (x / 2) (omega arith))
  where
    by : (d : ℕ) → x % 2 ≡ d → d < 2 → Has (subsets n) (x / 2) → Has (map odd (subsets n) ++ map even (subsets n)) x
    by zero e l m =
        has_append_right (map odd (subsets n)) (map even (subsets n)) x
        (subst (Has (map even (subsets n))) (let q : even (x / 2) ≡ x = omega arith in q) (has_map even (subsets n) (x / 2) m))
    by (suc zero) e l m =
        has_append_left (map odd (subsets n)) (map even (subsets n)) x
        (subst (Has (map odd (subsets n))) (let q : odd (x / 2) ≡ x = omega arith in q) (has_map odd (subsets n) (x / 2) m))
    by (suc (suc d)) e l m = absurd (omega arith)

-- ---- the list of a family

module _ (p : ℕ → Bool) (n : ℕ) where
  pub list_ordered : AllPairs Before (list_of p n)
  list_ordered = AllPairs-filter Before p (subsets n) (subsets_ordered n)

  pub list_has : (x : ℕ) → Listed p n x → Has (list_of p n) x
  list_has x l = has_filter p (subsets n) x (subsets_has n x l.below) l.passes

  pub list_only : (x : ℕ) → Has (list_of p n) x → Listed p n x
  list_only x m =
      let k = has_from_filter p (subsets n) x m in
      record { below = all-has (λ y. y < 2 ^ n) (subsets n) x (subsets_below n) k.0; passes = k.1 }

  -- what stands in it is a set of the family
  pub place_listed : (k : ℕ) → k < length (list_of p n) → Listed p n (get_or (list_of p n) k 0)
  place_listed k l = list_only (get_or (list_of p n) k 0) (has_get_or (list_of p n) k 0 l)

  -- a set that none comes before is first
  pub first_listed : (y : ℕ) → Listed p n y → ((z : ℕ) → Listed p n z → Before z y → ⊥) → (0 < length (list_of p n)) × (get_or (list_of p n) 0 0 ≡ y)
  first_listed y h none = by m.0 m.1 m.2
    where
      m : Has (list_of p n) y
      m = list_has y h

      by : (k : ℕ) → k < length (list_of p n) → ((d : ℕ) → get_or (list_of p n) k d ≡ y) → (0 < length (list_of p n)) × (get_or (list_of p n) 0 0 ≡ y)
      by zero l is = (l, is 0)
      by (suc k) l is =
          absurd (none (get_or (list_of p n) 0 0) (place_listed 0 (omega arith))
          (subst (Before (get_or (list_of p n) 0 0)) (is 0) (list_ordered 0 (suc k) 0 (omega arith) l)))

  -- the set that follows x stands right after it
  pub next_listed : (k x y : ℕ) → k < length (list_of p n) → get_or (list_of p n) k 0 ≡ x → Follows p n x y
      → (k + 1 < length (list_of p n)) × (get_or (list_of p n) (k + 1) 0 ≡ y)
  next_listed k x y h e f =
      next_place Before before_irrefl before_trans (list_of p n) k x y list_ordered h e (list_has y f.listed) f.after
      (λ z m. f.between z (list_only z m))

  -- a set that none comes after is last
  pub last_listed : (k x : ℕ) → k < length (list_of p n) → get_or (list_of p n) k 0 ≡ x → ((z : ℕ) → Listed p n z → Before x z → ⊥)
      → k + 1 ≡ length (list_of p n)
  last_listed k x h e none = by (cases_order (k + 1) (length (list_of p n)))
    where
      by : (k + 1 ≡ length (list_of p n)) ⊎ ((k + 1 < length (list_of p n)) ⊎ (length (list_of p n) < k + 1)) → k + 1 ≡ length (list_of p n)
      by (inl q) = q
      by (inr (inl l)) =
          absurd (none (get_or (list_of p n) (k + 1) 0) (place_listed (k + 1) l)
          (subst (λ a. Before a (get_or (list_of p n) (k + 1) 0)) e (list_ordered k (k + 1) 0 (omega arith) l)))
      by (inr (inr l)) = absurd (omega arith)

-- two lists in the order with the same members are the same
pub same_listed : (xs ys : List ℕ) → AllPairs Before xs → AllPairs Before ys → ((x : ℕ) → Has xs x → Has ys x) → ((x : ℕ) → Has ys x → Has xs x) → xs ≡ ys
same_listed [] [] p q f g = refl
same_listed [] (y ∷ ys) p q f g = absurd (omega (arith, (g y (has_here y ys)).1))
same_listed (x ∷ xs) [] p q f g = absurd (omega (arith, (f x (has_here x xs)).1))
same_listed (x ∷ xs) (y ∷ ys) p q f g =
    let e : x ≡ y = heads in
    ap₂ (λ (a : ℕ) (l : List ℕ). a ∷ l) e (same_listed xs ys (pairs_tail Before x xs p) (pairs_tail Before y ys q) (tails x y xs ys e p f) (tails y x ys xs (sym e) q g))
  where
    heads : x ≡ y
    heads = by (has_cons_cases y ys x (f x (has_here x xs))) (has_cons_cases x xs y (g y (has_here y ys)))
      where
        by : (y ≡ x) ⊎ Has ys x → (x ≡ y) ⊎ Has xs y → x ≡ y
        by (inl e) r = sym e
        by (inr m) (inl e) = e
        by (inr m) (inr w) = absurd (before_irrefl x (before_trans x y x (all-has (Before x) xs y (pairs_head Before x xs p) w) (all-has (Before y) ys x (pairs_head Before y ys q) m)))

    tails : (x y : ℕ) (xs ys : List ℕ) → x ≡ y → AllPairs Before (x ∷ xs) → ((z : ℕ) → Has (x ∷ xs) z → Has (y ∷ ys) z) → (z : ℕ) → Has xs z → Has ys z
    tails x y xs ys e p f z m = by (has_cons_cases y ys z (f z (has_later x xs z m)))
      where
        by : (y ≡ z) ⊎ Has ys z → Has ys z
        by (inl q) = absurd (before_irrefl x (subst (Before x) (sym (e ∙ q)) (all-has (Before x) xs z (pairs_head Before x xs p) m)))
        by (inr w) = w
