-- The first element of a list that passes a test.
use Rattle.std.proofs.Common.{◌≡◌, ℕ, zero, suc, ◌+◌, ◌-◌, ◌<◌, Bool, true, false, cond, List, [], ◌∷◌, length, get_or, Some, None, Option, MatchOption, sym, refl, ap, ◌∙◌, arith}
use Rattle.std.specs.List.{range_with_len, position, position_from, AllWithin, HoldsAt}
use Rattle.std.specs.Option.{option_map}
use Rattle.std.proofs.lemmas.Iterator.Adapters.{position_from-zero}
use Rattle.std.proofs.lemmas.List.FromFn.{length-range_with_len, get_or-range_with_len}
use Rattle.marks.specs.Places.{first_place, FirstPassing}

module _ {A : Type 0} (test : A → Bool) (d : A) where
  -- one passes, and none before it
  pub first_place_some : (xs : List A) (i : ℕ) → i < length xs → test (get_or xs i d) ≡ true → ((k : ℕ) → k < i → test (get_or xs k d) ≡ false)
      → first_place test xs ≡ Some (i + 1)
  first_place_some [] i h t f = absurd (omega arith)
  first_place_some (x ∷ xs) zero h t f = rw t
  first_place_some (x ∷ xs) (suc i) h t f =
      let here : test x ≡ false = f 0 (omega arith) in
      let rest : first_place test xs ≡ Some (i + 1) = first_place_some xs i (omega arith) t (λ k l. f (suc k) (omega arith)) in
      let next : i + 1 + 1 ≡ suc i + 1 = omega arith in
      rw (here, rest) (ap (λ (k : ℕ). Some k) next)

  -- none passes
  pub first_place_none : (xs : List A) → ((k : ℕ) → k < length xs → test (get_or xs k d) ≡ false) → first_place test xs ≡ None
  first_place_none [] f = refl
  first_place_none (x ∷ xs) f =
      let here : test x ≡ false = f 0 (omega arith) in
      let rest : first_place test xs ≡ None = first_place_none xs (λ k l. f (suc k) (omega arith)) in
      rw (here, rest)

  pub none_passes : (xs : List A) → first_place test xs ≡ None → (k : ℕ) → k < length xs → test (get_or xs k d) ≡ false
  none_passes [] e k h = absurd (omega arith)
  none_passes (x ∷ xs) e k h = by (test x) refl k h (none_passes xs) e
    where
      by : (b : Bool) → test x ≡ b → (k : ℕ) → k < length (x ∷ xs)
          → (first_place test xs ≡ None → (k : ℕ) → k < length xs → test (get_or xs k d) ≡ false)
          → cond b (Some 1) (option_map (λ k. k + 1) (first_place test xs)) ≡ None → test (get_or (x ∷ xs) k d) ≡ false
      by true t k h ih e = let z : ◌≡◌ {A = ℕ} 0 1 = cc in absurd (omega arith)
      by false t zero h ih e = t
      by false t (suc k) h ih e = ih (unmapped (first_place test xs) e) k (omega arith)
        where
          unmapped : (o : Option ℕ) → option_map (λ k. k + 1) o ≡ None → o ≡ None
          unmapped None e = refl
          unmapped (Some y) e = let z : ◌≡◌ {A = ℕ} 0 1 = cc in absurd (omega arith)

-- the same where the elements are the numbers below n

module _ (test : ℕ → Bool) (n : ℕ) where
  at_number : (k : ℕ) → k < n → get_or (range_with_len 0 n) k 0 ≡ k
  at_number k h = get_or-range_with_len 0 n k 0 h ∙ (let e : 0 + k ≡ k = omega arith in e)

  pub first_number_some : (i : ℕ) → i < n → test i ≡ true → ((k : ℕ) → k < i → test k ≡ false) → first_place test (range_with_len 0 n) ≡ Some (i + 1)
  first_number_some i h t f =
      first_place_some test 0 (range_with_len 0 n) i (omega (arith, length-range_with_len 0 n)) (ap test (at_number i h) ∙ t)
      (λ k l. ap test (at_number k (omega arith)) ∙ f k l)

  pub first_number_none : ((k : ℕ) → k < n → test k ≡ false) → first_place test (range_with_len 0 n) ≡ None
  first_number_none f =
      first_place_none test 0 (range_with_len 0 n)
      (λ k l. let h : k < n = omega (arith, length-range_with_len 0 n) in ap test (at_number k h) ∙ f k h)

  pub no_number_passes : first_place test (range_with_len 0 n) ≡ None → (k : ℕ) → k < n → test k ≡ false
  no_number_passes e k h = sym (ap test (at_number k h)) ∙ none_passes test 0 (range_with_len 0 n) e k (omega (arith, length-range_with_len 0 n))

-- the place is one more than the position

module _ {A : Type 0} (test : A → Bool) where
  place_from : (i : ℕ) (xs : List A) → option_map (λ k. k + i) (first_place test xs) ≡ option_map (λ k. k + 1) (position_from test i xs)
  place_from i [] = refl
  place_from i (x ∷ xs) = by (test x) (place_from (i + 1) xs)
    where
      further : (o : Option ℕ) → option_map (λ k. k + i) (option_map (λ k. k + 1) o) ≡ option_map (λ k. k + (i + 1)) o
      further None = refl
      further (Some k) = let e : k + 1 + i ≡ k + (i + 1) = omega arith in ap (λ (n : ℕ). Some n) e

      by : (b : Bool) → option_map (λ k. k + (i + 1)) (first_place test xs) ≡ option_map (λ k. k + 1) (position_from test (i + 1) xs)
          → option_map (λ k. k + i) (cond b (Some 1) (option_map (λ k. k + 1) (first_place test xs))) ≡ option_map (λ k. k + 1) (cond b (Some i) (position_from test (i + 1) xs))
      by true ih = let e : 1 + i ≡ i + 1 = omega arith in ap (λ (n : ℕ). Some n) e
      by false ih = further (first_place test xs) ∙ ih

  pub place_of : (xs : List A) (at : Option ℕ) → position test xs ≡ at → first_place test xs ≡ option_map (λ k. k + 1) at
  place_of xs at e = unmoved (first_place test xs) ∙ place_from 0 xs ∙ ap (option_map (λ (k : ℕ). k + 1)) (sym (position_from-zero test xs) ∙ e)
    where
      unmoved : (o : Option ℕ) → o ≡ option_map (λ k. k + 0) o
      unmoved None = refl
      unmoved (Some k) = let e : k ≡ k + 0 = omega arith in ap (λ (n : ℕ). Some n) e

-- ---- a test whose answer may be left open

module _ {A : Type 0} (may : A → Bool → Type 0) where
  -- what the library says of `position`, as a place
  pub first_of_position : (xs : List A) (at place : Option ℕ)
      → MatchOption at (AllWithin (λ x. may x false) xs 0 (length xs)) (λ i. (i < length xs) × HoldsAt (λ x. may x true) xs i × AllWithin (λ x. may x false) xs 0 i)
      → place ≡ option_map (λ k. k + 1) at → FirstPassing may xs place
  first_of_position xs None place all e = rw e (record { first = λ k d h. all k d (omega arith) h })
  first_of_position xs (Some i) place first e =
      let same : i + 1 - 1 ≡ i = omega arith in
      rw e (record { first = rw same (omega arith, omega arith, first.1, first.2) })

-- if its answers are determined after all, the place is that of the first element that passes
pub passing_first : {A : Type 0} (may : A → Bool → Type 0) (test : A → Bool) (xs : List A) (place : Option ℕ) → FirstPassing may xs place → ((x : A) (b : Bool) → may x b → b ≡ test x)
    → place ≡ first_place test xs
passing_first may test [] None f sure = refl
passing_first may test [] (Some place) f sure = absurd (omega (arith, f.first))
passing_first may test (x ∷ xs) None f sure = sym (first_place_none test x (x ∷ xs) (λ k h. sym (sure _ _ (f.first k x h))))
passing_first may test (x ∷ xs) (Some place) f sure =
    let same : place - 1 + 1 ≡ place = omega (arith, f.first) in
    sym (first_place_some test x (x ∷ xs) (place - 1) (omega (arith, f.first)) (sym (sure _ _ (f.first.2 x))) (λ k h. sym (sure _ _ (f.first.3 k x (omega arith) h))) ∙ ap (λ (k : ℕ). Some k) same)
