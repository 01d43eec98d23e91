-- Places in a list, which count from 1.
use Rattle.std.specs.Prelude.{ℕ, ◌+◌, ◌-◌, ◌≤◌, Bool, true, false, cond, List, [], ◌∷◌, length, Some, None, Option, MatchOption}
use Rattle.std.specs.List.{All, AllWithin, HoldsAt}
use Rattle.std.specs.Option.{option_map}

-- the place of the first element that passes the test, if one does
abbrev pub first_place : {A : Type 0} → (A → Bool) → List A → Option ℕ
first_place test [] = None
first_place test (x ∷ xs) = cond (test x) (Some 1) (option_map (λ k. k + 1) (first_place test xs))

-- The same for a test whose answer may be left open, `may x b` saying that it may answer b of x: the element at the place may pass, and each before it may fail; where there is
-- no place, each may fail.
pub record FirstPassing {A : Type 0} (may : A → Bool → Type 0) (list : List A) (result : Option ℕ) : Type 0 where
  pub first : MatchOption result (All (λ x. may x false) list)
      (λ place. (1 ≤ place) × (place ≤ length list) × HoldsAt (λ x. may x true) list (place - 1) × AllWithin (λ x. may x false) list 0 (place - 1))
