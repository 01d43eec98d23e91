-- Whether a number stands in a list.
use Rattle.std.proofs.Common.{◌≡◌, ℕ, suc, ◌+◌, ◌<◌, length, take, get_or, subst, add-zero, Bool, true, false, cond, ◌||◌, eqb, List, [], ◌∷◌, Some, None, is_some, Option, refl, ap₂, ◌∙◌, arith}
use Rattle.std.specs.List.{list_any, enumerate_from, range_with_len}
use Rattle.std.specs.Option.{option_map}
use Rattle.std.proofs.lemmas.Bool.Decides.{nat_tests}
use Rattle.marks.specs.Places.{first_place}
use Rattle.tables.specs.Layers.{occurs, repeats}

eqb_swapped : (x y : ℕ) → eqb y x ≡ eqb x y
eqb_swapped x y = grind (arith, nat_tests)

pub occurs_any : (x : ℕ) (list : List ℕ) → list_any (λ y. eqb y x) list ≡ occurs x list
occurs_any x [] = refl
occurs_any x (y ∷ list) = ap₂ (λ a b. a || b) (eqb_swapped x y) (occurs_any x list) ∙ by (eqb x y) (first_place (eqb x) list)
  where
    by : (here : Bool) (rest : Option ℕ) → (here || is_some rest) ≡ is_some (cond here (Some 1) (option_map (λ k. k + 1) rest))
    by true rest = refl
    by false None = refl
    by false (Some k) = refl

-- the place of the first element that passes with its index is that of the first index that passes
numbered : (again : ℕ × ℕ → Bool) (test : ℕ → Bool) (i : ℕ) (list : List ℕ) → ((k : ℕ) → k < length list → again (i + k, get_or list k 0) ≡ test (i + k))
    → first_place again (enumerate_from i list) ≡ first_place test (range_with_len i (length list))
numbered again test i [] f = refl
numbered again test i (x ∷ list) f =
    ap₂ (λ (b : Bool) (o : Option ℕ). cond b (Some 1) (option_map (λ k. k + 1) o)) (rw add-zero at (f 0 (omega arith)))
    (numbered again test (i + 1) list
    (λ k h. let e : i + suc k ≡ i + 1 + k = omega arith in subst (λ (j : ℕ). again (j, get_or list k 0) ≡ test j) e (f (suc k) (omega arith))))

-- so the first number that stands before it too is found by looking for each among those before it
pub repeat_place : (numbers : List ℕ) → first_place (λ (p : ℕ × ℕ). list_any (λ y. eqb y p.1) (take p.0 numbers)) (enumerate_from 0 numbers) ≡ first_place (repeats numbers) (range_with_len 0 (length numbers))
repeat_place numbers =
    numbered (λ (p : ℕ × ℕ). list_any (λ y. eqb y p.1) (take p.0 numbers)) (repeats numbers) 0 numbers
    (λ k h. let e : 0 + k ≡ k = omega arith in rw e (occurs_any (get_or numbers k 0) (take k numbers)))
