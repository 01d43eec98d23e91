-- Sums of weights over the marks of a set.
use Rattle.std.specs.Prelude.{◌≡◌, ℕ, zero, suc, ◌+◌, ◌*◌, ◌^◌, ◌<◌, ◌≤◌, Bool, true, false, cond, ◌⊎◌, ◌≢◌}
use Rattle.std.proofs.Math.Path.{refl, sym, ap, ap₂, subst}
use Rattle.std.proofs.Common.{◌∙◌, inl, inr}
use native.Mathlib.Omega.{arith}
use Rattle.std.proofs.lemmas.Bool.{eq-eqb, ne_eqb, cases_eq}
use Rattle.marks.specs.Sets.{has, without_bit}
use Rattle.marks.specs.Members.{has_none}
use Rattle.marks.specs.Parts.{has_without}
use Rattle.limits.specs.Limits.{weight_below}

module _ (weight : ℕ → ℕ) where
  pub weight_none : (n : ℕ) → weight_below weight n 0 ≡ 0
  unfolding weight_below
  weight_none zero = refl
  weight_none (suc n) = rw (has_none n, weight_none n)

  -- a sum has a bound if each weight has one
  pub weight_bound : (most : ℕ) → ((b : ℕ) → weight b ≤ most) → (n s : ℕ) → weight_below weight n s ≤ n * most
  unfolding weight_below
  weight_bound most each zero s = omega arith
  weight_bound most each (suc n) s = by (has s n) (weight_bound most each n s)
    where
      by : (b : Bool) → weight_below weight n s ≤ n * most → weight_below weight n s + cond b (weight n) 0 ≤ suc n * most
      by true h = omega (arith, each n)
      by false h = omega arith

  weight_same : (n x y : ℕ) → ((j : ℕ) → j < n → has x j ≡ has y j) → weight_below weight n x ≡ weight_below weight n y
  unfolding weight_below
  weight_same zero x y e = refl
  weight_same (suc n) x y e = ap₂ (λ a b. a + cond b (weight n) 0) (weight_same n x y (λ j h. e j (omega arith))) (e n (omega arith))

  -- a mark taken out takes its weight along
  pub weight_without : (n x b : ℕ) → x < 2 ^ 32 → b < 32 → has x b ≡ true → b < n → weight_below weight n x ≡ weight b + weight_below weight n (without_bit x b)
  unfolding weight_below
  weight_without zero x b fits low h l = absurd (omega arith)
  weight_without (suc n) x b fits low h l = by (cases_eq b n) (weight_without n x b fits low h)
    where
      by : (b ≡ n) ⊎ (b ≢ n) → (b < n → weight_below weight n x ≡ weight b + weight_below weight n (without_bit x b))
          → weight_below weight n x + cond (has x n) (weight n) 0 ≡ weight b + (weight_below weight n (without_bit x b) + cond (has (without_bit x b) n) (weight n) 0)
      by (inl e) ih =
          let rest : weight_below weight n x ≡ weight_below weight n (without_bit x b) =
          weight_same n x (without_bit x b) (λ j g. sym (has_without x b j fits low ∙ rw (ne_eqb b j (omega arith)) (grind arith))) in
          let here : has x n ≡ true = subst (λ i. has x i ≡ true) e h in
          let gone : has (without_bit x b) n ≡ false = has_without x b n fits low ∙ rw (here, eq-eqb b n e) in
          let own : weight n ≡ weight b = ap weight (sym e) in
          rw (here, gone) (omega arith)
      by (inr e) ih =
          let kept : has (without_bit x b) n ≡ has x n = has_without x b n fits low ∙ rw (ne_eqb b n e) (grind arith) in
          rw kept (omega (arith, ih (omega arith)))
