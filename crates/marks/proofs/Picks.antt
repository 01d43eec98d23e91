-- The marks that pass a test, as a set.
use Rattle.std.proofs.Common.{◌≡◌, ℕ, zero, suc, ◌+◌, ◌^◌, ◌<◌, Bool, true, false, cond, ◌&&◌, ◌||◌, eqb, ltb, refl, ap, ◌∙◌, subst, ⊎_elim, add-one, arith}
use Rattle.std.proofs.lemmas.Bool.{lt-ltb, le-ltb, eq-eqb, ne_eqb, cases_eq, cases_lt}
use Rattle.std.proofs.lemmas.Bool.Decides.{nat_tests}
use Rattle.marks.specs.Sets.{has, with_bit, picked}
use Rattle.marks.proofs.Algebra.{below_from_has}
use Rattle.marks.specs.Members.{has_none, has_past}
use Rattle.marks.specs.Parts.{has_with, same_members}

module _ (test : ℕ → Bool) where
  pub picked_start : picked test 0 ≡ 0
  unfolding picked
  picked_start = refl

  pub picked_more : (n : ℕ) → picked test (n + 1) ≡ cond (test n) (with_bit (picked test n) n) (picked test n)
  unfolding picked
  picked_more n = ap (picked test) (add-one n)

  pub has_picked : (n b : ℕ) → has (picked test n) b ≡ (ltb b n && test b)
  unfolding picked
  has_picked zero b = has_none b ∙ grind (arith, nat_tests)
  has_picked (suc n) b = by (test n) refl (has_picked n b)
    where
      by : (t : Bool) → test n ≡ t → has (picked test n) b ≡ (ltb b n && test b)
          → has (cond t (with_bit (picked test n) n) (picked test n)) b ≡ (ltb b (suc n) && test b)
      by true e ih = has_with (picked test n) n b ∙ ⊎_elim here (λ d. let l : ltb b (suc n) ≡ ltb b n = grind (arith, nat_tests) in rw (ih, ne_eqb n b d, l) (grind arith)) (cases_eq n b)
        where
          here : n ≡ b → (has (picked test n) b || eqb n b) ≡ (ltb b (suc n) && test b)
          here d = let t : test b ≡ true = subst (λ i. test i ≡ true) d e in rw (eq-eqb n b d, t, lt-ltb b (suc n) (omega arith)) (grind arith)
      by false e ih = ih ∙ ⊎_elim here (λ d. let l : ltb b (suc n) ≡ ltb b n = grind (arith, nat_tests) in rw l) (cases_eq n b)
        where
          here : n ≡ b → (ltb b n && test b) ≡ (ltb b (suc n) && test b)
          here d = let t : test b ≡ false = subst (λ i. test i ≡ false) d e in rw t (grind arith)

-- two tests that agree below n pick the same
pub picked_same : (f g : ℕ → Bool) (n : ℕ) → ((b : ℕ) → b < n → f b ≡ g b) → picked f n ≡ picked g n
picked_same f g n e = same_members (picked f n) (picked g n) at
  where
    at : (b : ℕ) → has (picked f n) b ≡ has (picked g n) b
    at b = ⊎_elim (λ h. rw (has_picked f n b, has_picked g n b, e b h)) (λ h. rw (has_picked f n b, has_picked g n b, le-ltb b n h)) (cases_lt b n)

-- none is at n or above
pub picked_below : (test : ℕ → Bool) (n : ℕ) → picked test n < 2 ^ n
picked_below test n = below_from_has n (picked test n) (λ b h. has_picked test n b ∙ grind (arith, nat_tests))

-- where none passes, none is picked
pub picked_empty : (test : ℕ → Bool) (n : ℕ) → ((b : ℕ) → b < n → test b ≡ false) → picked test n ≡ 0
picked_empty test n e = same_members (picked test n) 0 at
  where
    at : (b : ℕ) → has (picked test n) b ≡ has 0 b
    at b =
        ⊎_elim (λ h. rw (has_picked test n b, e b h, has_none b) (grind arith)) (λ h. rw (has_picked test n b, le-ltb b n h, has_none b))
        (cases_lt b n)

-- a set is what is picked of its own marks
pub picked_own : (s n : ℕ) → s < 2 ^ n → picked (has s) n ≡ s
picked_own s n l = same_members (picked (has s) n) s at
  where
    at : (b : ℕ) → has (picked (has s) n) b ≡ has s b
    at b =
        ⊎_elim (λ h. rw (has_picked (has s) n b, lt-ltb b n h)) (λ h. rw (has_picked (has s) n b, le-ltb b n h, has_past n s b l h))
        (cases_lt b n)
