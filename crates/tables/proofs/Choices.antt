-- When a choice is refused, and how long one is that is not.
use Rattle.std.proofs.Common.{◌≡◌, ℕ, zero, suc, ◌-◌, ◌<◌, ◌≤◌, Bool, true, false, cond, ◌⊎◌, List, length, get_or, take, is_some, eqb, ltb, leb, ◌≢◌, Some, None, Option, sym, refl, ap, ◌∙◌, inl, inr, arith}
use Rattle.std.specs.List.{range_with_len}
use Rattle.std.proofs.lemmas.List.{get_or-take, length-take}
use Rattle.std.proofs.lemmas.Bool.{cases_lt, eq-eqb, ne_eqb, lt-ltb, le-ltb, both_ways, not-false, and_parts, leb-true, eqb-false}
use Rattle.marks.specs.declared.refusal.Reason.TheVariants.{Range, BadChoice}
use Rattle.marks.specs.Numbers.{most_marks, InRange, in_range}
use Rattle.marks.specs.Places.{first_place}
use Rattle.marks.specs.Refusals.{placed_at}
use Rattle.marks.proofs.Places.{none_passes, no_number_passes}
use Rattle.tables.specs.Layers.{outside, repeats, choice_refusal}

-- ---- what is refused

module _ (numbers : List ℕ) where
  pub refused_range : (place : ℕ) → first_place outside numbers ≡ Some place → choice_refusal numbers ≡ Some (placed_at Range place)
  unfolding choice_refusal
  refused_range place e = rw e

  module _ (marks : first_place outside numbers ≡ None) where
    pub refused_empty : length numbers ≡ 0 → choice_refusal numbers ≡ Some (placed_at BadChoice 1)
    unfolding choice_refusal
    refused_empty e = rw (marks, eq-eqb (length numbers) 0 e)

    module _ (some : length numbers ≡ 0 → ⊥) where
      pub refused_repeat : (place : ℕ) → first_place (repeats numbers) (range_with_len 0 (length numbers)) ≡ Some place → choice_refusal numbers ≡ Some (placed_at BadChoice place)
      unfolding choice_refusal
      refused_repeat place e = rw (marks, ne_eqb (length numbers) 0 some, e)

      pub accepted : first_place (repeats numbers) (range_with_len 0 (length numbers)) ≡ None → choice_refusal numbers ≡ None
      unfolding choice_refusal
      accepted e = rw (marks, ne_eqb (length numbers) 0 some, e)

-- ---- an accepted list has at most as many entries as there are marks

-- each is a mark
pub inside : (numbers : List ℕ) → first_place outside numbers ≡ None → (k : ℕ) → k < length numbers → InRange most_marks (get_or numbers k 0)
inside numbers e k h =
    let x = get_or numbers k 0 in
    let both = and_parts (leb 1 x) (leb x most_marks) (not-false (in_range most_marks x) (none_passes outside 0 numbers e k h)) in
    (leb-true 1 x both.0, leb-true x most_marks both.1)

-- and none is one before it
apart : (numbers : List ℕ) → first_place (repeats numbers) (range_with_len 0 (length numbers)) ≡ None → (i j : ℕ) → i < j → j < length numbers
    → get_or numbers i 0 ≢ get_or numbers j 0
apart numbers e i j l h same =
    let none = absent (first_place (eqb (get_or numbers j 0)) (take j numbers)) (no_number_passes (repeats numbers) (length numbers) e j h) in
    let other = none_passes (eqb (get_or numbers j 0)) 0 (take j numbers) none i (omega (arith, length-take j numbers)) in
    eqb-false (get_or numbers j 0) (get_or (take j numbers) i 0) other (sym (get_or-take j numbers i 0 l ∙ same))
  where
    absent : (o : Option ℕ) → is_some o ≡ false → o ≡ None
    absent None e = refl
    absent (Some x) e = absurd (both_ways true e refl)

-- n + 1 numbers below n are not all different
shifted : ℕ → ℕ → ℕ
shifted v x = cond (ltb v x) (x - 1) x

shifted_is : (v x : ℕ) → ((v < x) × (shifted v x ≡ x - 1)) ⊎ ((x ≤ v) × (shifted v x ≡ x))
unfolding shifted
shifted_is v x =
    elim (cases_lt v x) [
      | inl h ↦ inl (h, ap (λ (t : Bool). cond t (x - 1) x) (lt-ltb v x h))
      | inr h ↦ inr (h, ap (λ (t : Bool). cond t (x - 1) x) (le-ltb v x h))
    ]

pigeons : (n : ℕ) (f : ℕ → ℕ) → ((i : ℕ) → i ≤ n → f i < n) → ((i j : ℕ) → i < j → j ≤ n → f i ≢ f j) → ⊥
pigeons zero f r d = let h : f 0 < 0 = r 0 (omega arith) in omega arith
pigeons (suc n) f r d =
    let v = f (suc n) in
    let top : v < suc n = r (suc n) (omega arith) in
    pigeons n (λ i. shifted v (f i))
    (λ i l.
    let q : f i < suc n = r i (omega arith) in
    let ne : f i ≡ v → ⊥ = d i (suc n) (omega arith) (omega arith) in
    elim (shifted_is v (f i)) [ inl h ↦ omega arith | inr h ↦ omega arith ])
    (λ i j l m e.
    let ni : f i ≡ v → ⊥ = d i (suc n) (omega arith) (omega arith) in
    let nj : f j ≡ v → ⊥ = d j (suc n) (omega arith) (omega arith) in
    let nij : f i ≡ f j → ⊥ = d i j l (omega arith) in
    elim (shifted_is v (f i)) [
      | inl h ↦ elim (shifted_is v (f j)) [ inl k ↦ omega arith | inr k ↦ omega arith ]
      | inr h ↦ elim (shifted_is v (f j)) [ inl k ↦ omega arith | inr k ↦ omega arith ]
    ])

pub at_most : (numbers : List ℕ) → first_place outside numbers ≡ None → first_place (repeats numbers) (range_with_len 0 (length numbers)) ≡ None
    → length numbers ≤ most_marks
at_most numbers marks different =
    elim (cases_lt most_marks (length numbers)) [
      | inl h ↦ absurd (pigeons most_marks (λ i. get_or numbers i 0 - 1)
          (λ i l. let q = inside numbers marks i (omega arith) in omega (arith, q.0, q.1))
          (λ i j l m e. apart numbers different i j l (omega arith)
          (let p = inside numbers marks i (omega arith) in let q = inside numbers marks j (omega arith) in omega (arith, p.0, q.0))))
      | inr h ↦ h
    ]
